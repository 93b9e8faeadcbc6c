use Rattle.ta_core.proofs.Sizing.{rule_taken}
use Rattle.ta_core.proofs.sizes.ImprovingTakerListOptionU64Rule.take.Goals as goal

pub returns : goal.returns
returns c =
    let i = c.args.self.now in
    let t = rule_taken i.rules.now i.states c.args.rule.now c.args.sizes.now c.improve.new.sizes c.improve.result
    c.requires.accepts c.requires.keeps c.improve.ensures in
    record { keeps = t.0; changes = t.1 }
