use Rattle.std.proofs.Common.{◌<◌, ℕ, subst, sym}
use Rattle.fa_giving.proofs.Weights.{rule_taken}
use Rattle.fa_giving.proofs.worths.WeighingTakerListWorthRule.take.Goals as goal

pub take-requires : goal.take-requires
take-requires c = subst (λ (n : ℕ). c.args.rule.now.state < n) (sym c.requires.keeps.1) c.requires.accepts.1.0

pub returns : goal.returns
returns c =
    let w = c.args.self.now in
    let t = rule_taken w.boxes.now w.root w.field w.auto.now.rules w.auto.now.states c.args.rule.now c.args.table.now
    c.take.new.table c.take.result c.requires.accepts c.requires.keeps c.take.ensures in
    record { keeps = t.0; changes = t.1 }
