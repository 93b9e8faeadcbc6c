use Rattle.fa_boxes.proofs.AllSeen.{rule_taken}
use Rattle.fa_boxes.proofs.seeing.LearningTakerListOptionSeenRule.take.Goals as goal

pub returns : goal.returns
returns c =
    let l = c.args.self.now in
    let t = rule_taken l.boxes.now l.rules.now l.states c.args.rule.now c.args.table.now c.learn_rule.new.table
    c.in_ok-added.added c.requires.accepts c.requires.keeps c.in_ok-added.ensures in
    record { keeps = t.0; changes = t.1 }
