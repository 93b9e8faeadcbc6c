use Rattle.std.proofs.Common.{take}
use Rattle.fore_base.proofs.ListLemmas.{take_item}
use Rattle.fa_giving.proofs.StructParts.{structs_more}
use Rattle.fa_giving.proofs.shapes.structs_of.Goals as goal

pub loop-rule-preserved : goal.loop-rule-preserved
loop-rule-preserved c =
    let e = take_item c.args.rules.now c.loop-rule.rule-index c.rule-item.result c.loop-rule-test.true c.rule-item.is in
    rw e (structs_more (take c.loop-rule.rule-index c.args.rules.now) c.rule-item.result c.loop-rule.structs
    c.add_struct.new.structs c.loop-rule.invariant c.in_ok-add_struct.ensures)
