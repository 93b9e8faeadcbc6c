use Rattle.std.proofs.Common.{List, subst, take, arith}
use Rattle.std.proofs.lemmas.List.{take_all}
use Rattle.fore_base.proofs.ListLemmas.{in_at, take_item}
use Rattle.ta_core.specs.declared.auto.Rule.{Rule}
use Rattle.fa_unfold.proofs.EdgeSlots.{HasNoLeaf, cell_more, other_more}
use Rattle.fa_unfold.proofs.edges.first_leaf.Goals as goal
use Rattle.fa_unfold.proofs.edges.first_leaf.Goals.{then-rule-state+in_default, else-rule-state}

pub loop-rule-preserved : goal.loop-rule-preserved
loop-rule-preserved c =
    let rules = c.args.rules.now in
    let n = c.loop-rule.rule-index in
    let x = c.rule-item.result in
    let e = take_item rules n x c.loop-rule-test.true c.rule-item.is in
    elim c.if-rule-state.branch [
      | then-rule-state+in_default w ↦ rw e
          (cell_more (take n rules) x c.args.state c.loop-rule.invariant w.in_default.ensures)
      | else-rule-state w ↦ rw e
          (other_more (take n rules) x c.args.state c.loop-rule.invariant w.if-rule-state.false)
    ]

pub returns-in-Some : goal.returns-in-Some
returns-in-Some c = (
  c.rule-item.result,
  in_at c.args.rules.now c.loop-rule.rule-index c.rule-item.result c.loop-rule-test.true c.rule-item.is,
  c.if-rule-state.true,
  c.in-Some.ensures,
)

pub returns : goal.returns
returns c =
    let past = c.loop-rule-test.false in
    subst (λ (xs : List Rule). HasNoLeaf xs c.args.state)
    (take_all c.loop-rule.rule-index c.args.rules.now (omega (arith, past))) c.loop-rule.invariant
