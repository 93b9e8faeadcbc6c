use Rattle.std.proofs.Common.{take}
use Rattle.fore_base.proofs.ListLemmas.{take_item}
use Rattle.fa_split.proofs.Steps.{leaves_stay, leaves_grow, cell_adds_none}
use Rattle.fa_split.proofs.ending.leaves_at.Goals as goal
use Rattle.fa_split.proofs.ending.leaves_at.Goals.{then-rule-state+in-Some+in_ok-add_leaf, then-rule-state+in_default}
use Rattle.fa_split.proofs.ending.leaves_at.Goals.{else-rule-state}

pub loop-rule-preserved : goal.loop-rule-preserved
loop-rule-preserved c =
    let rules = c.args.rules.now in
    let n = c.loop-rule.rule-index in
    let x = c.rule-item.result in
    let e = take_item rules n x c.loop-rule-test.true c.rule-item.is in
    elim c.if-rule-state.branch [
      | then-rule-state+in-Some+in_ok-add_leaf w ↦ rw (e, w.leaves-is)
          (leaves_grow c.args.state (take n rules) x c.loop-rule.leaves _ _ w.if-rule-state.true w.in-Some.ensures
          w.in_ok-add_leaf.ensures c.loop-rule.invariant)
      | then-rule-state+in_default w ↦ rw (e, w.leaves-is)
          (leaves_stay c.args.state (take n rules) x c.loop-rule.leaves
          (λ y s k. cell_adds_none c.args.state (take n rules) x w.in_default.ensures y s k) c.loop-rule.invariant)
      | else-rule-state w ↦ rw (e, w.leaves-is)
          (leaves_stay c.args.state (take n rules) x c.loop-rule.leaves (λ y s k. w.if-rule-state.false s)
          c.loop-rule.invariant)
    ]
