use Rattle.std.proofs.Common.{true≢false, sym, ap, ◌∙◌, take}
use Rattle.ta_core.specs.Auto.{Automaton}
use Rattle.fa_filling.proofs.Partition.{item_of, top_from, top_to, top_skip, top_add}
use Rattle.fa_filling.proofs.parts.top_rules.Goals as goal
use Rattle.fa_filling.proofs.parts.top_rules.Goals.{then-is_top_rule+in_ok-top+in_ok-push, else-is_top_rule}

pub loop-rule-preserved : goal.loop-rule-preserved
loop-rule-preserved c =
    let a : Automaton = c.args.auto.now in
    let x = c.rule-item.result in
    let done = take c.loop-rule.rule-index a.rules in
    let i = item_of _ a.rules c.loop-rule.rule-index x
    (c.as_slice-rule-items.ensures ∙ ap (λ (b : Automaton). b.rules) c.auto.view_is) c.loop-rule-test.true
    c.rule-item.is in
    let m = c.in_ok-marks.ensures in
    let t = rw (c.as_slice.ensures, c.as_slice-in-loop-rule.ensures ∙ ap (λ (b : Automaton). b.roots) c.auto.view_is) at
    c.is_top_rule.ensures in
    elim c.if-is_top_rule.branch [
      | then-is_top_rule+in_ok-top+in_ok-push w ↦ rw (i.0, w.tops-is, w.in_ok-push.ensures.ok, w.in_ok-top.ensures)
          (top_add a done c.loop-rule.tops x c.loop-rule.invariant i.1
          (top_from a c.in_ok-marks.marks m x (t.0 w.if-is_top_rule.true)))
      | else-is_top_rule w ↦ rw (i.0, w.tops-is)
          (top_skip a done c.loop-rule.tops x c.loop-rule.invariant
          (λ h. true≢false (sym (t.1 (top_to a c.in_ok-marks.marks m x h)) ∙ w.if-is_top_rule.false)))
    ]
