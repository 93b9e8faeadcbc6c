use Rattle.std.proofs.Common.{◌<◌, sym, ◌∙◌, true≢false}
use Rattle.ta_core.specs.declared.auto.Rule.{Rule}
use Rattle.fore_base.proofs.ListLemmas.{every_at, take_item}
use Rattle.ta_core.proofs.Tops.{tops_skip, tops_mark}
use Rattle.ta_core.proofs.accepting.top_states.Goals as goal
use Rattle.ta_core.proofs.accepting.top_states.Goals.{then-is_top, else-is_top}

pub loop-rule-preserved : goal.loop-rule-preserved
loop-rule-preserved c =
    let e = take_item c.args.rules.now c.loop-rule.rule-index c.rule-item.result c.loop-rule-test.true c.rule-item.is in
    rw e (elim c.if-is_top.branch [
      | then-is_top w ↦ rw (w.marks-is, w.mark.ensures)
          (tops_mark _ _ _ _ _ _ c.loop-rule.invariant
          (every_at (λ (r : Rule). r.state < c.args.states) _ _ _ c.requires c.loop-rule-test.true c.rule-item.is)
          (c.is_top.ensures.0 w.if-is_top.true))
      | else-is_top w ↦ rw w.marks-is
          (tops_skip _ _ _ _ _ _ c.loop-rule.invariant
          (λ f. true≢false (sym (c.is_top.ensures.1 f) ∙ w.if-is_top.false)))
    ])
