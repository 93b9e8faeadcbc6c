use Rattle.std.proofs.Common.{◌≡◌, ◌∙◌, ℕ, List, sym, take, true≢false, subst, ◌↔◌}
use Rattle.std.proofs.lemmas.List.{take_all}
use Rattle.std.proofs.lemmas.Result.{IfOk-weaker}
use Rattle.fore_base.specs.Lists.{IsIn}
use Rattle.fore_base.proofs.ListLemmas.{take_item}
use Rattle.ta_core.specs.declared.auto.Rule.{Rule}
use Rattle.fa_core.specs.Folding.{ArePortFields}
use Rattle.fa_core.specs.Rearranged.{in_order}
use Rattle.fa_part.specs.inner.Added.{CoveredBy}
use Rattle.fa_part.proofs.PortCovers.{none_covered, one_covered, none_more, port_fields}
use Rattle.fa_part.proofs.fields.port_fields.Goals as goal
use Rattle.fa_part.proofs.fields.port_fields.Goals.{then-stands_at_top+in_ok-add_covered, else-stands_at_top}

pub loop-rule-init : goal.loop-rule-init
loop-rule-init c = rw c.new-fields.ensures (tt, none_covered c.args.boxes.now c.args.auto.now)

pub loop-rule-preserved : goal.loop-rule-preserved
loop-rule-preserved c =
    let rules = c.rules_of-rule-items.result.now in
    let done = take c.loop-rule.rule-index rules in
    let e = take_item rules c.loop-rule.rule-index c.rule-item.result c.loop-rule-test.true c.rule-item.is in
    elim c.if-stands_at_top.branch [
      | then-stands_at_top+in_ok-add_covered w ↦ rw (e, w.fields-is) (
        w.in_ok-add_covered.ensures.once c.loop-rule.invariant.0,
        one_covered c.args.boxes.now c.args.auto.now done c.rule-item.result c.loop-rule.fields _
            (c.stands_at_top.ensures.0 w.if-stands_at_top.true) w.in_ok-add_covered.ensures c.loop-rule.invariant.1,
      )
      | else-stands_at_top w ↦ rw (e, w.fields-is) (
        c.loop-rule.invariant.0,
        none_more c.args.boxes.now c.args.auto.now done c.rule-item.result c.loop-rule.fields
            (λ h. true≢false (sym (c.stands_at_top.ensures.1 h) ∙ w.if-stands_at_top.false)) c.loop-rule.invariant.1,
      )
    ]

pub returns : goal.returns
returns c =
    let a = c.args.auto.now in
    let all = take_all c.loop-rule.rule-index c.rules_of-rule-items.result.now c.loop-rule-test.false
    ∙ c.rules_of-rule-items.ensures in
    let covered = subst
    (λ (rs : List Rule). (f : ℕ) → IsIn f c.loop-rule.fields ↔ CoveredBy c.args.boxes.now a rs f) all
    c.loop-rule.invariant.1 in
    IfOk-weaker c.in_order.result (λ (made : List ℕ). made ≡ in_order c.loop-rule.fields)
    (ArePortFields c.args.boxes.now a)
    (λ made e. rw e (port_fields c.args.boxes.now a c.loop-rule.fields c.loop-rule.invariant.0 covered))
    (rw c.as_slice-2.ensures at c.in_order.ensures)
