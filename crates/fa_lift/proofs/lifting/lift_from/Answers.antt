use Rattle.std.proofs.Common.{inl, inr, sym, subst}
use Rattle.fore_base.proofs.ListLemmas.{every_append, in_at, in_push, take_item}
use Rattle.ta_core.specs.declared.auto.Rule.{Rule}
use Rattle.fa_sound.specs.Components.{component_at}
use Rattle.fa_lift.specs.Lift.{Owns}
use Rattle.fa_lift.specs.inner.Lifting.{HasLifts, IsLift}
use Rattle.fa_lift.proofs.LiftLists.{lifts_left, lifts_right}
use Rattle.fa_lift.proofs.lifting.lift_from.Goals as goal

pub lift_rule-requires-clause-rule : goal.lift_rule-requires-clause-rule
lift_rule-requires-clause-rule c =
    let i = in_at c.rules_of-rules.result.now c.loop-rule.rule-index c.rule-item.result c.loop-rule-test.true
    c.rule-item.is in
    rw (c.rules_of-rules.ensures, c.component-auto.ensures, c.forest.ensures) at i

pub loop-rule-preserved : goal.loop-rule-preserved
loop-rule-preserved c =
    let s = c.args.forest.now in
    let F = s.forest in
    let r = c.args.root in
    let f = c.args.field in
    let t = c.args.from in
    let a = component_at F.autos t in
    let rules = c.rules_of-rules.result.now in
    let e = take_item rules c.loop-rule.rule-index c.rule-item.result c.loop-rule-test.true c.rule-item.is in
    let inv = c.loop-rule.invariant in
    let made = c.loop-rule.made in
    let more = c.in_ok-more.more in
    rw (e, c.in_ok-append.ensures.ok) (
      every_append (IsLift s.face F r f t) made more inv.0 c.in_ok-more.ensures.each,
      (λ x p i own. elim (in_push c.rule-item.result x _ i) [
        | inl j ↦ lifts_left F r t x p made more (inv.1 x p j own)
        | inr k ↦ lifts_right F r t x p made more
            (subst (λ (o : Rule). HasLifts F r t o p more) (sym k)
            (c.in_ok-more.ensures.all p (subst (λ (o : Rule). Owns s.face.boxes r f a o p) k own)))
      ]),
    )
