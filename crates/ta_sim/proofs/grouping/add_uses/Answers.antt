use Rattle.std.proofs.Common.{◌≡◌, ◌<◌, ◌++◌, ℕ, ap, length, length-set, subst, ◌∙◌, arith}
use Rattle.ta_sim.specs.inner.Using.{AreGroupedUses, uses_below}
use Rattle.ta_sim.proofs.Uses.{uses_more}
use Rattle.ta_sim.proofs.grouping.add_uses.Goals as goal

pub loop-place-preserved : goal.loop-place-preserved
loop-place-preserved c =
    let r = c.args.rule.now in
    let long = ap length c.as_slice-child-items.ensures in
    let low : c.loop-place.place < length r.children = omega (arith, long, c.loop-place-test.true) in
    let e = rw (c.as_slice-child-items.ensures, c.in_ok-copy.ensures) at c.in_ok-add.ensures in (
      ap length e ∙ length-set c.loop-place.groups _ _ ∙ c.loop-place.invariant.0,
      λ before h. rw e (uses_more before r c.args._states c.loop-place.place c.loop-place.groups low c.requires.low
          (c.loop-place.invariant.1 before h)),
    )

pub returns : goal.returns
returns c = λ before h.
    let long = ap length c.as_slice-child-items.ensures in
    let e : c.loop-place.place ≡ length c.args.rule.now.children =
    omega (arith, long, c.loop-place-test.false, c.loop-place.auto.place-end) in
    subst (λ (k : ℕ). AreGroupedUses (before ++ uses_below c.args.rule.now k) c.args._states c.loop-place.groups) e
    (c.loop-place.invariant.1 before h)
