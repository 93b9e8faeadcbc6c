use Rattle.std.proofs.Common.{◌∙◌, ℕ, arith, refl, sym, true≢false}
use Rattle.fa_merge.proofs.Named.{choice_long}
use Rattle.fa_part.specs.Ports.{ports_of}
use Rattle.fa_part.specs.inner.Found.{RefersInside}
use Rattle.fa_part.proofs.Sharing.{up_to}
use Rattle.fa_part.proofs.finding.is_alone.Goals as goal

pub returns-then-branch : goal.returns-then-branch
returns-then-branch c = λ ts h.
    let low = c.loop-root-test.true in
    let size = rw c.forest.ensures at c.in_ok-count.ensures.value in
    let long = choice_long c.args.forest.now.forest.autos ts h in (
      (λ t. absurd (true≢false (sym t))),
      (λ k. absurd (k c.loop-root.root (omega (arith, low, size, long))
          ((c.in_ok-refers_inside.ensures ts h).0 c.if-branch.true))),
    )

pub loop-root-preserved : goal.loop-root-preserved
loop-root-preserved c = λ ts h.
    up_to (λ (r : ℕ). RefersInside ts (ports_of c.args.ports.now) c.args.inner.now r → ⊥) c.loop-root.root
    (c.loop-root.invariant ts h)
    (λ k. true≢false (sym ((c.in_ok-refers_inside.ensures ts h).1 k) ∙ c.if-branch.false))

pub returns : goal.returns
returns c = λ ts h.
    let high = c.loop-root-test.false in
    let size = rw c.forest.ensures at c.in_ok-count.ensures.value in
    let long = choice_long c.args.forest.now.forest.autos ts h in (
      (λ t r l. c.loop-root.invariant ts h r (omega (arith, high, size, long, l))),
      (λ k. refl),
    )
