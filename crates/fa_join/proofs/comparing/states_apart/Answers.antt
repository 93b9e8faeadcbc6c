use Rattle.std.proofs.Common.{◌≡◌, ◌<◌, ◌+◌, ℕ, length, slice_index_or, sym, subst, arith}
use Rattle.fa_join.specs.Joinable.{SameRuns}
use Rattle.fa_join.specs.declared.comparing.Apart.{Apart}
use Rattle.fa_join.specs.inner.Apart.{IsApart}
use Rattle.fa_split.proofs.RunPlaces.{at_index}
use Rattle.fa_join.proofs.Deciding.{apart_step, apart_more}
use Rattle.fa_join.proofs.comparing.states_apart.Goals as goal

pub loop-place-init : goal.loop-place-init
loop-place-init c = λ i l. absurd (omega (arith, l))

pub loop-place-preserved : goal.loop-place-preserved
loop-place-preserved c =
    let n = c.loop-place.place in
    let less = subst (λ (m : ℕ). n < m) c.requires.long c.loop-place-test.true in
    let x = at_index c.args.from.now n c.loop-place-test.true in
    let y = at_index c.args.to.now n less in
    let next =
    subst
    (λ (z : Apart). IsApart (SameRuns c.args.left.now c.args.right.now) c.args.from.now c.args.to.now (n + 1) z)
    (sym c.with_place-found.ensures)
    (apart_step (SameRuns c.args.left.now c.args.right.now) c.args.from.now c.args.to.now n
    (slice_index_or c.args.from.now n 0) (slice_index_or c.args.to.now n 0) c.loop-place.found
    c.in_ok-is_same.is_same x y c.in_ok-is_same.ensures c.loop-place.invariant) in
    next

pub returns-then-is_more : goal.returns-then-is_more
returns-then-is_more c =
    let n = c.loop-place.place in
    let less = subst (λ (m : ℕ). n < m) c.requires.long c.loop-place-test.true in
    let x = at_index c.args.from.now n c.loop-place-test.true in
    let y = at_index c.args.to.now n less in
    let next =
    subst
    (λ (z : Apart). IsApart (SameRuns c.args.left.now c.args.right.now) c.args.from.now c.args.to.now (n + 1) z)
    (sym c.with_place-found.ensures)
    (apart_step (SameRuns c.args.left.now c.args.right.now) c.args.from.now c.args.to.now n
    (slice_index_or c.args.from.now n 0) (slice_index_or c.args.to.now n 0) c.loop-place.found
    c.in_ok-is_same.is_same x y c.in_ok-is_same.ensures c.loop-place.invariant) in
    apart_more (SameRuns c.args.left.now c.args.right.now) c.args.from.now c.args.to.now (n + 1)
    (length c.args.from.now) c.with_place-found.result (c.is_more.ensures.0 c.if-is_more.true) next

pub returns : goal.returns
returns c =
    let e : c.loop-place.place ≡ length c.args.from.now =
    omega (arith, c.loop-place.auto.place-end, c.loop-place-test.false) in
    subst
    (λ (m : ℕ). IsApart (SameRuns c.args.left.now c.args.right.now) c.args.from.now c.args.to.now m
    c.loop-place.found) e c.loop-place.invariant
