use Rattle.std.proofs.Common.{◌≡◌, ◌+◌, ◌-◌, ◌<◌, length, true≢false, sym, ◌∙◌, arith}
use Rattle.std.proofs.Math.Seq.{drop-length}
use Rattle.ta_reduce.proofs.Thinning.{thinned_none, skip_here, push_here}
use Rattle.ta_reduce.proofs.dropping.thinned.Goals as goal

pub loop-place-init : goal.loop-place-init
loop-place-init c =
    (omega arith, rw (drop-length c.args.rules.now, c.new-made.ensures) (thinned_none c.args.relation.now))

pub loop-place-preserved-in_ok-push : goal.loop-place-preserved-in_ok-push
loop-place-preserved-in_ok-push c =
    let l = c.loop-place.invariant.0 in
    let here : c.loop-place.place - 1 < length c.args.rules.now = omega (arith, l, c.loop-place-test.true) in
    let next : c.loop-place.place - 1 + 1 ≡ c.loop-place.place = omega (arith, c.loop-place-test.true) in (
      omega (arith, l),
      rw (c.in_ok-push.ensures.ok, c.in_ok-copy.ensures)
          (push_here c.args.relation.now c.args.rules.now c.loop-place.made (c.loop-place.place - 1) c.loop-place.place
          c.index-rules-place.result here c.index-rules-place.is next c.loop-place.invariant.1
          (λ m. true≢false (sym (c.has_match.ensures.1 (rw c.as_slice.ensures m)) ∙ c.if-not-has_match.true))
          c.requires),
    )

pub loop-place-preserved : goal.loop-place-preserved
loop-place-preserved c =
    let l = c.loop-place.invariant.0 in
    let here : c.loop-place.place - 1 < length c.args.rules.now = omega (arith, l, c.loop-place-test.true) in
    let next : c.loop-place.place - 1 + 1 ≡ c.loop-place.place = omega (arith, c.loop-place-test.true) in
    let m = rw c.as_slice.ensures at (c.has_match.ensures.0 c.if-not-has_match.false) in (
      omega (arith, l),
      skip_here c.args.relation.now c.args.rules.now c.loop-place.made (c.loop-place.place - 1)
          c.loop-place.place c.index-rules-place.result here c.index-rules-place.is next c.loop-place.invariant.1 m,
    )
