use Rattle.std.proofs.Common.{ℕ, List, ◌++◌, ◌-◌, take, ap, ◌∙◌, arith, reverse}
use Rattle.fa_order.proofs.Weights.{reverse_last, step_down}
use Rattle.fa_order.proofs.walking.push_all.Goals as goal

pub loop-place-preserved : goal.loop-place-preserved
loop-place-preserved c = (
  (let l = c.loop-place.invariant.0 in omega (arith, l)),
  ap (λ (z : List ℕ). take (c.loop-place.place - 1) c.args.roots.now ++ reverse z) c.in_ok-push.ensures.ok
      ∙ ap (λ (z : List ℕ). take (c.loop-place.place - 1) c.args.roots.now ++ z) (reverse_last c.loop-place.stack _)
      ∙ step_down c.args.roots.now c.loop-place.place (reverse c.loop-place.stack) c.loop-place-test.true
      c.loop-place.invariant.0
      ∙ c.loop-place.invariant.1,
)
