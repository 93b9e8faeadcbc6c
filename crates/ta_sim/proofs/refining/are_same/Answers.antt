use Rattle.std.proofs.Common.{rules}
use Rattle.std.specs.Cmp.Lexicographic.{pointwise_decides}
use Rattle.ta_sim.proofs.refining.are_same.Goals as goal

pub returns : goal.returns
returns c = let h = c.eq.ensures in
    rw h (pointwise_decides (λ x y. pointwise_decides (λ a b. search rules) x y) c.args.left.now c.args.right.now)
