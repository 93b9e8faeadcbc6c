use Rattle.std.proofs.Common.{rules}
use Rattle.std.specs.Cmp.Lexicographic.{pointwise_decides}
use Rattle.fa_core.proofs.forest.are_same_data.Goals as goal

pub returns : goal.returns
returns c = let h = c.eq.ensures in rw h (pointwise_decides (λ x y. search rules) c.args.left.now c.args.right.now)
