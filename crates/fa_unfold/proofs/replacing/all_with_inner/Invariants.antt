use Rattle.std.proofs.Common.{◌≡◌, map, take}
use Rattle.fa_unfold.specs.Unfolding.{with_inner}
use Rattle.fa_unfold.proofs.replacing.all_with_inner.Given as goal

abbrev pub invariant-loop-forest : goal.invariant-loop-forest
invariant-loop-forest l = l.made ≡ map (with_inner l.inner) (take l.forest-index l.forests)
