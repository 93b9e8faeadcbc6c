use Rattle.std.proofs.Common.{◌≡◌, map, take}
use Rattle.fa_core.specs.Dressed.{value_in}
use Rattle.fa_sample.proofs.sampling.target_values.Given as goal

abbrev pub invariant-loop-target : goal.invariant-loop-target
invariant-loop-target l = l.values ≡ map (value_in l.roots) (take l.target-index l.targets)
