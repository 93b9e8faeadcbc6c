use Rattle.std.proofs.Common.{◌≡◌, drop}
use Rattle.fa_pool.specs.Looks.{with_targets}
use Rattle.fa_pool.proofs.looks.with_targets.Given as goal

abbrev pub invariant-loop-target : goal.invariant-loop-target
invariant-loop-target l = with_targets l.mix (drop l.target-index l.targets) ≡ with_targets l.key l.targets
