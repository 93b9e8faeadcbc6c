use Rattle.std.proofs.Common.{◌≡◌, ◌++◌, drop}
use Rattle.fa_core.specs.Canonical.{var_roots}
use Rattle.fa_merge.proofs.leaking.var_roots.Given as goal

abbrev pub invariant-loop-target : goal.invariant-loop-target
invariant-loop-target l = l.made ++ var_roots (drop l.target-index l.vars) ≡ var_roots l.vars
