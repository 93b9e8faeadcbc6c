use Rattle.std.proofs.Common.{◌↔◌, drop}
use Rattle.fore_base.specs.Lists.{IsIn}
use Rattle.fa_core.specs.declared.forest.Target.TheVariants.{At}
use Rattle.fa_merge.proofs.counting.is_target.Given as goal

abbrev pub invariant-loop-target : goal.invariant-loop-target
invariant-loop-target l = IsIn (At l.root) (drop l.target-index l.vars) ↔ IsIn (At l.root) l.vars
