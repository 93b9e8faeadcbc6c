use Rattle.std.proofs.Common.{take}
use Rattle.fore_base.specs.Lists.{Every}
use Rattle.fa_part.specs.inner.Found.{IsNotAt}
use Rattle.fa_part.proofs.finding.has_no_variable.Given as goal

abbrev pub invariant-loop-target : goal.invariant-loop-target
invariant-loop-target l = Every (IsNotAt l.inner) (take l.target-index l.vars)
