use Rattle.std.proofs.Common.{IsTrue, take}
use Rattle.par_kit.specs.Phases.{NoneMeets}
use Rattle.fa_kept.proofs.portions.passed_of.Given as goal

abbrev pub invariant-loop-place : goal.invariant-loop-place
invariant-loop-place l = NoneMeets (λ one. IsTrue one.covers) (take l.place l.asked)
