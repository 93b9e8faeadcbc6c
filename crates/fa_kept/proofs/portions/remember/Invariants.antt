use Rattle.std.proofs.Common.{List}
use Rattle.ta_core.specs.Auto.{Automaton}
use Rattle.fa_kept.specs.Memos.{Agrees}
use Rattle.fa_kept.specs.inner.Asking.{AreRight}
use Rattle.fa_kept.proofs.portions.remember.Given as goal

abbrev pub invariant-loop-one : goal.invariant-loop-one
invariant-loop-one l = (pool : List Automaton) → Agrees l.initial.memo pool → AreRight pool l.found → Agrees l.memo pool
