use Rattle.std.proofs.Common.{List}
use Rattle.fore_base.specs.Lists.{Every}
use Rattle.ta_core.specs.Auto.{Automaton}
use Rattle.fa_kept.specs.Memos.{Agrees}
use Rattle.fa_kept.specs.inner.Asking.{AreRight}
use Rattle.fa_kept.proofs.portions.remember_all.Given as goal

abbrev pub invariant-loop-one : goal.invariant-loop-one
invariant-loop-one l = (pool : List Automaton) → Agrees l.initial.memo pool
    → Every (λ one. AreRight pool one.found) l.asked → Agrees l.memo pool
