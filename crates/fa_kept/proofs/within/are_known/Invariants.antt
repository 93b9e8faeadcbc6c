use Rattle.std.proofs.Common.{◌<◌, List, length}
use Rattle.fore_base.specs.Lists.{Every}
use Rattle.ta_core.specs.Auto.{Automaton}
use Rattle.fa_cover.proofs.Pairs.{IsUpTo}
use Rattle.fa_kept.specs.Memos.{IsWithinAt, Agrees}
use Rattle.fa_kept.proofs.within.are_known.Given as goal

abbrev pub invariant-loop-place : goal.invariant-loop-place
invariant-loop-place l = (pool : List Automaton) → Agrees l.memo pool → Every (λ n. n < length pool) l.narrow
    → IsUpTo (IsWithinAt pool) l.narrow l.wide l.place
