use Rattle.std.proofs.Common.{ℕ, ◌≤◌, length}
use Rattle.fore_base.specs.Marks.{IsMarked}
use Rattle.ta_incl.proofs.searching.last_open.Given as goal

abbrev pub invariant-loop-place : goal.invariant-loop-place
invariant-loop-place l = (l.place ≤ length l.live)
    × ((i : ℕ) → l.place ≤ i → IsMarked l.live i → IsMarked l.taken i)
