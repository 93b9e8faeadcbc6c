use Rattle.std.proofs.Common.{◌≡◌, ℕ, ◌<◌, ◌+◌, length, map, get_or, min}
use Rattle.fore_base.specs.Lists.{sum_of}
use Rattle.c_calls.specs.Calls.{called_by}
use Rattle.c_calls.proofs.weighing.next_weights.Given as goal

abbrev pub invariant-loop-function : goal.invariant-loop-function
invariant-loop-function l = (length l.next ≡ l.function)
    × ((f : ℕ) → f < l.function
    → get_or l.next f 0
    ≡ min (get_or l.statements f 0 + sum_of (map (λ g. get_or l.weights g 0) (called_by l.calls f))) l.cap)
