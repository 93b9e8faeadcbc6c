use Rattle.std.proofs.Common.{◌≡◌, ℕ, ◌<◌, length, get_or, min}
use Rattle.c_calls.proofs.weighing.own_weights.Given as goal

abbrev pub invariant-loop-own : goal.invariant-loop-own
invariant-loop-own l = (length l.weights ≡ l.own-index)
    × ((f : ℕ) → f < l.own-index → get_or l.weights f 0 ≡ min (get_or l.statements f 0) l.cap)
