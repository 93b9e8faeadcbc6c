use Rattle.std.proofs.Common.{◌≡◌, ◌≤◌, ◌+◌, map, get_or, min, drop}
use Rattle.fore_base.specs.Lists.{sum_of}
use Rattle.c_calls.proofs.weighing.body_weight.Given as goal

abbrev pub invariant-loop-function : goal.invariant-loop-function
invariant-loop-function l = (l.weight ≤ l.cap)
    × (min (l.weight + sum_of (map (λ g. get_or l.weights g 0) (drop l.function-index l.called))) l.cap
    ≡ min (l.own + sum_of (map (λ g. get_or l.weights g 0) l.called)) l.cap)
