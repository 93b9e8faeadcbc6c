use Rattle.std.proofs.Common.{ℕ, ◌<◌, length}
use Rattle.fa_reach.specs.inner.Parts.{picked}
use Rattle.fa_reach.specs.inner.Going.{Forced}
use Rattle.fa_reach.proofs.choices.may_miss_some.Given as goal

abbrev pub invariant-loop-number : goal.invariant-loop-number
invariant-loop-number l = (k : ℕ) → k < l.number → (r : ℕ) → r < length l.all → Forced (picked l.all k) l.from r
