use Rattle.std.proofs.Common.{ℕ, ◌<◌}
use Rattle.fa_reach.specs.inner.Parts.{picked}
use Rattle.fa_reach.specs.inner.Going.{Barred}
use Rattle.fa_reach.proofs.choices.may_reach.Given as goal

abbrev pub invariant-loop-number : goal.invariant-loop-number
invariant-loop-number l = (k : ℕ) → k < l.number → Barred (picked l.all k) l.from l.to
