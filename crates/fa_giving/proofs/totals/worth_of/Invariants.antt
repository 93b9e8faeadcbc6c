use Rattle.std.proofs.Common.{◌≡◌, drop}
use Rattle.fa_giving.specs.inner.Totals.{worth_of}
use Rattle.fa_giving.specs.inner.Worths.{nothing}
use Rattle.fa_giving.proofs.totals.worth_of.Given as goal

abbrev pub invariant-loop-state : goal.invariant-loop-state
invariant-loop-state l = worth_of l.table l.worth (drop l.state-index l.states) ≡ worth_of l.table nothing l.states
