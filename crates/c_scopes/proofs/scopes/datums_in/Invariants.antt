use Rattle.std.proofs.Common.{◌≡◌, take, reverse}
use Rattle.c_scopes.specs.inner.Entries.{datums_in}
use Rattle.c_scopes.proofs.scopes.datums_in.Given as goal

abbrev pub invariant-loop-entry : goal.invariant-loop-entry
invariant-loop-entry l = l.numbers ≡ datums_in (reverse (take l.entry-index l.block))
