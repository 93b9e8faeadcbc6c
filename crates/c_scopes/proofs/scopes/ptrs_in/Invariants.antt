use Rattle.std.proofs.Common.{◌≡◌, take, reverse}
use Rattle.c_scopes.specs.inner.Entries.{ptrs_in}
use Rattle.c_scopes.proofs.scopes.ptrs_in.Given as goal

abbrev pub invariant-loop-entry : goal.invariant-loop-entry
invariant-loop-entry l = l.numbers ≡ ptrs_in (reverse (take l.entry-index l.block))
