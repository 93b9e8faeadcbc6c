use Rattle.std.proofs.Common.{◌≡◌, length, reverse}
use Rattle.c_scopes.specs.inner.Entries.{unbound}
use Rattle.c_scopes.proofs.scopes.unbind.Given as goal

abbrev pub invariant-loop-entry : goal.invariant-loop-entry
invariant-loop-entry l = unbound (reverse l.block) l.meant ≡ unbound (reverse l.initial.block) l.initial.meant

abbrev pub decreases-loop-entry : goal.decreases-loop-entry
decreases-loop-entry l = length l.block
