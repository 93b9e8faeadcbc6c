use Rattle.std.proofs.Common.{◌≡◌, true, drop}
use Rattle.fore_base.specs.Stores.{set_each}
use Rattle.c_lower.proofs.heads.entries.Given as goal

abbrev pub invariant-loop-head : goal.invariant-loop-head
invariant-loop-head l = set_each l.entries (drop l.head-index l.heads) true ≡ set_each l.initial.entries l.heads true
