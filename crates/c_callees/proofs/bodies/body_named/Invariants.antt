use Rattle.std.proofs.Common.{◌≡◌, drop}
use Rattle.c_typing.specs.Globals.{body_named}
use Rattle.c_callees.proofs.bodies.body_named.Given as goal

abbrev pub invariant-loop-item : goal.invariant-loop-item
invariant-loop-item l = body_named l.name (drop l.item-index l.items) ≡ body_named l.name l.items
