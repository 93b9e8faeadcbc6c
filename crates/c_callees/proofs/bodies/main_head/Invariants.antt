use Rattle.std.proofs.Common.{◌≡◌, drop}
use Rattle.c_typing.specs.Globals.{main_head}
use Rattle.c_callees.proofs.bodies.main_head.Given as goal

abbrev pub invariant-loop-item : goal.invariant-loop-item
invariant-loop-item l = main_head (drop l.item-index l.items) ≡ main_head l.items
