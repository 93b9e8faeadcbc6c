use Rattle.std.proofs.Common.{◌≡◌, ◌++◌, drop}
use Rattle.fa_named.specs.Insides.{children_of}
use Rattle.fa_named.proofs.states.children_of.Given as goal

abbrev pub invariant-loop-slot : goal.invariant-loop-slot
invariant-loop-slot l = l.states ++ children_of (drop l.slot-index l.slots) ≡ children_of l.slots
