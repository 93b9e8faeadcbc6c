use Rattle.std.proofs.Common.{◌≡◌, drop}
use Rattle.std.specs.List.{list_all}
use Rattle.fa_named.specs.Breaks.{is_formed}
use Rattle.fa_named.proofs.breaks.are_formed.Given as goal

abbrev pub invariant-loop-slot : goal.invariant-loop-slot
invariant-loop-slot l = list_all (is_formed l.boxes) l.slots ≡ list_all (is_formed l.boxes) (drop l.slot-index l.slots)
