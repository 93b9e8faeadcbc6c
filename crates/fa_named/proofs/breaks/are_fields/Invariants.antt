use Rattle.std.proofs.Common.{◌≡◌, drop}
use Rattle.std.specs.List.{list_all}
use Rattle.fa_named.specs.Breaks.{is_field}
use Rattle.fa_named.proofs.breaks.are_fields.Given as goal

abbrev pub invariant-loop-slot : goal.invariant-loop-slot
invariant-loop-slot l =
    list_all (is_field l.pointers) l.slots ≡ list_all (is_field l.pointers) (drop l.slot-index l.slots)
