use Rattle.std.proofs.Common.{◌↔◌, drop}
use Rattle.fore_base.specs.Lists.{IsIn}
use Rattle.ta_core.specs.declared.symbol.Slot.TheVariants.{Field}
use Rattle.fa_part.proofs.ports.is_field_in.Given as goal

abbrev pub invariant-loop-slot : goal.invariant-loop-slot
invariant-loop-slot l = IsIn (Field l.field) (drop l.slot-index l.slots) ↔ IsIn (Field l.field) l.slots
