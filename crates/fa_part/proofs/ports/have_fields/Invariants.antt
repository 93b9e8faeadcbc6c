use Rattle.std.proofs.Common.{take}
use Rattle.fore_base.specs.Lists.{Every, IsIn}
use Rattle.ta_core.specs.declared.symbol.Slot.TheVariants.{Field}
use Rattle.fa_part.proofs.ports.have_fields.Given as goal

abbrev pub invariant-loop-field : goal.invariant-loop-field
invariant-loop-field l = Every (λ f. IsIn (Field f) l.slots) (take l.field-index l.fields)
