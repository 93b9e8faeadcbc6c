-- Why a file that the shelf did not give is not taken.
use Rattle.fore_outside.specs.declared.shelf.ShelfFault.{ShelfFault}
use Rattle.fore_outside.specs.declared.shelf.ShelfFault.TheVariants as shelf
use Rattle.fore_read.specs.declared.fault.ReadFault.{ReadFault}
use Rattle.fore_read.specs.declared.fault.ReadFault.TheVariants.{Refused, Failed, Memory}
use Rattle.fore_read.specs.declared.fault.Refusal.{Refusal}

-- why a file that the shelf did not give is not taken
abbrev pub not_given : Refusal → ShelfFault → ReadFault
not_given when_long shelf.Failed = Failed
not_given when_long shelf.TooLong = Refused when_long
not_given when_long shelf.Memory = Memory
