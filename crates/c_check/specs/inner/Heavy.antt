-- The weight of `main`, which is asked only where nothing else is broken.
use Rattle.std.specs.Prelude.{Bool, true, false, Option, Some, None}
use Rattle.c_ast.specs.declared.items.Head.{Head}
use Rattle.c_typing.specs.declared.fault.TypeFault.{TypeFault}
use Rattle.c_typing.specs.declared.fault.TypeFault.TheVariants.{Limit}

-- where it is too great, at the name
abbrev pub heavy_at : Bool → Option Head → Option TypeFault
heavy_at heavy None = None
heavy_at true (Some h) = Some (Limit 9 h.name.at)
heavy_at false (Some h) = None

abbrev pub or_fault : Option TypeFault → Option TypeFault → Option TypeFault
or_fault None other = other
or_fault (Some e) other = Some e
