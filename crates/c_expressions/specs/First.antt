-- The first fault of those that were met.
use Rattle.std.specs.Prelude.{cond, List, [], ◌∷◌, Option, Some, None}
use Rattle.c_typing.specs.Orders.{before}
use Rattle.c_typing.specs.declared.fault.TypeFault.{TypeFault}

-- the earlier of what was met first so far and one more
abbrev pub earlier_of : Option TypeFault → TypeFault → TypeFault
earlier_of None e = e
earlier_of (Some d) e = cond (before e d) e d

-- the first of those that were met so far and of these
abbrev pub first_from : Option TypeFault → List TypeFault → Option TypeFault
first_from found [] = found
first_from found (e ∷ es) = first_from (Some (earlier_of found e)) es
