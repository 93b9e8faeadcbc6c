-- The first fault so far, after one more place and after more places where a rule may be broken.
use Rattle.std.specs.Prelude.{Bool, true, false, List, [], ◌∷◌, Option}
use Rattle.c_typing.specs.Globals.{Globals}
use Rattle.c_typing.specs.Sites.{Site}
use Rattle.c_typing.specs.Typing.{breaches_at}
use Rattle.c_typing.specs.declared.fault.TypeFault.{TypeFault}
use Rattle.c_expressions.specs.First.{first_from}

-- after what one place breaks
unfoldable pub noted : Globals → Option TypeFault → Site → Option TypeFault
noted g found s = first_from found (breaches_at g s)

-- after what several places break
unfoldable pub met : Globals → Option TypeFault → List Site → Option TypeFault
met g found [] = found
met g found (s ∷ ss) = met g (noted g found s) ss

-- after this fault, where the test holds
abbrev pub noted_when : Bool → TypeFault → Option TypeFault → Option TypeFault
noted_when true e found = first_from found (e ∷ [])
noted_when false e found = found
