-- The first fault of two lists, one after the other.
use Rattle.std.proofs.Common.{◌≡◌, List, [], ◌∷◌, ◌++◌, Option, Some, refl}
use Rattle.c_typing.specs.declared.fault.TypeFault.{TypeFault}
use Rattle.c_expressions.specs.First.{earlier_of, first_from}

pub first_from-append : (found : Option TypeFault) (xs ys : List TypeFault) → first_from found (xs ++ ys)
    ≡ first_from (first_from found xs) ys
first_from-append found [] ys = refl
first_from-append found (x ∷ xs) ys = first_from-append (Some (earlier_of found x)) xs ys
