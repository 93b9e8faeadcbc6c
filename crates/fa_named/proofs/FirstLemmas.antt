-- The first fault of two lists of faults.
use Rattle.std.proofs.Common.{List, [], ◌∷◌, ◌++◌, ◌≡◌, refl, sym, ap, Option, Some, None}
use Rattle.std.proofs.lemmas.Option.{none-some, same_Some}
use Rattle.fa_named.specs.Named.{first_of, IsFirst}
use Rattle.fa_named.specs.declared.fault.NameFault.{NameFault}
use Rattle.fa_named.specs.declared.fault.NameFault.TheVariants.{K6, B2, B3, Memory}

pub first_here : (xs ys : List NameFault) (x : NameFault) → first_of xs ≡ Some x → first_of (xs ++ ys) ≡ Some x
first_here [] ys x e = absurd (none-some x e)
first_here (y ∷ xs) ys x e = e

pub first_later : (xs ys : List NameFault) → first_of xs ≡ None → first_of (xs ++ ys) ≡ first_of ys
first_later [] ys e = refl
first_later (y ∷ xs) ys e = absurd (none-some y (sym e))

pub none_first : (xs : List NameFault) → None ≡ first_of xs → xs ≡ []
none_first [] e = refl
none_first (x ∷ xs) e = absurd (none-some x e)

pub is_first : (xs : List NameFault) (x : NameFault) → Some x ≡ first_of xs → IsFirst xs x
is_first xs (K6 line) e = sym e
is_first xs (B2 line) e = sym e
is_first xs (B3 line) e = sym e
is_first xs Memory e = tt
