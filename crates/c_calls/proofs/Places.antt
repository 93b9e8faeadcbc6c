-- Which functions call, and which are called.
use Rattle.std.proofs.Common.{◌≡◌, ℕ, zero, suc, ◌<◌, List, [], ◌∷◌, length, get_or, arith}
use Rattle.std.proofs.Common.{Some, slice_get}
use Rattle.std.proofs.lemmas.Option.{none-some, same_Some}
use Rattle.fore_base.specs.Lists.{IsIn, Every}
use Rattle.c_calls.specs.Calls.{called_by}

-- what calls is a function of the file
pub caller_within : (calls : List (List ℕ)) (f g : ℕ) → IsIn g (called_by calls f) → f < length calls
caller_within [] f g i = absurd i
caller_within (c ∷ calls) zero g i = omega arith
caller_within (c ∷ calls) (suc f) g i = let l = caller_within calls f g i in omega (arith, l)

-- what meets P in each list, meets it in the list of f
pub every_called : (P : ℕ → Type 0) (calls : List (List ℕ)) (f : ℕ) → Every (Every P) calls
    → Every P (called_by calls f)
every_called P [] f h = tt
every_called P (c ∷ calls) zero h = h.0
every_called P (c ∷ calls) (suc f) h = every_called P calls f h.1

-- the list of f, read at its place
pub called_got : (calls : List (List ℕ)) (f : ℕ) (x : List ℕ) → slice_get calls f ≡ Some x → called_by calls f ≡ x
called_got [] f x e = absurd (none-some x e)
called_got (y ∷ calls) zero x e = same_Some y x e
called_got (y ∷ calls) (suc f) x e = called_got calls f x e

pub called_item : (calls : List (List ℕ)) (f : ℕ) (x : List ℕ) → f < length calls → x ≡ get_or calls f x
    → x ≡ called_by calls f
called_item [] f x l e = absurd (omega (arith, l))
called_item (y ∷ calls) zero x l e = e
called_item (y ∷ calls) (suc f) x l e = called_item calls f x (omega (arith, l)) e
