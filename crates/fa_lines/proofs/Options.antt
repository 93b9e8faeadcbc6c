-- What is read where something is read in steps.
use Rattle.std.proofs.Common.{ℕ, Bool, true, false, List, [], ◌∷◌, ◌≡◌, ◌⊎◌, inl, inr, refl, sym, Option, Some, None}
use Rattle.std.proofs.Common.{cond, arith, ◌&&◌}
use Rattle.std.proofs.lemmas.Option.{none-some}
use Rattle.std.proofs.lemmas.Bool.{eq-eqb}
use Rattle.std.specs.Cmp.Lexicographic.{same_text}
use Rattle.fa_lines.specs.inner.Reading.{◌>>=◌, guard, is}

pub guarded : {A : Type 0} (b : Bool) (o : Option A) (x : A) → guard b o ≡ Some x → (b ≡ true) × (o ≡ Some x)
guarded true o x e = (refl, e)
guarded false o x e = absurd (none-some x e)

pub bound : {A B : Type 0} (o : Option A) (f : A → Option B) (y : B) → (o >>= f) ≡ Some y
    → (x : A) × (o ≡ Some x) × (f x ≡ Some y)
bound (Some x) f y e = (x, refl, e)
bound None f y e = absurd (none-some y e)

pub chosen : {A : Type 0} (b : Bool) (o p : Option A) (x : A) → cond b o p ≡ Some x
    → ((b ≡ true) × (o ≡ Some x)) ⊎ ((b ≡ false) × (p ≡ Some x))
chosen true o p x e = inl (refl, e)
chosen false o p x e = inr (refl, e)

pub both : (a b : Bool) → (a && b) ≡ true → (a ≡ true) × (b ≡ true)
both true b e = (refl, e)
both false b e = grind arith

pub text_is : (a b : List ℕ) → is a b ≡ true → a ≡ b
text_is a b e = same_text a b (sym e)

pub is_itself : (a : List ℕ) → is a a ≡ true
is_itself [] = refl
is_itself (x ∷ xs) = rw (eq-eqb x x refl) (is_itself xs)
