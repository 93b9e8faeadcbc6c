-- Texts among others.
use Rattle.std.proofs.Common.{◌≡◌, ◌⊎◌, inl, inr, ℕ, zero, suc, Bool, true, false, not, cond, ◌||◌, List, [], ◌∷◌}
use Rattle.std.proofs.Common.{slice_get, Option, Some, None, refl, sym, ◌∙◌}
use Rattle.std.specs.Cmp.Lexicographic.{bytes_decides}
use Rattle.std.proofs.lemmas.Bool.{false≢true, false_from_ne_true, or_right}
use Rattle.fore_base.specs.Lists.{IsIn, IsDistinct}
use Rattle.fore_base.proofs.NameLemmas.{in_at}
use Rattle.c_typing.specs.Texts.{Text, same, has, number_of}

pub same_refl : (x y : Text) → x ≡ y → same x y ≡ true
same_refl x y e = (bytes_decides x y).1 e

pub differs : (x y : Text) → (x ≡ y → ⊥) → same x y ≡ false
differs x y h = false_from_ne_true (same x y) (λ e. h ((bytes_decides x y).0 e))

-- the test is membership

pub has_in : (x : Text) (ns : List Text) → IsIn x ns → has x ns ≡ true
has_in x [] h = absurd h
has_in x (n ∷ ns) (inl e) = rw (same_refl x n e) refl
has_in x (n ∷ ns) (inr h) = or_right (same x n) (has x ns) (has_in x ns h)

pub has_out : (x : Text) (ns : List Text) → (IsIn x ns → ⊥) → has x ns ≡ false
has_out x [] h = refl
has_out x (n ∷ ns) h =
    let no : same x n ≡ false = differs x n (λ e. h (inl e)) in
    let rest : has x ns ≡ false = has_out x ns (λ i. h (inr i)) in
    rw (no, rest) refl

pub out_has : (x : Text) (ns : List Text) → has x ns ≡ false → IsIn x ns → ⊥
out_has x ns h i = false≢true (sym h ∙ has_in x ns i)

-- numbers

pub number_at : (x : Text) (ns : List Text) (i : ℕ) → IsDistinct ns → slice_get ns i ≡ Some x → number_of x ns ≡ Some i
number_at x [] i d h = cc
number_at x (n ∷ ns) zero d h =
    let e : n ≡ x = cc in
    rw (same_refl x n (sym e)) refl
number_at x (n ∷ ns) (suc i) d h =
    let no : same x n ≡ false = differs x n (λ e. d.0 (rw e at (in_at ns i x h))) in
    let rest : number_of x ns ≡ Some i = number_at x ns i d.1 h in
    rw (no, rest) refl

pub number_none : (x : Text) (ns : List Text) → (IsIn x ns → ⊥) → number_of x ns ≡ None
number_none x [] h = refl
number_none x (n ∷ ns) h =
    let no : same x n ≡ false = differs x n (λ e. h (inl e)) in
    let rest : number_of x ns ≡ None = number_none x ns (λ i. h (inr i)) in
    rw (no, rest) refl

pub not_true : (b : Bool) → true ≡ not b → b ≡ false
not_true true e = e
not_true false e = refl

pub not_false : (b : Bool) → false ≡ not b → b ≡ true
not_false true e = refl
not_false false e = e
