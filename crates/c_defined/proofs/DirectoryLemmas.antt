-- Values that are found by texts.
use Rattle.std.proofs.Common.{◌≡◌, ◌⊎◌, inl, inr, ℕ, zero, suc, Bool, true, false, cond, ◌||◌, List, [], ◌∷◌, ◌++◌}
use Rattle.std.proofs.Common.{length, slice_get, Option, Some, None, refl, sym, arith}
use Rattle.std.specs.Cmp.Lexicographic.{bytes_decides}
use Rattle.std.proofs.lemmas.Bool.{false≢true, or_cases}
use Rattle.fore_base.specs.Lists.{IsIn, IsDistinct}
use Rattle.fore_base.proofs.NameLemmas.{in_at}
use Rattle.c_names.proofs.NameLemmas.{same_refl, differs}
use Rattle.c_typing.specs.Texts.{Text, same, has}
use Rattle.c_defined.specs.inner.Directories.{look_up, or_else}

module _ {X : Type 0} where
  pub look_up_at : (x : Text) (ns : List Text) (vs : List X) (i : ℕ) → IsDistinct ns → slice_get ns i ≡ Some x
      → look_up x ns vs ≡ slice_get vs i
  look_up_at x [] vs i d h = cc
  look_up_at x (n ∷ ns) [] i d h = refl
  look_up_at x (n ∷ ns) (v ∷ vs) zero d h =
      let e : n ≡ x = cc in
      rw (same_refl x n (sym e)) refl
  look_up_at x (n ∷ ns) (v ∷ vs) (suc i) d h =
      let no : same x n ≡ false = differs x n (λ e. d.0 (rw e at (in_at ns i x h))) in
      rw no (look_up_at x ns vs i d.1 h)

  pub look_up_none : (x : Text) (ns : List Text) (vs : List X) → (IsIn x ns → ⊥) → look_up x ns vs ≡ None
  look_up_none x [] vs h = refl
  look_up_none x (n ∷ ns) [] h = refl
  look_up_none x (n ∷ ns) (v ∷ vs) h =
      let no : same x n ≡ false = differs x n (λ e. h (inl e)) in
      rw no (look_up_none x ns vs (λ i. h (inr i)))

  or_else_none : (o : Option X) → or_else o None ≡ o
  or_else_none None = refl
  or_else_none (Some v) = refl

  -- one more name, that is new
  pub look_up_new : (x name : Text) (ns : List Text) (vs : List X) (v : X) → length ns ≡ length vs →
      look_up x (ns ++ name ∷ []) (vs ++ v ∷ []) ≡ or_else (look_up x ns vs) (cond (same x name) (Some v) None)
  look_up_new x name [] [] v e = refl
  look_up_new x name [] (w ∷ ws) v e = absurd (omega arith)
  look_up_new x name (n ∷ ns) [] v e = absurd (omega arith)
  look_up_new x name (n ∷ ns) (w ∷ ws) v e = by (same x n) _ _ _ (look_up_new x name ns ws v (omega arith))
    where
      by : (b : Bool) (r o q : Option X) → r ≡ or_else o q → cond b (Some w) r ≡ or_else (cond b (Some w) o) q
      by true r o q h = refl
      by false r o q h = h

  at_front : (x name n : Text) (o : Option X) (w v : X) → same name n ≡ true →
      cond (same x n) (Some w) o ≡ or_else (cond (same x n) (Some w) o) (cond (same x name) (Some v) None)
  at_front x name n o w v here =
      let e : name ≡ n = (bytes_decides name n).0 here in
      rw e (both (same x n))
    where
      both : (b : Bool) → cond b (Some w) o ≡ or_else (cond b (Some w) o) (cond b (Some v) None)
      both true = refl
      both false = sym (or_else_none o)

  -- one more name, that is there already
  pub look_up_there : (x name : Text) (ns : List Text) (vs : List X) (v : X) → length ns ≡ length vs
      → has name ns ≡ true →
      look_up x ns vs ≡ or_else (look_up x ns vs) (cond (same x name) (Some v) None)
  look_up_there x name [] vs v e h = absurd (false≢true h)
  look_up_there x name (n ∷ ns) [] v e h = absurd (omega arith)
  look_up_there x name (n ∷ ns) (w ∷ ws) v e h = elim (or_cases (same name n) (has name ns) h) [
    | inl here ↦ at_front x name n (look_up x ns ws) w v here
    | inr later ↦ by (same x n) _ _ (look_up_there x name ns ws v (omega arith) later)
  ]
    where
      by : (b : Bool) (r q : Option X) → r ≡ or_else r q → cond b (Some w) r ≡ or_else (cond b (Some w) r) q
      by true r q h = refl
      by false r q h = h

  -- what is found among all, and then among the rest
  pub or_else_rest : (o : Option X) (b : Bool) (v : X) (rest : Option X)
      → or_else (or_else o (cond b (Some v) None)) rest ≡ or_else o (cond b (Some v) rest)
  or_else_rest (Some w) b v rest = refl
  or_else_rest None true v rest = refl
  or_else_rest None false v rest = refl
