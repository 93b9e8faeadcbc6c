-- The states at the ends of fields, child by child.
use Rattle.std.proofs.Common.{
  ◌≡◌,
  ℕ,
  zero,
  suc,
  ◌<◌,
  ◌≤◌,
  ◌+◌,
  List,
  [],
  ◌∷◌,
  ◌++◌,
  drop,
  length,
  get_or,
  refl,
  sym,
  ap,
}
use Rattle.std.proofs.Common.{◌∙◌, append_assoc, arith, not-suc-le-zero, le_of_suc-le-suc}
use Rattle.ta_core.specs.declared.symbol.Slot.{Slot}
use Rattle.ta_core.specs.declared.symbol.Slot.TheVariants.{Field, Link, Hook}
use Rattle.fa_order.specs.inner.Showing.{states_at}

-- where there is no child there is no end of a field
pub states_none : (ss : List Slot) → states_at ss [] ≡ []
states_none [] = refl
states_none (Field f ∷ ss) = refl
states_none (Link b ∷ ss) = refl
states_none (Hook b ∷ ss) = states_none ss

drop_all : (xs : List ℕ) (k : ℕ) → k ≤ length xs → length xs ≤ k → drop k xs ≡ []
drop_all [] zero l n = refl
drop_all [] (suc k) l n = refl
drop_all (x ∷ xs) zero l n = absurd (omega (arith, n))
drop_all (x ∷ xs) (suc k) l n = drop_all xs k (omega (arith, l)) (omega (arith, n))

drop_one : (xs : List ℕ) (k : ℕ) → k < length xs → drop k xs ≡ get_or xs k 0 ∷ drop (suc k) xs
drop_one [] k l = absurd (not-suc-le-zero l)
drop_one (x ∷ xs) zero l = refl
drop_one (x ∷ xs) (suc k) l = drop_one xs k (le_of_suc-le-suc l)

one_on : (k : ℕ) → suc k ≡ k + 1
one_on k = omega arith

pub link_there : (qs : List ℕ) (k : ℕ) → k < length qs → (ss : List Slot) (b : ℕ) → states_at (Link b ∷ ss) (drop k qs)
    ≡ states_at ss (drop (k + 1) qs)
link_there qs k l ss b = ap (states_at (Link b ∷ ss)) (drop_one qs k l)
    ∙ ap (λ (n : ℕ). states_at ss (drop n qs)) (one_on k)

pub link_out : (qs : List ℕ) (k : ℕ) → k ≤ length qs → length qs ≤ k → (ss : List Slot) (b : ℕ)
    → states_at (Link b ∷ ss) (drop k qs) ≡ states_at ss (drop k qs)
link_out qs k l n ss b = let e = drop_all qs k l n in rw e (sym (states_none ss))

pub field_there : (made qs : List ℕ) (k : ℕ) → k < length qs → (ss : List Slot) (f : ℕ)
    → made ++ states_at (Field f ∷ ss) (drop k qs) ≡ (made ++ get_or qs k 0 ∷ []) ++ states_at ss (drop (k + 1) qs)
field_there made qs k l ss f =
    ap (λ (z : List ℕ). made ++ states_at (Field f ∷ ss) z) (drop_one qs k l)
    ∙ sym (append_assoc made (get_or qs k 0 ∷ []) (states_at ss (drop (suc k) qs)))
    ∙ ap (λ (n : ℕ). (made ++ get_or qs k 0 ∷ []) ++ states_at ss (drop n qs)) (one_on k)

pub field_out : (made qs : List ℕ) (k : ℕ) → k ≤ length qs → length qs ≤ k → (ss : List Slot) (f : ℕ)
    → made ++ states_at (Field f ∷ ss) (drop k qs) ≡ made ++ states_at ss (drop k qs)
field_out made qs k l n ss f =
    let e = drop_all qs k l n in rw e (ap (λ (z : List ℕ). made ++ z) (sym (states_none ss)))
