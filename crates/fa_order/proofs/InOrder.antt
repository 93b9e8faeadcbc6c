-- Numbers that stand in their order.
use Rattle.std.proofs.Common.{◌≡◌, ◌↔◌, ℕ, zero, suc, true, nat_eq, length, List}
use Rattle.std.proofs.Common.{[], ◌∷◌, refl, ap, ap₂, ◌∙◌}
use Rattle.std.proofs.lemmas.Bool.{and_parts, eqb-true, eq-eqb}
use Rattle.fa_merge.specs.Reordered.{counted}
use Rattle.fa_merge.proofs.OtherOrders.{counted_length}
use Rattle.fa_order.specs.inner.Deciding.{rise_from}

pub rises : (k : ℕ) (xs : List ℕ) → rise_from k xs ≡ true → xs ≡ counted k (length xs)
rises k [] h = refl
rises k (x ∷ xs) h = let a = and_parts (nat_eq x k) (rise_from (suc k) xs) h in
    ap₂ (λ (y : ℕ) (z : List ℕ). y ∷ z) (eqb-true x k a.0) (rises (suc k) xs a.1)

counted_rises : (k n : ℕ) → rise_from k (counted k n) ≡ true
counted_rises k zero = refl
counted_rises k (suc n) = rw (eq-eqb k k refl) (counted_rises (suc k) n)

pub in_order : (xs : List ℕ) (n : ℕ) → (xs ≡ counted 0 n) ↔ ((length xs ≡ n) × (rise_from 0 xs ≡ true))
in_order xs n = (
  (λ e. (ap length e ∙ counted_length 0 n, ap (rise_from 0) e ∙ counted_rises 0 n)),
  (λ h. rises 0 xs h.1 ∙ ap (counted 0) h.0),
)
