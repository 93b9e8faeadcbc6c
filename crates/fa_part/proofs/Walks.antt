-- Walks that place roots: one start has one end, and what is placed is there.
use Rattle.std.proofs.Common.{◌≡◌, ◌<◌, ◌⊎◌, inl, inr, ℕ, List, [], ◌∷◌, ◌++◌, refl, sym, ap, subst}
use Rattle.fore_base.specs.Lists.{IsIn}
use Rattle.fore_base.proofs.ListLemmas.{every_push}
use Rattle.fa_core.specs.Folding.{Placing, all_placed, is_placed, place_now}
use Rattle.fa_core.specs.References.{AllBelow}
use Rattle.fa_core.proofs.Counts.{below_both}
use Rattle.fa_part.specs.inner.Thin.{Thin, thin_none, thin_keep, thin_drop}

module _ (f : ℕ → List ℕ) where
  pub one_order : {todo placed order other : List ℕ} → Placing f todo placed order → Placing f todo placed other
      → order ≡ other
  one_order all_placed all_placed = refl
  one_order (is_placed i w) (is_placed j v) = one_order w v
  one_order (is_placed i w) (place_now n v) = absurd (n i)
  one_order (place_now n w) (is_placed j v) = absurd (n j)
  one_order (place_now n w) (place_now m v) = one_order w v

  pub order_below : (n : ℕ) → ((r : ℕ) → AllBelow n (f r)) → {todo placed order : List ℕ}
      → Placing f todo placed order → AllBelow n todo → AllBelow n placed → AllBelow n order
  order_below n h all_placed t p = p
  order_below n h (is_placed i w) t p = order_below n h w t.1 p
  order_below n h (place_now {r} {todo} {placed} k w) t p =
      order_below n h w (below_both n (f r) todo (h r) t.1) (every_push (λ m. m < n) placed r p t.0)

-- one beginning of a list leaves one end
pub same_end : (xs ys zs : List ℕ) → xs ++ ys ≡ xs ++ zs → ys ≡ zs
same_end [] ys zs e = e
same_end (x ∷ xs) ys zs e = same_end xs ys zs (ap tail e)
  where
    tail : List ℕ → List ℕ
    tail [] = []
    tail (y ∷ ys) = ys

-- what is left of a list was there, and what was there is left or was seen
pub thin_in : {seen xs ys : List ℕ} → Thin seen xs ys → (k : ℕ) → IsIn k ys → IsIn k xs
thin_in thin_none k i = i
thin_in (thin_keep x h) k (inl e) = inl e
thin_in (thin_keep x h) k (inr i) = inr (thin_in h k i)
thin_in (thin_drop x j h) k i = inr (thin_in h k i)

pub in_thin : {seen xs ys : List ℕ} → Thin seen xs ys → (k : ℕ) → IsIn k xs → IsIn k seen ⊎ IsIn k ys
in_thin thin_none k i = absurd i
in_thin (thin_keep x h) k (inl e) = inr (inl e)
in_thin (thin_keep x h) k (inr i) = elim (in_thin h k i) [
  | inl (inl e) ↦ inr (inl e)
  | inl (inr j) ↦ inl j
  | inr j ↦ inr (inr j)
]
in_thin (thin_drop {seen} x j h) k (inl e) = inl (subst (λ (z : ℕ). IsIn z seen) (sym e) j)
in_thin (thin_drop x j h) k (inr i) = in_thin h k i
