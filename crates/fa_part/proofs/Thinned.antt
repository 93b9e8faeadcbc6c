-- Walks: a root that is to be visited again, where it is placed by then, changes nothing.
use Rattle.std.proofs.Common.{◌≡◌, inl, inr, ℕ, Bool, true, false, cond, List, [], ◌∷◌, ◌++◌, flat_map, refl, sym}
use Rattle.std.proofs.Common.{subst, ◌∙◌, append_assoc, append-nil}
use Rattle.fore_base.specs.Lists.{IsIn}
use Rattle.fore_base.proofs.ListLemmas.{in_left, in_right}
use Rattle.fa_core.specs.Folding.{Placing, all_placed, is_placed, place_now}
use Rattle.fa_core.specs.Ways.{has, once, once_from}
use Rattle.fa_back.proofs.RootMarks.{has_in}
use Rattle.fa_part.specs.inner.Thin.{Thin, thin_none, thin_keep, thin_drop}

-- more may have been seen
pub thin_wider : {seen more xs ys : List ℕ} → ((k : ℕ) → IsIn k seen → IsIn k more) → Thin seen xs ys → Thin more xs ys
thin_wider s thin_none = thin_none
thin_wider {seen} {more} s (thin_keep x h) = thin_keep x (thin_wider wider h)
  where
    wider : (k : ℕ) → IsIn k (x ∷ seen) → IsIn k (x ∷ more)
    wider k (inl e) = inl e
    wider k (inr i) = inr (s k i)
thin_wider s (thin_drop x i h) = thin_drop x (s x i) (thin_wider s h)

pub thin_same : {seen : List ℕ} (xs : List ℕ) → Thin seen xs xs
thin_same [] = thin_none
thin_same (x ∷ xs) = thin_keep x (thin_same xs)

-- with the same numbers before both
pub thin_front : (zs : List ℕ) {seen xs ys : List ℕ} → Thin seen xs ys → Thin seen (zs ++ xs) (zs ++ ys)
thin_front [] h = h
thin_front (z ∷ zs) h = thin_keep z (thin_front zs (thin_wider (λ k i. inr i) h))

-- one behind the other
pub thin_both : {seen xs ys us vs : List ℕ} → Thin seen xs ys → Thin seen us vs → Thin seen (xs ++ us) (ys ++ vs)
thin_both thin_none k = k
thin_both (thin_keep x h) k = thin_keep x (thin_both h (thin_wider (λ n i. inr i) k))
thin_both (thin_drop x i h) k = thin_drop x i (thin_both h k)

once_step : (b : Bool) (x : ℕ) (seen xs : List ℕ) → has x seen ≡ b → Thin seen xs (once_from seen xs)
    → Thin (x ∷ seen) xs (once_from (x ∷ seen) xs)
    → Thin seen (x ∷ xs) (cond b (once_from seen xs) (x ∷ once_from (x ∷ seen) xs))
once_step true x seen xs e h k = thin_drop x (has_in x seen e) h
once_step false x seen xs e h k = thin_keep x k

-- each number once is thinner
pub once_thin : (seen xs : List ℕ) → Thin seen xs (once_from seen xs)
once_thin seen [] = thin_none
once_thin seen (x ∷ xs) = once_step (has x seen) x seen xs refl (once_thin seen xs) (once_thin (x ∷ seen) xs)

pub flat_thin : {X : Type 0} (f : X → List ℕ) (xs : List X) → Thin [] (flat_map f xs) (flat_map (λ x. once (f x)) xs)
flat_thin f [] = thin_none
flat_thin f (x ∷ xs) = thin_both (once_thin [] (f x)) (flat_thin f xs)

module _ (refers : ℕ → List ℕ) where
  -- the walk from the thinner list is one from the other
  abbrev Thick : List ℕ → List ℕ → List ℕ → Type 0
  Thick ys placed order = (xs seen : List ℕ) → Thin seen xs ys → ((k : ℕ) → IsIn k seen → IsIn k placed)
      → Placing refers xs placed order

  thick_none : {xs seen : List ℕ} (order : List ℕ) → Thin seen xs [] → ((k : ℕ) → IsIn k seen → IsIn k order)
      → Placing refers xs order order
  thick_none order thin_none s = all_placed
  thick_none order (thin_drop x i h) s = is_placed (s x i) (thick_none order h s)

  thick_old : {xs seen : List ℕ} (y : ℕ) (ys placed order : List ℕ) → IsIn y placed → Thick ys placed order
      → Thin seen xs (y ∷ ys) → ((k : ℕ) → IsIn k seen → IsIn k placed) → Placing refers xs placed order
  thick_old y ys placed order i t (thin_keep {seen} x h) s = is_placed i (t _ _ h wider)
    where
      wider : (k : ℕ) → IsIn k (y ∷ seen) → IsIn k placed
      wider k (inl e) = subst (λ (z : ℕ). IsIn z placed) (sym e) i
      wider k (inr j) = s k j
  thick_old y ys placed order i t (thin_drop x j h) s = is_placed (s x j) (thick_old y ys placed order i t h s)

  thick_new : {xs seen : List ℕ} (y : ℕ) (ys placed order : List ℕ) → (IsIn y placed → ⊥)
      → Thick (refers y ++ ys) (placed ++ y ∷ []) order → Thin seen xs (y ∷ ys)
      → ((k : ℕ) → IsIn k seen → IsIn k placed) → Placing refers xs placed order
  thick_new y ys placed order n t (thin_keep {seen} x h) s =
      place_now n (t _ _ (thin_front (refers y) h) wider)
    where
      wider : (k : ℕ) → IsIn k (y ∷ seen) → IsIn k (placed ++ y ∷ [])
      wider k (inl e) = in_right k placed (y ∷ []) (inl e)
      wider k (inr j) = in_left k placed (y ∷ []) (s k j)
  thick_new y ys placed order n t (thin_drop x j h) s =
      is_placed (s x j) (thick_new y ys placed order n t h s)

  pub thick : {ys placed order : List ℕ} → Placing refers ys placed order → (xs seen : List ℕ) → Thin seen xs ys
      → ((k : ℕ) → IsIn k seen → IsIn k placed) → Placing refers xs placed order
  thick (all_placed {order}) xs seen = λ h s. thick_none order h s
  thick (is_placed {r} {todo} {placed} {order} i w) xs seen =
      λ h s. thick_old r todo placed order i (thick w) h s
  thick (place_now {r} {todo} {placed} {order} n w) xs seen =
      λ h s. thick_new r todo placed order n (thick w) h s

  -- what is placed at first stands first
  pub goes_on : {todo placed order : List ℕ} → Placing refers todo placed order → (more : List ℕ)
      × (order ≡ placed ++ more)
  goes_on (all_placed {order}) = ([], sym (append-nil order))
  goes_on (is_placed i w) = goes_on w
  goes_on (place_now {r} {todo} {placed} n w) = let m = goes_on w in (r ∷ m.0, m.1 ∙ append_assoc placed (r ∷ []) m.0)

-- walks by the same references
pub same_walk : (f g : ℕ → List ℕ) → ((r : ℕ) → f r ≡ g r) → {todo placed order : List ℕ} → Placing f todo placed order
    → Placing g todo placed order
same_walk f g e all_placed = all_placed
same_walk f g e (is_placed i w) = is_placed i (same_walk f g e w)
same_walk f g e (place_now {r} {todo} {placed} {order} n w) =
    place_now n (subst (λ (l : List ℕ). Placing g (l ++ todo) (placed ++ r ∷ []) order) (e r) (same_walk f g e w))
