-- The roots of a part, and the new numbers of roots.
use Rattle.std.proofs.Common.{◌≡◌, ◌⊎◌, inl, inr, ℕ, suc, ◌+◌, ◌-◌, Bool, true, false, true≢false}
use Rattle.std.proofs.Common.{nat_eq, nat_lt, cond, ◌||◌, length, List, [], ◌∷◌, ◌++◌, map, filter}
use Rattle.std.proofs.Common.{refl, sym, ap, subst, ◌∙◌, append_assoc, append-nil, arith}
use Rattle.std.proofs.lemmas.Bool.{eqb-true, eq-eqb, ltb-true, ltb-false}
use Rattle.fore_base.specs.Lists.{IsIn, IsDistinct}
use Rattle.fore_base.specs.declared.store.Value.{Value}
use Rattle.fore_base.proofs.ListLemmas.{in_left, in_right}
use Rattle.fa_core.specs.Dressed.{nth_value}
use Rattle.fa_core.specs.Folding.{Placing, all_placed, is_placed, place_now, position}
use Rattle.fa_core.specs.Ways.{has}
use Rattle.fa_back.proofs.RootMarks.{has_in}

-- Roots that are reached.

module _ (refers : ℕ → List ℕ) where
  -- placed roots stay placed
  pub stays_placed : {todo placed order : List ℕ} (x : ℕ) → Placing refers todo placed order → IsIn x placed
      → IsIn x order
  stays_placed x all_placed i = i
  stays_placed x (is_placed j p) i = stays_placed x p i
  stays_placed x (place_now {r} {todo} {placed} n p) i = stays_placed x p (in_left x placed (r ∷ []) i)

  -- what is to be visited is placed
  pub is_visited : {todo placed order : List ℕ} (x : ℕ) → Placing refers todo placed order → IsIn x todo → IsIn x order
  is_visited x all_placed i = absurd i
  is_visited x (is_placed {r} {todo} {placed} {order} j p) (inl e) =
      stays_placed x p (subst (λ (z : ℕ). IsIn z placed) (sym e) j)
  is_visited x (is_placed j p) (inr i) = is_visited x p i
  is_visited x (place_now {r} {todo} {placed} {order} n p) (inl e) =
      stays_placed x p (in_right x placed (r ∷ []) (inl e))
  is_visited x (place_now {r} {todo} {placed} {order} n p) (inr i) = is_visited x p (in_right x (refers r) todo i)

  in_parts : (x : ℕ) (xs : List ℕ) (r : ℕ) → IsIn x (xs ++ r ∷ []) → IsIn x xs ⊎ (x ≡ r)
  in_parts x [] r (inl e) = inr e
  in_parts x [] r (inr i) = absurd i
  in_parts x (y ∷ xs) r (inl e) = inl (inl e)
  in_parts x (y ∷ xs) r (inr i) = elim (in_parts x xs r i) [ inl j ↦ inl (inr j) | inr e ↦ inr e ]

  -- the roots to which a root refers that was placed on the way are placed
  pub is_closed : {todo placed order : List ℕ} (x : ℕ) → Placing refers todo placed order → IsIn x order
      → IsIn x placed ⊎ ((y : ℕ) → IsIn y (refers x) → IsIn y order)
  is_closed x all_placed i = inl i
  is_closed x (is_placed j p) i = is_closed x p i
  is_closed x (place_now {r} {todo} {placed} {order} n p) i = elim (is_closed x p i) [
    | inl j ↦ elim (in_parts x placed r j) [
      | inl k ↦ inl k
      | inr e ↦ inr (λ y k. is_visited y p (in_left y (refers r) todo (subst (λ (z : ℕ). IsIn y (refers z)) e k)))
    ]
    | inr c ↦ inr c
  ]

  -- the roots that are placed on the way
  abbrev pub Further : List ℕ → List ℕ → Type 0
  Further placed order = (more : List ℕ) × (order ≡ placed ++ more) × IsDistinct more
      × ((x : ℕ) → IsIn x more → IsIn x placed → ⊥)

  pub are_further : {todo placed order : List ℕ} → Placing refers todo placed order → Further placed order
  are_further (all_placed {order}) = ([], sym (append-nil order), tt, λ x i j. i)
  are_further (is_placed j p) = are_further p
  are_further (place_now {r} {todo} {placed} {order} n p) =
      let m = are_further p in (
        r ∷ m.0,
        m.1 ∙ append_assoc placed (r ∷ []) m.0,
        ((λ i. m.3 r i (in_right r placed (r ∷ []) (inl refl))), m.2),
        later m.0 m.3,
      )
    where
      later : (ms : List ℕ) → ((x : ℕ) → IsIn x ms → IsIn x (placed ++ r ∷ []) → ⊥) → (x : ℕ) → IsIn x (r ∷ ms)
          → IsIn x placed → ⊥
      later ms k x (inl e) j = n (subst (λ (z : ℕ). IsIn z placed) e j)
      later ms k x (inr i) j = k x i (in_left x placed (r ∷ []) j)

-- one beginning of a list leaves one end
pub same_end : (xs ys zs : List ℕ) → xs ++ ys ≡ xs ++ zs → ys ≡ zs
same_end [] ys zs e = e
same_end (x ∷ xs) ys zs e = same_end xs ys zs (ap tail e)
  where
    tail : List ℕ → List ℕ
    tail [] = []
    tail (y ∷ ys) = ys

-- Places.

-- the item at the place of a number that is there
pub at_position : (h : ℕ → Value) (order : List ℕ) (k : ℕ) → IsIn k order
    → nth_value (map h order) (position order k) ≡ h k
at_position h [] k i = absurd i
at_position h (r ∷ rs) k (inl e) = rw (eq-eqb k r e) (ap h (sym e))
at_position h (r ∷ rs) k (inr i) = here (nat_eq k r) refl (at_position h rs k i)
  where
    here : (b : Bool) → nat_eq k r ≡ b → nth_value (map h rs) (position rs k) ≡ h k
        → nth_value (map h (r ∷ rs)) (cond b 0 (suc (position rs k))) ≡ h k
    here true e g = ap h (sym (eqb-true k r e))
    here false e g = g

-- Numbers without those that are taken away.

abbrev pub below : List ℕ → ℕ → ℕ
below inner r = length (filter (λ k. nat_lt k r) inner)

pub not_in : (k : ℕ) (xs : List ℕ) → (IsIn k xs → ⊥) → has k xs ≡ false
not_in k xs n = here (has k xs) refl
  where
    here : (b : Bool) → has k xs ≡ b → b ≡ false
    here true e = absurd (n (has_in k xs e))
    here false e = refl

abbrev pub one_if : Bool → ℕ
one_if b = cond b 1 0

-- one more number is below r + 1 where r is taken away
pub below_next : (inner : List ℕ) (r : ℕ) → IsDistinct inner
    → below inner (suc r) ≡ below inner r + one_if (has r inner)
below_next [] r d = refl
below_next (x ∷ xs) r (g, d) = here (nat_lt x r) refl (nat_lt x (suc r)) refl (nat_eq r x) refl (below_next xs r d)
  where
    here : (a : Bool) → nat_lt x r ≡ a → (b : Bool) → nat_lt x (suc r) ≡ b → (c : Bool) → nat_eq r x ≡ c
        → below xs (suc r) ≡ below xs r + one_if (has r xs)
        → length (cond b (x ∷ filter (λ k. nat_lt k (suc r)) xs) (filter (λ k. nat_lt k (suc r)) xs))
        ≡ length (cond a (x ∷ filter (λ k. nat_lt k r) xs) (filter (λ k. nat_lt k r) xs)) + one_if (c || has r xs)
    here true ha true hb true hc n = let l = ltb-true x r ha in let q = eqb-true r x hc in absurd (omega (arith, l, q))
    here true ha true hb false hc n = let m : suc (below xs (suc r)) ≡ suc (below xs r) + one_if (has r xs) =
        omega (arith, n) in m
    here true ha false hb c hc n = let l = ltb-true x r ha in let m = ltb-false x (suc r) hb in
        absurd (omega (arith, l, m))
    here false ha true hb true hc n =
        let q = eqb-true r x hc in
        let z : has r xs ≡ false = not_in r xs (λ i. g (subst (λ (k : ℕ). IsIn k xs) q i)) in
        let m : below xs (suc r) ≡ below xs r + 0 = rw z at n in
        let w : suc (below xs (suc r)) ≡ below xs r + 1 = omega (arith, m) in w
    here false ha true hb false hc n = let l = ltb-true x (suc r) hb in let m = ltb-false x r ha in
        let q : nat_eq r x ≡ true = eq-eqb r x (omega (arith, l, m)) in absurd (true≢false (sym q ∙ hc))
    here false ha false hb true hc n = let q = eqb-true r x hc in let m = ltb-false x (suc r) hb in
        absurd (omega (arith, q, m))
    here false ha false hb false hc n = n
