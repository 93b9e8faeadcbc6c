-- One item taken out of rearranged lists.
use Rattle.std.proofs.Common.{◌≡◌, ◌⊎◌, inl, inr, List, [], ◌∷◌, ◌++◌, refl, sym, ap, subst, ◌∙◌}
use Rattle.fore_base.specs.Lists.{IsIn, IsDistinct}
use Rattle.fore_base.proofs.ListLemmas.{in_left, in_right}
use Rattle.fa_core.specs.Rearranged.{Rearranged, empty, keep, swap, chain}
use Rattle.fa_core.proofs.Rearranging.{same, equal, back}

module _ {X : Type 0} where
  -- us is xs without one x
  abbrev pub Out : X → List X → List X → Type 0
  Out x [] us = ⊥
  Out x (y ∷ ys) us = ((x ≡ y) × (us ≡ ys)) ⊎ ((vs : List X) × (us ≡ y ∷ vs) × Out x ys vs)

  pub out_is : (x : X) (xs us : List X) → Out x xs us → Rearranged xs (x ∷ us)
  out_is x [] us o = absurd o
  out_is x (y ∷ ys) us (inl (e, f)) = rw (e, f) (same (y ∷ ys))
  out_is x (y ∷ ys) us (inr (vs, f, o)) =
      subst (λ (w : List X). Rearranged (y ∷ ys) (x ∷ w)) (sym f) (chain (keep y (out_is x ys vs o)) (swap y x vs))

  -- where an item is taken out of a list, it is taken out of the rearranged list
  pub carry : (x : X) {xs ys : List X} (us : List X) → Rearranged xs ys → Out x xs us → (vs : List X) × Out x ys vs
      × Rearranged us vs
  carry x us empty o = absurd o
  carry x us (keep y {ys = ys} r) (inl (e, f)) = (ys, inl (e, refl), subst (λ (w : List X). Rearranged w ys) (sym f) r)
  carry x us (keep y r) (inr (vs, f, o)) =
      let k = carry x vs r o in
      (y ∷ k.0, inr (k.0, refl, k.1), subst (λ (w : List X). Rearranged w (y ∷ k.0)) (sym f) (keep y k.2))
  carry x us (swap a b l) (inl (e, f)) = (b ∷ l, inr (l, refl, inl (e, refl)), equal f)
  carry x us (swap a b l) (inr (vs, f, inl (e, g))) = (a ∷ l, inl (e, refl), equal (f ∙ ap (λ (w : List X). a ∷ w) g))
  carry x us (swap a b l) (inr (vs, f, inr (ws, g, o))) = (
    b ∷ (a ∷ ws),
    inr (a ∷ ws, refl, inr (ws, refl, o)),
    subst (λ (w : List X). Rearranged w (b ∷ (a ∷ ws))) (sym (f ∙ ap (λ (w : List X). a ∷ w) g)) (swap a b ws),
  )
  carry x us (chain p q) o =
      let k = carry x us p o in
      let l = carry x k.0 q k.1 in
      (l.0, l.1, chain k.2 l.2)

  -- what is left does not depend on where the item was taken out
  pub two_out : (x : X) (xs us vs : List X) → Out x xs us → Out x xs vs → Rearranged us vs
  two_out x [] us vs o p = absurd o
  two_out x (y ∷ ys) us vs (inl (e, f)) (inl (g, h)) = equal (f ∙ sym h)
  two_out x (y ∷ ys) us vs (inl (e, f)) (inr (ws, g, p)) =
      chain (equal f) (chain (out_is x ys ws p) (equal (ap (λ (z : X). z ∷ ws) e ∙ sym g)))
  two_out x (y ∷ ys) us vs (inr (ws, g, p)) (inl (e, f)) =
      back (chain (equal f) (chain (out_is x ys ws p) (equal (ap (λ (z : X). z ∷ ws) e ∙ sym g))))
  two_out x (y ∷ ys) us vs (inr (ws, g, p)) (inr (zs, h, q)) =
      chain (equal g) (chain (keep y (two_out x ys ws zs p q)) (equal (sym h)))

  -- one item less on both sides
  pub cancel : (x : X) (xs ys : List X) → Rearranged (x ∷ xs) (x ∷ ys) → Rearranged xs ys
  cancel x xs ys r =
      let k = carry x xs r (inl (refl, refl)) in
      chain k.2 (two_out x (x ∷ ys) k.0 ys k.1 (inl (refl, refl)))

  -- a list taken off the front of both sides
  pub cancel_all : (zs xs ys : List X) → Rearranged (zs ++ xs) (zs ++ ys) → Rearranged xs ys
  cancel_all [] xs ys r = r
  cancel_all (z ∷ zs) xs ys r = cancel_all zs xs ys (cancel z (zs ++ xs) (zs ++ ys) r)

  pub in_rearranged : (x : X) {xs ys : List X} → Rearranged xs ys → IsIn x xs → IsIn x ys
  in_rearranged x empty h = h
  in_rearranged x (keep y r) (inl e) = inl e
  in_rearranged x (keep y r) (inr h) = inr (in_rearranged x r h)
  in_rearranged x (swap a b l) (inl e) = inr (inl e)
  in_rearranged x (swap a b l) (inr (inl e)) = inl e
  in_rearranged x (swap a b l) (inr (inr h)) = inr (inr h)
  in_rearranged x (chain p q) h = in_rearranged x q (in_rearranged x p h)

  -- no item stands twice in rearranged lists, if none does in the first
  pub distinct_moved : {xs ys : List X} → Rearranged xs ys → IsDistinct xs → IsDistinct ys
  distinct_moved empty h = h
  distinct_moved (keep y r) (g, h) = (λ i. g (in_rearranged y (back r) i), distinct_moved r h)
  distinct_moved (swap a b l) (g, (h, k)) = (twice, ((λ i. g (inr i)), k))
    where
      twice : IsIn b (a ∷ l) → ⊥
      twice (inl e) = g (inl (sym e))
      twice (inr i) = h i
  distinct_moved (chain p q) h = distinct_moved q (distinct_moved p h)

  -- an item of the first part is none of the second
  pub none_in_both : (x : X) (xs ys : List X) → IsDistinct (xs ++ ys) → IsIn x xs → IsIn x ys → ⊥
  none_in_both x [] ys h i j = i
  none_in_both x (y ∷ xs) ys (g, h) (inl e) j = g (in_right y xs ys (subst (λ (z : X). IsIn z ys) e j))
  none_in_both x (y ∷ xs) ys (g, h) (inr i) j = none_in_both x xs ys h i j

  pub distinct_parts : (xs ys : List X) → IsDistinct (xs ++ ys) → IsDistinct xs × IsDistinct ys
  distinct_parts [] ys h = (tt, h)
  distinct_parts (x ∷ xs) ys (g, h) = let k = distinct_parts xs ys h in (((λ i. g (in_left x xs ys i)), k.0), k.1)
