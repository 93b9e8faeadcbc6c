-- Upward simulations of two automata, each on its own, are parts of one on both side by side.
use Rattle.std.proofs.Common.{◌≡◌, inl, inr, ℕ, zero, suc, ◌<◌, ◌≤◌, ◌+◌, ◌-◌, Bool, true, ◌&&◌, nat_lt, List, [], ◌∷◌}
use Rattle.std.proofs.Common.{map, slice_get, Some, refl, sym, ap, subst, ◌∙◌, arith}
use Rattle.std.proofs.lemmas.Bool.{and_from, and_parts, lt-ltb, ltb-true}
use Rattle.std.proofs.lemmas.Option.{none-some, same_Some}
use Rattle.fore_base.specs.Lists.{IsIn, Paired, PairedBut}
use Rattle.fore_base.proofs.ListLemmas.{every_in, in_append, in_from_place, in_left, in_map, in_mapped, in_right}
use Rattle.ta_core.specs.Auto.{Automaton, IsRanked, IsRankedRule}
use Rattle.ta_core.specs.Joined.{shift, united}
use Rattle.ta_core.specs.Renumbered.{renumbered}
use Rattle.ta_core.specs.Simulations.{IsUpward}
use Rattle.ta_core.specs.declared.auto.Rule.{Rule}
use Rattle.ta_incl.specs.declared.order.Order.{Order}
use Rattle.ta_incl.specs.Inclusions.{IsBelow}
use Rattle.ta_incl.specs.inner.Orders.{below, AreOrdered}

-- the order, on the first n states alone
abbrev on_left : ℕ → Order → ℕ → ℕ → Bool
on_left n order x y = nat_lt x n && (nat_lt y n && below order x y)

-- the order, on the states behind the first n
abbrev on_right : ℕ → Order → ℕ → ℕ → Bool
on_right n order x y = nat_lt n (suc x) && (nat_lt n (suc y) && below order (x - n) (y - n))

module _ (a b : Automaton) (pa : IsRanked a) (pb : IsRanked b) (order : Order) where
  child_low : (c : Automaton) → IsRanked c → (r : Rule) (i x : ℕ) → IsIn r c.rules → slice_get r.children i ≡ Some x
      → x < c.states
  child_low c proper r i x at j =
      every_in (λ (q : ℕ). q < c.states) r.children x (every_in (IsRankedRule c.states) c.rules r proper.1 at).1
      (in_from_place r.children i x j)

  -- a state behind those of a is that of b
  shifted_at : (qs : List ℕ) (i x : ℕ) → slice_get (map (shift a.states) qs) i ≡ Some x → (z : ℕ)
      × (slice_get qs i ≡ Some z) × (x ≡ shift a.states z)
  shifted_at [] i x e = absurd (none-some x e)
  shifted_at (q ∷ qs) zero x e = (q, refl, sym (same_Some (shift a.states q) x e))
  shifted_at (q ∷ qs) (suc i) x e = shifted_at qs i x e

  from_left : (x y : ℕ) → on_left a.states order x y ≡ true → (x < a.states) × (y < a.states) × AreOrdered order x y
  from_left x y h =
      let f = and_parts (nat_lt x a.states) (nat_lt y a.states && below order x y) h in
      let g = and_parts (nat_lt y a.states) (below order x y) f.1 in
      (ltb-true x a.states f.0, ltb-true y a.states g.0, g.1)

  to_left : (x y : ℕ) → x < a.states → y < a.states → AreOrdered order x y → on_left a.states order x y ≡ true
  to_left x y l k h =
      and_from (nat_lt x a.states) (nat_lt y a.states && below order x y) (lt-ltb x a.states l)
      (and_from (nat_lt y a.states) (below order x y) (lt-ltb y a.states k) h)

  pub left_below : IsUpward a (λ x y. x ≡ y) (AreOrdered order) → (p q : ℕ) → p < a.states → q < a.states
      → AreOrdered order p q → IsBelow a b p q
  left_below up p q l k h = (
    on_left a.states order,
    (
      (λ x y i o. let f = from_left x y o in elim (in_append x a.roots (map (shift a.states) b.roots) i) [
        | inl j ↦ in_left y a.roots (map (shift a.states) b.roots) (up.0 x y j f.2)
        | inr j ↦ absurd (let m = in_mapped (shift a.states) x b.roots j in
            let e = m.2 in let low = f.0 in no_shift x m.0 e low)
      ]),
      λ r i x y at j o. let f = from_left x y o in
          elim (in_append r a.rules (map (renumbered (shift a.states)) b.rules) at) [
            | inl in_a ↦ (
                let m = up.1 r i x y in_a j f.2 in (
                  m.0,
                  in_left m.0 a.rules (map (renumbered (shift a.states)) b.rules) m.1,
                  m.2,
                  m.3,
                  to_left r.state m.0.state (every_in (IsRankedRule a.states) a.rules r pa.1 in_a).0
                      (every_in (IsRankedRule a.states) a.rules m.0 pa.1 m.1).0 m.4,
                ))
            | inr in_b ↦ absurd (
                let m = in_mapped (renumbered (shift a.states)) r b.rules in_b in
                let z = shifted_at m.0.children i x (subst (λ (s : Rule). slice_get s.children i ≡ Some x) m.2 j) in
                no_shift x z.0 z.2 f.0)
          ],
    ),
    to_left p q l k h,
  )
    where
      no_shift : (x z : ℕ) → x ≡ z + a.states → x < a.states → ⊥
      no_shift x z e l = omega (arith, e, l)

  from_right : (x y : ℕ) → on_right a.states order x y ≡ true → (a.states ≤ x) × (a.states ≤ y)
      × AreOrdered order (x - a.states) (y - a.states)
  from_right x y h =
      let f = and_parts (nat_lt a.states (suc x))
      (nat_lt a.states (suc y) && below order (x - a.states) (y - a.states)) h in
      let g = and_parts (nat_lt a.states (suc y)) (below order (x - a.states) (y - a.states)) f.1 in
      let l = ltb-true a.states (suc x) f.0 in
      let k = ltb-true a.states (suc y) g.0 in
      (omega (arith, l), omega (arith, k), g.1)

  to_right : (m k : ℕ) → AreOrdered order m k → on_right a.states order (shift a.states m) (shift a.states k) ≡ true
  to_right m k h =
      and_from (nat_lt a.states (suc (m + a.states)))
      (nat_lt a.states (suc (k + a.states)) && below order (m + a.states - a.states) (k + a.states - a.states))
      (lt-ltb a.states (suc (m + a.states)) (omega arith))
      (and_from (nat_lt a.states (suc (k + a.states))) (below order (m + a.states - a.states) (k + a.states - a.states))
      (lt-ltb a.states (suc (k + a.states)) (omega arith))
      (rw (back m, back k) h))
    where
      back : (n : ℕ) → n + a.states - a.states ≡ n
      back n = omega arith

  behind : (x z : ℕ) → x ≡ shift a.states z → x - a.states ≡ z
  behind x z e = omega (arith, e)

  again : (y : ℕ) → a.states ≤ y → shift a.states (y - a.states) ≡ y
  again y l = omega (arith, l)

  pairs_shifted : (xs ys : List ℕ) → Paired (λ x y. x ≡ y) xs ys
      → Paired (λ x y. x ≡ y) (map (shift a.states) xs) (map (shift a.states) ys)
  pairs_shifted [] [] h = tt
  pairs_shifted [] (y ∷ ys) h = absurd h
  pairs_shifted (x ∷ xs) [] h = absurd h
  pairs_shifted (x ∷ xs) (y ∷ ys) h = (ap (shift a.states) h.0, pairs_shifted xs ys h.1)

  but_shifted : (i p q : ℕ) (xs ys : List ℕ) → PairedBut (λ x y. x ≡ y) i p q xs ys
      → PairedBut (λ x y. x ≡ y) i (shift a.states p) (shift a.states q) (map (shift a.states) xs)
      (map (shift a.states) ys)
  but_shifted i p q [] ys h = absurd h
  but_shifted i p q (x ∷ xs) [] h = absurd h
  but_shifted zero p q (x ∷ xs) (y ∷ ys) h = (ap (shift a.states) h.0, ap (shift a.states) h.1, pairs_shifted xs ys h.2)
  but_shifted (suc i) p q (x ∷ xs) (y ∷ ys) h = (ap (shift a.states) h.0, but_shifted i p q xs ys h.1)

  pub right_below : IsUpward b (λ x y. x ≡ y) (AreOrdered order) → (m k : ℕ) → AreOrdered order m k
      → IsBelow a b (shift a.states m) (shift a.states k)
  right_below up m k h = (
    on_right a.states order,
    (
      (λ x y i o. let f = from_right x y o in elim (in_append x a.roots (map (shift a.states) b.roots) i) [
        | inl j ↦ absurd (no_low x f.0 (every_in (λ (q : ℕ). q < a.states) a.roots x pa.0 j))
        | inr j ↦ (
            let z = in_mapped (shift a.states) x b.roots j in
            let root = up.0 z.0 (y - a.states) z.1
            (subst (λ (n : ℕ). AreOrdered order n (y - a.states)) (behind x z.0 z.2) f.2) in
            in_right y a.roots (map (shift a.states) b.roots)
            (subst (λ (n : ℕ). IsIn n (map (shift a.states) b.roots)) (again y f.1)
            (in_map (shift a.states) (y - a.states) b.roots root)))
      ]),
      λ r i x y at j o. let f = from_right x y o in
          elim (in_append r a.rules (map (renumbered (shift a.states)) b.rules) at) [
            | inl in_a ↦ absurd (no_low x f.0 (child_low a pa r i x in_a j))
            | inr in_b ↦ matched r i x y j f (in_mapped (renumbered (shift a.states)) r b.rules in_b)
          ],
    ),
    to_right m k h,
  )
    where
      no_low : (x : ℕ) → a.states ≤ x → x < a.states → ⊥
      no_low x g l = omega (arith, g, l)

      matched : (r : Rule) (i x y : ℕ) → slice_get r.children i ≡ Some x
          → (a.states ≤ x) × (a.states ≤ y) × AreOrdered order (x - a.states) (y - a.states)
          → (s : Rule) × IsIn s b.rules × (r ≡ renumbered (shift a.states) s)
          → (s : Rule) × IsIn s (united a b).rules × (s.symbol ≡ r.symbol)
          × PairedBut (λ x y. x ≡ y) i x y r.children s.children × (on_right a.states order r.state s.state ≡ true)
      matched r i x y j f (s, in_b, e) =
          let z = shifted_at s.children i x (subst (λ (t : Rule). slice_get t.children i ≡ Some x) e j) in
          let w = up.1 s i z.0 (y - a.states) in_b z.1
          (subst (λ (n : ℕ). AreOrdered order n (y - a.states)) (behind x z.0 z.2) f.2) in
          let but : PairedBut (λ x y. x ≡ y) i x y (map (shift a.states) s.children)
          (map (shift a.states) w.0.children) =
          subst (λ (n : ℕ). PairedBut (λ x y. x ≡ y) i n y (map (shift a.states) s.children)
          (map (shift a.states) w.0.children)) (sym z.2)
          (subst (λ (n : ℕ). PairedBut (λ x y. x ≡ y) i (shift a.states z.0) n (map (shift a.states) s.children)
          (map (shift a.states) w.0.children)) (again y f.1)
          (but_shifted i z.0 (y - a.states) s.children w.0.children w.3)) in (
            renumbered (shift a.states) w.0,
            in_right (renumbered (shift a.states) w.0) a.rules (map (renumbered (shift a.states)) b.rules)
                (in_map (renumbered (shift a.states)) w.0 b.rules w.1),
            w.2 ∙ ap (λ (t : Rule). t.symbol) (sym e),
            subst (λ (t : Rule). PairedBut (λ x y. x ≡ y) i x y t.children (map (shift a.states) w.0.children)) (sym e)
                but,
            subst (λ (t : Rule). on_right a.states order t.state (shift a.states w.0.state) ≡ true) (sym e)
                (to_right s.state w.0.state w.4),
          )
