-- Upward simulations by equality: the greatest one is a preorder, and rules go up along such an order at all places at
-- once.
use Rattle.std.proofs.Common.{◌≡◌, ℕ, zero, suc, ◌<◌, Bool, true, List, [], ◌∷◌, ◌++◌, length, nat_eq}
use Rattle.std.proofs.Common.{slice_get, Some, refl, sym, ap, subst, ◌∙◌}
use Rattle.std.proofs.lemmas.Bool.{eqb-true, eq-eqb}
use Rattle.std.proofs.lemmas.List.{append_assoc}
use Rattle.std.proofs.lemmas.Option.{none-some, same_Some}
use Rattle.fore_base.specs.Lists.{IsIn, Every, Paired, PairedBut}
use Rattle.fore_base.proofs.ListLemmas.{every_in, paired_same}
use Rattle.ta_core.specs.Auto.{Automaton, IsRanked, IsRankedRule}
use Rattle.ta_core.specs.Simulations.{IsUpward, IsSimulatedUpward}
use Rattle.ta_core.specs.declared.auto.Rule.{Rule}
use Rattle.ta_sim.specs.Relations.{AreRowsOf, AreSquare, Relates, entry}
use Rattle.ta_sim.proofs.Rounds.{related_low, row_there}
use Rattle.ta_sim.proofs.Simulated.{through, go_through, through_from}
use Rattle.ta_incl.specs.declared.order.Order.TheVariants.{Equal, Rows}
use Rattle.ta_incl.specs.inner.Orders.{AreOrdered, IsUpwardOrder}

-- what stands at the place of the second list
but_at : (i p q : ℕ) (xs ys : List ℕ) → PairedBut (λ x y. x ≡ y) i p q xs ys → slice_get ys i ≡ Some q
but_at i p q [] ys h = absurd h
but_at i p q (x ∷ xs) [] h = absurd h
but_at zero p q (x ∷ xs) (y ∷ ys) h = let e = h.1 in rw e refl
but_at (suc i) p q (x ∷ xs) (y ∷ ys) h = but_at i p q xs ys h.1

pairs_on : (xs ys zs : List ℕ) → Paired (λ x y. x ≡ y) xs ys → Paired (λ x y. x ≡ y) ys zs
    → Paired (λ x y. x ≡ y) xs zs
pairs_on [] [] [] h k = tt
pairs_on [] [] (z ∷ zs) h k = absurd k
pairs_on [] (y ∷ ys) zs h k = absurd h
pairs_on (x ∷ xs) [] zs h k = absurd h
pairs_on (x ∷ xs) (y ∷ ys) [] h k = absurd k
pairs_on (x ∷ xs) (y ∷ ys) (z ∷ zs) h k = (h.0 ∙ k.0, pairs_on xs ys zs h.1 k.1)

but_on : (i p q r : ℕ) (xs ys zs : List ℕ) → PairedBut (λ x y. x ≡ y) i p q xs ys
    → PairedBut (λ x y. x ≡ y) i q r ys zs → PairedBut (λ x y. x ≡ y) i p r xs zs
but_on i p q r [] ys zs h k = absurd h
but_on i p q r (x ∷ xs) [] zs h k = absurd h
but_on i p q r (x ∷ xs) (y ∷ ys) [] h k = absurd k
but_on zero p q r (x ∷ xs) (y ∷ ys) (z ∷ zs) h k = (h.0, k.1, pairs_on xs ys zs h.2 k.2)
but_on (suc i) p q r (x ∷ xs) (y ∷ ys) (z ∷ zs) h k = (h.0 ∙ k.0, but_on i p q r xs ys zs h.1 k.1)

-- where one relation is within another on what meets P, lists of it that are related but at one place are so by the
-- other
module _ (P : ℕ → Type 0) (D E : ℕ → ℕ → Type 0) (f : (x y : ℕ) → P x → D x y → E x y) where
  pairs_wider : (xs ys : List ℕ) → Every P xs → Paired D xs ys → Paired E xs ys
  pairs_wider [] [] l h = tt
  pairs_wider [] (y ∷ ys) l h = absurd h
  pairs_wider (x ∷ xs) [] l h = absurd h
  pairs_wider (x ∷ xs) (y ∷ ys) l h = (f x y l.0 h.0, pairs_wider xs ys l.1 h.1)

  but_wider : (i p q : ℕ) (xs ys : List ℕ) → Every P xs → PairedBut D i p q xs ys → PairedBut E i p q xs ys
  but_wider i p q [] ys l h = absurd h
  but_wider i p q (x ∷ xs) [] l h = absurd h
  but_wider zero p q (x ∷ xs) (y ∷ ys) l h = (h.0, h.1, pairs_wider xs ys l.1 h.2)
  but_wider (suc i) p q (x ∷ xs) (y ∷ ys) l h = (f x y l.0 h.0, but_wider i p q xs ys l.1 h.1)

module _ (c : Automaton) (proper : IsRanked c) where
  state_low : (r : Rule) → IsIn r c.rules → r.state < c.states
  state_low r i = (every_in (IsRankedRule c.states) c.rules r proper.1 i).0

  -- an upward simulation by one relation is one by a wider one
  upward_by : (D E U : ℕ → ℕ → Type 0) → ((x y : ℕ) → x < c.states → D x y → E x y) → IsUpward c D U → IsUpward c E U
  upward_by D E U f h = (
    h.0,
    λ r i p q at j u.
        let m = h.1 r i p q at j u in
        let low = (every_in (IsRankedRule c.states) c.rules r proper.1 at).1 in
        (m.0, m.1, m.2, but_wider (λ x. x < c.states) D E f i p q r.children m.0.children low m.3, m.4),
  )

  -- one after the other
  through_upward : (R S : ℕ → ℕ → Bool) → IsUpward c (λ x y. x ≡ y) (λ x y. R x y ≡ true)
      → IsUpward c (λ x y. x ≡ y) (λ x y. S x y ≡ true)
      → IsUpward c (λ x y. x ≡ y) (λ x y. through c.states R S x y ≡ true)
  through_upward R S f g = (
    λ p z i h. let w = through_from c.states R S p z h in g.0 w.0 z (f.0 p w.0 i w.2) w.3,
    λ r i p z at j h.
        let w = through_from c.states R S p z h in
        let m = f.1 r i p w.0 at j w.2 in
        let o = g.1 m.0 i w.0 z m.1 (but_at i p w.0 r.children m.0.children m.3) w.3 in (
          o.0,
          o.1,
          o.2 ∙ m.2,
          but_on i p w.0 z r.children m.0.children o.0.children m.3 o.3,
          go_through c.states R S r.state m.0.state o.0.state (state_low m.0 m.1) m.4 o.4,
        ),
  )

  above_through : (p q r : ℕ) → q < c.states → IsSimulatedUpward c (λ x y. x ≡ y) p q
      → IsSimulatedUpward c (λ x y. x ≡ y) q r → IsSimulatedUpward c (λ x y. x ≡ y) p r
  above_through p q r l h k = (
    through c.states h.0 k.0,
    through_upward h.0 k.0 h.1 k.1,
    go_through c.states h.0 k.0 p q r l h.2 k.2,
  )

-- equality is an upward simulation
equal_upward : (c : Automaton) → IsUpward c (λ x y. x ≡ y) (λ x y. nat_eq x y ≡ true)
equal_upward c = (
  (λ x y i u. subst (λ (n : ℕ). IsIn n c.roots) (eqb-true x y u) i),
  λ r i x y at j u. (r, at, refl, but i x y r.children j (eqb-true x y u), eq-eqb r.state r.state refl),
)
  where
    but : (i x y : ℕ) (qs : List ℕ) → slice_get qs i ≡ Some x → x ≡ y → PairedBut (λ x y. x ≡ y) i x y qs qs
    but i x y [] at e = absurd (none-some x at)
    but zero x y (q ∷ qs) at e = let s = same_Some q x at in (s, s ∙ e, paired_same (λ x y. x ≡ y) (λ x. refl) qs)
    but (suc i) x y (q ∷ qs) at e = (refl, but i x y qs at e)

-- a state is below itself
pub below_same : (c : Automaton) (p q : ℕ) → p ≡ q → IsSimulatedUpward c (λ x y. x ≡ y) p q
below_same c p q e = (λ x y. nat_eq x y, equal_upward c, eq-eqb p q e)

pub equal_order : (c : Automaton) → IsUpwardOrder c (AreOrdered Equal)
equal_order c = record {
  same = λ p l. eq-eqb p p refl;
  through = λ p q r l h k. eq-eqb p r (eqb-true p q h ∙ eqb-true q r k);
  upward = equal_upward c;
}

-- the greatest upward simulation by equality
module _ (c : Automaton) (proper : IsRanked c) (same rows : List (List Bool))
    (equal : AreRowsOf c.states (λ p q. p ≡ q) same) (square : AreSquare c.states rows)
    (upward : IsUpward c (Relates same) (Relates rows)) where
  by_equality : IsUpward c (λ x y. x ≡ y) (Relates rows)
  by_equality = upward_by c proper (Relates same) (λ x y. x ≡ y) (Relates rows) (λ x y l h. (equal.only x y h).2) upward

  simulated : (p q : ℕ) → Relates rows p q → IsSimulatedUpward c (λ x y. x ≡ y) p q
  simulated p q h = (λ x y. entry rows x y, by_equality, h)

  module _ (greatest : (p q : ℕ) → p < c.states → q < c.states → IsSimulatedUpward c (Relates same) p q
      → Relates rows p q) where
    related : (p q : ℕ) → p < c.states → q < c.states → IsSimulatedUpward c (λ x y. x ≡ y) p q → Relates rows p q
    related p q l k s =
        greatest p q l k (
          s.0,
          upward_by c proper (λ x y. x ≡ y) (Relates same) (λ x y. s.0 x y ≡ true)
              (λ x y l e. equal.each x y l (subst (λ (z : ℕ). z < c.states) e l) e) s.1,
          s.2,
        )

    pub rows_order : IsUpwardOrder c (AreOrdered (Rows rows))
    rows_order = record {
      same = λ p l. related p p l l (λ x y. nat_eq x y, equal_upward c, eq-eqb p p refl);
      through = λ p q r l h k.
          related p r (subst (λ (n : ℕ). p < n) square.0 (row_there rows p q h))
          (related_low c.states rows q r square k)
          (above_through c proper p q r l (simulated p q h) (simulated q r k));
      upward = by_equality;
    }

-- lists that are the same but in one place
same_list : (xs ys : List ℕ) → Paired (λ x y. x ≡ y) xs ys → ys ≡ xs
same_list [] [] h = refl
same_list [] (y ∷ ys) h = absurd h
same_list (x ∷ xs) [] h = absurd h
same_list (x ∷ xs) (y ∷ ys) h =
    ap (λ (n : ℕ). n ∷ ys) (sym h.0) ∙ ap (λ (ns : List ℕ). x ∷ ns) (same_list xs ys h.1)

same_but : (done ps ys : List ℕ) (p q : ℕ) → PairedBut (λ x y. x ≡ y) (length done) p q (done ++ p ∷ ps) ys
    → ys ≡ done ++ q ∷ ps
same_but [] ps [] p q h = absurd h
same_but [] ps (y ∷ ys) p q h =
    ap (λ (n : ℕ). n ∷ ys) h.1 ∙ ap (λ (ns : List ℕ). q ∷ ns) (same_list ps ys h.2)
same_but (d ∷ done) ps [] p q h = absurd h
same_but (d ∷ done) ps (y ∷ ys) p q h =
    ap (λ (n : ℕ). n ∷ ys) (sym h.0) ∙ ap (λ (ns : List ℕ). d ∷ ns) (same_but done ps ys p q h.1)

-- the item behind some others
at_behind : (xs ys : List ℕ) (p : ℕ) → slice_get (xs ++ p ∷ ys) (length xs) ≡ Some p
at_behind [] ys p = refl
at_behind (x ∷ xs) ys p = at_behind xs ys p

-- a rule with the symbol of r, with these children, and with a state that is above that of r
pub record IsLifted (rules : List Rule) (U : ℕ → ℕ → Type 0) (r : Rule) (qs : List ℕ) : Type 0 where
  pub rule : Rule
  pub in_rules : IsIn rule rules
  pub symbol : rule.symbol ≡ r.symbol
  pub children : rule.children ≡ qs
  pub state : U r.state rule.state

module _ (c : Automaton) (proper : IsRanked c) (U : ℕ → ℕ → Type 0) (order : IsUpwardOrder c U) where
  lift_rest : (done ps qs : List ℕ) (r s : Rule) → IsIn s c.rules → s.symbol ≡ r.symbol → s.children ≡ done ++ ps
      → U r.state s.state → Paired U ps qs → IsLifted c.rules U r (done ++ qs)
  lift_rest done [] [] r s i y e u h =
      record { rule = s; in_rules = i; symbol = y; children = e; state = u }
  lift_rest done [] (q ∷ qs) r s i y e u h = absurd h
  lift_rest done (p ∷ ps) [] r s i y e u h = absurd h
  lift_rest done (p ∷ ps) (q ∷ qs) r s i y e u h =
      let m = order.upward.1 s (length done) p q i
      (subst (λ (ns : List ℕ). slice_get ns (length done) ≡ Some p) (sym e) (at_behind done ps p)) h.0 in
      let but : PairedBut (λ x y. x ≡ y) (length done) p q (done ++ p ∷ ps) m.0.children =
      subst (λ (ns : List ℕ). PairedBut (λ x y. x ≡ y) (length done) p q ns m.0.children) e m.3 in
      let k : m.0.children ≡ (done ++ q ∷ []) ++ ps =
      same_but done ps m.0.children p q but ∙ sym (append_assoc done (q ∷ []) ps) in
      subst (IsLifted c.rules U r) (append_assoc done (q ∷ []) qs)
      (lift_rest (done ++ q ∷ []) ps qs r m.0 m.1 (m.2 ∙ y) k
      (order.through r.state s.state m.0.state (state_low c proper s i) u m.4) h.1)

  -- a rule with children above those of r, place by place
  pub lift : (r : Rule) (qs : List ℕ) → IsIn r c.rules → Paired U r.children qs → IsLifted c.rules U r qs
  lift r qs i h = lift_rest [] r.children qs r r i refl refl (order.same r.state (state_low c proper r i)) h
