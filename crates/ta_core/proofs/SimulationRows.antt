-- Worked values of simulations and reduced automata, each made by hand.
use Rattle.std.proofs.Common.{◌≡◌, inl, inr, ℕ, zero, suc, Bool, true, false, true≢false, ◌&&◌, ◌||◌, ◌⊎◌, cond, nat_eq}
use Rattle.std.proofs.Common.{List, [], ◌∷◌, slice_get, Some, refl, sym, ap, subst, ◌∙◌, arith}
use Rattle.std.proofs.lemmas.Bool.{eq-eqb, eqb-true, or_cases, and_parts}
use Rattle.std.proofs.lemmas.Option.{none-some, same_Some}
use Rattle.fore_base.specs.Lists.{IsIn, Every, Paired, PairedBut}
use Rattle.fore_base.proofs.ListLemmas.{every_in}
use Rattle.ta_core.specs.declared.auto.Rule.{Rule}
use Rattle.ta_core.specs.declared.symbol.Symbol.TheVariants.{Null, Uninit}
use Rattle.ta_core.specs.Auto.{Automaton, automaton}
use Rattle.ta_core.specs.Language.{run_none, at_top}
use Rattle.ta_core.specs.Simulations.{IsMatched, IsDownward, IsSimulated, KeepsRoots, IsUpward, IsSimulatedUpward}
use Rattle.ta_core.specs.Simulations.{IsNeedless, AutoReduced}
use Rattle.ta_core.proofs.Runs.{run_tree}
use Rattle.ta_core.proofs.RunRows.{rule, kind, n, f, null, sides, not_trim}

-- the rules of a state
abbrev of_state : ℕ → List Rule → List Rule
of_state q [] = []
of_state q (r ∷ rs) = cond (nat_eq r.state q) (r ∷ of_state q rs) (of_state q rs)

in_state : (q : ℕ) (rs : List Rule) (r : Rule) → IsIn r rs → r.state ≡ q → IsIn r (of_state q rs)
in_state q [] r i e = absurd i
in_state q (s ∷ rs) r (inl d) e = let t = eq-eqb s.state q (sym (ap (λ (x : Rule). x.state) d) ∙ e) in rw t (inl d)
in_state q (s ∷ rs) r (inr i) e = here (nat_eq s.state q) (in_state q rs r i e)
  where
    here : (b : Bool) → IsIn r (of_state q rs) → IsIn r (cond b (s ∷ of_state q rs) (of_state q rs))
    here true k = inr k
    here false k = k

-- 0 = Null, 1 = Null, 1 = Uninit, 2 = n(0), 3 = n(1), 3 = n(0)
abbrev steps : List Rule
steps = rule 0 Null [] ∷ rule 1 Null [] ∷ rule 1 Uninit [] ∷ rule 2 n (0 ∷ []) ∷ rule 3 n (1 ∷ []) ∷ rule 3 n (0 ∷ [])
    ∷ []

abbrev Any : ℕ → ℕ → Type 0
Any p q = Unit {0}

abbrev Same : ℕ → ℕ → Type 0
Same p q = p ≡ q

-- a rule is matched by one of the state, with its symbol, and with children to which its own are related
matched : IsMatched steps Any (rule 2 n (1 ∷ [])) 3
matched = (rule 3 n (1 ∷ []), inr (inr (inr (inr (inl refl)))), refl, refl, (tt, tt))

not_by_no_rule : IsMatched [] Any (rule 0 Null []) 0 → ⊥
not_by_no_rule m = absurd m.1

not_by_another_state : IsMatched steps Any (rule 0 Null []) 2 → ⊥
not_by_another_state (s, i, e, y, k) = no (in_state 2 steps s i e)
  where
    no : IsIn s (of_state 2 steps) → ⊥
    no (inl d) = let c = ap kind (sym (ap (λ (x : Rule). x.symbol) d) ∙ y) in omega (arith, c)
    no (inr j) = absurd j

not_by_another_symbol : (R : ℕ → ℕ → Type 0) → IsMatched steps R (rule 1 Uninit []) 0 → ⊥
not_by_another_symbol R (s, i, e, y, k) = no (in_state 0 steps s i e)
  where
    no : IsIn s (of_state 0 steps) → ⊥
    no (inl d) = let c = ap kind (sym (ap (λ (x : Rule). x.symbol) d) ∙ y) in omega (arith, c)
    no (inr j) = absurd j

not_by_other_children : IsMatched steps Same (rule 3 n (1 ∷ [])) 2 → ⊥
not_by_other_children (s, i, e, y, k) = no (in_state 2 steps s i e)
  where
    no : IsIn s (of_state 2 steps) → ⊥
    no (inl d) = let c = (subst (λ (x : Rule). Paired Same (1 ∷ []) x.children) d k).0 in omega (arith, c)
    no (inr j) = absurd j

-- the relation of these pairs
abbrev related : List (ℕ × ℕ) → ℕ → ℕ → Bool
related [] p q = false
related (x ∷ xs) p q = (nat_eq p x.0 && nat_eq q x.1) || related xs p q

related_in : (xs : List (ℕ × ℕ)) (p q : ℕ) → related xs p q ≡ true → (x : ℕ × ℕ) × IsIn x xs × (p ≡ x.0) × (q ≡ x.1)
related_in [] p q h = absurd (true≢false (sym h))
related_in (x ∷ xs) p q h = elim (or_cases (nat_eq p x.0 && nat_eq q x.1) (related xs p q) h) [
  | inl k ↦ (let w = and_parts (nat_eq p x.0) (nat_eq q x.1) k in (x, inl refl, eqb-true p x.0 w.0, eqb-true q x.1 w.1))
  | inr k ↦ (let w = related_in xs p q k in (w.0, inr w.1, w.2, w.3))
]

-- it is a simulation where for each pair each rule of the first state is matched by one of the second
abbrev AreMatched : List Rule → List (ℕ × ℕ) → Type 0
AreMatched rules xs = Every
    (λ (x : ℕ × ℕ). Every (λ r. IsMatched rules (λ p q. related xs p q ≡ true) r x.1) (of_state x.0 rules)) xs

simulates : (rules : List Rule) (xs : List (ℕ × ℕ)) (p q : ℕ) → AreMatched rules xs → related xs p q ≡ true
    → IsSimulated rules p q
simulates rules xs p q m e = (related xs, down, e)
  where
    down : IsDownward rules (λ p q. related xs p q ≡ true)
    down r q i h =
        let w = related_in xs r.state q h in
        let each =
        every_in
        (λ (x : ℕ × ℕ). Every (λ r. IsMatched rules (λ p q. related xs p q ≡ true) r x.1) (of_state x.0 rules))
        xs w.0 m w.1 in
        subst (λ (y : ℕ). IsMatched rules (λ p q. related xs p q ≡ true) r y) (sym w.3)
        (every_in (λ (r : Rule). IsMatched rules (λ p q. related xs p q ≡ true) r w.0.1) (of_state w.0.0 rules) r
        each (in_state w.0.0 rules r i w.2))

-- 1 simulates 0, and 3 simulates 2, whose child is simulated by that of one of 3's rules; not the other way
abbrev ups : List (ℕ × ℕ)
ups = (0, 1) ∷ (2, 3) ∷ []

ups_matched : AreMatched steps ups
ups_matched = (
  ((rule 1 Null [], inr (inl refl), refl, refl, tt), tt),
  (((rule 3 n (1 ∷ []), inr (inr (inr (inr (inl refl)))), refl, refl, (refl, tt)), tt), tt),
)

simulated_0 : IsSimulated steps 0 1
simulated_0 = simulates steps ups 0 1 ups_matched refl

simulated_2 : IsSimulated steps 2 3
simulated_2 = simulates steps ups 2 3 ups_matched refl

not_simulated_1 : IsSimulated steps 1 0 → ⊥
not_simulated_1 h = not_by_another_symbol (λ p q. h.0 p q ≡ true) (h.1 (rule 1 Uninit []) 0 (inr (inr (inl refl))) h.2)

not_simulated_3 : IsSimulated steps 3 2 → ⊥
not_simulated_3 h = no (h.1 (rule 3 n (1 ∷ [])) 2 (inr (inr (inr (inr (inl refl))))) h.2)
  where
    no : IsMatched steps (λ p q. h.0 p q ≡ true) (rule 3 n (1 ∷ [])) 2 → ⊥
    no (s, i, e, y, k) = elim (in_state 2 steps s i e) [
      | inl d ↦ not_simulated_1
          (h.0, h.1, (subst (λ (x : Rule). Paired (λ p q. h.0 p q ≡ true) (1 ∷ []) x.children) d k).0)
      | inr j ↦ absurd j
    ]

-- a root state is related to root states alone
roots_kept : KeepsRoots (automaton 4 (0 ∷ 2 ∷ []) steps) Same
roots_kept p q i e = subst (λ (x : ℕ). IsIn x (0 ∷ 2 ∷ [])) e i

roots_not_kept : KeepsRoots (automaton 4 (0 ∷ []) steps) Any → ⊥
roots_not_kept k = elim (k 0 1 (inl refl) tt) [ inl e ↦ absurd (omega (arith, e)) | inr i ↦ absurd i ]

-- 0 = Null, 1 = Null, 2 = n(0), 2 = n(1), 3 = n(1), with root 3: what stands over 0 leads to no root state; what stands
-- over 1 does
abbrev tops : Automaton
tops = automaton 4 (3 ∷ [])
    (rule 0 Null [] ∷ rule 1 Null [] ∷ rule 2 n (0 ∷ []) ∷ rule 2 n (1 ∷ []) ∷ rule 3 n (1 ∷ []) ∷ [])

only_child : (c i p : ℕ) → slice_get (c ∷ []) i ≡ Some p → (i ≡ 0) × (c ≡ p)
only_child c zero p e = (refl, same_Some c p e)
only_child c (suc i) p e = absurd (none-some p e)

abbrev overs : List (ℕ × ℕ)
overs = (0, 1) ∷ (2, 2) ∷ []

no_pair : (p q : ℕ) → related overs p q ≡ true → (p ≡ 0) × (q ≡ 1) ⊎ (p ≡ 2)
no_pair p q h = elim (related_in overs p q h).1 [
  | inl d ↦ (let w = related_in overs p q h in inl (w.2 ∙ ap (λ (x : ℕ × ℕ). x.0) d, w.3 ∙ ap (λ (x : ℕ × ℕ). x.1) d))
  | inr (inl d) ↦ (let w = related_in overs p q h in inr (w.2 ∙ ap (λ (x : ℕ × ℕ). x.0) d))
  | inr (inr j) ↦ absurd j
]

simulated_upward : IsSimulatedUpward tops Same 0 1
simulated_upward = (related overs, (roots, step), refl)
  where
    roots : KeepsRoots tops (λ p q. related overs p q ≡ true)
    roots p q (inl e) h = elim (no_pair p q h)
        [ inl w ↦ (let k = w.0 in absurd (omega (arith, e, k))) | inr k ↦ absurd (omega (arith, e, k)) ]
    roots p q (inr i) h = absurd i

    over_0 : (i p q : ℕ) → slice_get (0 ∷ []) i ≡ Some p → related overs p q ≡ true → (s : Rule) × IsIn s tops.rules
        × (s.symbol ≡ n) × PairedBut Same i p q (0 ∷ []) s.children × (related overs 2 s.state ≡ true)
    over_0 i p q e h =
        let c = only_child 0 i p e in
        elim (no_pair p q h) [
          | inl w ↦ (
            rule 2 n (1 ∷ []),
            inr (inr (inr (inl refl))),
            refl,
            subst (λ (x : ℕ). PairedBut Same x p q (0 ∷ []) (1 ∷ [])) (sym c.0) (c.1, sym w.1, tt),
            refl,
          )
          | inr k ↦ (let d = c.1 in absurd (omega (arith, d, k)))
        ]

    over_1 : (i p q : ℕ) → slice_get (1 ∷ []) i ≡ Some p → related overs p q ≡ true → ⊥
    over_1 i p q e h = let c = (only_child 1 i p e).1 in
        elim (no_pair p q h)
        [ inl w ↦ (let k = w.0 in absurd (omega (arith, c, k))) | inr k ↦ absurd (omega (arith, c, k)) ]

    Over : Rule → ℕ → ℕ → ℕ → Type 0
    Over r i p q = (s : Rule) × IsIn s tops.rules × (s.symbol ≡ r.symbol) × PairedBut Same i p q r.children s.children
        × (related overs r.state s.state ≡ true)

    step : (r : Rule) (i p q : ℕ) → IsIn r tops.rules → slice_get r.children i ≡ Some p → related overs p q ≡ true
        → Over r i p q
    step r i p q (inl d) e h = absurd (none-some p (subst (λ (x : Rule). slice_get x.children i ≡ Some p) d e))
    step r i p q (inr (inl d)) e h = absurd (none-some p (subst (λ (x : Rule). slice_get x.children i ≡ Some p) d e))
    step r i p q (inr (inr (inl d))) e h =
        subst (λ (x : Rule). Over x i p q) (sym d)
        (over_0 i p q (subst (λ (x : Rule). slice_get x.children i ≡ Some p) d e) h)
    step r i p q (inr (inr (inr (inl d)))) e h =
        absurd (over_1 i p q (subst (λ (x : Rule). slice_get x.children i ≡ Some p) d e) h)
    step r i p q (inr (inr (inr (inr (inl d))))) e h =
        absurd (over_1 i p q (subst (λ (x : Rule). slice_get x.children i ≡ Some p) d e) h)
    step r i p q (inr (inr (inr (inr (inr j))))) e h = absurd j

not_simulated_upward : IsSimulatedUpward tops Same 1 0 → ⊥
not_simulated_upward (U, u, e) = no (u.1 (rule 3 n (1 ∷ [])) 0 1 0 (inr (inr (inr (inr (inl refl))))) refl e)
  where
    no : (s : Rule) × IsIn s tops.rules × (s.symbol ≡ n) × PairedBut Same 0 1 0 (1 ∷ []) s.children
        × (U 3 s.state ≡ true) → ⊥
    no (s, inl d, y, b, k) = let c = ap kind (sym (ap (λ (x : Rule). x.symbol) d) ∙ y) in omega (arith, c)
    no (s, inr (inl d), y, b, k) = let c = ap kind (sym (ap (λ (x : Rule). x.symbol) d) ∙ y) in omega (arith, c)
    no (s, inr (inr (inl d)), y, b, k) =
        elim (u.0 3 2 (inl refl) (subst (λ (x : Rule). U 3 x.state ≡ true) d k))
        [ inl c ↦ absurd (omega (arith, c)) | inr j ↦ absurd j ]
    no (s, inr (inr (inr (inl d))), y, b, k) =
        let c = (subst (λ (x : Rule). PairedBut Same 0 1 0 (1 ∷ []) x.children) d b).1 in omega (arith, c)
    no (s, inr (inr (inr (inr (inl d)))), y, b, k) =
        let c = (subst (λ (x : Rule). PairedBut Same 0 1 0 (1 ∷ []) x.children) d b).1 in omega (arith, c)
    no (s, inr (inr (inr (inr (inr j)))), y, b, k) = absurd j

-- 0 = Null, 1 = Null, 2 = f(0, 0), 2 = f(1, 1): the other child has to be related too
not_upward_beside : (U : ℕ → ℕ → Type 0) → U 0 1
    → IsUpward (automaton 3 (2 ∷ []) (rule 2 f (0 ∷ 0 ∷ []) ∷ rule 2 f (1 ∷ 1 ∷ []) ∷ [])) Same U → ⊥
not_upward_beside U u h = no (h.1 (rule 2 f (0 ∷ 0 ∷ [])) 0 0 1 (inl refl) refl u)
  where
    no : (s : Rule) × IsIn s (rule 2 f (0 ∷ 0 ∷ []) ∷ rule 2 f (1 ∷ 1 ∷ []) ∷ []) × (s.symbol ≡ f)
        × PairedBut Same 0 0 1 (0 ∷ 0 ∷ []) s.children × U 2 s.state → ⊥
    no (s, inl d, y, b, k) = let c = (subst (λ (x : Rule). PairedBut Same 0 0 1 (0 ∷ 0 ∷ []) x.children) d b).1 in
        omega (arith, c)
    no (s, inr (inl d), y, b, k) =
        let c = (subst (λ (x : Rule). PairedBut Same 0 0 1 (0 ∷ 0 ∷ []) x.children) d b).2.0 in omega (arith, c)
    no (s, inr (inr j), y, b, k) = absurd j

-- 3 = n(0) is needless beside 3 = n(1), and not the other way; nor is a rule beside one of another state or symbol
needless : IsNeedless steps 5 4
needless = (rule 3 n (0 ∷ []), rule 3 n (1 ∷ []), refl, refl, refl, refl, (simulated_0, tt))

not_needless : IsNeedless steps 4 5 → ⊥
not_needless (r, s, e, d, q, y, k) =
    not_simulated_1
    (subst (λ (x : Rule). Paired (IsSimulated steps) (1 ∷ []) x.children) (sym (same_Some (rule 3 n (0 ∷ [])) s d))
    (subst (λ (x : Rule). Paired (IsSimulated steps) x.children s.children) (sym (same_Some (rule 3 n (1 ∷ [])) r e))
    k)).0

not_needless_elsewhere : IsNeedless steps 3 4 → ⊥
not_needless_elsewhere (r, s, e, d, q, y, k) =
    let a = ap (λ (x : Rule). x.state) (same_Some (rule 2 n (0 ∷ [])) r e) in
    let b = ap (λ (x : Rule). x.state) (same_Some (rule 3 n (1 ∷ [])) s d) in
    omega (arith, a, b, q)

not_needless_otherwise : IsNeedless steps 1 2 → ⊥
not_needless_otherwise (r, s, e, d, q, y, k) =
    let a = ap (λ (x : Rule). kind x.symbol) (same_Some (rule 1 Null []) r e) in
    let b = ap (λ (x : Rule). kind x.symbol) (same_Some (rule 1 Uninit []) s d) in
    let c = ap kind y in
    omega (arith, a, b, c)

-- one state with one leaf is reduced
reduced : AutoReduced (automaton 1 (0 ∷ []) (rule 0 Null [] ∷ []))
reduced = record {
  trim =
      λ q l. (
        0,
        null,
        inl refl,
        at_top (omega (arith, l))
            (run_tree (rule 0 Null [] ∷ []) (rule 0 Null []) [] (inl refl) run_none),
      );
  apart = λ p q l k s t. omega (arith, l, k);
  needed = λ i j h. first i h.0 h.2 ∙ sym (first j h.1 h.3);
}
  where
    first : (i : ℕ) (r : Rule) → slice_get (rule 0 Null [] ∷ []) i ≡ Some r → i ≡ 0
    first zero r e = refl
    first (suc i) r e = absurd (none-some r e)

-- none is reduced that has a state which takes no part, two states that simulate each other, or a rule twice
not_reduced_sides : AutoReduced sides → ⊥
not_reduced_sides h = not_trim h.trim

not_reduced_twins : AutoReduced (automaton 2 (0 ∷ 1 ∷ []) (rule 0 Null [] ∷ rule 1 Null [] ∷ [])) → ⊥
not_reduced_twins h =
    let rules : List Rule = rule 0 Null [] ∷ rule 1 Null [] ∷ [] in
    let a = simulates rules ((0, 1) ∷ []) 0 1 (((rule 1 Null [], inr (inl refl), refl, refl, tt), tt), tt) refl in
    let b = simulates rules ((1, 0) ∷ []) 1 0 (((rule 0 Null [], inl refl, refl, refl, tt), tt), tt) refl in
    let e = h.apart 0 1 (omega arith) (omega arith) a b in
    omega (arith, e)

not_reduced_doubled : AutoReduced (automaton 1 (0 ∷ []) (rule 0 Null [] ∷ rule 0 Null [] ∷ [])) → ⊥
not_reduced_doubled h = let e = h.needed 0 1 (rule 0 Null [], rule 0 Null [], refl, refl, refl, refl, tt) in
    omega (arith, e)
