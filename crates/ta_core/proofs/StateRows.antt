-- Worked values of what automata keep of the trees of each state, and of the states to which a symbol leads, each made
-- by hand.
use Rattle.std.proofs.Common.{◌≡◌, inl, inr, ℕ, zero, suc, true, false, true≢false, List, [], ◌∷◌, refl, sym, ap, subst}
use Rattle.std.proofs.Common.{◌∙◌, arith}
use Rattle.fore_base.specs.Lists.{IsIn, Paired}
use Rattle.fore_base.specs.Marks.{IsMarked, marked_each}
use Rattle.ta_core.specs.declared.auto.Rule.{Rule}
use Rattle.ta_core.specs.declared.symbol.Symbol.TheVariants.{Null, Uninit}
use Rattle.ta_core.specs.declared.tree.Tree.{Tree}
use Rattle.ta_core.specs.Auto.{Automaton, automaton}
use Rattle.ta_core.specs.Language.{RunOf, run, RunEach, run_none}
use Rattle.ta_core.specs.Renumbered.{IsSublist, sub_none, sub_skip, sub_keep, StandsFor}
use Rattle.ta_core.specs.States.{SameTrees, KeepsStates, SameRootRuns}
use Rattle.ta_core.specs.Tops.{AreStatesOf, Tops}
use Rattle.ta_core.proofs.Runs.{run_tree, along}
use Rattle.ta_core.proofs.RunRows.{rule, kind, n, null, uninit, top}

-- 0 = Null, 1 = Uninit; 0 = Null, 0 = Uninit; and 0 = Uninit alone
abbrev two : Automaton
two = automaton 2 (0 ∷ 1 ∷ []) (rule 0 Null [] ∷ rule 1 Uninit [] ∷ [])

abbrev joined : Automaton
joined = automaton 1 (0 ∷ []) (rule 0 Null [] ∷ rule 0 Uninit [] ∷ [])

abbrev second : Automaton
second = automaton 1 (0 ∷ []) (rule 0 Uninit [] ∷ [])

-- a leaf has a run of two to its own state alone
null_of_two : (q : ℕ) → RunOf two.rules q null → q ≡ 0
null_of_two q r = no (top Null [] r)
  where
    no : (r : Rule) × IsIn r two.rules × (r.state ≡ q) × (r.symbol ≡ Null) × RunEach two.rules r.children [] → q ≡ 0
    no (r, inl d, e, y, k) = sym e ∙ ap (λ (x : Rule). x.state) d
    no (r, inr (inl d), e, y, k) = let c = ap kind (sym (ap (λ (x : Rule). x.symbol) d) ∙ y) in
        absurd (omega (arith, c))
    no (r, inr (inr j), e, y, k) = absurd j

uninit_of_two : (q : ℕ) → RunOf two.rules q uninit → q ≡ 1
uninit_of_two q r = no (top Uninit [] r)
  where
    no : (r : Rule) × IsIn r two.rules × (r.state ≡ q) × (r.symbol ≡ Uninit) × RunEach two.rules r.children [] → q ≡ 1
    no (r, inl d, e, y, k) = let c = ap kind (sym (ap (λ (x : Rule). x.symbol) d) ∙ y) in absurd (omega (arith, c))
    no (r, inr (inl d), e, y, k) = sym e ∙ ap (λ (x : Rule). x.state) d
    no (r, inr (inr j), e, y, k) = absurd j

null_of_second : (q : ℕ) → RunOf second.rules q null → ⊥
null_of_second q r = no (top Null [] r)
  where
    no : (r : Rule) × IsIn r second.rules × (r.state ≡ q) × (r.symbol ≡ Null) × RunEach second.rules r.children [] → ⊥
    no (r, inl d, e, y, k) = let c = ap kind (sym (ap (λ (x : Rule). x.symbol) d) ∙ y) in omega (arith, c)
    no (r, inr j, e, y, k) = absurd j

null_0 : RunOf two.rules 0 null
null_0 = run_tree two.rules (rule 0 Null []) [] (inl refl) run_none

-- so the marks of the states of a leaf are those of its state, as many as there are states
states_of_null : AreStatesOf two.rules 2 null (true ∷ false ∷ [])
states_of_null = record { long = refl; only = only; each = λ q r. let e = null_of_two q r in rw e refl }
  where
    only : (q : ℕ) → IsMarked (true ∷ false ∷ []) q → RunOf two.rules q null
    only zero m = null_0
    only (suc zero) m = absurd (true≢false (sym m))
    only (suc (suc q)) m = absurd (true≢false (sym m))

not_states_of_null : AreStatesOf two.rules 2 null (true ∷ true ∷ []) → ⊥
not_states_of_null h = let e = null_of_two 1 (h.only 1 refl) in omega (arith, e)

joined_null : RunOf joined.rules 0 null
joined_null = run_tree joined.rules (rule 0 Null []) [] (inl refl) run_none

joined_uninit : RunOf joined.rules 0 uninit
joined_uninit = run_tree joined.rules (rule 0 Uninit []) [] (inr (inl refl)) run_none

second_uninit : RunOf second.rules 0 uninit
second_uninit = run_tree second.rules (rule 0 Uninit []) [] (inl refl) run_none

-- state 0 of second has the trees of state 1 of two; state 0 of joined has those of no state of two
same_trees : SameTrees two 1 second 0
same_trees t = (
  λ r. along second.rules two.rules (λ (p q : ℕ). q ≡ 1)
      (λ r q ts i e k. (rule 1 Uninit [], inr (inl refl), sym e, symbol_there r i, none_there r i)) 1 refl r,
  λ r. along two.rules second.rules (λ (p q : ℕ). (p ≡ 1) × (q ≡ 0))
      (λ r q ts i e k. (rule 0 Uninit [], inl refl, sym e.1, symbol_here r i e.0, none_here r i)) 0 (refl, refl) r,
)
  where
    symbol_there : (r : Rule) → IsIn r second.rules → Uninit ≡ r.symbol
    symbol_there r (inl d) = sym (ap (λ (x : Rule). x.symbol) d)
    symbol_there r (inr j) = absurd j

    none_there : (r : Rule) → IsIn r second.rules → Paired (λ (p q : ℕ). q ≡ 1) r.children []
    none_there r (inl d) = subst (λ (x : Rule). Paired (λ (p q : ℕ). q ≡ 1) x.children []) (sym d) tt
    none_there r (inr j) = absurd j

    symbol_here : (r : Rule) → IsIn r two.rules → r.state ≡ 1 → Uninit ≡ r.symbol
    symbol_here r (inl d) e = let c = ap (λ (x : Rule). x.state) d in absurd (omega (arith, c, e))
    symbol_here r (inr (inl d)) e = sym (ap (λ (x : Rule). x.symbol) d)
    symbol_here r (inr (inr j)) e = absurd j

    none_here : (r : Rule) → IsIn r two.rules → Paired (λ (p q : ℕ). (p ≡ 1) × (q ≡ 0)) r.children []
    none_here r (inl d) = subst (λ (x : Rule). Paired (λ (p q : ℕ). (p ≡ 1) × (q ≡ 0)) x.children []) (sym d) tt
    none_here r (inr (inl d)) = subst (λ (x : Rule). Paired (λ (p q : ℕ). (p ≡ 1) × (q ≡ 0)) x.children []) (sym d) tt
    none_here r (inr (inr j)) = absurd j

kept : KeepsStates two second
kept p l =
    (1, omega arith, subst (λ (x : ℕ). SameTrees two 1 second x) (let e : 0 ≡ p = omega (arith, l) in e) same_trees)

not_kept : KeepsStates two joined → ⊥
not_kept h =
    let w = h 0 (omega arith) in
    let a = null_of_two w.0 ((w.2 null).0 joined_null) in
    let b = uninit_of_two w.0 ((w.2 uninit).0 joined_uninit) in
    omega (arith, a, b)

-- nor has it fewer trees; and what is no state of the first automaton does not serve
not_fewer_trees : SameTrees joined 0 second 0 → ⊥
not_fewer_trees h = null_of_second 0 ((h null).1 joined_null)

not_kept_of_none : KeepsStates (automaton 0 [] two.rules) second → ⊥
not_kept_of_none h = let w = h 0 (omega arith) in let l = w.1 in omega (arith, l)

-- each root state has a partner with its trees, in both directions; one without trees needs none
same_roots : SameRootRuns two two
same_roots = ((λ p i. (p, i, λ t. (λ r. r, λ r. r))), (λ q i h. (q, i, λ t. (λ r. r, λ r. r))))

not_same_roots : SameRootRuns two second → ⊥
not_same_roots h = let w = h.1 0 (inl refl) (null, null_0) in null_of_second w.0 ((w.2 null).1 null_0)

not_same_roots_turned : SameRootRuns (automaton 2 (0 ∷ []) two.rules) second → ⊥
not_same_roots_turned h = no (h.0 0 (inl refl))
  where
    no : (q : ℕ) × IsIn q (0 ∷ []) × SameTrees (automaton 2 (0 ∷ []) two.rules) q second 0 → ⊥
    no (q, inl e, s) = let k = uninit_of_two q ((s uninit).0 second_uninit) in omega (arith, e, k)
    no (q, inr j, s) = absurd j

empty_roots : SameRootRuns (automaton 1 (0 ∷ []) []) (automaton 0 [] [])
empty_roots = ((λ p i. absurd i), (λ q i h. absurd (no h.1)))
  where
    no : {q : ℕ} {t : Tree} → RunOf [] q t → ⊥
    no (run r i e s k) = absurd i

-- items may be left out, and not turned
left_out : IsSublist {X = ℕ} (1 ∷ 3 ∷ []) (1 ∷ 2 ∷ 3 ∷ [])
left_out = sub_keep (sub_skip (sub_keep sub_none))

not_turned : IsSublist {X = ℕ} (2 ∷ 1 ∷ []) (1 ∷ 2 ∷ []) → ⊥
not_turned (sub_skip s) = no s
  where
    no : IsSublist {X = ℕ} (2 ∷ 1 ∷ []) (2 ∷ []) → ⊥
    no (sub_skip s) = elim s [ ]
    no (sub_keep s) = elim s [ ]

-- second stands for two with root 1 alone, whose state 0 takes no part; with root 0 it does not, since Null is a tree
-- then
stands_for : StandsFor (automaton 2 (1 ∷ []) two.rules) second
stands_for = record {
  of = λ q. 1;
  apart = λ p q l k e. omega (arith, l, k);
  runs =
      λ q t l.
      subst (λ (x : ℕ). (RunOf second.rules x t → RunOf two.rules 1 t) × (RunOf two.rules 1 t → RunOf second.rules x t))
      (let e : 0 ≡ q = omega (arith, l) in e) (same_trees t);
  rules = sub_skip (sub_keep sub_none);
  roots = sub_keep sub_none;
  whole = λ q i h. elim i [ inl e ↦ (0, inl refl, sym e) | inr j ↦ absurd j ];
  used = λ q r ts l i e k. elim i [
    | inl d ↦ (let c = ap (λ (x : Rule). x.state) d in absurd (omega (arith, c, e)))
    | inr (inl d) ↦ inl d
    | inr (inr j) ↦ absurd j
  ];
}

not_stands_for : StandsFor two second → ⊥
not_stands_for s = no (s.whole 0 (inl refl) (null, null_0))
  where
    no : (p : ℕ) × IsIn p (0 ∷ []) × (s.of p ≡ 0) → ⊥
    no (p, inl e, o) =
        let k = uninit_of_two (s.of p)
        ((s.runs p uninit (omega (arith, e))).0 (subst (λ (x : ℕ). RunOf second.rules x uninit) (sym e) second_uninit))
        in omega (arith, o, k)
    no (p, inr j, o) = absurd j

-- from the set of 0 alone a list cell leads to 2 in 1 = n(1), 2 = n(0), and not to 1; from no set at all nowhere
abbrev cells : List Rule
cells = rule 1 n (1 ∷ []) ∷ rule 2 n (0 ∷ []) ∷ []

leads : Tops cells n ((true ∷ false ∷ []) ∷ []) 2
leads = (rule 2 n (0 ∷ []), inr (inl refl), refl, (refl, refl))

leads_not : Tops cells n ((true ∷ false ∷ []) ∷ []) 1 → ⊥
leads_not (r, inl d, e, (y, m)) =
    let c = sym (ap (λ (x : Rule). marked_each x.children ((true ∷ false ∷ []) ∷ [])) d) ∙ m in true≢false (sym c)
leads_not (r, inr (inl d), e, (y, m)) = let c = ap (λ (x : Rule). x.state) d in omega (arith, c, e)
leads_not (r, inr (inr j), e, (y, m)) = absurd j

leads_nowhere : Tops cells n [] 2 → ⊥
leads_nowhere (r, inl d, e, (y, m)) = let c = ap (λ (x : Rule). x.state) d in omega (arith, c, e)
leads_nowhere (r, inr (inl d), e, (y, m)) = let c = sym (ap (λ (x : Rule). marked_each x.children []) d) ∙ m in
    true≢false (sym c)
leads_nowhere (r, inr (inr j), e, (y, m)) = absurd j

leads_by_no_other_symbol : Tops cells Null ((true ∷ false ∷ []) ∷ []) 2 → ⊥
leads_by_no_other_symbol (r, inl d, e, (y, m)) = let c = ap kind (sym (ap (λ (x : Rule). x.symbol) d) ∙ y) in
    omega (arith, c)
leads_by_no_other_symbol (r, inr (inl d), e, (y, m)) = let c = ap kind (sym (ap (λ (x : Rule). x.symbol) d) ∙ y) in
    omega (arith, c)
leads_by_no_other_symbol (r, inr (inr j), e, (y, m)) = absurd j
