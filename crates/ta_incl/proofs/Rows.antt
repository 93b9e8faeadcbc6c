-- Worked values of what answers on inclusion carry.
use Rattle.std.proofs.Common.{◌≡◌, inl, inr, ℕ, List, [], ◌∷◌, refl, sym, ap, subst, ◌∙◌, arith}
use Rattle.fore_base.specs.Lists.{IsIn, Paired}
use Rattle.ta_core.specs.Auto.{Automaton, automaton}
use Rattle.ta_core.specs.Joined.{united}
use Rattle.ta_core.specs.Language.{InLanguage}
use Rattle.ta_core.specs.declared.auto.Rule.{Rule}
use Rattle.ta_core.specs.declared.symbol.Symbol.{Symbol}
use Rattle.ta_core.specs.declared.symbol.Symbol.TheVariants.{Null, Ref}
use Rattle.ta_core.specs.declared.tree.Tree.{Tree}
use Rattle.ta_incl.specs.declared.inclusion.Pair.{Pair}
use Rattle.ta_incl.specs.declared.inclusion.Inclusion.TheVariants.{Yes, No}
use Rattle.ta_incl.specs.Inclusions.{IsSubset, IsAntichain, IsBelow, Subsumes, Leads, Gives, AreFor, IsClosed}
use Rattle.ta_incl.specs.Inclusions.{MeetsRoots, IsMissing, IfYes, IfNo}
use Rattle.ta_incl.proofs.Upward.{below_same}

-- a rule q = y for a leaf, and q = n(p), with a reference in place of a cell's symbol, whose number of children nothing
-- here looks at
abbrev leaf : ℕ → Symbol → Rule
leaf q y = record { state = q; symbol = y; children = [] }

abbrev above : ℕ → ℕ → Rule
above q p = record { state = q; symbol = Ref 0; children = p ∷ [] }

abbrev pair : ℕ → List ℕ → Pair
pair q set = record { state = q; set = set }

-- 0 = Null with root 0; and 0 = Null, 1 = Null, 2 = n(0) with root 2
abbrev one : Automaton
one = automaton 1 (0 ∷ []) (leaf 0 Null ∷ [])

abbrev three : Automaton
three = automaton 3 (2 ∷ []) (leaf 0 Null ∷ leaf 1 Null ∷ above 2 0 ∷ [])

-- {1} is within {2, 1}, {1, 2} is not within {1}, and the empty set is within each
subset : IsSubset (1 ∷ []) (2 ∷ 1 ∷ [])
subset = (inr (inl refl), tt)

not_subset : IsSubset (1 ∷ 2 ∷ []) (1 ∷ []) → ⊥
not_subset h = elim h.1.0 [ inl e ↦ absurd (omega (arith, e)) | inr i ↦ absurd i ]

empty_subset : IsSubset [] (1 ∷ [])
empty_subset = tt

-- (0, {1}) and (0, {1, 2}) are no antichain, in either order; nor is a pair that stands twice
no_antichain : IsAntichain (pair 0 (1 ∷ []) ∷ pair 0 (1 ∷ 2 ∷ []) ∷ []) → ⊥
no_antichain h = let e = h 0 1 (pair 0 (1 ∷ [])) (pair 0 (1 ∷ 2 ∷ [])) refl refl refl (inl refl, tt) in
    absurd (omega (arith, e))

no_antichain_turned : IsAntichain (pair 0 (1 ∷ 2 ∷ []) ∷ pair 0 (1 ∷ []) ∷ []) → ⊥
no_antichain_turned h = let e = h 1 0 (pair 0 (1 ∷ [])) (pair 0 (1 ∷ 2 ∷ [])) refl refl refl (inl refl, tt) in
    absurd (omega (arith, e))

not_twice : IsAntichain (pair 0 (1 ∷ []) ∷ pair 0 (1 ∷ []) ∷ []) → ⊥
not_twice h = let e = h 0 1 (pair 0 (1 ∷ [])) (pair 0 (1 ∷ [])) refl refl refl (inl refl, tt) in
    absurd (omega (arith, e))

-- over the pair (0, {0}) the rule 2 = n(0) of three leads to 2; nothing leads to 1 in one
leads : Leads three (above 0 0) (pair 0 (0 ∷ []) ∷ []) 2
leads = (above 2 0, inr (inr (inl refl)), refl, refl, (inl refl, tt))

no_lead : Leads one (leaf 0 Null) [] 1 → ⊥
no_lead h = elim h.1 [ inl e ↦ (let s = h.2 in absurd (omega (arith, s, state_of e))) | inr i ↦ absurd i ]
  where
    state_of : {r : Rule} → r ≡ leaf 0 Null → r.state ≡ 0
    state_of e = rw e refl

-- Null gives the pair of its state with the two states of three that have it, and not fewer
gives : Gives three (leaf 0 Null) [] (pair 0 (0 ∷ 1 ∷ []))
gives = (refl, λ p. (from p, to p))
  where
    from : (p : ℕ) → IsIn p (0 ∷ 1 ∷ []) → Leads three (leaf 0 Null) [] p
    from p (inl e) = (leaf 0 Null, inl refl, sym e, refl, tt)
    from p (inr (inl e)) = (leaf 1 Null, inr (inl refl), sym e, refl, tt)
    from p (inr (inr i)) = absurd i

    to : (p : ℕ) → Leads three (leaf 0 Null) [] p → IsIn p (0 ∷ 1 ∷ [])
    to p (r, inl e, s, k, m) = inl (sym s ∙ ap (λ (x : Rule). x.state) e)
    to p (r, inr (inl e), s, k, m) = inr (inl (sym s ∙ ap (λ (x : Rule). x.state) e))
    to p (r, inr (inr (inl e)), s, k, m) =
        absurd (subst (λ (x : Rule). Paired (λ (q : ℕ) (y : Pair). IsIn q y.set) x.children []) e m)
    to p (r, inr (inr (inr i)), s, k, m) = absurd i

not_gives : Gives three (leaf 0 Null) [] (pair 0 (0 ∷ [])) → ⊥
not_gives h = elim ((h.1 1).1 (leaf 1 Null, inr (inl refl), refl, refl, tt))
    [ inl e ↦ absurd (omega (arith, e)) | inr i ↦ absurd i ]

-- the child of n(0) is the state of a pair of the list; one that is not of the list serves not
are_for : AreFor (pair 0 [] ∷ []) (above 1 0) (pair 0 [] ∷ [])
are_for = ((refl, inl refl), tt)

not_for : AreFor [] (above 1 0) (pair 0 [] ∷ []) → ⊥
not_for h = absurd h.0.1

not_for_state : AreFor (pair 2 [] ∷ []) (above 1 0) (pair 2 [] ∷ []) → ⊥
not_for_state h = let e = h.0.0 in absurd (omega (arith, e))

-- a root state is below no state that is none
not_below : IsBelow one three 0 1 → ⊥
not_below u = elim (u.1.0 0 1 (inl refl) u.2) [
  | inl e ↦ absurd (omega (arith, e))
  | inr (inl e) ↦ absurd (omega (arith, e))
  | inr (inr i) ↦ absurd i
]

-- (0, {1}) subsumes (0, {1, 2}), and a pair with a state in its set subsumes none without
subsumes : Subsumes one three (pair 0 (1 ∷ [])) (pair 0 (1 ∷ 2 ∷ []))
subsumes = (below_same (united one three) 0 0 refl, ((1, inl refl, below_same (united one three) 2 2 refl), tt))

not_subsumes : Subsumes one three (pair 0 (1 ∷ [])) (pair 0 []) → ⊥
not_subsumes h = absurd h.1.0.1

-- the leaf's pair is wanted: no pairs at all are not closed
not_closed : IsClosed one one [] → ⊥
not_closed h = (h (leaf 0 Null) [] (pair 0 (0 ∷ [])) (inl refl) tt (refl, λ p. (λ i. from p i, λ l. to p l))).1
  where
    from : (p : ℕ) → IsIn p (0 ∷ []) → Leads one (leaf 0 Null) [] p
    from p (inl e) = (leaf 0 Null, inl refl, sym e, refl, tt)
    from p (inr i) = absurd i

    to : (p : ℕ) → Leads one (leaf 0 Null) [] p → IsIn p (0 ∷ [])
    to p (r, inl e, s, k, m) = inl (sym s ∙ ap (λ (x : Rule). x.state) e)
    to p (r, inr i, s, k, m) = absurd i

-- (0, {0, 2}) meets the root 2 of three, (0, {1}) meets none, and a pair whose state is no root need not
meets : MeetsRoots one three (pair 0 (0 ∷ 2 ∷ []) ∷ pair 1 [] ∷ [])
meets = (λ _. (2, inr (inl refl), inl refl), (λ i. elim i [ inl e ↦ absurd (omega (arith, e)) | inr j ↦ absurd j ], tt))

meets_not : MeetsRoots one three (pair 0 (1 ∷ []) ∷ []) → ⊥
meets_not h = let m = h.0 (inl refl) in elim m.1 [
  | inl e ↦ (elim m.2 [ inl k ↦ absurd (omega (arith, e, k)) | inr j ↦ absurd j ])
  | inr j ↦ absurd j
]

-- what is asked of a Yes is asked of its pairs alone, and what is asked of a No of its tree
if_yes : (P : List Pair → Type 0) (pairs : List Pair) → IfYes P (Yes pairs) ≡ P pairs
if_yes P pairs = refl

if_yes_no : (P : List Pair → Type 0) (t : Tree) → IfYes P (No t) ≡ Unit {0}
if_yes_no P t = refl

if_no : (P : Tree → Type 0) (t : Tree) → IfNo P (No t) ≡ P t
if_no P t = refl

if_no_yes : (P : Tree → Type 0) (pairs : List Pair) → IfNo P (Yes pairs) ≡ Unit {0}
if_no_yes P pairs = refl

-- a tree is missing where the one automaton has it and the other has not, and not where both have it
missing : (t : Tree) → InLanguage one t → (InLanguage three t → ⊥) → IsMissing one three t
missing t h k = (h, k)

not_missing : (t : Tree) → InLanguage one t → IsMissing one one t → ⊥
not_missing t h m = m.1 h
