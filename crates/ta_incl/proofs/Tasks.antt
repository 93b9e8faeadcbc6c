-- The tree by which a pair was found is made by tasks.
use Rattle.std.proofs.Common.{◌≡◌, ◌⊎◌, inl, inr, ℕ, zero, suc, ◌+◌, ◌<◌, ◌≤◌, max, List, [], ◌∷◌, ◌++◌, length, map}
use Rattle.std.proofs.Common.{slice_get, Some, refl, sym, ap, subst, ◌∙◌, arith}
use Rattle.std.proofs.lemmas.Option.{none-some, same_Some, slice_get_within}
use Rattle.fore_base.specs.Lists.{Every, Paired, sum_of}
use Rattle.fore_base.proofs.ListLemmas.{every_weaker, paired_weaker}
use Rattle.ta_core.specs.Auto.{Automaton}
use Rattle.ta_core.specs.declared.auto.Rule.{Rule}
use Rattle.ta_core.specs.declared.tree.Tree.{Tree}
use Rattle.ta_core.specs.inner.Tasks.{Todo, visit, build, IsUnderway, work}
use Rattle.ta_core.proofs.Tasks.{visited, opened, enough, built, opens_less, builds_less}
use Rattle.ta_incl.specs.declared.found.Found.{Found}
use Rattle.ta_incl.specs.inner.Founds.{AreDerived, IsTreeAt}
use Rattle.ta_incl.specs.inner.Tasks.{IsPlace, IsOver, GivesTree, Opens, Closes}
use Rattle.ta_incl.proofs.Trees.{tree_here}

-- so many times the number
abbrev pub times : ℕ → ℕ → ℕ
times zero x = 0
times (suc k) x = x + times k x

times_more : (j k x : ℕ) → j ≤ k → times j x ≤ times k x
times_more zero k x l = omega arith
times_more (suc j) zero x l = absurd (omega (arith, l))
times_more (suc j) (suc k) x l = let h = times_more j k x (omega (arith, l)) in omega (arith, h)

-- a number for a place that is more than so many of those for earlier places
abbrev pub level : ℕ → ℕ → ℕ
level n zero = 1
level n (suc p) = times n (level n p) + (level n p + level n p)

level_some : (n p : ℕ) → 1 ≤ level n p
level_some n zero = omega arith
level_some n (suc p) = let h = level_some n p in omega (arith, h)

level_more : (n p q : ℕ) → p ≤ q → level n p ≤ level n q
level_more n zero q l = level_some n q
level_more n (suc p) zero l = absurd (omega (arith, l))
level_more n (suc p) (suc q) l = elim (last_or p q (omega (arith, l))) [
  | inl e ↦ subst (λ (r : ℕ). level n (suc p) ≤ level n (suc r)) e (omega arith)
  | inr k ↦ (let h = level_more n (suc p) q k in omega (arith, h))
]
  where
    last_or : (i j : ℕ) → i ≤ j → (i ≡ j) ⊎ (suc i ≤ j)
    last_or i j k = grind (arith, k)

-- the greatest number of children
abbrev pub widest : List Found → ℕ
widest [] = 0
widest (f ∷ fs) = max (length f.from) (widest fs)

widest_at : (found : List Found) (p : ℕ) (f : Found) → slice_get found p ≡ Some f → length f.from ≤ widest found
widest_at [] p f e = absurd (none-some f e)
widest_at (g ∷ found) zero f e = let s = ap (λ (h : Found). length h.from) (same_Some g f e) in omega (arith, s)
widest_at (g ∷ found) (suc p) f e = let h = widest_at found p f e in omega (arith, h)

-- the tree of a pair is more work than those of the pairs from which it is derived
abbrev pub weight : List Found → ℕ → ℕ
weight found p = level (widest found) (suc p)

lighter : (n p : ℕ) (qs : List ℕ) → Every (λ q. q < p) qs → sum_of (map (λ q. level n (suc q)) qs)
    ≤ times (length qs) (level n p)
lighter n p [] h = omega arith
lighter n p (q ∷ qs) h = let k = lighter n p qs h.1 in let l = level_more n (suc q) p h.0 in omega (arith, k, l)

module _ (rules : List Rule) (found : List Found) (derived : (b : Automaton) × AreDerived rules b found)
    (old rest : List (Todo ℕ ℕ)) (p : ℕ) where
  pub rule_within : (f : Found) → slice_get found p ≡ Some f → f.rule < length rules
  rule_within f e = let g = (derived.1 p f e).0 in slice_get_within rules f.rule g.0 g.1

  pub opens_lighter : (new : List (Todo ℕ ℕ)) → old ≡ rest ++ visit p ∷ [] → Opens found p rest new
      → work (weight found) new < work (weight found) old
  opens_lighter new e o =
      let l = lighter (widest found) p o.0.from (derived.1 p o.0 o.1).1 in
      let k = times_more (length o.0.from) (widest found) (level (widest found) p) (widest_at found p o.0 o.1) in
      let i = level_some (widest found) p in
      rw (e, o.2) (opens_less (weight found) rest p p o.0.from (omega (arith, l, k, i)))

  pub closes_lighter : old ≡ rest ++ build p ∷ [] → work (weight found) rest < work (weight found) old
  closes_lighter e = rw e (builds_less (weight found) rest p)

  module _ (place : ℕ) (trees : List Tree)
      (u : IsUnderway (IsPlace found) (IsOver found) (GivesTree rules found) place old trees) where
    pub is_place : old ≡ rest ++ visit p ∷ [] → p < length found
    is_place e = visited (IsPlace found) (IsOver found) (GivesTree rules found) place rest p trees (rw e at u)

    pub opens : (new : List (Todo ℕ ℕ)) → old ≡ rest ++ visit p ∷ [] → Opens found p rest new
        → IsUnderway (IsPlace found) (IsOver found) (GivesTree rules found) place new trees
    opens new e o =
        let l = is_place e in
        let low = every_weaker (λ (i : ℕ). i < p) (IsPlace found) o.0.from (λ i k. omega (arith, k, l))
        (derived.1 p o.0 o.1).1 in
        rw o.2
        (opened (IsPlace found) (IsOver found) (GivesTree rules found) place rest p p o.0.from trees
        (o.0, refl, o.1, refl) low (rw e at u))

    pub has_pair : old ≡ rest ++ build p ∷ [] → p < length found
    has_pair e = let w = enough (IsPlace found) (IsOver found) (GivesTree rules found) place rest p trees (rw e at u) in
        slice_get_within found p w.2.0 w.2.2

    pub has_trees : old ≡ rest ++ build p ∷ [] → (f : Found) → slice_get found p ≡ Some f → length f.from ≤ length trees
    has_trees e f d =
        let w = enough (IsPlace found) (IsOver found) (GivesTree rules found) place rest p trees (rw e at u) in
        let l = w.3 in
        let k = ap length w.2.3 in
        let s = ap (λ (g : Found). length g.from) (same_Some w.2.0 f (sym w.2.2 ∙ d)) in
        omega (arith, l, k, s)

    pub closes : (new : List Tree) → old ≡ rest ++ build p ∷ [] → Closes rules found p trees new
        → IsUnderway (IsPlace found) (IsOver found) (GivesTree rules found) place rest new
    closes new e m = built (IsPlace found) (IsOver found) (GivesTree rules found) place rest p (length m.0.from) _ trees
        new (λ q below o. ap length (from_of q below o))
        (λ q below parts made o h t b d.
        subst (λ (x : ℕ). IsTreeAt rules b found x made) (sym o.1)
        (subst (λ (x : Tree). IsTreeAt rules b found p x) (sym t)
        (tree_here rules b found p m.0 m.1 parts d m.2 m.3
        (paired_weaker (GivesTree rules found) (IsTreeAt rules b found) m.0.from parts (λ i x g. g b d)
        (subst (λ (is : List ℕ). Paired (GivesTree rules found) is parts) (from_of q below o) h))))) (rw e at u) m.4
      where
        from_of : (q : ℕ) (below : List ℕ) → IsOver found q p below → below ≡ m.0.from
        from_of q below o = o.3 ∙ ap (λ (g : Found). g.from) (same_Some o.0 m.0 (sym o.2 ∙ m.2))
