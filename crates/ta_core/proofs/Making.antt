-- The tree at a state is made by tasks.
use Rattle.std.proofs.Common.{◌≡◌, ℕ, ◌<◌, ◌≤◌, List, [], ◌∷◌, ◌++◌, length, map, Option, refl, sym, ap, subst, arith}
use Rattle.fore_base.specs.Lists.{Paired, sum_of}
use Rattle.ta_core.specs.declared.auto.Rule.{Rule}
use Rattle.ta_core.specs.declared.tree.Tree.{Tree}
use Rattle.ta_core.specs.inner.Growing.{IsSized, IsOver, Asks, IsTreeOf}
use Rattle.ta_core.specs.inner.Sizes.{size_at, number, sum_at, IsTreeAt}
use Rattle.ta_core.specs.inner.Tasks.{Todo, visit, build, IsUnderway, Reduces, work}
use Rattle.ta_core.proofs.Smaller.{rule_falls, tree_here}
use Rattle.ta_core.proofs.Tasks.{visited, opened, enough, built, opens_less, builds_less}

sum_sizes : (sizes : List (Option ℕ)) (qs : List ℕ) → sum_of (map (λ q. number (size_at sizes q)) qs) ≡ sum_at sizes qs
sum_sizes sizes [] = refl
sum_sizes sizes (q ∷ qs) = let h = sum_sizes sizes qs in omega (arith, h)

module _ (rules : List Rule) (sizes : List (Option ℕ)) (old rest : List (Todo ℕ Rule)) where
  abbrev size : ℕ → ℕ
  size q = number (size_at sizes q)

  pub builds_lighter : (r : Rule) → old ≡ rest ++ build r ∷ [] → work size rest < work size old
  builds_lighter r e = rw e (builds_less size rest r)

  module _ (root : ℕ) (trees : List Tree)
      (u : IsUnderway (IsSized sizes) (IsOver rules sizes) (IsTreeAt rules sizes) root old trees) where
    pub is_sized : (q : ℕ) → old ≡ rest ++ visit q ∷ [] → IsSized sizes q
    is_sized q e = visited (IsSized sizes) (IsOver rules sizes) (IsTreeAt rules sizes) root rest q trees (rw e at u)

    pub asks_lighter : (q : ℕ) (new : List (Todo ℕ Rule)) → old ≡ rest ++ visit q ∷ [] → Asks rules sizes q rest new
        → work size new < work size old
    asks_lighter q new e a =
        let f = rule_falls sizes q a.0 a.2 (is_sized q e) in
        let k = f.0 in
        let s = sum_sizes sizes a.0.children in
        rw (e, a.3) (opens_less size rest q a.0 a.0.children (omega (arith, k, s)))

    pub asks : (q : ℕ) (new : List (Todo ℕ Rule)) → old ≡ rest ++ visit q ∷ [] → Asks rules sizes q rest new
        → IsUnderway (IsSized sizes) (IsOver rules sizes) (IsTreeAt rules sizes) root new trees
    asks q new e a =
        let f = rule_falls sizes q a.0 a.2 (is_sized q e) in
        rw a.3
        (opened (IsSized sizes) (IsOver rules sizes) (IsTreeAt rules sizes) root rest q a.0 a.0.children trees
        (a.1, a.2, is_sized q e, refl) f.1 (rw e at u))

    pub has_trees : (r : Rule) → old ≡ rest ++ build r ∷ [] → length r.children ≤ length trees
    has_trees r e =
        let w = enough (IsSized sizes) (IsOver rules sizes) (IsTreeAt rules sizes) root rest r trees (rw e at u) in
        let l = w.3 in let k = ap length w.2.3 in omega (arith, l, k)

    pub makes : (r : Rule) (new : List Tree) → old ≡ rest ++ build r ∷ []
        → Reduces (length r.children) (IsTreeOf r) trees new
        → IsUnderway (IsSized sizes) (IsOver rules sizes) (IsTreeAt rules sizes) root rest new
    makes r new e m = built (IsSized sizes) (IsOver rules sizes) (IsTreeAt rules sizes) root rest r (length r.children)
        (IsTreeOf r) trees new (λ q below o. ap length o.3)
        (λ q below parts made o p t.
        subst (λ (x : Tree). IsTreeAt rules sizes q x) (sym t)
        (tree_here rules sizes q r parts o.0 o.1 o.2
        (subst (λ (qs : List ℕ). Paired (IsTreeAt rules sizes) qs parts) o.3 p))) (rw e at u) m
