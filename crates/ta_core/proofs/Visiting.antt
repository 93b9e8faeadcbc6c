-- The states of a tree are made by tasks.
use Rattle.std.proofs.Common.{◌≡◌, ℕ, ◌<◌, ◌≤◌, Bool, List, [], ◌∷◌, ◌++◌, length, map, refl, sym, ap, subst, arith}
use Rattle.fore_base.specs.Lists.{Every, Paired}
use Rattle.ta_core.specs.declared.auto.Rule.{Rule}
use Rattle.ta_core.specs.declared.tree.Tree.{Tree, out-Tree}
use Rattle.ta_core.specs.Language.{nodes}
use Rattle.ta_core.specs.Tops.{AreStatesOf}
use Rattle.ta_core.specs.inner.Running.{IsTree, IsOver, MarksTops}
use Rattle.ta_core.specs.inner.Tasks.{Todo, visit, build, IsUnderway, Reduces, work}
use Rattle.ta_core.proofs.Sizing.{nodes_out}
use Rattle.ta_core.proofs.Tasks.{opened, enough, built, opens_less, builds_less}
use Rattle.ta_core.proofs.Tops.{states_top}

all_trees : (ts : List Tree) → Every IsTree ts
all_trees [] = tt
all_trees (t ∷ ts) = (tt, all_trees ts)

module _ (old rest : List (Todo Tree Tree)) (t : Tree) where
  pub visits_less : (new : List (Todo Tree Tree)) → old ≡ rest ++ visit t ∷ []
      → new ≡ rest ++ build t ∷ map visit (out-Tree t).children → work nodes new < work nodes old
  visits_less new e d = let n = nodes_out t in
      rw (e, d) (opens_less nodes rest t t (out-Tree t).children (omega (arith, n)))

  pub closes_less : old ≡ rest ++ build t ∷ [] → work nodes rest < work nodes old
  closes_less e = rw e (builds_less nodes rest t)

  module _ (rules : List Rule) (n : ℕ) (root : Tree) (sets : List (List Bool))
      (u : IsUnderway IsTree IsOver (AreStatesOf rules n) root old sets) where
    pub visits : (new : List (Todo Tree Tree)) → old ≡ rest ++ visit t ∷ []
        → new ≡ rest ++ build t ∷ map visit (out-Tree t).children
        → IsUnderway IsTree IsOver (AreStatesOf rules n) root new sets
    visits new e d =
        rw d
        (opened IsTree IsOver (AreStatesOf rules n) root rest t t (out-Tree t).children sets (refl, refl)
        (all_trees (out-Tree t).children) (rw e at u))

    pub has_sets : old ≡ rest ++ build t ∷ [] → length (out-Tree t).children ≤ length sets
    has_sets e = let w = enough IsTree IsOver (AreStatesOf rules n) root rest t sets (rw e at u) in let l = w.3 in
        let k = ap length w.2.1 in omega (arith, l, k)

    pub closes : (new : List (List Bool)) → old ≡ rest ++ build t ∷ []
        → Reduces (length (out-Tree t).children) (MarksTops rules n t) sets new
        → IsUnderway IsTree IsOver (AreStatesOf rules n) root rest new
    closes new e r = built IsTree IsOver (AreStatesOf rules n) root rest t (length (out-Tree t).children)
        (MarksTops rules n t) sets new (λ v below o. ap length o.1)
        (λ v below parts made o p m.
        subst (λ (x : Tree). AreStatesOf rules n x made) (sym o.0)
        (states_top n rules t parts made (subst (λ (ts : List Tree). Paired (AreStatesOf rules n) ts parts) o.1 p) m))
        (rw e at u) r
