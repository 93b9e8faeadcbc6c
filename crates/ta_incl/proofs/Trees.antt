-- The tree by which a pair was found.
use Rattle.std.proofs.Common.{◌≡◌, inl, inr, ℕ, zero, suc, ◌+◌, ◌≤◌, ◌<◌, max, List, [], ◌∷◌, length, slice_get, Some}
use Rattle.std.proofs.Common.{sym, ap, subst, ◌∙◌, arith}
use Rattle.std.proofs.lemmas.Option.{same_Some}
use Rattle.fore_base.specs.Lists.{IsIn, Every, Paired}
use Rattle.fore_base.proofs.ListLemmas.{every_weaker, in_from_place}
use Rattle.ta_core.specs.Auto.{Automaton}
use Rattle.ta_core.specs.Language.{RunOf, RunEach, run_none, run_more}
use Rattle.ta_core.specs.Tops.{AreStatesOf}
use Rattle.ta_core.specs.declared.auto.Rule.{Rule}
use Rattle.ta_core.specs.declared.tree.Tree.{Tree, out-roll-Tree}
use Rattle.ta_core.proofs.Runs.{tree_of, run_tree}
use Rattle.ta_core.proofs.Tops.{states_top}
use Rattle.ta_incl.specs.declared.found.Found.{Found}
use Rattle.ta_incl.specs.inner.Founds.{AreAt, HaveStates, sets_of, AreDerived, IsTreeAt}
use Rattle.ta_incl.proofs.Places.{item_at, paired_for}

-- above each of the places
abbrev pub ceiling : List ℕ → ℕ
ceiling [] = 0
ceiling (i ∷ is) = max (i + 1) (ceiling is)

pub ceiling_above : (i : ℕ) (is : List ℕ) → IsIn i is → i < ceiling is
ceiling_above i [] h = absurd h
ceiling_above i (j ∷ is) (inl e) = omega (arith, e)
ceiling_above i (j ∷ is) (inr h) = let k = ceiling_above i is h in omega (arith, k)

pub ceiling_low : (n : ℕ) (is : List ℕ) → Every (λ i. i < n) is → ceiling is ≤ n
ceiling_low n [] h = omega arith
ceiling_low n (i ∷ is) h = let k = ceiling_low n is h.1 in let l = h.0 in omega (arith, k, l)

module _ (rules : List Rule) (b : Automaton) (found : List Found) where
  -- the trees at the places have runs to the states of the pairs there, and the states of their sets
  runs_at : (places : List ℕ) (items : List Found) (qs : List ℕ) (ts : List Tree) → AreAt found places items
      → HaveStates qs items → Paired (IsTreeAt rules b found) places ts → RunEach rules qs ts
      × Paired (AreStatesOf b.rules b.states) ts (sets_of items)
  runs_at [] [] [] [] h k p = (run_none, tt)
  runs_at [] [] [] (t ∷ ts) h k p = absurd p
  runs_at [] [] (q ∷ qs) ts h k p = absurd k
  runs_at [] (x ∷ items) qs ts h k p = absurd h
  runs_at (i ∷ is) [] qs ts h k p = absurd h
  runs_at (i ∷ is) (x ∷ items) [] ts h k p = absurd k
  runs_at (i ∷ is) (x ∷ items) (q ∷ qs) [] h k p = absurd p
  runs_at (i ∷ is) (x ∷ items) (q ∷ qs) (t ∷ ts) h k p =
      let e : p.0.0 ≡ x = same_Some p.0.0 x (sym p.0.1 ∙ h.0) in
      let s : p.0.0.state ≡ q = ap (λ (f : Found). f.state) e ∙ k.0 in
      let r = runs_at is items qs ts h.1 k.1 p.1 in (
        run_more (subst (λ (n : ℕ). RunOf rules n t) s p.0.2) r.0,
        (subst (λ (f : Found). AreStatesOf b.rules b.states t f.marks) e p.0.3, r.1),
      )

  -- the tree of the pair's rule over the trees at its places
  pub tree_here : (place : ℕ) (f : Found) (r : Rule) (ts : List Tree) → AreDerived rules b found → slice_get found place
      ≡ Some f → slice_get rules f.rule ≡ Some r → Paired (IsTreeAt rules b found) f.from ts
      → IsTreeAt rules b found place (tree_of r.symbol ts)
  tree_here place f r ts d e at p =
      let g = (d place f e).0 in
      let same : g.0 ≡ r = same_Some g.0 r (sym g.1 ∙ at) in
      let k = runs_at f.from g.2.items g.0.children ts g.2.from g.2.children p in
      let out = out-roll-Tree (record { symbol = g.0.symbol; children = ts }) in
      let left : RunOf rules f.state (tree_of g.0.symbol ts) =
      subst (λ (n : ℕ). RunOf rules n (tree_of g.0.symbol ts)) (sym g.2.state)
      (run_tree rules g.0 ts (in_from_place rules f.rule g.0 g.1) k.0) in
      let right : AreStatesOf b.rules b.states (tree_of g.0.symbol ts) f.marks =
      states_top b.states b.rules (tree_of g.0.symbol ts) (sets_of g.2.items) f.marks (rw out k.1)
      (rw out g.2.marks) in
      subst (λ (s : Rule). IsTreeAt rules b found place (tree_of s.symbol ts)) same (f, e, left, right)

  -- each pair has a tree by which it was found
  tree_below : (n place : ℕ) → AreDerived rules b found → place < n → place < length found → (t : Tree)
      × IsTreeAt rules b found place t
  tree_below zero place d l k = absurd (omega (arith, l))
  tree_below (suc n) place d l k =
      let f = item_at found place k in
      let g = d place f.0 f.1 in
      let low = every_weaker (λ (i : ℕ). i < place) (λ (i : ℕ). (i < n) × (i < length found)) f.0.from
      (λ i j. (omega (arith, j, l), omega (arith, j, k))) g.1 in
      let ts = paired_for (IsTreeAt rules b found) (λ (i : ℕ). (i < n) × (i < length found))
      (λ i j. tree_below n i d j.0 j.1) f.0.from low in
      (tree_of g.0.0.symbol ts.0, tree_here place f.0 g.0.0 ts.0 d f.1 g.0.1 ts.1)

  pub tree_found : (place : ℕ) → AreDerived rules b found → place < length found → (t : Tree)
      × IsTreeAt rules b found place t
  tree_found place d k = tree_below (place + 1) place d (omega arith) k
