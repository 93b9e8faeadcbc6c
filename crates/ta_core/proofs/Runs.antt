-- Runs: trees that have some, and runs that are carried from one list of rules to another.
use Rattle.std.proofs.Common.{◌≡◌, ℕ, List, [], ◌∷◌, refl, subst, ◌∙◌}
use Rattle.fore_base.specs.Lists.{IsIn, Every, Paired}
use Rattle.ta_core.specs.declared.auto.Rule.{Rule}
use Rattle.ta_core.specs.declared.symbol.Symbol.{Symbol}
use Rattle.ta_core.specs.declared.tree.Tree.{Tree, out-Tree, roll-Tree, out-roll-Tree}
use Rattle.ta_core.specs.Language.{RunOf, run, RunEach, run_none, run_more, HasTree, PassesBy, at_top, below, OnePasses}
use Rattle.ta_core.specs.Language.{this_one, later_one}

-- the tree of the symbol over these children
abbrev pub tree_of : Symbol → List Tree → Tree
tree_of y ts = roll-Tree (record { symbol = y; children = ts })

-- a rule gives a run of the tree of its symbol over trees of its children
pub run_tree : (rules : List Rule) (r : Rule) (ts : List Tree) → IsIn r rules → RunEach rules r.children ts
    → RunOf rules r.state (tree_of r.symbol ts)
run_tree rules r ts i k =
    run r i refl (rw (out-roll-Tree (record { symbol = r.symbol; children = ts })) refl)
    (rw (out-roll-Tree (record { symbol = r.symbol; children = ts })) k)

-- states that have trees have trees side by side
pub trees_of : (rules : List Rule) (qs : List ℕ) → Every (HasTree rules) qs → (ts : List Tree) × RunEach rules qs ts
trees_of rules [] h = ([], run_none)
trees_of rules (q ∷ qs) h = let ts = trees_of rules qs h.1 in (h.0.0 ∷ ts.0, run_more h.0.1 ts.1)

mutual
  -- a state that a run passes by has a tree
  pub passed_tree : {rules : List Rule} {q p : ℕ} {t : Tree} → PassesBy rules q p t → HasTree rules q
  passed_tree {rules} {t = t} (at_top e r) = (t, subst (λ (n : ℕ). RunOf rules n t) e r)
  passed_tree (below r i e s o) = passed_one o

  passed_one : {rules : List Rule} {q : ℕ} {ps : List ℕ} {ts : List Tree} → OnePasses rules q ps ts → HasTree rules q
  passed_one (this_one p r) = passed_tree p
  passed_one (later_one r o) = passed_one o

-- where each rule of a state is matched, for each state that it is related to, by a rule of the other list with the
-- same symbol and related children, runs to a state are runs to each related one. Only rules count whose children have
-- trees
module _ (rules others : List Rule) (R : ℕ → ℕ → Type 0)
    (match : (r : Rule) (q : ℕ) (ts : List Tree) → IsIn r rules → R r.state q → RunEach rules r.children ts → (o : Rule)
    × IsIn o others × (o.state ≡ q) × (o.symbol ≡ r.symbol) × Paired R r.children o.children) where
  mutual
    pub along : {p : ℕ} {t : Tree} (q : ℕ) → R p q → RunOf rules p t → RunOf others q t
    along {t = t} q h (run r i e s k) =
        let m = match r q (out-Tree t).children i (rw e h) k in
        run m.0 m.1 m.2 (m.3 ∙ s) (along_each m.0.children m.4 k)

    pub along_each : {ps : List ℕ} {ts : List Tree} (qs : List ℕ) → Paired R ps qs → RunEach rules ps ts
        → RunEach others qs ts
    along_each [] h run_none = run_none
    along_each (q ∷ qs) h run_none = absurd h
    along_each [] h (run_more r rs) = absurd h
    along_each (q ∷ qs) h (run_more r rs) = run_more (along q h.0 r) (along_each qs h.1 rs)

pub paired_same : (qs : List ℕ) → Paired (λ p q. p ≡ q) qs qs
paired_same [] = tt
paired_same (q ∷ qs) = (refl, paired_same qs)

-- more rules have the same runs and more
module _ (rules others : List Rule) (more : (r : Rule) → IsIn r rules → IsIn r others) where
  pub widened : {q : ℕ} {t : Tree} → RunOf rules q t → RunOf others q t
  widened {q} = along rules others (λ p q. p ≡ q) (λ r q ts i e k. (r, more r i, e, refl, paired_same r.children)) q
      refl

  pub widened_each : {qs : List ℕ} {ts : List Tree} → RunEach rules qs ts → RunEach others qs ts
  widened_each {qs} = along_each rules others (λ p q. p ≡ q)
      (λ r q ts i e k. (r, more r i, e, refl, paired_same r.children)) qs (paired_same qs)
