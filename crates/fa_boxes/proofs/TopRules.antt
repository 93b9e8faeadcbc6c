-- What the rules of root states say of the trees of a trimmed automaton.
use Rattle.std.proofs.Common.{◌≡◌, ◌↔◌, ℕ, ◌<◌, List, refl, sym, ap, subst}
use Rattle.fore_base.specs.Lists.{IsIn}
use Rattle.fore_base.proofs.ListLemmas.{every_in, in_every, every_weaker}
use Rattle.ta_core.specs.Auto.{Automaton, IsRanked, IsRankedRule}
use Rattle.ta_core.specs.Language.{InLanguage, IsTrim, HasTree, RunOf, run}
use Rattle.ta_core.specs.declared.auto.Rule.{Rule}
use Rattle.ta_core.specs.declared.symbol.Slot.{Slot}
use Rattle.ta_core.specs.declared.symbol.Symbol.{Symbol}
use Rattle.ta_core.specs.declared.symbol.Symbol.TheVariants.{Null, Uninit, Dangling, Ref, Cell}
use Rattle.ta_core.specs.declared.tree.Tree.{Tree, out-Tree, out-roll-Tree}
use Rattle.ta_core.proofs.Runs.{tree_of, run_tree, trees_of, passed_tree}
use Rattle.fore_base.specs.declared.store.Datum.{Datum}
use Rattle.fa_boxes.specs.Tops.{AreTopped}
use Rattle.fa_boxes.specs.inner.TopRules.{AtTop, AtTops, IsCellOf}

module _ (a : Automaton) (ranked : IsRanked a) (trim : IsTrim a) where
  -- each rule is the last of some tree's run
  pub rule_run : (r : Rule) → IsIn r a.rules → (t : Tree) × RunOf a.rules r.state t × ((out-Tree t).symbol ≡ r.symbol)
  rule_run r i =
      let c : IsRankedRule a.states r = every_in (IsRankedRule a.states) a.rules r ranked.1 i in
      let k = trees_of a.rules r.children (every_weaker (λ (q : ℕ). q < a.states) (HasTree a.rules) r.children
      (λ q l. (let p = trim q l in passed_tree p.3)) c.1) in (
        tree_of r.symbol k.0,
        run_tree a.rules r k.0 i k.1,
        ap (λ x. x.symbol) (out-roll-Tree (record { symbol = r.symbol; children = k.0 })),
      )

  -- that of a root state of the run of an accepted tree
  pub rule_tree : (r : Rule) → IsIn r a.rules → IsIn r.state a.roots → (t : Tree) × InLanguage a t
      × ((out-Tree t).symbol ≡ r.symbol)
  rule_tree r i j = let k = rule_run r i in (k.0, (r.state, j, k.1), k.2)

  module _ (P : Symbol → Type 0) where
    tops_trees : AtTops P a.roots a.rules → (t : Tree) → InLanguage a t → P (out-Tree t).symbol
    tops_trees h t (q, i, run r j e s k) =
        subst P s (every_in (AtTop P a.roots) a.rules r h j (subst (λ (x : ℕ). IsIn x a.roots) (sym e) i))

    trees_tops : ((t : Tree) → InLanguage a t → P (out-Tree t).symbol) → AtTops P a.roots a.rules
    trees_tops h = in_every (AtTop P a.roots) a.rules
        (λ r i j. (let w = rule_tree r i j in subst P w.2 (h w.0 w.1)))

    pub tops_iff : AtTops P a.roots a.rules ↔ ((t : Tree) → InLanguage a t → P (out-Tree t).symbol)
    tops_iff = (tops_trees, trees_tops)

-- a cell of a struct

shape_is : (s : ℕ) (y : Symbol) → IsCellOf s y → (ds : List Datum) × (ss : List Slot) × (y ≡ Cell s ds ss)
shape_is s Null h = absurd h
shape_is s Uninit h = absurd h
shape_is s Dangling h = absurd h
shape_is s (Ref r) h = absurd h
shape_is s (Cell u ds ss) h = (ds, ss, ap (λ (x : ℕ). Cell x ds ss) h)

pub topped_iff : (a : Automaton) (s : ℕ) → ((t : Tree) → InLanguage a t → IsCellOf s (out-Tree t).symbol)
    ↔ AreTopped s a
topped_iff a s = (
  (λ h t i. shape_is s (out-Tree t).symbol (h t i)),
  (λ h t i. (let k = h t i in subst (IsCellOf s) (sym k.2) refl)),
)
