-- The automaton with other numbers in its references has the trees with these numbers.
use Rattle.std.proofs.Common.{◌≡◌, ℕ, List, [], ◌∷◌, map, refl, sym, ap, ap₂, subst, ◌∙◌}
use Rattle.fore_base.proofs.ListLemmas.{in_map, in_mapped}
use Rattle.ta_core.specs.Auto.{Automaton}
use Rattle.ta_core.specs.Language.{RunOf, RunEach, run, run_none, run_more}
use Rattle.ta_core.specs.declared.auto.Rule.{Rule}
use Rattle.ta_core.specs.declared.symbol.Symbol.{Symbol}
use Rattle.ta_core.specs.declared.symbol.Symbol.TheVariants.{Null, Uninit, Dangling, Ref, Cell}
use Rattle.ta_core.specs.declared.tree.Tree.{Tree, out-Tree, roll-Tree, roll-out-Tree}
use Rattle.ta_core.specs.declared.tree.Tree.{fold-roll-Tree}
use Rattle.ta_core.proofs.Runs.{tree_of, run_tree}
use Rattle.fa_core.specs.Folding.{IsLanguageOf, moved_symbol, moved_tree}
use Rattle.fa_core.specs.Placed.{placed_auto, placed_rule, placed_symbol}
use Rattle.fa_core.specs.declared.forest.Target.TheVariants.{At}

-- the automaton of the trees with f of the root of each reference
abbrev pub moved_auto : (ℕ → ℕ) → Automaton → Automaton
moved_auto f a = placed_auto (λ k. At (f k)) a

module _ (f : ℕ → ℕ) where
  pub rolled : (y : Symbol) (ts : List Tree) → moved_tree f (tree_of y ts)
      ≡ tree_of (moved_symbol f y) (map (moved_tree f) ts)
  rolled y ts = fold-roll-Tree Tree
      (λ t. roll-Tree (record { symbol = moved_symbol f t.symbol; children = t.children }))
      (record { symbol = y; children = ts })

  symbol_is : (y : Symbol) → placed_symbol (λ k. At (f k)) y ≡ moved_symbol f y
  symbol_is Null = refl
  symbol_is Uninit = refl
  symbol_is Dangling = refl
  symbol_is (Ref r) = refl
  symbol_is (Cell s ds ss) = refl

  -- what stands at the top of the moved tree
  pub moved_top : (t : Tree) → moved_tree f t
      ≡ tree_of (moved_symbol f (out-Tree t).symbol) (map (moved_tree f) (out-Tree t).children)
  moved_top t = ap (moved_tree f) (sym (roll-out-Tree t)) ∙ rolled (out-Tree t).symbol (out-Tree t).children

  module _ (rules : List Rule) where
    abbrev other : List Rule
    other = map (placed_rule (λ k. At (f k))) rules

    mutual
      -- a run of the moved automaton is one of a moved tree
      pub run_from : {q : ℕ} {u : Tree} → RunOf other q u → (t : Tree) × RunOf rules q t × (u ≡ moved_tree f t)
      run_from {q} {u} (run r i e s k) =
          let x = in_mapped (placed_rule (λ n. At (f n))) r rules i in
          let m = each_from x.0.children (ap (λ (z : Rule). z.children) x.2) k in
          let state : x.0.state ≡ q = sym (ap (λ (z : Rule). z.state) x.2) ∙ e in
          let symbol : (out-Tree u).symbol ≡ moved_symbol f x.0.symbol =
          sym s ∙ ap (λ (z : Rule). z.symbol) x.2 ∙ symbol_is x.0.symbol in (
            tree_of x.0.symbol m.0,
            subst (λ (p : ℕ). RunOf rules p (tree_of x.0.symbol m.0)) state (run_tree rules x.0 m.0 x.1 m.1),
            sym (roll-out-Tree u) ∙ ap₂ tree_of symbol m.2 ∙ sym (rolled x.0.symbol m.0),
          )

      pub each_from : (ps : List ℕ) {qs : List ℕ} {us : List Tree} → qs ≡ ps → RunEach other qs us
          → (ts : List Tree) × RunEach rules ps ts × (us ≡ map (moved_tree f) ts)
      each_from ps e run_none = ([], subst (λ (l : List ℕ). RunEach rules l []) e run_none, refl)
      each_from ps e (run_more {q} {qs} {t} {ts} r rs) =
          let a = run_from r in
          let m = each_from qs refl rs in (
            a.0 ∷ m.0,
            subst (λ (l : List ℕ). RunEach rules l (a.0 ∷ m.0)) e (run_more a.1 m.1),
            ap₂ (λ (x : Tree) (l : List Tree). x ∷ l) a.2 m.2,
          )

    mutual
      -- and the moved trees have runs
      pub run_to : {q : ℕ} {t : Tree} → RunOf rules q t → RunOf other q (moved_tree f t)
      run_to {q} {t} (run r i e s k) =
          let z = placed_rule (λ n. At (f n)) r in
          let made = run_tree other z (map (moved_tree f) (out-Tree t).children)
          (in_map (placed_rule (λ n. At (f n))) r rules i) (each_to k) in
          let same : tree_of z.symbol (map (moved_tree f) (out-Tree t).children) ≡ moved_tree f t =
          ap (λ (y : Symbol). tree_of y (map (moved_tree f) (out-Tree t).children))
          (symbol_is r.symbol ∙ ap (moved_symbol f) s) ∙ sym (moved_top t) in
          subst (λ (u : Tree). RunOf other q u) same
          (subst (λ (p : ℕ). RunOf other p (tree_of z.symbol (map (moved_tree f) (out-Tree t).children))) e made)

      pub each_to : {qs : List ℕ} {ts : List Tree} → RunEach rules qs ts → RunEach other qs (map (moved_tree f) ts)
      each_to run_none = run_none
      each_to (run_more r rs) = run_more (run_to r) (each_to rs)

  pub moved_language : (a : Automaton) → IsLanguageOf (moved_tree f) a (moved_auto f a)
  moved_language a u = (
    (λ h. let k = run_from a.rules h.2 in (k.0, (h.0, h.1, k.1), k.2)),
    (λ h. (h.1.0, h.1.1, subst (λ (t : Tree). RunOf (moved_auto f a).rules h.1.0 t) (sym h.2) (run_to a.rules h.1.2))),
  )
