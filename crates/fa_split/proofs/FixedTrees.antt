-- The automaton with a leaf alone at a place below its one rule at the top.
use Rattle.std.proofs.Common.{◌≡◌, ◌⊎◌, inl, inr, ℕ, ◌<◌, ◌≤◌, ◌+◌, length, List, [], ◌∷◌, refl, sym, ap, subst, ◌∙◌}
use Rattle.std.proofs.Common.{slice_get, slice_set, Some, length-set, arith}
use Rattle.std.proofs.lemmas.Option.{same_Some}
use Rattle.fore_base.specs.Lists.{IsIn, Every}
use Rattle.fore_base.proofs.ListLemmas.{in_right, every_in, every_append, every_set}
use Rattle.ta_core.specs.Auto.{Automaton, IsRanked, IsRankedRule}
use Rattle.ta_core.specs.Language.{RunOf, run, RunEach, run_none, InLanguage}
use Rattle.ta_core.specs.Single.{HasOneTop}
use Rattle.ta_core.specs.declared.auto.Rule.{Rule}
use Rattle.ta_core.specs.declared.symbol.Symbol.{Symbol}
use Rattle.ta_core.specs.declared.tree.Tree.{Tree, out-Tree, out-roll-Tree}
use Rattle.fa_core.specs.declared.forest.Target.{Target}
use Rattle.fa_core.specs.Dressed.{leaf}
use Rattle.fa_core.specs.Member.{bare_end, leaf_symbol}
use Rattle.fa_core.proofs.Dressing.{leaf_top}
use Rattle.fa_split.specs.Chosen.{IsBy}
use Rattle.fa_split.specs.Split.{top_rule, child_state, fresh_top, fresh_leaf, fixed}
use Rattle.fa_split.proofs.FreshStates.{stay, stay_each, widen, widen_each, fresh_run, states_more, rules_more}
use Rattle.fa_split.proofs.Places.{leaf_tree}
use Rattle.fa_split.proofs.RunPlaces.{at_index, each_at, each_set, each_with, set_here, set_back, set_same}
use Rattle.fa_split.proofs.ChosenTrees.{one_item, low_rules, leaf_arity}
use Rattle.fa_split.proofs.TopRules.{top_in, top_alone, top_by_tree, tree_by_top, fresh_top_one}

module _ (a : Automaton) (p : ℕ) (y : Target) (ranked : IsRanked a) (one : HasOneTop a)
    (place : p < length (top_rule a).children) where
  abbrev pub top : Rule
  top = top_rule a

  abbrev pub new_top : Rule
  new_top = fresh_top a p

  abbrev pub new_leaf : Rule
  new_leaf = fresh_leaf a y

  abbrev pub both : List Rule
  both = new_top ∷ new_leaf ∷ []

  abbrev pub child : ℕ
  child = child_state a p

  pub top_right : IsRankedRule a.states top
  top_right = every_in (IsRankedRule a.states) a.rules top ranked.1 (top_in a one)

  pub child_there : slice_get top.children p ≡ Some child
  child_there = at_index top.children p place

  pub two_cases : (o : Rule) → IsIn o both → (o ≡ new_top) ⊎ (o ≡ new_leaf)
  two_cases o (inl e) = inl e
  two_cases o (inr (inl e)) = inr e
  two_cases o (inr (inr e)) = absurd e

  pub two_above : (o : Rule) → IsIn o both → a.states ≤ o.state
  two_above o i = elim (two_cases o i) [
    | inl e ↦ (let s : o.state ≡ a.states = ap (λ (z : Rule). z.state) e in omega (arith, s))
    | inr e ↦ (let s : o.state ≡ a.states + 1 = ap (λ (z : Rule). z.state) e in omega (arith, s))
  ]

  -- a run to the first new state is by the rule at the top
  pub top_back : (q : ℕ) (t : Tree) → q ≡ a.states → RunOf (fixed a p y).rules q t → (top.symbol ≡ (out-Tree t).symbol)
      × RunEach (fixed a p y).rules new_top.children (out-Tree t).children
  top_back q t s w =
      let k = fresh_run a both ranked two_above q t (omega (arith, s)) w in
      elim (two_cases k.0 k.1) [
        | inl e ↦ (
          ap (λ (z : Rule). z.symbol) (sym e) ∙ k.3,
          subst (λ (z : Rule). RunEach (fixed a p y).rules z.children (out-Tree t).children) e k.4,
        )
        | inr e ↦ (let w : k.0.state ≡ a.states + 1 = ap (λ (z : Rule). z.state) e in let v = k.2 in
            absurd (omega (arith, w, v, s)))
      ]

  -- a run to the second new state is of the leaf
  pub leaf_back : (q : ℕ) (t : Tree) → a.states + 1 ≤ q → RunOf (fixed a p y).rules q t → t ≡ bare_end (leaf y)
  leaf_back q t l w =
      let k = fresh_run a both ranked two_above q t (omega (arith, l)) w in
      elim (two_cases k.0 k.1) [
        | inl e ↦ (let w : k.0.state ≡ a.states = ap (λ (z : Rule). z.state) e in let v = k.2 in
            absurd (omega (arith, w, v, l)))
        | inr e ↦ leaf_tree y t (ap (λ (z : Rule). z.symbol) (sym e) ∙ k.3)
            (none (subst (λ (z : Rule). RunEach (fixed a p y).rules z.children (out-Tree t).children) e k.4))
      ]
    where
      none : {ts : List Tree} → RunEach (fixed a p y).rules [] ts → ts ≡ []
      none run_none = refl

  pub leaf_to : RunOf (fixed a p y).rules (a.states + 1) (bare_end (leaf y))
  leaf_to = run new_leaf (in_right new_leaf a.rules both (inr (inl refl))) refl (sym (leaf_top y))
      (rw (leaf_children y) run_none)
    where
      leaf_children : (y : Target) → (out-Tree (bare_end (leaf y))).children ≡ []
      leaf_children y = rw (out-roll-Tree (record { symbol = leaf_symbol y; children = [] })) refl

  -- the trees are those by the rule at the top, with the leaf in the place
  pub to_fixed : (t u : Tree) → IsBy a.rules top u → (out-Tree t).symbol ≡ (out-Tree u).symbol → (out-Tree t).children
      ≡ slice_set (out-Tree u).children p (bare_end (leaf y)) → InLanguage (fixed a p y) t
  to_fixed t u k s c = (
    a.states,
    inl refl,
    run new_top (in_right new_top a.rules both (inl refl)) refl (k.0 ∙ sym s)
        (subst (λ (ts : List Tree). RunEach (fixed a p y).rules new_top.children ts) (sym c)
        (each_set (fixed a p y).rules top.children (out-Tree u).children p (a.states + 1) (bare_end (leaf y))
        (widen_each a both ranked two_above top.children (out-Tree u).children k.1) leaf_to)),
  )

  abbrev root_of : (q : ℕ) → IsIn q (a.states ∷ []) → q ≡ a.states
  root_of q i = one_item q a.states i

  pub fixed_leaf : (t : Tree) → InLanguage (fixed a p y) t → slice_get (out-Tree t).children p
      ≡ Some (bare_end (leaf y))
  fixed_leaf t (q, i, w) =
      let k = top_back q t (root_of q i) w in
      let c = each_at (fixed a p y).rules new_top.children (out-Tree t).children p (a.states + 1) k.1
      (set_here top.children p child (a.states + 1) child_there) in
      c.1 ∙ ap (λ (z : Tree). Some z) (leaf_back (a.states + 1) c.0 (omega arith) c.2)

  pub fixed_symbol : (t : Tree) → InLanguage (fixed a p y) t → top.symbol ≡ (out-Tree t).symbol
  fixed_symbol t (q, i, w) = (top_back q t (root_of q i) w).0

  -- with a tree of the old state in the place they are trees of the old automaton
  pub fixed_with : (t u w : Tree) → InLanguage (fixed a p y) t → RunOf a.rules child w → (out-Tree u).symbol
      ≡ (out-Tree t).symbol → (out-Tree u).children ≡ slice_set (out-Tree t).children p w → InLanguage a u
  fixed_with t u w (q, i, r) h s c =
      let k = top_back q t (root_of q i) r in
      let wide = each_set (fixed a p y).rules new_top.children (out-Tree t).children p child w k.1
      (widen a both ranked two_above child w h) in
      let old : RunEach (fixed a p y).rules top.children (slice_set (out-Tree t).children p w) =
      subst (λ (qs : List ℕ). RunEach (fixed a p y).rules qs (slice_set (out-Tree t).children p w))
      (set_back top.children p child (a.states + 1) child_there) wide in
      top_by_tree a one u (
        k.0 ∙ sym s,
        subst (λ (ts : List Tree). RunEach a.rules top.children ts) (sym c)
            (stay_each a both ranked two_above top.children (slice_set (out-Tree t).children p w) top_right.1 old),
      )

  -- where the leaf is of the old state, they are trees of the old automaton
  pub fixed_within : RunOf a.rules child (bare_end (leaf y)) → (t : Tree) → InLanguage (fixed a p y) t → InLanguage a t
  fixed_within h t w = fixed_with t t (bare_end (leaf y)) w h refl
      (sym (set_same (out-Tree t).children p (bare_end (leaf y)) (fixed_leaf t w)))

  -- the child in the place has a run to the old state
  pub child_run : (t u : Tree) → InLanguage a t → slice_get (out-Tree t).children p ≡ Some u → RunOf a.rules child u
  child_run t u w e =
      let c = each_at a.rules top.children (out-Tree t).children p child (tree_by_top a one t w).1 child_there in
      subst (λ (z : Tree). RunOf a.rules child z) (same_Some c.0 u (sym c.1 ∙ e)) c.2

  pub fixed_one : HasOneTop (fixed a p y)
  fixed_one = fresh_top_one a.states (a.states + 2) a.rules new_top (new_leaf ∷ []) refl
      (low_rules a.states a.rules ranked.1) ((λ e. let w : a.states + 1 ≡ a.states = e in omega (arith, w)), tt)

  pub fixed_ranked : IsRanked (fixed a p y)
  fixed_ranked = (
    (omega arith, tt),
    every_append (IsRankedRule (a.states + 2)) a.rules both
        (rules_more a.states (a.states + 2) (omega arith) a.rules ranked.1) (
          (
            omega arith,
            every_set (λ q. q < a.states + 2) top.children p (a.states + 1)
                (states_more a.states (a.states + 2) (omega arith) top.children top_right.1) (omega arith),
            length-set top.children p (a.states + 1) ∙ top_right.2,
          ),
          ((omega arith, tt, sym (leaf_arity y)), tt),
        ),
  )

  pub fixed_symbols : (P : Symbol → Type 0) → P (leaf_symbol y) → Every (λ (o : Rule). P o.symbol) a.rules
      → Every (λ (o : Rule). P o.symbol) (fixed a p y).rules
  fixed_symbols P l h = every_append (λ (o : Rule). P o.symbol) a.rules both h
      (every_in (λ (o : Rule). P o.symbol) a.rules top h (top_in a one), (l, tt))

  -- runs to the old states are old
  pub fixed_stay : (q : ℕ) (t : Tree) → q < a.states → RunOf (fixed a p y).rules q t → RunOf a.rules q t
  fixed_stay q t l w = stay a both ranked two_above q t l w

  -- with another child of its state, a tree is one of the automaton
  pub child_with : (t u w : Tree) → InLanguage a t → RunOf a.rules child w → (out-Tree u).symbol ≡ (out-Tree t).symbol
      → (out-Tree u).children ≡ slice_set (out-Tree t).children p w → InLanguage a u
  child_with t u w l h s c =
      let k = tree_by_top a one t l in
      top_by_tree a one u (
        k.0 ∙ sym s,
        subst (λ (ts : List Tree). RunEach a.rules top.children ts) (sym c)
            (each_with a.rules top.children (out-Tree t).children p child w k.1 child_there h),
      )

  -- a tree has a child in the place
  pub has_child : (t : Tree) → InLanguage a t → (u : Tree) × (slice_get (out-Tree t).children p ≡ Some u)
  has_child t l =
      (let c = each_at a.rules top.children (out-Tree t).children p child (tree_by_top a one t l).1 child_there in
      (c.0, c.1))

  -- its rule at the top
  pub fixed_top : top_rule (fixed a p y) ≡ fresh_top a p
  fixed_top = sym (top_alone (fixed a p y) fixed_one new_top (in_right new_top a.rules both (inl refl)) (inl refl))
