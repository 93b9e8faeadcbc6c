-- The automaton with a rule alone at a new root state.
use Rattle.std.proofs.Common.{◌≡◌, inl, inr, ℕ, ◌<◌, ◌≤◌, ◌+◌, List, [], ◌∷◌, refl, sym, ap, subst, ◌∙◌, arith}
use Rattle.fore_base.specs.Lists.{IsIn, Every}
use Rattle.fore_base.proofs.ListLemmas.{in_right, every_in, every_append, every_weaker}
use Rattle.ta_core.specs.Arity.{arity}
use Rattle.ta_core.specs.Auto.{Automaton, IsRanked, IsRankedRule}
use Rattle.ta_core.specs.Language.{RunOf, run, RunEach, InLanguage}
use Rattle.ta_core.specs.Single.{HasOneTop}
use Rattle.ta_core.specs.declared.auto.Rule.{Rule}
use Rattle.ta_core.specs.declared.symbol.Symbol.{Symbol}
use Rattle.ta_core.specs.declared.tree.Tree.{Tree, out-Tree}
use Rattle.fa_core.specs.declared.forest.Target.{Target}
use Rattle.fa_core.specs.declared.forest.Target.TheVariants.{Null, Uninit, Dangling, At}
use Rattle.fa_core.specs.Member.{leaf_symbol}
use Rattle.fa_split.specs.Chosen.{IsBy, chosen}
use Rattle.fa_split.specs.Split.{top_rule}
use Rattle.fa_split.proofs.FreshStates.{stay, stay_each, widen_each, fresh_run, states_more, rules_more}
use Rattle.fa_split.proofs.TopRules.{top_alone, fresh_top_one}

pub one_item : {X : Type 0} (x y : X) → IsIn x (y ∷ []) → x ≡ y
one_item x y (inl e) = e
one_item x y (inr e) = absurd e

pub low_rules : (n : ℕ) (xs : List Rule) → Every (IsRankedRule n) xs → Every (λ (o : Rule). o.state < n) xs
low_rules n xs h = every_weaker (IsRankedRule n) (λ (o : Rule). o.state < n) xs (λ o k. k.0) h

pub leaf_arity : (y : Target) → arity (leaf_symbol y) ≡ 0
leaf_arity Null = refl
leaf_arity Uninit = refl
leaf_arity Dangling = refl
leaf_arity (At k) = refl

-- A rule alone at the top.

module _ (a : Automaton) (x : Rule) (ranked : IsRanked a) (rule : IsIn x a.rules) where
  abbrev again : Rule
  again = record { state = a.states; symbol = x.symbol; children = x.children }

  right : IsRankedRule a.states x
  right = every_in (IsRankedRule a.states) a.rules x ranked.1 rule

  above : (o : Rule) → IsIn o (again ∷ []) → a.states ≤ o.state
  above o i = let s : o.state ≡ a.states = ap (λ (z : Rule). z.state) (one_item o again i) in omega (arith, s)

  -- a run to the new state ends with the rule
  pub chosen_back : (q : ℕ) (t : Tree) → a.states ≤ q → RunOf (chosen a x).rules q t → IsBy a.rules x t
  chosen_back q t l w =
      let k = fresh_run a (again ∷ []) ranked above q t l w in
      let e : k.0 ≡ again = one_item k.0 again k.1 in (
        ap (λ (z : Rule). z.symbol) (sym e) ∙ k.3,
        stay_each a (again ∷ []) ranked above x.children (out-Tree t).children right.1
            (subst (λ (z : Rule). RunEach (chosen a x).rules z.children (out-Tree t).children) e k.4),
      )

  -- the trees are those by the rule
  pub chosen_of : (t : Tree) → InLanguage (chosen a x) t → IsBy a.rules x t
  chosen_of t (q, i, w) = let s : q ≡ a.states = one_item q a.states i in chosen_back q t (omega (arith, s)) w

  pub to_chosen : (t : Tree) → IsBy a.rules x t → InLanguage (chosen a x) t
  to_chosen t k = (
    a.states,
    inl refl,
    run again (in_right again a.rules (again ∷ []) (inl refl)) refl k.0
        (widen_each a (again ∷ []) ranked above x.children (out-Tree t).children k.1),
  )

  pub chosen_one : HasOneTop (chosen a x)
  chosen_one = fresh_top_one a.states (a.states + 1) a.rules again [] refl (low_rules a.states a.rules ranked.1) tt

  pub chosen_ranked : IsRanked (chosen a x)
  chosen_ranked = (
    (omega arith, tt),
    every_append (IsRankedRule (a.states + 1)) a.rules (again ∷ [])
        (rules_more a.states (a.states + 1) (omega arith) a.rules ranked.1)
        ((omega arith, states_more a.states (a.states + 1) (omega arith) x.children right.1, right.2), tt),
  )

  pub chosen_symbols : (P : Symbol → Type 0) → Every (λ (o : Rule). P o.symbol) a.rules
      → Every (λ (o : Rule). P o.symbol) (chosen a x).rules
  chosen_symbols P h = every_append (λ (o : Rule). P o.symbol) a.rules (again ∷ []) h
      (every_in (λ (o : Rule). P o.symbol) a.rules x h rule, tt)

  -- runs to the old states are old
  pub chosen_stay : (q : ℕ) (t : Tree) → q < a.states → RunOf (chosen a x).rules q t → RunOf a.rules q t
  chosen_stay q t l w = stay a (again ∷ []) ranked above q t l w

  pub chosen_roots : (q : ℕ) → IsIn q (chosen a x).roots → a.states ≤ q
  chosen_roots q i = let s : q ≡ a.states = one_item q a.states i in omega (arith, s)

  -- its rule at the top
  pub chosen_top : top_rule (chosen a x) ≡ again
  chosen_top = sym (top_alone (chosen a x) chosen_one again (in_right again a.rules (again ∷ []) (inl refl)) (inl refl))
