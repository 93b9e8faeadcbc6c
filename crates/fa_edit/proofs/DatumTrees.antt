-- The automaton with another datum in the one rule at its top.
use Rattle.std.proofs.Common.{◌≡◌, inl, ℕ, ◌<◌, ◌≤◌, ◌+◌, List, [], ◌∷◌, refl, sym, ap, subst, ◌∙◌, slice_get}
use Rattle.std.proofs.Common.{slice_set, Some, arith}
use Rattle.fore_base.specs.Lists.{IsIn, Every}
use Rattle.fore_base.specs.declared.store.Datum.{Datum}
use Rattle.fore_base.proofs.ListLemmas.{in_right, every_in, every_append}
use Rattle.ta_core.specs.Arity.{arity}
use Rattle.ta_core.specs.Auto.{Automaton, IsRanked, IsRankedRule}
use Rattle.ta_core.specs.Language.{RunOf, run, RunEach, InLanguage}
use Rattle.ta_core.specs.Single.{HasOneTop}
use Rattle.ta_core.specs.declared.auto.Rule.{Rule}
use Rattle.ta_core.specs.declared.symbol.Symbol.{Symbol}
use Rattle.ta_core.specs.declared.symbol.Symbol.TheVariants.{Null, Uninit, Dangling, Ref, Cell}
use Rattle.ta_core.specs.declared.tree.Tree.{Tree, out-Tree}
use Rattle.fa_core.specs.Dressed.{Node, node}
use Rattle.fa_core.specs.Member.{bare}
use Rattle.fa_core.proofs.Dressing.{cell_top}
use Rattle.fa_edit.specs.Data.{symbol_datums, top_datums, with_datum}
use Rattle.fa_edit.specs.inner.Edited.{symbol_with, dated}
use Rattle.fa_split.specs.Split.{top_rule}
use Rattle.fa_split.proofs.ChosenTrees.{one_item, low_rules}
use Rattle.fa_split.proofs.FreshStates.{stay, stay_each, widen_each, fresh_run, states_more, rules_more}
use Rattle.fa_split.proofs.Places.{cell_children}
use Rattle.fa_split.proofs.RunPlaces.{set_here, set_again, set_same}
use Rattle.fa_split.proofs.TopRules.{top_in, fresh_top_one, tree_by_top, top_by_tree}

-- Symbols.

pub symbol_twice : (f : ℕ) (y z : Datum) (s : Symbol) → symbol_with f y (symbol_with f z s) ≡ symbol_with f y s
symbol_twice f y z Null = refl
symbol_twice f y z Uninit = refl
symbol_twice f y z Dangling = refl
symbol_twice f y z (Ref r) = refl
symbol_twice f y z (Cell s ds ss) = ap (λ (es : List Datum). Cell s es ss) (set_again ds f y z)

pub symbol_same : (f : ℕ) (y : Datum) (s : Symbol) → slice_get (symbol_datums s) f ≡ Some y → symbol_with f y s ≡ s
symbol_same f y Null e = refl
symbol_same f y Uninit e = refl
symbol_same f y Dangling e = refl
symbol_same f y (Ref r) e = refl
symbol_same f y (Cell s ds ss) e = ap (λ (es : List Datum). Cell s es ss) (set_same ds f y e)

pub symbol_has : (f : ℕ) (y z : Datum) (s : Symbol) → slice_get (symbol_datums s) f ≡ Some y
    → slice_get (symbol_datums (symbol_with f z s)) f ≡ Some z
symbol_has f y z Null e = absurd cc
symbol_has f y z Uninit e = absurd cc
symbol_has f y z Dangling e = absurd cc
symbol_has f y z (Ref r) e = absurd cc
symbol_has f y z (Cell s ds ss) e = set_here ds f y z e

pub symbol_arity : (f : ℕ) (z : Datum) (s : Symbol) → arity (symbol_with f z s) ≡ arity s
symbol_arity f z Null = refl
symbol_arity f z Uninit = refl
symbol_arity f z Dangling = refl
symbol_arity f z (Ref r) = refl
symbol_arity f z (Cell s ds ss) = refl

-- Dressed trees.

pub datums_top : (n : Node) → symbol_datums (out-Tree (bare n)).symbol ≡ top_datums n
datums_top (node c s ds ps) = ap symbol_datums (cell_top c s ds ps)

pub with_datum_symbol : (f : ℕ) (z : Datum) (n : Node) → (out-Tree (bare (with_datum f z n))).symbol
    ≡ symbol_with f z (out-Tree (bare n)).symbol
with_datum_symbol f z (node c s ds ps) = cell_top c s (slice_set ds f z) ps
    ∙ ap (symbol_with f z) (sym (cell_top c s ds ps))

pub with_datum_children : (f : ℕ) (z : Datum) (n : Node) → (out-Tree (bare (with_datum f z n))).children
    ≡ (out-Tree (bare n)).children
with_datum_children f z (node c s ds ps) = cell_children c s (slice_set ds f z) ps ∙ sym (cell_children c s ds ps)

-- The automaton.

module _ (a : Automaton) (ranked : IsRanked a) (one : HasOneTop a) (f : ℕ) (z : Datum) where
  abbrev pub top : Rule
  top = top_rule a

  abbrev pub fresh : Rule
  fresh = record { state = a.states; symbol = symbol_with f z top.symbol; children = top.children }

  abbrev pub new : Automaton
  new = dated a f z

  right : IsRankedRule a.states top
  right = every_in (IsRankedRule a.states) a.rules top ranked.1 (top_in a one)

  above : (o : Rule) → IsIn o (fresh ∷ []) → a.states ≤ o.state
  above o i = let s : o.state ≡ a.states = ap (λ (x : Rule). x.state) (one_item o fresh i) in omega (arith, s)

  -- a run to the new state ends with the new rule
  pub dated_back : (q : ℕ) (t : Tree) → a.states ≤ q → RunOf new.rules q t
      → (symbol_with f z top.symbol ≡ (out-Tree t).symbol) × RunEach a.rules top.children (out-Tree t).children
  dated_back q t l w =
      let k = fresh_run a (fresh ∷ []) ranked above q t l w in
      let e : k.0 ≡ fresh = one_item k.0 fresh k.1 in (
        ap (λ (x : Rule). x.symbol) (sym e) ∙ k.3,
        stay_each a (fresh ∷ []) ranked above top.children (out-Tree t).children right.1
            (subst (λ (x : Rule). RunEach new.rules x.children (out-Tree t).children) e k.4),
      )

  pub dated_of : (t : Tree) → InLanguage new t → (symbol_with f z top.symbol ≡ (out-Tree t).symbol)
      × RunEach a.rules top.children (out-Tree t).children
  dated_of t (q, i, w) = let s : q ≡ a.states = one_item q a.states i in dated_back q t (omega (arith, s)) w

  pub to_dated : (t : Tree) → symbol_with f z top.symbol ≡ (out-Tree t).symbol
      → RunEach a.rules top.children (out-Tree t).children → InLanguage new t
  to_dated t e k = (
    a.states,
    inl refl,
    run fresh (in_right fresh a.rules (fresh ∷ []) (inl refl)) refl e
        (widen_each a (fresh ∷ []) ranked above top.children (out-Tree t).children k),
  )

  pub dated_one : HasOneTop new
  dated_one = fresh_top_one a.states (a.states + 1) a.rules fresh [] refl (low_rules a.states a.rules ranked.1) tt

  pub dated_ranked : IsRanked new
  dated_ranked = (
    (omega arith, tt),
    every_append (IsRankedRule (a.states + 1)) a.rules (fresh ∷ [])
        (rules_more a.states (a.states + 1) (omega arith) a.rules ranked.1) (
          (
            omega arith,
            states_more a.states (a.states + 1) (omega arith) top.children right.1,
            right.2
                ∙ sym (symbol_arity f z top.symbol),
          ),
          tt,
        ),
  )

  pub dated_symbols : (P : Symbol → Type 0) → P (symbol_with f z top.symbol) → Every (λ (o : Rule). P o.symbol) a.rules
      → Every (λ (o : Rule). P o.symbol) new.rules
  dated_symbols P p h = every_append (λ (o : Rule). P o.symbol) a.rules (fresh ∷ []) h (p, tt)

  -- what a symbol of the automaton has, its one at the top has
  pub at_top : (P : Symbol → Type 0) → Every (λ (o : Rule). P o.symbol) a.rules → P top.symbol
  at_top P h = every_in (λ (o : Rule). P o.symbol) a.rules top h (top_in a one)

  -- runs to the old states are old
  pub dated_stay : (q : ℕ) (t : Tree) → q < a.states → RunOf new.rules q t → RunOf a.rules q t
  dated_stay q t l w = stay a (fresh ∷ []) ranked above q t l w

  -- with the datum, a tree of the old automaton is one of the new
  pub put_dated : (n : Node) → InLanguage a (bare n) → InLanguage new (bare (with_datum f z n))
  put_dated n l =
      let k = tree_by_top a one (bare n) l in
      to_dated (bare (with_datum f z n)) (ap (symbol_with f z) k.0 ∙ sym (with_datum_symbol f z n))
      (subst (λ (ts : List Tree). RunEach a.rules top.children ts) (sym (with_datum_children f z n)) k.1)

  pub dated_has : (y : Datum) → slice_get (symbol_datums top.symbol) f ≡ Some y → (n : Node) → InLanguage new (bare n)
      → slice_get (top_datums n) f ≡ Some z
  dated_has y e n l = subst (λ (ds : List Datum). slice_get ds f ≡ Some z)
      (ap symbol_datums (dated_of (bare n) l).0 ∙ datums_top n) (symbol_has f y z top.symbol e)

  -- and with the old datum put back, one of the old
  pub from_dated : (y : Datum) → slice_get (symbol_datums top.symbol) f ≡ Some y → (n : Node) → InLanguage new (bare n)
      → InLanguage a (bare (with_datum f y n))
  from_dated y e n l =
      let k = dated_of (bare n) l in
      top_by_tree a one (bare (with_datum f y n)) (
        sym (with_datum_symbol f y n ∙ ap (symbol_with f y) (sym k.0) ∙ symbol_twice f y z top.symbol
            ∙ symbol_same f y top.symbol e),
        subst (λ (ts : List Tree). RunEach a.rules top.children ts) (sym (with_datum_children f y n)) k.1,
      )
