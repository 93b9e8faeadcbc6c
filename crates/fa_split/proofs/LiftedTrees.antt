-- The automaton of the trees of a state that are cells.
use Rattle.std.proofs.Common.{◌≡◌, inl, inr, ℕ, ◌<◌, ◌≤◌, ◌+◌, ◌&&◌, not, Bool, true, false, nat_eq, if◌then◌else◌}
use Rattle.std.proofs.Common.{List, [], ◌∷◌, refl, sym, ap, subst, ◌∙◌, arith}
use Rattle.std.proofs.lemmas.Bool.{eqb-true, eq-eqb}
use Rattle.fore_base.specs.Lists.{IsIn, Every}
use Rattle.fore_base.proofs.ListLemmas.{in_right, every_in, in_every, every_append}
use Rattle.ta_core.specs.Auto.{Automaton, IsRanked, IsRankedRule}
use Rattle.ta_core.specs.Language.{RunOf, run, RunEach, InLanguage}
use Rattle.ta_core.specs.declared.auto.Rule.{Rule}
use Rattle.ta_core.specs.declared.symbol.Symbol.{Symbol}
use Rattle.ta_core.specs.declared.tree.Tree.{Tree, out-Tree}
use Rattle.fa_core.specs.Cells.{is_leaf}
use Rattle.fa_split.specs.Split.{cell_rules, lifted}
use Rattle.fa_split.proofs.FreshStates.{stay, stay_each, widen_each, fresh_run, states_more, rules_more}
use Rattle.fa_split.proofs.ChosenTrees.{one_item}

abbrev moved_rule : ℕ → Rule → Rule
moved_rule z o = record o { state = z }

abbrev Found : ℕ → ℕ → Rule → List Rule → Type 0
Found z q o xs = (w : Rule) × IsIn w xs × (w.state ≡ q) × (is_leaf w.symbol ≡ false) × (o ≡ moved_rule z w)

-- where a rule of a cell comes from
found : (z q : ℕ) (xs : List Rule) (o : Rule) → IsIn o (cell_rules z q xs) → Found z q o xs
found z q [] o h = absurd h
found z q (x ∷ xs) o h = here (nat_eq x.state q) refl (is_leaf x.symbol) refl h (found z q xs o)
  where
    later : Found z q o xs → Found z q o (x ∷ xs)
    later m = (m.0, inr m.1, m.2, m.3, m.4)

    here : (b : Bool) → nat_eq x.state q ≡ b → (c : Bool) → is_leaf x.symbol ≡ c
        → IsIn o (if b && not c then moved_rule z x ∷ cell_rules z q xs else cell_rules z q xs)
        → (IsIn o (cell_rules z q xs) → Found z q o xs) → Found z q o (x ∷ xs)
    here true e false g (inl w) k = (x, inl refl, eqb-true x.state q e, g, w)
    here true e false g (inr h) k = later (k h)
    here true e true g h k = later (k h)
    here false e c g h k = later (k h)

-- each rule of a cell is there
there : (z q : ℕ) (xs : List Rule) (w : Rule) → IsIn w xs → w.state ≡ q → is_leaf w.symbol ≡ false
    → IsIn (moved_rule z w) (cell_rules z q xs)
there z q [] w h e g = absurd h
there z q (x ∷ xs) w (inl v) e g =
    let a : nat_eq x.state q ≡ true = eq-eqb x.state q (ap (λ (y : Rule). y.state) (sym v) ∙ e) in
    let b : is_leaf x.symbol ≡ false = ap (λ (y : Rule). is_leaf y.symbol) (sym v) ∙ g in
    rw (a, b) (inl (ap (moved_rule z) v))
there z q (x ∷ xs) w (inr h) e g = here (nat_eq x.state q && not (is_leaf x.symbol)) (there z q xs w h e g)
  where
    here : (b : Bool) → IsIn (moved_rule z w) (cell_rules z q xs)
        → IsIn (moved_rule z w) (if b then moved_rule z x ∷ cell_rules z q xs else cell_rules z q xs)
    here true k = inr k
    here false k = k

module _ (a : Automaton) (q : ℕ) (ranked : IsRanked a) where
  abbrev pub lifts : List Rule
  lifts = cell_rules a.states q a.rules

  lifts_above : (o : Rule) → IsIn o lifts → a.states ≤ o.state
  lifts_above o i = let m = found a.states q a.rules o i in
      let s : o.state ≡ a.states = ap (λ (z : Rule). z.state) m.4 in omega (arith, s)

  -- a run to the new state is one of a cell to the old state
  pub lifted_back : (z : ℕ) (t : Tree) → a.states ≤ z → RunOf (lifted a q).rules z t → RunOf a.rules q t
      × (is_leaf (out-Tree t).symbol ≡ false)
  lifted_back z t l w =
      let k = fresh_run a lifts ranked lifts_above z t l w in
      let m = found a.states q a.rules k.0 k.1 in
      let y : m.0.symbol ≡ (out-Tree t).symbol = ap (λ (o : Rule). o.symbol) (sym m.4) ∙ k.3 in
      let low_children = (every_in (IsRankedRule a.states) a.rules m.0 ranked.1 m.1).1 in (
        run m.0 m.1 m.2 y
            (stay_each a lifts ranked lifts_above m.0.children (out-Tree t).children low_children
            (subst (λ (o : Rule). RunEach (lifted a q).rules o.children (out-Tree t).children) m.4 k.4)),
        ap is_leaf (sym y) ∙ m.3,
      )

  pub lifted_of : (t : Tree) → InLanguage (lifted a q) t → RunOf a.rules q t × (is_leaf (out-Tree t).symbol ≡ false)
  lifted_of t (z, i, w) = let s : z ≡ a.states = one_item z a.states i in lifted_back z t (omega (arith, s)) w

  pub to_lifted : (t : Tree) → RunOf a.rules q t → is_leaf (out-Tree t).symbol ≡ false → InLanguage (lifted a q) t
  to_lifted t (run o i s y k) g = (
    a.states,
    inl refl,
    run (moved_rule a.states o)
        (in_right (moved_rule a.states o) a.rules lifts (there a.states q a.rules o i s (ap is_leaf y ∙ g))) refl y
        (widen_each a lifts ranked lifts_above o.children (out-Tree t).children k),
  )

  pub lifted_ranked : IsRanked (lifted a q)
  lifted_ranked = (
    (omega arith, tt),
    every_append (IsRankedRule (a.states + 1)) a.rules lifts
        (rules_more a.states (a.states + 1) (omega arith) a.rules ranked.1)
        (in_every (IsRankedRule (a.states + 1)) lifts each),
  )
    where
      each : (o : Rule) → IsIn o lifts → IsRankedRule (a.states + 1) o
      each o i =
          let m = found a.states q a.rules o i in
          let w = every_in (IsRankedRule a.states) a.rules m.0 ranked.1 m.1 in
          subst (IsRankedRule (a.states + 1)) (sym m.4)
          (omega arith, states_more a.states (a.states + 1) (omega arith) m.0.children w.1, w.2)

  pub lifted_symbols : (P : Symbol → Type 0) → Every (λ (o : Rule). P o.symbol) a.rules
      → Every (λ (o : Rule). P o.symbol) (lifted a q).rules
  lifted_symbols P h = every_append (λ (o : Rule). P o.symbol) a.rules lifts h
      (in_every (λ (o : Rule). P o.symbol) lifts (λ o i.
      let m = found a.states q a.rules o i in
      subst (λ (z : Rule). P z.symbol) (sym m.4) (every_in (λ (z : Rule). P z.symbol) a.rules m.0 h m.1)))

  -- runs to the old states are old
  pub lifted_stay : (z : ℕ) (t : Tree) → z < a.states → RunOf (lifted a q).rules z t → RunOf a.rules z t
  lifted_stay z t l w = stay a lifts ranked lifts_above z t l w

  pub lifted_roots : (z : ℕ) → IsIn z (lifted a q).roots → a.states ≤ z
  lifted_roots z i = let s : z ≡ a.states = one_item z a.states i in omega (arith, s)
