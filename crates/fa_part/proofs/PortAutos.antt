-- The automaton of a port: its trees are those of the root with the taken fields alone, without data, and with other
-- numbers in their references.
use Rattle.std.proofs.Common.{◌≡◌, inl, ℕ, ◌<◌, ◌≤◌, ◌+◌, List, [], ◌∷◌, ◌++◌, map, flat_map, refl, sym, ap, ap₂, subst}
use Rattle.std.proofs.Common.{◌∙◌, arith, slice_get, Some}
use Rattle.fore_base.specs.Lists.{IsIn, Every}
use Rattle.fore_base.proofs.ListLemmas.{in_right, every_in, every_append}
use Rattle.ta_core.specs.Auto.{Automaton, IsRanked, IsRankedRule}
use Rattle.ta_core.specs.Language.{RunOf, RunEach, InLanguage}
use Rattle.ta_core.specs.Single.{HasOneTop}
use Rattle.ta_core.specs.declared.auto.Rule.{Rule}
use Rattle.ta_core.specs.declared.symbol.Slot.{Slot}
use Rattle.ta_core.specs.declared.symbol.Symbol.{Symbol}
use Rattle.ta_core.specs.declared.symbol.Symbol.TheVariants.{Cell}
use Rattle.ta_core.specs.declared.tree.Tree.{Tree, Tree-F, out-Tree, out-roll-Tree, roll-out-Tree}
use Rattle.ta_core.proofs.Runs.{tree_of, run_tree}
use Rattle.fa_core.specs.Filled.{HasSome}
use Rattle.fa_core.specs.Folding.{ArePortAutos, IsLanguageOf, cell_of, is_one_of, moved_places, moved_tree, places}
use Rattle.fa_core.specs.Folding.{port_tree}
use Rattle.fa_core.specs.Folding.{symbol_slots, taken}
use Rattle.fa_core.specs.declared.forest.Target.TheVariants.{At}
use Rattle.fa_core.proofs.Placing.{placed_ranked}
use Rattle.fa_split.specs.Split.{top_rule}
use Rattle.fa_split.proofs.ChosenTrees.{one_item}
use Rattle.fa_split.proofs.FreshStates.{fresh_run, states_more, rules_more, stay_each, widen_each}
use Rattle.fa_split.proofs.TopRules.{tree_by_top, top_by_tree, top_in}
use Rattle.fa_part.specs.declared.ports.Port.{Port}
use Rattle.fa_part.specs.Ports.{ports_of, shapes_of}
use Rattle.fa_part.specs.inner.Automata.{moved_auto, port_auto, port_rule}
use Rattle.fa_part.specs.inner.Edges.{picked}
use Rattle.fa_folding.proofs.Moving.{each_from, each_to}
use Rattle.fa_part.proofs.Picked.{every_picked, items_in, picked_long, picked_slots, refilled, runs_picked, single}
use Rattle.fa_part.proofs.Picked.{slots_in}
use Rattle.fa_part.proofs.Picked.{taken_are}

module _ (f : ℕ → ℕ) where
  slots_moved : (es : List (Slot × Tree)) → map (λ p. p.0) (moved_places f (map single es)) ≡ slots_in es
  slots_moved [] = refl
  slots_moved (e ∷ es) = ap (λ (l : List Slot). e.0 ∷ l) (slots_moved es)

  children_moved : (es : List (Slot × Tree)) → flat_map (λ p. p.1) (moved_places f (map single es))
      ≡ map (moved_tree f) (items_in es)
  children_moved [] = refl
  children_moved (e ∷ es) = ap (λ (l : List Tree). moved_tree f e.1 ∷ l) (children_moved es)

  module _ (shape : ℕ) (fs : List ℕ) where
    -- the port's tree by what stands at the top of the root's
    abbrev at_top : Symbol → List Tree → Tree
    at_top y ts = cell_of shape [] (moved_places f (taken fs (places (symbol_slots y) ts)))

    top_is : (y : Symbol) (ts : List Tree) → at_top y ts
        ≡ tree_of (Cell shape [] (slots_in (picked (is_one_of fs) (symbol_slots y) ts)))
        (map (moved_tree f) (items_in (picked (is_one_of fs) (symbol_slots y) ts)))
    top_is y ts =
        let es = picked (is_one_of fs) (symbol_slots y) ts in
        ap (λ (ps : List (Slot × List Tree)). cell_of shape [] (moved_places f ps))
        (taken_are fs (symbol_slots y) ts)
        ∙ ap₂ (λ (ss : List Slot) (us : List Tree). tree_of (Cell shape [] ss) us) (slots_moved es) (children_moved es)

    module _ (a : Automaton) (ranked : IsRanked a) (one : HasOneTop a) where
      abbrev b : Automaton
      b = moved_auto f a

      abbrev x : Rule
      x = port_rule shape fs a

      abbrev slots : List Slot
      slots = symbol_slots (top_rule a).symbol

      b_ranked : IsRanked b
      b_ranked = placed_ranked (λ k. At (f k)) a ranked

      above : (o : Rule) → IsIn o (x ∷ []) → b.states ≤ o.state
      above o i = let s : o.state ≡ a.states = ap (λ (z : Rule). z.state) (one_item o x i) in omega (arith, s)

      top_ranked : IsRankedRule a.states (top_rule a)
      top_ranked = every_in (IsRankedRule a.states) a.rules (top_rule a) ranked.1 (top_in a one)

      -- each child of the rule is a state of a
      pub low_children : Every (λ q. q < a.states) x.children
      low_children = every_picked (λ q. q < a.states) (is_one_of fs) slots (top_rule a).children top_ranked.1

      back : HasSome a → (u : Tree) → InLanguage (port_auto f shape fs a) u → (t : Tree) × InLanguage a t
          × (u ≡ port_tree f shape fs t)
      back some u (q, i, w) =
          let s : q ≡ a.states = one_item q a.states i in
          let k = fresh_run b (x ∷ []) b_ranked above q u (omega (arith, s)) w in
          let e : k.0 ≡ x = one_item k.0 x k.1 in
          let below = stay_each b (x ∷ []) b_ranked above x.children (out-Tree u).children low_children
          (subst (λ (z : Rule). RunEach (port_auto f shape fs a).rules z.children (out-Tree u).children) e k.4) in
          let m = each_from f a.rules x.children refl below in
          let whole = tree_by_top a one some.0 some.1 in
          let r = refilled a.rules (is_one_of fs) slots whole.1 m.0 m.1 in
          let layer : Tree-F Tree = record { symbol = (top_rule a).symbol; children = r.0 } in
          let t = tree_of (top_rule a).symbol r.0 in
          let o : out-Tree t ≡ layer = out-roll-Tree layer in
          let symbol : (out-Tree u).symbol ≡ Cell shape [] (slots_in (picked (is_one_of fs) slots r.0)) =
          sym k.3 ∙ ap (λ (z : Rule). z.symbol) e
          ∙ ap (λ (ss : List Slot). Cell shape [] ss) (picked_slots a.rules (is_one_of fs) slots r.1) in
          let children : (out-Tree u).children ≡ map (moved_tree f) (items_in (picked (is_one_of fs) slots r.0)) =
          m.2 ∙ ap (λ (ts : List Tree). map (moved_tree f) ts) (sym r.2) in (
            t,
            top_by_tree a one t (subst
                (λ (z : Tree-F Tree). ((top_rule a).symbol ≡ z.symbol)
                × RunEach a.rules (top_rule a).children z.children)
                (sym o) (refl, r.1)),
            sym (roll-out-Tree u) ∙ ap₂ tree_of symbol children ∙ sym (top_is (top_rule a).symbol r.0)
                ∙ ap (λ (z : Tree-F Tree). at_top z.symbol z.children) (sym o),
          )

      forth : (u t : Tree) → InLanguage a t → u ≡ port_tree f shape fs t → InLanguage (port_auto f shape fs a) u
      forth u t i e =
          let k = tree_by_top a one t i in
          let ts = (out-Tree t).children in
          let runs = runs_picked a.rules (is_one_of fs) slots k.1 in
          let moved : RunEach b.rules x.children (map (moved_tree f) (items_in (picked (is_one_of fs) slots ts))) =
          each_to f a.rules runs in
          let wide = widen_each b (x ∷ []) b_ranked above x.children _ moved in
          let made = run_tree (port_auto f shape fs a).rules x _ (in_right x b.rules (x ∷ []) (inl refl)) wide in
          let same : tree_of x.symbol (map (moved_tree f) (items_in (picked (is_one_of fs) slots ts))) ≡ u =
          ap (λ (ss : List Slot). tree_of (Cell shape [] ss)
          (map (moved_tree f) (items_in (picked (is_one_of fs) slots ts))))
          (picked_slots a.rules (is_one_of fs) slots k.1)
          ∙ sym (top_is (top_rule a).symbol ts)
          ∙ ap (λ (y : Symbol). at_top y ts) k.0
          ∙ sym e in
          (a.states, inl refl, subst (λ (z : Tree). RunOf (port_auto f shape fs a).rules a.states z) same made)

      pub port_language : HasSome a → IsLanguageOf (port_tree f shape fs) a (port_auto f shape fs a)
      port_language some u = (back some u, (λ h. forth u h.0 h.1 h.2))

      -- it keeps its ranges
      pub port_ranked : IsRanked (port_auto f shape fs a)
      port_ranked = (
        (omega arith, tt),
        every_append (IsRankedRule (a.states + 1)) b.rules (x ∷ [])
            (rules_more a.states (a.states + 1) (omega arith) b.rules b_ranked.1) (
              (
                omega arith,
                states_more a.states (a.states + 1) (omega arith) x.children low_children,
                picked_long (is_one_of fs) slots (top_rule a).children,
              ),
              tt,
            ),
      )

-- The components of the ports, a port more.
module _ (f : ℕ → ℕ) (autos : List Automaton) (p : Port) (b : Automaton) where
  abbrev IsOwn : Type 0
  IsOwn = (a : Automaton) × (slice_get autos p.root ≡ Some a) × IsLanguageOf (port_tree f p.shape p.fields) a b

  pub autos_more : (ps : List Port) (made : List Automaton) → ArePortAutos f autos (ports_of ps) (shapes_of ps) made
      → IsOwn → ArePortAutos f autos (ports_of (ps ++ p ∷ [])) (shapes_of (ps ++ p ∷ [])) (made ++ b ∷ [])
  autos_more [] made h k = subst
      (λ (l : List Automaton). ArePortAutos f autos ((p.root, p.fields) ∷ []) (p.shape ∷ []) (l ++ b ∷ [])) (sym h)
      (k, refl)
  autos_more (o ∷ ps) [] h k = absurd h
  autos_more (o ∷ ps) (m ∷ made) h k = (h.0, autos_more ps made h.1 k)
