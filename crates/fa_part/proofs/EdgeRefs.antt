-- What the picked slots of a root's trees refer to, by what the trees of their states refer to.
use Rattle.std.proofs.Common.{◌≡◌, ℕ, ◌<◌, Bool, true, false, List, [], ◌∷◌, ◌++◌, map, flat_map, refl, sym, ap}
use Rattle.std.proofs.Common.{ap₂, subst, ◌∙◌, append-nil, append_assoc, Option, Some}
use Rattle.std.proofs.lemmas.Option.{same_Some}
use Rattle.fore_base.specs.Lists.{Every, Paired}
use Rattle.fore_base.proofs.ListLemmas.{every_in, paired_push}
use Rattle.ta_core.specs.Auto.{Automaton, IsRanked, IsRankedRule}
use Rattle.ta_core.specs.Language.{RunEach, InLanguage, run_none, run_more}
use Rattle.ta_core.specs.Single.{HasOneTop}
use Rattle.ta_core.specs.declared.symbol.Slot.{Slot}
use Rattle.ta_core.specs.declared.symbol.Symbol.{Symbol}
use Rattle.ta_core.specs.declared.tree.Tree.{Tree, out-Tree}
use Rattle.fa_core.specs.Folding.{place_refs, taken, left, top_places, symbol_slots, is_one_of}
use Rattle.fa_core.specs.References.{tree_refs}
use Rattle.fa_core.specs.Ways.{once}
use Rattle.fa_sound.specs.Soundness.{IsStateOf}
use Rattle.fa_split.specs.Split.{top_rule}
use Rattle.fa_split.proofs.TopRules.{tree_by_top, top_in}
use Rattle.fa_part.specs.inner.Edges.{picked, top_edges, is_left, is_picked}
use Rattle.fa_part.specs.inner.Referring.{AreEdgeRefs, ArePickedRefs, AreStateRefs}
use Rattle.fa_part.specs.inner.Thin.{Thin}
use Rattle.fa_part.proofs.Picked.{runs_picked, taken_refs, left_refs_are, refs_in, every_picked}
use Rattle.fa_part.proofs.Thinned.{flat_thin}

abbrev items_in : {X : Type 0} → List (Slot × X) → List X
items_in es = map (λ e. e.1) es

flat_push : (rss : List (List ℕ)) (rs : List ℕ) → flat_map (λ x. x) rss ++ rs ≡ flat_map (λ x. x) (rss ++ rs ∷ [])
flat_push [] rs = sym (append-nil rs)
flat_push (x ∷ rss) rs =
    append_assoc x (flat_map (λ x. x) rss) rs ∙ ap (λ (l : List ℕ). x ++ l) (flat_push rss rs)

-- one state more
pub edges_more : (o : Option Automaton) (qs rs : List ℕ) (q : ℕ) (more : List ℕ) → AreEdgeRefs o qs rs
    → AreStateRefs o q more → AreEdgeRefs o (qs ++ q ∷ []) (rs ++ more)
edges_more o qs rs q more h k = (
  h.0 ++ more ∷ [],
  paired_push (AreStateRefs o) qs h.0 q more h.1 k,
  ap (λ (l : List ℕ). l ++ more) h.2 ∙ flat_push h.0 more,
)

module _ (o : Option Automaton) (a : Automaton) (at : o ≡ Some a) where
  -- the lists are those of the trees
  flat_refs : {qs : List ℕ} {ts : List Tree} (rss : List (List ℕ)) → Paired (AreStateRefs o) qs rss
      → RunEach a.rules qs ts → flat_map (λ x. x) rss ≡ flat_map (λ (t : Tree). once (tree_refs t)) ts
  flat_refs [] h run_none = refl
  flat_refs (rs ∷ rss) h run_none = absurd h
  flat_refs [] h (run_more r k) = absurd h
  flat_refs (rs ∷ rss) h (run_more {q} {qs} {t} {ts} r k) =
      ap₂ (λ (x y : List ℕ). x ++ y) (h.0 a t at r) (flat_refs rss h.1 k)

  module _ (one : HasOneTop a) (p : Slot → Bool) (rs : List ℕ) (refs : AreEdgeRefs o (items_in (top_edges p a)) rs)
      (t : Tree) (i : InLanguage a t) where
    abbrev here : List (Slot × Tree)
    here = picked p (symbol_slots (out-Tree t).symbol) (out-Tree t).children

    picked_thin : Thin [] (refs_in here) rs
    picked_thin =
        let k = tree_by_top a one t i in
        let runs : RunEach a.rules (items_in (top_edges p a)) (items_in here) =
        subst (λ (y : Symbol). RunEach a.rules (items_in (top_edges p a))
        (items_in (picked p (symbol_slots y) (out-Tree t).children))) k.0
        (runs_picked a.rules p (symbol_slots (top_rule a).symbol) k.1) in
        subst (λ (l : List ℕ). Thin [] (refs_in here) l)
        (sym (refs.2 ∙ flat_refs refs.0 refs.1 runs ∙ flat_items here))
        (flat_thin (λ (u : Slot × Tree). tree_refs u.1) here)
      where
        flat_items : (us : List (Slot × Tree)) → flat_map (λ (t : Tree). once (tree_refs t)) (items_in us)
            ≡ flat_map (λ (u : Slot × Tree). once (tree_refs u.1)) us
        flat_items [] = refl
        flat_items (u ∷ us) = ap (λ (l : List ℕ). once (tree_refs u.1) ++ l) (flat_items us)

  taken_thin : (one : HasOneTop a) (fs : List ℕ) (rs : List ℕ)
      → AreEdgeRefs o (items_in (top_edges (is_one_of fs) a)) rs → (t : Tree) → InLanguage a t
      → Thin [] (place_refs (taken fs (top_places t))) rs
  taken_thin one fs rs h t i = subst (λ (l : List ℕ). Thin [] l rs)
      (sym (taken_refs fs (symbol_slots (out-Tree t).symbol) (out-Tree t).children))
      (picked_thin one (is_one_of fs) rs h t i)

  left_thin : (one : HasOneTop a) (fs : List ℕ) (rs : List ℕ)
      → AreEdgeRefs o (items_in (top_edges (is_left fs) a)) rs → (t : Tree) → InLanguage a t
      → Thin [] (place_refs (left fs (top_places t))) rs
  left_thin one fs rs h t i = subst (λ (l : List ℕ). Thin [] l rs)
      (sym (left_refs_are fs (symbol_slots (out-Tree t).symbol) (out-Tree t).children))
      (picked_thin one (is_left fs) rs h t i)

  mine : (x : Automaton) (t : Tree) → o ≡ Some x → InLanguage x t → InLanguage a t
  mine x t e i = subst (λ (z : Automaton). InLanguage z t) (same_Some x a (sym e ∙ at)) i

  -- what the trees of the states of the picked slots refer to is what those slots do
  pub picked_are : HasOneTop a → (picks : Bool) (fs rs : List ℕ)
      → AreEdgeRefs o (items_in (top_edges (is_picked picks fs) a)) rs → ArePickedRefs picks o fs rs
  picked_are one true fs rs h = λ x t e i. taken_thin one fs rs h t (mine x t e i)
  picked_are one false fs rs h = λ x t e i. left_thin one fs rs h t (mine x t e i)

  -- the states of the picked slots are states of the automaton
  pub edge_states : HasOneTop a → IsRanked a → (p : Slot → Bool) → Every (IsStateOf o) (items_in (top_edges p a))
  edge_states one ranked p = subst (λ (x : Option Automaton). Every (IsStateOf x) (items_in (top_edges p a))) (sym at)
      (every_picked (λ q. q < a.states) p (symbol_slots (top_rule a).symbol) (top_rule a).children
      (every_in (IsRankedRule a.states) a.rules (top_rule a) ranked.1 (top_in a one)).1)
