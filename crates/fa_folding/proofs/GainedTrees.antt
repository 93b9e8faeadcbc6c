-- The trees of a component that loses some slots and gains others at its top.
use Rattle.std.proofs.Common.{◌≡◌, ◌↔◌, inl, inr, ℕ, ◌<◌, ◌≤◌, ◌+◌, ◌⊎◌, not, Bool, length, List, []}
use Rattle.std.proofs.Common.{◌∷◌}
use Rattle.std.proofs.Common.{◌++◌, map, refl, sym, ap, ap₂, subst, ◌∙◌, arith}
use Rattle.fore_base.specs.Lists.{IsIn, Every, Paired}
use Rattle.fore_base.specs.declared.store.Datum.{Datum}
use Rattle.fore_base.proofs.ListLemmas.{every_append, every_in, in_right}
use Rattle.ta_core.specs.Arity.{arity, child_slots}
use Rattle.ta_core.specs.Auto.{Automaton, IsRanked, IsRankedRule}
use Rattle.ta_core.specs.Language.{InLanguage, RunEach, RunOf}
use Rattle.ta_core.specs.Single.{HasOneTop}
use Rattle.ta_core.specs.declared.auto.Rule.{Rule}
use Rattle.ta_core.specs.declared.symbol.Slot.{Slot}
use Rattle.ta_core.specs.declared.symbol.Symbol.{Symbol}
use Rattle.ta_core.specs.declared.symbol.Symbol.TheVariants.{Cell}
use Rattle.ta_core.specs.declared.tree.Tree.{Tree, Tree-F, out-Tree, out-roll-Tree, roll-out-Tree}
use Rattle.ta_core.proofs.Runs.{run_tree, tree_of}
use Rattle.fa_core.specs.declared.faces.BoxFace.{BoxFace}
use Rattle.fa_core.specs.Filled.{HasSome}
use Rattle.fa_core.specs.Folding.{cell_of, is_one_of, left, places, symbol_slots, top_places}
use Rattle.fa_split.specs.Split.{top_rule}
use Rattle.fa_split.proofs.ChosenTrees.{one_item}
use Rattle.fa_split.proofs.FreshStates.{fresh_run, rules_more, states_more, stay, stay_each, widen_each}
use Rattle.fa_merge.proofs.MergedAnywhere.{nat_cases}
use Rattle.fa_split.proofs.TopRules.{top_by_tree, top_in, tree_by_top}
use Rattle.fa_unfold.specs.Slots.{Place, joined, place_key, rule_places, slot_key, state_places, with_places}
use Rattle.fa_unfold.specs.Slots.{with_slots}
use Rattle.fa_unfold.proofs.Joins.{joined_apart, joined_every, joined_paired}
use Rattle.fa_unfold.proofs.PlaceRuns.{IsPlace, places_below, places_long, places_right, places_wider, states_each}
use Rattle.fa_folding.specs.Gaining.{gained_auto, left_places, with_rules}
use Rattle.fa_folding.proofs.FoldedPlaces.{grown_key}
use Rattle.fa_folding.proofs.SlotRuns.{Grown, SlotRuns, all_items, all_slots, filter_run, places_again, places_run}
use Rattle.fa_folding.proofs.SlotRuns.{refill}
use Rattle.fa_folding.proofs.SlotRuns.{run_slots, slots_run, slots_turned}
use Rattle.fa_folding.proofs.Lists.{every_filter}

module _ (bs : List BoxFace) (a : Automaton) (ranked : IsRanked a) (one : HasOneTop a) (s : ℕ) (ds : List Datum)
    (ss : List Slot) (top : (top_rule a).symbol ≡ Cell s ds ss) (fs : List ℕ) (xs : List Rule) (gain : List Place)
    (more : List Grown) where
  abbrev base : Automaton
  base = with_rules a xs

  abbrev made : List Place
  made = joined (place_key bs) (left_places fs a) gain

  abbrev x : Rule
  x = with_places (top_rule a) made

  abbrev fresh : Rule
  fresh = record { state = base.states; symbol = x.symbol; children = x.children }

  abbrev c : Automaton
  c = gained_auto bs fs xs gain a

  abbrev is_left : Slot → Bool
  is_left z = not (is_one_of fs z)

  -- the tree that a tree becomes
  abbrev pub gained_tree : Tree → Tree
  gained_tree t = cell_of s ds (joined (grown_key bs) (left fs (top_places t)) more)

  slots_here : symbol_slots (top_rule a).symbol ≡ ss
  slots_here = ap symbol_slots top

  rule_here : rule_places (top_rule a) ≡ state_places ss (top_rule a).children
  rule_here = ap (λ (z : List Slot). state_places z (top_rule a).children) slots_here

  top_ranked : IsRankedRule a.states (top_rule a)
  top_ranked = every_in (IsRankedRule a.states) a.rules (top_rule a) ranked.1 (top_in a one)

  children_many : length (top_rule a).children ≡ child_slots ss
  children_many = top_ranked.2 ∙ ap arity top

  symbol_here : x.symbol ≡ Cell s ds (map (λ p. p.0) made)
  symbol_here = ap (λ (y : Symbol). with_slots y (map (λ p. p.0) made)) top

  own_places : Every (IsPlace a.states) (left_places fs a)
  own_places = every_filter (λ p. is_left p.0) (IsPlace a.states) (rule_places (top_rule a))
      (places_right a.states (symbol_slots (top_rule a).symbol) (top_rule a).children top_ranked.1)

  left_low : Every (λ p. Every (λ q. q < a.states) p.1) (left_places fs a)
  left_low = every_filter (λ p. is_left p.0) (λ p. Every (λ q. q < a.states) p.1) (rule_places (top_rule a))
      (states_each (λ q. q < a.states) (symbol_slots (top_rule a).symbol) (top_rule a).children top_ranked.1)

  keys_agree : (rules : List Rule) (p : Place) (g : Grown) → SlotRuns rules p g → place_key bs p ≡ grown_key bs g
  keys_agree rules p g h = ap (slot_key bs) h.0

  -- the new rules are at the state that follows, and the slots that are gained have its trees
  module _ (above : (o : Rule) → IsIn o xs → (o.state ≡ a.states) × (o.children ≡ [])
      × (length o.children ≡ arity o.symbol)) (gain_right : Every (IsPlace (a.states + 1)) gain)
      (runs : Paired (SlotRuns (a.rules ++ xs)) gain more)
      (only : (vs : List Grown) → Paired (SlotRuns (a.rules ++ xs)) gain vs → vs ≡ more) where
    above_low : (o : Rule) → IsIn o xs → a.states ≤ o.state
    above_low o i = let e = (above o i).0 in omega (arith, e)

    new_ranked : (ys : List Rule) → ((o : Rule) → IsIn o ys → IsIn o xs) → Every (IsRankedRule (a.states + 1)) ys
    new_ranked [] h = tt
    new_ranked (y ∷ ys) h =
        let k = above y (h y (inl refl)) in (
          (
            (let e = k.0 in omega (arith, e)),
            subst (λ (qs : List ℕ). Every (λ q. q < a.states + 1) qs) (sym k.1) tt,
            k.2,
          ),
          new_ranked ys (λ o i. h o (inr i)),
        )

    base_ranked : IsRanked base
    base_ranked = (
      states_more a.states (a.states + 1) (omega arith) a.roots ranked.0,
      every_append (IsRankedRule (a.states + 1)) a.rules xs
          (rules_more a.states (a.states + 1) (omega arith) a.rules ranked.1) (new_ranked xs (λ o i. i)),
    )

    made_right : Every (IsPlace (a.states + 1)) made
    made_right = joined_every (place_key bs) (IsPlace (a.states + 1)) (left_places fs a) gain
        (places_wider a.states 1 (left_places fs a) own_places) gain_right

    made_low : Every (λ q. q < a.states + 1) x.children
    made_low = places_below (a.states + 1) made made_right

    x_above : (o : Rule) → IsIn o (fresh ∷ []) → base.states ≤ o.state
    x_above o i = let e : o.state ≡ base.states = ap (λ (z : Rule). z.state) (one_item o fresh i) in omega (arith, e)

    pub gained_ranked : IsRanked c
    gained_ranked = (
      (omega arith, tt),
      every_append (IsRankedRule (a.states + 1 + 1)) (a.rules ++ xs) (fresh ∷ [])
          (rules_more (a.states + 1) (a.states + 1 + 1) (omega arith) (a.rules ++ xs) base_ranked.1) (
            (
              omega arith,
              states_more (a.states + 1) (a.states + 1 + 1) (omega arith) x.children made_low,
              places_long (a.states + 1) made made_right ∙ sym (ap arity symbol_here),
            ),
            tt,
          ),
    )

    to_wide : (qs : List ℕ) (ts : List Tree) → Every (λ q. q < a.states) qs → RunEach a.rules qs ts
        → RunEach (a.rules ++ xs) qs ts
    to_wide qs ts l h = widen_each a xs ranked above_low qs ts h

    from_wide : (qs : List ℕ) (ts : List Tree) → Every (λ q. q < a.states) qs → RunEach (a.rules ++ xs) qs ts
        → RunEach a.rules qs ts
    from_wide qs ts l h = stay_each a xs ranked above_low qs ts l h

    forth : (t : Tree) → InLanguage a t → InLanguage c (gained_tree t)
    forth t i =
        let k = tree_by_top a one t i in
        let o = places_run a.rules ss (top_rule a).children (out-Tree t).children k.1 in
        let p : Paired (SlotRuns a.rules) (rule_places (top_rule a)) (top_places t) =
        subst (λ (y : Symbol). Paired (SlotRuns a.rules) (rule_places (top_rule a))
        (places (symbol_slots y) (out-Tree t).children)) k.0
        (subst (λ (z : List Slot). Paired (SlotRuns a.rules) (rule_places (top_rule a))
        (places z (out-Tree t).children)) (sym slots_here)
        (subst (λ (z : List Place). Paired (SlotRuns a.rules) z (places ss (out-Tree t).children))
        (sym rule_here) o)) in
        let w = slots_turned (λ q. q < a.states) a.rules (a.rules ++ xs) to_wide (left_places fs a)
        (left fs (top_places t))
        left_low (filter_run a.rules is_left (rule_places (top_rule a)) (top_places t) p) in
        let j = joined_paired (SlotRuns (a.rules ++ xs)) (place_key bs) (grown_key bs) (keys_agree (a.rules ++ xs))
        (left_places fs a) gain (left fs (top_places t)) more w runs in
        let m = slots_run (a.rules ++ xs) made (joined (grown_key bs) (left fs (top_places t)) more) j in
        let wide = widen_each base (fresh ∷ []) base_ranked x_above x.children _ m.1 in
        let r = run_tree c.rules fresh _ (in_right fresh (a.rules ++ xs) (fresh ∷ []) (inl refl)) wide in
        let e : tree_of x.symbol (all_items (joined (grown_key bs) (left fs (top_places t)) more)) ≡ gained_tree t =
        ap (λ (y : Symbol). tree_of y (all_items (joined (grown_key bs) (left fs (top_places t)) more)))
        (symbol_here ∙ ap (Cell s ds) m.0) in
        (base.states, inl refl, subst (λ (u : Tree). RunOf c.rules base.states u) e r)

    back : HasSome a → (u : Tree) → InLanguage c u → (t : Tree) × InLanguage a t × (u ≡ gained_tree t)
    back some u (q, i, h) =
        let e : q ≡ base.states = one_item q base.states i in
        let k = fresh_run base (fresh ∷ []) base_ranked x_above q u (omega (arith, e)) h in
        let f : k.0 ≡ fresh = one_item k.0 fresh k.1 in
        let low = stay_each base (fresh ∷ []) base_ranked x_above x.children (out-Tree u).children made_low
        (subst (λ (z : Rule). RunEach c.rules z.children (out-Tree u).children) f k.4) in
        let w = run_slots (a.rules ++ xs) made (out-Tree u).children low in
        let j = joined_apart (SlotRuns (a.rules ++ xs)) (place_key bs) (grown_key bs) (keys_agree (a.rules ++ xs))
        (left_places fs a) gain w.0 w.1 in
        let own = slots_turned (λ q. q < a.states) (a.rules ++ xs) a.rules from_wide
        (left_places fs a) j.0 left_low j.3 in
        let v : j.1 ≡ more = only j.1 j.4 in
        let t0 = tree_by_top a one some.0 some.1 in
        let p0 = places_run a.rules (symbol_slots (top_rule a).symbol) (top_rule a).children
        (out-Tree some.0).children t0.1 in
        let r = refill a.rules is_left (rule_places (top_rule a)) _ j.0 p0 own in
        let g = places_again a.rules (symbol_slots (top_rule a).symbol) (top_rule a).children r.0
        (children_many ∙ ap child_slots (sym slots_here)) r.1 in
        let layer : Tree-F Tree = record { symbol = (top_rule a).symbol; children = all_items r.0 } in
        let t = tree_of (top_rule a).symbol (all_items r.0) in
        let o : out-Tree t ≡ layer = out-roll-Tree layer in
        let tops : top_places t ≡ r.0 = ap (λ (z : Tree-F Tree). places (symbol_slots z.symbol) z.children) o ∙ g.0 in
        let lefts : left fs (top_places t) ≡ j.0 = ap (left fs) tops ∙ r.2 in
        let grown : w.0 ≡ joined (grown_key bs) (left fs (top_places t)) more =
        j.2 ∙ ap₂ (λ (m n : List Grown). joined (grown_key bs) m n) (sym lefts) v in
        let m = slots_run (a.rules ++ xs) made w.0 w.1 in
        let symbol : (out-Tree u).symbol ≡ Cell s ds (all_slots w.0) =
        sym k.3 ∙ ap (λ (z : Rule). z.symbol) f ∙ symbol_here ∙ ap (Cell s ds) m.0 in (
          t,
          top_by_tree a one t (subst
              (λ (z : Tree-F Tree). ((top_rule a).symbol ≡ z.symbol)
              × RunEach a.rules (top_rule a).children z.children)
              (sym o) (refl, g.1)),
          sym (roll-out-Tree u) ∙ ap₂ tree_of symbol (sym w.2) ∙ ap (cell_of s ds) grown,
        )

    pub gained_language : HasSome a → (u : Tree) → InLanguage c u ↔ ((t : Tree) × InLanguage a t × (u ≡ gained_tree t))
    gained_language some u = (
      back some u,
      (λ h. subst (λ (v : Tree). InLanguage c v) (sym h.2) (forth h.0 h.1)),
    )

    -- a run to a state is one of the automaton before, one to the leaf, or that of a tree of the language
    abbrev pub RunsOver : ℕ → Tree → Type 0
    RunsOver q u = ((q < a.states) × RunOf a.rules q u) ⊎ (((q ≡ a.states) × RunOf (a.rules ++ xs) q u)
        ⊎ ((q ≡ a.states + 1) × InLanguage c u))

    pub gained_runs : (q : ℕ) (u : Tree) → RunOf c.rules q u → RunsOver q u
    gained_runs q u k = elim (nat_cases q (a.states + 1)) [
      | inl l ↦ old l (stay base (fresh ∷ []) base_ranked x_above q u l k)
      | inr l ↦ inr (inr (new l))
    ]
      where
        old : q < a.states + 1 → RunOf (a.rules ++ xs) q u → RunsOver q u
        old l w = elim (nat_cases q a.states) [
          | inl m ↦ inl (m, stay a xs ranked above_low q u m w)
          | inr m ↦ inr (inl ((let e : q ≡ a.states = omega (arith, l, m) in e), w))
        ]

        new : a.states + 1 ≤ q → (q ≡ a.states + 1) × InLanguage c u
        new l =
            let w = fresh_run base (fresh ∷ []) base_ranked x_above q u l k in
            let e : q ≡ base.states = sym w.2 ∙ ap (λ (z : Rule). z.state) (one_item w.0 fresh w.1) in
            (e, (base.states, inl refl, subst (λ (z : ℕ). RunOf c.rules z u) e k))
