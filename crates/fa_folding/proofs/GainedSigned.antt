-- Where the trees of a component have one signature, so have those of the component that loses some slots and gains
-- others.
use Rattle.std.proofs.Common.{◌≡◌, inl, inr, ℕ, ◌<◌, ◌+◌, ◌⊎◌, ◌↔◌, not, Bool, true, false, true≢false, cond}
use Rattle.std.proofs.Common.{length, List}
use Rattle.std.proofs.Common.{[], ◌∷◌, ◌++◌, map, filter, flat_map, refl, sym, ap, subst, ◌∙◌, arith}
use Rattle.fore_base.specs.Lists.{IsIn, Every, Paired}
use Rattle.fore_base.specs.declared.store.Datum.{Datum}
use Rattle.ta_core.specs.Arity.{arity}
use Rattle.ta_core.specs.Auto.{Automaton, IsRanked}
use Rattle.ta_core.specs.Language.{InLanguage, RunEach, RunOf, run_more}
use Rattle.ta_core.specs.Single.{HasOneTop}
use Rattle.ta_core.specs.declared.auto.Rule.{Rule}
use Rattle.ta_core.specs.declared.symbol.Slot.{Slot}
use Rattle.ta_core.specs.declared.symbol.Slot.TheVariants.{Field, Link, Hook}
use Rattle.ta_core.specs.declared.symbol.Symbol.{Symbol}
use Rattle.ta_core.specs.declared.symbol.Symbol.TheVariants.{Cell}
use Rattle.ta_core.specs.declared.tree.Tree.{Tree, Tree-F, out-Tree, out-roll-Tree}
use Rattle.ta_core.proofs.Runs.{tree_of}
use Rattle.fa_core.specs.declared.faces.BoxFace.{BoxFace}
use Rattle.fa_core.specs.declared.signature.Below.{Below}
use Rattle.fa_core.specs.Cells.{below_of, cell_marks, edges, marks_by}
use Rattle.fa_core.specs.Filled.{HasSignatures, HasSome}
use Rattle.fa_core.specs.Folding.{cell_of, is_one_of, left, places, symbol_slots, top_places}
use Rattle.fa_core.specs.Ways.{signature}
use Rattle.fa_core.proofs.CellMarks.{tree_signature}
use Rattle.fa_split.specs.Giving.{SlotGives}
use Rattle.fa_split.specs.Split.{top_rule}
use Rattle.fa_split.proofs.EdgeMarks.{AddsSame, EdgesSame, no_edges, an_edge, cell_kept}
use Rattle.fa_split.proofs.RunMarks.{runs_same}
use Rattle.fa_split.proofs.TopRules.{top_by_tree, tree_by_top}
use Rattle.fa_unfold.specs.Slots.{Place, joined, slot_key}
use Rattle.fa_unfold.proofs.Joins.{joined_every, joined_paired}
use Rattle.fa_unfold.proofs.PlaceRuns.{IsPlace}
use Rattle.fa_folding.specs.Gaining.{gained_auto}
use Rattle.fa_folding.proofs.GainedTrees.{gained_language, gained_runs, gained_tree}
use Rattle.fa_folding.proofs.FoldedPlaces.{grown_key}
use Rattle.fa_folding.proofs.SlotRuns.{Grown, SlotRuns, all_items, all_slots}
use Rattle.fa_folding.proofs.Lists.{every_filter}

-- Slots with their children, edge by edge.

-- as many children as the slot has
abbrev IsGrownAt : Slot → List Tree → Type 0
IsGrownAt (Field f) ts = (t : Tree) × (ts ≡ t ∷ [])
IsGrownAt (Link b) ts = (t : Tree) × (ts ≡ t ∷ [])
IsGrownAt (Hook b) ts = ts ≡ []

abbrev pub IsGrown : Grown → Type 0
IsGrown y = IsGrownAt y.0 y.1

module _ (bs : List BoxFace) where
  abbrev Edge : Type 0
  Edge = Slot × Below

  abbrev own_edges : Grown → List Edge
  own_edges y = map (λ t. (y.0, below_of bs t)) y.1

  abbrev each_edges : List Grown → List Edge
  each_edges ys = flat_map own_edges ys

  one_edges : (s : Slot) (ts : List Tree) (ss : List Slot) (us : List Tree) → IsGrownAt s ts
      → edges (s ∷ ss) (map (below_of bs) (ts ++ us))
      ≡ map (λ t. (s, below_of bs t)) ts ++ edges ss (map (below_of bs) us)
  one_edges (Field f) ts ss us h = rw h.1 refl
  one_edges (Link b) ts ss us h = rw h.1 refl
  one_edges (Hook b) ts ss us h = rw h refl

  edges_are : (ys : List Grown) → Every IsGrown ys → edges (all_slots ys) (map (below_of bs) (all_items ys))
      ≡ each_edges ys
  edges_are [] h = refl
  edges_are (y ∷ ys) h = one_edges y.0 y.1 (all_slots ys) (all_items ys) h.0
      ∙ ap (λ (z : List Edge). own_edges y ++ z) (edges_are ys h.1)

  -- Slots that add the same.

  same_again : (es : List Edge) → EdgesSame bs es es
  same_again [] = no_edges
  same_again (e ∷ es) = an_edge e.0 e.1 e.1
      (record { marks = refl; provided = λ r. refl; back = λ r. refl; reach = λ rs r. refl }) (same_again es)

  same_both : {es xs fs ys : List Edge} → EdgesSame bs es xs → EdgesSame bs fs ys → EdgesSame bs (es ++ fs) (xs ++ ys)
  same_both no_edges k = k
  same_both (an_edge s e x i h) k = an_edge s e x i (same_both h k)

  abbrev GrownSame : Grown → Grown → Type 0
  GrownSame y z = (y.0 ≡ z.0) × EdgesSame bs (own_edges y) (own_edges z)

  same_all : (ys : List Grown) → Paired GrownSame ys ys
  same_all [] = tt
  same_all (y ∷ ys) = ((refl, same_again (own_edges y)), same_all ys)

  all_same : (ys zs : List Grown) → Paired GrownSame ys zs → EdgesSame bs (each_edges ys) (each_edges zs)
  all_same [] [] h = no_edges
  all_same [] (z ∷ zs) h = absurd h
  all_same (y ∷ ys) [] h = absurd h
  all_same (y ∷ ys) (z ∷ zs) h = same_both h.0.1 (all_same ys zs h.1)

  filter_same : (p : Slot → Bool) (ys zs : List Grown) → Paired GrownSame ys zs
      → Paired GrownSame (filter (λ y. p y.0) ys) (filter (λ y. p y.0) zs)
  filter_same p [] [] h = tt
  filter_same p [] (z ∷ zs) h = absurd h
  filter_same p (y ∷ ys) [] h = absurd h
  filter_same p (y ∷ ys) (z ∷ zs) h = here (p y.0) (p z.0) (ap p h.0.0) (filter_same p ys zs h.1)
    where
      here : (a b : Bool) → a ≡ b → Paired GrownSame (filter (λ y. p y.0) ys) (filter (λ y. p y.0) zs)
          → Paired GrownSame (cond a (y ∷ filter (λ y. p y.0) ys) (filter (λ y. p y.0) ys))
          (cond b (z ∷ filter (λ y. p y.0) zs) (filter (λ y. p y.0) zs))
      here true true e k = (h.0, k)
      here true false e k = absurd (true≢false e)
      here false true e k = absurd (true≢false (sym e))
      here false false e k = k

  abbrev FirstSame : List Edge → List Edge → Type 0
  FirstSame [] ys = Unit {0}
  FirstSame (e ∷ es) [] = Unit {0}
  FirstSame (e ∷ es) (x ∷ xs) = AddsSame bs e.0 e.1 x.1

  first_same : {es xs : List Edge} → EdgesSame bs es xs → FirstSame es xs
  first_same no_edges = tt
  first_same (an_edge s e x i k) = i

  abbrev others : List Edge → List Edge
  others [] = []
  others (e ∷ es) = es

  others_same : {es xs : List Edge} → EdgesSame bs es xs → EdgesSame bs (others es) (others xs)
  others_same no_edges = no_edges
  others_same (an_edge s e x i k) = k

  module _ (rules : List Rule) where
    places_same : (ss : List Slot) (qs : List ℕ) (ts us : List Tree) → RunEach rules qs ts → RunEach rules qs us
        → EdgesSame bs (edges ss (map (below_of bs) ts)) (edges ss (map (below_of bs) us))
        → Paired GrownSame (places ss ts) (places ss us)
    places_same [] qs ts us h k e = tt
    places_same (Hook b ∷ ss) qs ts us h k e = ((refl, no_edges), places_same ss qs ts us h k e)
    places_same (Field f ∷ ss) [] [] [] h k e = tt
    places_same (Field f ∷ ss) [] [] (u ∷ us) h k e = elim k [ ]
    places_same (Field f ∷ ss) [] (t ∷ ts) us h k e = elim h [ ]
    places_same (Field f ∷ ss) (q ∷ qs) [] us h k e = elim h [ ]
    places_same (Field f ∷ ss) (q ∷ qs) (t ∷ ts) [] h k e = elim k [ ]
    places_same (Field f ∷ ss) (q ∷ qs) (t ∷ ts) (u ∷ us) (run_more r rs) (run_more v vs) e = (
      (refl, an_edge (Field f) (below_of bs t) (below_of bs u) (first_same e) no_edges),
      places_same ss qs ts us rs vs (others_same e),
    )
    places_same (Link b ∷ ss) [] [] [] h k e = tt
    places_same (Link b ∷ ss) [] [] (u ∷ us) h k e = elim k [ ]
    places_same (Link b ∷ ss) [] (t ∷ ts) us h k e = elim h [ ]
    places_same (Link b ∷ ss) (q ∷ qs) [] us h k e = elim h [ ]
    places_same (Link b ∷ ss) (q ∷ qs) (t ∷ ts) [] h k e = elim k [ ]
    places_same (Link b ∷ ss) (q ∷ qs) (t ∷ ts) (u ∷ us) (run_more r rs) (run_more v vs) e = (
      (refl, an_edge (Link b) (below_of bs t) (below_of bs u) (first_same e) no_edges),
      places_same ss qs ts us rs vs (others_same e),
    )

    grown_right : (ss : List Slot) (qs : List ℕ) (ts : List Tree) → RunEach rules qs ts → Every IsGrown (places ss ts)
    grown_right [] qs ts h = tt
    grown_right (Hook b ∷ ss) qs ts h = (refl, grown_right ss qs ts h)
    grown_right (Field f ∷ ss) [] [] h = tt
    grown_right (Field f ∷ ss) [] (t ∷ ts) h = elim h [ ]
    grown_right (Field f ∷ ss) (q ∷ qs) [] h = elim h [ ]
    grown_right (Field f ∷ ss) (q ∷ qs) (t ∷ ts) (run_more r rs) = ((t, refl), grown_right ss qs ts rs)
    grown_right (Link b ∷ ss) [] [] h = tt
    grown_right (Link b ∷ ss) [] (t ∷ ts) h = elim h [ ]
    grown_right (Link b ∷ ss) (q ∷ qs) [] h = elim h [ ]
    grown_right (Link b ∷ ss) (q ∷ qs) (t ∷ ts) (run_more r rs) = ((t, refl), grown_right ss qs ts rs)

module _ (bs : List BoxFace) (a : Automaton) (ranked : IsRanked a) (one : HasOneTop a) (s : ℕ) (ds : List Datum)
    (ss : List Slot) (top : (top_rule a).symbol ≡ Cell s ds ss) (fs : List ℕ) (more : List Grown)
    (grown : Every IsGrown more) (signed : HasSignatures bs a) (gives : Every (SlotGives bs) ss) where
  abbrev is_left : Slot → Bool
  is_left z = not (is_one_of fs z)

  abbrev after : Tree → List Grown
  after t = joined (grown_key bs) (left fs (top_places t)) more

  abbrev rolled : List Tree → Tree
  rolled ts = tree_of (Cell s ds ss) ts

  rolled_marks : (ts : List Tree) → signature bs (rolled ts) ≡ marks_by bs (Cell s ds ss) (map (below_of bs) ts)
  rolled_marks ts = tree_signature bs (rolled ts)
      ∙ ap (λ (z : Tree-F Tree). marks_by bs z.symbol (map (below_of bs) z.children))
      (out-roll-Tree (record { symbol = Cell s ds ss; children = ts }))

  rolled_in : (ts : List Tree) → RunEach a.rules (top_rule a).children ts → InLanguage a (rolled ts)
  rolled_in ts k = top_by_tree a one (rolled ts) (subst
      (λ (z : Tree-F Tree). ((top_rule a).symbol ≡ z.symbol) × RunEach a.rules (top_rule a).children z.children)
      (sym (out-roll-Tree (record { symbol = Cell s ds ss; children = ts }))) (top, k))

  old_same : (vs ws : List Tree) → RunEach a.rules (top_rule a).children vs → RunEach a.rules (top_rule a).children ws
      → cell_marks bs (edges ss (map (below_of bs) vs)) ≡ cell_marks bs (edges ss (map (below_of bs) ws))
  old_same vs ws k l = sym (rolled_marks vs)
      ∙ signed.component (rolled vs) (rolled ws) (rolled_in vs k) (rolled_in ws l)
      ∙ rolled_marks ws

  places_of : (t : Tree) → InLanguage a t → (top_places t ≡ places ss (out-Tree t).children)
      × RunEach a.rules (top_rule a).children (out-Tree t).children
  places_of t i =
      let k = tree_by_top a one t i in
      (ap (λ (y : Symbol). places (symbol_slots y) (out-Tree t).children) (sym k.0 ∙ top), k.1)

  after_grown : (t : Tree) → InLanguage a t → Every IsGrown (after t)
  after_grown t i =
      let k = places_of t i in
      joined_every (grown_key bs) IsGrown (left fs (top_places t)) more
      (every_filter (λ y. is_left y.0) IsGrown (top_places t)
      (subst (λ (z : List Grown). Every IsGrown z) (sym k.0)
      (grown_right bs a.rules ss (top_rule a).children (out-Tree t).children k.1))) grown

  marks_after : (t : Tree) → InLanguage a t
      → signature bs (cell_of s ds (after t)) ≡ cell_marks bs (each_edges bs (after t))
  marks_after t i =
      tree_signature bs (cell_of s ds (after t))
      ∙ ap (λ (z : Tree-F Tree). marks_by bs z.symbol (map (below_of bs) z.children))
      (out-roll-Tree (record { symbol = Cell s ds (all_slots (after t)); children = all_items (after t) }))
      ∙ ap (cell_marks bs) (edges_are bs (after t) (after_grown t i))

  -- the trees after have one signature
  pub after_same : (t u : Tree) → InLanguage a t → InLanguage a u
      → signature bs (cell_of s ds (after t)) ≡ signature bs (cell_of s ds (after u))
  after_same t u i j =
      let k = places_of t i in
      let l = places_of u j in
      let e = runs_same bs a.rules signed.states [] ss gives old_same k.1 l.1 in
      let p : Paired (GrownSame bs) (top_places t) (top_places u) =
      subst (λ (z : List Grown). Paired (GrownSame bs) z (top_places u)) (sym k.0)
      (subst (λ (z : List Grown). Paired (GrownSame bs) (places ss (out-Tree t).children) z) (sym l.0)
      (places_same bs a.rules ss (top_rule a).children (out-Tree t).children (out-Tree u).children k.1 l.1 e)) in
      marks_after t i
      ∙ cell_kept bs (all_same bs (after t) (after u)
      (joined_paired (GrownSame bs) (grown_key bs) (grown_key bs) (λ y z h. ap (slot_key bs) h.0)
      (left fs (top_places t)) more (left fs (top_places u)) more
      (filter_same bs is_left (top_places t) (top_places u) p) (same_all bs more)))
      ∙ sym (marks_after u j)

  -- so the component after has one signature at each state
  module _ (xs : List Rule) (gain : List Place)
      (above : (o : Rule) → IsIn o xs → (o.state ≡ a.states) × (o.children ≡ []) × (length o.children ≡ arity o.symbol))
      (gain_right : Every (IsPlace (a.states + 1)) gain)
      (runs : Paired (SlotRuns (a.rules ++ xs)) gain more)
      (only : (vs : List Grown) → Paired (SlotRuns (a.rules ++ xs)) gain vs → vs ≡ more) (some : HasSome a)
      (one_leaf : (t u : Tree) → RunOf (a.rules ++ xs) a.states t → RunOf (a.rules ++ xs) a.states u → t ≡ u) where
    abbrev c : Automaton
    c = gained_auto bs fs xs gain a

    language : (u : Tree) → InLanguage c u
        ↔ ((t : Tree) × InLanguage a t × (u ≡ gained_tree bs a ranked one s ds ss top fs xs gain more t))
    language = gained_language bs a ranked one s ds ss top fs xs gain more above gain_right runs only some

    whole_same : (t u : Tree) → InLanguage c t → InLanguage c u → signature bs t ≡ signature bs u
    whole_same t u i j =
        let k = (language t).0 i in
        let l = (language u).0 j in
        ap (signature bs) k.2 ∙ after_same k.0 l.0 k.1 l.1 ∙ ap (signature bs) (sym l.2)

    abbrev Over : ℕ → Tree → Type 0
    Over q t = ((q < a.states) × RunOf a.rules q t) ⊎ (((q ≡ a.states) × RunOf (a.rules ++ xs) q t)
        ⊎ ((q ≡ a.states + 1) × InLanguage c t))

    -- the runs to one state are of one kind
    two_runs : (q : ℕ) (t u : Tree) → Over q t → Over q u → signature bs t ≡ signature bs u
    two_runs q t u (inl h) (inl k) = signed.states q t u h.1 k.1
    two_runs q t u (inl h) (inr (inl k)) = absurd (let l = h.0 in let e = k.0 in omega (arith, l, e))
    two_runs q t u (inl h) (inr (inr k)) = absurd (let l = h.0 in let e = k.0 in omega (arith, l, e))
    two_runs q t u (inr (inl h)) (inl k) = absurd (let e = h.0 in let l = k.0 in omega (arith, l, e))
    two_runs q t u (inr (inl h)) (inr (inl k)) =
        ap (signature bs)
        (one_leaf t u (subst (λ (z : ℕ). RunOf (a.rules ++ xs) z t) h.0 h.1)
        (subst (λ (z : ℕ). RunOf (a.rules ++ xs) z u) k.0 k.1))
    two_runs q t u (inr (inl h)) (inr (inr k)) = absurd (let e = h.0 in let l = k.0 in omega (arith, l, e))
    two_runs q t u (inr (inr h)) (inl k) = absurd (let e = h.0 in let l = k.0 in omega (arith, l, e))
    two_runs q t u (inr (inr h)) (inr (inl k)) = absurd (let e = h.0 in let l = k.0 in omega (arith, l, e))
    two_runs q t u (inr (inr h)) (inr (inr k)) = whole_same t u h.1 k.1

    pub gained_signed : HasSignatures bs c
    gained_signed = record {
      states = λ q t u v w. two_runs q t u
          (gained_runs bs a ranked one s ds ss top fs xs gain more above gain_right runs only q t v)
          (gained_runs bs a ranked one s ds ss top fs xs gain more above gain_right runs only q u w);
      component = whole_same;
    }
