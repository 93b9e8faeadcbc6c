-- The box edge at a slot that covers a field of a root, or gives it to the root, is one for that field in each dressed
-- forest.
use Rattle.std.proofs.Common.{◌≡◌, inl, inr, ℕ, zero, suc, ◌<◌, true, true≢false, List, []}
use Rattle.std.proofs.Common.{◌∷◌, map, length, refl, sym, ap, subst, ◌∙◌, Option, Some, None, slice_get}
use Rattle.std.proofs.lemmas.Option.{none-some, same_Some}
use Rattle.fore_base.specs.Lists.{IsIn, Every}
use Rattle.fore_base.specs.declared.store.Datum.{Datum}
use Rattle.fore_base.specs.declared.store.Value.{Value}
use Rattle.fore_base.specs.declared.store.Value.TheVariants.{Cell}
use Rattle.ta_core.specs.Auto.{Automaton, IsRanked}
use Rattle.ta_core.specs.Language.{RunOf, InLanguage}
use Rattle.ta_core.specs.Single.{HasOneTop}
use Rattle.ta_core.specs.declared.auto.Rule.{Rule}
use Rattle.ta_core.specs.declared.symbol.Slot.{Slot}
use Rattle.ta_core.specs.declared.symbol.Slot.TheVariants.{Field, Link, Hook}
use Rattle.ta_core.specs.declared.symbol.Symbol.TheVariants.{Cell as CellSymbol}
use Rattle.fa_core.specs.declared.boxes.BoxDef.{BoxDef}
use Rattle.fa_core.specs.declared.faces.BoxFace.{BoxFace}
use Rattle.fa_core.specs.declared.forest.Forest.{Forest}
use Rattle.fa_core.specs.declared.forest.Target.TheVariants.{At}
use Rattle.fa_core.specs.Dressed.{Node, Parts, End, Nodes, node, no_parts, field, link, hook, under, leaf, no_nodes}
use Rattle.fa_core.specs.Dressed.{more, end_value, nth_value, number, roots_of}
use Rattle.fa_core.specs.Filled.{gives_in_of}
use Rattle.fa_core.specs.Folding.{symbol_slots}
use Rattle.fa_core.specs.Member.{OfForest, bare, bare_end, slots_of}
use Rattle.fa_core.specs.Ways.{gives_out_of}
use Rattle.fa_core.proofs.Dressing.{cell_is_no_leaf, cell_top}
use Rattle.fa_core.proofs.NodeRuns.{EndRun, bare_of_end}
use Rattle.fa_core.proofs.NodeSpots.{one_leaf}
use Rattle.fa_core.proofs.SeenCells.{root_cell}
use Rattle.fa_back.specs.Reached.{node_at}
use Rattle.fa_sound.specs.Components.{component_at}
use Rattle.fa_split.specs.Split.{top_rule}
use Rattle.fa_split.proofs.OtherComponent.{tree_at}
use Rattle.fa_split.proofs.TopRules.{tree_by_top}
use Rattle.fa_merge.proofs.OtherOrders.{count_trees, get_mapped}
use Rattle.fa_lift.specs.Lift.{slot_gives}
use Rattle.fa_unfold.specs.Opens.{Item}
use Rattle.fa_unfold.specs.Parts.{Part, FieldPart, LinkPart, HookPart, listed, part_item}
use Rattle.fa_unfold.specs.Slots.{Place, rule_places, state_places}
use Rattle.fa_unfold.specs.Unfolded.{IsEdgeAt}
use Rattle.fa_unfold.specs.UnfoldingOf.{CanUnfold, IsBoxEdge, root_slots}
use Rattle.fa_unfold.specs.inner.Trees.{part_slot}
use Rattle.fa_unfold.proofs.Joins.{item_paired}
use Rattle.fa_unfold.proofs.OpenedRoots.{top_run}
use Rattle.fa_unfold.proofs.PlaceRuns.{PlaceOf}
use Rattle.fa_opening.specs.Opened.{IsEdgeFor, IsEdgeForRoot, slot_covers}
use Rattle.fa_opening.specs.inner.Rounds.{IsCoverAt, IsCovering, IsGiver, IsNeeded, IsOnlyRef}
use Rattle.fa_back.proofs.RootMarks.{has_in}

-- the slots of a cell, one by one
pub listed_slots : (ps : Parts) → map part_slot (listed ps) ≡ slots_of ps
listed_slots no_parts = refl
listed_slots (field f e ps) = ap (λ (z : List Slot). Field f ∷ z) (listed_slots ps)
listed_slots (link b i e ps) = ap (λ (z : List Slot). Link b ∷ z) (listed_slots ps)
listed_slots (hook b i ps) = ap (λ (z : List Slot). Hook b ∷ z) (listed_slots ps)

-- what root r is
pub root_is : (d : Nodes) (r c s : ℕ) (ds : List Datum) (ps : Parts) → node_at d r ≡ Some (node c s ds ps)
    → nth_value (roots_of d) r ≡ Cell c
root_is no_nodes r c s ds ps e = absurd (none-some (node c s ds ps) e)
root_is (more n ns) zero c s ds ps e = ap (λ (m : Node). Cell (number m)) (same_Some n (node c s ds ps) e)
root_is (more n ns) (suc r) c s ds ps e = root_is ns r c s ds ps e

module _ (T : List BoxDef) (F : Forest) (d : Nodes) (of : OfForest T F d) (u : ℕ) (there : u < length F.autos)
    (top : HasOneTop (component_at F.autos u)) where
  abbrev a : Automaton
  a = component_at F.autos u

  -- the root's cell is that of its one rule
  pub top_symbol : (c s : ℕ) (ds : List Datum) (ps : Parts) → node_at d u ≡ Some (node c s ds ps)
      → (top_rule a).symbol ≡ CellSymbol s ds (slots_of ps)
  top_symbol c s ds ps e =
      let k = tree_at T F.autos u d there of in
      let l : InLanguage a (bare (node c s ds ps)) =
      subst (λ (n : Node). InLanguage a (bare n)) (same_Some k.0 (node c s ds ps) (sym k.1 ∙ e)) k.2 in
      (tree_by_top a top (bare (node c s ds ps)) l).0 ∙ cell_top c s ds ps

  -- so its slots are those of the rule
  pub top_slots : (c s : ℕ) (ds : List Datum) (ps : Parts) → node_at d u ≡ Some (node c s ds ps)
      → root_slots F u ≡ slots_of ps
  top_slots c s ds ps e = ap symbol_slots (top_symbol c s ds ps e)

  -- so is the one at each place
  pub slot_at : (c s : ℕ) (ds : List Datum) (ps : Parts) → node_at d u ≡ Some (node c s ds ps) → (p : ℕ) (x : Part)
      → slice_get (listed ps) p ≡ Some x → slice_get (root_slots F u) p ≡ Some (part_slot x)
  slot_at c s ds ps e p x h =
      ap (λ (ss : List Slot). slice_get ss p) (top_slots c s ds ps e ∙ sym (listed_slots ps))
      ∙ get_mapped part_slot (listed ps) p x h

module _ (bs : List BoxFace) (f : ℕ) where
  -- a slot that covers the field is a box edge
  pub cover_is_edge : (o : Option Slot) → IsCoverAt bs f o → IsBoxEdge o
  cover_is_edge None h = h
  cover_is_edge (Some (Field g)) h = true≢false (sym h)
  cover_is_edge (Some (Link b)) h = tt
  cover_is_edge (Some (Hook b)) h = tt

  -- it is for the field of its own cell
  pub cover_for : (vs : List Value) (c : ℕ) (x : Part) → slot_covers bs f (part_slot x) ≡ true
      → IsEdgeFor bs c f (part_item vs c x)
  cover_for vs c (FieldPart g e) h = absurd (true≢false (sym h))
  cover_for vs c (LinkPart b i e) h = inl (refl, has_in f (gives_in_of bs b) h)
  cover_for vs c (HookPart b i) h = inl (refl, has_in f (gives_in_of bs b) h)

  -- a slot that gives the field is a Link
  gives_link : (s : Slot) → slot_gives bs f s ≡ true → (b : ℕ) × (s ≡ Link b) × IsIn f (gives_out_of bs b)
  gives_link (Field g) h = absurd (true≢false (sym h))
  gives_link (Link b) h = (b, refl, has_in f (gives_out_of bs b) h)
  gives_link (Hook b) h = absurd (true≢false (sym h))

-- an end by rules of the reference alone is the reference
ref_end : (rules : List Rule) (r q : ℕ) (e : End) → IsOnlyRef rules r q → RunOf rules q (bare_end e) → e ≡ leaf (At r)
ref_end rules r q e only h = told e (bare_of_end rules q e h)
  where
    told : (e : End) → EndRun rules q e → e ≡ leaf (At r)
    told (under (node c s ds ps)) (x, i, w, y, k) =
        absurd (cell_is_no_leaf (At r) s ds (slots_of ps) (sym (only.only x i w) ∙ y))
    told (leaf t) (x, i, w, y, k) = ap leaf (one_leaf t (At r) (sym y ∙ only.only x i w))

-- the slot of a place
slot_of_place : (ss : List Slot) (qs : List ℕ) (p : ℕ) (x : Place) → slice_get (state_places ss qs) p ≡ Some x
    → slice_get ss p ≡ Some x.0
slot_of_place [] qs p x e = absurd (none-some x e)
slot_of_place (Hook b ∷ ss) qs zero x e = ap (λ (y : Place). Some y.0) (same_Some (Hook b, []) x e)
slot_of_place (Hook b ∷ ss) qs (suc p) x e = slot_of_place ss qs p x e
slot_of_place (Field f ∷ ss) [] p x e = absurd (none-some x e)
slot_of_place (Field f ∷ ss) (q ∷ qs) zero x e = ap (λ (y : Place). Some y.0) (same_Some (Field f, q ∷ []) x e)
slot_of_place (Field f ∷ ss) (q ∷ qs) (suc p) x e = slot_of_place ss qs p x e
slot_of_place (Link b ∷ ss) [] p x e = absurd (none-some x e)
slot_of_place (Link b ∷ ss) (q ∷ qs) zero x e = ap (λ (y : Place). Some y.0) (same_Some (Link b, q ∷ []) x e)
slot_of_place (Link b ∷ ss) (q ∷ qs) (suc p) x e = slot_of_place ss qs p x e

abbrev first_number : List ℕ → ℕ
first_number [] = 0
first_number (q ∷ qs) = q

-- either slot can be unfolded
pub needed_can : (bs : List BoxFace) (r f : ℕ) (F : Forest) (u p : ℕ) → IsNeeded bs r f F u p → CanUnfold F u p
needed_can bs r f F u p (inl h) =
    record { root = h.root; top = h.top; edge = cover_is_edge bs f (slice_get (root_slots F u) p) h.covers }
needed_can bs r f F u p (inr h) =
    let x = top_rule (component_at F.autos u) in
    let k = gives_link bs f h.place.0 h.gives.0 in
    record {
      root = h.root;
      top = h.top;
      edge = subst IsBoxEdge
          (sym
          (slot_of_place (symbol_slots x.symbol) x.children p h.place h.there ∙ ap (λ (s : Slot). Some s) k.1))
          tt;
    }

module _ (bs : List BoxFace) (T : List BoxDef) (F : Forest) (ranked : Every IsRanked F.autos) (r f u p : ℕ) where
  abbrev rules : List Rule
  rules = (component_at F.autos u).rules

  -- the edge at a slot that covers the field of the root
  covering_edge : IsCovering bs r f F u p → (d : Nodes) → OfForest T F d → (x : Item) → IsEdgeAt u p d x
      → IsEdgeForRoot bs r f d x
  covering_edge h d of x e =
      let s = slot_at T F d of u h.root h.top e.cell e.shape e.datums e.parts e.at p e.part e.has in
      let k = cover_for bs f (roots_of d) e.cell e.part (subst (IsCoverAt bs f) s h.covers) in (
        e.cell,
        subst (λ (n : ℕ). nth_value (roots_of d) n ≡ Cell e.cell) h.same
            (root_is d u e.cell e.shape e.datums e.parts e.at),
        subst (IsEdgeFor bs e.cell f) (sym e.is) k,
      )

  -- the edge at a slot that gives it the field
  giving_edge : r < length F.autos → IsGiver bs r f F u p → (d : Nodes) → OfForest T F d → (x : Item)
      → IsEdgeAt u p d x → IsEdgeForRoot bs r f d x
  giving_edge there h d of x e =
      let k = top_run bs T F ranked u p h.root h.top h.place h.there d of e.cell e.shape e.datums e.parts e.at in
      let q = item_paired (PlaceOf (RunOf rules)) p (rule_places (top_rule (component_at F.autos u))) (listed e.parts)
      h.place k.1 h.there in
      let same : q.0 ≡ e.part = same_Some q.0 e.part (sym q.1 ∙ e.has) in
      let c = root_cell (roots_of d) d r
      (subst (λ (n : ℕ). r < n) (sym (count_trees T F.autos d of)) there) in (
        c.cell,
        c.value,
        subst (IsEdgeFor bs c.cell f) (sym e.is)
            (subst (λ (z : Part). IsEdgeFor bs c.cell f (part_item (roots_of d) e.cell z)) same
            (told c.cell c.value e.cell q.0 q.2)),
      )
    where
      told : (n : ℕ) → nth_value (roots_of d) r ≡ Cell n → (c : ℕ) (y : Part) → PlaceOf (RunOf rules) h.place y
          → IsEdgeFor bs n f (part_item (roots_of d) c y)
      told n v c (FieldPart g z) w =
          absurd (true≢false (sym (subst (λ (s : Slot). slot_gives bs f s ≡ true) w.0 h.gives.0)))
      told n v c (HookPart b i) w =
          absurd (true≢false (sym (subst (λ (s : Slot). slot_gives bs f s ≡ true) w.0 h.gives.0)))
      told n v c (LinkPart b i z) w =
          let m : h.gives.1.0 ≡ w.1 = ap first_number (sym h.gives.1.1 ∙ w.2) in
          let l : z ≡ leaf (At r) = ref_end rules r h.gives.1.0 z h.gives.1.2
          (subst (λ (q : ℕ). RunOf rules q (bare_end z)) (sym m) w.3) in
          inr (
            ap (end_value (roots_of d)) l ∙ v,
            has_in f (gives_out_of bs b)
                (subst (λ (s : Slot). slot_gives bs f s ≡ true) w.0 h.gives.0),
          )

  -- either is one for the field
  pub needed_edge : r < length F.autos → IsNeeded bs r f F u p → (d : Nodes) → OfForest T F d → (x : Item)
      → IsEdgeAt u p d x → IsEdgeForRoot bs r f d x
  needed_edge there (inl h) = covering_edge h
  needed_edge there (inr h) = giving_edge there h
