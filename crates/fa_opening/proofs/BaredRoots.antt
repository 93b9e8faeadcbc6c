-- Where no dressed forest has a box edge for the field, the root's one rule has none that covers it, and no component
-- one that gives it.
use Rattle.std.proofs.Common.{◌≡◌, inl, inr, ℕ, zero, suc, ◌<◌, Bool, true, false, length, List, [], ◌∷◌}
use Rattle.std.proofs.Common.{◌++◌, map, refl, sym, ap, subst, ◌∙◌, Some, slice_get, arith}
use Rattle.std.proofs.lemmas.Option.{none-some, same_Some}
use Rattle.fore_base.specs.Lists.{IsIn, Every, IsDistinct}
use Rattle.fore_base.specs.declared.store.Datum.{Datum}
use Rattle.fore_base.specs.declared.store.Value.{Value}
use Rattle.fore_base.specs.declared.store.Value.TheVariants.{Cell}
use Rattle.fore_base.proofs.ListLemmas.{in_every, in_left, in_right, place_of}
use Rattle.ta_core.specs.Single.{HasOneTop}
use Rattle.ta_core.specs.declared.symbol.Slot.{Slot}
use Rattle.fa_core.specs.declared.boxes.BoxDef.{BoxDef}
use Rattle.fa_core.specs.declared.faces.BoxFace.{BoxFace}
use Rattle.fa_core.specs.declared.forest.Forest.{Forest}
use Rattle.fa_core.specs.Boxes.{Boxes}
use Rattle.fa_core.specs.Choices.{all_numbers}
use Rattle.fa_core.specs.Dressed.{Node, Parts, End, Nodes, node, no_parts, field, link, hook, under, leaf, no_nodes}
use Rattle.fa_core.specs.Dressed.{more, end_value, nth_value, roots_of, SeenField, SeenLink, SeenHook}
use Rattle.fa_core.specs.Filled.{HasSignatures}
use Rattle.fa_core.specs.Member.{OfForest}
use Rattle.fa_core.specs.Ways.{gives_out_of}
use Rattle.fa_core.proofs.Dressing.{dress_all, numbered_differ}
use Rattle.fa_core.proofs.Permuted.{in_rearranged}
use Rattle.fa_core.proofs.Rearranging.{back}
use Rattle.fa_core.proofs.SeenCells.{root_cell}
use Rattle.fa_back.specs.Reached.{node_at}
use Rattle.fa_back.proofs.Dressable.{insides_there, some_choice, tables_dressed}
use Rattle.fa_back.proofs.TablesKnown.{AllUse, faces_long, forest_uses}
use Rattle.fa_back.proofs.RootMarks.{has_in}
use Rattle.fa_merge.proofs.OtherOrders.{count_trees}
use Rattle.fa_sound.specs.Components.{component_at}
use Rattle.fa_split.proofs.OtherComponent.{tree_at}
use Rattle.fa_lift.specs.Lift.{IsProvider}
use Rattle.fa_lift.proofs.LiftEdges.{HasEdge, HasEdgeIn, HasEdgeAt}
use Rattle.fa_lift.proofs.LiftProvides.{all_edged}
use Rattle.fa_unfold.specs.Opens.{Item, IsCell, HasSlot, tree_items, slot_items, end_items, forest_items, items}
use Rattle.fa_unfold.specs.Opens.{item_boxes}
use Rattle.fa_unfold.specs.Parts.{Part, listed, part_item}
use Rattle.fa_unfold.specs.Sites.{IsOver}
use Rattle.fa_unfold.specs.UnfoldingOf.{root_slots}
use Rattle.fa_unfold.specs.inner.Trees.{part_slot}
use Rattle.fa_unfold.proofs.OpenedRoots.{component_has}
use Rattle.fa_unfold.proofs.PartItems.{taken_items}
use Rattle.fa_opening.specs.Opened.{IsBared, IsEdgeFor, slot_covers}
use Rattle.fa_opening.specs.inner.Rounds.{AreBelow}
use Rattle.fa_opening.proofs.SlotEdges.{cover_for, listed_slots, root_is, top_slots}

-- a dressed forest no two of whose cells have one number
record IsSomeDressed (T : List BoxDef) (F : Forest) : Type 0 where
  nodes : Nodes
  of : OfForest T F nodes
  apart : IsDistinct (all_numbers nodes)

some_dressed : (t : Boxes) (F : Forest) → IsOver t F → IsSomeDressed t.defs F
some_dressed t F over =
    let T = t.defs in
    let c = some_choice F.autos over.sound.full in
    let k = over.sound.well_formed.filled.trees c.0 c.1 in
    let long = ap (λ (z : List BoxFace). length z) over.table.faces ∙ faces_long T in
    let uses : AllUse (length T) F.autos = subst (λ (n : ℕ). AllUse n F.autos) long
    (forest_uses t.face F.autos over.sound.well_formed.filled.rules) in
    let d = dress_all T 0 F.autos c.0 k.tops over.ranked
    (insides_there T (length T) (tables_dressed t.face.shapes T over.table.sound over.insides) F.autos uses) c.1
    k.are in
    record { nodes = d.nodes; of = d.of; apart = numbered_differ 0 (all_numbers d.nodes) d.cells }

-- Items of a tree.

-- the tree of a root has its items among all
pub tree_among : (vs : List Value) (d : Nodes) (k : ℕ) (n : Node) → node_at d k ≡ Some n → (y : Item)
    → IsIn y (tree_items vs n) → IsIn y (forest_items vs d)
tree_among vs no_nodes k n e y i = absurd (none-some n e)
tree_among vs (more m ns) zero n e y i =
    in_left y (tree_items vs m) (forest_items vs ns)
    (subst (λ (z : Node). IsIn y (tree_items vs z)) (sym (same_Some m n e)) i)
tree_among vs (more m ns) (suc k) n e y i =
    in_right y (tree_items vs m) (forest_items vs ns) (tree_among vs ns k n e y i)

-- a slot of its top is one of them
pub slot_among : (vs : List Value) (d : Nodes) (k c s : ℕ) (ds : List Datum) (ps : Parts)
    → node_at d k ≡ Some (node c s ds ps) → (p : ℕ) (x : Part) → slice_get (listed ps) p ≡ Some x
    → IsIn (part_item vs c x) (forest_items vs d)
slot_among vs d k c s ds ps e p x h = tree_among vs d k (node c s ds ps) e (part_item vs c x)
    (inr (in_rearranged (part_item vs c x) (back (taken_items vs c p ps x h)) (inl refl)))

module _ (bs : List BoxFace) (f r n : ℕ) (vs : List Value) (is : nth_value vs r ≡ Cell n) where
  -- an edge of the list that gives the field to the root's cell
  abbrev HasGift : List Item → Type 0
  HasGift xs = (y : Item) × IsIn y xs × IsEdgeFor bs n f y

  gift_left : (xs ys : List Item) → HasGift xs → HasGift (xs ++ ys)
  gift_left xs ys (y, i, h) = (y, in_left y xs ys i, h)

  gift_right : (xs ys : List Item) → HasGift ys → HasGift (xs ++ ys)
  gift_right xs ys (y, i, h) = (y, in_right y xs ys i, h)

  gift_more : (x : Item) (xs : List Item) → HasGift xs → HasGift (x ∷ xs)
  gift_more x xs (y, i, h) = (y, inr i, h)

  mutual
    tree_gift : (w : Node) → HasEdge bs f r w → HasGift (tree_items vs w)
    tree_gift (node c s ds ps) h = gift_more _ (slot_items vs c ps) (slots_gift c ps h)

    slots_gift : (c : ℕ) (ps : Parts) → HasEdgeIn bs f r ps → HasGift (slot_items vs c ps)
    slots_gift c no_parts h = absurd h
    slots_gift c (field g e ps) (inl h) =
        gift_more _ (end_items vs e ++ slot_items vs c ps)
        (gift_left (end_items vs e) (slot_items vs c ps) (end_gift e h))
    slots_gift c (field g e ps) (inr h) =
        gift_more _ (end_items vs e ++ slot_items vs c ps)
        (gift_right (end_items vs e) (slot_items vs c ps) (slots_gift c ps h))
    slots_gift c (link b i e ps) (inl h) =
        (HasSlot c (SeenLink b i _), inl refl, inr (ap (end_value vs) h.0 ∙ is, has_in f (gives_out_of bs b) h.1))
    slots_gift c (link b i e ps) (inr (inl h)) =
        gift_more _ (end_items vs e ++ slot_items vs c ps)
        (gift_left (end_items vs e) (slot_items vs c ps) (end_gift e h))
    slots_gift c (link b i e ps) (inr (inr h)) =
        gift_more _ (end_items vs e ++ slot_items vs c ps)
        (gift_right (end_items vs e) (slot_items vs c ps) (slots_gift c ps h))
    slots_gift c (hook b i ps) h = gift_more _ (slot_items vs c ps) (slots_gift c ps h)

    end_gift : (e : End) → HasEdgeAt bs f r e → HasGift (end_items vs e)
    end_gift (under w) h = tree_gift w h
    end_gift (leaf t) h = absurd h

module _ (t : Boxes) (F : Forest) (over : IsOver t F) (r f : ℕ) (there : r < length F.autos)
    (top : HasOneTop (component_at F.autos r)) (none : AreBelow t.face.boxes t.defs r f F 0) where
  abbrev bs : List BoxFace
  bs = t.face.boxes

  abbrev T : List BoxDef
  T = t.defs

  -- a box edge has a box
  for_has_box : (n : ℕ) (y : Item) → IsEdgeFor bs n f y → Every (λ b. b < 0) (item_boxes y) → ⊥
  for_has_box n (IsCell c s ds) h k = h
  for_has_box n (HasSlot c (SeenField g v)) (inl h) k = h.1
  for_has_box n (HasSlot c (SeenField g v)) (inr h) k = h
  for_has_box n (HasSlot c (SeenLink b i v)) h k = let l = k.0 in omega (arith, l)
  for_has_box n (HasSlot c (SeenHook b i)) h k = let l = k.0 in omega (arith, l)

  no_edge : (d : Nodes) → OfForest T F d → IsDistinct (all_numbers d) → (n : ℕ) → nth_value (roots_of d) r ≡ Cell n
      → (y : Item) → IsIn y (items d) → IsEdgeFor bs n f y → ⊥
  no_edge d of a n e y i h = for_has_box n y h (none d of a y i (n, e, h))

  part_there : (ps : Parts) (p : ℕ) (s : Slot) → slice_get (map part_slot (listed ps)) p ≡ Some s
      → (x : Part) × (slice_get (listed ps) p ≡ Some x) × (part_slot x ≡ s)
  part_there ps p s e = got (listed ps) p e
    where
      got : (xs : List Part) (p : ℕ) → slice_get (map part_slot xs) p ≡ Some s
          → (x : Part) × (slice_get xs p ≡ Some x) × (part_slot x ≡ s)
      got [] p e = absurd (none-some s e)
      got (x ∷ xs) zero e = (x, refl, same_Some (part_slot x) s e)
      got (x ∷ xs) (suc p) e = got xs p e

  -- no slot of the root covers the field
  not_covered : (s : Slot) → IsIn s (root_slots F r) → slot_covers bs f s ≡ false
  not_covered s i = here (slot_covers bs f s) refl
    where
      d : IsSomeDressed T F
      d = some_dressed t F over

      at_node : (n : Node) → node_at d.nodes r ≡ Some n → slot_covers bs f s ≡ true → ⊥
      at_node (node c k ds ps) e h =
          let j = place_of (root_slots F r) s i in
          let q = part_there ps j.0 s
          (ap (λ (ss : List Slot). slice_get ss j.0)
          (listed_slots ps ∙ sym (top_slots T F d.nodes d.of r there top c k ds ps e)) ∙ j.1) in
          no_edge d.nodes d.of d.apart c (root_is d.nodes r c k ds ps e) (part_item (roots_of d.nodes) c q.0)
          (slot_among (roots_of d.nodes) d.nodes r c k ds ps e j.0 q.0 q.1)
          (cover_for bs f (roots_of d.nodes) c q.0
          (subst (λ (z : Slot). slot_covers bs f z ≡ true) (sym q.2) h))

      here : (b : Bool) → slot_covers bs f s ≡ b → slot_covers bs f s ≡ false
      here false e = e
      here true e =
          let k = tree_at T F.autos r d.nodes there d.of in
          absurd (at_node k.0 k.1 e)

  -- and no component gives it
  not_given : (k : ℕ) → IsProvider bs F r f k → ⊥
  not_given k h =
      let d = some_dressed t F over in
      let n = tree_at T F.autos k d.nodes h.there d.of in
      let c = root_cell (roots_of d.nodes) d.nodes r
      (subst (λ (m : ℕ). r < m) (sym (count_trees T F.autos d.nodes d.of)) there) in
      let e = all_edged bs r f (component_at F.autos k)
      (component_has (HasSignatures bs) F.autos k h.there over.sound.well_formed.signatures) h.provides n.0 n.2 in
      let g = tree_gift bs f r c.cell (roots_of d.nodes) c.value n.0 e in
      no_edge d.nodes d.of d.apart c.cell c.value g.0
      (tree_among (roots_of d.nodes) d.nodes k n.0 n.1 g.0 g.1) g.2

  pub bared : IsBared bs r f F
  bared = record {
    root = there;
    top = top;
    covered = in_every (λ s. slot_covers bs f s ≡ false) (root_slots F r) not_covered;
    given = not_given;
  }
