-- The slots of cells stand in order: where slots are taken out and put in, and where a box edge is opened.
use Rattle.std.proofs.Common.{◌≡◌, ◌⊎◌, inl, inr, ℕ, zero, suc, ◌<◌, min, List, [], ◌∷◌}
use Rattle.std.proofs.Common.{◌++◌, map, flat_map, refl, sym, ap, ap₂, subst, ◌∙◌, Option, Some, None, slice_get, arith}
use Rattle.fore_base.specs.Lists.{IsIn, Every, IsDistinct}
use Rattle.fore_base.specs.declared.shape.Shapes.{Shapes}
use Rattle.fore_base.specs.declared.store.Value.{Value}
use Rattle.fore_base.proofs.ListLemmas.{every_append, every_parts, in_left, in_right}
use Rattle.ta_core.specs.declared.symbol.Slot.{Slot}
use Rattle.ta_core.specs.declared.symbol.Slot.TheVariants.{Field, Link, Hook}
use Rattle.ta_core.specs.declared.tree.Tree.{Tree}
use Rattle.fa_core.specs.declared.faces.BoxFace.{BoxFace}
use Rattle.fa_core.specs.declared.faces.Face.{Face}
use Rattle.fa_core.specs.declared.forest.Target.{Target}
use Rattle.fa_core.specs.declared.forest.Target.TheVariants.{Null, Uninit, Dangling, At}
use Rattle.fa_core.specs.Boxes.{InsideFilled}
use Rattle.fa_core.specs.Choices.{bares}
use Rattle.fa_core.specs.Dressed.{Node, Parts, End, Nodes, node, no_parts, field, link, hook, under, leaf, no_nodes}
use Rattle.fa_core.specs.Dressed.{more}
use Rattle.fa_core.specs.Dressed.{SeenCell, tree_cells, below, end_cells, forest_cells}
use Rattle.fa_core.specs.Filled.{covers, fields_in, least, least_of, HasField, IsInOrder, IsFilledSpot, face_of}
use Rattle.fa_core.specs.Filled.{Spot, given_at}
use Rattle.fa_core.specs.Member.{slots_of}
use Rattle.fa_core.specs.Placed.{placed, placed_parts, placed_end, placed_all}
use Rattle.fa_core.specs.Rearranged.{RisesFrom, IsRising}
use Rattle.fa_core.specs.Ways.{gives_out_of}
use Rattle.fa_core.proofs.NodeSpots.{node_spots, parts_spots, end_spots, spots_are}
use Rattle.fa_core.proofs.Permuted.{distinct_moved, distinct_parts, none_in_both}
use Rattle.fa_core.proofs.Placing.{slots_placed}
use Rattle.fa_core.proofs.SeenCells.{slots_seen, slots_seen_are}
use Rattle.fa_core.proofs.WaysOf.{map-append}
use Rattle.fa_core.proofs.Rearranging.{mapped}
use Rattle.fa_unfold.specs.Parts.{Part, FieldPart, LinkPart, HookPart, listed}
use Rattle.fa_unfold.specs.Slots.{joined, without}
use Rattle.fa_unfold.specs.inner.Trees.{unlisted, part_slot, part_key, joined_parts, parts_without, at_root, at_leaf}
use Rattle.fa_unfold.specs.inner.Trees.{with_all}
use Rattle.fa_unfold.proofs.JoinedOrder.{joined_rises}
use Rattle.fa_unfold.proofs.Joins.{joined_same, joined_every}
use Rattle.fa_unfold.proofs.PartItems.{unlisted_again}
use Rattle.fa_unfold.proofs.PlaceRuns.{without_every}

-- Keys.

least_in : (n : ℕ) (fs : List ℕ) → IsIn (least_of n fs) (n ∷ fs)
least_in n [] = inl refl
least_in n (f ∷ fs) = elim (least_in (min n f) fs) [
  | inl e ↦ elim (min_one n f) [ inl a ↦ inl (e ∙ a) | inr b ↦ inr (inl (e ∙ b)) ]
  | inr i ↦ inr (inr i)
]
  where
    min_one : (a b : ℕ) → (min a b ≡ a) ⊎ (min a b ≡ b)
    min_one a b = grind arith

least_of_some : (fs : List ℕ) → HasField fs → IsIn (least fs) fs
least_of_some [] h = absurd h
least_of_some (f ∷ fs) h = least_in f fs

module _ {X : Type 0} (g : X → List ℕ) where
  key_in : (k : ℕ) (xs : List X) → Every (λ x. HasField (g x)) xs → IsIn k (map (λ x. least (g x)) xs)
      → IsIn k (flat_map g xs)
  key_in k [] h i = absurd i
  key_in k (x ∷ xs) h (inl e) =
      in_left k (g x) (flat_map g xs) (subst (λ (n : ℕ). IsIn n (g x)) (sym e) (least_of_some (g x) h.0))
  key_in k (x ∷ xs) h (inr i) = in_right k (g x) (flat_map g xs) (key_in k xs h.1 i)

  -- slots that cover different fields have different keys
  pub keys_differ : (xs : List X) → Every (λ x. HasField (g x)) xs → IsDistinct (flat_map g xs)
      → IsDistinct (map (λ x. least (g x)) xs)
  keys_differ [] h a = tt
  keys_differ (x ∷ xs) h a = (
    λ i. none_in_both (least (g x)) (g x) (flat_map g xs) a (least_of_some (g x) h.0)
        (key_in (least (g x)) xs h.1 i),
    keys_differ xs h.1 (distinct_parts (g x) (flat_map g xs) a).1,
  )

lower : (n k : ℕ) (ys : List ℕ) → n < k → RisesFrom k ys → RisesFrom n ys
lower n k [] l h = tt
lower n k (y ∷ ys) l h = (let a = h.0 in omega (arith, l, a), h.1)

module _ {X : Type 0} (key : X → ℕ) where
  from_without : (p n : ℕ) (xs : List X) → RisesFrom n (map key xs) → RisesFrom n (map key (without p xs))
  from_without p n [] h = tt
  from_without zero n (x ∷ xs) h = lower n (key x) (map key xs) h.0 h.1
  from_without (suc p) n (x ∷ xs) h = (h.0, from_without p (key x) xs h.1)

  rises_without : (p : ℕ) (xs : List X) → IsRising (map key xs) → IsRising (map key (without p xs))
  rises_without p [] h = tt
  rises_without zero (x ∷ xs) h = rest xs h
    where
      rest : (ys : List X) → RisesFrom (key x) (map key ys) → IsRising (map key ys)
      rest [] h = tt
      rest (y ∷ ys) h = h.1
  rises_without (suc p) (x ∷ xs) h = from_without p (key x) xs h

-- What the tops of all trees have.

abbrev pub TopsHave : (Parts → Type 0) → Nodes → Type 0
TopsHave P no_nodes = Unit {0}
TopsHave P (more (node c s ds ps) ns) = P ps × TopsHave P ns

module _ (P : Parts → Type 0) where
  pub tops_first : (d ms : Nodes) → TopsHave P (with_all d ms) → TopsHave P d
  tops_first no_nodes ms h = tt
  tops_first (more (node c s ds ps) ns) ms h = (h.0, tops_first ns ms h.1)

  pub tops_with : (d ms : Nodes) → TopsHave P d → TopsHave P ms → TopsHave P (with_all d ms)
  tops_with no_nodes ms h k = k
  tops_with (more (node c s ds ps) ns) ms h k = (h.0, tops_with ns ms h.1 k)

  pub tops_at : (g : Parts → Parts) → ((ps : Parts) → P ps → P (g ps)) → (i : ℕ) (d : Nodes) → TopsHave P d
      → TopsHave P (at_root g i d)
  tops_at g w i no_nodes h = tt
  tops_at g w zero (more (node c s ds ps) ns) h = (w ps h.0, h.1)
  tops_at g w (suc i) (more (node c s ds ps) ns) h = (h.0, tops_at g w i ns h.1)

  pub tops_from : (g : Parts → Parts) → ((ps : Parts) → P (g ps) → P ps) → (i : ℕ) (d : Nodes)
      → TopsHave P (at_root g i d) → TopsHave P d
  tops_from g w i no_nodes h = tt
  tops_from g w zero (more (node c s ds ps) ns) h = (w ps h.0, h.1)
  tops_from g w (suc i) (more (node c s ds ps) ns) h = (h.0, tops_from g w i ns h.1)

  pub tops_leaf : (g : Parts → Parts) → ((ps : Parts) → P ps → P (g ps)) → (y : Target) (d : Nodes) → TopsHave P d
      → TopsHave P (at_leaf g y d)
  tops_leaf g w Null d h = h
  tops_leaf g w Uninit d h = h
  tops_leaf g w Dangling d h = h
  tops_leaf g w (At j) d h = tops_at g w j d h

  pub tops_back : (g : Parts → Parts) → ((ps : Parts) → P (g ps) → P ps) → (y : Target) (d : Nodes)
      → TopsHave P (at_leaf g y d) → TopsHave P d
  tops_back g w Null d h = h
  tops_back g w Uninit d h = h
  tops_back g w Dangling d h = h
  tops_back g w (At j) d h = tops_from g w j d h

pub tops_weaker : (P Q : Parts → Type 0) → ((ps : Parts) → P ps → Q ps) → (d : Nodes) → TopsHave P d → TopsHave Q d
tops_weaker P Q w no_nodes h = tt
tops_weaker P Q w (more (node c s ds ps) ns) h = (w ps h.0, tops_weaker P Q w ns h.1)

module _ (P Q : Parts → Type 0) (g : Parts → Parts) (w : (ps : Parts) → P ps → Q (g ps) → P (g ps)) where
  pub tops_if : (i : ℕ) (d : Nodes) → TopsHave P d → TopsHave Q (at_root g i d) → TopsHave P (at_root g i d)
  tops_if i no_nodes h k = tt
  tops_if zero (more (node c s ds ps) ns) h k = (w ps h.0 k.0, h.1)
  tops_if (suc i) (more (node c s ds ps) ns) h k = (h.0, tops_if i ns h.1 k.1)

  pub leaf_if : (y : Target) (d : Nodes) → TopsHave P d → TopsHave Q (at_leaf g y d) → TopsHave P (at_leaf g y d)
  leaf_if Null d h k = h
  leaf_if Uninit d h k = h
  leaf_if Dangling d h k = h
  leaf_if (At j) d h k = tops_if j d h k

-- Slots in order, at the top and below.

module _ (bs : List BoxFace) where
  abbrev mutual
    pub NodeOrdered : Node → Type 0
    NodeOrdered (node c s ds ps) = IsInOrder bs (slots_of ps) × PartsOrdered ps

    pub PartsOrdered : Parts → Type 0
    PartsOrdered no_parts = Unit {0}
    PartsOrdered (field f e ps) = EndOrdered e × PartsOrdered ps
    PartsOrdered (link b i e ps) = EndOrdered e × PartsOrdered ps
    PartsOrdered (hook b i ps) = PartsOrdered ps

    pub EndOrdered : End → Type 0
    EndOrdered (under n) = NodeOrdered n
    EndOrdered (leaf t) = Unit {0}

  -- the slots are in order, and so are those of the cells below them
  abbrev pub Ordered : Parts → Type 0
  Ordered ps = IsInOrder bs (slots_of ps) × PartsOrdered ps

  abbrev Covers : Part → Type 0
  Covers x = HasField (covers bs (part_slot x))

  -- each slot covers some field
  abbrev pub AllCover : Parts → Type 0
  AllCover ps = Every Covers (listed ps)

  -- no two slots have one key
  abbrev pub KeysApart : Parts → Type 0
  KeysApart ps = IsDistinct (map (part_key bs) (listed ps))

  keys_listed : (ps : Parts) → map (λ s. least (covers bs s)) (slots_of ps) ≡ map (part_key bs) (listed ps)
  keys_listed no_parts = refl
  keys_listed (field f e ps) = ap (λ (z : List ℕ). least (covers bs (Field f)) ∷ z) (keys_listed ps)
  keys_listed (link b i e ps) = ap (λ (z : List ℕ). least (covers bs (Link b)) ∷ z) (keys_listed ps)
  keys_listed (hook b i ps) = ap (λ (z : List ℕ). least (covers bs (Hook b)) ∷ z) (keys_listed ps)

  fields_listed : (ps : Parts) → flat_map (covers bs) (slots_of ps)
      ≡ flat_map (λ x. covers bs (part_slot x)) (listed ps)
  fields_listed no_parts = refl
  fields_listed (field f e ps) = ap (λ (z : List ℕ). covers bs (Field f) ++ z) (fields_listed ps)
  fields_listed (link b i e ps) = ap (λ (z : List ℕ). covers bs (Link b) ++ z) (fields_listed ps)
  fields_listed (hook b i ps) = ap (λ (z : List ℕ). covers bs (Hook b) ++ z) (fields_listed ps)

  pub cover_listed : (ps : Parts) → Every (λ s. HasField (covers bs s)) (slots_of ps) → AllCover ps
  cover_listed no_parts h = tt
  cover_listed (field f e ps) h = (h.0, cover_listed ps h.1)
  cover_listed (link b i e ps) h = (h.0, cover_listed ps h.1)
  cover_listed (hook b i ps) h = (h.0, cover_listed ps h.1)

  cover_slots : (ps : Parts) → AllCover ps → Every (λ s. HasField (covers bs s)) (slots_of ps)
  cover_slots no_parts h = tt
  cover_slots (field f e ps) h = (h.0, cover_slots ps h.1)
  cover_slots (link b i e ps) h = (h.0, cover_slots ps h.1)
  cover_slots (hook b i ps) h = (h.0, cover_slots ps h.1)

  -- slots that cover different fields have different keys
  pub fields_apart : (ps : Parts) → AllCover ps → IsDistinct (flat_map (covers bs) (slots_of ps)) → KeysApart ps
  fields_apart ps h a = keys_differ (λ x. covers bs (part_slot x)) (listed ps) h (subst IsDistinct (fields_listed ps) a)

  -- Slots as a list.

  abbrev AreInOrder : List Part → Type 0
  AreInOrder xs = Every Covers xs × IsRising (map (part_key bs) xs)

  to_list : (ps : Parts) → IsInOrder bs (slots_of ps) → AreInOrder (listed ps)
  to_list ps h = (cover_listed ps h.0, subst IsRising (keys_listed ps) h.1)

  from_list : (xs : List Part) → AreInOrder xs → IsInOrder bs (slots_of (unlisted xs))
  from_list xs h =
      let k : AreInOrder (listed (unlisted xs)) = subst AreInOrder (sym (unlisted_again xs)) h in
      (cover_slots (unlisted xs) k.0, subst IsRising (sym (keys_listed (unlisted xs))) k.1)

  abbrev PartOrdered : Part → Type 0
  PartOrdered (FieldPart f e) = EndOrdered e
  PartOrdered (LinkPart b i e) = EndOrdered e
  PartOrdered (HookPart b i) = Unit {0}

  below_list : (ps : Parts) → PartsOrdered ps → Every PartOrdered (listed ps)
  below_list no_parts h = tt
  below_list (field f e ps) h = (h.0, below_list ps h.1)
  below_list (link b i e ps) h = (h.0, below_list ps h.1)
  below_list (hook b i ps) h = (tt, below_list ps h)

  below_again : (xs : List Part) → Every PartOrdered xs → PartsOrdered (unlisted xs)
  below_again [] h = tt
  below_again (FieldPart f e ∷ xs) h = (h.0, below_again xs h.1)
  below_again (LinkPart b i e ∷ xs) h = (h.0, below_again xs h.1)
  below_again (HookPart b i ∷ xs) h = below_again xs h.1

  -- Slots taken out, and put in.

  pub without_ordered : (p : ℕ) (ps : Parts) → Ordered ps → Ordered (parts_without p ps)
  without_ordered p ps h =
      let k = to_list ps h.0 in (
        from_list (without p (listed ps))
            (without_every Covers p (listed ps) k.0, rises_without (part_key bs) p (listed ps) k.1),
        below_again (without p (listed ps)) (without_every PartOrdered p (listed ps) (below_list ps h.1)),
      )

  pub joined_cover : (os qs : Parts) → AllCover os → AllCover qs → AllCover (joined_parts bs os qs)
  joined_cover os qs h k =
      subst (Every Covers) (sym (unlisted_again (joined (part_key bs) (listed os) (listed qs))))
      (joined_every (part_key bs) Covers (listed os) (listed qs) h k)

  both_apart : (os qs : Parts) → KeysApart (joined_parts bs os qs)
      → IsDistinct (map (part_key bs) (listed qs) ++ map (part_key bs) (listed os))
  both_apart os qs h =
      let key = part_key bs in
      let a : IsDistinct (map key (joined key (listed os) (listed qs))) =
      subst (λ (z : List Part). IsDistinct (map key z)) (unlisted_again (joined key (listed os) (listed qs))) h in
      subst IsDistinct (map-append key (listed qs) (listed os))
      (distinct_moved (mapped key (joined_same key (listed os) (listed qs))) a)

  pub joined_apart_of : (os qs : Parts) → KeysApart (joined_parts bs os qs) → KeysApart os
  joined_apart_of os qs h =
      (distinct_parts (map (part_key bs) (listed qs)) (map (part_key bs) (listed os)) (both_apart os qs h)).1

  pub joined_ordered : (os qs : Parts) → Ordered os → Ordered qs → KeysApart (joined_parts bs os qs)
      → Ordered (joined_parts bs os qs)
  joined_ordered os qs h k a =
      let key = part_key bs in
      let x = to_list os h.0 in
      let y = to_list qs k.0 in (
        from_list (joined key (listed os) (listed qs)) (
          joined_every key Covers (listed os) (listed qs) x.0 y.0,
          joined_rises key (listed os) (listed qs) x.1 (both_apart os qs a),
        ),
        below_again (joined key (listed os) (listed qs))
            (joined_every key PartOrdered (listed os) (listed qs) (below_list os h.1) (below_list qs k.1)),
      )

  -- Other leaves.

  module _ (f : ℕ → Target) where
    mutual
      node_put : (n : Node) → NodeOrdered n → NodeOrdered (placed f n)
      node_put (node c s ds ps) h = (subst (IsInOrder bs) (sym (slots_placed f ps)) h.0, parts_put ps h.1)

      parts_put : (ps : Parts) → PartsOrdered ps → PartsOrdered (placed_parts f ps)
      parts_put no_parts h = tt
      parts_put (field g e ps) h = (end_put e h.0, parts_put ps h.1)
      parts_put (link b i e ps) h = (end_put e h.0, parts_put ps h.1)
      parts_put (hook b i ps) h = parts_put ps h

      end_put : (e : End) → EndOrdered e → EndOrdered (placed_end f e)
      end_put (under n) h = node_put n h
      end_put (leaf t) h = tt

    pub placed_ordered : (ps : Parts) → Ordered ps → Ordered (placed_parts f ps)
    placed_ordered ps h = (subst (IsInOrder bs) (sym (slots_placed f ps)) h.0, parts_put ps h.1)

    pub all_ordered : (ns : Nodes) → TopsHave Ordered ns → TopsHave Ordered (placed_all f ns)
    all_ordered no_nodes h = tt
    all_ordered (more (node c s ds ps) ns) h = (placed_ordered ps h.0, all_ordered ns h.1)

  -- Cells.

  abbrev pub CellOrdered : SeenCell → Type 0
  CellOrdered x = IsInOrder bs (slots_seen x.slots)

  module _ (vs : List Value) where
    mutual
      node_to_cells : (n : Node) → NodeOrdered n → Every CellOrdered (tree_cells vs n)
      node_to_cells (node c s ds ps) h =
          (subst (IsInOrder bs) (sym (slots_seen_are vs ps)) h.0, parts_to_cells ps h.1)

      parts_to_cells : (ps : Parts) → PartsOrdered ps → Every CellOrdered (below vs ps)
      parts_to_cells no_parts h = tt
      parts_to_cells (field f e ps) h =
          every_append CellOrdered (end_cells vs e) (below vs ps) (end_to_cells e h.0) (parts_to_cells ps h.1)
      parts_to_cells (link b i e ps) h =
          every_append CellOrdered (end_cells vs e) (below vs ps) (end_to_cells e h.0) (parts_to_cells ps h.1)
      parts_to_cells (hook b i ps) h = parts_to_cells ps h

      end_to_cells : (e : End) → EndOrdered e → Every CellOrdered (end_cells vs e)
      end_to_cells (under n) h = node_to_cells n h
      end_to_cells (leaf t) h = tt

    pub cells_ordered : (d : Nodes) → TopsHave Ordered d → Every CellOrdered (forest_cells vs d)
    cells_ordered no_nodes h = tt
    cells_ordered (more (node c s ds ps) ns) h =
        every_append CellOrdered (tree_cells vs (node c s ds ps)) (forest_cells vs ns)
        (node_to_cells (node c s ds ps) h.0) (cells_ordered ns h.1)

    mutual
      node_of_cells : (n : Node) → Every CellOrdered (tree_cells vs n) → NodeOrdered n
      node_of_cells (node c s ds ps) h =
          (subst (IsInOrder bs) (slots_seen_are vs ps) h.0, parts_of_cells ps h.1)

      parts_of_cells : (ps : Parts) → Every CellOrdered (below vs ps) → PartsOrdered ps
      parts_of_cells no_parts h = tt
      parts_of_cells (field f e ps) h =
          let k = every_parts CellOrdered (end_cells vs e) (below vs ps) h in
          (end_of_cells e k.0, parts_of_cells ps k.1)
      parts_of_cells (link b i e ps) h =
          let k = every_parts CellOrdered (end_cells vs e) (below vs ps) h in
          (end_of_cells e k.0, parts_of_cells ps k.1)
      parts_of_cells (hook b i ps) h = parts_of_cells ps h

      end_of_cells : (e : End) → Every CellOrdered (end_cells vs e) → EndOrdered e
      end_of_cells (under n) h = node_of_cells n h
      end_of_cells (leaf t) h = tt

    pub ordered_cells : (d : Nodes) → Every CellOrdered (forest_cells vs d) → TopsHave Ordered d
    ordered_cells no_nodes h = tt
    ordered_cells (more (node c s ds ps) ns) h =
        let k = every_parts CellOrdered (tree_cells vs (node c s ds ps)) (forest_cells vs ns) h in
        (node_of_cells (node c s ds ps) k.0, ordered_cells ns k.1)

-- An inside over fewer boxes.

module _ (S : Shapes) (bs0 bs : List BoxFace)
    (grow : (b : ℕ) (x : BoxFace) → face_of bs0 b ≡ Some x → face_of bs b ≡ Some x) (tops : List ℕ) where
  abbrev before : Face
  before = record { shapes = S; boxes = bs0 }

  box_covers : (b : ℕ) (o : Option BoxFace) → slice_get bs0 b ≡ o → HasField (fields_in o)
      → fields_in (slice_get bs0 b) ≡ fields_in (slice_get bs b)
  box_covers b None e h = absurd h
  box_covers b (Some x) e h = ap fields_in e ∙ sym (ap fields_in (grow b x e))

  same_covers : (s : Slot) → HasField (covers bs0 s) → covers bs0 s ≡ covers bs s
  same_covers (Field f) h = refl
  same_covers (Link b) h = box_covers b (slice_get bs0 b) refl h
  same_covers (Hook b) h = box_covers b (slice_get bs0 b) refl h

  same_keys : (ss : List Slot) → Every (λ s. HasField (covers bs0 s)) ss
      → Every (λ s. HasField (covers bs s)) ss
      × (map (λ s. least (covers bs0 s)) ss ≡ map (λ s. least (covers bs s)) ss)
  same_keys [] h = (tt, refl)
  same_keys (s ∷ ss) h =
      let k = same_keys ss h.1 in
      let e = same_covers s h.0 in (
        (subst HasField e h.0, k.0),
        ap₂ (λ (x : ℕ) (y : List ℕ). x ∷ y) (ap least e) k.1,
      )

  pub grown_order : (ss : List Slot) → IsInOrder bs0 ss → IsInOrder bs ss
  grown_order ss h = let k = same_keys ss h.0 in (k.0, subst IsRising k.1 h.1)

  mutual
    node_spotted : (n : Node) (above : List ℕ) → Every (IsFilledSpot before tops) (node_spots bs0 n above)
        → NodeOrdered bs n
    node_spotted (node c s ds ps) above h = (grown_order (slots_of ps) h.0.order, parts_spotted ps h.1)

    pub parts_spotted : (ps : Parts) → Every (IsFilledSpot before tops) (parts_spots bs0 ps) → PartsOrdered bs ps
    parts_spotted no_parts h = tt
    parts_spotted (field f e ps) h =
        let k = every_parts (IsFilledSpot before tops) (end_spots bs0 [] e) (parts_spots bs0 ps) h in
        (end_spotted [] e k.0, parts_spotted ps k.1)
    parts_spotted (link b i e ps) h =
        let k = every_parts (IsFilledSpot before tops) (end_spots bs0 (gives_out_of bs0 b) e) (parts_spots bs0 ps) h in
        (end_spotted (gives_out_of bs0 b) e k.0, parts_spotted ps k.1)
    parts_spotted (hook b i ps) h = parts_spotted ps h

    end_spotted : (g : List ℕ) (e : End) → Every (IsFilledSpot before tops) (end_spots bs0 g e) → EndOrdered bs e
    end_spotted g (under n) h = node_spotted n g h
    end_spotted g (leaf t) h = tt

  -- the inner roots from r on
  pub roots_spotted : (ts : List Tree) (ns : Nodes) (r : ℕ) → InsideFilled before ts tops r [] (bares ns)
      → TopsHave (Ordered bs) ns
  roots_spotted ts no_nodes r h = tt
  roots_spotted ts (more (node c s ds ps) ns) r h = (
    node_spotted (node c s ds ps) (given_at bs0 ts r)
        (subst (λ (x : List Spot). Every (IsFilledSpot before tops) x)
        (spots_are bs0 (node c s ds ps) (given_at bs0 ts r)) h.0),
    roots_spotted ts ns (suc r) h.1,
  )
