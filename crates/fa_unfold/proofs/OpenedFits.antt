-- Where a box edge is opened, the slots of all cells fit, and give each field once, if those that are gained fit.
use Rattle.std.proofs.Common.{◌≡◌, inl, inr, ℕ, List, [], ◌∷◌, ◌++◌, map, flat_map, refl, sym, ap, subst, ◌∙◌}
use Rattle.fore_base.specs.Lists.{IsIn, Every, IsDistinct}
use Rattle.fore_base.specs.declared.store.Value.{Value}
use Rattle.fore_base.specs.declared.store.Value.TheVariants.{Null as NullValue, Uninit as UninitValue}
use Rattle.fore_base.specs.declared.store.Value.TheVariants.{Dangling as DanglingValue, Cell}
use Rattle.fore_base.proofs.ListLemmas.{every_append, every_parts, every_weaker}
use Rattle.ta_core.specs.Auto.{Automaton}
use Rattle.fa_core.specs.declared.faces.Face.{Face}
use Rattle.fa_core.specs.declared.faces.BoxFace.{BoxFace}
use Rattle.fa_core.specs.declared.forest.Forest.{Forest}
use Rattle.fa_core.specs.Boxes.{Boxes, IsBoxTable, faces_of}
use Rattle.fa_core.specs.Choices.{bares}
use Rattle.fa_core.specs.Dressed.{Nodes, Seen, SeenField, SeenLink, SeenHook, SeenCell, Fact, cells, facts, roots_of}
use Rattle.fa_core.specs.Filled.{IsFilled, TreesFilled, covers, fields_of}
use Rattle.fa_core.specs.Member.{OfForest, TreesOf}
use Rattle.fa_core.specs.Rearranged.{Rearranged, often}
use Rattle.fa_core.proofs.Counts.{often_same}
use Rattle.fa_core.proofs.Dressing.{choice_of}
use Rattle.fa_core.proofs.FilledCells.{cells_filled}
use Rattle.fa_core.proofs.FilledKept.{apart_by, forest_numbers}
use Rattle.fa_core.proofs.Given.{gives_to}
use Rattle.fa_core.proofs.Permuted.{distinct_moved, distinct_parts}
use Rattle.fa_core.proofs.Rearranging.{back, flat_map-append, flat_mapped, every_moved}
use Rattle.fa_core.proofs.SeenCells.{HasStruct, NamesOne, PointsTo, SlotsFit, IsFilledCell, one_struct, cell_number}
use Rattle.fa_core.proofs.SeenCells.{tops_structs, slots_seen}
use Rattle.fa_facts.proofs.Alike.{alike}
use Rattle.fa_facts.proofs.BoxFields.{table_gives}
use Rattle.fa_facts.proofs.FactCounts.{given_n, owed_n}
use Rattle.fa_facts.proofs.FullFacts.{fields_full}
use Rattle.fa_unfold.specs.Opens.{Item, IsCell, HasSlot, items, opened, Opens}
use Rattle.fa_unfold.proofs.OpenedOnce.{forest_insides, given_moved, owed_moved, count_once}
use Rattle.fa_unfold.proofs.Opening.{facts_opened, opens_facts}
use Rattle.fa_unfold.proofs.UnfoldedMembers.{cell_items, cells_items}

-- the number of a cell
abbrev pub item_number : Item → List ℕ
item_number (IsCell c s ds) = c ∷ []
item_number (HasSlot c x) = []

-- the item is a slot
abbrev pub IsSlotItem : Item → Type 0
IsSlotItem (IsCell c s ds) = ⊥
IsSlotItem (HasSlot c x) = Unit {0}

slot_numbers : (c : ℕ) (xs : List Seen) → flat_map item_number (map (HasSlot c) xs) ≡ []
slot_numbers c [] = refl
slot_numbers c (x ∷ xs) = slot_numbers c xs

cell_numbers : (cs : List SeenCell) → flat_map item_number (flat_map cell_items cs) ≡ map cell_number cs
cell_numbers [] = refl
cell_numbers (x ∷ cs) =
    ap (λ (z : List ℕ). x.cell ∷ z)
    (flat_map-append item_number (map (HasSlot x.cell) x.slots) (flat_map cell_items cs)
    ∙ ap (λ (z : List ℕ). z ++ flat_map item_number (flat_map cell_items cs)) (slot_numbers x.cell x.slots)
    ∙ cell_numbers cs)

none_of_slot : (x : Item) → IsSlotItem x → item_number x ≡ []
none_of_slot (IsCell c s ds) h = absurd h
none_of_slot (HasSlot c x) h = refl

-- no two cells have one number before, if none have after
pub apart_before : (x : Item) (d e : Nodes) → Opens x d e → IsSlotItem x → IsDistinct (map cell_number (cells e))
    → IsDistinct (map cell_number (cells d))
apart_before x d e o h a =
    let after : Rearranged (flat_map item_number (items e)) (flat_map item_number (o.gained ++ o.others)) =
    flat_mapped item_number o.after in
    let all : Rearranged (flat_map item_number (items e)) (map cell_number (cells e)) =
    subst (λ (z : List ℕ). Rearranged (flat_map item_number (items e)) z) (cell_numbers (cells e))
    (flat_mapped item_number (cells_items e)) in
    let b : IsDistinct (flat_map item_number o.gained ++ flat_map item_number o.others) =
    subst IsDistinct (flat_map-append item_number o.gained o.others)
    (distinct_moved after (distinct_moved (back all) a)) in
    let c : IsDistinct (flat_map item_number o.others) =
    (distinct_parts (flat_map item_number o.gained) (flat_map item_number o.others) b).1 in
    let before : Rearranged (flat_map item_number (items d)) (item_number x ++ flat_map item_number o.others) =
    flat_mapped item_number o.before in
    let old : Rearranged (flat_map item_number (items d)) (map cell_number (cells d)) =
    subst (λ (z : List ℕ). Rearranged (flat_map item_number (items d)) z) (cell_numbers (cells d))
    (flat_mapped item_number (cells_items d)) in
    distinct_moved old
    (distinct_moved (back before)
    (subst (λ (z : List ℕ). IsDistinct (z ++ flat_map item_number o.others)) (sym (none_of_slot x h)) c))

-- Slots among other cells.

module _ (face : Face) (xs ys : List SeenCell) (more : (n t : ℕ) → HasStruct xs n t → HasStruct ys n t) where
  points_more : (t : ℕ) (v : Value) → PointsTo xs t v → PointsTo ys t v
  points_more t NullValue w = tt
  points_more t UninitValue w = tt
  points_more t DanglingValue w = tt
  points_more t (Cell n) w = more n t w

  pub names_more : (t : ℕ) (v : Value) → NamesOne xs t v → NamesOne ys t v
  names_more t NullValue w = w
  names_more t UninitValue w = w
  names_more t DanglingValue w = w
  names_more t (Cell n) w = more n t w

  slot_more : (s : ℕ) (x : Seen) → SlotsFit face xs s (x ∷ []) → SlotsFit face ys s (x ∷ [])
  slot_more s (SeenField f v) w = ((w.0.0, w.0.1, points_more w.0.0 v w.0.2), tt)
  slot_more s (SeenLink b i v) w = (
    (w.0.0, w.0.1, w.0.2, w.0.3, w.0.4, elim w.0.5 [ inl k ↦ inl (names_more w.0.1 v k) | inr k ↦ inr k ]),
    tt,
  )
  slot_more s (SeenHook b i) w = (w.0, tt)

module _ (face : Face) (all : List SeenCell) where
  slot_first : (s : ℕ) (x : Seen) (xs : List Seen) → SlotsFit face all s (x ∷ xs) → SlotsFit face all s (x ∷ [])
      × SlotsFit face all s xs
  slot_first s (SeenField f v) xs h = ((h.0, tt), h.1)
  slot_first s (SeenLink b i v) xs h = ((h.0, tt), h.1)
  slot_first s (SeenHook b i) xs h = ((h.0, tt), h.1)

  slot_again : (s : ℕ) (x : Seen) (xs : List Seen) → SlotsFit face all s (x ∷ []) → SlotsFit face all s xs
      → SlotsFit face all s (x ∷ xs)
  slot_again s (SeenField f v) xs h k = (h.0, k)
  slot_again s (SeenLink b i v) xs h k = (h.0, k)
  slot_again s (SeenHook b i) xs h k = (h.0, k)

  -- a cell is there
  abbrev pub IsThere : Item → Type 0
  IsThere (IsCell c s ds) = HasStruct all c s
  IsThere (HasSlot c x) = Unit {0}

  -- a slot fits its cell
  abbrev pub Fits : Item → Type 0
  Fits (IsCell c s ds) = Unit {0}
  Fits (HasSlot c x) = (t : ℕ) → HasStruct all c t → SlotsFit face all t (x ∷ [])

  -- its cell is there, and it fits
  abbrev pub FitsHere : Item → Type 0
  FitsHere (IsCell c s ds) = Unit {0}
  FitsHere (HasSlot c x) = (t : ℕ) × HasStruct all c t × SlotsFit face all t (x ∷ [])

  slots_there : (c : ℕ) (xs : List Seen) → Every IsThere (map (HasSlot c) xs)
  slots_there c [] = tt
  slots_there c (x ∷ xs) = (tt, slots_there c xs)

  there_of : (cs : List SeenCell) → ((n t : ℕ) → HasStruct cs n t → HasStruct all n t)
      → Every IsThere (flat_map cell_items cs)
  there_of [] h = tt
  there_of (x ∷ cs) h = (
    h x.cell x.shape (inl (refl, refl)),
    every_append IsThere (map (HasSlot x.cell) x.slots) (flat_map cell_items cs) (slots_there x.cell x.slots)
        (there_of cs (λ n t k. h n t (inr k))),
  )

  struct_of : (cs : List SeenCell) (n t : ℕ) → Every IsThere (flat_map cell_items cs) → HasStruct cs n t
      → HasStruct all n t
  struct_of [] n t h k = absurd k
  struct_of (x ∷ cs) n t h (inl e) =
      subst (λ (z : ℕ). HasStruct all z t) e.0 (subst (λ (z : ℕ). HasStruct all x.cell z) e.1 h.0)
  struct_of (x ∷ cs) n t h (inr k) =
      struct_of cs n t (every_parts IsThere (map (HasSlot x.cell) x.slots) (flat_map cell_items cs) h.1).1 k

  slots_here : (c s : ℕ) → HasStruct all c s → (xs : List Seen) → SlotsFit face all s xs
      → Every FitsHere (map (HasSlot c) xs)
  slots_here c s h [] k = tt
  slots_here c s h (x ∷ xs) k = let w = slot_first s x xs k in ((s, h, w.0), slots_here c s h xs w.1)

  pub fits_here : (cs : List SeenCell) → ((n t : ℕ) → HasStruct cs n t → HasStruct all n t)
      → Every (λ x. SlotsFit face all x.shape x.slots) cs → Every FitsHere (flat_map cell_items cs)
  fits_here [] h k = tt
  fits_here (x ∷ cs) h k = (
    tt,
    every_append FitsHere (map (HasSlot x.cell) x.slots) (flat_map cell_items cs)
        (slots_here x.cell x.shape (h x.cell x.shape (inl (refl, refl))) x.slots k.0)
        (fits_here cs (λ n t j. h n t (inr j)) k.1),
  )

  slots_fit : (c s : ℕ) → HasStruct all c s → (xs : List Seen) → Every Fits (map (HasSlot c) xs)
      → SlotsFit face all s xs
  slots_fit c s h [] k = tt
  slots_fit c s h (x ∷ xs) k = slot_again s x xs (k.0 s h) (slots_fit c s h xs k.1)

  pub cells_fit : (cs : List SeenCell) → ((n t : ℕ) → HasStruct cs n t → HasStruct all n t)
      → Every Fits (flat_map cell_items cs) → Every (λ x. SlotsFit face all x.shape x.slots) cs
  cells_fit [] h k = tt
  cells_fit (x ∷ cs) h k =
      let w = every_parts Fits (map (HasSlot x.cell) x.slots) (flat_map cell_items cs) k.1 in (
        slots_fit x.cell x.shape (h x.cell x.shape (inl (refl, refl))) x.slots w.0,
        cells_fit cs (λ n t j. h n t (inr j)) w.1,
      )

module _ (face : Face) (x : Item) (d e : Nodes) (o : Opens x d e) (slot : IsSlotItem x)
    (apart : IsDistinct (map cell_number (cells e))) where
  there_after : Every (IsThere face (cells e)) (items e)
  there_after = every_moved (IsThere face (cells e)) (back (cells_items e))
      (there_of face (cells e) (cells e) (λ n t h. h))

  -- each cell that is gained is there
  pub gained_there : Every (IsThere face (cells e)) o.gained
  gained_there =
      (every_parts (IsThere face (cells e)) o.gained o.others
      (every_moved (IsThere face (cells e)) o.after there_after)).0

  slot_there : (y : Item) → IsSlotItem y → IsThere face (cells e) y
  slot_there (IsCell c s ds) h = absurd h
  slot_there (HasSlot c z) h = tt

  -- each cell stays
  pub struct_kept : (n t : ℕ) → HasStruct (cells d) n t → HasStruct (cells e) n t
  struct_kept n t h =
      let k = (every_parts (IsThere face (cells e)) o.gained o.others
      (every_moved (IsThere face (cells e)) o.after there_after)).1 in
      struct_of face (cells e) (cells d) n t
      (every_moved (IsThere face (cells e)) (cells_items d)
      (every_moved (IsThere face (cells e)) (back o.before) (slot_there x slot, k))) h

  turned : (y : Item) → FitsHere face (cells d) y → Fits face (cells e) y
  turned (IsCell c s ds) h = tt
  turned (HasSlot c z) h =
      λ t k.
      (let w : h.0 ≡ t = one_struct c h.0 t (cells e) apart (struct_kept c h.0 h.1) k in
      subst (λ (s : ℕ). SlotsFit face (cells e) s (z ∷ [])) w
      (slot_more face (cells d) (cells e) struct_kept h.0 z h.2))

  -- the slot that is opened fits its cell
  pub edge_fits : Every (λ c. SlotsFit face (cells d) c.shape c.slots) (cells d) → FitsHere face (cells d) x
  edge_fits h =
      (every_moved (FitsHere face (cells d)) o.before
      (every_moved (FitsHere face (cells d)) (back (cells_items d))
      (fits_here face (cells d) (cells d) (λ n t k. k) h))).0

  -- where the slots of all cells fit before, and those that are gained fit, they fit after
  pub opened_fits : Every (λ c. SlotsFit face (cells d) c.shape c.slots) (cells d)
      → Every (Fits face (cells e)) o.gained
      → Every (λ c. SlotsFit face (cells e) c.shape c.slots) (cells e)
  opened_fits h g =
      let a : Every (FitsHere face (cells d)) (items d) =
      every_moved (FitsHere face (cells d)) (back (cells_items d))
      (fits_here face (cells d) (cells d) (λ n t k. k) h) in
      let b : Every (FitsHere face (cells d)) (x ∷ o.others) =
      every_moved (FitsHere face (cells d)) o.before a in
      let c : Every (Fits face (cells e)) o.others =
      every_weaker (FitsHere face (cells d)) (Fits face (cells e)) o.others turned b.1 in
      cells_fit face (cells e) (cells e) (λ n t k. k)
      (every_moved (Fits face (cells e)) (cells_items e)
      (every_moved (Fits face (cells e)) (back o.after)
      (every_append (Fits face (cells e)) o.gained o.others g c)))

-- The cells of a dressed forest of a filled one.

module _ (t : Boxes) (table : IsBoxTable t) (F : Forest) (filled : IsFilled t.face F) (d : Nodes)
    (of : OfForest t.defs F d) (apart : IsDistinct (map cell_number (cells d))) where
  abbrev shown : Face
  shown = record { shapes = t.face.shapes; boxes = faces_of t.defs }

  pub filled_cells : Every (IsFilledCell shown (cells d)) (cells d)
  filled_cells =
      let here : IsFilled shown F =
      subst (λ (bs : List BoxFace). IsFilled (record { shapes = t.face.shapes; boxes = bs }) F) table.faces filled in
      let k = here.trees (bares d) (choice_of t.defs F.autos d of) in
      cells_filled shown d
      (apart_by shown.boxes d (subst IsDistinct (forest_numbers (roots_of d) d) apart))
      (subst (λ (z : List ℕ). TreesFilled shown (bares d) z 0 (bares d)) (tops_structs d k.tops k.are) k.cells)

-- The fields.

module _ (t : Boxes) (table : IsBoxTable t) (F : Forest) (filled : IsFilled t.face F) (x : Item) (d e : Nodes)
    (of : OfForest t.defs F d) (autos : List Automaton) (trees : TreesOf t.defs autos e) (o : Opens x d e)
    (slot : IsSlotItem x) (apart : IsDistinct (map cell_number (cells e))) where
  abbrev pub face : Face
  face = record { shapes = t.face.shapes; boxes = faces_of t.defs }

  -- the cells before
  pub cells_before : Every (IsFilledCell face (cells d)) (cells d)
  cells_before = filled_cells t table F filled d of (apart_before x d e o slot apart)

  pub edge_before : FitsHere face (cells d) x
  edge_before = edge_fits face x d e o slot apart
      (every_weaker (IsFilledCell face (cells d)) (λ c. SlotsFit face (cells d) c.shape c.slots) (cells d)
      (λ c h. h.slots) cells_before)

  pub fits_after : Every (Fits face (cells e)) o.gained → Every (λ c. SlotsFit face (cells e) c.shape c.slots) (cells e)
  fits_after g = opened_fits face x d e o slot apart
      (every_weaker (IsFilledCell face (cells d)) (λ c. SlotsFit face (cells d) c.shape c.slots) (cells d)
      (λ c h. h.slots) cells_before) g

  -- each field of each cell is given once
  pub once_after : Every (Fits face (cells e)) o.gained → (c : SeenCell) → IsIn c (cells e)
      → Rearranged (fields_of t.face.shapes.structs c.shape)
      (flat_map (covers face.boxes) (slots_seen c.slots) ++ gives_to face.boxes c.cell (cells e))
  once_after g c i = alike (fields_of t.face.shapes.structs c.shape)
      (flat_map (covers face.boxes) (slots_seen c.slots) ++ gives_to face.boxes c.cell (cells e)) same
    where
      same : (f : ℕ) → often f (fields_of t.face.shapes.structs c.shape)
          ≡ often f (flat_map (covers face.boxes) (slots_seen c.slots) ++ gives_to face.boxes c.cell (cells e))
      same f =
          let gives = table_gives t.face.shapes c.cell f t.defs table.sound in
          let hs = t.face.shapes.structs in
          let r = cells_items e in
          let m : Rearranged (facts e) (flat_map opened (flat_map cell_items (cells e))) =
          subst (λ (z : List Fact). Rearranged z (flat_map opened (flat_map cell_items (cells e))))
          (sym (facts_opened e))
          (flat_mapped opened r) in
          let k : given_n hs c.cell f (facts d) ≡ owed_n hs c.cell f (facts d) =
          sym (often_same f (fields_full t table F filled d of c.cell)) in
          let a = given_moved hs c.cell f (opens_facts x d e o) in
          let b = owed_moved hs c.cell f (opens_facts x d e o) in
          count_once face t.defs c.cell f (λ n. (gives n).0) (λ n. (gives n).1) (cells e) (cells e) (fits_after g)
          (forest_insides t.defs (roots_of e) autos e trees)
          (sym (given_moved hs c.cell f m) ∙ sym a ∙ k ∙ b ∙ owed_moved hs c.cell f m) apart c i refl
