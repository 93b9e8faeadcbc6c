-- A box edge that opens into the cells of a filled forest: where it fits its cell, and the slots of the forest with the
-- edge end at cells of that forest, they fit, and give each field of each cell once.
use Rattle.std.proofs.Common.{◌≡◌, inl, inr, ℕ, List, [], ◌∷◌, ◌++◌, map, flat_map, refl, sym, subst, ◌∙◌}
use Rattle.fore_base.specs.Lists.{IsIn, Every, IsDistinct}
use Rattle.fore_base.specs.declared.store.Value.{Value}
use Rattle.fore_base.specs.declared.store.Value.TheVariants.{Null as NullValue, Uninit as UninitValue}
use Rattle.fore_base.specs.declared.store.Value.TheVariants.{Dangling as DanglingValue, Cell}
use Rattle.fore_base.proofs.ListLemmas.{every_parts, every_weaker}
use Rattle.fa_core.specs.declared.faces.Face.{Face}
use Rattle.fa_core.specs.declared.forest.Forest.{Forest}
use Rattle.fa_core.specs.Boxes.{Boxes, IsBoxTable, faces_of}
use Rattle.fa_core.specs.Choices.{all_numbers, count}
use Rattle.fa_core.specs.Dressed.{Nodes, Seen, SeenField, SeenLink, SeenHook, SeenCell, Fact, all_refs, cells, facts}
use Rattle.fa_core.specs.Dressed.{roots_of}
use Rattle.fa_core.specs.Filled.{IsFilled, covers, fields_of}
use Rattle.fa_core.specs.Member.{OfForest}
use Rattle.fa_core.specs.Rearranged.{Rearranged, often}
use Rattle.fa_core.specs.References.{AllBelow}
use Rattle.fa_core.proofs.Counts.{often_same}
use Rattle.fa_core.proofs.FilledKept.{forest_numbers}
use Rattle.fa_core.proofs.Given.{gives_to}
use Rattle.fa_core.proofs.Rearranging.{back, flat_mapped, every_moved}
use Rattle.fa_core.proofs.SeenCells.{HasStruct, NamesOne, PointsTo, SlotsFit, IsFilledCell, one_struct, cell_number}
use Rattle.fa_core.proofs.SeenCells.{slots_seen}
use Rattle.fa_facts.proofs.Alike.{alike}
use Rattle.fa_facts.proofs.BoxFields.{table_gives}
use Rattle.fa_facts.proofs.FactCounts.{given_n, owed_n}
use Rattle.fa_facts.proofs.FullFacts.{fields_full}
use Rattle.fa_unfold.specs.Opens.{Item, IsCell, HasSlot, items, opened, Opens}
use Rattle.fa_unfold.proofs.OpenedFits.{Fits, FitsHere, IsSlotItem, apart_before, cells_fit, fits_here, filled_cells}
use Rattle.fa_unfold.proofs.OpenedFits.{struct_kept}
use Rattle.fa_unfold.proofs.OpenedOnce.{CellInside, given_moved, owed_moved, count_once}
use Rattle.fa_unfold.proofs.Opening.{facts_opened, opens_facts}
use Rattle.fa_unfold.proofs.UnfoldedMembers.{cell_items, cells_items}
use Rattle.fa_folding.proofs.ClosedItems.{ItemIn, SeenIn, ValueIn, items_closed}

-- a cell whose number is there has a struct
pub struct_of_number : (n : ℕ) (xs : List SeenCell) → IsIn n (map cell_number xs) → (t : ℕ) × HasStruct xs n t
struct_of_number n [] i = absurd i
struct_of_number n (x ∷ xs) (inl e) = (x.shape, inl (sym e, refl))
struct_of_number n (x ∷ xs) (inr i) = let w = struct_of_number n xs i in (w.0, inr w.1)

-- Slots among fewer cells.

module _ (face : Face) (xs ys : List SeenCell) (ns : List ℕ)
    (fewer : (n t : ℕ) → IsIn n ns → HasStruct xs n t → HasStruct ys n t) where
  points_fewer : (t : ℕ) (v : Value) → ValueIn ns v → PointsTo xs t v → PointsTo ys t v
  points_fewer t NullValue i w = tt
  points_fewer t UninitValue i w = tt
  points_fewer t DanglingValue i w = tt
  points_fewer t (Cell n) i w = fewer n t i w

  names_fewer : (t : ℕ) (v : Value) → ValueIn ns v → NamesOne xs t v → NamesOne ys t v
  names_fewer t NullValue i w = w
  names_fewer t UninitValue i w = w
  names_fewer t DanglingValue i w = w
  names_fewer t (Cell n) i w = fewer n t i w

  slot_fewer : (s : ℕ) (x : Seen) → SeenIn ns x → SlotsFit face xs s (x ∷ []) → SlotsFit face ys s (x ∷ [])
  slot_fewer s (SeenField f v) i w = ((w.0.0, w.0.1, points_fewer w.0.0 v i w.0.2), tt)
  slot_fewer s (SeenLink b k v) i w = (
    (w.0.0, w.0.1, w.0.2, w.0.3, w.0.4, elim w.0.5 [ inl h ↦ inl (names_fewer w.0.1 v i h) | inr h ↦ inr h ]),
    tt,
  )
  slot_fewer s (SeenHook b k) i w = (w.0, tt)

-- e has the edge x, which opens into items of d
module _ (t : Boxes) (table : IsBoxTable t) (F : Forest) (filled : IsFilled t.face F) (x : Item) (e d : Nodes)
    (of : OfForest t.defs F d) (o : Opens x e d) (slot : IsSlotItem x) (apart : IsDistinct (map cell_number (cells d)))
    (below : AllBelow (count e) (all_refs e)) where
  abbrev pub face : Face
  face = record { shapes = t.face.shapes; boxes = faces_of t.defs }

  -- the cells of d
  pub cells_opened : Every (IsFilledCell face (cells d)) (cells d)
  cells_opened = filled_cells t table F filled d of apart

  abbrev numbers_here : List ℕ
  numbers_here = all_numbers e

  pub apart_here : IsDistinct (map cell_number (cells e))
  apart_here = apart_before x e d o slot apart

  -- a cell of d that is one of e has its struct there
  pub struct_back : (n s : ℕ) → IsIn n numbers_here → HasStruct (cells d) n s → HasStruct (cells e) n s
  struct_back n s i h =
      let w = struct_of_number n (cells e)
      (subst (λ (z : List ℕ). IsIn n z) (sym (forest_numbers (roots_of e) e)) i) in
      let q : w.0 ≡ s = one_struct n w.0 s (cells d) apart (struct_kept face x e d o slot apart n w.0 w.1) h in
      subst (λ (z : ℕ). HasStruct (cells e) n z) q w.1

  turned : (y : Item) → ItemIn numbers_here y → FitsHere face (cells d) y → Fits face (cells e) y
  turned (IsCell c s ds) i h = tt
  turned (HasSlot c z) i h =
      λ u k.
      (let w : h.0 ≡ u = one_struct c h.0 u (cells d) apart h.1 (struct_kept face x e d o slot apart c u k) in
      subst (λ (s : ℕ). SlotsFit face (cells e) s (z ∷ [])) w
      (slot_fewer face (cells d) (cells e) numbers_here struct_back h.0 z i.1 h.2))

  each_turned : (ys : List Item) → Every (ItemIn numbers_here) ys → Every (FitsHere face (cells d)) ys
      → Every (Fits face (cells e)) ys
  each_turned [] i h = tt
  each_turned (y ∷ ys) i h = (turned y i.0 h.0, each_turned ys i.1 h.1)

  module _ (edge : Fits face (cells e) x) where
    -- the slots of all cells of e fit
    pub fits_here_all : Every (λ c. SlotsFit face (cells e) c.shape c.slots) (cells e)
    fits_here_all =
        let a : Every (FitsHere face (cells d)) (items d) =
        every_moved (FitsHere face (cells d)) (back (cells_items d))
        (fits_here face (cells d) (cells d) (λ n s k. k)
        (every_weaker (IsFilledCell face (cells d)) (λ c. SlotsFit face (cells d) c.shape c.slots) (cells d)
        (λ c h. h.slots) cells_opened)) in
        let b = (every_parts (FitsHere face (cells d)) o.gained o.others
        (every_moved (FitsHere face (cells d)) o.after a)).1 in
        let i : Every (ItemIn numbers_here) (x ∷ o.others) =
        every_moved (ItemIn numbers_here) o.before (items_closed e below) in
        cells_fit face (cells e) (cells e) (λ n s k. k)
        (every_moved (Fits face (cells e)) (cells_items e)
        (every_moved (Fits face (cells e)) (back o.before) (edge, each_turned o.others i.1 b)))

    -- each field of each cell is given once
    pub once_here : Every (CellInside t.defs) (cells e) → (c : SeenCell) → IsIn c (cells e)
        → Rearranged (fields_of t.face.shapes.structs c.shape)
        (flat_map (covers face.boxes) (slots_seen c.slots) ++ gives_to face.boxes c.cell (cells e))
    once_here insides c i = alike (fields_of t.face.shapes.structs c.shape)
        (flat_map (covers face.boxes) (slots_seen c.slots) ++ gives_to face.boxes c.cell (cells e)) same
      where
        same : (f : ℕ) → often f (fields_of t.face.shapes.structs c.shape)
            ≡ often f (flat_map (covers face.boxes) (slots_seen c.slots) ++ gives_to face.boxes c.cell (cells e))
        same f =
            let gives = table_gives t.face.shapes c.cell f t.defs table.sound in
            let hs = t.face.shapes.structs in
            let m : Rearranged (facts e) (flat_map opened (flat_map cell_items (cells e))) =
            subst (λ (z : List Fact). Rearranged z (flat_map opened (flat_map cell_items (cells e))))
            (sym (facts_opened e)) (flat_mapped opened (cells_items e)) in
            let k : given_n hs c.cell f (facts d) ≡ owed_n hs c.cell f (facts d) =
            sym (often_same f (fields_full t table F filled d of c.cell)) in
            let a = given_moved hs c.cell f (opens_facts x e d o) in
            let b = owed_moved hs c.cell f (opens_facts x e d o) in
            count_once face t.defs c.cell f (λ n. (gives n).0) (λ n. (gives n).1) (cells e) (cells e) fits_here_all
            insides
            (sym (given_moved hs c.cell f m) ∙ a ∙ k ∙ sym b ∙ owed_moved hs c.cell f m) apart_here c i refl
