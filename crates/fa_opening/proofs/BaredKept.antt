-- A field that no box edge covers or gives to a root's cell stays so where box edges for other fields are opened.
use Rattle.std.proofs.Common.{◌≡◌, inl, inr, ℕ, zero, suc, ◌+◌, ◌<◌, Bool, true, false, nat_eq, if◌then◌else◌, length}
use Rattle.std.proofs.Common.{List, [], ◌∷◌, flat_map, refl, sym, ap, subst, ◌∙◌, Option, Some, None}
use Rattle.std.proofs.Common.{slice_get, arith}
use Rattle.std.proofs.lemmas.Bool.{eqb-true}
use Rattle.std.proofs.lemmas.Option.{none-some}
use Rattle.fore_base.specs.Lists.{IsIn, Every, IsDistinct}
use Rattle.fore_base.specs.Shapes.{targets_of}
use Rattle.fore_base.specs.declared.store.Datum.{Datum}
use Rattle.fore_base.specs.declared.store.Value.{Value}
use Rattle.fore_base.specs.declared.store.Value.TheVariants.{Null, Uninit, Dangling, Cell}
use Rattle.fore_base.proofs.ListLemmas.{in_append, in_mapped}
use Rattle.ta_core.specs.Single.{HasOneTop}
use Rattle.ta_core.specs.declared.symbol.Slot.{Slot}
use Rattle.ta_core.specs.declared.symbol.Slot.TheVariants.{Field, Link, Hook}
use Rattle.ta_core.specs.declared.symbol.Symbol.{Symbol}
use Rattle.fa_core.specs.declared.boxes.BoxDef.{BoxDef}
use Rattle.fa_core.specs.declared.faces.BoxFace.{BoxFace}
use Rattle.fa_core.specs.declared.forest.Forest.{Forest}
use Rattle.fa_core.specs.declared.forest.Target.TheVariants.{At}
use Rattle.fa_core.specs.Boxes.{Boxes}
use Rattle.fa_core.specs.Choices.{all_numbers}
use Rattle.fa_core.specs.Dressed.{Node, Parts, End, Nodes, node, no_parts, field, link, hook, nth_value, roots_of}
use Rattle.fa_core.specs.Dressed.{SeenField, SeenCell, cells, end_value}
use Rattle.fa_core.specs.Filled.{fields_of, numbered, target_of}
use Rattle.fa_core.specs.Member.{OfForest, slots_of}
use Rattle.fa_core.proofs.Permuted.{in_rearranged}
use Rattle.fa_core.proofs.SeenCells.{IsFilledCell}
use Rattle.fa_back.specs.Reached.{node_at}
use Rattle.fa_sound.specs.Components.{component_at}
use Rattle.fa_split.proofs.OtherComponent.{tree_at}
use Rattle.fa_edit.specs.Fits.{symbol_shape}
use Rattle.fa_edit.specs.Plain.{StructLacks, field_place_from, place_at}
use Rattle.fa_unfold.specs.Opens.{Item, IsCell, HasSlot, items}
use Rattle.fa_unfold.specs.Parts.{FieldPart, listed}
use Rattle.fa_unfold.specs.Sites.{IsOver}
use Rattle.fa_unfold.specs.UnfoldingOf.{root_slots}
use Rattle.fa_unfold.proofs.UnfoldedMembers.{cell_items, cells_items}
use Rattle.fa_opening.specs.Opened.{IsBared, IsEdgeFor, IsEdgeForRoot, OpensFrom}
use Rattle.fa_opening.specs.inner.Rounds.{AreBelow}
use Rattle.fa_opening.proofs.BaredFields.{bared_lacks}
use Rattle.fa_opening.proofs.BaredRoots.{bared, slot_among, tree_among}
use Rattle.fa_opening.proofs.OneEdge.{edge_field, field_alone, filled_cells}
use Rattle.fa_opening.proofs.OpenedForests.{same_root}
use Rattle.fa_opening.proofs.SlotEdges.{root_is, top_slots, top_symbol}

abbrev cell_of : Value → ℕ
cell_of Null = 0
cell_of Uninit = 0
cell_of Dangling = 0
cell_of (Cell n) = n

-- a field with a place is a slot
place_in : (f k p : ℕ) (ss : List Slot) → field_place_from k f ss ≡ Some p → IsIn (Field f) ss
place_in f k p [] e = absurd (none-some p e)
place_in f k p (Field g ∷ ss) e = here (nat_eq g f) refl e (λ w. place_in f (suc k) p ss w)
  where
    here : (b : Bool) → nat_eq g f ≡ b → (if b then Some k else field_place_from (suc k) f ss) ≡ Some p
        → (field_place_from (suc k) f ss ≡ Some p → IsIn (Field f) ss) → IsIn (Field f) (Field g ∷ ss)
    here true q w later = inl (sym (ap Field (eqb-true g f q)))
    here false q w later = inr (later w)
place_in f k p (Link b ∷ ss) e = inr (place_in f (suc k) p ss e)
place_in f k p (Hook b ∷ ss) e = inr (place_in f k p ss e)

abbrev IsFieldOf : ℕ → Slot → Type 0
IsFieldOf f (Field g) = g ≡ f
IsFieldOf f (Link b) = ⊥
IsFieldOf f (Hook b) = ⊥

-- the slot of a field of a cell
field_part : (f : ℕ) (ps : Parts) → IsIn (Field f) (slots_of ps) → (p : ℕ) × (e : End)
    × (slice_get (listed ps) p ≡ Some (FieldPart f e))
field_part f no_parts i = absurd i
field_part f (field g e ps) (inl w) =
    (0, e, ap (λ (n : ℕ). Some (FieldPart n e)) (subst (IsFieldOf f) w refl))
field_part f (field g e ps) (inr i) = let k = field_part f ps i in (suc k.0, k.1, k.2)
field_part f (link b s e ps) (inl w) = absurd (subst (IsFieldOf f) w refl)
field_part f (link b s e ps) (inr i) = let k = field_part f ps i in (suc k.0, k.1, k.2)
field_part f (hook b s ps) (inl w) = absurd (subst (IsFieldOf f) w refl)
field_part f (hook b s ps) (inr i) = let k = field_part f ps i in (suc k.0, k.1, k.2)

-- a number among those of the fields is a field
numbered_got : (k i : ℕ) (ts : List ℕ) → IsIn (k + i) (numbered k ts) → (t : ℕ) × (slice_get ts i ≡ Some t)
numbered_got k i [] h = absurd h
numbered_got k zero (t ∷ ts) h = (t, refl)
numbered_got k (suc i) (t ∷ ts) (inl e) = absurd (omega (arith, e))
numbered_got k (suc i) (t ∷ ts) (inr h) =
    let n : k + suc i ≡ suc k + i = omega arith in
    numbered_got (suc k) i ts (subst (λ (m : ℕ). IsIn m (numbered (suc k) ts)) n h)

-- Items of cells.

abbrev IsCellItem : Item → Type 0
IsCellItem (IsCell c s ds) = Unit {0}
IsCellItem (HasSlot c x) = ⊥

abbrev item_cell : Item → ℕ
item_cell (IsCell c s ds) = c
item_cell (HasSlot c x) = 0

abbrev item_shape : Item → ℕ
item_shape (IsCell c s ds) = s
item_shape (HasSlot c x) = 0

abbrev HasCell : ℕ → ℕ → List SeenCell → Type 0
HasCell c s xs = (x : SeenCell) × IsIn x xs × (x.cell ≡ c) × (x.shape ≡ s)

cell_among : (c s : ℕ) (ds : List Datum) (xs : List SeenCell) → IsIn (IsCell c s ds) (flat_map cell_items xs)
    → HasCell c s xs
cell_among c s ds [] i = absurd i
cell_among c s ds (x ∷ xs) i =
    elim (in_append (IsCell c s ds) (cell_items x) (flat_map cell_items xs) i) [
      | inl (inl e) ↦ (x, inl refl, sym (ap item_cell e), sym (ap item_shape e))
      | inl (inr j) ↦ (let k = in_mapped (HasSlot x.cell) (IsCell c s ds) x.slots j in
          absurd (subst IsCellItem k.2 tt))
      | inr j ↦ (let k = cell_among c s ds xs j in (k.0, inr k.1, k.2, k.3))
    ]

-- the cell of an item
cell_there : (d : Nodes) (c s : ℕ) (ds : List Datum) → IsIn (IsCell c s ds) (items d) → HasCell c s (cells d)
cell_there d c s ds i = cell_among c s ds (cells d) (in_rearranged (IsCell c s ds) (cells_items d) i)

module _ (t : Boxes) (F G : Forest) (over_F : IsOver t F) (over_G : IsOver t G) (r f : ℕ) (vars : G.vars ≡ F.vars)
    (target : IsIn (At r) F.vars) (is : IsBared t.face.boxes r f F) (P : ℕ → Type 0)
    (from : OpensFrom t.face.boxes t.defs r P F G) where
  abbrev bs : List BoxFace
  bs = t.face.boxes

  abbrev T : List BoxDef
  T = t.defs

  module _ (e : Nodes) (of : OfForest T G e) (apart : IsDistinct (all_numbers e)) (y : Item) (among : IsIn y (items e))
      (edge : IsEdgeForRoot bs r f e y) where
    abbrev d : Nodes
    d = (from e of).0

    abbrev of_d : OfForest T F d
    of_d = (from e of).1

    -- a cell and a field stay
    stays : (x : Item) → ((n g : ℕ) → IsEdgeFor bs n g x → ⊥) → IsIn x (items d) → IsIn x (items e)
    stays x none i = elim ((from e of).2.stays x i) [ inl j ↦ j | inr (g, p, (n, q, w)) ↦ absurd (none n g w) ]

    module _ (c s : ℕ) (ds : List Datum) (ps : Parts) (at : node_at d r ≡ Some (node c s ds ps)) where
      is_root : nth_value (roots_of e) r ≡ Cell c
      is_root = sym (same_root r F G d e vars target (from e of).2.vars) ∙ root_is d r c s ds ps at

      same_cell : edge.0 ≡ c
      same_cell = ap cell_of (sym edge.1 ∙ is_root)

      own_edge : IsEdgeFor bs c f y
      own_edge = subst (λ (n : ℕ). IsEdgeFor bs n f y) same_cell edge.2

      cell : HasCell c s (cells e)
      cell = cell_there e c s ds
          (stays (IsCell c s ds) (λ n g w. w)
          (tree_among (roots_of d) d r (node c s ds ps) at (IsCell c s ds) (inl refl)))

      filled : Every (IsFilledCell t.face (cells e)) (cells e)
      filled = filled_cells T t.face G e over_G.sound.well_formed.filled of apart

      is_slot : IsIn (Field f) (root_slots F r) → ⊥
      is_slot i =
          let k = field_part f ps
          (subst (λ (ss : List Slot). IsIn (Field f) ss) (top_slots T F d of_d r is.root is.top c s ds ps at) i) in
          let v = end_value (roots_of d) k.1 in
          let j = stays (HasSlot c (SeenField f v)) (λ n g w. elim w [ inl z ↦ z.1 | inr z ↦ z ])
          (slot_among (roots_of d) d r c s ds ps at k.0 (FieldPart f k.1) k.2) in
          field_alone bs c f t.face e refl apart filled cell.0 cell.1 cell.2 v j y among own_edge

      is_lacked : place_at F r f ≡ None → ⊥
      is_lacked none =
          let lacks : target_of t.face.shapes.structs s f ≡ None =
          subst (λ (x : Symbol). StructLacks t.face.shapes.structs (symbol_shape x) f)
          (top_symbol T F d of_d r is.root is.top c s ds ps at)
          (bared_lacks t.face F r over_F.sound is.root is.top f is none) in
          let i = edge_field bs c f t.face e refl apart filled cell.0 cell.1 cell.2 y among own_edge in
          let j : IsIn f (fields_of t.face.shapes.structs s) =
          subst (λ (z : ℕ). IsIn f (fields_of t.face.shapes.structs z)) cell.3 i in
          let n : f ≡ 0 + f = omega arith in
          let k = numbered_got 0 f (targets_of t.face.shapes.structs s)
          (subst (λ (m : ℕ). IsIn m (numbered 0 (targets_of t.face.shapes.structs s))) n j) in
          none-some k.0 (sym lacks ∙ k.1)

      none_here : ⊥
      none_here = here (place_at F r f) refl
        where
          here : (o : Option ℕ) → place_at F r f ≡ o → ⊥
          here None q = is_lacked q
          here (Some p) q = is_slot (place_in f 0 p (root_slots F r) q)

    none_at : (n : Node) → node_at d r ≡ Some n → ⊥
    none_at (node c s ds ps) at = none_here c s ds ps at

    none_there : ⊥
    none_there = let k = tree_at T F.autos r d is.root of_d in none_at k.0 k.1

  kept_below : AreBelow bs T r f G 0
  kept_below e of apart y i w = absurd (none_there e of apart y i w)

  pub bared_kept : r < length G.autos → HasOneTop (component_at G.autos r) → IsBared bs r f G
  bared_kept there top = bared t G over_G r f there top kept_below
