-- What it means for one cell of a dressed forest to be filled, told by the cells alone and not by their trees.
use Rattle.std.proofs.Common.{◌≡◌, ◌⊎◌, inl, inr, ℕ, zero, suc, ◌<◌, List, [], ◌∷◌, ◌++◌, map, flat_map, Some, None}
use Rattle.std.proofs.Common.{slice_get, refl, sym, ap, ap₂, ◌∙◌, not-suc-le-zero, le_of_suc-le-suc}
use Rattle.std.proofs.lemmas.Option.{none-some, same_Some}
use Rattle.fore_base.specs.Lists.{IsIn, IsDistinct}
use Rattle.fore_base.specs.declared.store.Value.{Value}
use Rattle.fore_base.specs.declared.store.Value.TheVariants.{Null as NullValue, Uninit as UninitValue}
use Rattle.fore_base.specs.declared.store.Value.TheVariants.{Dangling as DanglingValue, Cell}
use Rattle.ta_core.specs.declared.symbol.Slot.{Slot}
use Rattle.ta_core.specs.declared.symbol.Slot.TheVariants.{Field, Link, Hook}
use Rattle.ta_core.specs.declared.symbol.Symbol.{Symbol}
use Rattle.ta_core.specs.declared.symbol.Symbol.TheVariants.{Null as NullSymbol, Uninit as UninitSymbol}
use Rattle.ta_core.specs.declared.symbol.Symbol.TheVariants.{Dangling as DanglingSymbol, Ref, Cell as CellSymbol}
use Rattle.fa_core.specs.declared.faces.BoxFace.{BoxFace}
use Rattle.fa_core.specs.declared.faces.Face.{Face}
use Rattle.fa_core.specs.Choices.{bares, count}
use Rattle.fa_core.specs.Dressed.{Parts, Nodes, node, no_parts, field, link, hook, no_nodes, more, nth_value, roots_of}
use Rattle.fa_core.specs.Dressed.{Seen, SeenField, SeenLink, SeenHook, SeenCell, seen, tree_cells, forest_cells}
use Rattle.fa_core.specs.Filled.{TopsAre, target_of, face_of, fields_of, covers, IsInOrder}
use Rattle.fa_core.specs.Member.{slots_of}
use Rattle.fa_core.specs.Rearranged.{Rearranged, empty, keep, swap, chain}
use Rattle.fa_core.proofs.Dressing.{cell_top}
use Rattle.fa_core.proofs.Given.{gives_to, gives_moved}
use Rattle.fa_core.proofs.Rearranging.{after}

-- cell n is there, of struct t
abbrev pub HasStruct : List SeenCell → ℕ → ℕ → Type 0
HasStruct [] n t = ⊥
HasStruct (x ∷ xs) n t = ((x.cell ≡ n) × (x.shape ≡ t)) ⊎ HasStruct xs n t

-- the value names a cell of struct t
abbrev pub NamesOne : List SeenCell → ℕ → Value → Type 0
NamesOne all t NullValue = ⊥
NamesOne all t UninitValue = ⊥
NamesOne all t DanglingValue = ⊥
NamesOne all t (Cell n) = HasStruct all n t

-- a value that names a cell names one of struct t
abbrev pub PointsTo : List SeenCell → ℕ → Value → Type 0
PointsTo all t NullValue = Unit {0}
PointsTo all t UninitValue = Unit {0}
PointsTo all t DanglingValue = Unit {0}
PointsTo all t (Cell n) = HasStruct all n t

-- each slot is one that a cell of struct s may have, and the value at its end is one that it may have
abbrev pub SlotsFit : Face → List SeenCell → ℕ → List Seen → Type 0
SlotsFit face all s [] = Unit {0}
SlotsFit face all s (SeenField f v ∷ xs) = ((t : ℕ) × (target_of face.shapes.structs s f ≡ Some t) × PointsTo all t v)
    × SlotsFit face all s xs
SlotsFit face all s (SeenLink b inside v ∷ xs) =
    ((x : BoxFace) × (t : ℕ) × (face_of face.boxes b ≡ Some x) × (x.input ≡ s) × (x.output ≡ Some t)
    × (NamesOne all t v ⊎ ((v ≡ DanglingValue) × (x.gives_out ≡ [])))) × SlotsFit face all s xs
SlotsFit face all s (SeenHook b inside ∷ xs) =
    ((x : BoxFace) × (face_of face.boxes b ≡ Some x) × (x.input ≡ s) × (x.output ≡ None)) × SlotsFit face all s xs

-- the slots as symbols have them
abbrev pub slots_seen : List Seen → List Slot
slots_seen [] = []
slots_seen (SeenField f v ∷ xs) = Field f ∷ slots_seen xs
slots_seen (SeenLink b inside v ∷ xs) = Link b ∷ slots_seen xs
slots_seen (SeenHook b inside ∷ xs) = Hook b ∷ slots_seen xs

-- the cell is filled, among all cells
pub record IsFilledCell (face : Face) (all : List SeenCell) (x : SeenCell) : Type 0 where
  pub slots : SlotsFit face all x.shape x.slots
  pub order : IsInOrder face.boxes (slots_seen x.slots)
  pub once : Rearranged (fields_of face.shapes.structs x.shape)
      (flat_map (covers face.boxes) (slots_seen x.slots) ++ gives_to face.boxes x.cell all)

-- Structs of cells.

pub struct_moved : (n t : ℕ) {xs ys : List SeenCell} → Rearranged xs ys → HasStruct xs n t → HasStruct ys n t
struct_moved n t empty h = h
struct_moved n t (keep x r) (inl e) = inl e
struct_moved n t (keep x r) (inr h) = inr (struct_moved n t r h)
struct_moved n t (swap x y xs) (inl e) = inr (inl e)
struct_moved n t (swap x y xs) (inr (inl e)) = inl e
struct_moved n t (swap x y xs) (inr (inr h)) = inr (inr h)
struct_moved n t (chain a b) h = struct_moved n t b (struct_moved n t a h)

pub struct_left : (n t : ℕ) (xs ys : List SeenCell) → HasStruct xs n t → HasStruct (xs ++ ys) n t
struct_left n t [] ys h = absurd h
struct_left n t (x ∷ xs) ys (inl e) = inl e
struct_left n t (x ∷ xs) ys (inr h) = inr (struct_left n t xs ys h)

pub struct_right : (n t : ℕ) (xs ys : List SeenCell) → HasStruct ys n t → HasStruct (xs ++ ys) n t
struct_right n t [] ys h = h
struct_right n t (x ∷ xs) ys h = inr (struct_right n t xs ys h)

abbrev pub cell_number : SeenCell → ℕ
cell_number x = x.cell

struct_in : (n t : ℕ) (xs : List SeenCell) → HasStruct xs n t → IsIn n (map cell_number xs)
struct_in n t [] h = absurd h
struct_in n t (x ∷ xs) (inl e) = inl (sym e.0)
struct_in n t (x ∷ xs) (inr h) = inr (struct_in n t xs h)

-- where no two cells have one number, a cell has one struct
pub one_struct : (n s t : ℕ) (xs : List SeenCell) → IsDistinct (map cell_number xs) → HasStruct xs n s
    → HasStruct xs n t → s ≡ t
one_struct n s t [] a h k = absurd h
one_struct n s t (x ∷ xs) a (inl e) (inl g) = sym e.1 ∙ g.1
one_struct n s t (x ∷ xs) a (inl e) (inr k) = absurd (a.0 (rw (sym e.0) at (struct_in n t xs k)))
one_struct n s t (x ∷ xs) a (inr h) (inl g) = absurd (a.0 (rw (sym g.0) at (struct_in n s xs h)))
one_struct n s t (x ∷ xs) a (inr h) (inr k) = one_struct n s t xs a.1 h k

-- a cell that is filled among some cells is filled among the same in another order
pub filled_moved : (face : Face) {xs ys : List SeenCell} → Rearranged xs ys → (x : SeenCell) → IsFilledCell face xs x
    → IsFilledCell face ys x
filled_moved face {xs} {ys} r x h =
    record {
      slots = slots x.slots h.slots;
      order = h.order;
      once = chain h.once (after (flat_map (covers face.boxes) (slots_seen x.slots)) (gives_moved face.boxes x.cell r));
    }
  where
    points : (t : ℕ) (v : Value) → PointsTo xs t v → PointsTo ys t v
    points t NullValue w = tt
    points t UninitValue w = tt
    points t DanglingValue w = tt
    points t (Cell n) w = struct_moved n t r w

    names : (t : ℕ) (v : Value) → NamesOne xs t v → NamesOne ys t v
    names t NullValue w = w
    names t UninitValue w = w
    names t DanglingValue w = w
    names t (Cell n) w = struct_moved n t r w

    slots : (zs : List Seen) → SlotsFit face xs x.shape zs → SlotsFit face ys x.shape zs
    slots [] w = tt
    slots (SeenField f v ∷ zs) w = ((w.0.0, w.0.1, points w.0.0 v w.0.2), slots zs w.1)
    slots (SeenLink b inside v ∷ zs) w = (
      (w.0.0, w.0.1, w.0.2, w.0.3, w.0.4, elim w.0.5 [ inl k ↦ inl (names w.0.1 v k) | inr k ↦ inr k ]),
      slots zs w.1,
    )
    slots (SeenHook b inside ∷ zs) w = (w.0, slots zs w.1)

-- Dressed forests.

pub slots_seen_are : (vs : List Value) (ps : Parts) → slots_seen (seen vs ps) ≡ slots_of ps
slots_seen_are vs no_parts = refl
slots_seen_are vs (field f e ps) = ap (λ (z : List Slot). Field f ∷ z) (slots_seen_are vs ps)
slots_seen_are vs (link b inside e ps) = ap (λ (z : List Slot). Link b ∷ z) (slots_seen_are vs ps)
slots_seen_are vs (hook b inside ps) = ap (λ (z : List Slot). Hook b ∷ z) (slots_seen_are vs ps)

-- the structs of the tops
abbrev pub node_structs : Nodes → List ℕ
node_structs no_nodes = []
node_structs (more (node c s ds ps) ns) = s ∷ node_structs ns

abbrev symbol_struct : Symbol → ℕ
symbol_struct NullSymbol = 0
symbol_struct UninitSymbol = 0
symbol_struct DanglingSymbol = 0
symbol_struct (Ref k) = 0
symbol_struct (CellSymbol s ds ss) = s

pub tops_structs : (d : Nodes) (tops : List ℕ) → TopsAre (bares d) tops → tops ≡ node_structs d
tops_structs no_nodes [] h = refl
tops_structs no_nodes (s ∷ tops) h = absurd h
tops_structs (more n ns) [] h = absurd h
tops_structs (more (node c s ds ps) ns) (t ∷ tops) h =
    ap₂ (λ (x : ℕ) (y : List ℕ). x ∷ y) (sym (ap symbol_struct (sym (cell_top c s ds ps) ∙ h.0.2)))
    (tops_structs ns tops h.1)

pub structs_tops : (d : Nodes) → TopsAre (bares d) (node_structs d)
structs_tops no_nodes = tt
structs_tops (more (node c s ds ps) ns) = ((ds, slots_of ps, cell_top c s ds ps), structs_tops ns)

-- a root whose struct is known is a cell of that struct
pub root_names : (ws : List Value) (d : Nodes) (r t : ℕ) → slice_get (node_structs d) r ≡ Some t
    → NamesOne (forest_cells ws d) t (nth_value (roots_of d) r)
root_names ws no_nodes r t e = absurd (none-some t e)
root_names ws (more (node c s ds ps) ns) zero t e = inl (refl, same_Some s t e)
root_names ws (more (node c s ds ps) ns) (suc r) t e = wide (nth_value (roots_of ns) r) (root_names ws ns r t e)
  where
    wide : (v : Value) → NamesOne (forest_cells ws ns) t v
        → NamesOne (tree_cells ws (node c s ds ps) ++ forest_cells ws ns) t v
    wide NullValue h = h
    wide UninitValue h = h
    wide DanglingValue h = h
    wide (Cell n) h = struct_right n t (tree_cells ws (node c s ds ps)) (forest_cells ws ns) h

-- a root that is there has a struct and a cell
pub record RootCell (ws : List Value) (d : Nodes) (r : ℕ) : Type 0 where
  pub struct : ℕ
  pub cell : ℕ
  pub top : slice_get (node_structs d) r ≡ Some struct
  pub value : nth_value (roots_of d) r ≡ Cell cell
  pub has : HasStruct (forest_cells ws d) cell struct

pub root_cell : (ws : List Value) (d : Nodes) (r : ℕ) → r < count d → RootCell ws d r
root_cell ws no_nodes r l = absurd (not-suc-le-zero l)
root_cell ws (more (node c s ds ps) ns) zero l =
    record { struct = s; cell = c; top = refl; value = refl; has = inl (refl, refl) }
root_cell ws (more (node c s ds ps) ns) (suc r) l =
    let k = root_cell ws ns r (le_of_suc-le-suc l) in
    record {
      struct = k.struct;
      cell = k.cell;
      top = k.top;
      value = k.value;
      has = struct_right k.cell k.struct (tree_cells ws (node c s ds ps)) (forest_cells ws ns) k.has;
    }
