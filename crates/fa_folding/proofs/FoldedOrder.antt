-- The fold of a dressed forest over a table: its edge fits, and its slots stand in order.
use Rattle.std.proofs.Common.{filter, ◌≡◌, ◌≢◌, ◌<◌, inl, inr, ℕ, zero, suc, Bool, true, false, cond, nat_eq, not}
use Rattle.std.proofs.Common.{if◌then◌else◌, List, [], ◌∷◌, map, flat_map, refl, sym, ap, subst, ◌∙◌}
use Rattle.std.proofs.Common.{Option, Some, None, slice_get, arith}
use Rattle.std.proofs.lemmas.Option.{none-some, same_Some, slice_get_within}
use Rattle.fore_base.specs.Lists.{IsIn, IsDistinct}
use Rattle.fore_base.specs.Shapes.{targets_of}
use Rattle.fore_base.specs.declared.store.Datum.{Datum}
use Rattle.fore_base.specs.declared.store.Value.{Value}
use Rattle.fore_base.proofs.ListLemmas.{every_weaker, in_every, every_in, in_left, in_right}
use Rattle.ta_core.specs.declared.auto.Rule.{Rule}
use Rattle.ta_core.specs.declared.symbol.Slot.{Slot}
use Rattle.ta_core.specs.declared.symbol.Slot.TheVariants.{Field, Link, Hook}
use Rattle.ta_core.specs.declared.symbol.Symbol.{Symbol}
use Rattle.ta_core.specs.declared.symbol.Symbol.TheVariants.{Null as NullSymbol, Uninit as UninitSymbol}
use Rattle.ta_core.specs.declared.symbol.Symbol.TheVariants.{Dangling as DanglingSymbol, Ref, Cell as CellSymbol}
use Rattle.ta_core.specs.declared.tree.Tree.{out-Tree}
use Rattle.fa_core.specs.declared.boxes.BoxDef.{BoxDef}
use Rattle.fa_core.specs.declared.faces.BoxFace.{BoxFace}
use Rattle.fa_core.specs.declared.faces.Face.{Face}
use Rattle.fa_core.specs.declared.forest.Forest.{Forest}
use Rattle.fa_core.specs.Boxes.{Boxes, faces_of}
use Rattle.fa_core.specs.Choices.{all_numbers, bares, count, numbers}
use Rattle.fa_core.specs.Dressed.{Node, Parts, Nodes, node, no_parts, field, link, hook, no_nodes}
use Rattle.fa_core.specs.Dressed.{more, SeenCell, seen, cells, forest_cells, number, refs, roots_of}
use Rattle.fa_core.specs.Dressed.{tree_cells}
use Rattle.fa_core.specs.Filled.{HasField, IsInOrder, TreesFilled, covers, face_of, fields_in, gives_in_of, least}
use Rattle.fa_core.specs.Folding.{ArePortRoots, IsPart, IsPartWithin, IsPortRoot, Ports, PortsAre, is_one_of, taken_at}
use Rattle.fa_core.specs.Member.{OfForest, bare, slots_of}
use Rattle.fa_core.specs.Placed.{placed_parts}
use Rattle.fa_core.specs.Rearranged.{IsRising, RisesFrom}
use Rattle.fa_core.specs.Ways.{has}
use Rattle.fa_core.proofs.Dressing.{cell_top, numbered_distinct}
use Rattle.fa_core.proofs.FilledCells.{trees_filled}
use Rattle.fa_core.proofs.FilledKept.{apart_by, forest_numbers}
use Rattle.fa_core.proofs.Given.{gives_to}
use Rattle.fa_core.proofs.Permuted.{distinct_moved, distinct_parts}
use Rattle.fa_core.proofs.SeenCells.{HasStruct, IsFilledCell, SlotsFit, cell_number, node_structs, one_struct}
use Rattle.fa_core.proofs.SeenCells.{slots_seen, slots_seen_are, struct_right}
use Rattle.fa_split.proofs.TopRules.{top_is, tree_by_top}
use Rattle.fa_unfold.specs.Opens.{Item, Opens}
use Rattle.fa_unfold.specs.Sites.{IsOver}
use Rattle.fa_unfold.proofs.OpenedFits.{Fits, IsSlotItem, struct_kept}
use Rattle.fa_unfold.proofs.SlotsInOrder.{AllCover, CellOrdered, Ordered, PartsOrdered, TopsHave}
use Rattle.fa_unfold.proofs.SlotsInOrder.{cells_ordered, cover_listed, fields_apart, joined_cover, joined_ordered}
use Rattle.fa_unfold.proofs.SlotsInOrder.{ordered_cells, placed_ordered}
use Rattle.fa_unfold.proofs.TableBoxes.{IsBoxOf, box_of_table}
use Rattle.fa_folding.specs.Folded.{datums_of, each_node, left_parts, node_or, parts_of, shape_of}
use Rattle.fa_folding.proofs.FoldedFits.{apart_here, cells_opened, fits_here_all, once_here, struct_back}
use Rattle.fa_folding.proofs.FoldedTables.{e, edge, insides_folded, is_slot, kept_there, low, low_folded, opens}
use Rattle.fa_folding.proofs.FoldedTrees.{edge_item, edge_parts, folded_node, folded_parts, gained_parts, new}
use Rattle.fa_folding.proofs.Folding.{as_many, port_kept}
use Rattle.fa_folding.proofs.Insides.{inside_is, numbered_at, tree_there}
use Rattle.fa_merge.specs.Reordered.{counted}
use Rattle.fa_folding.proofs.Numbers.{counted_above, in_kept}
use Rattle.fa_folding.proofs.Lists.{every_filter}

abbrev pub symbol_struct : Symbol → ℕ
symbol_struct NullSymbol = 0
symbol_struct UninitSymbol = 0
symbol_struct DanglingSymbol = 0
symbol_struct (Ref k) = 0
symbol_struct (CellSymbol s ds ss) = s

node_shape : (m : Node) (s : ℕ) (ds : List Datum) (ss : List Slot) → (out-Tree (bare m)).symbol ≡ CellSymbol s ds ss
    → shape_of m ≡ s
node_shape (node c s ds ps) u es ss h = ap symbol_struct (sym (cell_top c s ds ps) ∙ h)

pub face_there : (T : List BoxDef) (n : ℕ) (def : BoxDef) → slice_get T n ≡ Some def
    → face_of (faces_of T) n ≡ Some def.face
face_there [] n def e = absurd (none-some def e)
face_there (b ∷ T) zero def e = ap (λ (z : BoxDef). Some z.face) (same_Some b def e)
face_there (b ∷ T) (suc n) def e = face_there T n def e

-- The cell of a root.

root_struct : (vs : List Value) (d : Nodes) (r : ℕ) → r < count d
    → HasStruct (forest_cells vs d) (number (node_or d r)) (shape_of (node_or d r))
root_struct vs no_nodes r l = absurd (omega (arith, l))
root_struct vs (more (node c s ds ps) ns) zero l = inl (refl, refl)
root_struct vs (more n ns) (suc r) l =
    struct_right (number (node_or ns r)) (shape_of (node_or ns r)) (tree_cells vs n) (forest_cells vs ns)
    (root_struct vs ns r (omega (arith, l)))

own_number : (m : Node) → IsIn (number m) (numbers m)
own_number (node c s ds ps) = inl refl

each_number : (m : ℕ → Node) (rs : List ℕ) (r : ℕ) → IsIn r rs → IsIn (number (m r)) (all_numbers (each_node m rs))
each_number m [] r i = absurd i
each_number m (k ∷ rs) r (inl q) =
    in_left (number (m r)) (numbers (m k)) (all_numbers (each_node m rs))
    (subst (λ (z : ℕ). IsIn (number (m r)) (numbers (m z))) q (own_number (m r)))
each_number m (k ∷ rs) r (inr i) =
    in_right (number (m r)) (numbers (m k)) (all_numbers (each_node m rs)) (each_number m rs r i)

-- Slots that are left stand in order.

rises_lower : (m n : ℕ) (xs : List ℕ) → m < n → RisesFrom n xs → RisesFrom m xs
rises_lower m n [] l h = tt
rises_lower m n (x ∷ xs) l h = ((let a = h.0 in omega (arith, a, l)), h.1)

module _ {X : Type 0} (key : X → ℕ) (q : X → Bool) where
  rises_filter : (n : ℕ) (xs : List X) → RisesFrom n (map key xs) → RisesFrom n (map key (filter q xs))
  rises_filter n [] h = tt
  rises_filter n (x ∷ xs) h =
      here (q x) (rises_filter (key x) xs h.1) (rises_filter n xs (rises_lower n (key x) (map key xs) h.0 h.1))
    where
      here : (b : Bool) → RisesFrom (key x) (map key (filter q xs)) → RisesFrom n (map key (filter q xs))
          → RisesFrom n (map key (cond b (x ∷ filter q xs) (filter q xs)))
      here true a c = (h.0, a)
      here false a c = c

  filter_rises : (xs : List X) → IsRising (map key xs) → IsRising (map key (filter q xs))
  filter_rises [] h = tt
  filter_rises (x ∷ xs) h = here (q x) (rises_filter (key x) xs h) (filter_rises xs (rest (map key xs) h))
    where
      rest : (ys : List ℕ) → RisesFrom (key x) ys → IsRising ys
      rest [] w = tt
      rest (y ∷ ys) w = w.1

      here : (b : Bool) → RisesFrom (key x) (map key (filter q xs)) → IsRising (map key (filter q xs))
          → IsRising (map key (cond b (x ∷ filter q xs) (filter q xs)))
      here true a c = a
      here false a c = c

module _ (fs : List ℕ) where
  abbrev pub is_other : Slot → Bool
  is_other s = not (is_one_of fs s)

  pub slots_left : (ps : Parts) → slots_of (left_parts fs ps) ≡ filter is_other (slots_of ps)
  slots_left no_parts = refl
  slots_left (field f e ps) = here (has f fs) (slots_left ps)
    where
      here : (b : Bool) → slots_of (left_parts fs ps) ≡ filter is_other (slots_of ps)
          → slots_of (cond b (left_parts fs ps) (field f e (left_parts fs ps)))
          ≡ cond (not b) (Field f ∷ filter is_other (slots_of ps)) (filter is_other (slots_of ps))
      here true r = r
      here false r = ap (λ (z : List Slot). Field f ∷ z) r
  slots_left (link b inside e ps) = ap (λ (z : List Slot). Link b ∷ z) (slots_left ps)
  slots_left (hook b inside ps) = ap (λ (z : List Slot). Hook b ∷ z) (slots_left ps)

  module _ (bs : List BoxFace) where
    below_left_parts : (ps : Parts) → PartsOrdered bs ps → PartsOrdered bs (left_parts fs ps)
    below_left_parts no_parts h = tt
    below_left_parts (field f e ps) h = here (has f fs) (below_left_parts ps h.1)
      where
        here : (b : Bool) → PartsOrdered bs (left_parts fs ps)
            → PartsOrdered bs (cond b (left_parts fs ps) (field f e (left_parts fs ps)))
        here true r = r
        here false r = (h.0, r)
    below_left_parts (link b inside e ps) h = (h.0, below_left_parts ps h.1)
    below_left_parts (hook b inside ps) h = below_left_parts ps h

    pub left_ordered : (ps : Parts) → Ordered bs ps → Ordered bs (left_parts fs ps)
    left_ordered ps h = (
      subst (IsInOrder bs) (sym (slots_left ps)) (
        every_filter is_other (λ s. HasField (covers bs s)) (slots_of ps) h.0.0,
        filter_rises (λ s. least (covers bs s)) is_other (slots_of ps) h.0.1,
      ),
      below_left_parts ps h.1,
    )

-- The tops of a list of trees.

module _ (P : Parts → Type 0) where
  top_there : (d : Nodes) (r : ℕ) → P no_parts → TopsHave P d → P (parts_of (node_or d r))
  top_there no_nodes r z h = z
  top_there (more (node c s ds ps) ns) zero z h = h.0
  top_there (more (node c s ds ps) ns) (suc r) z h = top_there ns r z h.1

  tops_each : (c s : ℕ → ℕ) (ds : ℕ → List Datum) (m : ℕ → Parts) (rs : List ℕ) → ((r : ℕ) → IsIn r rs → P (m r))
      → TopsHave P (each_node (λ r. node (c r) (s r) (ds r) (m r)) rs)
  tops_each c s ds m [] h = tt
  tops_each c s ds m (r ∷ rs) h = (h r (inl refl), tops_each c s ds m rs (λ k i. h k (inr i)))

cell_of_each : (vs : List Value) (c s : ℕ → ℕ) (ds : ℕ → List Datum) (m : ℕ → Parts) (rs : List ℕ) (r : ℕ) → IsIn r rs
    → IsIn (record { cell = c r; shape = s r; datums = ds r; slots = seen vs (m r) })
    (forest_cells vs (each_node (λ r. node (c r) (s r) (ds r) (m r)) rs))
cell_of_each vs c s ds m [] r i = absurd i
cell_of_each vs c s ds m (k ∷ rs) r (inl q) =
    subst (λ (z : ℕ). IsIn (record { cell = c r; shape = s r; datums = ds r; slots = seen vs (m r) })
    (forest_cells vs (each_node (λ r. node (c r) (s r) (ds r) (m r)) (z ∷ rs)))) q (inl refl)
cell_of_each vs c s ds m (k ∷ rs) r (inr i) =
    in_right _ (tree_cells vs (node (c k) (s k) (ds k) (m k)))
    (forest_cells vs (each_node (λ r. node (c r) (s r) (ds r) (m r)) rs)) (cell_of_each vs c s ds m rs r i)

has_field : (xs : List ℕ) → xs ≢ [] → HasField xs
has_field [] n = absurd (n refl)
has_field (x ∷ xs) n = tt

module _ (t : Boxes) (F : Forest) (over : IsOver t F) (n i : ℕ) (def : BoxDef) (there : slice_get t.defs n ≡ Some def)
    (out : Option ℕ) (g : BoxDef) (p : IsPart (faces_of t.defs) F def i out g) (fit : IsPartWithin g def) (d : Nodes)
    (of : OfForest t.defs F d) (apart : IsDistinct (map cell_number (cells d))) where
  abbrev cs : List BoxFace
  cs = faces_of t.defs

  abbrev face : Face
  face = record { shapes = t.face.shapes; boxes = cs }

  abbrev k : Nodes
  k = e t F over n i def there out g p fit d of

  abbrev x : Item
  x = edge t F over n i def there out g p fit d of

  abbrev o : Opens x k d
  o = opens t F over n i def there out g p fit d of

  abbrev kept : List ℕ
  kept = kept_there t F over n i def there out g p fit d of

  slot : IsSlotItem x
  slot = is_slot t F over n i def there out g p fit d of

  kept_below : (r : ℕ) → IsIn r kept → r < count d
  kept_below r m =
      let w = in_kept p.inner (counted 0 (count d)) r m in
      let q = (counted_above 0 (count d) r w.1).1 in omega (arith, q)

  -- a port's root has the struct of the box
  port_shape : (r s : ℕ) (fs : List ℕ) → IsPortRoot F.autos r s fs → shape_of (node_or d r) ≡ s
  port_shape r s fs h =
      let w = tree_there t.defs F.autos d r h.auto of h.there in
      let y = (tree_by_top h.auto h.one (bare (node_or d r)) w.0).0 in
      node_shape (node_or d r) s h.datums h.slots
      (sym y ∙ ap (λ (z : Rule). z.symbol) (top_is h.auto h.one) ∙ h.symbol)

  port_below : (r s : ℕ) (fs : List ℕ) → IsPortRoot F.autos r s fs → r < count d
  port_below r s fs h =
      let l = slice_get_within F.autos r h.auto h.there in
      subst (λ (z : ℕ). r < z) (sym (as_many t.defs F.autos d of)) l

  -- where the cell of root r has struct s in d, it has it in the fold if it is kept
  root_kept : (r : ℕ) → IsIn r kept → HasStruct (cells k) (number (node_or d r)) (shape_of (node_or d r))
  root_kept r m =
      struct_back t over.table F over.sound.well_formed.filled x k d of o slot apart
      (low_folded t F over n i def there out g p fit d of)
      (number (node_or d r)) (shape_of (node_or d r))
      (each_number (folded_node t.defs cs F def i out g p d of
      (low t F over n i def there out g p fit d of) n) kept r m)
      (root_struct (roots_of d) d r (kept_below r m))

  abbrev ci : ℕ
  ci = number (node_or d i)

  -- the struct of the input's cell in the fold
  input_struct : (u : ℕ) → HasStruct (cells k) ci u → (l : i < count d) → u ≡ shape_of (node_or d i)
  input_struct u h l =
      one_struct ci u (shape_of (node_or d i)) (cells d) apart (struct_kept face x k d o slot apart ci u h)
      (root_struct (roots_of d) d i l)

  kept_port : (r : ℕ) → IsIn r (map (λ q. q.0) p.ports) → IsIn r kept
  kept_port r m = port_kept t.defs cs F def i out g p d of (low t F over n i def there out g p fit d of) r m

  -- the edge fits the input's cell
  edge_fits : (v : Option ℕ) → out ≡ v → (ps : Ports) (ss : List ℕ) → PortsAre cs def i v ps ss → p.ports ≡ ps
      → ArePortRoots F.autos ps ss
      → Fits face (cells k) (edge_item t.defs cs F def i out g p d of (low t F over n i def there out g p fit d of) n v)
  edge_fits None q ps ss (a, ins, at, fields, ports, none, shapes) same roots =
      let h : IsPortRoot F.autos i def.face.input ins =
      (subst (λ (z : List ℕ). ArePortRoots F.autos ((i, ins) ∷ []) z) shapes
      (subst (λ (z : Ports). ArePortRoots F.autos z ss) ports roots)).0 in
      λ u w. (
        (
          def.face,
          face_there t.defs n def there,
          sym (input_struct u w (port_below i def.face.input ins h) ∙ port_shape i def.face.input ins h),
          none,
        ),
        tt,
      )
  edge_fits (Some j) q ps ss (a, c, ins, outs, s, at, to, fields, fields_out, ports, some, shapes) same roots =
      let both : IsPortRoot F.autos i def.face.input ins × (IsPortRoot F.autos j s outs × Unit {0}) =
      subst (λ (z : List ℕ). ArePortRoots F.autos ((i, ins) ∷ ((j, outs) ∷ [])) z) shapes
      (subst (λ (z : Ports). ArePortRoots F.autos z ss) ports roots) in
      let last = both.1.0 in
      let m : IsIn j (map (λ q. q.0) p.ports) =
      subst (λ (z : Ports). IsIn j (map (λ q. q.0) z)) (sym (same ∙ ports)) (inr (inl refl)) in
      λ u w. (
        (
          def.face,
          s,
          face_there t.defs n def there,
          sym (input_struct u w (port_below i def.face.input ins both.0) ∙ port_shape i def.face.input ins both.0),
          some,
          inl (subst (λ (z : ℕ). HasStruct (cells k) (number (node_or d j)) z) (port_shape j s outs last)
              (root_kept j (kept_port j m))),
        ),
        tt,
      )

  edge_right : Fits face (cells k) x
  edge_right = edge_fits out refl p.ports p.shapes p.are_ports refl p.roots

  -- The order of slots.

  d_ordered : TopsHave (Ordered cs) d
  d_ordered = ordered_cells cs (roots_of d) d
      (every_weaker (IsFilledCell face (cells d)) (CellOrdered cs) (cells d) (λ c h. h.order)
      (cells_opened t over.table F over.sound.well_formed.filled x k d of o slot apart
      (low_folded t F over n i def there out g p fit d of)))

  box : IsBoxOf t.face.shapes t.defs n def.inside.autos
  box = box_of_table t.face.shapes t.defs over.table.sound n def.inside.autos (inside_is t.defs n def there)

  -- the edge covers some field
  edge_covers : HasField (gives_in_of cs n)
  edge_covers =
      subst (λ (z : Option BoxFace). HasField (fields_in z)) (sym box.here)
      (has_field box.def.face.gives_in box.sound.covers)

  abbrev lo : (r j : ℕ) → IsIn j (refs (node_or d r)) → j < count d
  lo = low t F over n i def there out g p fit d of

  abbrev nd : ℕ → Node
  nd = folded_node t.defs cs F def i out g p d of lo n

  abbrev ps_of : ℕ → Parts
  ps_of = folded_parts t.defs cs F def i out g p d of lo n

  edge_ordered : (v : Option ℕ) → Ordered cs (edge_parts t.defs cs F def i out g p d of lo n v)
  edge_ordered None = (((edge_covers, tt), tt), tt)
  edge_ordered (Some j) = (((edge_covers, tt), tt), (tt, tt))

  gained_ordered : (r : ℕ) → Ordered cs (gained_parts t.defs cs F def i out g p d of lo n r)
  gained_ordered r = here (nat_eq i r)
    where
      here : (b : Bool) → Ordered cs (if b then edge_parts t.defs cs F def i out g p d of lo n out else no_parts)
      here true = edge_ordered out
      here false = ((tt, tt), tt)

  left_right : (r : ℕ) → Ordered cs
      (placed_parts (numbered_at (new t.defs cs F def i out g p d of lo n))
      (left_parts (taken_at p.ports r) (parts_of (node_or d r))))
  left_right r = placed_ordered cs _ _
      (left_ordered (taken_at p.ports r) cs (parts_of (node_or d r))
      (top_there (Ordered cs) d r ((tt, tt), tt) d_ordered))

  -- each cell of the fold has the fields of its struct, each once
  once_fold : (c : SeenCell) → IsIn c (cells k) → IsDistinct (flat_map (covers cs) (slots_seen c.slots))
  once_fold c m =
      let q = once_here t over.table F over.sound.well_formed.filled x k d of o slot apart
      (low_folded t F over n i def there out g p fit d of) edge_right
      (insides_folded t F over n i def there out g p fit d of) c m in
      (distinct_parts (flat_map (covers cs) (slots_seen c.slots)) (gives_to cs c.cell (cells k))
      (distinct_moved q (numbered_distinct 0 (targets_of t.face.shapes.structs c.shape)))).0

  pub parts_ordered : (r : ℕ) → IsIn r kept → Ordered cs (ps_of r)
  parts_ordered r m =
      let a = left_right r in
      let b = gained_ordered r in
      let cover : AllCover cs (ps_of r) = joined_cover cs _ _ (cover_listed cs _ a.0.0) (cover_listed cs _ b.0.0) in
      let c = cell_of_each (roots_of k) (λ r. number (node_or d r)) (λ r. shape_of (node_or d r))
      (λ r. datums_of (node_or d r)) ps_of kept r m in
      joined_ordered cs _ _ a b
      (fields_apart cs (ps_of r) cover
      (subst (λ (z : List Slot). IsDistinct (flat_map (covers cs) z)) (slots_seen_are (roots_of k) (ps_of r))
      (once_fold _ c)))

  fold_ordered : TopsHave (Ordered cs) k
  fold_ordered = tops_each (Ordered cs) (λ r. number (node_or d r)) (λ r. shape_of (node_or d r))
      (λ r. datums_of (node_or d r)) ps_of kept parts_ordered

  -- the trees are filled
  pub fold_filled : TreesFilled face (bares k) (node_structs k) 0 (bares k)
  fold_filled =
      let low_k = low_folded t F over n i def there out g p fit d of in
      let near = apart_here t over.table F over.sound.well_formed.filled x k d of o slot apart low_k in
      trees_filled face k (apart_by cs k (subst IsDistinct (forest_numbers (roots_of k) k) near)) low_k
      (in_every (IsFilledCell face (cells k)) (cells k)
      (λ c m. record {
        slots = every_in (λ c. SlotsFit face (cells k) c.shape c.slots) (cells k) c
            (fits_here_all t over.table F over.sound.well_formed.filled x k d of o slot apart low_k edge_right) m;
        order = every_in (CellOrdered cs) (cells k) c (cells_ordered cs (roots_of k) k fold_ordered) m;
        once = once_here t over.table F over.sound.well_formed.filled x k d of o slot apart low_k edge_right
            (insides_folded t F over n i def there out g p fit d of) c m;
      }))
