-- A field of a cell is covered or given by one box edge.
use Rattle.std.proofs.Common.{◌≡◌, inl, inr, ℕ, ◌+◌, ◌≤◌, Bool, true, false, cond, nat_eq, if◌then◌else◌, List, []}
use Rattle.std.proofs.Common.{◌∷◌, ◌++◌, map, flat_map, refl, sym, ap, subst, ◌∙◌, arith}
use Rattle.std.proofs.lemmas.Bool.{eqb-true, eq-eqb}
use Rattle.fore_base.specs.Lists.{IsIn, Every, IsDistinct}
use Rattle.fore_base.specs.Shapes.{targets_of}
use Rattle.fore_base.specs.declared.store.Value.{Value}
use Rattle.fore_base.proofs.ListLemmas.{every_in}
use Rattle.ta_core.specs.declared.symbol.Slot.TheVariants.{Link, Hook}
use Rattle.fa_core.specs.declared.faces.BoxFace.{BoxFace}
use Rattle.fa_core.specs.declared.faces.Face.{Face}
use Rattle.fa_core.specs.declared.forest.Forest.{Forest}
use Rattle.fa_core.specs.declared.boxes.BoxDef.{BoxDef}
use Rattle.fa_core.specs.Choices.{all_numbers, bares}
use Rattle.fa_core.specs.Dressed.{Nodes, Seen, SeenField, SeenLink, SeenHook, SeenCell, cells, roots_of}
use Rattle.fa_core.specs.Filled.{IsFilled, TreesFilled, covers, fields_of}
use Rattle.fa_core.specs.Member.{OfForest}
use Rattle.fa_core.specs.Rearranged.{Rearranged, often}
use Rattle.fa_core.specs.Ways.{gives_out_of}
use Rattle.fa_core.proofs.Counts.{in_or_out, often_both, often_in, often_out, often_same}
use Rattle.fa_core.proofs.Dressing.{choice_of, numbered_distinct}
use Rattle.fa_core.proofs.FilledCells.{cells_filled}
use Rattle.fa_core.proofs.FilledKept.{apart_by, forest_numbers}
use Rattle.fa_core.proofs.Given.{given_there, gives_to, slot_gifts, cell_gifts}
use Rattle.fa_core.proofs.Rearranging.{flat_map-append}
use Rattle.fa_core.proofs.SeenCells.{IsFilledCell, HasStruct, cell_number, slots_seen, tops_structs}
use Rattle.fa_unfold.specs.Opens.{Item, IsCell, HasSlot, items}
use Rattle.fa_unfold.proofs.UnfoldedMembers.{cell_items, cells_items}
use Rattle.fa_unfold.proofs.OpenedOnce.{sum_moved}
use Rattle.fa_opening.specs.Opened.{IsEdgeFor}

-- the cells of a filled forest, none of which have one number, are filled
pub filled_cells : (T : List BoxDef) (face : Face) (F : Forest) (d : Nodes) → IsFilled face F → OfForest T F d
    → IsDistinct (all_numbers d) → Every (IsFilledCell face (cells d)) (cells d)
filled_cells T face F d filled of a =
    let k = filled.trees (bares d) (choice_of T F.autos d of) in
    cells_filled face d (apart_by face.boxes d a)
    (subst (λ (z : List ℕ). TreesFilled face (bares d) z 0 (bares d)) (tops_structs d k.tops k.are) k.cells)

-- a list of different numbers has each at most once
often_distinct : (f : ℕ) (xs : List ℕ) → IsDistinct xs → often f xs ≤ 1
often_distinct f [] h = omega arith
often_distinct f (x ∷ xs) h = here (nat_eq f x) refl (often_distinct f xs h.1)
  where
    here : (b : Bool) → nat_eq f x ≡ b → often f xs ≤ 1 → (if b then often f xs + 1 else often f xs) ≤ 1
    here true e k =
        let z = often_out f xs (subst (λ (n : ℕ). IsIn n xs → ⊥) (sym (eqb-true f x e)) h.0) in omega (arith, z)
    here false e k = k

-- what is counted once is there
often_there : (f : ℕ) (xs : List ℕ) → 1 ≤ often f xs → IsIn f xs
often_there f xs h = elim (in_or_out f xs) [
  | inl i ↦ i
  | inr d ↦ (let z = often_out f xs d in absurd (omega (arith, h, z)))
]

module _ (bs : List BoxFace) (n f : ℕ) where
  -- how often the slots cover the field, and give it to the cell
  abbrev own : List Seen → ℕ
  own xs = often f (flat_map (covers bs) (slots_seen xs))

  abbrev gifts : List Seen → ℕ
  gifts xs = often f (flat_map (given_there n) (slot_gifts bs xs))

  abbrev at_cell : ℕ → ℕ → ℕ
  at_cell c k = cond (nat_eq c n) k 0

  abbrev weight : Item → ℕ
  weight (IsCell c s ds) = 0
  weight (HasSlot c x) = at_cell c (own (x ∷ [])) + gifts (x ∷ [])

  abbrev total : List Item → ℕ
  total [] = 0
  total (y ∷ ys) = weight y + total ys

  total_both : (xs ys : List Item) → total (xs ++ ys) ≡ total xs + total ys
  total_both [] ys = omega arith
  total_both (x ∷ xs) ys = let k = total_both xs ys in omega (arith, k)

  total_same : {xs ys : List Item} → Rearranged xs ys → total xs ≡ total ys
  total_same r = sum_moved total total_both r

  weight_in : (y : Item) (xs : List Item) → IsIn y xs → weight y ≤ total xs
  weight_in y [] i = absurd i
  weight_in y (x ∷ xs) (inl e) = let k = ap weight e in omega (arith, k)
  weight_in y (x ∷ xs) (inr i) = let k = weight_in y xs i in omega (arith, k)

  at_both : (c j k : ℕ) → at_cell c (j + k) ≡ at_cell c j + at_cell c k
  at_both c j k = here (nat_eq c n)
    where
      here : (b : Bool) → cond b (j + k) 0 ≡ cond b j 0 + cond b k 0
      here true = refl
      here false = refl

  -- numbers before others, by themselves
  before_none : (gs ks : List ℕ) → often f (gs ++ ks) ≡ often f (gs ++ []) + often f ks
  before_none gs ks =
      let p = often_both f gs ks in
      let q = often_both f gs [] in
      let z : often f [] ≡ 0 = refl in
      omega (arith, p, q, z)

  own_more : (x : Seen) (xs : List Seen) → own (x ∷ xs) ≡ own (x ∷ []) + own xs
  own_more (SeenField g v) xs = often_both f (g ∷ []) (flat_map (covers bs) (slots_seen xs))
  own_more (SeenLink b i v) xs = before_none (covers bs (Link b)) (flat_map (covers bs) (slots_seen xs))
  own_more (SeenHook b i) xs = before_none (covers bs (Hook b)) (flat_map (covers bs) (slots_seen xs))

  gifts_more : (x : Seen) (xs : List Seen) → gifts (x ∷ xs) ≡ gifts (x ∷ []) + gifts xs
  gifts_more (SeenField g v) xs =
      before_none (given_there n (v, [])) (flat_map (given_there n) (slot_gifts bs xs))
  gifts_more (SeenLink b i v) xs =
      before_none (given_there n (v, gives_out_of bs b)) (flat_map (given_there n) (slot_gifts bs xs))
  gifts_more (SeenHook b i) xs = omega arith

  slots_total : (c : ℕ) (xs : List Seen) → total (map (HasSlot c) xs) ≡ at_cell c (own xs) + gifts xs
  slots_total c [] = here (nat_eq c n)
    where
      here : (b : Bool) → 0 ≡ cond b 0 0 + 0
      here true = refl
      here false = refl
  slots_total c (x ∷ xs) =
      let k = slots_total c xs in
      let p = ap (at_cell c) (own_more x xs) in
      let q = gifts_more x xs in
      let z = at_both c (own (x ∷ [])) (own xs) in
      omega (arith, k, p, q, z)

  -- all cells
  abbrev owns : List SeenCell → ℕ
  owns [] = 0
  owns (x ∷ xs) = at_cell x.cell (own x.slots) + owns xs

  given_more : (x : SeenCell) (xs : List SeenCell) → often f (gives_to bs n (x ∷ xs))
      ≡ gifts x.slots + often f (gives_to bs n xs)
  given_more x xs =
      ap (often f) (flat_map-append (given_there n) (slot_gifts bs x.slots) (cell_gifts bs xs))
      ∙ often_both f (flat_map (given_there n) (slot_gifts bs x.slots)) (gives_to bs n xs)

  cells_total : (xs : List SeenCell) → total (flat_map cell_items xs) ≡ owns xs + often f (gives_to bs n xs)
  cells_total [] = refl
  cells_total (x ∷ xs) =
      let k = cells_total xs in
      let p = total_both (map (HasSlot x.cell) x.slots) (flat_map cell_items xs) in
      let q = slots_total x.cell x.slots in
      let z = given_more x xs in
      omega (arith, k, p, q, z)

  -- of the one cell of the number
  not_here : (c k : ℕ) → (c ≡ n → ⊥) → at_cell c k ≡ 0
  not_here c k d = here (nat_eq c n) refl
    where
      here : (b : Bool) → nat_eq c n ≡ b → cond b k 0 ≡ 0
      here true e = absurd (d (eqb-true c n e))
      here false e = refl

  is_here : (c k : ℕ) → c ≡ n → at_cell c k ≡ k
  is_here c k e = ap (λ (b : Bool). cond b k 0) (eq-eqb c n e)

  none_owns : (xs : List SeenCell) → (IsIn n (map cell_number xs) → ⊥) → owns xs ≡ 0
  none_owns [] d = refl
  none_owns (x ∷ xs) d =
      let k = none_owns xs (λ i. d (inr i)) in
      let z = not_here x.cell (own x.slots) (λ e. d (inl (sym e))) in
      omega (arith, k, z)

  number_in : (xs : List SeenCell) (x : SeenCell) → IsIn x xs → IsIn x.cell (map cell_number xs)
  number_in [] x i = absurd i
  number_in (y ∷ xs) x (inl w) = inl (ap cell_number w)
  number_in (y ∷ xs) x (inr i) = inr (number_in xs x i)

  one_owns : (xs : List SeenCell) → IsDistinct (map cell_number xs) → (x : SeenCell) → IsIn x xs → x.cell ≡ n
      → owns xs ≡ own x.slots
  one_owns [] a x i e = absurd i
  one_owns (y ∷ xs) a x (inl w) e =
      let c : y.cell ≡ n = sym (ap cell_number w) ∙ e in
      let k = none_owns xs (λ j. a.0 (subst (λ (z : ℕ). IsIn z (map cell_number xs)) (sym c) j)) in
      let z = is_here y.cell (own y.slots) c in
      let q = ap (λ (u : SeenCell). own u.slots) w in
      omega (arith, k, z, q)
  one_owns (y ∷ xs) a x (inr i) e =
      let k = one_owns xs a.1 x i e in
      let z = not_here y.cell (own y.slots)
      (λ w. a.0 (subst (λ (z : ℕ). IsIn z (map cell_number xs)) (e ∙ sym w) (number_in xs x i))) in
      omega (arith, k, z)

  -- the field is covered or given as often as the struct has it
  fields_total : (face : Face) (d : Nodes) → face.boxes ≡ bs → IsDistinct (map cell_number (cells d)) → (x : SeenCell)
      → IsIn x (cells d) → x.cell ≡ n → IsFilledCell face (cells d) x
      → total (items d) ≡ often f (fields_of face.shapes.structs x.shape)
  fields_total face d b a x i e h =
      let k = total_same (cells_items d) in
      let p = cells_total (cells d) in
      let q = one_owns (cells d) a x i e in
      let all : Rearranged (fields_of face.shapes.structs x.shape)
      (flat_map (covers bs) (slots_seen x.slots) ++ gives_to bs n (cells d)) =
      subst (λ (c : ℕ). Rearranged (fields_of face.shapes.structs x.shape)
      (flat_map (covers bs) (slots_seen x.slots) ++ gives_to bs c (cells d))) e
      (subst (λ (z : List BoxFace). Rearranged (fields_of face.shapes.structs x.shape)
      (flat_map (covers z) (slots_seen x.slots) ++ gives_to z x.cell (cells d))) b h.once) in
      let m = often_same f all in
      let o = often_both f (flat_map (covers bs) (slots_seen x.slots)) (gives_to bs n (cells d)) in
      omega (arith, k, p, q, m, o)

  -- once at most
  once_total : (face : Face) (d : Nodes) → face.boxes ≡ bs → IsDistinct (map cell_number (cells d)) → (x : SeenCell)
      → IsIn x (cells d) → x.cell ≡ n → IsFilledCell face (cells d) x → total (items d) ≤ 1
  once_total face d b a x i e h =
      let k = fields_total face d b a x i e h in
      let l = often_distinct f (fields_of face.shapes.structs x.shape)
      (numbered_distinct 0 (targets_of face.shapes.structs x.shape)) in
      omega (arith, k, l)

  -- an edge for the field counts
  edge_counts : (y : Item) → IsEdgeFor bs n f y → 1 ≤ weight y
  edge_counts (IsCell c s ds) h = absurd h
  edge_counts (HasSlot c (SeenField g v)) (inl h) = absurd h.1
  edge_counts (HasSlot c (SeenField g v)) (inr h) = absurd h
  edge_counts (HasSlot c (SeenLink b i v)) (inl h) =
      let z = is_here c (own (SeenLink b i v ∷ [])) h.0 in
      let p = often_both f (covers bs (Link b)) [] in
      let q = often_in f (covers bs (Link b)) h.1 in
      omega (arith, z, p, q)
  edge_counts (HasSlot c (SeenLink b i v)) (inr h) =
      let e : given_there n (v, gives_out_of bs b) ≡ gives_out_of bs b =
      ap (λ (w : Value). given_there n (w, gives_out_of bs b)) h.0
      ∙ ap (λ (t : Bool). cond t (gives_out_of bs b) []) (eq-eqb n n refl) in
      let p = often_both f (given_there n (v, gives_out_of bs b)) [] in
      let k = ap (often f) e in
      let q = often_in f (gives_out_of bs b) h.1 in
      omega (arith, p, k, q)
  edge_counts (HasSlot c (SeenHook b i)) (inl h) =
      let z = is_here c (own (SeenHook b i ∷ [])) h.0 in
      let p = often_both f (covers bs (Hook b)) [] in
      let q = often_in f (covers bs (Hook b)) h.1 in
      omega (arith, z, p, q)
  edge_counts (HasSlot c (SeenHook b i)) (inr h) = absurd h

  struct_cell : (xs : List SeenCell) (s : ℕ) → HasStruct xs n s → (x : SeenCell) × IsIn x xs × (x.cell ≡ n)
  struct_cell [] s h = absurd h
  struct_cell (x ∷ xs) s (inl e) = (x, inl refl, e.0)
  struct_cell (x ∷ xs) s (inr h) = let k = struct_cell xs s h in (k.0, inr k.1, k.2)

  -- so there are no two
  pub no_two : (face : Face) (d : Nodes) → face.boxes ≡ bs → IsDistinct (all_numbers d)
      → Every (IsFilledCell face (cells d)) (cells d) → (s : ℕ) → HasStruct (cells d) n s → (x y : Item)
      (others : List Item) → Rearranged (items d) (x ∷ others) → IsEdgeFor bs n f x → IsIn y others
      → IsEdgeFor bs n f y → ⊥
  no_two face d b a filled s has x y others p h i k =
      let c = struct_cell (cells d) s has in
      let one = once_total face d b (subst IsDistinct (sym (forest_numbers (roots_of d) d)) a) c.0 c.1 c.2
      (every_in (IsFilledCell face (cells d)) (cells d) c.0 filled c.1) in
      let q = total_same p in
      let u = edge_counts x h in
      let v = edge_counts y k in
      let w = weight_in y others i in
      omega (arith, one, q, u, v, w)

  -- a slot of the field counts
  field_counts : (v : Value) → 1 ≤ weight (HasSlot n (SeenField f v))
  field_counts v =
      let z = is_here n (own (SeenField f v ∷ [])) refl in
      let p = often_both f (f ∷ []) [] in
      let q = often_in f (f ∷ []) (inl refl) in
      omega (arith, z, p, q)

  -- two items of the list count together
  two_in : (x y : Item) (zs : List Item) → IsIn x zs → IsIn y zs → (x ≡ y → ⊥) → weight x + weight y ≤ total zs
  two_in x y [] i j d = absurd i
  two_in x y (z ∷ zs) (inl e) (inl w) d = absurd (d (e ∙ sym w))
  two_in x y (z ∷ zs) (inl e) (inr j) d =
      let k = ap weight e in
      let l = weight_in y zs j in
      omega (arith, k, l)
  two_in x y (z ∷ zs) (inr i) (inl w) d =
      let k = ap weight w in
      let l = weight_in x zs i in
      omega (arith, k, l)
  two_in x y (z ∷ zs) (inr i) (inr j) d = let l = two_in x y zs i j d in omega (arith, l)

  abbrev IsFieldItem : Item → Type 0
  IsFieldItem (IsCell c s ds) = ⊥
  IsFieldItem (HasSlot c (SeenField g v)) = Unit {0}
  IsFieldItem (HasSlot c (SeenLink b i v)) = ⊥
  IsFieldItem (HasSlot c (SeenHook b i)) = ⊥

  edge_no_field : (y : Item) → IsEdgeFor bs n f y → IsFieldItem y → ⊥
  edge_no_field (IsCell c s ds) h k = k
  edge_no_field (HasSlot c (SeenField g v)) (inl h) k = h.1
  edge_no_field (HasSlot c (SeenField g v)) (inr h) k = h
  edge_no_field (HasSlot c (SeenLink b i v)) h k = k
  edge_no_field (HasSlot c (SeenHook b i)) h k = k

  module _ (face : Face) (d : Nodes) (b : face.boxes ≡ bs) (a : IsDistinct (all_numbers d))
      (filled : Every (IsFilledCell face (cells d)) (cells d)) (x : SeenCell) (i : IsIn x (cells d)) (e : x.cell ≡ n)
    where
      apart : IsDistinct (map cell_number (cells d))
      apart = subst IsDistinct (sym (forest_numbers (roots_of d) d)) a

      own_filled : IsFilledCell face (cells d) x
      own_filled = every_in (IsFilledCell face (cells d)) (cells d) x filled i

      -- where the field is a slot of the cell, no box edge is for it
      pub field_alone : (v : Value) → IsIn (HasSlot n (SeenField f v)) (items d) → (y : Item) → IsIn y (items d)
          → IsEdgeFor bs n f y → ⊥
      field_alone v j y k h =
          let one = once_total face d b apart x i e own_filled in
          let p = field_counts v in
          let q = edge_counts y h in
          let w = two_in (HasSlot n (SeenField f v)) y (items d) j k
          (λ z. edge_no_field y h (subst IsFieldItem z tt)) in
          omega (arith, one, p, q, w)

      -- a box edge is for a field of the struct
      pub edge_field : (y : Item) → IsIn y (items d) → IsEdgeFor bs n f y
          → IsIn f (fields_of face.shapes.structs x.shape)
      edge_field y k h =
          let t = fields_total face d b apart x i e own_filled in
          let q = edge_counts y h in
          let w = weight_in y (items d) k in
          often_there f (fields_of face.shapes.structs x.shape) (omega (arith, t, q, w))
