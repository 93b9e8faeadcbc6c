-- A dressed forest whose cells have numbers of their own is filled tree by tree exactly where it is filled cell by
-- cell, boxes included.
use Rattle.std.proofs.Common.{◌≡◌, inl, inr, ℕ, suc, ◌<◌, ◌+◌, List, [], ◌∷◌, ◌++◌, map, flat_map, Some, slice_get}
use Rattle.std.proofs.Common.{refl, sym, ap, subst, ◌∙◌, arith}
use Rattle.fore_base.specs.Lists.{IsIn, Every, IsDistinct}
use Rattle.fore_base.specs.declared.store.Value.{Value}
use Rattle.fore_base.specs.declared.store.Value.TheVariants.{Null as NullValue, Uninit as UninitValue}
use Rattle.fore_base.specs.declared.store.Value.TheVariants.{Dangling as DanglingValue, Cell}
use Rattle.fore_base.proofs.ListLemmas.{every_append, every_parts, in_left, in_right}
use Rattle.ta_core.specs.declared.symbol.Symbol.TheVariants.{Dangling as DanglingSymbol, Ref, Cell as CellSymbol}
use Rattle.ta_core.specs.declared.tree.Tree.{out-Tree}
use Rattle.fa_core.specs.declared.faces.Face.{Face}
use Rattle.fa_core.specs.declared.faces.BoxFace.{BoxFace}
use Rattle.fa_core.specs.declared.forest.Target.TheVariants.{Null, Uninit, Dangling, At}
use Rattle.fa_core.specs.Choices.{bares, count}
use Rattle.fa_core.specs.Dressed.{Node, Parts, End, Nodes, node, no_parts, field, link, hook, under, leaf, no_nodes}
use Rattle.fa_core.specs.Dressed.{more, end_value, value_in, nth_value, number, roots_of, SeenCell, seen, tree_cells}
use Rattle.fa_core.specs.Dressed.{below, end_cells, forest_cells, cells, refs, refs_of, end_refs, all_refs}
use Rattle.fa_core.specs.Filled.{Spot, NamesStruct, FieldEnds, EndsFit, covers, IsFilledSpot, given_at, TreesFilled}
use Rattle.fa_core.specs.Member.{bare_end, slots_of}
use Rattle.fa_core.specs.Rearranged.{Rearranged, chain}
use Rattle.fa_core.specs.References.{AllBelow}
use Rattle.fa_core.specs.Ways.{gives_out_of}
use Rattle.fa_core.proofs.Counts.{below_left, below_right}
use Rattle.fa_core.proofs.Dressing.{cell_top, leaf_top, cell_is_no_leaf}
use Rattle.fa_core.proofs.Given.{Inner, gives_to, inner, inner_of, end_inner, all_inner, all_tips, inner_number}
use Rattle.fa_core.proofs.Given.{root_numbers, tip_to, inner_given, root_given}
use Rattle.fa_core.proofs.GivenTips.{given_tips}
use Rattle.fa_core.proofs.NodeSpots.{node_spots, parts_spots, end_spots, end_symbols, spots_are, one_leaf}
use Rattle.fa_core.proofs.Rearranging.{back, after}
use Rattle.fa_core.proofs.SeenCells.{HasStruct, NamesOne, PointsTo, SlotsFit, IsFilledCell, struct_left, struct_right}
use Rattle.fa_core.proofs.SeenCells.{cell_number, one_struct, slots_seen_are, node_structs, root_names, root_cell}

-- no two cells have one number: no two below a top, no two roots, no root and a cell below a top
pub record IsApart (bs : List BoxFace) (d : Nodes) : Type 0 where
  pub inner : IsDistinct (map inner_number (all_inner bs d))
  pub roots : IsDistinct (root_numbers d)
  pub other : (c : ℕ) → IsIn c (map inner_number (all_inner bs d)) → IsIn c (root_numbers d) → ⊥
  pub cells : IsDistinct (map cell_number (cells d))

abbrev value_kind : Value → ℕ
value_kind NullValue = 0
value_kind UninitValue = 1
value_kind DanglingValue = 2
value_kind (Cell k) = 3

module _ (face : Face) (d : Nodes) (apart : IsApart face.boxes d) where
  abbrev vs : List Value
  vs = roots_of d

  abbrev tops : List ℕ
  tops = node_structs d

  abbrev all : List SeenCell
  all = cells d

  -- What is given to a cell in its tree is what the edges of all cells give it.

  abbrev mutual
    NodeGiven : Node → List ℕ → Type 0
    NodeGiven (node c s ds ps) above = Rearranged above (gives_to face.boxes c (cells d)) × PartsGiven ps

    PartsGiven : Parts → Type 0
    PartsGiven no_parts = Unit {0}
    PartsGiven (field f e ps) = EndGiven [] e × PartsGiven ps
    PartsGiven (link b i e ps) = EndGiven (gives_out_of face.boxes b) e × PartsGiven ps
    PartsGiven (hook b i ps) = PartsGiven ps

    EndGiven : List ℕ → End → Type 0
    EndGiven g (under n) = NodeGiven n g
    EndGiven g (leaf t) = Unit {0}

  abbrev ArePart : List Inner → Type 0
  ArePart us = (p : Inner) → IsIn p us → IsIn p (all_inner face.boxes d)

  number_in : (p : Inner) (us : List Inner) → IsIn p us → IsIn p.0 (map inner_number us)
  number_in p [] i = absurd i
  number_in p (u ∷ us) (inl e) = inl (ap inner_number e)
  number_in p (u ∷ us) (inr i) = inr (number_in p us i)

  part_left : (us ws : List Inner) → ArePart (us ++ ws) → ArePart us
  part_left us ws h p i = h p (in_left p us ws i)

  part_right : (us ws : List Inner) → ArePart (us ++ ws) → ArePart ws
  part_right us ws h p i = h p (in_right p us ws i)

  mutual
    node_given : (n : Node) (above : List ℕ) → Rearranged above (gives_to face.boxes (number n) (cells d))
        → ArePart (inner face.boxes n) → NodeGiven n above
    node_given (node c s ds ps) above g h = (g, parts_given ps h)

    parts_given : (ps : Parts) → ArePart (inner_of face.boxes ps) → PartsGiven ps
    parts_given no_parts h = tt
    parts_given (field f e ps) h = (
      end_given [] e (part_left (end_inner face.boxes [] e) (inner_of face.boxes ps) h),
      parts_given ps (part_right (end_inner face.boxes [] e) (inner_of face.boxes ps) h),
    )
    parts_given (link b i e ps) h = (
      end_given (gives_out_of face.boxes b) e
          (part_left (end_inner face.boxes (gives_out_of face.boxes b) e) (inner_of face.boxes ps) h),
      parts_given ps (part_right (end_inner face.boxes (gives_out_of face.boxes b) e) (inner_of face.boxes ps) h),
    )
    parts_given (hook b i ps) h = parts_given ps h

    end_given : (g : List ℕ) (e : End) → ArePart (end_inner face.boxes g e) → EndGiven g e
    end_given g (leaf t) h = tt
    end_given g (under n) h =
        node_given n g
        (inner_given face.boxes d (number n) g apart.inner
        (λ i. apart.other (number n) (number_in (number n, g) (all_inner face.boxes d) (h (number n, g) (inl refl))) i)
        (h (number n, g) (inl refl))) (λ p i. h p (inr i))

  abbrev ForestGiven : Nodes → ℕ → Type 0
  ForestGiven no_nodes r = Unit {0}
  ForestGiven (more n ns) r = NodeGiven n (given_at face.boxes (bares d) r) × ForestGiven ns (suc r)

  forest_given : (ns : Nodes) (r : ℕ)
      → ((k c : ℕ) → nth_value (roots_of ns) k ≡ Cell c → nth_value (roots_of d) (r + k) ≡ Cell c)
      → ((c : ℕ) → IsIn c (root_numbers ns) → IsIn c (root_numbers d)) → ArePart (all_inner face.boxes ns)
      → ForestGiven ns r
  forest_given no_nodes r v w h = tt
  forest_given (more n ns) r v w h =
      let e : r + 0 ≡ r = omega arith in
      let z : nth_value (roots_of d) r ≡ Cell (number n) =
      subst (λ (k : ℕ). nth_value (roots_of d) k ≡ Cell (number n)) e (v 0 (number n) refl) in
      let g : Rearranged (flat_map (tip_to r) (all_tips face.boxes d)) (gives_to face.boxes (number n) (cells d)) =
      root_given d apart.roots face.boxes r (number n) z
      (λ i. apart.other (number n) i (w (number n) (inl refl))) in (
        node_given n (given_at face.boxes (bares d) r)
            (subst (λ (x : List ℕ). Rearranged x (gives_to face.boxes (number n) (cells d)))
            (sym (given_tips face.boxes r d)) g) (part_left (inner face.boxes n) (all_inner face.boxes ns) h),
        forest_given ns (suc r)
            (λ k c i.
            (let y : r + suc k ≡ suc r + k = omega arith in
            subst (λ (x : ℕ). nth_value (roots_of d) x ≡ Cell c) y (v (suc k) c i))) (λ c i. w c (inr i))
            (part_right (inner face.boxes n) (all_inner face.boxes ns) h),
      )

  all_given : ForestGiven d 0
  all_given = forest_given d 0
      (λ k c e. (let y : 0 + k ≡ k = omega arith in subst (λ (x : ℕ). nth_value (roots_of d) x ≡ Cell c) (sym y) e))
      (λ c i. i) (λ p i. i)

  -- the structs of some cells are those of all cells
  abbrev AreAmong : List SeenCell → Type 0
  AreAmong xs = (n t : ℕ) → HasStruct xs n t → HasStruct (cells d) n t

  among_left : (xs ys : List SeenCell) → AreAmong (xs ++ ys) → AreAmong xs
  among_left xs ys h n t w = h n t (struct_left n t xs ys w)

  among_right : (xs ys : List SeenCell) → AreAmong (xs ++ ys) → AreAmong ys
  among_right xs ys h n t w = h n t (struct_right n t xs ys w)

  -- From trees to cells.

  end_names : (t : ℕ) (e : End) → AreAmong (end_cells vs e) → NamesStruct tops (out-Tree (bare_end e)).symbol t
      → NamesOne (cells d) t (end_value vs e)
  end_names t (under (node c s ds ps)) sub h =
      let z : NamesStruct tops (CellSymbol s ds (slots_of ps)) t = rw (cell_top c s ds ps) at h in
      sub c t (inl (refl, z))
  end_names t (leaf Null) sub h = let z : ⊥ = rw (leaf_top Null) at h in z
  end_names t (leaf Uninit) sub h = let z : ⊥ = rw (leaf_top Uninit) at h in z
  end_names t (leaf Dangling) sub h = let z : ⊥ = rw (leaf_top Dangling) at h in z
  end_names t (leaf (At r)) sub h = let z : NamesStruct tops (Ref r) t = rw (leaf_top (At r)) at h in
      root_names vs d r t z

  names_points : (xs : List SeenCell) (t : ℕ) (v : Value) → NamesOne xs t v → PointsTo xs t v
  names_points xs t NullValue h = tt
  names_points xs t UninitValue h = tt
  names_points xs t DanglingValue h = tt
  names_points xs t (Cell n) h = h

  end_points : (t : ℕ) (e : End) → AreAmong (end_cells vs e) → FieldEnds tops t (out-Tree (bare_end e)).symbol
      → PointsTo (cells d) t (end_value vs e)
  end_points t (under (node c s ds ps)) sub h =
      let z : FieldEnds tops t (CellSymbol s ds (slots_of ps)) = rw (cell_top c s ds ps) at h in sub c t (inl (refl, z))
  end_points t (leaf Null) sub h = tt
  end_points t (leaf Uninit) sub h = tt
  end_points t (leaf Dangling) sub h = tt
  end_points t (leaf (At r)) sub h = let z : FieldEnds tops t (Ref r) = rw (leaf_top (At r)) at h in
      names_points (cells d) t (nth_value vs r) (root_names vs d r t z)

  end_dangles : (e : End) → (out-Tree (bare_end e)).symbol ≡ DanglingSymbol → end_value vs e ≡ DanglingValue
  end_dangles (under (node c s ds ps)) h =
      absurd (cell_is_no_leaf Dangling s ds (slots_of ps) (sym h ∙ cell_top c s ds ps))
  end_dangles (leaf u) h = ap (value_in vs) (one_leaf u Dangling (sym (leaf_top u) ∙ h))

  slots_fit : (s : ℕ) (ps : Parts) → AreAmong (below vs ps) → EndsFit face tops s (slots_of ps) (end_symbols ps)
      → SlotsFit face (cells d) s (seen vs ps)
  slots_fit s no_parts sub h = tt
  slots_fit s (field f e ps) sub h = (
    (h.0.0, h.0.1, end_points h.0.0 e (among_left (end_cells vs e) (below vs ps) sub) h.0.2),
    slots_fit s ps (among_right (end_cells vs e) (below vs ps) sub) h.1,
  )
  slots_fit s (link c inside e ps) sub h = (
    (
      h.0.0,
      h.0.1,
      h.0.2,
      h.0.3,
      h.0.4,
      elim h.0.5 [
        | inl k ↦ inl (end_names h.0.1 e (among_left (end_cells vs e) (below vs ps) sub) k)
        | inr k ↦ inr
            (end_dangles e k.0, k.1)
      ],
    ),
    slots_fit s ps (among_right (end_cells vs e) (below vs ps) sub) h.1,
  )
  slots_fit s (hook c inside ps) sub h = (h.0, slots_fit s ps sub h.1)

  abbrev AreSpots : List Spot → Type 0
  AreSpots xs = Every (IsFilledSpot face tops) xs

  abbrev AreCells : List SeenCell → Type 0
  AreCells xs = Every (IsFilledCell face (cells d)) xs

  mutual
    tree_fits : (n : Node) (above : List ℕ) → NodeGiven n above → AreAmong (tree_cells vs n)
        → AreSpots (node_spots face.boxes n above) → AreCells (tree_cells vs n)
    tree_fits (node c s ds ps) above g sub h =
        let e = slots_seen_are vs ps in (
          record {
            slots = slots_fit s ps (λ n t w. sub n t (inr w)) h.0.ends;
            order = rw e h.0.order;
            once = rw e (chain h.0.once (after (flat_map (covers face.boxes) (slots_of ps)) g.0));
          },
          parts_fit ps g.1 (λ n t w. sub n t (inr w)) h.1,
        )

    parts_fit : (ps : Parts) → PartsGiven ps → AreAmong (below vs ps) → AreSpots (parts_spots face.boxes ps)
        → AreCells (below vs ps)
    parts_fit no_parts g sub h = tt
    parts_fit (field f e ps) g sub h =
        let k = every_parts (IsFilledSpot face tops) (end_spots face.boxes [] e) (parts_spots face.boxes ps) h in
        every_append (IsFilledCell face (cells d)) (end_cells vs e) (below vs ps)
        (end_fits [] e g.0 (among_left (end_cells vs e) (below vs ps) sub) k.0)
        (parts_fit ps g.1 (among_right (end_cells vs e) (below vs ps) sub) k.1)
    parts_fit (link b i e ps) g sub h =
        let k = every_parts (IsFilledSpot face tops) (end_spots face.boxes (gives_out_of face.boxes b) e)
        (parts_spots face.boxes ps) h in
        every_append (IsFilledCell face (cells d)) (end_cells vs e) (below vs ps)
        (end_fits (gives_out_of face.boxes b) e g.0 (among_left (end_cells vs e) (below vs ps) sub) k.0)
        (parts_fit ps g.1 (among_right (end_cells vs e) (below vs ps) sub) k.1)
    parts_fit (hook b i ps) g sub h = parts_fit ps g sub h

    end_fits : (g : List ℕ) (e : End) → EndGiven g e → AreAmong (end_cells vs e) → AreSpots (end_spots face.boxes g e)
        → AreCells (end_cells vs e)
    end_fits g (under n) k sub h = tree_fits n g k sub h
    end_fits g (leaf t) k sub h = tt

  forest_fits : (ns : Nodes) (r : ℕ) → ForestGiven ns r → AreAmong (forest_cells vs ns)
      → TreesFilled face (bares d) tops r (bares ns) → AreCells (forest_cells vs ns)
  forest_fits no_nodes r g sub h = tt
  forest_fits (more n ns) r g sub h =
      every_append (IsFilledCell face (cells d)) (tree_cells vs n) (forest_cells vs ns)
      (tree_fits n (given_at face.boxes (bares d) r) g.0 (among_left (tree_cells vs n) (forest_cells vs ns) sub)
      (subst (λ (x : List Spot). AreSpots x) (spots_are face.boxes n (given_at face.boxes (bares d) r)) h.0))
      (forest_fits ns (suc r) g.1 (among_right (tree_cells vs n) (forest_cells vs ns) sub) h.1)

  -- where the trees are filled, so is each cell
  pub cells_filled : TreesFilled face (bares d) (node_structs d) 0 (bares d)
      → Every (IsFilledCell face (cells d)) (cells d)
  cells_filled h = forest_fits d 0 all_given (λ n t w. w) h

  -- From cells to trees.

  root_back : (t r : ℕ) → r < count d → NamesOne (cells d) t (nth_value vs r) → slice_get tops r ≡ Some t
  root_back t r l h =
      let k = root_cell vs d r l in
      let v = k.value in
      let z : HasStruct (cells d) k.cell t = rw v at h in
      let e : k.struct ≡ t = one_struct k.cell k.struct t (cells d) apart.cells k.has z in
      k.top ∙ ap (λ (y : ℕ). Some y) e

  names_back : (t : ℕ) (e : End) → AllBelow (count d) (end_refs e) → AreAmong (end_cells vs e)
      → NamesOne (cells d) t (end_value vs e) → NamesStruct tops (out-Tree (bare_end e)).symbol t
  names_back t (under (node c s ds ps)) l sub h =
      rw (cell_top c s ds ps) (one_struct c s t (cells d) apart.cells (sub c s (inl (refl, refl))) h)
  names_back t (leaf Null) l sub h = absurd h
  names_back t (leaf Uninit) l sub h = absurd h
  names_back t (leaf Dangling) l sub h = absurd h
  names_back t (leaf (At r)) l sub h = rw (leaf_top (At r)) (root_back t r l.0 h)

  -- a root that is there is a cell
  points_names : (t r : ℕ) → r < count d → PointsTo (cells d) t (nth_value vs r) → NamesOne (cells d) t (nth_value vs r)
  points_names t r l h =
      let k = root_cell vs d r l in
      let v = k.value in
      let z : HasStruct (cells d) k.cell t = rw v at h in
      rw v z

  points_back : (t : ℕ) (e : End) → AllBelow (count d) (end_refs e) → AreAmong (end_cells vs e)
      → PointsTo (cells d) t (end_value vs e) → FieldEnds tops t (out-Tree (bare_end e)).symbol
  points_back t (under (node c s ds ps)) l sub h =
      rw (cell_top c s ds ps) (one_struct c s t (cells d) apart.cells (sub c s (inl (refl, refl))) h)
  points_back t (leaf Null) l sub h = rw (leaf_top Null) tt
  points_back t (leaf Uninit) l sub h = rw (leaf_top Uninit) tt
  points_back t (leaf Dangling) l sub h = rw (leaf_top Dangling) tt
  points_back t (leaf (At r)) l sub h = rw (leaf_top (At r)) (root_back t r l.0 (points_names t r l.0 h))

  dangles_back : (e : End) → AllBelow (count d) (end_refs e) → end_value vs e ≡ DanglingValue
      → (out-Tree (bare_end e)).symbol ≡ DanglingSymbol
  dangles_back (under n) l h = let z : 3 ≡ 2 = ap value_kind h in absurd (omega (arith, z))
  dangles_back (leaf Null) l h = let z : 0 ≡ 2 = ap value_kind h in absurd (omega (arith, z))
  dangles_back (leaf Uninit) l h = let z : 1 ≡ 2 = ap value_kind h in absurd (omega (arith, z))
  dangles_back (leaf Dangling) l h = leaf_top Dangling
  dangles_back (leaf (At r)) l h =
      let k = root_cell vs d r l.0 in
      let z : 3 ≡ 2 = ap value_kind (sym k.value ∙ h) in absurd (omega (arith, z))

  slots_back : (s : ℕ) (ps : Parts) → AllBelow (count d) (refs_of ps) → AreAmong (below vs ps)
      → SlotsFit face (cells d) s (seen vs ps) → EndsFit face tops s (slots_of ps) (end_symbols ps)
  slots_back s no_parts l sub h = tt
  slots_back s (field f e ps) l sub h = (
    (
      h.0.0,
      h.0.1,
      points_back h.0.0 e (below_left (count d) (end_refs e) (refs_of ps) l)
          (among_left (end_cells vs e) (below vs ps) sub) h.0.2,
    ),
    slots_back s ps (below_right (count d) (end_refs e) (refs_of ps) l)
        (among_right (end_cells vs e) (below vs ps) sub) h.1,
  )
  slots_back s (link b i e ps) l sub h = (
    (
      h.0.0,
      h.0.1,
      h.0.2,
      h.0.3,
      h.0.4,
      elim h.0.5 [
        | inl k ↦ inl
            (names_back h.0.1 e (below_left (count d) (end_refs e) (refs_of ps) l)
            (among_left (end_cells vs e) (below vs ps) sub) k)
        | inr k ↦ inr
            (dangles_back e (below_left (count d) (end_refs e) (refs_of ps) l) k.0, k.1)
      ],
    ),
    slots_back s ps (below_right (count d) (end_refs e) (refs_of ps) l)
        (among_right (end_cells vs e) (below vs ps) sub) h.1,
  )
  slots_back s (hook b i ps) l sub h = (h.0, slots_back s ps l sub h.1)

  mutual
    tree_back : (n : Node) (above : List ℕ) → NodeGiven n above → AllBelow (count d) (refs n)
        → AreAmong (tree_cells vs n) → AreCells (tree_cells vs n) → AreSpots (node_spots face.boxes n above)
    tree_back (node c s ds ps) above g l sub h =
        let e = slots_seen_are vs ps in (
          record {
            ends = slots_back s ps l (λ n t w. sub n t (inr w)) h.0.slots;
            order = (let z = h.0.order in rw e at z);
            once =
                (let z = h.0.once in chain (rw e at z) (after (flat_map (covers face.boxes) (slots_of ps)) (back g.0)));
          },
          parts_back ps g.1 l (λ n t w. sub n t (inr w)) h.1,
        )

    parts_back : (ps : Parts) → PartsGiven ps → AllBelow (count d) (refs_of ps) → AreAmong (below vs ps)
        → AreCells (below vs ps) → AreSpots (parts_spots face.boxes ps)
    parts_back no_parts g l sub h = tt
    parts_back (field f e ps) g l sub h =
        let k = every_parts (IsFilledCell face (cells d)) (end_cells vs e) (below vs ps) h in
        every_append (IsFilledSpot face tops) (end_spots face.boxes [] e) (parts_spots face.boxes ps)
        (end_back [] e g.0 (below_left (count d) (end_refs e) (refs_of ps) l)
        (among_left (end_cells vs e) (below vs ps) sub) k.0)
        (parts_back ps g.1 (below_right (count d) (end_refs e) (refs_of ps) l)
        (among_right (end_cells vs e) (below vs ps) sub) k.1)
    parts_back (link b i e ps) g l sub h =
        let k = every_parts (IsFilledCell face (cells d)) (end_cells vs e) (below vs ps) h in
        every_append (IsFilledSpot face tops) (end_spots face.boxes (gives_out_of face.boxes b) e)
        (parts_spots face.boxes ps)
        (end_back (gives_out_of face.boxes b) e g.0 (below_left (count d) (end_refs e) (refs_of ps) l)
        (among_left (end_cells vs e) (below vs ps) sub) k.0)
        (parts_back ps g.1 (below_right (count d) (end_refs e) (refs_of ps) l)
        (among_right (end_cells vs e) (below vs ps) sub) k.1)
    parts_back (hook b i ps) g l sub h = parts_back ps g l sub h

    end_back : (g : List ℕ) (e : End) → EndGiven g e → AllBelow (count d) (end_refs e) → AreAmong (end_cells vs e)
        → AreCells (end_cells vs e) → AreSpots (end_spots face.boxes g e)
    end_back g (under n) k l sub h = tree_back n g k l sub h
    end_back g (leaf t) k l sub h = tt

  forest_back : (ns : Nodes) (r : ℕ) → ForestGiven ns r → AllBelow (count d) (all_refs ns)
      → AreAmong (forest_cells vs ns) → AreCells (forest_cells vs ns) → TreesFilled face (bares d) tops r (bares ns)
  forest_back no_nodes r g l sub h = tt
  forest_back (more n ns) r g l sub h =
      let k = every_parts (IsFilledCell face (cells d)) (tree_cells vs n) (forest_cells vs ns) h in (
        subst (λ (x : List Spot). AreSpots x) (sym (spots_are face.boxes n (given_at face.boxes (bares d) r)))
            (tree_back n (given_at face.boxes (bares d) r) g.0 (below_left (count d) (refs n) (all_refs ns) l)
            (among_left (tree_cells vs n) (forest_cells vs ns) sub) k.0),
        forest_back ns (suc r) g.1 (below_right (count d) (refs n) (all_refs ns) l)
            (among_right (tree_cells vs n) (forest_cells vs ns) sub) k.1,
      )

  -- where each cell is filled, so are the trees, if they refer to roots that are there
  pub trees_filled : AllBelow (count d) (all_refs d) → Every (IsFilledCell face (cells d)) (cells d)
      → TreesFilled face (bares d) (node_structs d) 0 (bares d)
  trees_filled l h = forest_back d 0 all_given l (λ n t w. w) h
