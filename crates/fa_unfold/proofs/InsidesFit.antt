-- The slots of an inside fit where it is put in the place of an edge.
use Rattle.std.proofs.Common.{◌≡◌, ◌⊎◌, inl, inr, ℕ, suc, List, [], ◌∷◌, ◌++◌, map, refl, sym, ap, subst, ◌∙◌, Some}
use Rattle.std.proofs.Common.{slice_get}
use Rattle.fore_base.specs.Lists.{IsIn, Every, IsDistinct}
use Rattle.fore_base.specs.declared.shape.Shapes.{Shapes}
use Rattle.fore_base.specs.declared.store.Value.{Value}
use Rattle.fore_base.specs.declared.store.Value.TheVariants.{Dangling as DanglingValue}
use Rattle.fore_base.proofs.ListLemmas.{every_append, every_parts, in_left, in_right}
use Rattle.ta_core.specs.declared.symbol.Symbol.TheVariants.{Dangling as DanglingSymbol, Ref, Cell as CellSymbol}
use Rattle.ta_core.specs.declared.tree.Tree.{Tree, out-Tree}
use Rattle.fa_core.specs.declared.faces.BoxFace.{BoxFace}
use Rattle.fa_core.specs.declared.faces.Face.{Face}
use Rattle.fa_core.specs.declared.forest.Target.{Target}
use Rattle.fa_core.specs.declared.forest.Target.TheVariants.{Null, Uninit, Dangling, At}
use Rattle.fa_core.specs.Boxes.{InsideFilled}
use Rattle.fa_core.specs.Choices.{bares}
use Rattle.fa_core.specs.Dressed.{Node, Parts, End, Nodes, node, no_parts, field, link, hook, under, leaf, no_nodes}
use Rattle.fa_core.specs.Dressed.{more}
use Rattle.fa_core.specs.Dressed.{end_value, value_in, nth_value, SeenField, SeenLink, SeenHook, SeenCell}
use Rattle.fa_core.specs.Filled.{NamesStruct, FieldEnds, EndsFit, IsFilledSpot, Spot, face_of, given_at}
use Rattle.fa_core.specs.Member.{bare_end, slots_of}
use Rattle.fa_core.specs.Ways.{gives_out_of, fields_out}
use Rattle.fa_core.proofs.Dressing.{cell_top, leaf_top, cell_is_no_leaf}
use Rattle.fa_core.proofs.Given.{Tip, tips, tips_of, end_tips, all_tips}
use Rattle.fa_core.proofs.NodeSpots.{node_spots, parts_spots, end_spots, end_symbols, spots_are, one_leaf}
use Rattle.fa_core.proofs.SeenCells.{HasStruct, NamesOne, PointsTo, SlotsFit, one_struct, cell_number}
use Rattle.fa_unfold.specs.Opens.{Item, tree_items, slot_items, end_items, forest_items}
use Rattle.fa_unfold.proofs.OpenedFits.{IsThere, Fits}

module _ (S : Shapes) (bs0 bs : List BoxFace)
    (grow : (b : ℕ) (x : BoxFace) → face_of bs0 b ≡ Some x → face_of bs b ≡ Some x) (all : List SeenCell)
    (apart : IsDistinct (map cell_number all)) (tops : List ℕ) (vin : List Value)
    (points : (r t : ℕ) → slice_get tops r ≡ Some t → PointsTo all t (nth_value vin r)) (every_tip : List Tip)
    (names : (r t : ℕ) (g : List ℕ) → slice_get tops r ≡ Some t → IsIn (At r, g) every_tip
    → NamesOne all t (nth_value vin r) ⊎ ((nth_value vin r ≡ DanglingValue) × (g ≡ []))) where
  abbrev before : Face
  before = record { shapes = S; boxes = bs0 }

  abbrev face : Face
  face = record { shapes = S; boxes = bs }

  abbrev There : Item → Type 0
  There = IsThere face all

  abbrev Fit : Item → Type 0
  Fit = Fits face all

  abbrev ArePart : List Tip → Type 0
  ArePart ts = (p : Tip) → IsIn p ts → IsIn p every_tip

  part_left : (xs ys : List Tip) → ArePart (xs ++ ys) → ArePart xs
  part_left xs ys h p i = h p (in_left p xs ys i)

  part_right : (xs ys : List Tip) → ArePart (xs ++ ys) → ArePart ys
  part_right xs ys h p i = h p (in_right p xs ys i)

  field_points : (t : ℕ) (e : End) → Every There (end_items vin e)
      → FieldEnds tops t (out-Tree (bare_end e)).symbol → PointsTo all t (end_value vin e)
  field_points t (under (node c s ds ps)) w h =
      let z : FieldEnds tops t (CellSymbol s ds (slots_of ps)) = rw (cell_top c s ds ps) at h in
      subst (λ (k : ℕ). HasStruct all c k) z w.0
  field_points t (leaf Null) w h = tt
  field_points t (leaf Uninit) w h = tt
  field_points t (leaf Dangling) w h = tt
  field_points t (leaf (At r)) w h = let z : FieldEnds tops t (Ref r) = rw (leaf_top (At r)) at h in points r t z

  dangles : (u : Target) → (out-Tree (bare_end (leaf u))).symbol ≡ DanglingSymbol → value_in vin u ≡ DanglingValue
  dangles u h = ap (value_in vin) (one_leaf u Dangling (sym (leaf_top u) ∙ h))

  link_names : (g k : List ℕ) (t : ℕ) (e : End) → g ≡ k → Every There (end_items vin e) → ArePart (end_tips bs0 g e)
      → NamesStruct tops (out-Tree (bare_end e)).symbol t
      ⊎ (((out-Tree (bare_end e)).symbol ≡ DanglingSymbol) × (k ≡ []))
      → NamesOne all t (end_value vin e) ⊎ ((end_value vin e ≡ DanglingValue) × (k ≡ []))
  link_names g k t (under (node c s ds ps)) q w p (inl h) =
      let z : NamesStruct tops (CellSymbol s ds (slots_of ps)) t = rw (cell_top c s ds ps) at h in
      inl (subst (λ (v : ℕ). HasStruct all c v) z w.0)
  link_names g k t (under (node c s ds ps)) q w p (inr h) =
      absurd (cell_is_no_leaf Dangling s ds (slots_of ps) (sym h.0 ∙ cell_top c s ds ps))
  link_names g k t (leaf Null) q w p (inl h) = let z : ⊥ = rw (leaf_top Null) at h in absurd z
  link_names g k t (leaf Uninit) q w p (inl h) = let z : ⊥ = rw (leaf_top Uninit) at h in absurd z
  link_names g k t (leaf Dangling) q w p (inl h) = let z : ⊥ = rw (leaf_top Dangling) at h in absurd z
  link_names g k t (leaf (At r)) q w p (inl h) =
      let z : NamesStruct tops (Ref r) t = rw (leaf_top (At r)) at h in
      elim (names r t g z (p (At r, g) (inl refl))) [ inl v ↦ inl v | inr v ↦ inr (v.0, sym q ∙ v.1) ]
  link_names g k t (leaf u) q w p (inr h) = inr (dangles u h.0, h.1)

  at_struct : (c s : ℕ) → HasStruct all c s → (P : ℕ → Type 0) → P s → (t : ℕ) → HasStruct all c t → P t
  at_struct c s h P p t k = subst P (one_struct c s t all apart h k) p

  mutual
    node_fits : (n : Node) (above : List ℕ) → Every (IsFilledSpot before tops) (node_spots bs0 n above)
        → Every There (tree_items vin n) → ArePart (tips bs0 n) → Every Fit (tree_items vin n)
    node_fits (node c s ds ps) above h w p = (tt, parts_fits c s w.0 ps h.0.ends h.1 w.1 p)

    pub parts_fits : (c s : ℕ) → HasStruct all c s → (ps : Parts) → EndsFit before tops s (slots_of ps) (end_symbols ps)
        → Every (IsFilledSpot before tops) (parts_spots bs0 ps) → Every There (slot_items vin c ps)
        → ArePart (tips_of bs0 ps) → Every Fit (slot_items vin c ps)
    parts_fits c s i no_parts h k w p = tt
    parts_fits c s i (field f e ps) h k w p =
        let q = every_parts (IsFilledSpot before tops) (end_spots bs0 [] e) (parts_spots bs0 ps) k in
        let v = every_parts There (end_items vin e) (slot_items vin c ps) w.1 in (
          at_struct c s i (λ t. SlotsFit face all t (SeenField f (end_value vin e) ∷ []))
              ((h.0.0, h.0.1, field_points h.0.0 e v.0 h.0.2), tt),
          every_append Fit (end_items vin e) (slot_items vin c ps)
              (end_fits [] e q.0 v.0 (part_left (end_tips bs0 [] e) (tips_of bs0 ps) p))
              (parts_fits c s i ps h.1 q.1 v.1 (part_right (end_tips bs0 [] e) (tips_of bs0 ps) p)),
        )
    parts_fits c s i (link b d e ps) h k w p =
        let g : List ℕ = gives_out_of bs0 b in
        let q = every_parts (IsFilledSpot before tops) (end_spots bs0 (gives_out_of bs0 b) e) (parts_spots bs0 ps) k in
        let v = every_parts There (end_items vin e) (slot_items vin c ps) w.1 in
        let l = part_left (end_tips bs0 (gives_out_of bs0 b) e) (tips_of bs0 ps) p in (
          at_struct c s i (λ t. SlotsFit face all t (SeenLink b d (end_value vin e) ∷ [])) (
            (
              h.0.0,
              h.0.1,
              grow b h.0.0 h.0.2,
              h.0.3,
              h.0.4,
              link_names (gives_out_of bs0 b) h.0.0.gives_out h.0.1 e (ap fields_out h.0.2) v.0 l h.0.5,
            ),
            tt,
          ),
          every_append Fit (end_items vin e) (slot_items vin c ps) (end_fits (gives_out_of bs0 b) e q.0 v.0 l)
              (parts_fits c s i ps h.1 q.1 v.1 (part_right (end_tips bs0 (gives_out_of bs0 b) e) (tips_of bs0 ps) p)),
        )
    parts_fits c s i (hook b d ps) h k w p = (
      at_struct c s i (λ t. SlotsFit face all t (SeenHook b d ∷ []))
          ((h.0.0, grow b h.0.0 h.0.1, h.0.2, h.0.3), tt),
      parts_fits c s i ps h.1 k w.1 p,
    )

    end_fits : (g : List ℕ) (e : End) → Every (IsFilledSpot before tops) (end_spots bs0 g e)
        → Every There (end_items vin e) → ArePart (end_tips bs0 g e) → Every Fit (end_items vin e)
    end_fits g (under n) h w p = node_fits n g h w p
    end_fits g (leaf t) h w p = tt

  -- the inner roots from r on
  pub roots_fit : (ts : List Tree) (ns : Nodes) (r : ℕ) → InsideFilled before ts tops r [] (bares ns)
      → Every There (forest_items vin ns) → ArePart (all_tips bs0 ns) → Every Fit (forest_items vin ns)
  roots_fit ts no_nodes r h w p = tt
  roots_fit ts (more n ns) r h w p =
      let v = every_parts There (tree_items vin n) (forest_items vin ns) w in
      every_append Fit (tree_items vin n) (forest_items vin ns)
      (node_fits n (given_at bs0 ts r)
      (subst (λ (x : List Spot). Every (IsFilledSpot before tops) x) (spots_are bs0 n (given_at bs0 ts r)) h.0) v.0
      (part_left (tips bs0 n) (all_tips bs0 ns) p))
      (roots_fit ts ns (suc r) h.1 v.1 (part_right (tips bs0 n) (all_tips bs0 ns) p))
