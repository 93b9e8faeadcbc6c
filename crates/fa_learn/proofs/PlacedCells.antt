-- Filled cells whose references are moved: where each end still names a cell of the same struct, they are right.
use Rattle.std.proofs.Common.{◌≡◌, inl, inr, ℕ, List, [], Some, slice_get, sym, subst, ◌∙◌}
use Rattle.fore_base.specs.Lists.{Every}
use Rattle.fore_base.proofs.ListLemmas.{every_append, every_parts}
use Rattle.ta_core.specs.declared.symbol.Symbol.{Symbol}
use Rattle.ta_core.specs.declared.symbol.Symbol.TheVariants.{Null as NullSymbol, Uninit as UninitSymbol}
use Rattle.ta_core.specs.declared.symbol.Symbol.TheVariants.{Dangling as DanglingSymbol, Ref, Cell as CellSymbol}
use Rattle.ta_core.specs.declared.tree.Tree.{Tree, out-Tree}
use Rattle.fa_core.specs.declared.faces.Face.{Face}
use Rattle.fa_core.specs.declared.forest.Target.{Target}
use Rattle.fa_core.specs.declared.forest.Target.TheVariants.{Null, Uninit, Dangling, At}
use Rattle.fa_core.specs.Dressed.{Node, Parts, End, node, no_parts, field, link, hook, under, leaf, refs, refs_of, end_refs}
use Rattle.fa_core.specs.Filled.{NamesStruct, FieldEnds, EndsFit, IsFilledSpot, IsInOrder}
use Rattle.fa_core.specs.Member.{bare_end, slots_of}
use Rattle.fa_core.specs.Placed.{placed, placed_parts, placed_end}
use Rattle.fa_core.specs.Ways.{gives_out_of}
use Rattle.fa_core.proofs.Dressing.{cell_is_no_leaf, cell_top, leaf_top}
use Rattle.fa_core.proofs.NodeSpots.{end_spots, end_symbols, node_spots, one_leaf, parts_spots}
use Rattle.fa_core.proofs.Placing.{slots_placed}
use Rattle.fa_box_rules.specs.Cells.{MayName, FieldMayEnd, EndsMayFit, IsRightCell}

module _ (face : Face) (tops : List ℕ) (ts : List Tree) (f : ℕ → ℕ) where
  abbrev φ : ℕ → Target
  φ = λ k. At (f k)

  -- the moved reference names a tree with a top of the struct that root k has
  abbrev pub IsNamed : ℕ → Type 0
  IsNamed k = (s : ℕ) → slice_get tops k ≡ Some s → MayName ts (Ref (f k)) s

  abbrev top_of : End → Symbol
  top_of e = (out-Tree (bare_end e)).symbol

  names_end : (e : End) (s : ℕ) → Every IsNamed (end_refs e) → NamesStruct tops (top_of e) s
      → MayName ts (top_of (placed_end φ e)) s
  names_end (under (node c u ds ps)) s w h =
      let k : NamesStruct tops (CellSymbol u ds (slots_of ps)) s = rw (cell_top c u ds ps) at h in
      rw (cell_top c u ds (placed_parts φ ps)) k
  names_end (leaf Null) s w h = absurd (let z : NamesStruct tops NullSymbol s = rw (leaf_top Null) at h in z)
  names_end (leaf Uninit) s w h = absurd (let z : NamesStruct tops UninitSymbol s = rw (leaf_top Uninit) at h in z)
  names_end (leaf Dangling) s w h =
      absurd (let z : NamesStruct tops DanglingSymbol s = rw (leaf_top Dangling) at h in z)
  names_end (leaf (At k)) s w h =
      let z : NamesStruct tops (Ref k) s = rw (leaf_top (At k)) at h in rw (leaf_top (At (f k))) (w.0 s z)

  field_end : (e : End) (s : ℕ) → Every IsNamed (end_refs e) → FieldEnds tops s (top_of e)
      → FieldMayEnd ts s (top_of (placed_end φ e))
  field_end (under (node c u ds ps)) s w h =
      let k : FieldEnds tops s (CellSymbol u ds (slots_of ps)) = rw (cell_top c u ds ps) at h in
      rw (cell_top c u ds (placed_parts φ ps)) k
  field_end (leaf Null) s w h = rw (leaf_top Null) tt
  field_end (leaf Uninit) s w h = rw (leaf_top Uninit) tt
  field_end (leaf Dangling) s w h = rw (leaf_top Dangling) tt
  field_end (leaf (At k)) s w h =
      let z : FieldEnds tops s (Ref k) = rw (leaf_top (At k)) at h in rw (leaf_top (At (f k))) (w.0 s z)

  dangling_end : (e : End) → top_of e ≡ DanglingSymbol → top_of (placed_end φ e) ≡ DanglingSymbol
  dangling_end (under (node c u ds ps)) h =
      absurd (cell_is_no_leaf Dangling u ds (slots_of ps) (sym h ∙ cell_top c u ds ps))
  dangling_end (leaf t) h =
      let e : t ≡ Dangling = one_leaf t Dangling (sym (leaf_top t) ∙ h) in
      subst (λ (u : Target). top_of (placed_end φ (leaf u)) ≡ DanglingSymbol) (sym e) (leaf_top Dangling)

  pub ends_right : (s : ℕ) (ps : Parts) → Every IsNamed (refs_of ps) → EndsFit face tops s (slots_of ps) (end_symbols ps)
      → EndsMayFit face ts s (slots_of (placed_parts φ ps)) (end_symbols (placed_parts φ ps))
  ends_right s no_parts w h = tt
  ends_right s (field g e ps) w h =
      let k = every_parts IsNamed (end_refs e) (refs_of ps) w in
      ((h.0.0, h.0.1, field_end e h.0.0 k.0 h.0.2), ends_right s ps k.1 h.1)
  ends_right s (link b i e ps) w h =
      let k = every_parts IsNamed (end_refs e) (refs_of ps) w in (
        (
          h.0.0,
          h.0.1,
          h.0.2,
          h.0.3,
          h.0.4,
          (elim h.0.5 [ inl n ↦ inl (names_end e h.0.1 k.0 n) | inr d ↦ inr (dangling_end e d.0, d.1) ]),
        ),
        ends_right s ps k.1 h.1,
      )
  ends_right s (hook b i ps) w h = (h.0, ends_right s ps w h.1)

  mutual
    pub node_right : (n : Node) (above : List ℕ) → Every IsNamed (refs n)
        → Every (IsFilledSpot face tops) (node_spots face.boxes n above)
        → Every (IsRightCell face ts) (node_spots face.boxes (placed φ n) above)
    node_right (node c s ds ps) above w h = (
      record {
        ends = ends_right s ps w h.0.ends;
        order = subst (IsInOrder face.boxes) (sym (slots_placed φ ps)) h.0.order;
        once = rw (slots_placed φ ps) h.0.once;
      },
      parts_right ps w h.1,
    )

    pub parts_right : (ps : Parts) → Every IsNamed (refs_of ps)
        → Every (IsFilledSpot face tops) (parts_spots face.boxes ps)
        → Every (IsRightCell face ts) (parts_spots face.boxes (placed_parts φ ps))
    parts_right no_parts w h = tt
    parts_right (field g e ps) w h =
        let k = every_parts IsNamed (end_refs e) (refs_of ps) w in
        let m = every_parts (IsFilledSpot face tops) (end_spots face.boxes [] e) (parts_spots face.boxes ps) h in
        every_append (IsRightCell face ts) (end_spots face.boxes [] (placed_end φ e))
        (parts_spots face.boxes (placed_parts φ ps)) (end_right [] e k.0 m.0) (parts_right ps k.1 m.1)
    parts_right (link b i e ps) w h =
        let g = gives_out_of face.boxes b in
        let k = every_parts IsNamed (end_refs e) (refs_of ps) w in
        let m = every_parts (IsFilledSpot face tops) (end_spots face.boxes g e) (parts_spots face.boxes ps) h in
        every_append (IsRightCell face ts) (end_spots face.boxes g (placed_end φ e))
        (parts_spots face.boxes (placed_parts φ ps)) (end_right g e k.0 m.0) (parts_right ps k.1 m.1)
    parts_right (hook b i ps) w h = parts_right ps w h

    end_right : (g : List ℕ) (e : End) → Every IsNamed (end_refs e)
        → Every (IsFilledSpot face tops) (end_spots face.boxes g e)
        → Every (IsRightCell face ts) (end_spots face.boxes g (placed_end φ e))
    end_right g (under n) w h = node_right n g w h
    end_right g (leaf t) w h = tt
