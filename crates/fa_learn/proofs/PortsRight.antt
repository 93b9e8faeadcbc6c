-- The cells of a box that is between two roots are right: those below its ports are cells of the forest, and what a port
-- has is some of what the root has.
use Rattle.std.proofs.Common.{◌≡◌, ◌+◌, ℕ}
use Rattle.std.proofs.Common.{List, [], ◌∷◌, ◌++◌, flat_map, Some, slice_get, refl, sym, ap, ap₂, subst, ◌∙◌, append-nil, arith}
use Rattle.std.proofs.lemmas.Option.{same_Some}
use Rattle.fore_base.specs.Lists.{Every, IsDistinct}
use Rattle.fore_base.proofs.ListLemmas.{in_every}
use Rattle.fore_base.specs.Shapes.{targets_of}
use Rattle.fore_base.specs.declared.store.Datum.{Datum}
use Rattle.ta_core.specs.declared.symbol.Slot.{Slot}
use Rattle.ta_core.specs.declared.symbol.Symbol.{Symbol}
use Rattle.ta_core.specs.declared.symbol.Symbol.TheVariants.{Ref}
use Rattle.ta_core.specs.declared.tree.Tree.{Tree}
use Rattle.fa_core.specs.declared.faces.BoxFace.{BoxFace}
use Rattle.fa_core.specs.declared.faces.Face.{Face}
use Rattle.fa_core.specs.declared.forest.Forest.{Forest}
use Rattle.fa_core.specs.declared.forest.Target.TheVariants.{At}
use Rattle.fa_core.specs.Choices.{bares}
use Rattle.fa_core.specs.Dressed.{Node, Parts, Nodes, node, no_nodes, more, refs_of}
use Rattle.fa_core.specs.Filled.{IsFilled, IsFilledSpot, IsInOrder, IsTopped, Spot, covers, given_at, spots}
use Rattle.fa_core.specs.Filled.{ChoiceFilled}
use Rattle.fa_core.specs.Folding.{symbol_slots}
use Rattle.fa_core.specs.Member.{bare, slots_of}
use Rattle.fa_core.specs.Placed.{placed_parts}
use Rattle.fa_core.proofs.Dressing.{cell_top, numbered_distinct}
use Rattle.fa_core.proofs.Given.{all_tips, tip_to, tips, tips_of}
use Rattle.fa_core.proofs.GivenTips.{given_tips}
use Rattle.fa_core.proofs.NodeSpots.{node_spots, spots_are}
use Rattle.fa_core.proofs.Permuted.{distinct_moved}
use Rattle.fa_core.proofs.Placing.{slots_placed}
use Rattle.fa_core.proofs.Rearranging.{flat_map-append}
use Rattle.fa_box_rules.specs.Cells.{AreRight, IsRightUnder, MayName}
use Rattle.fa_box_rules.specs.Rules.{root_fields}
use Rattle.fa_box_rules.proofs.SoundBoxes.{top_same}
use Rattle.fa_folding.specs.Folded.{taken_parts}
use Rattle.fa_learn.specs.Learning.{IsBetween, port_of}
use Rattle.fa_learn.proofs.ChosenTrees.{filled_at, top_at}
use Rattle.fa_learn.proofs.Contained.{IsContained, contained_both, contained_chain, distinct_contained}
use Rattle.fa_learn.proofs.PlacedCells.{IsNamed, ends_right, parts_right}
use Rattle.fa_learn.proofs.PortGiven.{IsFar, far_parts, given_in_all, parts_moved}
use Rattle.fa_learn.proofs.PortsSeen.{AreSeen, input_port, is_input, is_output, near0, near1, not_equal, output_port}
use Rattle.fa_learn.proofs.PortsSeen.{port_node, there0, there1}
use Rattle.fa_learn.proofs.TakenParts.{covers_contained, given_contained, taken_ends, taken_order, taken_spots}

-- One port.
module _ (face : Face) (tops : List ℕ) (ts : List Tree) (f : ℕ → ℕ) (s : ℕ) (fs : List ℕ) (ps : Parts) where
  pub one_port : (c : ℕ) (ds : List Datum) (all above : List ℕ)
      → Every (IsFilledSpot face tops) (node_spots face.boxes (node c s ds ps) all)
      → Every (IsNamed face tops ts f) (refs_of (taken_parts fs ps)) → IsContained above all
      → IsRightUnder face ts (spots face.boxes (bare (port_node f s fs ps)) above)
  one_port c ds all above filled named fewer =
      let bs = face.boxes in
      let qs = taken_parts fs ps in
      let e = slots_placed (λ k. At (f k)) qs in
      let less : IsContained (flat_map (covers bs) (slots_of qs) ++ above) (flat_map (covers bs) (slots_of ps) ++ all) =
      contained_both (flat_map (covers bs) (slots_of qs)) (flat_map (covers bs) (slots_of ps)) above all
      (covers_contained fs bs ps) fewer in
      let once : IsDistinct (flat_map (covers bs) (slots_of qs) ++ above) =
      distinct_contained (flat_map (covers bs) (slots_of qs) ++ above) (flat_map (covers bs) (slots_of ps) ++ all) less
      (distinct_moved filled.0.once (numbered_distinct 0 (targets_of face.shapes.structs s))) in
      rw (spots_are bs (port_node f s fs ps) above) (
        record {
          ends = ends_right face tops ts f s qs named (taken_ends fs face tops s ps filled.0.ends);
          order = subst (λ (z : List Slot). IsInOrder bs z) (sym e) (taken_order fs bs ps filled.0.order);
          once = subst (λ (z : List Slot). IsDistinct (flat_map (covers bs) z ++ above)) (sym e) once;
        },
        parts_right face tops ts f qs named (taken_spots fs bs (IsFilledSpot face tops) ps filled.1),
      )

module _ (face : Face) (F : Forest) (i j : ℕ) (ins outs : List ℕ) (b : IsBetween F i j ins outs) (u0 u1 : Tree)
    (w : AreSeen F i j ins outs b u0 u1) where
  abbrev bs : List BoxFace
  bs = face.boxes

  abbrev p : ℕ → ℕ
  p = port_of i j

  abbrev m0 : Node
  m0 = port_node p b.in_shape ins w.ps0

  abbrev m1 : Node
  m1 = port_node p b.out_shape outs w.ps1

  abbrev pub ports : Nodes
  ports = more m0 (more m1 no_nodes)

  far_input : Every (IsFar bs i) (refs_of (taken_parts ins w.ps0))
  far_input = in_every (IsFar bs i) (refs_of (taken_parts ins w.ps0))
      (λ k h. rw (near0 F i j ins outs b u0 u1 w k h) (not_equal i j b.differ))

  far_output : Every (IsFar bs j) (refs_of (taken_parts outs w.ps1))
  far_output = in_every (IsFar bs j) (refs_of (taken_parts outs w.ps1))
      (λ k h. rw (near1 F i j ins outs b u0 u1 w k h) (not_equal j i (λ d. b.differ (sym d))))

  -- what box edges give to the ports: to the input what stands below the fields of the output, and the other way round
  pub given_input : given_at bs (bares ports) 0 ≡ flat_map (tip_to i) (tips_of bs (taken_parts outs w.ps1))
  given_input =
      given_tips bs 0 ports
      ∙ flat_map-append (tip_to 0) (tips bs m0) (all_tips bs (more m1 no_nodes))
      ∙ ap₂ (λ (x y : List ℕ). x ++ y)
      (parts_moved bs p i 0 (is_input i j) (taken_parts ins w.ps0) ∙ far_parts bs i (taken_parts ins w.ps0) far_input)
      (flat_map-append (tip_to 0) (tips bs m1) [] ∙ append-nil (flat_map (tip_to 0) (tips bs m1))
      ∙ parts_moved bs p i 0 (is_input i j) (taken_parts outs w.ps1))

  pub given_output : given_at bs (bares ports) 1 ≡ flat_map (tip_to j) (tips_of bs (taken_parts ins w.ps0))
  given_output =
      given_tips bs 1 ports
      ∙ flat_map-append (tip_to 1) (tips bs m0) (all_tips bs (more m1 no_nodes))
      ∙ ap₂ (λ (x y : List ℕ). x ++ y) (parts_moved bs p j 1 (is_output i j b.differ) (taken_parts ins w.ps0))
      (flat_map-append (tip_to 1) (tips bs m1) [] ∙ append-nil (flat_map (tip_to 1) (tips bs m1))
      ∙ parts_moved bs p j 1 (is_output i j b.differ) (taken_parts outs w.ps1)
      ∙ far_parts bs j (taken_parts outs w.ps1) far_output)
      ∙ append-nil (flat_map (tip_to j) (tips_of bs (taken_parts ins w.ps0)))

  fewer_input : IsContained (given_at bs (bares ports) 0) (given_at bs (bares w.nodes) i)
  fewer_input =
      rw (given_input, given_tips bs i w.nodes)
      (contained_chain (flat_map (tip_to i) (tips_of bs (taken_parts outs w.ps1)))
      (flat_map (tip_to i) (tips_of bs w.ps1)) (flat_map (tip_to i) (all_tips bs w.nodes))
      (given_contained outs bs i w.ps1)
      (given_in_all bs i w.nodes j (node w.c1 b.out_shape w.ds1 w.ps1) w.at1))

  fewer_output : IsContained (given_at bs (bares ports) 1) (given_at bs (bares w.nodes) j)
  fewer_output =
      rw (given_output, given_tips bs j w.nodes)
      (contained_chain (flat_map (tip_to j) (tips_of bs (taken_parts ins w.ps0)))
      (flat_map (tip_to j) (tips_of bs w.ps0)) (flat_map (tip_to j) (all_tips bs w.nodes))
      (given_contained ins bs j w.ps0)
      (given_in_all bs j w.nodes i (node w.c0 b.in_shape w.ds0 w.ps0) w.at0))

  -- the ports are cells of the structs of the roots
  pub top0 : IsTopped b.in_shape (bare m0)
  top0 =
      let qs = placed_parts (λ k. At (p k)) (taken_parts ins w.ps0) in
      ([], slots_of qs, cell_top 0 b.in_shape [] qs)

  pub top1 : IsTopped b.out_shape (bare m1)
  top1 =
      let qs = placed_parts (λ k. At (p k)) (taken_parts outs w.ps1) in
      ([], slots_of qs, cell_top 0 b.out_shape [] qs)

  module _ (filled : IsFilled face F) where
    f : ChoiceFilled face F (bares w.nodes)
    f = filled.trees (bares w.nodes) w.choice

    in_top : slice_get f.tops i ≡ Some b.in_shape
    in_top = top_at (bares w.nodes) f.tops i b.in_shape (bare (node w.c0 b.in_shape w.ds0 w.ps0)) f.are
        (there0 F i j ins outs b u0 u1 w)
        (w.ds0, slots_of w.ps0, cell_top w.c0 b.in_shape w.ds0 w.ps0)

    out_top : slice_get f.tops j ≡ Some b.out_shape
    out_top = top_at (bares w.nodes) f.tops j b.out_shape (bare (node w.c1 b.out_shape w.ds1 w.ps1)) f.are
        (there1 F i j ins outs b u0 u1 w)
        (w.ds1, slots_of w.ps1, cell_top w.c1 b.out_shape w.ds1 w.ps1)

    named_input : IsNamed face f.tops (bares ports) p i
    named_input s e =
        subst (λ (k : ℕ). MayName (bares ports) (Ref k) s) (sym (input_port i j)) (
          bare m0,
          refl,
          (λ u h. top_same (bare m0) u b.in_shape h top0 ∙ same_Some b.in_shape s (sym in_top ∙ e)),
        )

    named_output : IsNamed face f.tops (bares ports) p j
    named_output s e =
        subst (λ (k : ℕ). MayName (bares ports) (Ref k) s) (sym (output_port i j b.differ)) (
          bare m1,
          refl,
          (λ u h. top_same (bare m1) u b.out_shape h top1 ∙ same_Some b.out_shape s (sym out_top ∙ e)),
        )

    filled0 : Every (IsFilledSpot face f.tops)
        (node_spots bs (node w.c0 b.in_shape w.ds0 w.ps0) (given_at bs (bares w.nodes) i))
    filled0 = subst (λ (l : List Spot). Every (IsFilledSpot face f.tops) l)
        (spots_are bs (node w.c0 b.in_shape w.ds0 w.ps0) (given_at bs (bares w.nodes) i))
        (let e : 0 + i ≡ i = omega arith in
        subst (λ (n : ℕ). Every (IsFilledSpot face f.tops)
        (spots bs (bare (node w.c0 b.in_shape w.ds0 w.ps0)) (given_at bs (bares w.nodes) n))) e
        (filled_at face (bares w.nodes) f.tops 0 (bares w.nodes) i (bare (node w.c0 b.in_shape w.ds0 w.ps0)) f.cells
        (there0 F i j ins outs b u0 u1 w)))

    filled1 : Every (IsFilledSpot face f.tops)
        (node_spots bs (node w.c1 b.out_shape w.ds1 w.ps1) (given_at bs (bares w.nodes) j))
    filled1 = subst (λ (l : List Spot). Every (IsFilledSpot face f.tops) l)
        (spots_are bs (node w.c1 b.out_shape w.ds1 w.ps1) (given_at bs (bares w.nodes) j))
        (let e : 0 + j ≡ j = omega arith in
        subst (λ (n : ℕ). Every (IsFilledSpot face f.tops)
        (spots bs (bare (node w.c1 b.out_shape w.ds1 w.ps1)) (given_at bs (bares w.nodes) n))) e
        (filled_at face (bares w.nodes) f.tops 0 (bares w.nodes) j (bare (node w.c1 b.out_shape w.ds1 w.ps1)) f.cells
        (there1 F i j ins outs b u0 u1 w)))

    pub ports_right : AreRight face (bares ports) 0 2 (bares ports)
    ports_right = (
      one_port face f.tops (bares ports) p b.in_shape ins w.ps0 w.c0 w.ds0 (given_at bs (bares w.nodes) i)
          (given_at bs (bares ports) 0) filled0
          (in_every (IsNamed face f.tops (bares ports) p) (refs_of (taken_parts ins w.ps0))
          (λ k h. subst (IsNamed face f.tops (bares ports) p) (sym (near0 F i j ins outs b u0 u1 w k h)) named_output))
          fewer_input,
      (
        one_port face f.tops (bares ports) p b.out_shape outs w.ps1 w.c1 w.ds1 (given_at bs (bares w.nodes) j)
            (given_at bs (bares ports) 1) filled1
            (in_every (IsNamed face f.tops (bares ports) p) (refs_of (taken_parts outs w.ps1))
            (λ k h. subst (IsNamed face f.tops (bares ports) p) (sym (near1 F i j ins outs b u0 u1 w k h)) named_input))
            fewer_output,
        tt,
      ),
    )

    -- so for the trees of the box
    pub seen_right : AreRight face (u0 ∷ u1 ∷ []) 0 2 (u0 ∷ u1 ∷ [])
    seen_right =
        subst (λ (l : List Tree). AreRight face l 0 2 l)
        (ap₂ (λ (x y : Tree). x ∷ y ∷ []) (sym w.is0) (sym w.is1)) ports_right

    -- no field is there twice at a port
    pub once_input : IsDistinct (root_fields bs (u0 ∷ u1 ∷ []) 0)
    once_input =
        let qs = placed_parts (λ k. At (p k)) (taken_parts ins w.ps0) in
        let o = (subst (λ (l : List Spot). IsRightUnder face (bares ports) l)
        (spots_are bs m0 (given_at bs (bares ports) 0)) ports_right.0).0.once in
        subst (λ (l : List ℕ). IsDistinct l)
        (ap (λ (y : Symbol). flat_map (covers bs) (symbol_slots y) ++ given_at bs (bares ports) 0)
        (sym (cell_top 0 b.in_shape [] qs))
        ∙ ap₂ (λ (x y : Tree). root_fields bs (x ∷ y ∷ []) 0) (sym w.is0) (sym w.is1)) o

    pub once_output : IsDistinct (root_fields bs (u0 ∷ u1 ∷ []) 1)
    once_output =
        let qs = placed_parts (λ k. At (p k)) (taken_parts outs w.ps1) in
        let o = (subst (λ (l : List Spot). IsRightUnder face (bares ports) l)
        (spots_are bs m1 (given_at bs (bares ports) 1)) ports_right.1.0).0.once in
        subst (λ (l : List ℕ). IsDistinct l)
        (ap (λ (y : Symbol). flat_map (covers bs) (symbol_slots y) ++ given_at bs (bares ports) 1)
        (sym (cell_top 0 b.out_shape [] qs))
        ∙ ap₂ (λ (x y : Tree). root_fields bs (x ∷ y ∷ []) 1) (sym w.is0) (sym w.is1)) o
