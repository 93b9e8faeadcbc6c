-- The slots that a Link or a Hook gains where it is opened fit, and stand in order: its box is sound over those before
-- it.
use Rattle.std.proofs.Common.{◌≡◌, ◌⊎◌, inl, inr, ℕ, zero, suc, List, [], ◌∷◌, ◌++◌, map, flat_map, sym, ap, subst}
use Rattle.std.proofs.Common.{◌∙◌, Option, Some, None, slice_get, arith}
use Rattle.std.proofs.lemmas.Option.{none-some, same_Some}
use Rattle.fore_base.specs.Lists.{IsIn, Every, IsDistinct}
use Rattle.fore_base.specs.declared.shape.Shapes.{Shapes}
use Rattle.fore_base.specs.declared.store.Datum.{Datum}
use Rattle.fore_base.specs.declared.store.Value.{Value}
use Rattle.fore_base.specs.declared.store.Value.TheVariants.{Null as NullValue, Uninit as UninitValue}
use Rattle.fore_base.specs.declared.store.Value.TheVariants.{Dangling as DanglingValue, Cell}
use Rattle.fore_base.proofs.ListLemmas.{every_append, every_parts, in_left, in_right}
use Rattle.ta_core.specs.Auto.{Automaton}
use Rattle.ta_core.specs.declared.tree.Tree.{Tree}
use Rattle.fa_core.specs.declared.boxes.BoxDef.{BoxDef}
use Rattle.fa_core.specs.declared.faces.BoxFace.{BoxFace}
use Rattle.fa_core.specs.declared.faces.Face.{Face}
use Rattle.fa_core.specs.declared.forest.Target.TheVariants.{At}
use Rattle.fa_core.specs.Boxes.{InsideFits, InsideFilled, IsPortFilled, faces_of, port_structs, port_fields}
use Rattle.fa_core.specs.Choices.{bares}
use Rattle.fa_core.specs.Dressed.{Parts, Nodes, node, no_nodes, more, nth_value, roots_of, SeenCell}
use Rattle.fa_core.specs.Filled.{Spot, covers, given_at}
use Rattle.fa_core.specs.Member.{TreesOf, slots_of}
use Rattle.fa_core.specs.Rearranged.{Rearranged}
use Rattle.fa_core.proofs.Dressing.{choice_of}
use Rattle.fa_core.proofs.Given.{Tip, tips_of, all_tips}
use Rattle.fa_core.proofs.GivenTips.{given_tips}
use Rattle.fa_core.proofs.NodeSpots.{node_spots, spots_are}
use Rattle.fa_core.proofs.SeenCells.{HasStruct, NamesOne, PointsTo, cell_number, node_structs, tops_structs}
use Rattle.fa_facts.proofs.ForestFields.{idle_port}
use Rattle.fa_facts.proofs.RootGifts.{gift_none}
use Rattle.fa_unfold.specs.Opens.{tree_items, slot_items, forest_items}
use Rattle.fa_unfold.proofs.InsidesFit.{parts_fits, roots_fit}
use Rattle.fa_unfold.proofs.OpenedFits.{IsThere, Fits}
use Rattle.fa_unfold.proofs.Opening.{port_items}
use Rattle.fa_unfold.proofs.SlotsInOrder.{TopsHave, Ordered, grown_order, parts_spotted, roots_spotted}
use Rattle.fa_unfold.proofs.TableBoxes.{IsBoxOf}

abbrev first : List ℕ → ℕ
first [] = 0
first (n ∷ ns) = n

abbrev second : List ℕ → ℕ
second [] = 0
second (n ∷ ns) = first ns

abbrev value_kind : Value → ℕ
value_kind NullValue = 0
value_kind UninitValue = 1
value_kind DanglingValue = 2
value_kind (Cell k) = 3

names_points : (all : List SeenCell) (t : ℕ) (v : Value) → NamesOne all t v → PointsTo all t v
names_points all t NullValue h = tt
names_points all t UninitValue h = tt
names_points all t DanglingValue h = tt
names_points all t (Cell n) h = h

module _ (S : Shapes) (T : List BoxDef) (b : ℕ) (autos : List Automaton) (k : IsBoxOf S T b autos) where
  abbrev bs0 : List BoxFace
  bs0 = faces_of k.before

  abbrev bs : List BoxFace
  bs = faces_of T

  abbrev x : BoxFace
  x = k.def.face

  abbrev lower : Face
  lower = record { shapes = S; boxes = bs0 }

  abbrev face : Face
  face = record { shapes = S; boxes = bs }

  -- each dressed inside fits the face of the box
  pub inside_fits : (i : Nodes) → TreesOf T autos i → InsideFits lower x (bares i)
  inside_fits i h = k.sound.fits (bares i)
      (choice_of T k.def.inside.autos i (subst (λ (v : List Automaton). TreesOf T v i) (sym k.inside) h))

  -- A Hook's inside.

  module _ (c0 s0 : ℕ) (ds0 : List Datum) (ps : Parts) (ns : Nodes) where
    abbrev hooked : Nodes
    hooked = more (node c0 s0 ds0 ps) ns

    abbrev hook_tops : List ℕ
    hook_tops = s0 ∷ node_structs ns

    -- the struct of the port, and the trees by the structs of all tops
    pub record HookFilled : Type 0 where
      pub struct : s0 ≡ x.input
      pub port : IsPortFilled lower hook_tops x.gives_in
          (node_spots bs0 (node c0 s0 ds0 ps) (given_at bs0 (bares hooked) 0))
      pub inner : InsideFilled lower (bares hooked) hook_tops 1 [] (bares ns)

    pub hook_filled : TreesOf T autos hooked → x.output ≡ None → HookFilled
    hook_filled h out =
        let f = inside_fits hooked h in
        let e : f.tops ≡ hook_tops = tops_structs hooked f.tops f.are in
        let cells : InsideFilled lower (bares hooked) hook_tops 0 (x.gives_in ∷ []) (bares hooked) =
        subst (λ (o : Option ℕ). InsideFilled lower (bares hooked) hook_tops 0 (port_fields x o) (bares hooked)) out
        (subst (λ (z : List ℕ). InsideFilled lower (bares hooked) z 0 (port_fields x x.output) (bares hooked)) e
        f.cells) in
        record {
          struct = ap first (sym e ∙ f.ports.1 ∙ ap (λ (o : Option ℕ). port_structs x o ++ f.ports.0) out);
          port = subst (λ (z : List Spot). IsPortFilled lower hook_tops x.gives_in z)
              (spots_are bs0 (node c0 s0 ds0 ps) (given_at bs0 (bares hooked) 0)) cells.0;
          inner = cells.1;
        }

    pub hook_ordered : HookFilled → Ordered bs ps × TopsHave (Ordered bs) ns
    hook_ordered h = (
      (
        grown_order S bs0 bs k.grow hook_tops (slots_of ps) h.port.0.order,
        parts_spotted S bs0 bs k.grow hook_tops ps h.port.1,
      ),
      roots_spotted S bs0 bs k.grow hook_tops (bares hooked) ns 1 h.inner,
    )

  -- A Link's inside.

  module _ (c0 s0 : ℕ) (ds0 : List Datum) (ps : Parts) (c1 s1 : ℕ) (ds1 : List Datum) (qs : Parts) (ns : Nodes) where
    abbrev linked : Nodes
    linked = more (node c0 s0 ds0 ps) (more (node c1 s1 ds1 qs) ns)

    abbrev link_tops : List ℕ
    link_tops = s0 ∷ (s1 ∷ node_structs ns)

    pub record LinkFilled (o : ℕ) : Type 0 where
      pub struct : s0 ≡ x.input
      pub end : s1 ≡ o
      pub port : IsPortFilled lower link_tops x.gives_in
          (node_spots bs0 (node c0 s0 ds0 ps) (given_at bs0 (bares linked) 0))
      pub out : IsPortFilled lower link_tops x.gives_out
          (node_spots bs0 (node c1 s1 ds1 qs) (given_at bs0 (bares linked) 1))
      pub inner : InsideFilled lower (bares linked) link_tops 2 [] (bares ns)

    pub link_filled : TreesOf T autos linked → (o : ℕ) → x.output ≡ Some o → LinkFilled o
    link_filled h o out =
        let f = inside_fits linked h in
        let e : f.tops ≡ link_tops = tops_structs linked f.tops f.are in
        let cells : InsideFilled lower (bares linked) link_tops 0 (x.gives_in ∷ (x.gives_out ∷ [])) (bares linked) =
        subst (λ (o : Option ℕ). InsideFilled lower (bares linked) link_tops 0 (port_fields x o) (bares linked)) out
        (subst (λ (z : List ℕ). InsideFilled lower (bares linked) z 0 (port_fields x x.output) (bares linked)) e
        f.cells) in
        let p : link_tops ≡ x.input ∷ (o ∷ f.ports.0) =
        sym e ∙ f.ports.1 ∙ ap (λ (o : Option ℕ). port_structs x o ++ f.ports.0) out in
        record {
          struct = ap first p;
          end = ap second p;
          port = subst (λ (z : List Spot). IsPortFilled lower link_tops x.gives_in z)
              (spots_are bs0 (node c0 s0 ds0 ps) (given_at bs0 (bares linked) 0)) cells.0;
          out = subst (λ (z : List Spot). IsPortFilled lower link_tops x.gives_out z)
              (spots_are bs0 (node c1 s1 ds1 qs) (given_at bs0 (bares linked) 1)) cells.1.0;
          inner = cells.1.1;
        }

    pub link_ordered : (o : ℕ) → LinkFilled o → Ordered bs ps × Ordered bs qs × TopsHave (Ordered bs) ns
    link_ordered o h = (
      (
        grown_order S bs0 bs k.grow link_tops (slots_of ps) h.port.0.order,
        parts_spotted S bs0 bs k.grow link_tops ps h.port.1,
      ),
      (
        grown_order S bs0 bs k.grow link_tops (slots_of qs) h.out.0.order,
        parts_spotted S bs0 bs k.grow link_tops qs h.out.1,
      ),
      roots_spotted S bs0 bs k.grow link_tops (bares linked) ns 2 h.inner,
    )

  -- Among all cells.

  module _ (all : List SeenCell) (apart : IsDistinct (map cell_number all)) where
    roots_there : (vin : List Value) (ns : Nodes) (r n : ℕ) → slice_get (node_structs ns) r ≡ Some n
        → Every (IsThere face all) (forest_items vin ns) → NamesOne all n (nth_value (roots_of ns) r)
    roots_there vin no_nodes r n e h = absurd (none-some n e)
    roots_there vin (more (node c s ds ps) ns) zero n e h =
        subst (λ (z : ℕ). HasStruct all c z) (same_Some s n e) h.0
    roots_there vin (more (node c s ds ps) ns) (suc r) n e h =
        roots_there vin ns r n e
        (every_parts (IsThere face all) (tree_items vin (node c s ds ps)) (forest_items vin ns) h).1

    -- the slots that a Hook's cell gains
    module _ (c : ℕ) (here : HasStruct all c x.input) (c0 s0 : ℕ) (ds0 : List Datum) (ps : Parts) (ns : Nodes)
        (f : HookFilled c0 s0 ds0 ps ns)
        (there : Every (IsThere face all)
        (slot_items (Cell c ∷ roots_of ns) c ps ++ forest_items (Cell c ∷ roots_of ns) ns)) where
      abbrev hook_values : List Value
      hook_values = Cell c ∷ roots_of ns

      abbrev hook_structs : List ℕ
      hook_structs = s0 ∷ node_structs ns

      abbrev hook_tips : List Tip
      hook_tips = all_tips bs0 (more (node c0 s0 ds0 ps) ns)

      hook_parts : Every (IsThere face all) (slot_items hook_values c ps)
          × Every (IsThere face all) (forest_items hook_values ns)
      hook_parts = every_parts (IsThere face all) (slot_items hook_values c ps) (forest_items hook_values ns) there

      hook_own : HasStruct all c s0
      hook_own = subst (λ (z : ℕ). HasStruct all c z) (sym f.struct) here

      hook_named : (r n : ℕ) → slice_get hook_structs r ≡ Some n → NamesOne all n (nth_value hook_values r)
      hook_named zero n e = subst (λ (z : ℕ). HasStruct all c z) (same_Some s0 n e) hook_own
      hook_named (suc r) n e = roots_there hook_values ns r n e hook_parts.1

      hook_points : (r n : ℕ) → slice_get hook_structs r ≡ Some n → PointsTo all n (nth_value hook_values r)
      hook_points r n e = names_points all n (nth_value hook_values r) (hook_named r n e)

      hook_names : (r n : ℕ) (g : List ℕ) → slice_get hook_structs r ≡ Some n → IsIn (At r, g) hook_tips
          → NamesOne all n (nth_value hook_values r) ⊎ ((nth_value hook_values r ≡ DanglingValue) × (g ≡ []))
      hook_names r n g e i = inl (hook_named r n e)

      pub hook_gained : Every (Fits face all) (slot_items hook_values c ps ++ forest_items hook_values ns)
      hook_gained =
          every_append (Fits face all) (slot_items hook_values c ps) (forest_items hook_values ns)
          (parts_fits S bs0 bs k.grow all apart hook_structs hook_values hook_points hook_tips hook_names c s0
          hook_own ps f.port.0.ends f.port.1 hook_parts.0
          (λ q j. in_left q (tips_of bs0 ps) (all_tips bs0 ns) j))
          (roots_fit S bs0 bs k.grow all apart hook_structs hook_values hook_points hook_tips hook_names
          (bares (more (node c0 s0 ds0 ps) ns)) ns 1
          f.inner hook_parts.1 (λ q j. in_right q (tips_of bs0 ps) (all_tips bs0 ns) j))

    -- those that a Link's cell gains, and the cell at its end
    module _ (c : ℕ) (here : HasStruct all c x.input) (o : ℕ) (v : Value)
        (ends : NamesOne all o v ⊎ ((v ≡ DanglingValue) × (x.gives_out ≡ []))) (c0 s0 : ℕ) (ds0 : List Datum)
        (ps : Parts) (c1 s1 : ℕ) (ds1 : List Datum) (qs : Parts) (ns : Nodes)
        (f : LinkFilled c0 s0 ds0 ps c1 s1 ds1 qs ns o)
        (there : Every (IsThere face all)
        (slot_items (Cell c ∷ (v ∷ roots_of ns)) c ps
        ++ (port_items (Cell c ∷ (v ∷ roots_of ns)) v qs ++ forest_items (Cell c ∷ (v ∷ roots_of ns)) ns))) where
      abbrev vin : List Value
      vin = Cell c ∷ (v ∷ roots_of ns)

      abbrev tops : List ℕ
      tops = s0 ∷ (s1 ∷ node_structs ns)

      abbrev inside : List Tree
      inside = bares (more (node c0 s0 ds0 ps) (more (node c1 s1 ds1 qs) ns))

      abbrev tips : List Tip
      tips = all_tips bs0 (more (node c0 s0 ds0 ps) (more (node c1 s1 ds1 qs) ns))

      w : Every (IsThere face all) (slot_items vin c ps)
          × Every (IsThere face all) (port_items vin v qs ++ forest_items vin ns)
      w = every_parts (IsThere face all) (slot_items vin c ps) (port_items vin v qs ++ forest_items vin ns) there

      u : Every (IsThere face all) (port_items vin v qs) × Every (IsThere face all) (forest_items vin ns)
      u = every_parts (IsThere face all) (port_items vin v qs) (forest_items vin ns) w.1

      own : HasStruct all c s0
      own = subst (λ (z : ℕ). HasStruct all c z) (sym f.struct) here

      -- where the output is given nothing, no edge of the inside gives it something
      idle : x.gives_out ≡ [] → given_at bs0 inside 1 ≡ []
      idle e =
          let r = f.out.0.once in
          (idle_port bs0 (slots_of qs) (given_at bs0 inside 1)
          (subst (λ (z : List ℕ). Rearranged z (flat_map (covers bs0) (slots_of qs) ++ given_at bs0 inside 1)) e r)).1

      names : (r n : ℕ) (g : List ℕ) → slice_get tops r ≡ Some n → IsIn (At r, g) tips
          → NamesOne all n (nth_value vin r) ⊎ ((nth_value vin r ≡ DanglingValue) × (g ≡ []))
      names zero n g e i = inl (subst (λ (z : ℕ). HasStruct all c z) (same_Some s0 n e) own)
      names (suc zero) n g e i = elim ends [
        | inl m ↦ inl (subst (λ (z : ℕ). NamesOne all z v) (sym f.end ∙ same_Some s1 n e) m)
        | inr m ↦ inr (
          m.0,
          gift_none 1 g tips i
              (sym (given_tips bs0 1 (more (node c0 s0 ds0 ps) (more (node c1 s1 ds1 qs) ns))) ∙ idle m.1),
        )
      ]
      names (suc (suc r)) n g e i = inl (roots_there vin ns r n e u.1)

      points : (r n : ℕ) → slice_get tops r ≡ Some n → PointsTo all n (nth_value vin r)
      points zero n e = subst (λ (z : ℕ). HasStruct all c z) (same_Some s0 n e) own
      points (suc zero) n e = elim ends [
        | inl m ↦ names_points all n v (subst (λ (z : ℕ). NamesOne all z v) (sym f.end ∙ same_Some s1 n e) m)
        | inr m ↦ subst (λ (z : Value). PointsTo all n z) (sym m.0) tt
      ]
      points (suc (suc r)) n e = names_points all n (nth_value (roots_of ns) r) (roots_there vin ns r n e u.1)

      port_fits : (z : Value) → NamesOne all o z ⊎ ((z ≡ DanglingValue) × (x.gives_out ≡ []))
          → Every (IsThere face all) (port_items vin z qs) → Every (Fits face all) (port_items vin z qs)
      port_fits NullValue h t = tt
      port_fits UninitValue h t = tt
      port_fits DanglingValue h t = tt
      port_fits (Cell m) (inl h) t =
          parts_fits S bs0 bs k.grow all apart tops vin points tips names m s1
          (subst (λ (z : ℕ). HasStruct all m z) (sym f.end) h) qs f.out.0.ends f.out.1 t
          (λ q j. in_right q (tips_of bs0 ps) (tips_of bs0 qs ++ all_tips bs0 ns)
          (in_left q (tips_of bs0 qs) (all_tips bs0 ns) j))
      port_fits (Cell m) (inr h) t = let y : 3 ≡ 2 = ap value_kind h.0 in absurd (omega (arith, y))

      pub link_gained : Every (Fits face all) (slot_items vin c ps ++ (port_items vin v qs ++ forest_items vin ns))
      link_gained =
          every_append (Fits face all) (slot_items vin c ps) (port_items vin v qs ++ forest_items vin ns)
          (parts_fits S bs0 bs k.grow all apart tops vin points tips names c s0 own ps f.port.0.ends f.port.1 w.0
          (λ q j. in_left q (tips_of bs0 ps) (tips_of bs0 qs ++ all_tips bs0 ns) j))
          (every_append (Fits face all) (port_items vin v qs) (forest_items vin ns) (port_fits v ends u.0)
          (roots_fit S bs0 bs k.grow all apart tops vin points tips names inside ns 2 f.inner u.1
          (λ q j. in_right q (tips_of bs0 ps) (tips_of bs0 qs ++ all_tips bs0 ns)
          (in_right q (tips_of bs0 qs) (all_tips bs0 ns) j))))
