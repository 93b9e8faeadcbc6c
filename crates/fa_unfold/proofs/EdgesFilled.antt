-- A dressed forest with a box edge of a root opened is filled, if the one before is of a filled forest.
use Rattle.std.proofs.Common.{◌≡◌, ◌⊎◌, inl, inr, ℕ, ◌<◌, List, [], ◌∷◌, ◌++◌, map, sym, ap, subst, ◌∙◌, Some}
use Rattle.std.proofs.Common.{None, slice_get}
use Rattle.std.proofs.lemmas.Option.{same_Some}
use Rattle.fore_base.specs.Lists.{Every, IsDistinct}
use Rattle.fore_base.specs.declared.store.Datum.{Datum}
use Rattle.fore_base.specs.declared.store.Value.{Value}
use Rattle.fore_base.specs.declared.store.Value.TheVariants.{Dangling as DanglingValue, Cell}
use Rattle.fore_base.proofs.ListLemmas.{every_weaker}
use Rattle.ta_core.specs.Auto.{Automaton}
use Rattle.fa_core.specs.declared.faces.BoxFace.{BoxFace}
use Rattle.fa_core.specs.declared.faces.Face.{Face}
use Rattle.fa_core.specs.declared.forest.Forest.{Forest}
use Rattle.fa_core.specs.declared.forest.Target.{Target}
use Rattle.fa_core.specs.Boxes.{Boxes, IsBoxTable, faces_of}
use Rattle.fa_core.specs.Choices.{bares, count}
use Rattle.fa_core.specs.Dressed.{Parts, Nodes, node, leaf, more, SeenLink, SeenHook, cells}
use Rattle.fa_core.specs.Dressed.{roots_of, value_in, all_refs}
use Rattle.fa_core.specs.Filled.{IsFilled, TreesFilled, IsRoot, face_of}
use Rattle.fa_core.specs.Member.{OfForest, TreesOf, inside_of}
use Rattle.fa_core.specs.References.{AllBelow}
use Rattle.fa_core.proofs.Dressing.{bares_length}
use Rattle.fa_core.proofs.SeenCells.{HasStruct, NamesOne, IsFilledCell, cell_number, node_structs}
use Rattle.fa_back.specs.Reached.{node_at}
use Rattle.fa_unfold.specs.Opens.{Item, HasSlot, Opens, slot_items, forest_items}
use Rattle.fa_unfold.specs.Parts.{LinkPart, HookPart, listed}
use Rattle.fa_unfold.specs.inner.Trees.{link_opened, hook_opened}
use Rattle.fa_unfold.proofs.GainedFits.{LinkFilled, link_filled, link_ordered, link_gained, inside_fits}
use Rattle.fa_unfold.proofs.GainedFits.{HookFilled, hook_filled, hook_ordered, hook_gained}
use Rattle.fa_unfold.proofs.OpenedFilled.{tops_apart, filled_after, hook_in_order, link_in_order}
use Rattle.fa_unfold.proofs.OpenedReferences.{inside_below, link_below, hook_below}
use Rattle.fa_unfold.proofs.OpenedFits.{IsThere, Fits, FitsHere, IsSlotItem, gained_there, struct_kept, names_more}
use Rattle.fa_unfold.proofs.OpenedFits.{cells_before, edge_before}
use Rattle.fa_unfold.proofs.Opening.{port_items}
use Rattle.fa_unfold.proofs.OpenedTrees.{opens_link, link_gains, opens_hook, hook_gains}
use Rattle.fa_unfold.proofs.SlotsInOrder.{TopsHave, Ordered, CellOrdered, ordered_cells}
use Rattle.fa_unfold.proofs.TableBoxes.{IsBoxOf, box_of_table}

module _ (t : Boxes) (table : IsBoxTable t) (F : Forest) (filled : IsFilled t.face F) (i p b : ℕ) (d : Nodes)
    (of : OfForest t.defs F d) (below : AllBelow (count d) (all_refs d)) (there : i < count d) (c s : ℕ)
    (ds : List Datum) (os : Parts) (at : node_at d i ≡ Some (node c s ds os)) (autos : List Automaton)
    (is : inside_of t.defs b ≡ Some autos) where
  abbrev bs : List BoxFace
  bs = faces_of t.defs

  abbrev face : Face
  face = record { shapes = t.face.shapes; boxes = bs }

  abbrev box : IsBoxOf t.face.shapes t.defs b autos
  box = box_of_table t.face.shapes t.defs table.sound b autos is

  abbrev x : BoxFace
  x = box.def.face

  -- the face of the box, as the cell of the edge has it
  same_face : (y : BoxFace) → face_of bs b ≡ Some y → y ≡ x
  same_face y e = same_Some y x (sym e ∙ box.here)

  -- the slots before stand in order
  in_order : (item : Item) (e : Nodes) (gs : List Automaton) → TreesOf t.defs gs e → Opens item d e → IsSlotItem item
      → IsDistinct (map cell_number (cells e)) → TopsHave (Ordered bs) d
  in_order item e gs trees o slot apart =
      ordered_cells bs (roots_of d) d
      (every_weaker (IsFilledCell face (cells d)) (CellOrdered bs) (cells d) (λ k h. h.order)
      (cells_before t table F filled item d e of gs trees o slot apart))

  refs_of_inside : (k : Nodes) → TreesOf t.defs autos k → Every (λ n. n < count k) (all_refs k)
  refs_of_inside k h =
      let f = inside_fits t.face.shapes t.defs b autos box k h in
      inside_below k (count k)
      (λ u n j r. subst (λ (m : ℕ). n < m) (bares_length k) (f.refs u n j r))

  -- A Link.

  module _ (y : Target) (names : IsRoot (count d) y) (c0 s0 : ℕ) (ds0 : List Datum) (ps : Parts) (c1 s1 : ℕ)
      (ds1 : List Datum) (qs : Parts) (ns : Nodes)
      (has : slice_get (listed os) p
      ≡ Some (LinkPart b (more (node c0 s0 ds0 ps) (more (node c1 s1 ds1 qs) ns)) (leaf y)))
      (inner : TreesOf t.defs autos (more (node c0 s0 ds0 ps) (more (node c1 s1 ds1 qs) ns))) (gs : List Automaton)
      (trees : TreesOf t.defs gs (link_opened bs i p y ps qs ns d))
      (apart : IsDistinct (map cell_number (cells (link_opened bs i p y ps qs ns d)))) where
    abbrev e : Nodes
    e = link_opened bs i p y ps qs ns d

    abbrev linked : Nodes
    linked = more (node c0 s0 ds0 ps) (more (node c1 s1 ds1 qs) ns)

    abbrev v : Value
    v = value_in (roots_of d) y

    abbrev vin : List Value
    vin = Cell c ∷ (v ∷ roots_of ns)

    abbrev item : Item
    item = HasSlot c (SeenLink b linked v)

    abbrev gain : List Item
    gain = slot_items vin c ps ++ (port_items vin v qs ++ forest_items vin ns)

    o : Opens item d e
    o = opens_link bs d i p c s ds os at below b y c0 s0 ds0 ps c1 s1 ds1 qs ns has

    is_gain : o.gained ≡ gain
    unfolding o
    is_gain = link_gains bs d i p c s ds os at below b y c0 s0 ds0 ps c1 s1 ds1 qs ns has

    kept : (n u : ℕ) → HasStruct (cells d) n u → HasStruct (cells e) n u
    kept = struct_kept face item d e o tt apart

    -- what the cell of the Link says of its box
    record LinkEnds : Type 0 where
      end : ℕ
      out : x.output ≡ Some end
      here : HasStruct (cells e) c x.input
      ends : NamesOne (cells e) end v ⊎ ((v ≡ DanglingValue) × (x.gives_out ≡ []))

    link_ends : LinkEnds
    link_ends = told (edge_before t table F filled item d e of gs trees o tt apart)
      where
        told : FitsHere face (cells d) item → LinkEnds
        told (u, h, ((z, m, g, a, r, w), k)) =
            let q : z ≡ x = same_face z g in
            record {
              end = m;
              out = sym (ap (λ (f : BoxFace). f.output) q) ∙ r;
              here = subst (λ (n : ℕ). HasStruct (cells e) c n) (sym a ∙ ap (λ (f : BoxFace). f.input) q) (kept c u h);
              ends = elim w [
                | inl j ↦ inl (names_more face (cells d) (cells e) kept m v j)
                | inr j ↦ inr
                    (j.0, sym (ap (λ (f : BoxFace). f.gives_out) q) ∙ j.1)
              ];
            }

    pub opened_filled : TreesFilled face (bares e) (node_structs e) 0 (bares e)
    opened_filled =
        filled_after t table F filled item d e of gs trees o tt apart fits
        (link_in_order bs i p ps ns d (in_order item e gs trees o tt apart) r.0 r.2 y qs r.1
        (tops_apart t table F filled item d e of gs trees o tt apart fits))
        (link_below bs i p y c0 s0 ds0 ps c1 s1 ds1 qs ns d there names below (refs_of_inside linked inner))
      where
        l : LinkEnds
        l = link_ends

        f : LinkFilled t.face.shapes t.defs b autos box c0 s0 ds0 ps c1 s1 ds1 qs ns l.end
        f = link_filled t.face.shapes t.defs b autos box c0 s0 ds0 ps c1 s1 ds1 qs ns inner l.end l.out

        r : Ordered bs ps × Ordered bs qs × TopsHave (Ordered bs) ns
        r = link_ordered t.face.shapes t.defs b autos box c0 s0 ds0 ps c1 s1 ds1 qs ns l.end f

        fits : Every (Fits face (cells e)) o.gained
        fits =
            subst (Every (Fits face (cells e))) (sym is_gain)
            (link_gained t.face.shapes t.defs b autos box (cells e) apart c l.here l.end v l.ends c0 s0 ds0 ps c1 s1 ds1
            qs ns f (subst (Every (IsThere face (cells e))) is_gain (gained_there face item d e o tt apart)))

  -- A Hook.

  module _ (c0 s0 : ℕ) (ds0 : List Datum) (ps : Parts) (ns : Nodes)
      (has : slice_get (listed os) p ≡ Some (HookPart b (more (node c0 s0 ds0 ps) ns)))
      (inner : TreesOf t.defs autos (more (node c0 s0 ds0 ps) ns)) (gs : List Automaton)
      (trees : TreesOf t.defs gs (hook_opened bs i p ps ns d))
      (apart : IsDistinct (map cell_number (cells (hook_opened bs i p ps ns d)))) where
    abbrev h : Nodes
    h = hook_opened bs i p ps ns d

    abbrev hooked : Nodes
    hooked = more (node c0 s0 ds0 ps) ns

    abbrev hin : List Value
    hin = Cell c ∷ roots_of ns

    abbrev hook : Item
    hook = HasSlot c (SeenHook b hooked)

    abbrev hook_gain : List Item
    hook_gain = slot_items hin c ps ++ forest_items hin ns

    hook_opens : Opens hook d h
    hook_opens = opens_hook bs d i p c s ds os at below b c0 s0 ds0 ps ns has

    is_hook_gain : hook_opens.gained ≡ hook_gain
    unfolding hook_opens
    is_hook_gain = hook_gains bs d i p c s ds os at below b c0 s0 ds0 ps ns has

    record HookEnds : Type 0 where
      out : x.output ≡ None
      here : HasStruct (cells h) c x.input

    hook_ends : HookEnds
    hook_ends = told (edge_before t table F filled hook d h of gs trees hook_opens tt apart)
      where
        told : FitsHere face (cells d) hook → HookEnds
        told (u, w, ((z, g, a, r), k)) =
            let q : z ≡ x = same_face z g in
            record {
              out = sym (ap (λ (f : BoxFace). f.output) q) ∙ r;
              here = subst (λ (n : ℕ). HasStruct (cells h) c n) (sym a ∙ ap (λ (f : BoxFace). f.input) q)
                  (struct_kept face hook d h hook_opens tt apart c u w);
            }

    pub hook_opened_filled : TreesFilled face (bares h) (node_structs h) 0 (bares h)
    hook_opened_filled =
        filled_after t table F filled hook d h of gs trees hook_opens tt apart fits
        (hook_in_order bs i p ps ns d (in_order hook h gs trees hook_opens tt apart) r.0 r.1
        (tops_apart t table F filled hook d h of gs trees hook_opens tt apart fits))
        (hook_below bs i p c0 s0 ds0 ps ns d there below (refs_of_inside hooked inner))
      where
        f : HookFilled t.face.shapes t.defs b autos box c0 s0 ds0 ps ns
        f = hook_filled t.face.shapes t.defs b autos box c0 s0 ds0 ps ns inner hook_ends.out

        r : Ordered bs ps × TopsHave (Ordered bs) ns
        r = hook_ordered t.face.shapes t.defs b autos box c0 s0 ds0 ps ns f

        fits : Every (Fits face (cells h)) hook_opens.gained
        fits =
            subst (Every (Fits face (cells h))) (sym is_hook_gain)
            (hook_gained t.face.shapes t.defs b autos box (cells h) apart c hook_ends.here c0 s0 ds0 ps ns f
            (subst (Every (IsThere face (cells h))) is_hook_gain (gained_there face hook d h hook_opens tt apart)))
