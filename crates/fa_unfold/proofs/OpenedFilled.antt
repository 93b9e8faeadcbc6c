-- Where a box edge is opened, and what it gains fits, stands in order and refers to roots that are there, the trees are
-- filled.
use Rattle.std.proofs.Common.{inl, ℕ, List, ◌++◌, map, flat_map, refl}
use Rattle.std.proofs.Common.{subst}
use Rattle.fore_base.specs.Lists.{IsIn, Every, IsDistinct}
use Rattle.fore_base.specs.Shapes.{targets_of}
use Rattle.fore_base.specs.declared.store.Value.{Value}
use Rattle.fore_base.proofs.ListLemmas.{every_in, in_every, in_right}
use Rattle.ta_core.specs.Auto.{Automaton}
use Rattle.ta_core.specs.declared.symbol.Slot.{Slot}
use Rattle.fa_core.specs.declared.faces.BoxFace.{BoxFace}
use Rattle.fa_core.specs.declared.faces.Face.{Face}
use Rattle.fa_core.specs.declared.forest.Forest.{Forest}
use Rattle.fa_core.specs.declared.forest.Target.{Target}
use Rattle.fa_core.specs.Boxes.{Boxes, IsBoxTable, faces_of}
use Rattle.fa_core.specs.Choices.{bares, count}
use Rattle.fa_core.specs.Dressed.{Parts, Nodes, node, no_nodes, more, SeenCell, seen, cells, tree_cells}
use Rattle.fa_core.specs.Dressed.{forest_cells, roots_of, all_refs}
use Rattle.fa_core.specs.Filled.{IsFilled, TreesFilled, covers}
use Rattle.fa_core.specs.Member.{OfForest, TreesOf}
use Rattle.fa_core.specs.Placed.{placed_parts, placed_all}
use Rattle.fa_core.specs.References.{AllBelow}
use Rattle.fa_core.proofs.Dressing.{numbered_distinct}
use Rattle.fa_core.proofs.FilledCells.{trees_filled}
use Rattle.fa_core.proofs.FilledKept.{apart_by, forest_numbers}
use Rattle.fa_core.proofs.Given.{gives_to}
use Rattle.fa_core.proofs.Permuted.{distinct_moved, distinct_parts}
use Rattle.fa_core.proofs.SeenCells.{IsFilledCell, SlotsFit, cell_number, node_structs, slots_seen, slots_seen_are}
use Rattle.fa_unfold.specs.Opens.{Item, Opens}
use Rattle.fa_unfold.specs.Outside.{outside, outside_hook}
use Rattle.fa_unfold.specs.inner.Trees.{joined_parts, parts_without, at_root, at_leaf}
use Rattle.fa_unfold.specs.inner.Trees.{link_opened, hook_opened}
use Rattle.fa_unfold.proofs.OpenedFits.{Fits, IsSlotItem, fits_after, once_after}
use Rattle.fa_unfold.proofs.SlotsInOrder.{TopsHave, Ordered, AllCover, KeysApart, CellOrdered, fields_apart}
use Rattle.fa_unfold.proofs.SlotsInOrder.{cells_ordered}
use Rattle.fa_unfold.proofs.SlotsInOrder.{tops_first, tops_with, tops_at, tops_leaf, tops_back, tops_weaker, tops_if}
use Rattle.fa_unfold.proofs.SlotsInOrder.{leaf_if, cover_listed, without_ordered, joined_cover, joined_apart_of}
use Rattle.fa_unfold.proofs.SlotsInOrder.{joined_ordered, placed_ordered, all_ordered}

-- The trees, cell by cell.

module _ (t : Boxes) (table : IsBoxTable t) (F : Forest) (filled : IsFilled t.face F) (x : Item) (d e : Nodes)
    (of : OfForest t.defs F d) (autos : List Automaton) (trees : TreesOf t.defs autos e) (o : Opens x d e)
    (slot : IsSlotItem x) (apart : IsDistinct (map cell_number (cells e)))
    (fits : Every (Fits (record { shapes = t.face.shapes; boxes = faces_of t.defs }) (cells e)) o.gained) where
  abbrev bs : List BoxFace
  bs = faces_of t.defs

  abbrev face : Face
  face = record { shapes = t.face.shapes; boxes = bs }

  -- the slots of each top have keys of their own, since each field is given once
  pub tops_apart : TopsHave (AllCover bs) e → TopsHave (KeysApart bs) e
  tops_apart h = go e (λ z i. i) h
    where
      go : (ns : Nodes) → ((z : SeenCell) → IsIn z (forest_cells (roots_of e) ns) → IsIn z (cells e))
          → TopsHave (AllCover bs) ns → TopsHave (KeysApart bs) ns
      go no_nodes sub h = tt
      go (more (node c s ds ps) ns) sub h =
          let vs : List Value = roots_of e in
          let cell : SeenCell = record { cell = c; shape = s; datums = ds; slots = seen vs ps } in
          let q = once_after t table F filled x d e of autos trees o slot apart fits cell (sub cell (inl refl)) in
          let a : IsDistinct (flat_map (covers bs) (slots_seen (seen vs ps)) ++ gives_to bs c (cells e)) =
          distinct_moved q (numbered_distinct 0 (targets_of t.face.shapes.structs s)) in
          let g : IsDistinct (flat_map (covers bs) (slots_seen (seen vs ps))) =
          (distinct_parts (flat_map (covers bs) (slots_seen (seen vs ps))) (gives_to bs c (cells e)) a).0 in (
            fields_apart bs ps h.0
                (subst (λ (z : List Slot). IsDistinct (flat_map (covers bs) z)) (slots_seen_are vs ps) g),
            go ns (λ z i. sub z (in_right z (tree_cells vs (node c s ds ps)) (forest_cells vs ns) i)) h.1,
          )

  pub filled_after : TopsHave (Ordered bs) e → AllBelow (count e) (all_refs e)
      → TreesFilled face (bares e) (node_structs e) 0 (bares e)
  filled_after r l =
      trees_filled face e (apart_by bs e (subst IsDistinct (forest_numbers (roots_of e) e) apart)) l
      (in_every (IsFilledCell face (cells e)) (cells e)
      (λ c i. record {
        slots = every_in (λ c. SlotsFit face (cells e) c.shape c.slots) (cells e) c
            (fits_after t table F filled x d e of autos trees o slot apart fits) i;
        order = every_in (CellOrdered bs) (cells e) c (cells_ordered bs (roots_of e) e r) i;
        once = once_after t table F filled x d e of autos trees o slot apart fits c i;
      }))

-- The order of slots.

module _ (bs : List BoxFace) (i p : ℕ) (ps : Parts) (ns d : Nodes) (before : TopsHave (Ordered bs) d)
    (port : Ordered bs ps) (inner : TopsHave (Ordered bs) ns) where
  abbrev d1 : Nodes
  d1 = at_root (parts_without p) i d

  first_ordered : TopsHave (Ordered bs) d1
  first_ordered = tops_at (Ordered bs) (parts_without p) (without_ordered bs p) i d before

  all_cover : (ms : Nodes) → TopsHave (Ordered bs) ms → TopsHave (AllCover bs) ms
  all_cover ms h = tops_weaker (Ordered bs) (AllCover bs) (λ os k. cover_listed bs os k.0.0) ms h

  module _ (f : ℕ → Target) where
    abbrev put : Parts
    put = placed_parts f ps

    abbrev J : Parts → Parts
    J os = joined_parts bs os put

    abbrev d2 : Nodes
    d2 = at_root J i d1

    put_ordered : Ordered bs put
    put_ordered = placed_ordered bs f ps port

    put_cover : AllCover bs put
    put_cover = cover_listed bs put put_ordered.0.0

    second_cover : TopsHave (AllCover bs) d2
    second_cover =
        tops_at (AllCover bs) J (λ os k. joined_cover bs os put k put_cover) i d1 (all_cover d1 first_ordered)

    second_ordered : TopsHave (KeysApart bs) d2 → TopsHave (Ordered bs) d2
    second_ordered a =
        tops_if (Ordered bs) (KeysApart bs) J (λ os k q. joined_ordered bs os put k put_ordered q) i d1 first_ordered a

    inner_ordered : TopsHave (Ordered bs) (placed_all f ns)
    inner_ordered = all_ordered bs f ns inner

  -- with a Hook opened
  pub hook_in_order : (TopsHave (AllCover bs) (hook_opened bs i p ps ns d)
      → TopsHave (KeysApart bs) (hook_opened bs i p ps ns d)) → TopsHave (Ordered bs) (hook_opened bs i p ps ns d)
  hook_in_order apart =
      let f = outside_hook i (count d) in
      let a = apart
      (tops_with (AllCover bs) (d2 f) (placed_all f ns) (second_cover f)
      (all_cover (placed_all f ns) (inner_ordered f)))
      in
      tops_with (Ordered bs) (d2 f) (placed_all f ns)
      (second_ordered f (tops_first (KeysApart bs) (d2 f) (placed_all f ns) a)) (inner_ordered f)

  -- with a Link opened
  pub link_in_order : (y : Target) (qs : Parts) → Ordered bs qs
      → (TopsHave (AllCover bs) (link_opened bs i p y ps qs ns d)
      → TopsHave (KeysApart bs) (link_opened bs i p y ps qs ns d))
      → TopsHave (Ordered bs) (link_opened bs i p y ps qs ns d)
  link_in_order y qs out apart =
      let f = outside i y (count d) in
      let os : Parts = placed_parts f qs in
      let o : Ordered bs os = placed_ordered bs f qs out in
      let K : Parts → Parts = λ zs. joined_parts bs zs os in
      let c3 = tops_leaf (AllCover bs) K (λ zs k. joined_cover bs zs os k (cover_listed bs os o.0.0)) y (d2 f)
      (second_cover f) in
      let a = apart
      (tops_with (AllCover bs) (at_leaf K y (d2 f)) (placed_all f ns) c3
      (all_cover (placed_all f ns) (inner_ordered f)))
      in
      let a3 = tops_first (KeysApart bs) (at_leaf K y (d2 f)) (placed_all f ns) a in
      let a2 = tops_back (KeysApart bs) K (λ zs k. joined_apart_of bs zs os k) y (d2 f) a3 in
      tops_with (Ordered bs) (at_leaf K y (d2 f)) (placed_all f ns)
      (leaf_if (Ordered bs) (KeysApart bs) K (λ zs k q. joined_ordered bs zs os k o q) y (d2 f) (second_ordered f a2)
      a3)
      (inner_ordered f)
