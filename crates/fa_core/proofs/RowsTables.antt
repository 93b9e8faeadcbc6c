-- A worked table of one box: the edge of one pointer, which does not lead back, and may end in Dangling.
use Rattle.std.proofs.Common.{◌≡◌, ◌<◌, ◌⊎◌, inl, inr, ℕ, suc, Bool, true, false, true≢false, List, [], ◌∷◌, length}
use Rattle.std.proofs.Common.{refl}
use Rattle.std.proofs.Common.{sym, ap, ap₂, subst, ◌∙◌, arith}
use Rattle.fore_base.specs.Lists.{IsIn}
use Rattle.fore_base.specs.declared.store.Value.{Value}
use Rattle.fore_base.specs.declared.store.Value.TheVariants.{Null as NullValue, Uninit as UninitValue}
use Rattle.fore_base.specs.declared.store.Value.TheVariants.{Dangling as DanglingValue, Cell as CellValue}
use Rattle.ta_core.specs.declared.auto.Rule.{Rule}
use Rattle.ta_core.specs.declared.symbol.Symbol.{Symbol}
use Rattle.ta_core.specs.declared.symbol.Symbol.TheVariants.{Cell}
use Rattle.ta_core.specs.declared.tree.Tree.{Tree, out-Tree}
use Rattle.fa_core.specs.declared.boxes.BoxDef.{BoxDef}
use Rattle.fa_core.specs.declared.faces.BoxFace.{BoxFace}
use Rattle.fa_core.specs.declared.faces.Face.{Face}
use Rattle.fa_core.specs.declared.forest.Target.{Target}
use Rattle.fa_core.specs.declared.forest.Target.TheVariants.{At}
use Rattle.fa_core.specs.Boxes.{IsChild, PortRulesFit, IsPortFilled, InsideFits, Reaches, named, through, heads}
use Rattle.fa_core.specs.Boxes.{OutFits, IsReached, LeadsNowhere, SoundBox, IsBoxTable, IsTableOf, faces_of}
use Rattle.fa_core.specs.Canonical.{RefersTo}
use Rattle.fa_core.specs.Choices.{bares}
use Rattle.fa_core.specs.Dressed.{Node, Nodes, node, no_parts, no_nodes, more, inside_facts}
use Rattle.fa_core.specs.Filled.{spots, given_at}
use Rattle.fa_core.specs.Folding.{symbol_slots}
use Rattle.fa_core.specs.Member.{TreesOf, bare, slots_of}
use Rattle.fa_core.specs.Rearranged.{empty, keep}
use Rattle.fa_core.specs.Ways.{signature}
use Rattle.fa_core.proofs.Dressing.{leaf_top, cell_top}
use Rattle.fa_core.proofs.GivenTips.{given_tips}
use Rattle.fa_core.proofs.NodeSpots.{spots_are}
use Rattle.fa_core.proofs.RowsBack.{one_inside, one_never}
use Rattle.fa_core.proofs.RowsBoxes.{port, port_node, port_runs, port_single, port_rules, single_covers}
use Rattle.fa_core.proofs.RowsBoxes.{port_covers_some, port_is, no_slots, slot_count, symbol_struct, symbol_data}
use Rattle.fa_core.proofs.RowsBoxes.{number_of}
use Rattle.fa_core.proofs.RowsForests.{list_struct, list_face, one_pointer, bare_cell, bare_node, bare_runs}
use Rattle.fa_core.proofs.SeenCells.{structs_tops}
use Rattle.fa_core.proofs.SingleTrees.{IsSingle, same_tree, single_tree, single_choice}
use Rattle.fa_core.proofs.WaysOf.{tree_roots}

-- the structs before there is a box
abbrev plain_face : Face
plain_face = record { shapes = record { structs = list_struct }; boxes = [] }

-- its name is n1
abbrev pointer_box : BoxDef
pointer_box = record {
  name = 110 ∷ 49 ∷ [];
  face = one_pointer;
  inside = record { autos = port 0 1 ∷ bare_cell ∷ []; vars = []; data_vars = [] };
}

bare_single : IsSingle bare_cell
bare_single = ((refl, tt), (0, refl))

no_bare_child : IsChild bare_cell 0 → ⊥
no_bare_child (o, inl e, j) = subst (λ (x : Rule). IsIn 0 x.children) e j
no_bare_child (o, inr e, j) = e

bare_rules : PortRulesFit plain_face bare_cell
bare_rules = record {
  tops = ((λ i. (omega arith, refl, tt)), tt);
  inner = ((λ w. elim w [ inl n ↦ absurd (n (inl refl)) | inr c ↦ absurd (no_bare_child c) ]), tt);
}

bare_is : (n : Node) → bare n ≡ bare bare_node → (c : ℕ) × (n ≡ node c 0 [] no_parts)
bare_is (node c s ds ps) h =
    let y : Cell s ds (slots_of ps) ≡ Cell 0 [] [] = sym (cell_top c s ds ps) ∙ ap (λ (x : Tree). (out-Tree x).symbol) h
    ∙ cell_top 0 0 [] no_parts in
    let a : s ≡ 0 = ap symbol_struct y in
    let b : ds ≡ [] = ap symbol_data y in
    let k = no_slots ps (ap (λ (z : Symbol). slot_count (symbol_slots z)) y) in
    (c, rw (a, b, k) refl)

pointer_inside : (T : List BoxDef) (d : Nodes) → TreesOf T (port 0 1 ∷ bare_cell ∷ []) d → (a b : ℕ)
    × (d ≡ one_inside a b)
pointer_inside T no_nodes h = absurd h
pointer_inside T (more n no_nodes) h = absurd h.2
pointer_inside T (more n (more m (more k ns))) h = absurd h.2.2
pointer_inside T (more n (more m no_nodes)) h =
    let a =
    port_is 0 1 n
    (single_tree (port 0 1) (bare n) (bare (port_node 0 0 1)) (port_single 0 1) h.0 (port_runs 0 0 1)) in
    let b = bare_is m (single_tree bare_cell (bare m) (bare bare_node) bare_single h.2.0 bare_runs) in
    (a.0, b.0, ap₂ (λ (x y : Node). more x (more y no_nodes)) a.1 b.1)

abbrev is_cell : Value → Bool
is_cell (CellValue n) = true
is_cell NullValue = false
is_cell UninitValue = false
is_cell DanglingValue = false

pointer_reached : (T : List BoxDef) → IsReached T one_pointer (port 0 1 ∷ bare_cell ∷ [])
pointer_reached T d h c ports p n i =
    let k = pointer_inside T d h in
    subst (λ (e : Nodes). Reaches (CellValue c ∷ []) (inside_facts ports e) n) (sym k.2)
    (out p.0 p.1 p.2 k.0 k.1
    (subst (λ (e : Nodes). IsIn n (heads (inside_facts ports e)) ⊎ IsIn (CellValue n) ports) k.2 i))
  where
    to_cell : (a b m : ℕ) → IsIn n [] ⊎ IsIn (CellValue n) (CellValue c ∷ (CellValue m ∷ []))
        → Reaches (CellValue c ∷ []) (inside_facts (CellValue c ∷ (CellValue m ∷ [])) (one_inside a b)) n
    to_cell a b m (inl x) = absurd x
    to_cell a b m (inr (inl x)) = named (inl x)
    to_cell a b m (inr (inr (inl x))) = let w : n ≡ m = ap number_of x in
        subst
        (λ (k : ℕ). Reaches (CellValue c ∷ []) (inside_facts (CellValue c ∷ (CellValue m ∷ [])) (one_inside a b)) k)
        (sym w) (through c 0 (named (inl refl)) (inl refl))
    to_cell a b m (inr (inr (inr x))) = absurd x

    to_dangling : (a b : ℕ) → IsIn n [] ⊎ IsIn (CellValue n) (CellValue c ∷ (DanglingValue ∷ []))
        → Reaches (CellValue c ∷ []) (inside_facts (CellValue c ∷ (DanglingValue ∷ [])) (one_inside a b)) n
    to_dangling a b (inl x) = absurd x
    to_dangling a b (inr (inl x)) = named (inl x)
    to_dangling a b (inr (inr (inl x))) = absurd (true≢false (ap is_cell x))
    to_dangling a b (inr (inr (inr x))) = absurd x

    at : (a b : ℕ) (vs : List Value) → ports ≡ vs
        → (IsIn n (heads (inside_facts vs (one_inside a b))) ⊎ IsIn (CellValue n) vs
        → Reaches (CellValue c ∷ []) (inside_facts vs (one_inside a b)) n)
        → IsIn n (heads (inside_facts ports (one_inside a b))) ⊎ IsIn (CellValue n) ports
        → Reaches (CellValue c ∷ []) (inside_facts ports (one_inside a b)) n
    at a b vs e f j = subst (λ (us : List Value). Reaches (CellValue c ∷ []) (inside_facts us (one_inside a b)) n)
        (sym e)
        (f (subst (λ (us : List Value). IsIn n (heads (inside_facts us (one_inside a b))) ⊎ IsIn (CellValue n) us) e j))

    out : (w : Value) → ports ≡ CellValue c ∷ (w ∷ []) → OutFits one_pointer w → (a b : ℕ)
        → IsIn n (heads (inside_facts ports (one_inside a b))) ⊎ IsIn (CellValue n) ports
        → Reaches (CellValue c ∷ []) (inside_facts ports (one_inside a b)) n
    out w e (inl m) a b j = at a b (CellValue c ∷ (CellValue m.0 ∷ []))
        (e ∙ ap (λ (v : Value). CellValue c ∷ (v ∷ [])) m.1) (to_cell a b m.0) j
    out w e (inr x) a b j = at a b (CellValue c ∷ (DanglingValue ∷ []))
        (e ∙ ap (λ (v : Value). CellValue c ∷ (v ∷ [])) x.0) (to_dangling a b) j

pointer_nowhere : (T : List BoxDef) → LeadsNowhere T (port 0 1 ∷ bare_cell ∷ [])
pointer_nowhere T d h c m differ r =
    let k = pointer_inside T d h in
    one_never k.0 k.1 c m (λ e. differ.0 (inl e))
    (subst (λ (e : Nodes). Reaches (CellValue m ∷ []) (inside_facts (CellValue c ∷ (CellValue m ∷ [])) e) c) k.2 r)

abbrev pointer_nodes : Nodes
pointer_nodes = more (port_node 0 0 1) (more bare_node no_nodes)

input_filled : IsPortFilled plain_face (0 ∷ 0 ∷ []) (0 ∷ [])
    (spots [] (bare (port_node 0 0 1)) (given_at [] (bares pointer_nodes) 0))
input_filled =
    let e = spots_are [] (port_node 0 0 1) (given_at [] (bares pointer_nodes) 0) in
    let g = given_tips [] 0 pointer_nodes in
    let l = leaf_top (At 1) in
    rw e (record { ends = ((0, refl, rw l refl), tt); order = ((tt, tt), tt); once = rw g (keep 0 empty) }, tt)

output_filled : IsPortFilled plain_face (0 ∷ 0 ∷ []) []
    (spots [] (bare bare_node) (given_at [] (bares pointer_nodes) 1))
output_filled =
    let e = spots_are [] bare_node (given_at [] (bares pointer_nodes) 1) in
    let g = given_tips [] 1 pointer_nodes in
    rw e (record { ends = tt; order = (tt, tt); once = rw g empty }, tt)

pointer_refers : (t : Tree) (k : ℕ) → IsIn t (bares pointer_nodes) → RefersTo t k → k < 2
pointer_refers t k (inl e) h =
    elim (rw (tree_roots (port_node 0 0 1)) at (subst (λ (x : Tree). RefersTo x k) e h))
    [ inl i ↦ omega (arith, i) | inr x ↦ absurd x ]
pointer_refers t k (inr (inl e)) h = absurd (rw (tree_roots bare_node) at (subst (λ (x : Tree). RefersTo x k) e h))
pointer_refers t k (inr (inr e)) h = absurd e

pointer_fits : InsideFits plain_face one_pointer (bares pointer_nodes)
pointer_fits =
    record {
      tops = 0 ∷ 0 ∷ [];
      are = structs_tops pointer_nodes;
      ports = ([], refl);
      refs = pointer_refers;
      cells = (input_filled, (output_filled, refl));
    }

pointer_sound : SoundBox plain_face [] pointer_box
pointer_sound = record {
  rules = (port_rules plain_face 0 1 (omega arith, refl, (refl, tt)), (bare_rules, tt));
  full = ((bare (port_node 0 0 1), port_runs 0 0 1), ((bare bare_node, bare_runs), tt));
  fits = λ ts c. subst (λ (us : List Tree). InsideFits plain_face one_pointer us)
      (single_choice (port 0 1 ∷ bare_cell ∷ []) (bares pointer_nodes) ts (port_single 0 1, (bare_single, tt))
      (port_runs 0 0 1, (bare_runs, tt)) c) pointer_fits;
  covers = λ e. (let z : 1 ≡ 0 = ap (λ (l : List ℕ). length l) e in omega (arith, z));
  ports = (
    single_covers [] (port 0 1) (port_single 0 1),
    port_covers_some [] 0 1,
    single_covers [] bare_cell bare_single,
  );
  in_order = (tt, tt);
  signatures = (
    (λ q p t u x y. ap (signature []) (same_tree (port 0 1).rules (port_single 0 1).0 q t u x y)),
    ((λ q p t u x y. ap (signature []) (same_tree bare_cell.rules bare_single.0 q t u x y)), tt),
  );
  reached = pointer_reached [];
  back = ((λ e. absurd (true≢false (sym e))), (λ e. pointer_nowhere []));
}

-- the table of this box
pointer_table : IsBoxTable (record { face = list_face; defs = pointer_box ∷ [] })
pointer_table = record {
  faces = refl;
  sound = (pointer_sound, tt);
  count = omega arith;
  names = ((λ i. i), tt);
  words = ((inl (omega arith, omega arith), (inr (omega arith, omega arith), tt)), tt);
  insides = ((refl, refl), tt);
}

-- It is a table over the face that has its box, and over no other.

over_its_face : IsTableOf list_face (pointer_box ∷ [])
over_its_face = pointer_table

over_another : IsTableOf plain_face (pointer_box ∷ []) → ⊥
over_another h = let z : 0 ≡ 1 = ap (λ (l : List BoxFace). length l) h.faces in omega (arith, z)

empty_over_boxes : IsTableOf list_face [] → ⊥
empty_over_boxes h = let z : 1 ≡ 0 = ap (λ (l : List BoxFace). length l) h.faces in omega (arith, z)

-- the same box twice
two_alike : IsTableOf (record list_face { boxes = one_pointer ∷ one_pointer ∷ [] }) (pointer_box ∷ pointer_box ∷ []) → ⊥
two_alike h = h.names.0 (inl refl)

-- a box with another face than that of the structs' box
another_face : IsTableOf list_face (record pointer_box { face = record one_pointer { back = true } } ∷ []) → ⊥
another_face h = let z : false ≡ true = ap first_back h.faces in true≢false (sym z)
  where
    first_back : List BoxFace → Bool
    first_back [] = false
    first_back (x ∷ xs) = x.back

-- a box with a variable inside
with_variable : IsTableOf list_face
    (record pointer_box { inside = record pointer_box.inside { vars = At 0 ∷ [] } } ∷ []) → ⊥
with_variable h = let z : 1 ≡ 0 = ap (λ (l : List Target). length l) h.insides.0.0 in omega (arith, z)

-- over a face without boxes the empty list is a table, and the only one
empty_table : IsTableOf plain_face []
empty_table = record { faces = refl; sound = tt; count = omega arith; names = tt; words = tt; insides = tt }

only_empty : (T : List BoxDef) → IsTableOf plain_face T → T ≡ []
only_empty [] h = refl
only_empty (b ∷ T) h = absurd (let z : 0 ≡ suc (length T) = by h.faces in omega (arith, z))
  where
    count : (ds : List BoxDef) → length (faces_of ds) ≡ length ds
    count [] = refl
    count (d ∷ ds) = ap (λ (n : ℕ). suc n) (count ds)

    by : [] ≡ faces_of (b ∷ T) → 0 ≡ suc (length T)
    by e = ap (λ (l : List BoxFace). length l) e ∙ count (b ∷ T)
