-- Worked forests: which are well formed, which are not, and for what.
use Rattle.std.proofs.Common.{inl, inr, ℕ, false, List, [], ◌∷◌, refl, sym, ap, ◌∙◌, Some, arith}
use Rattle.fore_base.specs.declared.shape.FieldKind.TheVariants.{Pointer}
use Rattle.fore_base.specs.declared.shape.Shape.{Shape}
use Rattle.fore_base.specs.declared.store.Datum.TheVariants.{Known}
use Rattle.ta_core.specs.Auto.{Automaton}
use Rattle.ta_core.specs.Language.{InLanguage}
use Rattle.ta_core.specs.declared.symbol.Slot.TheVariants.{Field, Link}
use Rattle.ta_core.specs.declared.symbol.Symbol.TheVariants.{Null, Ref, Cell}
use Rattle.ta_core.specs.declared.tree.Tree.{Tree}
use Rattle.fa_core.specs.declared.faces.BoxFace.{BoxFace}
use Rattle.fa_core.specs.declared.faces.Face.{Face}
use Rattle.fa_core.specs.declared.forest.Forest.{Forest}
use Rattle.fa_core.specs.declared.forest.Target.{Target}
use Rattle.fa_core.specs.declared.forest.Target.TheVariants.{Null as NullTarget, At}
use Rattle.fa_core.specs.Dressed.{Node, Nodes, node, no_parts, field, link, leaf, no_nodes, more}
use Rattle.fa_core.specs.Filled.{TopsAre, given_at, IsFilled, IsSound}
use Rattle.fa_core.specs.Member.{bare, bare_end}
use Rattle.fa_core.specs.Rearranged.{empty, keep}
use Rattle.fa_core.proofs.Dressing.{leaf_top, cell_is_no_leaf}
use Rattle.fa_core.proofs.GivenTips.{given_tips}
use Rattle.fa_core.proofs.NodeRuns.{node_bare, end_bare}
use Rattle.fa_core.proofs.NodeSpots.{spots_are}
use Rattle.fa_core.proofs.Rearranging.{long_same}
use Rattle.fa_core.proofs.RowsCanonical.{rule, target_root}
use Rattle.fa_core.proofs.SingleTrees.{IsSingle, IsWorked, worked_well_formed}

-- One struct, with one pointer to itself, and the box that stands for this pointer.

abbrev pub list_struct : List Shape
list_struct = record { name = []; fields = record { name = []; kind = Pointer 0 } ∷ [] } ∷ []

abbrev pub one_pointer : BoxFace
one_pointer = record { input = 0; output = Some 0; gives_in = 0 ∷ []; gives_out = []; back = false }

abbrev pub list_face : Face
list_face = record { shapes = record { structs = list_struct }; boxes = one_pointer ∷ [] }

-- the lists of one cell
abbrev one_cell : Automaton
one_cell =
    record { states = 2; roots = 0 ∷ []; rules = rule 0 (Cell 0 [] (Field 0 ∷ [])) (1 ∷ []) ∷ rule 1 Null [] ∷ [] }

abbrev only : List Target → List Automaton → Forest
only vars autos = record { autos = autos; vars = vars; data_vars = [] }

single_one : IsSingle one_cell
single_one = ((refl, (refl, tt)), (0, refl))

abbrev one_node : ℕ → Node
one_node c = node c 0 [] (field 0 (leaf NullTarget) no_parts)

one_runs : (c : ℕ) → InLanguage one_cell (bare (one_node c))
one_runs c = (
  0,
  inl refl,
  node_bare one_cell.rules 0 (one_node c) (
    rule 0 (Cell 0 [] (Field 0 ∷ [])) (1 ∷ []),
    inl refl,
    refl,
    refl,
    ((rule 1 Null [], inr (inl refl), refl, refl, refl), tt),
  ),
)

-- one cell and no variable: sound
one_worked : IsWorked list_face (only [] (one_cell ∷ [])) (more (one_node 0) no_nodes)
one_worked = record {
  single = (single_one, tt);
  choice = (one_runs 0, tt);
  differ = ((λ i. i), tt);
  refers = tt;
  vars = tt;
  data_vars = tt;
  rules = (((omega arith, refl, tt, (refl, tt)), (tt, tt)), tt);
  cells = (record { slots = ((0, refl, tt), tt); order = ((tt, tt), tt); once = keep 0 empty }, tt);
}

one_sound : IsSound list_face (only [] (one_cell ∷ []))
one_sound =
    record {
      well_formed = worked_well_formed list_face (only [] (one_cell ∷ [])) (more (one_node 0) no_nodes) one_worked;
      full = ((bare (one_node 0), one_runs 0), tt);
    }

-- a cell that gives no field: not filled
abbrev pub bare_cell : Automaton
bare_cell = record { states = 1; roots = 0 ∷ []; rules = rule 0 (Cell 0 [] []) [] ∷ [] }

abbrev pub bare_node : Node
bare_node = node 0 0 [] no_parts

pub bare_runs : InLanguage bare_cell (bare bare_node)
bare_runs = (0, inl refl, node_bare bare_cell.rules 0 bare_node (rule 0 (Cell 0 [] []) [], inl refl, refl, refl, tt))

-- the spots of that one cell have its one field given by nothing
bare_unfilled : IsFilled list_face (only [] (bare_cell ∷ [])) → ⊥
bare_unfilled h =
    let f = h.trees (bare bare_node ∷ []) (bare_runs, tt) in
    let s = f.cells.0 in
    let e = spots_are list_face.boxes bare_node (given_at list_face.boxes (bare bare_node ∷ []) 0) in
    let g = given_tips list_face.boxes 0 (more bare_node no_nodes) in
    let z = (rw e at s).0.once in
    let w = long_same (rw g at z) in
    omega (arith, w)

-- A datum of 16; a leaf at the top; a target beyond the roots: each of these alone.

sixteen : IsFilled list_face (record { autos = one_cell ∷ []; vars = []; data_vars = Known 16 ∷ [] }) → ⊥
sixteen h = omega (arith, h.data_vars.0)

abbrev null_leaf : Automaton
null_leaf = record { states = 1; roots = 0 ∷ []; rules = rule 0 Null [] ∷ [] }

abbrev null_tree : Tree
null_tree = bare_end (leaf NullTarget)

null_runs : InLanguage null_leaf null_tree
null_runs = (0, inl refl, end_bare null_leaf.rules 0 (leaf NullTarget) (rule 0 Null [], inl refl, refl, refl, refl))

no_top : (structs : List ℕ) → TopsAre (null_tree ∷ []) structs → ⊥
no_top [] h = h
no_top (s ∷ structs) h = cell_is_no_leaf NullTarget s h.0.0 h.0.1 (sym (leaf_top NullTarget) ∙ h.0.2)

leaf_at_the_top : IsFilled list_face (only [] (null_leaf ∷ [])) → ⊥
leaf_at_the_top h = let f = h.trees (null_tree ∷ []) (null_runs, tt) in no_top f.tops f.are

target_beyond : IsFilled list_face (only (At 1 ∷ []) (one_cell ∷ [])) → ⊥
target_beyond h = let f = h.trees (bare (one_node 0) ∷ []) (one_runs 0, tt) in let l = f.vars.0 1 refl in
    omega (arith, l)

-- A box edge from root 0 to root 1, a variable at each: sound.

abbrev edge_cell : Automaton
edge_cell =
    record { states = 2; roots = 0 ∷ []; rules = rule 0 (Cell 0 [] (Link 0 ∷ [])) (1 ∷ []) ∷ rule 1 (Ref 1) [] ∷ [] }

abbrev edge_node : ℕ → Node
edge_node c = node c 0 [] (link 0 no_nodes (leaf (At 1)) no_parts)

edge_runs : (c : ℕ) → InLanguage edge_cell (bare (edge_node c))
edge_runs c = (
  0,
  inl refl,
  node_bare edge_cell.rules 0 (edge_node c) (
    rule 0 (Cell 0 [] (Link 0 ∷ [])) (1 ∷ []),
    inl refl,
    refl,
    refl,
    ((rule 1 (Ref 1) [], inr (inl refl), refl, refl, refl), tt),
  ),
)

abbrev edge_forest : Forest
edge_forest = only (At 0 ∷ At 1 ∷ []) (edge_cell ∷ one_cell ∷ [])

abbrev edge_nodes : Nodes
edge_nodes = more (edge_node 0) (more (one_node 1) no_nodes)

edge_worked : IsWorked list_face edge_forest edge_nodes
edge_worked = record {
  single = (((refl, (refl, tt)), (0, refl)), (single_one, tt));
  choice = (edge_runs 0, (one_runs 1, tt));
  differ = ((λ i. elim i [ inl e ↦ omega (arith, e) | inr x ↦ x ]), ((λ i. i), tt));
  refers = (omega arith, tt);
  vars = (
    (λ r e. (let z = ap target_root e in omega (arith, z))),
    ((λ r e. (let z = ap target_root e in omega (arith, z))), tt),
  );
  data_vars = tt;
  rules = (((omega arith, refl, tt, (refl, tt)), (tt, tt)), (((omega arith, refl, tt, (refl, tt)), (tt, tt)), tt));
  cells = (
    record {
      slots = ((one_pointer, 0, refl, refl, refl, inl (inr (inl (refl, refl)))), tt);
      order = ((tt, tt), tt);
      once = keep 0 empty;
    },
    (record { slots = ((0, refl, tt), tt); order = ((tt, tt), tt); once = keep 0 empty }, tt),
  );
}

edge_sound : IsSound list_face edge_forest
edge_sound =
    record {
      well_formed = worked_well_formed list_face edge_forest edge_nodes edge_worked;
      full = ((bare (edge_node 0), edge_runs 0), ((bare (one_node 0), one_runs 0), tt));
    }
