-- Worked boxes: which rules they break.
use Rattle.std.proofs.Common.{◌≡◌, inl, inr, ℕ, false, List, [], ◌∷◌, length, refl, sym}
use Rattle.std.proofs.Common.{ap, ◌∙◌, Some, None, arith}
use Rattle.fore_base.specs.declared.store.Value.TheVariants.{Cell as CellValue}
use Rattle.ta_core.specs.Auto.{Automaton}
use Rattle.ta_core.specs.Language.{InLanguage}
use Rattle.ta_core.specs.declared.symbol.Slot.TheVariants.{Field, Link}
use Rattle.ta_core.specs.declared.symbol.Symbol.{Symbol}
use Rattle.ta_core.specs.declared.symbol.Symbol.TheVariants.{Null, Ref, Cell}
use Rattle.ta_core.specs.declared.tree.Tree.{Tree}
use Rattle.fa_core.specs.declared.boxes.BoxDef.{BoxDef}
use Rattle.fa_core.specs.declared.faces.BoxFace.{BoxFace}
use Rattle.fa_core.specs.declared.faces.Face.{Face}
use Rattle.fa_core.specs.declared.forest.Target.TheVariants.{Null as NullTarget, At}
use Rattle.fa_core.specs.Choices.{bares}
use Rattle.fa_core.specs.Dressed.{Node, Nodes, node, no_parts, field, link, leaf, no_nodes, more}
use Rattle.fa_core.specs.Filled.{given_at}
use Rattle.fa_core.specs.Member.{bare, bare_end}
use Rattle.fa_core.proofs.Dressing.{cell_top, leaf_top}
use Rattle.fa_core.proofs.GivenTips.{given_tips}
use Rattle.fa_core.proofs.NodeRuns.{node_bare, end_bare}
use Rattle.fa_core.proofs.NodeSpots.{spots_are}
use Rattle.fa_core.proofs.RowsBoxes.{port, port_node, port_runs, box_face, dll_box, dll_sound}
use Rattle.fa_core.proofs.RowsCanonical.{rule, dll_face}
use Rattle.fa_core.proofs.ReachedEnds.{reached_ends}
use Rattle.fa_core.proofs.Rearranging.{long_same}
use Rattle.fa_core.proofs.RowsChains.{chain_structs}
use Rattle.fa_core.proofs.RowsHooks.{ring_box, ring_sound}
use Rattle.fa_core.proofs.RowsForests.{bare_cell, bare_node, bare_runs}
use Rattle.fa_core.proofs.RowsPorts.{two_fields, next_runs, prev_runs, null_port, null_node, null_runs, no_rules}
use Rattle.fa_core.proofs.RowsPorts.{no_tree}
use Rattle.fa_box_rules.specs.Rules.{Inside, Breaks, Breaks4, Breaks5, takes_leaf, other_struct, covers_apart}
use Rattle.fa_box_rules.specs.Cells.{MayName, EndMayFit}
use Rattle.fa_box_rules.specs.Rules.{covers_none, Breaks6, BreaksFirst, IsFaceOf, inside_of}
use Rattle.fa_box_rules.specs.declared.rule.BoxRule.{BoxRule}
use Rattle.fa_box_rules.specs.declared.rule.BoxRule.TheVariants.{B7}
use Rattle.fa_box_rules.proofs.SoundBoxes.{face_is, none_broken}

-- The box of a doubly linked list: it breaks none, and has its face.

dll_breaks_none : (T : List BoxDef) (r : BoxRule) → Breaks dll_face T (inside_of dll_box) r → ⊥
dll_breaks_none T = none_broken dll_face T dll_box (dll_sound dll_face (omega arith) refl refl T)

dll_has_face : (T : List BoxDef) → IsFaceOf dll_face T (inside_of dll_box) box_face
dll_has_face T = face_is dll_face T dll_box (dll_sound dll_face (omega arith) refl refl T)

-- no box is there before
abbrev plain : Face
plain = record { shapes = dll_face.shapes; boxes = [] }

abbrev of_ports : List Automaton → Inside
of_ports autos = record { input = 0; output = Some 0; autos = autos }

-- B4

-- a port with next twice
abbrev double : Automaton
double = record {
  states = 2;
  roots = 0 ∷ [];
  rules = rule 0 (Cell 0 [] (Field 0 ∷ Field 0 ∷ [])) (1 ∷ 1 ∷ []) ∷ rule 1 (Ref 1) [] ∷ [];
}

abbrev double_node : Node
double_node = node 0 0 [] (field 0 (leaf (At 1)) (field 0 (leaf (At 1)) no_parts))

double_runs : InLanguage double (bare double_node)
double_runs = (
  0,
  inl refl,
  node_bare double.rules 0 double_node (
    rule 0 (Cell 0 [] (Field 0 ∷ Field 0 ∷ [])) (1 ∷ 1 ∷ []),
    inl refl,
    refl,
    refl,
    (
      (rule 1 (Ref 1) [], inr (inl refl), refl, refl, refl),
      ((rule 1 (Ref 1) [], inr (inl refl), refl, refl, refl), tt),
    ),
  ),
)

abbrev double_nodes : Nodes
double_nodes = more double_node (more (port_node 1 1 0) no_nodes)

port_field_twice : Breaks4 plain (of_ports (double ∷ port 1 0 ∷ []))
port_field_twice = (
  bares double_nodes,
  (double_runs, (port_runs 1 1 0, tt)),
  (λ h. (let e = spots_are [] double_node (given_at [] (bares double_nodes) 0) in
      (rw e at h.0).0.once.0 (inl refl))),
)

-- the component behind the ports is a cell with next alone
abbrev short_nodes : Nodes
short_nodes = more (port_node 0 0 1) (more (port_node 1 0 0) no_nodes)

inner_cell_lacks_fields : Breaks4 plain (record { input = 0; output = None; autos = port 0 1 ∷ port 0 0 ∷ [] })
inner_cell_lacks_fields = (
  bares short_nodes,
  (port_runs 0 0 1, (port_runs 1 0 0, tt)),
  (λ h. (let e = spots_are [] (port_node 1 0 0) (given_at [] (bares short_nodes) 1) in
      let g = given_tips [] 1 short_nodes in
      let w = (rw e at h.1.0).0.once in
      let z = long_same (rw g at w) in
      omega (arith, z))),
)

-- B5

abbrev null_leaf : Automaton
null_leaf = record { states = 1; roots = 0 ∷ []; rules = rule 0 Null [] ∷ [] }

accepts_leaf : (T : List BoxDef) → Breaks5 plain T (of_ports (port 0 1 ∷ null_leaf ∷ []))
accepts_leaf T =
    let e = leaf_top NullTarget in
    takes_leaf null_leaf (bare_end (leaf NullTarget)) (inr (inl refl))
    (0, inl refl, end_bare null_leaf.rules 0 (leaf NullTarget) (rule 0 Null [], inl refl, refl, refl, refl)) (rw e refl)

-- the input is a cell of struct 0, and the box says struct 1
input_of_other_struct : (T : List BoxDef)
    → Breaks5 plain T (record { input = 1; output = None; autos = port 0 0 ∷ [] })
input_of_other_struct T =
    let e = cell_top 0 0 [] (field 0 (leaf (At 0)) no_parts) in
    other_struct 0 1 0 (port 0 0) (bare (port_node 0 0 0)) refl refl (port_runs 0 0 0) ([], Field 0 ∷ [], rw e refl)
    (λ z. omega (arith, z))

-- all fields of the input would come by edges of the inside
input_covers_none : (T : List BoxDef) → Breaks5 plain T (of_ports (bare_cell ∷ port 1 0 ∷ []))
input_covers_none T = covers_none bare_cell (bare bare_node) refl bare_runs
    (λ h. (let e = cell_top 0 0 [] no_parts in rw e at h))

-- the input's trees cover next or prev
input_covers_either : (T : List BoxDef) → Breaks5 plain T (of_ports (two_fields ∷ port 1 0 ∷ []))
input_covers_either T =
    let a = cell_top 0 0 [] (field 0 (leaf (At 1)) no_parts) in
    let b = cell_top 0 0 [] (field 1 (leaf (At 1)) no_parts) in
    covers_apart 0 0 two_fields (bare (port_node 0 0 1)) (bare (port_node 0 1 1)) (omega arith) refl next_runs prev_runs
    (rw a (inl refl))
    (λ i. (let j = rw b at i in elim j [ inl e ↦ omega (arith, e) | inr x ↦ x ]))

-- B7, whatever else is broken

empty_component : (face : Face) (T : List BoxDef) → BreaksFirst face T (of_ports (null_leaf ∷ no_rules ∷ [])) B7
empty_component face T = (no_rules, inr (inl refl), no_tree)

-- A ring of an input without an output and one inner cell breaks none.

ring_breaks_none : (bs : List BoxFace) (T : List BoxDef) (r : BoxRule)
    → Breaks (record { shapes = record { structs = chain_structs }; boxes = bs }) T (inside_of ring_box) r → ⊥
ring_breaks_none bs T =
    none_broken (record { shapes = record { structs = chain_structs }; boxes = bs }) T ring_box (ring_sound bs T)

-- B4, by ends: an edge of the box of a doubly linked list that ends in Null, also where the cell is a port

abbrev link_null : Automaton
link_null = record {
  states = 2;
  roots = 0 ∷ [];
  rules = rule 0 (Cell 0 [] (Link 0 ∷ [])) (1 ∷ []) ∷ rule 1 Null [] ∷ [];
}

abbrev link_node : Node
link_node = node 0 0 [] (link 0 no_nodes (leaf NullTarget) no_parts)

link_runs : InLanguage link_null (bare link_node)
link_runs = (
  0,
  inl refl,
  node_bare link_null.rules 0 link_node (
    rule 0 (Cell 0 [] (Link 0 ∷ [])) (1 ∷ []),
    inl refl,
    refl,
    refl,
    ((rule 1 Null [], inr (inl refl), refl, refl, refl), tt),
  ),
)

abbrev null_end : Symbol → ℕ
null_end Null = 0
null_end y = 1

link_may_not_end_in_null : (ts : List Tree) → EndMayFit dll_face ts 0 (Link 0) Null → ⊥
link_may_not_end_in_null ts h = elim h.5 [
  | inl n ↦ n
  | inr d ↦ (let z : 0 ≡ 1 = ap null_end d.0 in omega (arith, z))
]

edge_ends_in_null : Breaks4 dll_face (of_ports (link_null ∷ port 1 0 ∷ []))
edge_ends_in_null = (
  bares (more link_node (more (port_node 1 1 0) no_nodes)),
  (link_runs, (port_runs 1 1 0, tt)),
  (λ h. (let e = spots_are dll_face.boxes link_node
      (given_at dll_face.boxes (bares (more link_node (more (port_node 1 1 0) no_nodes))) 0) in
      let l = leaf_top NullTarget in
      let w = (rw e at h.0).0.ends.0 in
      link_may_not_end_in_null (bares (more link_node (more (port_node 1 1 0) no_nodes))) (rw l at w))),
)

-- an end that names a root whose tree is a leaf is not looked at
leaf_root_is_passed_over : (s : ℕ)
    → MayName (bare (port_node 0 0 1) ∷ bare_end (leaf NullTarget) ∷ []) (Ref 1) s
leaf_root_is_passed_over s = (
  bare_end (leaf NullTarget),
  refl,
  (λ u k. (let e = leaf_top NullTarget in
      let w : null_end Null ≡ null_end (Cell u k.0 k.1) = ap null_end (sym e ∙ k.2) in
      absurd (omega (arith, w)))),
)

-- B6: the input's next is null, and the output is given nothing

-- a face that gives its output something: then the output is a cell
abbrev some_face : BoxFace
some_face = record { input = 0; output = Some 0; gives_in = 0 ∷ []; gives_out = 1 ∷ []; back = false }

output_unreached : (T : List BoxDef) → Breaks6 plain T (of_ports (null_port ∷ bare_cell ∷ []))
output_unreached T = (
  some_face,
  refl,
  (λ e. absurd (let z : 1 ≡ 0 = ap (λ (l : List ℕ). length l) e in omega (arith, z))),
  (λ h. (let r = h (more null_node (more bare_node no_nodes)) (null_runs, (tt, tt), (bare_runs, tt, tt)) 1
      (CellValue 1 ∷ CellValue 2 ∷ [])
      (CellValue 2, refl, inl (2, refl)) 2 (inr (inr (inl refl))) in
      elim (reached_ends _ _ 2 r) [
        | inl i ↦ elim i [ inl e ↦ omega (arith, e) | inr x ↦ x ]
        | inr i ↦ i
      ])),
)
