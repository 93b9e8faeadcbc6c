-- Boxes that are not sound, each for one cause.
use Rattle.std.proofs.Common.{◌≡◌, inl, inr, ℕ, suc, false, true≢false, List, [], ◌∷◌, length}
use Rattle.std.proofs.Common.{refl, sym, ap, ◌∙◌, Some, arith}
use Rattle.fore_base.specs.declared.store.Datum.TheVariants.{Known}
use Rattle.fore_base.specs.declared.store.Value.TheVariants.{Cell as CellValue}
use Rattle.ta_core.specs.Auto.{Automaton}
use Rattle.ta_core.specs.Language.{InLanguage, RunOf, run_none, TakesPart, at_top, below, this_one, later_one}
use Rattle.ta_core.specs.declared.symbol.Slot.TheVariants.{Field}
use Rattle.ta_core.specs.declared.symbol.Symbol.TheVariants.{Null, Ref, Cell}
use Rattle.ta_core.specs.declared.tree.Tree.{Tree, roll-Tree, out-roll-Tree}
use Rattle.fa_core.specs.declared.boxes.BoxDef.{BoxDef}
use Rattle.fa_core.specs.declared.faces.BoxFace.{BoxFace}
use Rattle.fa_core.specs.declared.faces.Face.{Face}
use Rattle.fa_core.specs.declared.forest.Target.TheVariants.{Null as NullTarget, At}
use Rattle.fa_core.specs.declared.signature.RefMark.{RefMark}
use Rattle.fa_core.specs.Boxes.{PortSymbolFits, CoverAlike, CoverSome, InsideRulesFit, IsPortSpot, IsReached, LeadsUp}
use Rattle.fa_core.specs.Boxes.{SoundBox}
use Rattle.fa_core.specs.Choices.{bares}
use Rattle.fa_core.specs.Dressed.{Node, Nodes, node, no_parts, field, under, leaf, no_nodes, more}
use Rattle.fa_core.specs.Filled.{given_at}
use Rattle.fa_core.specs.Member.{bare, bare_end}
use Rattle.fa_core.specs.Ways.{signature}
use Rattle.fa_core.proofs.Dressing.{cell_top}
use Rattle.fa_core.proofs.GivenTips.{given_tips}
use Rattle.fa_core.proofs.NodeRuns.{NodeRun, node_bare, end_bare}
use Rattle.fa_core.proofs.NodeSpots.{spots_are}
use Rattle.fa_core.proofs.ReachedEnds.{reached_ends}
use Rattle.fa_core.proofs.Rearranging.{long_same}
use Rattle.fa_core.proofs.RowsBack.{opened, one_inside, one_never}
use Rattle.fa_core.proofs.RowsBoxes.{port, port_node, port_runs, box_face}
use Rattle.fa_core.proofs.RowsCanonical.{rule, dll_face}
use Rattle.fa_core.proofs.RowsChains.{chain_structs, chain_face}
use Rattle.fa_core.proofs.RowsForests.{bare_cell, bare_node, bare_runs}
use Rattle.fa_core.proofs.RowsHooks.{ring_face, item, item_node, item_runs}
use Rattle.fa_core.proofs.RowsPorts.{two_fields, next_runs, prev_runs, null_port, null_node, null_runs, no_rules}
use Rattle.fa_core.proofs.RowsPorts.{no_tree}
use Rattle.fa_core.proofs.SeenCells.{tops_structs}
use Rattle.fa_core.proofs.WaysOf.{tree_roots}

-- Items with next and prev, heads with a datum and first; no box is there before.

abbrev plain : Face
plain = record { shapes = record { structs = chain_structs }; boxes = [] }

abbrev box_of : BoxFace → List Automaton → BoxDef
box_of x autos = record { name = 98 ∷ []; face = x; inside = record { autos = autos; vars = []; data_vars = [] } }

-- Fields.

-- an inner root without its prev
abbrev short_nodes : Nodes
short_nodes = more (port_node 0 0 1) (more (port_node 1 0 0) no_nodes)

inner_root_lacks_prev : (T : List BoxDef) → SoundBox plain T (box_of ring_face (port 0 1 ∷ port 0 0 ∷ [])) → ⊥
inner_root_lacks_prev T h =
    let f = h.fits (bares short_nodes) (port_runs 0 0 1, (port_runs 1 0 0, tt)) in
    let e = spots_are [] (port_node 1 0 0) (given_at [] (bares short_nodes) 1) in
    let g = given_tips [] 1 short_nodes in
    let w = (rw e at f.cells.1.0).0.once in
    let z = long_same (rw g at w) in
    omega (arith, z)

-- a cell below a port without its prev
abbrev short_head : Automaton
short_head = record {
  states = 3;
  roots = 0 ∷ [];
  rules = rule 0 (Cell 1 [] (Field 0 ∷ [])) (1 ∷ []) ∷ rule 1 (Cell 0 [] (Field 0 ∷ [])) (2 ∷ [])
      ∷ rule 2 (Ref 1) [] ∷ [];
}

abbrev short_node : Node
short_node = node 0 1 [] (field 0 (under (port_node 1 0 1)) no_parts)

short_runs : InLanguage short_head (bare short_node)
short_runs =
    let low : NodeRun short_head.rules 1 (port_node 1 0 1) = (
      rule 1 (Cell 0 [] (Field 0 ∷ [])) (2 ∷ []),
      inr (inl refl),
      refl,
      refl,
      ((rule 2 (Ref 1) [], inr (inr (inl refl)), refl, refl, refl), tt),
    ) in (
      0,
      inl refl,
      node_bare short_head.rules 0 short_node (
        rule 0 (Cell 1 [] (Field 0 ∷ [])) (1 ∷ []),
        inl refl,
        refl,
        refl,
        (low, tt),
      ),
    )

abbrev low_nodes : Nodes
low_nodes = more short_node (more (port_node 2 1 1) no_nodes)

low_cell_lacks_prev : (T : List BoxDef) → SoundBox plain T (box_of chain_face (short_head ∷ port 1 1 ∷ [])) → ⊥
low_cell_lacks_prev T h =
    let f = h.fits (bares low_nodes) (short_runs, (port_runs 2 1 1, tt)) in
    let e = spots_are [] short_node (given_at [] (bares low_nodes) 0) in
    let w = (rw e at f.cells.0).1.0.once in
    let z = long_same w in
    omega (arith, z)

-- a port with a field of its own and the same by an edge
given_twice : IsPortSpot plain (0 ∷ 0 ∷ []) (0 ∷ [])
    (record { shape = 0; slots = Field 0 ∷ []; ends = Ref 1 ∷ []; given = 0 ∷ [] }) → ⊥
given_twice h = let z = long_same h.once in omega (arith, z)

-- the fields of a face rise
not_rising_in : (face : Face) (T : List BoxDef) (autos : List Automaton)
    → SoundBox face T (box_of (record box_face { gives_in = 1 ∷ 0 ∷ [] }) autos) → ⊥
not_rising_in face T autos h = let l = h.in_order.0.0 in omega (arith, l)

not_rising_out : (face : Face) (T : List BoxDef) (autos : List Automaton)
    → SoundBox face T (box_of (record box_face { gives_out = 1 ∷ 1 ∷ [] }) autos) → ⊥
not_rising_out face T autos h = let l = h.in_order.1.0 in omega (arith, l)

-- Rules.

-- items have no third pointer: an inner root's rules are looked at, though no port's is wrong
no_third_field : InsideRulesFit plain ((0 ∷ []) ∷ []) (port 0 1 ∷ port 2 0 ∷ []) → ⊥
no_third_field h = true≢false (sym h.1.0.0.3.0)

-- a port has no data, also where its struct has
port_without_data : PortSymbolFits plain (Cell 1 [] (Field 0 ∷ []))
port_without_data = (omega arith, refl, (refl, tt))

port_with_data : PortSymbolFits plain (Cell 1 (Known 3 ∷ []) (Field 0 ∷ [])) → ⊥
port_with_data h = let z : 1 ≡ 0 = ap (λ (l : List _). length l) h.1 in omega (arith, z)

-- a reference to a third component
refers_beyond : (T : List BoxDef) → SoundBox plain T (box_of box_face (port 0 2 ∷ port 1 0 ∷ [])) → ⊥
refers_beyond T h =
    let f = h.fits (bare (port_node 0 0 2) ∷ bare (port_node 1 1 0) ∷ []) (port_runs 0 0 2, (port_runs 1 1 0, tt)) in
    let r = tree_roots (port_node 0 0 2) in
    let l = f.refs (bare (port_node 0 0 2)) 2 (inl refl) (rw r (inl refl)) in
    omega (arith, l)

-- Ports.

covers_either : CoverAlike [] two_fields → ⊥
covers_either h =
    let a = cell_top 0 0 [] (field 0 (leaf (At 1)) no_parts) in
    let b = cell_top 0 0 [] (field 1 (leaf (At 1)) no_parts) in
    let i = h (bare (port_node 0 0 1)) (bare (port_node 0 1 1)) next_runs prev_runs 0 (rw a (inl refl)) in
    elim (rw b at i) [ inl e ↦ omega (arith, e) | inr x ↦ x ]

-- an input without a slot, whose fields would all come by edges
covers_none : CoverSome [] bare_cell → ⊥
covers_none h = let e = cell_top 0 0 [] no_parts in rw e at (h (bare bare_node) bare_runs)

-- the input is an item, and the face says a head
abbrev first : List ℕ → ℕ
first [] = 9
first (x ∷ xs) = x

other_struct : (T : List BoxDef) → SoundBox plain T (box_of (record box_face { input = 1 }) (port 0 1 ∷ port 1 0 ∷ []))
    → ⊥
other_struct T h =
    let d = more (port_node 0 0 1) (more (port_node 1 1 0) no_nodes) in
    let f = h.fits (bares d) (port_runs 0 0 1, (port_runs 1 1 0, tt)) in
    let z : 0 ≡ 1 = ap first (sym (tops_structs d f.tops f.are) ∙ f.ports.1) in
    omega (arith, z)

-- Signatures: the third child refers to root 1 or to nothing, and the first two refer to it in any case. So the roots
-- have one signature, and the state of the third child two.

abbrev third : Automaton
third = record {
  states = 3;
  roots = 0 ∷ [];
  rules = rule 0 (Cell 0 [] (Field 0 ∷ Field 1 ∷ Field 2 ∷ [])) (1 ∷ 1 ∷ 2 ∷ []) ∷ rule 1 (Ref 1) []
      ∷ rule 2 (Ref 1) [] ∷ rule 2 Null [] ∷ [];
}

abbrev ref : Tree
ref = bare_end (leaf (At 1))

abbrev null : Tree
null = bare_end (leaf NullTarget)

ref_runs : RunOf third.rules 1 ref
ref_runs = end_bare third.rules 1 (leaf (At 1)) (rule 1 (Ref 1) [], inr (inl refl), refl, refl, refl)

third_ref : RunOf third.rules 2 ref
third_ref = end_bare third.rules 2 (leaf (At 1)) (rule 2 (Ref 1) [], inr (inr (inl refl)), refl, refl, refl)

third_null : RunOf third.rules 2 null
third_null = end_bare third.rules 2 (leaf NullTarget) (rule 2 Null [], inr (inr (inr (inl refl))), refl, refl, refl)

third_takes_part : TakesPart third 2
third_takes_part =
    let e = out-roll-Tree (record {
      symbol = Cell 0 [] (Field 0 ∷ Field 1 ∷ Field 2 ∷ []);
      children = ref ∷ ref ∷ ref ∷ [];
    }) in (
      0,
      roll-Tree (record { symbol = Cell 0 [] (Field 0 ∷ Field 1 ∷ Field 2 ∷ []); children = ref ∷ ref ∷ ref ∷ [] }),
      inl refl,
      below (rule 0 (Cell 0 [] (Field 0 ∷ Field 1 ∷ Field 2 ∷ [])) (1 ∷ 1 ∷ 2 ∷ [])) (inl refl) refl (rw e refl)
          (rw e (later_one ref_runs (later_one ref_runs (this_one (at_top refl third_ref) run_none)))),
    )

abbrev marks : List RefMark → ℕ
marks [] = 0
marks (m ∷ ms) = suc (marks ms)

ref_marks : marks (signature [] ref) ≡ 1
ref_marks = let e = opened (record { symbol = Ref 1; children = [] }) in rw e refl

null_marks : marks (signature [] null) ≡ 0
null_marks = let e = opened (record { symbol = Null; children = [] }) in rw e refl

abbrev third_face : BoxFace
third_face = record { input = 0; output = Some 0; gives_in = 0 ∷ 1 ∷ 2 ∷ []; gives_out = []; back = false }

two_signatures : (T : List BoxDef)
    → SoundBox (record dll_face { boxes = [] }) T (box_of third_face (third ∷ bare_cell ∷ [])) → ⊥
two_signatures T h =
    let e = h.signatures.0 2 third_takes_part ref null third_ref third_null in
    let z : 1 ≡ 0 = sym ref_marks ∙ ap marks e ∙ null_marks in
    omega (arith, z)

-- Reachability.

output_unreached : (T : List BoxDef) → IsReached T (record box_face { gives_out = [] }) (null_port ∷ bare_cell ∷ []) → ⊥
output_unreached T h =
    let r = h (more null_node (more bare_node no_nodes)) (null_runs, (tt, tt), (bare_runs, tt, tt)) 1
    (CellValue 1 ∷ CellValue 2 ∷ [])
    (CellValue 2, refl, inl (2, refl)) 2 (inr (inr (inl refl))) in
    elim (reached_ends _ _ 2 r) [
      | inl i ↦ elim i [ inl e ↦ omega (arith, e) | inr x ↦ x ]
      | inr i ↦ i
    ]

-- the input's next is the input, so nothing leads to the inner root 3
inner_unreached : (T : List BoxDef) → IsReached T ring_face (port 0 0 ∷ item 0 ∷ []) → ⊥
inner_unreached T h =
    let r = h (more (port_node 0 0 0) (more (item_node 3 0) no_nodes))
    (port_runs 0 0 0, (tt, tt), (item_runs 3 0, (tt, (tt, tt)), tt)) 1
    (CellValue 1 ∷ []) refl 3 (inl (inl refl)) in
    elim (reached_ends _ _ 3 r) [
      | inl i ↦ elim i [ inl e ↦ omega (arith, e) | inr x ↦ x ]
      | inr i ↦ elim i [ inl e ↦ omega (arith, e) | inr j ↦ elim j [ inl e ↦ omega (arith, e) | inr x ↦ x ] ]
    ]

-- the edge of one pointer, said to lead back
does_not_lead_up : (T : List BoxDef) → LeadsUp T (port 0 1 ∷ bare_cell ∷ []) → ⊥
does_not_lead_up T h =
    one_never 7 0 1 2 (λ e. omega (arith, e)) (h (one_inside 7 0) (port_runs 7 0 1, (tt, tt), (bare_runs, tt, tt)) 1 2)

-- A component without a tree.

empty_component : (face : Face) (T : List BoxDef) (x : BoxFace) → SoundBox face T (box_of x (port 0 1 ∷ no_rules ∷ []))
    → ⊥
empty_component face T x h = let w = h.full.1.0 in no_tree w.0 w.1
