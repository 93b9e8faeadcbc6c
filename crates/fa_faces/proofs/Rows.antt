-- Worked boxes: the face that they have, or the first rule that they break.
use Rattle.std.proofs.Common.{◌≡◌, ◌⊎◌, inl, inr, ℕ, ◌<◌, List, [], ◌∷◌, length, refl, sym, ap, subst, ◌∙◌, Some, None}
use Rattle.std.proofs.Common.{arith}
use Rattle.fore_base.specs.Lists.{IsIn}
use Rattle.fore_base.specs.declared.store.Value.TheVariants.{Cell as CellValue}
use Rattle.ta_core.specs.Auto.{Automaton}
use Rattle.ta_core.specs.Language.{InLanguage}
use Rattle.ta_core.specs.declared.symbol.Slot.TheVariants.{Link}
use Rattle.ta_core.specs.declared.symbol.Symbol.{Symbol}
use Rattle.ta_core.specs.declared.symbol.Symbol.TheVariants.{Ref, Cell}
use Rattle.ta_core.specs.declared.tree.Tree.{Tree}
use Rattle.fa_core.specs.declared.boxes.BoxDef.{BoxDef}
use Rattle.fa_core.specs.declared.faces.BoxFace.{BoxFace}
use Rattle.fa_core.specs.declared.faces.Face.{Face}
use Rattle.fa_core.specs.declared.forest.Target.TheVariants.{At}
use Rattle.fa_core.specs.Boxes.{InsideFits, IsPortFilled, IsReached, Reaches, named, SoundBox}
use Rattle.fa_core.specs.Canonical.{RefersTo}
use Rattle.fa_core.specs.Choices.{bares}
use Rattle.fa_core.specs.Dressed.{Node, Nodes, node, no_parts, field, link, under, leaf, no_nodes, more, inside_facts}
use Rattle.fa_core.specs.Filled.{Choice, IsTopped, given_at, spots}
use Rattle.fa_core.specs.Member.{bare, TreesOf}
use Rattle.fa_core.specs.Rearranged.{Rearranged, keep, empty}
use Rattle.fa_core.specs.Ways.{signature}
use Rattle.fa_core.proofs.Dressing.{cell_top, leaf_top}
use Rattle.fa_core.proofs.GivenTips.{given_tips}
use Rattle.fa_core.proofs.NodeRuns.{node_bare}
use Rattle.fa_core.proofs.NodeSpots.{spots_are}
use Rattle.fa_core.proofs.RowsBoxes.{port, port_node, box_face, dll_box, dll_sound, port_is}
use Rattle.fa_core.proofs.RowsBoxes.{port_runs, port_single, port_rules, single_covers, port_covers_some}
use Rattle.fa_core.proofs.RowsCanonical.{rule, dll_face}
use Rattle.fa_core.proofs.RowsChains.{chain_structs}
use Rattle.fa_core.proofs.RowsForests.{bare_cell, bare_node, bare_runs}
use Rattle.fa_core.proofs.RowsHooks.{ring_autos, ring_box, ring_face, ring_sound}
use Rattle.fa_core.proofs.RowsPorts.{both_node, both_runs, no_rules, no_tree, one_runs, two_ways}
use Rattle.fa_core.proofs.SeenCells.{structs_tops}
use Rattle.fa_core.proofs.SingleTrees.{same_tree, single_tree, single_choice}
use Rattle.fa_core.proofs.WaysOf.{tree_roots}
use Rattle.fa_box_rules.specs.Cells.{AreRight, IsRightUnder}
use Rattle.fa_box_rules.specs.Rules.{Breaks5, covers_apart, covers_none, Gives, root_fields, IsFaceOf}
use Rattle.fa_box_rules.specs.declared.rule.BoxRule.TheVariants.{B4, B5, B6, B7}
use Rattle.fa_box_rules.proofs.SoundBoxes.{face_is, none_broken}
use Rattle.fa_faces.specs.Faults.{box_inside, IsFaultOf}
use Rattle.fa_faces.specs.declared.fault.FaceFault.{FaceFault}
use Rattle.fa_faces.specs.declared.fault.FaceFault.TheVariants.{Breaks, Memory}
use Rattle.fa_faces.proofs.Faced.{right_no_four, full_no_seven}

-- B7, and no other rule, where the second component has no tree

empty_component : (face : Face) (T : List BoxDef)
    → IsFaultOf face T (box_inside 0 (Some 0) (port 0 1 ∷ no_rules ∷ [])) (Breaks B7)
empty_component face T = (no_rules, inr (inl refl), no_tree)

not_four_then : (face : Face) (T : List BoxDef)
    → IsFaultOf face T (box_inside 0 (Some 0) (port 0 1 ∷ no_rules ∷ [])) (Breaks B4) → ⊥
not_four_then face T f = f.0 (no_rules, inr (inl refl), no_tree)

-- dll: want of memory alone may keep its face

abbrev dll_autos : List Automaton
dll_autos = port 0 1 ∷ port 1 0 ∷ []

dll_breaks_none : (T : List BoxDef) (e : FaceFault) → IsFaultOf dll_face T (box_inside 0 (Some 0) dll_autos) e
    → e ≡ Memory
dll_breaks_none T (Breaks B4) f =
    absurd (none_broken dll_face T dll_box (dll_sound dll_face (omega arith) refl refl T) B4 f.1)
dll_breaks_none T (Breaks B5) f =
    absurd (none_broken dll_face T dll_box (dll_sound dll_face (omega arith) refl refl T) B5 f.2)
dll_breaks_none T (Breaks B6) f =
    absurd (none_broken dll_face T dll_box (dll_sound dll_face (omega arith) refl refl T) B6 f.3)
dll_breaks_none T (Breaks B7) f =
    absurd (none_broken dll_face T dll_box (dll_sound dll_face (omega arith) refl refl T) B7 f)
dll_breaks_none T Memory f = refl

dll_has_face : (T : List BoxDef) → IsFaceOf dll_face T (box_inside 0 (Some 0) dll_autos) box_face
dll_has_face T = face_is dll_face T dll_box (dll_sound dll_face (omega arith) refl refl T)

-- B5: the input is `node()`, and is given `prev` by an edge of dll from the output, `node(@dll=s1)` with `s1 = ref 0`

abbrev linker : ℕ → Automaton
linker r = record {
  states = 2;
  roots = 0 ∷ [];
  rules = rule 0 (Cell 0 [] (Link 0 ∷ [])) (1 ∷ []) ∷ rule 1 (Ref r) [] ∷ [];
}

abbrev link_node : ℕ → ℕ → Node
link_node c r = node c 0 [] (link 0 no_nodes (leaf (At r)) no_parts)

link_runs : (c r : ℕ) → InLanguage (linker r) (bare (link_node c r))
link_runs c r = (
  0,
  inl refl,
  node_bare (linker r).rules 0 (link_node c r) (
    rule 0 (Cell 0 [] (Link 0 ∷ [])) (1 ∷ []),
    inl refl,
    refl,
    refl,
    ((rule 1 (Ref r) [], inr (inl refl), refl, refl, refl), tt),
  ),
)

abbrev given_autos : List Automaton
given_autos = bare_cell ∷ linker 0 ∷ []

abbrev given_nodes : Nodes
given_nodes = more bare_node (more (link_node 1 0) no_nodes)

given_choice : Choice given_autos (bares given_nodes)
given_choice = (bare_runs, (link_runs 1 0, tt))

given_same : (ts : List Tree) → Choice given_autos ts → bares given_nodes ≡ ts
given_same ts c = single_choice given_autos (bares given_nodes) ts
    (((refl, tt), (0, refl)), (((refl, (refl, tt)), (0, refl)), tt)) given_choice c

abbrev struct_at : Symbol → ℕ
struct_at (Cell s ds ss) = s
struct_at y = 9

names_bare : (u : ℕ) → IsTopped u (bare bare_node) → u ≡ 0
names_bare u k = let e = cell_top 0 0 [] no_parts in sym (ap struct_at (sym e ∙ k.2))

given_input : IsRightUnder dll_face (bares given_nodes)
    (spots dll_face.boxes (bare bare_node) (given_at dll_face.boxes (bares given_nodes) 0))
given_input =
    let e = spots_are dll_face.boxes bare_node (given_at dll_face.boxes (bares given_nodes) 0) in
    let g = given_tips dll_face.boxes 0 given_nodes in
    rw e (record { ends = tt; order = (tt, tt); once = rw g ((λ x. x), tt) }, tt)

given_output : IsRightUnder dll_face (bares given_nodes)
    (spots dll_face.boxes (bare (link_node 1 0)) (given_at dll_face.boxes (bares given_nodes) 1))
given_output =
    let e = spots_are dll_face.boxes (link_node 1 0) (given_at dll_face.boxes (bares given_nodes) 1) in
    let g = given_tips dll_face.boxes 1 given_nodes in
    let l = leaf_top (At 0) in
    rw e (
      record {
        ends = ((box_face, 0, refl, refl, refl, inl (rw l (bare bare_node, refl, names_bare))), tt);
        order = ((tt, tt), tt);
        once = rw g ((λ x. x), tt);
      },
      tt,
    )

given_right : (ts : List Tree) → Choice given_autos ts → AreRight dll_face ts 0 2 ts
given_right ts c = subst (λ (us : List Tree). AreRight dll_face us 0 2 us) (given_same ts c)
    (given_input, (given_output, tt))

input_given_alone : (T : List BoxDef)
    → IsFaultOf dll_face T (box_inside 0 (Some 0) given_autos) (Breaks B5)
input_given_alone T = (
  full_no_seven (box_inside 0 (Some 0) given_autos)
      ((bare bare_node, bare_runs), ((bare (link_node 1 0), link_runs 1 0), tt)),
  right_no_four dll_face (box_inside 0 (Some 0) given_autos) given_right,
  covers_none bare_cell (bare bare_node) refl bare_runs
      (λ h. (let e = cell_top 0 0 [] no_parts in rw e at h)),
)

-- B5: the output has two root rules, of which the one covers `next` and `prev`, and the other `next` alone
output_covers_apart : (T : List BoxDef) → Breaks5 dll_face T (box_inside 0 (Some 0) (linker 1 ∷ two_ways ∷ []))
output_covers_apart T =
    let a = cell_top 1 0 [] (field 0 (leaf (At 0)) (field 1 (leaf (At 0)) no_parts)) in
    let b = cell_top 1 0 [] (field 0 (leaf (At 0)) no_parts) in
    covers_apart 1 1 two_ways (bare both_node) (bare (port_node 1 0 0)) (omega arith) refl both_runs one_runs
    (rw a (inr (inl refl)))
    (λ i. (let j = rw b at i in elim j [ inl e ↦ omega (arith, e) | inr x ↦ x ]))

-- two edges of dll, one below the other: the output, `node()`, is given `prev` by the lower one

abbrev chain_of_two : Automaton
chain_of_two = record {
  states = 3;
  roots = 0 ∷ [];
  rules = rule 0 (Cell 0 [] (Link 0 ∷ [])) (1 ∷ []) ∷ rule 1 (Cell 0 [] (Link 0 ∷ [])) (2 ∷ []) ∷ rule 2 (Ref 1) []
      ∷ [];
}

abbrev chain_node : Node
chain_node = node 2 0 [] (link 0 no_nodes (under (link_node 3 1)) no_parts)

chain_runs : InLanguage chain_of_two (bare chain_node)
chain_runs = (
  0,
  inl refl,
  node_bare chain_of_two.rules 0 chain_node (
    rule 0 (Cell 0 [] (Link 0 ∷ [])) (1 ∷ []),
    inl refl,
    refl,
    refl,
    (
      (
        rule 1 (Cell 0 [] (Link 0 ∷ [])) (2 ∷ []),
        inr (inl refl),
        refl,
        refl,
        ((rule 2 (Ref 1) [], inr (inr (inl refl)), refl, refl, refl), tt),
      ),
      tt,
    ),
  ),
)

abbrev chain_autos : List Automaton
chain_autos = chain_of_two ∷ bare_cell ∷ []

abbrev chain_nodes : Nodes
chain_nodes = more chain_node (more bare_node no_nodes)

chain_same : (ts : List Tree) → Choice chain_autos ts → bares chain_nodes ≡ ts
chain_same ts c = single_choice chain_autos (bares chain_nodes) ts
    (((refl, (refl, (refl, tt))), (0, refl)), (((refl, tt), (0, refl)), tt)) (chain_runs, (bare_runs, tt)) c

output_given_prev : Gives dll_face.boxes chain_autos 1 (1 ∷ [])
output_given_prev ts c =
    subst (λ (us : List Tree). Rearranged (1 ∷ []) (root_fields dll_face.boxes us 1)) (chain_same ts c)
    (let g = given_tips dll_face.boxes 1 chain_nodes in
    let e = cell_top 0 0 [] no_parts in
    rw (g, e) (keep 1 empty))

-- A Hook whose box has an input that refers to itself, `node(next=s1)` with `s1 = ref 0`: it is sound, and covers
-- `next`

abbrev own_autos : List Automaton
own_autos = port 0 0 ∷ []

abbrev own_nodes : Nodes
own_nodes = more (port_node 0 0 0) no_nodes

own_is : (T : List BoxDef) (d : Nodes) → TreesOf T own_autos d → (k : ℕ) × (d ≡ more (port_node k 0 0) no_nodes)
own_is T no_nodes h = absurd h
own_is T (more n no_nodes) h =
    let t = single_tree (port 0 0) (bare n) (bare (port_node 0 0 0)) (port_single 0 0) h.0 (port_runs 0 0 0) in
    let p = port_is 0 0 n t in
    (p.0, ap (λ (x : Node). more x no_nodes) p.1)
own_is T (more n (more m ns)) h = absurd h.2

own_refers : (t : Tree) (k : ℕ) → IsIn t (bares own_nodes) → RefersTo t k → k < 1
own_refers t k (inl e) h =
    elim (rw (tree_roots (port_node 0 0 0)) at (subst (λ (x : Tree). RefersTo x k) e h))
    [ inl i ↦ omega (arith, i) | inr x ↦ absurd x ]
own_refers t k (inr e) h = absurd e

own_filled : IsPortFilled dll_face (0 ∷ []) (0 ∷ [])
    (spots dll_face.boxes (bare (port_node 0 0 0)) (given_at dll_face.boxes (bares own_nodes) 0))
own_filled =
    let e = spots_are dll_face.boxes (port_node 0 0 0) (given_at dll_face.boxes (bares own_nodes) 0) in
    let g = given_tips dll_face.boxes 0 own_nodes in
    let l = leaf_top (At 0) in
    rw e (record { ends = ((0, refl, rw l refl), tt); order = ((tt, tt), tt); once = rw g (keep 0 empty) }, tt)

own_fits : InsideFits dll_face ring_face (bares own_nodes)
own_fits = record {
  tops = 0 ∷ [];
  are = structs_tops own_nodes;
  ports = ([], refl);
  refs = own_refers;
  cells = (own_filled, refl);
}

own_reached : (T : List BoxDef) → IsReached T ring_face own_autos
own_reached T d o c ports e n i =
    let w = own_is T d o in
    let f = w.1 in
    rw (e, f) (here w.0 (rw (e, f) at i))
  where
    here : (k : ℕ) → IsIn n [] ⊎ IsIn (CellValue n) (CellValue c ∷ [])
        → Reaches (CellValue c ∷ []) (inside_facts (CellValue c ∷ []) (more (port_node k 0 0) no_nodes)) n
    here k (inl x) = absurd x
    here k (inr (inl x)) = named (inl x)
    here k (inr (inr x)) = absurd x

abbrev own_box : BoxDef
own_box = record { name = []; face = ring_face; inside = record { autos = own_autos; vars = []; data_vars = [] } }

own_sound : (T : List BoxDef) → SoundBox dll_face T own_box
own_sound T = record {
  rules = (port_rules dll_face 0 0 (omega arith, refl, (refl, tt)), tt);
  full = ((bare (port_node 0 0 0), port_runs 0 0 0), tt);
  fits = λ ts c. subst (λ (us : List Tree). InsideFits dll_face ring_face us)
      (single_choice own_autos (bares own_nodes) ts (port_single 0 0, tt) (port_runs 0 0 0, tt) c) own_fits;
  covers = λ e. (let z : 1 ≡ 0 = ap (λ (l : List ℕ). length l) e in omega (arith, z));
  ports = (single_covers dll_face.boxes (port 0 0) (port_single 0 0), port_covers_some dll_face.boxes 0 0);
  in_order = (tt, tt);
  signatures = (
    (λ q p t u x y. ap (signature dll_face.boxes) (same_tree (port 0 0).rules (port_single 0 0).0 q t u x y)),
    tt,
  );
  reached = own_reached T;
  back = (refl, refl);
}

own_has_face : (T : List BoxDef) → IsFaceOf dll_face T (box_inside 0 None own_autos) ring_face
own_has_face T = face_is dll_face T own_box (own_sound T)

-- A Hook with a ring inside, of the input and one inner cell: `node(next=s1)` with `s1 = ref 1`, and
-- `node(next=s1,prev=s2)` with `s1 = ref 0` and `s2 = null`

ring_has_face : (bs : List BoxFace) (T : List BoxDef)
    → IsFaceOf (record { shapes = record { structs = chain_structs }; boxes = bs }) T (box_inside 0 None ring_autos)
    ring_face
ring_has_face bs T = face_is (record { shapes = record { structs = chain_structs }; boxes = bs }) T ring_box
    (ring_sound bs T)
