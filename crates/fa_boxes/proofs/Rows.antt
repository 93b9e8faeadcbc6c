-- Worked components: what is known of their states, and which of them a box may not have.
use Rattle.std.proofs.Common.{◌≡◌, inl, inr, ℕ, true, false, List, [], ◌∷◌, length, Option, Some, None, refl, sym}
use Rattle.std.proofs.Common.{ap, ◌∙◌, arith}
use Rattle.fore_base.specs.Lists.{Every}
use Rattle.ta_core.specs.Auto.{Automaton}
use Rattle.ta_core.specs.Language.{at_top}
use Rattle.ta_core.specs.declared.auto.Rule.{Rule}
use Rattle.ta_core.specs.declared.symbol.Slot.TheVariants.{Field, Link}
use Rattle.ta_core.specs.declared.symbol.Symbol.TheVariants.{Null, Ref, Cell}
use Rattle.fa_core.specs.declared.forest.Target.TheVariants.{At}
use Rattle.fa_core.specs.declared.signature.RefMark.{RefMark}
use Rattle.fa_core.specs.Boxes.{CoverSome}
use Rattle.fa_core.specs.Choices.{bares}
use Rattle.fa_core.specs.Dressed.{Nodes, no_parts, field, leaf, no_nodes, more}
use Rattle.fa_core.specs.Member.{bare, bare_end}
use Rattle.fa_core.specs.Rearranged.{chain}
use Rattle.fa_core.proofs.CellMarks.{tree_signature}
use Rattle.fa_core.proofs.Dressing.{cell_top, leaf_top}
use Rattle.fa_core.proofs.GivenTips.{given_tips}
use Rattle.fa_core.proofs.NodeRuns.{end_bare}
use Rattle.fa_core.proofs.Rearranging.{back, long_same}
use Rattle.fa_core.proofs.RowsBack.{dll}
use Rattle.fa_core.proofs.RowsBoxes.{port, port_node, port_runs, dll_box, dll_sound}
use Rattle.fa_core.proofs.RowsCanonical.{rule, dll_face}
use Rattle.fa_core.proofs.RowsForests.{bare_cell, bare_node, bare_runs}
use Rattle.fa_core.proofs.RowsPorts.{both_node, both_runs, one_runs, two_ways}
use Rattle.fore_base.proofs.ListLemmas.{every_in}
use Rattle.fa_box_rules.specs.Rules.{HaveSignatures, IsFaceOf, inside_of}
use Rattle.fa_box_rules.proofs.SoundBoxes.{face_is}
use Rattle.fa_boxes.specs.Ports.{GivesApart}
use Rattle.fa_boxes.specs.Signatures.{SignsApart, SomeSignsApart}
use Rattle.fa_boxes.specs.Tops.{CoverApart}
use Rattle.fa_boxes.specs.declared.seeing.Seen.{Seen}
use Rattle.fa_boxes.specs.inner.Parts.{rule_fields}
use Rattle.fa_boxes.specs.inner.Seeing.{said, shows, missing, IsSettled, IsUnlike}

-- The box of a doubly linked list: its states have one signature each, and each port has one set of fields.

dll_signs : SomeSignsApart dll_face.boxes dll_box.inside.autos → ⊥
dll_signs (a, i, (q, t, u, p, r, s, n)) =
    n (every_in (HaveSignatures dll_face.boxes) dll_box.inside.autos a
    (dll_sound dll_face (omega arith) refl refl []).signatures i q p t u r s)

dll_has_face : IsFaceOf dll_face [] (inside_of dll_box) dll_box.face
dll_has_face = face_is dll_face [] dll_box (dll_sound dll_face (omega arith) refl refl [])

dll_input : GivesApart dll_face.boxes dll_box.inside.autos 0 → ⊥
dll_input (ts, us, c, d, n) = n (chain (back (dll_has_face.gives_in ts c)) (dll_has_face.gives_in us d))

dll_output : GivesApart dll_face.boxes dll_box.inside.autos 1 → ⊥
dll_output (ts, us, c, d, n) = n (chain (back (dll_has_face.gives_out ts c)) (dll_has_face.gives_out us d))

-- An input that would be given its fields by edges of the inside alone covers none.

covers_none : CoverSome [] bare_cell → ⊥
covers_none h = let e = cell_top 0 0 [] no_parts in let k = h (bare bare_node) bare_runs in rw e at k

-- An output with two root rules: one covers next and prev by own slots, and one next alone.
-- prev is covered in the one alone, also where it is given in the other
prev_apart : CoverApart [] two_ways
prev_apart =
    let a = cell_top 1 0 [] (field 0 (leaf (At 0)) (field 1 (leaf (At 0)) no_parts)) in
    let b = cell_top 1 0 [] (field 0 (leaf (At 0)) no_parts) in (
      1,
      bare both_node,
      bare (port_node 1 0 0),
      both_runs,
      one_runs,
      rw a (inr (inl refl)),
      (λ i. (let j = rw b at i in elim j [ inl e ↦ omega (arith, e) | inr x ↦ x ])),
    )

-- where nothing is given, the output has two fields or one
abbrev both_nodes : Nodes
both_nodes = more (port_node 0 0 1) (more both_node no_nodes)

abbrev next_nodes : Nodes
next_nodes = more (port_node 0 0 1) (more (port_node 1 0 0) no_nodes)

fields_apart : GivesApart [] (port 0 1 ∷ two_ways ∷ []) 1
fields_apart =
    let a = cell_top 1 0 [] (field 0 (leaf (At 0)) (field 1 (leaf (At 0)) no_parts)) in
    let b = cell_top 1 0 [] (field 0 (leaf (At 0)) no_parts) in (
      bares both_nodes,
      bares next_nodes,
      (port_runs 0 0 1, (both_runs, tt)),
      (port_runs 0 0 1, (one_runs, tt)),
      (λ h. (let z = long_same (rw (a, b, given_tips [] 1 both_nodes, given_tips [] 1 next_nodes) at h) in
          omega (arith, z))),
    )

-- A state with references to two roots.

abbrev either : Automaton
either = record { states = 1; roots = 0 ∷ []; rules = rule 0 (Ref 0) [] ∷ rule 0 (Ref 1) [] ∷ [] }

abbrev first_root : List RefMark → ℕ
first_root [] = 2
first_root (m ∷ ms) = m.root

either_apart : SignsApart [] either
either_apart =
    let t = bare_end (leaf (At 0)) in
    let u = bare_end (leaf (At 1)) in
    let r = end_bare either.rules 0 (leaf (At 0)) (rule 0 (Ref 0) [], inl refl, refl, refl, refl) in
    let s = end_bare either.rules 0 (leaf (At 1)) (rule 0 (Ref 1) [], inr (inl refl), refl, refl, refl) in (
      0,
      t,
      u,
      (0, t, inl refl, at_top refl r),
      r,
      s,
      (λ d. (let e = leaf_top (At 0) in
          let f = leaf_top (At 1) in
          let z = ap first_root (sym (tree_signature [] t) ∙ d ∙ tree_signature [] u) in
          let k = rw (e, f) at z in
          omega (arith, k))),
    )

-- What is known of states.

abbrev to_one : List RefMark
to_one = record { root = 1; many = false; provided = []; back = false; reach = [] } ∷ []

-- a state with a leaf and a cell, with a leaf alone, with a cell alone
abbrev mixed : Seen
mixed = record { leaf = true; cell = true; marks = to_one }

abbrev leaf_alone : Seen
leaf_alone = record { leaf = true; cell = false; marks = to_one }

abbrev cell_alone : Seen
cell_alone = record { leaf = false; cell = true; marks = to_one }

few_leaves : said false (Some mixed) ≡ record { leaf = false; marks = to_one }
few_leaves = refl

most_leaves : said true (Some mixed) ≡ record { leaf = true; marks = to_one }
most_leaves = refl

only_leaves : said false (Some leaf_alone) ≡ record { leaf = true; marks = to_one }
only_leaves = refl

only_cells : said true (Some cell_alone) ≡ record { leaf = false; marks = to_one }
only_cells = refl

leaf_shown : shows true (Some leaf_alone) ≡ true
leaf_shown = refl

no_cell_shown : shows false (Some leaf_alone) ≡ false
no_cell_shown = refl

none_shown : shows true None ≡ false
none_shown = refl

-- two kinds of the first state, one of the second and none of the third are not known
three_missing : missing (None ∷ Some cell_alone ∷ Some mixed ∷ []) ≡ 3
three_missing = refl

-- A list segment of any length: the inner list is the reference to the output, or a cell over an inner list.

abbrev seg_rules : List Rule
seg_rules =
    rule 0 (Cell 0 [] (Field 0 ∷ Field 1 ∷ [])) (1 ∷ 2 ∷ []) ∷ rule 1 (Ref 1) []
    ∷ rule 1 (Cell 0 [] (Field 0 ∷ Field 1 ∷ [])) (1 ∷ 2 ∷ []) ∷ rule 2 Null [] ∷ []

seg_settled : Every (IsSettled [] (Some cell_alone ∷ Some mixed
    ∷ Some (record { leaf = true; cell = false; marks = [] }) ∷ [])) seg_rules
seg_settled = ((λ e. (refl, refl)), ((λ e. (refl, refl)), ((λ e. (refl, refl)), ((λ e. (refl, refl)), tt))))

-- Under an edge of the box of a doubly linked list it makes a difference which of the two stands there: the reference
-- alone is given prev.

link_unlike : IsUnlike dll (Some cell_alone ∷ Some mixed ∷ []) (rule 0 (Cell 0 [] (Link 0 ∷ [])) (1 ∷ []))
link_unlike = (refl, (true, (λ e. (let z = ap gives e in omega (arith, z)))))
  where
    gives : List RefMark → ℕ
    gives [] = 0
    gives (m ∷ ms) = length m.provided

-- What a port covers, and what its trees are given.

abbrev given_prev : List (Option Seen)
given_prev =
    Some (record {
      leaf = false;
      cell = true;
      marks = record { root = 1; many = false; provided = 1 ∷ []; back = false; reach = [] } ∷ [];
    })
    ∷ []

covers_and_given : rule_fields dll given_prev 1 (rule 0 (Cell 0 [] (Link 0 ∷ [])) (1 ∷ [])) ≡ 0 ∷ 1 ∷ []
covers_and_given = refl

another_root : rule_fields dll given_prev 0 (rule 0 (Cell 0 [] (Link 0 ∷ [])) (1 ∷ [])) ≡ 0 ∷ []
another_root = refl
