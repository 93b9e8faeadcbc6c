-- Which slots are fields: a box edge is none, also where its box has the number of a field.
use Rattle.std.proofs.Common.{◌≡◌, List, [], ◌∷◌, true, false, refl, map}
use Rattle.ta_core.specs.Auto.{Automaton}
use Rattle.ta_core.specs.declared.symbol.Slot.{Slot}
use Rattle.ta_core.specs.declared.symbol.Slot.TheVariants.{Field, Link, Hook}
use Rattle.ta_core.specs.declared.symbol.Symbol.TheVariants.{Null, Uninit, Dangling, Ref, Cell}
use Rattle.ta_core.specs.declared.tree.Tree.{Tree}
use Rattle.fa_core.specs.Boxless.{HasNoBoxes}
use Rattle.fa_core.specs.Canonical.{at_fields}
use Rattle.fa_core.specs.Folding.{is_one_of, taken, left}
use Rattle.fa_core.proofs.RowsBack.{null, ref}
use Rattle.fa_core.proofs.RowsCanonical.{rule}

-- One of some fields.

a_field_of_them : map (is_one_of (1 ∷ 3 ∷ [])) (Field 0 ∷ Field 1 ∷ Field 3 ∷ []) ≡ false ∷ true ∷ true ∷ []
a_field_of_them = refl

no_edge_of_them : map (is_one_of (1 ∷ 3 ∷ [])) (Link 1 ∷ Hook 1 ∷ Link 3 ∷ Hook 3 ∷ Link 0 ∷ []) ≡ false ∷ false
    ∷ false ∷ false ∷ false ∷ []
no_edge_of_them = refl

-- field 1 is taken, and the edges of box 1 on both sides of it are left
abbrev child : Tree
child = ref 2

field_taken : taken (1 ∷ []) ((Link 1, child ∷ []) ∷ (Field 1, null ∷ []) ∷ (Hook 1, []) ∷ [])
    ≡ (Field 1, null ∷ []) ∷ []
field_taken = refl

edges_left : left (1 ∷ []) ((Link 1, child ∷ []) ∷ (Field 1, null ∷ []) ∷ (Hook 1, []) ∷ [])
    ≡ (Link 1, child ∷ []) ∷ (Hook 1, []) ∷ []
edges_left = refl

-- The trees at the ends of fields: a Hook has no child, and a Link's is left out.

behind_a_hook : at_fields (Hook 2 ∷ Field 1 ∷ Field 3 ∷ []) (null ∷ child ∷ []) ≡ null ∷ child ∷ []
behind_a_hook = refl

behind_a_link : at_fields (Field 0 ∷ Link 2 ∷ Hook 0 ∷ Field 3 ∷ []) (null ∷ child ∷ ref 1 ∷ []) ≡ null ∷ ref 1 ∷ []
behind_a_link = refl

-- Automata without box edges.

abbrev only : List Slot → Automaton
only ss = record { states = 2; roots = 0 ∷ []; rules = rule 1 Null [] ∷ rule 0 (Cell 4 [] ss) [] ∷ [] }

abbrev leaves : Automaton
leaves = record {
  states = 1;
  roots = 0 ∷ [];
  rules = rule 0 Null [] ∷ rule 0 Uninit [] ∷ rule 0 Dangling [] ∷ rule 0 (Ref 3) [] ∷ [];
}

fields_are_no_boxes : HasNoBoxes (only (Field 0 ∷ Field 2 ∷ []))
fields_are_no_boxes = (tt, ((tt, (tt, tt)), tt))

no_slots_are_no_boxes : HasNoBoxes (only [])
no_slots_are_no_boxes = (tt, (tt, tt))

leaves_are_no_boxes : HasNoBoxes leaves
leaves_are_no_boxes = (tt, (tt, (tt, (tt, tt))))

no_rules_are_no_boxes : HasNoBoxes (record { states = 0; roots = []; rules = [] })
no_rules_are_no_boxes = tt

a_link_is_a_box : HasNoBoxes (only (Field 0 ∷ Link 2 ∷ [])) → ⊥
a_link_is_a_box h = h.1.0.1.0

a_hook_is_a_box : HasNoBoxes (only (Hook 0 ∷ Field 1 ∷ [])) → ⊥
a_hook_is_a_box h = h.1.0.0
