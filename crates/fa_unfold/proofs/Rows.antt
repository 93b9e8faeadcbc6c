-- Worked values of forests in which a box edge is replaced, each made by hand.
use Rattle.std.proofs.Common.{◌≡◌, inl, inr, ℕ, zero, suc, true, false, true≢false, length, List, [], ◌∷◌, refl, ap}
use Rattle.std.proofs.Common.{◌∙◌, slice_get, Some, None, arith, flat_map}
use Rattle.std.proofs.lemmas.Option.{none-some, same_Some}
use Rattle.ta_core.specs.Auto.{Automaton, automaton}
use Rattle.ta_core.specs.Language.{RunOf, RunEach, run_none, run_more}
use Rattle.ta_core.specs.Single.{HasOneTop}
use Rattle.ta_core.specs.declared.tree.Tree.{Tree, out-Tree, out-roll-Tree}
use Rattle.ta_core.proofs.Runs.{tree_of, run_tree}
use Rattle.ta_core.specs.declared.auto.Rule.{Rule}
use Rattle.ta_core.specs.declared.symbol.Slot.{Slot}
use Rattle.ta_core.specs.declared.symbol.Slot.TheVariants.{Field, Link, Hook}
use Rattle.ta_core.specs.declared.symbol.Symbol.{Symbol}
use Rattle.ta_core.specs.declared.symbol.Symbol.TheVariants.{Null, Dangling, Ref, Cell}
use Rattle.fore_base.specs.declared.store.Value.TheVariants.{Cell as CellValue, Dangling as DanglingValue}
use Rattle.fa_core.specs.declared.faces.BoxFace.{BoxFace}
use Rattle.fa_core.specs.declared.forest.Forest.{Forest}
use Rattle.fa_core.specs.declared.forest.Target.TheVariants.{At, Dangling as DanglingTarget}
use Rattle.fa_core.specs.Dressed.{Nodes, node, no_parts, field, link, hook, under, leaf, no_nodes, more, Points}
use Rattle.fa_core.specs.Dressed.{SeenField, SeenLink, SeenHook}
use Rattle.fa_core.specs.Member.{bare_end}
use Rattle.fa_sound.specs.Components.{component_at}
use Rattle.fa_split.specs.Split.{split_leaf}
use Rattle.fa_unfold.specs.Opens.{IsCell, HasSlot, items, opened, all_boxes, inside_boxes, item_boxes}
use Rattle.fa_unfold.specs.Sites.{child_place}
use Rattle.fa_unfold.specs.Slots.{children_before, joined, without, state_places}
use Rattle.fa_unfold.specs.Unfolding.{IsTop, Tops, below_tops, end_rules}
use Rattle.fa_unfold.specs.Unfolding.{have_no_slots, link_unfoldings, hook_unfoldings}
use Rattle.fa_unfold.specs.UnfoldingOf.{CanUnfold, IsBoxEdge, IsSplitAt, root_slots}

-- struct 0 has the pointer fields next (0), prev (1) and other (2); box 0 gives `next` at its input alone, box 1 `next`
-- there and `prev` at its output, box 2 has no output
abbrev faces : List BoxFace
faces =
    record { input = 0; output = Some 0; gives_in = 0 ∷ []; gives_out = []; back = false }
    ∷ record { input = 0; output = Some 0; gives_in = 0 ∷ []; gives_out = 1 ∷ []; back = true }
    ∷ record { input = 0; output = None; gives_in = 0 ∷ []; gives_out = []; back = false } ∷ []

abbrev rule : ℕ → Symbol → List ℕ → Rule
rule q y qs = record { state = q; symbol = y; children = qs }

abbrev cell : List Slot → Symbol
cell ss = Cell 0 [] ss

abbrev forest : List Automaton → Forest
forest autos = record { autos = autos; vars = At 0 ∷ []; data_vars = [] }

-- ports: next leads to the output, or prev to the input; no slots
abbrev to_output : Automaton
to_output = automaton 2 (0 ∷ []) (rule 0 (cell (Field 0 ∷ [])) (1 ∷ []) ∷ rule 1 (Ref 1) [] ∷ [])

abbrev to_input : Automaton
to_input = automaton 2 (0 ∷ []) (rule 0 (cell (Field 1 ∷ [])) (1 ∷ []) ∷ rule 1 (Ref 0) [] ∷ [])

abbrev no_slot : Automaton
no_slot = automaton 1 (0 ∷ []) (rule 0 (cell []) [] ∷ [])

abbrev tops : List Rule → List Rule → List Rule → Tops
tops ins outs ends = record { ins = ins; outs = outs; ends = ends }

-- Slots: each with its child, a Hook without; one put before the first of no lesser field; one taken out.

some_places : state_places (Field 0 ∷ Hook 2 ∷ Link 1 ∷ []) (5 ∷ 6 ∷ [])
    ≡ (Field 0, 5 ∷ []) ∷ (Hook 2, []) ∷ (Link 1, 6 ∷ []) ∷ []
some_places = refl

put_in_order : joined {X = ℕ} (λ k. k) (1 ∷ 4 ∷ []) (3 ∷ 0 ∷ []) ≡ 0 ∷ 1 ∷ 3 ∷ 4 ∷ []
put_in_order = refl

second_out : without {X = ℕ} 1 (7 ∷ 8 ∷ 9 ∷ []) ≡ 7 ∷ 9 ∷ []
second_out = refl

-- a rule of a leaf at a root state, and one of a cell at another state, are none at the top
leaf_on_top : IsTop (automaton 1 (0 ∷ []) (rule 0 Null [] ∷ [])) (rule 0 Null []) → ⊥
leaf_on_top h = true≢false h.1

cell_on_top : IsTop no_slot (rule 0 (cell []) [])
cell_on_top = ((inl refl, (tree_of (cell []) [], (top_of (cell []) [], top_run))), refl)
  where
    top_of : (y : Symbol) (ts : List Tree) → y ≡ (out-Tree (tree_of y ts)).symbol
    top_of y ts = rw (out-roll-Tree (record { symbol = y; children = ts })) refl

    top_run : RunEach no_slot.rules [] (out-Tree (tree_of (cell []) [])).children
    top_run = rw (out-roll-Tree (record { symbol = cell []; children = [] })) run_none

own_end : end_rules (forest (no_slot ∷ [])) 0 0 (rule 7 Null [] ∷ []) ≡ rule 0 (cell []) [] ∷ []
own_end = refl

other_end : end_rules (forest (no_slot ∷ [])) 0 1 (rule 7 Null [] ∷ []) ≡ rule 7 Null [] ∷ []
other_end = refl

one_has_slots : have_no_slots (rule 0 (cell []) [] ∷ rule 0 (cell (Hook 2 ∷ [])) [] ∷ []) ≡ false
one_has_slots = refl

none_has_slots : have_no_slots (rule 0 (cell []) [] ∷ rule 1 (cell []) [] ∷ []) ≡ true
none_has_slots = refl

-- the rule of a root state that is no child is left out, that of a root state that stands below a cell is kept
tops_left_out : (below_tops to_output).rules ≡ rule 1 (Ref 1) [] ∷ []
tops_left_out = refl

tops_below_kept : (below_tops
    (automaton 1 (0 ∷ []) (rule 0 (cell (Field 0 ∷ [])) (0 ∷ []) ∷ rule 0 (cell []) [] ∷ []))).rules
    ≡ rule 0 (cell (Field 0 ∷ [])) (0 ∷ []) ∷ rule 0 (cell []) [] ∷ []
tops_below_kept = refl

-- A Link to another root, whose box gives nothing there: that root stays.

abbrev end_root : Automaton
end_root = automaton 2 (0 ∷ []) (rule 0 (cell (Field 0 ∷ [])) (1 ∷ []) ∷ rule 1 Null [] ∷ [])

to_a_root : link_unfoldings faces
    (forest
    (automaton 2 (0 ∷ []) (rule 0 (cell (Link 0 ∷ [])) (1 ∷ []) ∷ rule 1 (Ref 1) [] ∷ []) ∷ end_root ∷ []))
    0 0 (At 1) to_output no_slot [] (tops (rule 0 (cell (Field 0 ∷ [])) (1 ∷ []) ∷ []) (rule 0 (cell []) [] ∷ [])
    (rule 0 (cell (Field 0 ∷ [])) (1 ∷ []) ∷ []))
    ≡ forest
    (automaton 5 (4 ∷ [])
    (rule 0 (cell (Link 0 ∷ [])) (1 ∷ []) ∷ rule 1 (Ref 1) [] ∷ rule 3 (Ref 1) []
    ∷ rule 4 (cell (Field 0 ∷ [])) (3 ∷ []) ∷ [])
    ∷ end_root ∷ []) ∷ []
to_a_root = refl

-- A Link that dangles: the output is left out, and the field dangles.

that_dangles : link_unfoldings faces
    (forest (automaton 2 (0 ∷ []) (rule 0 (cell (Link 0 ∷ [])) (1 ∷ []) ∷ rule 1 Dangling [] ∷ []) ∷ []))
    0 0 DanglingTarget to_output no_slot []
    (tops (rule 0 (cell (Field 0 ∷ [])) (1 ∷ []) ∷ []) (rule 0 (cell []) [] ∷ []) [])
    ≡ forest
    (automaton 5 (4 ∷ [])
    (rule 0 (cell (Link 0 ∷ [])) (1 ∷ []) ∷ rule 1 Dangling [] ∷ rule 3 Dangling []
    ∷ rule 4 (cell (Field 0 ∷ [])) (3 ∷ []) ∷ [])
    ∷ []) ∷ []
that_dangles = refl

-- A Link to its own root: the root gains the slots of both ports, and keeps `other`.

to_itself : link_unfoldings faces
    (forest
    (automaton 3 (0 ∷ [])
    (rule 0 (cell (Link 1 ∷ Field 2 ∷ [])) (1 ∷ 2 ∷ []) ∷ rule 1 (Ref 0) [] ∷ rule 2 Null [] ∷ []) ∷ []))
    0 0 (At 0) to_output to_input []
    (tops (rule 0 (cell (Field 0 ∷ [])) (1 ∷ []) ∷ []) (rule 0 (cell (Field 1 ∷ [])) (1 ∷ []) ∷ []) [])
    ≡ forest
    (automaton 9 (8 ∷ [])
    (rule 0 (cell (Link 1 ∷ Field 2 ∷ [])) (1 ∷ 2 ∷ []) ∷ rule 1 (Ref 0) [] ∷ rule 2 Null []
    ∷ rule 4 (Ref 0) [] ∷ rule 5 (cell (Field 0 ∷ Field 2 ∷ [])) (4 ∷ 2 ∷ [])
    ∷ rule 7 (Ref 0) [] ∷ rule 8 (cell (Field 0 ∷ Field 1 ∷ Field 2 ∷ [])) (4 ∷ 7 ∷ 2 ∷ []) ∷ [])
    ∷ []) ∷ []
to_itself = refl

-- A Hook at a later slot, of a box with an inner root, which comes last.

with_an_inner_root : hook_unfoldings faces
    (forest
    (automaton 2 (0 ∷ []) (rule 0 (cell (Field 1 ∷ Hook 2 ∷ [])) (1 ∷ []) ∷ rule 1 Null [] ∷ []) ∷ []))
    0 1 to_output (automaton 2 (0 ∷ []) (rule 0 (cell (Field 0 ∷ [])) (1 ∷ []) ∷ rule 1 (Ref 0) [] ∷ []) ∷ [])
    (rule 0 (cell (Field 0 ∷ [])) (1 ∷ []) ∷ [])
    ≡ forest
    (automaton 5 (4 ∷ [])
    (rule 0 (cell (Field 1 ∷ Hook 2 ∷ [])) (1 ∷ []) ∷ rule 1 Null [] ∷ rule 3 (Ref 1) []
    ∷ rule 4 (cell (Field 0 ∷ Field 1 ∷ [])) (3 ∷ 1 ∷ []) ∷ [])
    ∷ automaton 2 (0 ∷ []) (rule 0 (cell (Field 0 ∷ [])) (1 ∷ []) ∷ rule 1 (Ref 0) [] ∷ []) ∷ []) ∷ []
with_an_inner_root = refl

-- Two rules of the input, two of the end's root: four forests.

abbrev two_rules : Automaton
two_rules = automaton 3 (0 ∷ [])
    (rule 0 (cell (Field 0 ∷ [])) (1 ∷ []) ∷ rule 0 (cell (Field 0 ∷ [])) (2 ∷ []) ∷ rule 1 (Ref 1) []
    ∷ rule 2 (Ref 1) [] ∷ [])

abbrev two_tops : List Rule
two_tops = rule 0 (cell (Field 0 ∷ [])) (1 ∷ []) ∷ rule 0 (cell (Field 0 ∷ [])) (2 ∷ []) ∷ []

each_choice : length (link_unfoldings faces
    (forest
    (automaton 2 (0 ∷ []) (rule 0 (cell (Link 1 ∷ [])) (1 ∷ []) ∷ rule 1 (Ref 1) [] ∷ []) ∷ two_rules ∷ []))
    0 0 (At 1) two_rules to_input []
    (tops two_tops (rule 0 (cell (Field 1 ∷ [])) (1 ∷ []) ∷ []) two_tops)) ≡ 4
each_choice = refl

-- Items: cell 5 with an edge to the cell 6 below it, of which the inside has one field.

abbrev inside : Nodes
inside = more (node 0 0 [] (field 0 (leaf (At 1)) no_parts)) (more (node 0 0 [] no_parts) no_nodes)

three_items : items (more (node 5 0 [] (link 0 inside (leaf (At 1)) no_parts)) (more (node 6 0 [] no_parts) no_nodes))
    ≡ IsCell 5 0 [] ∷ HasSlot 5 (SeenLink 0 inside (CellValue 6)) ∷ IsCell 6 0 [] ∷ []
three_items = refl

edge_opened : opened (HasSlot 5 (SeenLink 0 inside (CellValue 6))) ≡ Points 5 0 (CellValue 6) ∷ []
edge_opened = refl

edge_dangling : opened (HasSlot 5 (SeenLink 0 inside DanglingValue)) ≡ Points 5 0 DanglingValue ∷ []
edge_dangling = refl

-- The boxes of edges: those below a slot and of further trees, those of insides left out.

abbrev with_edges : Nodes
with_edges = more (node 0 0 [] (link 1 inside (under (node 7 0 [] (hook 2 inside no_parts))) no_parts))
    (more (node 8 0 [] (field 1 (under (node 9 0 [] (link 0 inside (leaf DanglingTarget) no_parts))) no_parts))
    no_nodes)

boxes_there : all_boxes with_edges ≡ 1 ∷ 2 ∷ 0 ∷ []
boxes_there = refl

inside_of_a_link : inside_boxes (HasSlot 5 (SeenLink 3 with_edges (CellValue 6))) ≡ 1 ∷ 2 ∷ 0 ∷ []
inside_of_a_link = refl

inside_of_a_hook : inside_boxes (HasSlot 5 (SeenHook 3 with_edges)) ≡ 1 ∷ 2 ∷ 0 ∷ []
inside_of_a_hook = refl

inside_of_a_field : inside_boxes (HasSlot 5 (SeenField 3 (CellValue 6))) ≡ []
inside_of_a_field = refl

own_boxes : flat_map item_boxes (items (more (node 5 0 [] (link 3 with_edges (leaf DanglingTarget)
    (field 1 (leaf DanglingTarget) (hook 2 inside no_parts)))) no_nodes)) ≡ 3 ∷ 2 ∷ []
own_boxes = refl

-- Where an edge stands: a Hook has no child, so the child of a Link behind one is the first.

abbrev with_a_hook : Forest
with_a_hook = forest
    (automaton 2 (0 ∷ []) (rule 0 (cell (Hook 2 ∷ Link 1 ∷ [])) (1 ∷ []) ∷ rule 1 (Ref 0) [] ∷ []) ∷ [])

slots_there : root_slots with_a_hook 0 ≡ Hook 2 ∷ Link 1 ∷ []
slots_there = refl

first_child : child_place with_a_hook 0 1 ≡ 0
first_child = refl

second_child : children_before (Field 0 ∷ Hook 2 ∷ Link 1 ∷ []) 2 ≡ 1
second_child = refl

-- a Link and a Hook can be unfolded, a field cannot, nor a slot or a root that is not there
with_a_hook_one_top : HasOneTop (component_at with_a_hook.autos 0)
with_a_hook_one_top =
    record {
      root = 0;
      alone = refl;
      place = 0;
      rule = rule 0 (cell (Hook 2 ∷ Link 1 ∷ [])) (1 ∷ []);
      there = refl;
      top = refl;
      only = only;
    }
  where
    only : (i : ℕ) (r : Rule) → slice_get (component_at with_a_hook.autos 0).rules i ≡ Some r → r.state ≡ 0 → i ≡ 0
    only zero r e s = refl
    only (suc zero) r e s = absurd
        (let w : 1 ≡ 0 = ap (λ (x : Rule). x.state) (same_Some _ r e) ∙ s in omega (arith, w))
    only (suc (suc i)) r e s = absurd (none-some r e)

hook_can : CanUnfold with_a_hook 0 0
hook_can = record { root = omega arith; top = with_a_hook_one_top; edge = tt }

link_can : CanUnfold with_a_hook 0 1
link_can = record { root = omega arith; top = with_a_hook_one_top; edge = tt }

field_cannot : IsBoxEdge (slice_get (Field 0 ∷ Hook 2 ∷ []) 0) → ⊥
field_cannot h = h

slot_cannot : CanUnfold with_a_hook 0 2 → ⊥
slot_cannot h = h.edge

root_cannot : CanUnfold with_a_hook 1 0 → ⊥
root_cannot h = let l = h.root in omega (arith, l)

-- the child of the Link may be the reference, and is that in one forest of the split
abbrev rules : List Rule
rules = (component_at with_a_hook.autos 0).rules

abbrev child : Tree
child = tree_of (Ref 0) []

abbrev whole : Tree
whole = tree_of (cell (Hook 2 ∷ Link 1 ∷ [])) (child ∷ [])

whole_run : RunOf rules 0 whole
whole_run = run_tree rules (rule 0 (cell (Hook 2 ∷ Link 1 ∷ [])) (1 ∷ [])) (child ∷ []) (inl refl)
    (run_more (run_tree rules (rule 1 (Ref 0) []) [] (inr (inl refl)) run_none) run_none)

child_there : slice_get (out-Tree whole).children 0 ≡ Some (bare_end (leaf (At 0)))
child_there = rw (out-roll-Tree (record { symbol = cell (Hook 2 ∷ Link 1 ∷ []); children = child ∷ [] })) refl

is_split : IsSplitAt with_a_hook 0 0 (split_leaf with_a_hook 0 0 (At 0))
is_split = inl (At 0, (whole, (0, inl refl, whole_run), child_there), refl)
