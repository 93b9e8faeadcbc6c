-- Worked values: numbers of roots in other orders, merged automata and forests, dropped roots, and roots that are
-- reached.
use Rattle.std.proofs.Common.{◌≡◌, inl, inr, ℕ, Bool, true, false, true≢false, List, [], ◌∷◌, map, refl, ap, Some}
use Rattle.fore_base.specs.declared.store.Store.{Store}
use Rattle.fore_base.specs.declared.store.Value.TheVariants.{Null as NullValue, Dangling as DanglingValue}
use Rattle.fore_base.specs.declared.store.Value.TheVariants.{Cell as CellValue}
use Rattle.ta_core.specs.Auto.{Automaton, automaton}
use Rattle.ta_core.specs.declared.auto.Rule.{Rule}
use Rattle.ta_core.specs.declared.symbol.Slot.{Slot}
use Rattle.ta_core.specs.declared.symbol.Slot.TheVariants.{Field, Link}
use Rattle.ta_core.specs.declared.symbol.Symbol.{Symbol}
use Rattle.ta_core.specs.declared.symbol.Symbol.TheVariants.{Null, Dangling, Ref, Cell}
use Rattle.ta_core.specs.declared.tree.Tree.{Tree, Tree-F, roll-Tree, fold-roll-Tree}
use Rattle.fa_core.specs.declared.faces.BoxFace.{BoxFace}
use Rattle.fa_core.specs.declared.forest.Forest.{Forest}
use Rattle.fa_core.specs.declared.forest.Target.{Target}
use Rattle.fa_core.specs.declared.forest.Target.TheVariants.{Null as NullTarget, Dangling as DanglingTarget, At}
use Rattle.fa_core.specs.Dressed.{Nodes, node, no_parts, field, link, leaf, under, no_nodes, more, Head, Points, facts}
use Rattle.fa_core.specs.Ways.{Way, ways, ways_at}
use Rattle.fa_merge.specs.Dropped.{drop_leaf, but_place, dropped_forest, dropped, AreLeaves, HasFieldsOnly}
use Rattle.fa_merge.specs.Dropped.{without_cell}
use Rattle.fa_merge.specs.Merged.{is_ref, kept, moved, bridge, bridges, merged, others, last_order, to_last, merged_at}
use Rattle.fa_merge.specs.Merged.{lowered, lowering, CanMerge}
use Rattle.fa_back.specs.Reached.{RootReached, by_var, by_tree, by_way}
use Rattle.fa_merge.specs.Reordered.{counted, place_of, reordered}
use Rattle.fa_sound.specs.Components.{component_at}

abbrev rule : ℕ → Symbol → List ℕ → Rule
rule q y qs = record { state = q; symbol = y; children = qs }

abbrev list_cell : Symbol
list_cell = Cell 0 [] (Field 0 ∷ [])

-- one cell that ends in the leaf
abbrev one_cell : Symbol → Automaton
one_cell y = automaton 2 (0 ∷ []) (rule 0 list_cell (1 ∷ []) ∷ rule 1 y [] ∷ [])

-- Numbers.

numbers_from_three : counted 3 2 ≡ 3 ∷ 4 ∷ []
numbers_from_three = refl

places : map (place_of (2 ∷ 0 ∷ 1 ∷ [])) (0 ∷ 1 ∷ 2 ∷ 3 ∷ []) ≡ 1 ∷ 2 ∷ 0 ∷ 3 ∷ []
places = refl

second_component : component_at (one_cell Null ∷ one_cell (Ref 0) ∷ []) 1 ≡ one_cell (Ref 0)
second_component = refl

no_third_component : component_at (one_cell Null ∷ []) 1 ≡ automaton 0 [] []
no_third_component = refl

all_but_one : others 1 (0 ∷ 1 ∷ 2 ∷ []) ≡ 0 ∷ 2 ∷ []
all_but_one = refl

one_is_last : last_order 3 1 ≡ 0 ∷ 2 ∷ 1 ∷ []
one_is_last = refl

numbers_where_one_is_last : map (to_last 3 1) (0 ∷ 1 ∷ 2 ∷ []) ≡ 0 ∷ 2 ∷ 1 ∷ []
numbers_where_one_is_last = refl

lower_above_one : map (lowered 1) (0 ∷ 1 ∷ 2 ∷ 3 ∷ []) ≡ 0 ∷ 1 ∷ 1 ∷ 2 ∷ []
lower_above_one = refl

-- Three roots: 0 refers to 1, and 1 to 2. Variables are at 0 and 2.

abbrev three : Forest
three =
    record {
      autos = one_cell (Ref 1) ∷ one_cell (Ref 2) ∷ one_cell Null ∷ [];
      vars = At 0 ∷ NullTarget ∷ At 2 ∷ [];
      data_vars = [];
    }

-- the roots in the order 2, 0, 1
turned_three : reordered (2 ∷ 0 ∷ 1 ∷ []) three
    ≡ record {
      autos = one_cell Null ∷ one_cell (Ref 2) ∷ one_cell (Ref 0) ∷ [];
      vars = At 1 ∷ NullTarget ∷ At 0 ∷ [];
      data_vars = [];
    }
turned_three = refl

-- Merged automata.

is_that_reference : map (is_ref 1) (Ref 1 ∷ Ref 0 ∷ Null ∷ list_cell ∷ []) ≡ true ∷ false ∷ false ∷ false ∷ []
is_that_reference = refl

reference_is_not_kept : kept 1 (rule 0 list_cell (1 ∷ []) ∷ rule 1 (Ref 1) [] ∷ rule 1 (Ref 0) [] ∷ [])
    ≡ rule 0 list_cell (1 ∷ []) ∷ rule 1 (Ref 0) [] ∷ []
reference_is_not_kept = refl

moved_by_two : moved 2 (rule 0 list_cell (1 ∷ []) ∷ []) ≡ rule 2 list_cell (3 ∷ []) ∷ []
moved_by_two = refl

-- the rule of the root state alone
root_rule_at_five : bridge 2 5 (0 ∷ []) (rule 0 list_cell (1 ∷ []) ∷ rule 1 Null [] ∷ []) ≡ rule 5 list_cell (3 ∷ [])
    ∷ []
root_rule_at_five = refl

-- at each state with the reference
at_both_states : bridges 2 1 (one_cell Null) (rule 4 (Ref 1) [] ∷ rule 4 Null [] ∷ rule 5 (Ref 1) [] ∷ [])
    ≡ rule 4 list_cell (3 ∷ []) ∷ rule 5 list_cell (3 ∷ []) ∷ []
at_both_states = refl

merged_cells : merged 1 (one_cell (Ref 1)) (one_cell Null)
    ≡ automaton 4 (0 ∷ []) (rule 0 list_cell (1 ∷ []) ∷ rule 2 list_cell (3 ∷ []) ∷ rule 3 Null []
    ∷ rule 1 list_cell (3 ∷ []) ∷ [])
merged_cells = refl

-- root 1 merged into root 0: root 2 moves down, and the reference to it
merged_three : merged_at 1 0 three
    ≡ record {
      autos = automaton 4 (0 ∷ [])
          (rule 0 list_cell (1 ∷ []) ∷ rule 2 list_cell (3 ∷ []) ∷ rule 3 (Ref 1) [] ∷ rule 1 list_cell (3 ∷ []) ∷ [])
          ∷ one_cell Null ∷ [];
      vars = At 0 ∷ NullTarget ∷ At 1 ∷ [];
      data_vars = [];
    }
merged_three = refl

-- a root at a variable is not merged
variable_stands_in_the_way : CanMerge three 0 → ⊥
variable_stands_in_the_way can = can.no_var (inl refl)

-- Dropped roots.

leaves_where_one_is_dropped : map (drop_leaf 1) (0 ∷ 1 ∷ 2 ∷ []) ≡ At 0 ∷ DanglingTarget ∷ At 1 ∷ []
leaves_where_one_is_dropped = refl

leaves_where_one_is_taken_out : map (lowering 1) (0 ∷ 2 ∷ []) ≡ At 0 ∷ At 1 ∷ []
leaves_where_one_is_taken_out = refl

without_the_second : but_place {X = ℕ} 1 (5 ∷ 6 ∷ 7 ∷ []) ≡ 5 ∷ 7 ∷ []
without_the_second = refl

-- root 1 dropped: the reference to it is Dangling, root 2 moves down
dropped_three : dropped_forest 1 three
    ≡ record { autos = one_cell Dangling ∷ one_cell Null ∷ []; vars = At 0 ∷ NullTarget ∷ At 1 ∷ []; data_vars = [] }
dropped_three = refl

-- root 2 dropped, at which a variable is
dropped_last : dropped_forest 2 three
    ≡ record {
      autos = one_cell (Ref 1) ∷ one_cell Dangling ∷ [];
      vars = At 0 ∷ NullTarget ∷ DanglingTarget ∷ [];
      data_vars = [];
    }
dropped_last = refl

abbrev dressed_three : Nodes
dressed_three = more (node 7 0 [] (field 0 (leaf (At 1)) no_parts))
    (more (node 4 0 [] (field 0 (leaf (At 2)) no_parts))
    (more (node 9 0 [] (field 0 (leaf NullTarget) no_parts)) no_nodes))

dressed_without_one : dropped 1 dressed_three
    ≡ more (node 7 0 [] (field 0 (leaf DanglingTarget) no_parts))
    (more (node 9 0 [] (field 0 (leaf NullTarget) no_parts)) no_nodes)
dressed_without_one = refl

fields_end_at_leaves : AreLeaves (field 0 (leaf (At 2)) (field 1 (leaf NullTarget) no_parts))
fields_end_at_leaves = tt

a_cell_is_no_leaf : AreLeaves (field 0 (under (node 3 0 [] no_parts)) no_parts) → ⊥
a_cell_is_no_leaf h = h

box_edge_is_no_field : HasFieldsOnly (Cell 0 [] (Field 0 ∷ Link 0 ∷ [])) → ⊥
box_edge_is_no_field h = h.1.0

-- cell 4 goes; the variable and the field that name it are Dangling
abbrev two_store : Store
two_store =
    record {
      vars = CellValue 7 ∷ CellValue 4 ∷ [];
      data_vars = [];
      cells = record { number = 7; shape = 0; datums = []; fields = CellValue 4 ∷ [] }
          ∷ record { number = 4; shape = 0; datums = []; fields = NullValue ∷ [] } ∷ [];
      next = 8;
    }

store_without_four : without_cell 4 two_store
    ≡ record {
      vars = CellValue 7 ∷ DanglingValue ∷ [];
      data_vars = [];
      cells = record { number = 7; shape = 0; datums = []; fields = DanglingValue ∷ [] } ∷ [];
      next = 8;
    }
store_without_four = refl

-- A Link, a variable and a field of an inside name root 1: where that is dropped the Link ends in Dangling, its inside
-- stays, and the field is Dangling.

abbrev linked : Forest
linked = record {
  autos = automaton 2 (0 ∷ []) (rule 0 (Cell 0 [] (Link 0 ∷ [])) (1 ∷ []) ∷ rule 1 (Ref 1) [] ∷ [])
      ∷ one_cell Null ∷ [];
  vars = At 0 ∷ At 1 ∷ [];
  data_vars = [];
}

linked_without_one : dropped_forest 1 linked
    ≡ record {
      autos = automaton 2 (0 ∷ []) (rule 0 (Cell 0 [] (Link 0 ∷ [])) (1 ∷ []) ∷ rule 1 Dangling [] ∷ []) ∷ [];
      vars = At 0 ∷ DanglingTarget ∷ [];
      data_vars = [];
    }
linked_without_one = refl

-- the input's field names the output, which has no slot
abbrev one_step : Nodes
one_step = more (node 20 0 [] (field 0 (leaf (At 1)) no_parts)) (more (node 21 0 [] no_parts) no_nodes)

abbrev dressed_linked : Nodes
dressed_linked = more (node 7 0 [] (link 0 one_step (leaf (At 1)) no_parts))
    (more (node 4 0 [] (field 0 (leaf NullTarget) no_parts)) no_nodes)

dressed_unlinked : dropped 1 dressed_linked
    ≡ more (node 7 0 [] (link 0 one_step (leaf DanglingTarget) no_parts)) no_nodes
dressed_unlinked = refl

facts_linked : facts dressed_linked
    ≡ Head 7 0 [] ∷ Points 7 0 (CellValue 4) ∷ Head 4 0 [] ∷ Points 4 0 NullValue ∷ []
facts_linked = refl

facts_unlinked : facts (dropped 1 dressed_linked) ≡ Head 7 0 [] ∷ Points 7 0 DanglingValue ∷ []
facts_unlinked = refl

-- Roots that are reached. A variable is at root 0. The tree of root 1 refers to root 0 by a box edge, which leads back
-- where its box does, and to root 2 by a field.

abbrev ref : ℕ → Tree
ref r = roll-Tree (record { symbol = Ref r; children = [] })

abbrev null : Tree
null = roll-Tree (record { symbol = Null; children = [] })

abbrev cell : List Slot → List Tree → Tree
cell ss ts = roll-Tree (record { symbol = Cell 0 [] ss; children = ts })

abbrev dll : List BoxFace
dll = record { input = 0; output = Some 0; gives_in = 0 ∷ []; gives_out = 1 ∷ []; back = true } ∷ []

abbrev back_trees : List Tree
back_trees = cell (Field 0 ∷ []) (null ∷ []) ∷ cell (Link 0 ∷ Field 1 ∷ []) (ref 0 ∷ ref 2 ∷ [])
    ∷ cell (Field 0 ∷ []) (null ∷ []) ∷ []

opened : (x : Tree-F Tree) → ways (roll-Tree x) ≡ ways_at x.symbol (map ways x.children)
opened x = fold-roll-Tree (List Way) (λ t. ways_at t.symbol t.children) x

way_back : ways (cell (Link 0 ∷ Field 1 ∷ []) (ref 0 ∷ ref 2 ∷ []))
    ≡ record { root = 0; steps = record { slot = Link 0; refers = 0 ∷ 2 ∷ [] } ∷ [] }
    ∷ record { root = 2; steps = record { slot = Field 1; refers = 0 ∷ 2 ∷ [] } ∷ [] } ∷ []
way_back = simp opened

-- the tree's own root, by the way back
back_reached : RootReached dll (At 0 ∷ []) back_trees 1
back_reached = by_way 0 1 (by_var (inl refl)) (
  cell (Link 0 ∷ Field 1 ∷ []) (ref 0 ∷ ref 2 ∷ []),
  refl,
  (
    record { root = 0; steps = record { slot = Link 0; refers = 0 ∷ 2 ∷ [] } ∷ [] },
    rw way_back (inl refl),
    refl,
    inl (refl, refl),
  ),
)

-- and on, by its tree
then_reached : RootReached dll (At 0 ∷ []) back_trees 2
then_reached = by_tree 1 (cell (Link 0 ∷ Field 1 ∷ []) (ref 0 ∷ ref 2 ∷ [])) back_reached refl
    (rw way_back (inr (inl refl)))

abbrev is_at : Target → Bool
is_at (At r) = true
is_at t = false

-- without variables nothing is
none_reached : (r : ℕ) → RootReached dll (NullTarget ∷ DanglingTarget ∷ []) back_trees r → ⊥
none_reached r (by_var (inl e)) = true≢false (ap is_at e)
none_reached r (by_var (inr (inl e))) = true≢false (ap is_at e)
none_reached r (by_var (inr (inr x))) = absurd x
none_reached r (by_tree i t h e k) = none_reached i h
none_reached r (by_way i j h l) = none_reached i h
