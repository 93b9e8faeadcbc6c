-- Worked values of references, numbers, forms and leaves put in the place of references.
use Rattle.std.proofs.Common.{◌≡◌, inl, inr, ℕ, zero, suc, true, false, true≢false, List, [], ◌∷◌, map, refl, sym, ap}
use Rattle.std.proofs.Common.{arith}
use Rattle.std.proofs.lemmas.Option.{none-some}
use Rattle.ta_core.specs.declared.symbol.Slot.TheVariants.{Field, Link}
use Rattle.ta_core.specs.declared.symbol.Symbol.TheVariants.{Dangling, Ref, Cell}
use Rattle.ta_core.specs.declared.tree.Tree.{roll-Tree, fold-roll-Tree}
use Rattle.fa_core.specs.declared.forest.Target.{Target}
use Rattle.fa_core.specs.declared.forest.Target.TheVariants.{Null as NullTarget, Uninit as UninitTarget}
use Rattle.fa_core.specs.declared.forest.Target.TheVariants.{Dangling as DanglingTarget, At}
use Rattle.fa_core.specs.Choices.{count, all_numbers, IsNumbered, SymbolHasInsides}
use Rattle.fa_core.specs.Dressed.{Nodes, node, no_parts, field, link, hook, under, leaf, no_nodes, more}
use Rattle.fa_core.specs.Placed.{placed, placed_all, placed_auto}
use Rattle.fa_core.specs.References.{AllBelow, IsNever, IsOnce, to_two, AreAlike, plain_marks, tree_refs}
use Rattle.fa_core.specs.Ways.{Way, ways_at}

abbrev first : List ℕ → ℕ
first [] = 7
first (x ∷ xs) = x

abbrev second : List ℕ → ℕ
second [] = 7
second (x ∷ xs) = first xs

-- References counted.

below_three : AllBelow 3 (2 ∷ 0 ∷ [])
below_three = (omega arith, (omega arith, tt))

three_not_below_three : AllBelow 3 (3 ∷ []) → ⊥
three_not_below_three h = omega (arith, h.0)

never_seven : IsNever 7 (2 ∷ 0 ∷ [])
never_seven = (refl, (refl, tt))

two_not_never : IsNever 2 (0 ∷ 2 ∷ []) → ⊥
two_not_never h = true≢false h.1.0

once_two : IsOnce 2 (0 ∷ 2 ∷ 1 ∷ [])
once_two = inr (refl, inl (refl, (refl, tt)))

twice_is_not_once : IsOnce 2 (2 ∷ 2 ∷ []) → ⊥
twice_is_not_once (inl h) = true≢false h.1.0
twice_is_not_once (inr h) = true≢false h.0

none_is_not_once : IsOnce 2 (0 ∷ []) → ⊥
none_is_not_once (inl h) = true≢false (sym h.0)
none_is_not_once (inr h) = h.1

counts_to_two : map to_two (0 ∷ 1 ∷ 2 ∷ 3 ∷ []) ≡ 0 ∷ 1 ∷ 2 ∷ 2 ∷ []
counts_to_two = refl

-- other order of first visit: not alike
order_differs : AreAlike (0 ∷ 1 ∷ []) (1 ∷ 0 ∷ []) → ⊥
order_differs h = let z : 0 ≡ 1 = ap first h.order in omega (arith, z)

-- once and twice are not alike
times_differ : AreAlike (0 ∷ []) (0 ∷ 0 ∷ []) → ⊥
times_differ h = let z : 1 ≡ 2 = h.times 0 in omega (arith, z)

-- twice and three times are alike
more_are_alike : plain_marks (4 ∷ 4 ∷ []) ≡ plain_marks (4 ∷ 4 ∷ 4 ∷ [])
more_are_alike = refl

-- two references to root 3, one to root 0, in the order of first visit
marks_of_three : plain_marks (3 ∷ 0 ∷ 3 ∷ []) ≡
    record { root = 3; many = true; provided = []; back = false; reach = [] }
    ∷ record { root = 0; many = false; provided = []; back = false; reach = [] } ∷ []
marks_of_three = refl

leaf_tree_refs : tree_refs (roll-Tree (record { symbol = Ref 5; children = [] })) ≡ 5 ∷ []
leaf_tree_refs = ap (λ (ws : List Way). map (λ w. w.root) ws)
    (fold-roll-Tree (List Way) (λ t. ways_at t.symbol t.children) (record { symbol = Ref 5; children = [] }))

-- Numbers.

-- a cell over another and a reference, and a root with a box edge whose inside has a cell 9
abbrev two_trees : Nodes
two_trees =
    more
    (node 5 0 [] (field 0 (under (node 3 0 [] (field 0 (leaf NullTarget) no_parts))) (field 1 (leaf (At 1)) no_parts)))
    (more (node 8 1 [] (link 0 (more (node 9 0 [] no_parts) no_nodes) (leaf (At 0)) (hook 1 no_nodes no_parts)))
    no_nodes)

two_trees_count : count two_trees ≡ 2
two_trees_count = refl

-- those of insides are left out
two_trees_numbers : all_numbers two_trees ≡ 5 ∷ 3 ∷ 8 ∷ []
two_trees_numbers = refl

rising_from_four : IsNumbered 4 (4 ∷ 5 ∷ 6 ∷ [])
rising_from_four = refl

gap_is_not_numbered : IsNumbered 4 (4 ∷ 6 ∷ []) → ⊥
gap_is_not_numbered h = let z : 6 ≡ 5 = ap second h in omega (arith, z)

-- a table without boxes has no inside for a Link or a Hook, and none is asked for a field
no_inside_for_a_link : SymbolHasInsides [] (Cell 0 [] (Field 0 ∷ Link 0 ∷ [])) → ⊥
no_inside_for_a_link h = none-some h.1.0.1 h.1.0.2

fields_ask_for_none : SymbolHasInsides [] (Cell 0 [] (Field 0 ∷ []))
fields_ask_for_none = (tt, tt)

-- Leaves put in the place of references.

-- roots 0 and 1 become root 0, any other root is gone
abbrev joined : ℕ → Target
joined zero = At 0
joined (suc zero) = At 0
joined (suc (suc k)) = DanglingTarget

two_placed : placed_all joined two_trees
    ≡ more
    (node 5 0 [] (field 0 (under (node 3 0 [] (field 0 (leaf NullTarget) no_parts))) (field 1 (leaf (At 0)) no_parts)))
    (more (node 8 1 [] (link 0 (more (node 9 0 [] no_parts) no_nodes) (leaf (At 0)) (hook 1 no_nodes no_parts)))
    no_nodes)
two_placed = refl

-- a reference to a root that is gone dangles; other leaves stay; references inside a box edge stay
gone :
    placed joined
    (node 1 0 []
    (field 0 (leaf (At 2))
    (field 1 (leaf UninitTarget) (hook 0 (more (node 2 0 [] (field 0 (leaf (At 1)) no_parts)) no_nodes) no_parts)))) ≡
    node 1 0 []
    (field 0 (leaf DanglingTarget)
    (field 1 (leaf UninitTarget) (hook 0 (more (node 2 0 [] (field 0 (leaf (At 1)) no_parts)) no_nodes) no_parts)))
gone = refl

auto_placed : placed_auto joined
    (record {
      states = 2;
      roots = 0 ∷ [];
      rules = record { state = 0; symbol = Cell 0 [] (Field 0 ∷ []); children = 1 ∷ [] }
          ∷ record { state = 1; symbol = Ref 1; children = [] } ∷ record { state = 1; symbol = Ref 2; children = [] }
          ∷ [];
    })
    ≡
    record {
      states = 2;
      roots = 0 ∷ [];
      rules = record { state = 0; symbol = Cell 0 [] (Field 0 ∷ []); children = 1 ∷ [] }
          ∷ record { state = 1; symbol = Ref 0; children = [] } ∷ record { state = 1; symbol = Dangling; children = [] }
          ∷ [];
    }
auto_placed = refl
