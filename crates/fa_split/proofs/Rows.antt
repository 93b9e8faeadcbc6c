-- Worked values: a rule chosen, leaves and cells split off, and children taken out of dressed trees.
use Rattle.std.proofs.Common.{◌≡◌, inl, inr, ℕ, zero, suc, ◌<◌, List, [], ◌∷◌, refl, sym, ap, subst, ◌∙◌, slice_get}
use Rattle.std.proofs.Common.{Some, None, arith}
use Rattle.std.proofs.lemmas.Option.{none-some, same_Some}
use Rattle.fore_base.specs.Lists.{IsIn}
use Rattle.ta_core.specs.Auto.{Automaton, automaton}
use Rattle.ta_core.specs.Language.{RunOf, run, run_none}
use Rattle.ta_core.specs.Single.{HasOneTop}
use Rattle.ta_core.specs.declared.auto.Rule.{Rule}
use Rattle.ta_core.specs.declared.symbol.Slot.TheVariants.{Field}
use Rattle.ta_core.specs.declared.symbol.Symbol.{Symbol}
use Rattle.ta_core.specs.declared.symbol.Symbol.TheVariants.{Null, Uninit, Ref, Cell}
use Rattle.ta_core.specs.declared.tree.Tree.{out-roll-Tree}
use Rattle.fa_core.specs.declared.forest.Forest.{Forest}
use Rattle.fa_core.specs.declared.forest.Target.TheVariants.{Null as NullTarget, Uninit as UninitTarget, At}
use Rattle.fa_core.specs.declared.forest.Target.TheVariants.{Dangling as DanglingTarget}
use Rattle.fa_core.specs.Dressed.{Node, Parts, End, Nodes, node, no_parts, field, link, hook, under, leaf, no_nodes}
use Rattle.fa_core.specs.Dressed.{more}
use Rattle.fa_core.specs.Member.{bare_end}
use Rattle.fa_core.proofs.Dressing.{leaf_top}
use Rattle.fa_split.specs.Chosen.{Picked, none, take, leave, chosen, chosen_at}
use Rattle.fa_sound.specs.Components.{with_component}
use Rattle.fa_split.specs.Divided.{HasVarsOf}
use Rattle.fa_split.specs.Split.{first_of, top_rule, child_state, fixed, cell_rules, lifted, split_leaf, split_cells}
use Rattle.fa_split.specs.Split.{CanSplit, AreThose, IsWhere, end_at, set_end, set_node, with_last, with_end, HasChild}
use Rattle.fa_split.specs.Split.{IsFixedAt, IsTakenOut}
use Rattle.fa_split.proofs.Places.{end_is_leaf}

abbrev rule : ℕ → Symbol → List ℕ → Rule
rule q y qs = record { state = q; symbol = y; children = qs }

abbrev list_cell : Symbol
list_cell = Cell 0 [] (Field 0 ∷ [])

abbrev fork : Symbol
fork = Cell 0 [] (Field 0 ∷ Field 1 ∷ [])

-- Lists: state 2 has those of at least one cell that end in null; it stands inside. State 0 takes part in none.

abbrev lists : Automaton
lists = automaton 3 (2 ∷ [])
    (rule 0 list_cell (1 ∷ []) ∷ rule 1 Null [] ∷ rule 2 list_cell (2 ∷ []) ∷ rule 2 list_cell (1 ∷ []) ∷ [])

-- at least two cells: the old root state stays below the new one
longer_lists : chosen lists (rule 2 list_cell (2 ∷ []))
    ≡ automaton 4 (3 ∷ []) (rule 0 list_cell (1 ∷ []) ∷ rule 1 Null [] ∷ rule 2 list_cell (2 ∷ [])
    ∷ rule 2 list_cell (1 ∷ []) ∷ rule 3 list_cell (2 ∷ []) ∷ [])
longer_lists = refl

-- one cell and what stands below it: a list of lists is reached from root 0, which a variable names
abbrev below : Automaton
below = automaton 2 (0 ∷ [])
    (rule 1 Null [] ∷ rule 1 Uninit [] ∷ rule 1 list_cell (1 ∷ []) ∷ rule 0 list_cell (1 ∷ []) ∷ [])

abbrev plain : Automaton
plain = automaton 1 (0 ∷ []) (rule 0 Null [] ∷ [])

abbrev two : Forest
two = record { autos = plain ∷ below ∷ []; vars = At 1 ∷ NullTarget ∷ []; data_vars = [] }

-- only the root's own component changes
chosen_at_one : chosen_at two 1 (rule 0 list_cell (1 ∷ []))
    ≡ record {
      autos = plain ∷ chosen below (rule 0 list_cell (1 ∷ [])) ∷ [];
      vars = At 1 ∷ NullTarget ∷ [];
      data_vars = [];
    }
chosen_at_one = refl

component_in_place : with_component two 0 below
    ≡ record { autos = below ∷ below ∷ []; vars = At 1 ∷ NullTarget ∷ []; data_vars = [] }
component_in_place = refl

-- the items above one, in their order
abbrev IsAboveOne : ℕ → Type 0
IsAboveOne zero = ⊥
IsAboveOne (suc zero) = ⊥
IsAboveOne (suc (suc n)) = Unit {0}

those_above_one : Picked IsAboveOne (3 ∷ 1 ∷ 2 ∷ 3 ∷ []) (3 ∷ 2 ∷ 3 ∷ [])
those_above_one = take 3 tt (leave 1 (λ h. h) (take 2 tt (take 3 tt none)))

none_is_left_out : Picked IsAboveOne (3 ∷ []) [] → ⊥
none_is_left_out (leave x h k) = h tt

-- The rule at the top, and the state of its child.

top_of_below : top_rule below ≡ rule 0 list_cell (1 ∷ [])
top_of_below = refl

no_top : first_of (5 ∷ []) (rule 0 list_cell (1 ∷ []) ∷ []) ≡ rule 0 Null []
no_top = refl

one_of_two_states : first_of (4 ∷ 1 ∷ []) (rule 0 list_cell (1 ∷ []) ∷ rule 1 Null [] ∷ []) ≡ rule 1 Null []
one_of_two_states = refl

abbrev forked : Automaton
forked = automaton 3 (0 ∷ [])
    (rule 0 fork (1 ∷ 2 ∷ []) ∷ rule 1 Null [] ∷ rule 2 Uninit [] ∷ rule 2 fork (1 ∷ 2 ∷ []) ∷ [])

second_child : child_state forked 1 ≡ 2
second_child = refl

-- The second child fixed as a leaf: the first stays.

fixed_second : fixed forked 1 UninitTarget
    ≡ automaton 5 (3 ∷ []) (rule 0 fork (1 ∷ 2 ∷ []) ∷ rule 1 Null [] ∷ rule 2 Uninit [] ∷ rule 2 fork (1 ∷ 2 ∷ [])
    ∷ rule 3 fork (1 ∷ 4 ∷ []) ∷ rule 4 Uninit [] ∷ [])
fixed_second = refl

fixed_reference : fixed below 0 (At 7)
    ≡ automaton 4 (2 ∷ []) (rule 1 Null [] ∷ rule 1 Uninit [] ∷ rule 1 list_cell (1 ∷ []) ∷ rule 0 list_cell (1 ∷ [])
    ∷ rule 2 list_cell (3 ∷ []) ∷ rule 3 (Ref 7) [] ∷ [])
fixed_reference = refl

-- The cells of a state: its leaves go, and so do the cells of other states.

cells_of_two : cell_rules 9 2 forked.rules ≡ rule 9 fork (1 ∷ 2 ∷ []) ∷ []
cells_of_two = refl

lifted_second : lifted forked 2
    ≡ automaton 4 (3 ∷ []) (rule 0 fork (1 ∷ 2 ∷ []) ∷ rule 1 Null [] ∷ rule 2 Uninit [] ∷ rule 2 fork (1 ∷ 2 ∷ [])
    ∷ rule 3 fork (1 ∷ 2 ∷ []) ∷ [])
lifted_second = refl

-- The forests: the new root is the last, and the leaf in the child's place names it.

split_as_null : split_leaf two 1 0 NullTarget
    ≡ record { autos = plain ∷ fixed below 0 NullTarget ∷ []; vars = At 1 ∷ NullTarget ∷ []; data_vars = [] }
split_as_null = refl

split_as_cells : split_cells two 1 0
    ≡ record {
      autos = plain ∷ fixed below 0 (At 2) ∷ lifted below 1 ∷ [];
      vars = At 1 ∷ NullTarget ∷ [];
      data_vars = [];
    }
split_as_cells = refl

below_has_one_top : HasOneTop below
below_has_one_top = record
    { root = 0; alone = refl; place = 3; rule = rule 0 list_cell (1 ∷ []); there = refl; top = refl; only = only }
  where
    only : (i : ℕ) (r : Rule) → slice_get below.rules i ≡ Some r → r.state ≡ 0 → i ≡ 3
    only zero r e s = absurd (let w : 1 ≡ 0 = ap (λ (x : Rule). x.state) (same_Some _ r e) ∙ s in omega (arith, w))
    only (suc zero) r e s = absurd
        (let w : 1 ≡ 0 = ap (λ (x : Rule). x.state) (same_Some _ r e) ∙ s in omega (arith, w))
    only (suc (suc zero)) r e s =
        absurd (let w : 1 ≡ 0 = ap (λ (x : Rule). x.state) (same_Some _ r e) ∙ s in omega (arith, w))
    only (suc (suc (suc zero))) r e s = refl
    only (suc (suc (suc (suc i)))) r e s = absurd (none-some r e)

below_can_be_split : CanSplit two 1 0
below_can_be_split = record { root = omega arith; top = below_has_one_top; place = omega arith }

no_second_place : CanSplit two 1 1 → ⊥
no_second_place h = let l = h.place in omega (arith, l)

-- Lists of those that meet a condition, and lists of one or none.

the_two : AreThose (λ k. k < 2) (1 ∷ 0 ∷ [])
the_two =
    record {
      each = (omega arith, (omega arith, tt));
      all = all;
      once = ((λ h. elim h [ inl e ↦ omega (arith, e) | inr n ↦ n ]), ((λ h. h), tt));
    }
  where
    all : (k : ℕ) → k < 2 → IsIn k (1 ∷ 0 ∷ [])
    all zero l = inr (inl refl)
    all (suc zero) l = inl refl
    all (suc (suc k)) l = absurd (omega (arith, l))

one_is_not_all : AreThose (λ k. k < 2) (1 ∷ []) → ⊥
one_is_not_all h = elim (h.all 0 (omega arith)) [ inl e ↦ omega (arith, e) | inr n ↦ n ]

none_twice : AreThose (λ k. k < 1) (0 ∷ 0 ∷ []) → ⊥
none_twice h = h.once.0 (inl refl)

where_it_holds : IsWhere (Unit {0}) two (two ∷ [])
where_it_holds = inl (tt, refl)

where_it_does_not : IsWhere ⊥ two []
where_it_does_not = inr ((λ h. h), refl)

-- Children of dressed trees: places count children, and a slot without a child is none.

abbrev small : Node
small = node 8 0 [] no_parts

abbrev slots : Parts
slots = hook 0 no_nodes (field 1 (leaf NullTarget) (link 2 no_nodes (under small) no_parts))

first_end : end_at 0 slots ≡ Some (leaf NullTarget)
first_end = refl

second_end : end_at 1 slots ≡ Some (under small)
second_end = refl

no_third_end : end_at 2 slots ≡ None
no_third_end = refl

second_end_set : set_end 1 (leaf (At 3)) slots
    ≡ hook 0 no_nodes (field 1 (leaf NullTarget) (link 2 no_nodes (leaf (At 3)) no_parts))
second_end_set = refl

first_end_set : with_end 0 (leaf (At 3)) (node 5 0 [] slots)
    ≡ node 5 0 [] (hook 0 no_nodes (field 1 (leaf (At 3)) (link 2 no_nodes (under small) no_parts)))
first_end_set = refl

-- Two trees: the second one's child is taken out, as the third.

abbrev trees : Nodes
trees = more (node 4 0 [] (field 0 (leaf (At 1)) no_parts)) (more (node 5 0 [] slots) no_nodes)

child_is_there : HasChild trees 1 1 (under small)
child_is_there = (node 5 0 [] slots, refl, refl)

second_tree_set : set_node 1 small trees ≡ more (node 4 0 [] (field 0 (leaf (At 1)) no_parts)) (more small no_nodes)
second_tree_set = refl

small_is_last : with_last trees small
    ≡ more (node 4 0 [] (field 0 (leaf (At 1)) no_parts)) (more (node 5 0 [] slots) (more small no_nodes))
small_is_last = refl

small_is_taken_out : IsTakenOut 1 1 trees
    (more (node 4 0 [] (field 0 (leaf (At 1)) no_parts))
    (more (node 5 0 [] (hook 0 no_nodes (field 1 (leaf NullTarget) (link 2 no_nodes (leaf (At 2)) no_parts))))
    (more small no_nodes)))
small_is_taken_out = record { above = node 5 0 [] slots; child = small; is_above = refl; is_child = refl; taken = refl }

-- Targets.

same_vars : HasVarsOf two (split_cells two 1 0)
same_vars = (refl, refl)

-- A child that may be two leaves is neither of them alone.

abbrev first_state : List ℕ → ℕ
first_state [] = 0
first_state (q ∷ qs) = q

abbrev IsUninitEnd : End → Type 0
IsUninitEnd (under n) = ⊥
IsUninitEnd (leaf NullTarget) = ⊥
IsUninitEnd (leaf UninitTarget) = Unit {0}
IsUninitEnd (leaf DanglingTarget) = ⊥
IsUninitEnd (leaf (At k)) = ⊥

uninit_run : RunOf below.rules 1 (bare_end (leaf UninitTarget))
uninit_run = run (rule 1 Uninit []) (inr (inl refl)) refl (sym (leaf_top UninitTarget))
    (rw (out-roll-Tree (record { symbol = Uninit; children = [] })) run_none)

not_alone : IsFixedAt two 1 0 NullTarget two → ⊥
not_alone h =
    let s : 1 ≡ h.state = ap first_state h.children in
    let e = h.only (bare_end (leaf UninitTarget))
    (subst (λ (q : ℕ). RunOf below.rules q (bare_end (leaf UninitTarget))) s uninit_run) in
    subst IsUninitEnd (end_is_leaf (leaf UninitTarget) NullTarget e) tt
