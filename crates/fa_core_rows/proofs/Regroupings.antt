-- Which forests regroup others: the same cells in other trees, and not fewer, nor with other variables.
use Rattle.std.proofs.Common.{inl, inr, List, [], ◌∷◌, refl, arith}
use Rattle.fore_base.specs.declared.store.Datum.TheVariants.{Known}
use Rattle.fore_base.specs.declared.store.Datum.{Datum}
use Rattle.ta_core.specs.Auto.{Automaton}
use Rattle.ta_core.specs.declared.symbol.Slot.TheVariants.{Field}
use Rattle.ta_core.specs.declared.symbol.Symbol.{Symbol}
use Rattle.ta_core.specs.declared.symbol.Symbol.TheVariants.{Null, Cell}
use Rattle.fa_core.specs.declared.forest.Forest.{Forest}
use Rattle.fa_core.specs.declared.forest.Target.{Target}
use Rattle.fa_core.specs.declared.forest.Target.TheVariants.{Null as NullTarget, Uninit as UninitTarget, At}
use Rattle.fa_core.specs.Dressed.{Node, Nodes, node, no_parts, field, under, leaf, no_nodes, more, cells}
use Rattle.fa_core.specs.Member.{OfForest, Regrouping, Regroups, RegroupsInto}
use Rattle.fa_core.specs.Rearranged.{swap}
use Rattle.fa_core.proofs.NodeRuns.{node_bare}
use Rattle.fa_core.proofs.Rearranging.{same, long_same}
use Rattle.fa_core.proofs.RowsCanonical.{rule}
use Rattle.fa_core.proofs.RowsForests.{bare_cell, bare_node, bare_runs}
use Rattle.fa_core_rows.proofs.Singles.{over, over_runs, to_ref, to_null}

-- a forest without cells
abbrev hollow : List Target → List Datum → Forest
hollow vars data_vars = record { autos = []; vars = vars; data_vars = data_vars }

-- one cell without pointers
abbrev one : Forest
one = record { autos = bare_cell ∷ []; vars = []; data_vars = [] }

of_one : OfForest [] one (more bare_node no_nodes)
of_one = (bare_runs, tt, tt)

-- a forest regroups itself
itself : (F : Forest) → Regroups [] F F
itself F d o = (d, record { of = o; same_cells = same (cells d); vars = refl; data_vars = refl })

-- none regroups it that has no cell, nor one with another variable
fewer_cells : Regroups [] (hollow [] []) one → ⊥
fewer_cells h = let r = h (more bare_node no_nodes) of_one in by r.0 r.1
  where
    by : (e : Nodes) → Regrouping [] (hollow [] []) one (more bare_node no_nodes) e → ⊥
    by no_nodes r = let l = long_same r.same_cells in omega (arith, l)
    by (more n ns) r = r.of

more_cells : Regroups [] one (hollow [] []) → ⊥
more_cells h = let r = h no_nodes tt in by r.0 r.1
  where
    by : (e : Nodes) → Regrouping [] one (hollow [] []) no_nodes e → ⊥
    by no_nodes r = r.of
    by (more (node c s ds ps) ns) r = let l = long_same r.same_cells in omega (arith, l)

other_variable : Regroups [] (hollow (UninitTarget ∷ []) []) (hollow (NullTarget ∷ []) []) → ⊥
other_variable h = cc ((h no_nodes tt).1.vars)

one_variable_more : Regroups [] (hollow (NullTarget ∷ NullTarget ∷ []) []) (hollow (NullTarget ∷ []) []) → ⊥
one_variable_more h = cc ((h no_nodes tt).1.vars)

other_data : Regroups [] (hollow [] (Known 1 ∷ [])) (hollow [] (Known 2 ∷ [])) → ⊥
other_data h = cc ((h no_nodes tt).1.data_vars)

-- a forest of which no dressed forest is left is regrouped into none of no forests
into_none : RegroupsInto [] one [] → ⊥
into_none h = (h (more bare_node no_nodes) of_one).1

-- Two cells: 5 refers to 7, which is null. In two trees, 7 before 5, and in one tree. A variable is at 5.

abbrev list_cell : Symbol
list_cell = Cell 0 [] (Field 0 ∷ [])

abbrev apart : Forest
apart = record {
  autos = over list_cell (2 ∷ []) 0 ∷ over list_cell (1 ∷ []) 0 ∷ [];
  vars = At 1 ∷ [];
  data_vars = Known 3 ∷ [];
}

abbrev chain_auto : Automaton
chain_auto = record {
  states = 3;
  roots = 0 ∷ [];
  rules = rule 0 list_cell (1 ∷ []) ∷ rule 1 list_cell (2 ∷ []) ∷ rule 2 Null [] ∷ [];
}

abbrev together : Forest
together = record { autos = chain_auto ∷ []; vars = At 0 ∷ []; data_vars = Known 3 ∷ [] }

abbrev last : Node
last = node 7 0 [] (field 0 (leaf NullTarget) no_parts)

abbrev two_trees : Nodes
two_trees = more last (more (node 5 0 [] (field 0 (leaf (At 0)) no_parts)) no_nodes)

abbrev one_tree : Nodes
one_tree = more (node 5 0 [] (field 0 (under last) no_parts)) no_nodes

of_apart : OfForest [] apart two_trees
of_apart = (
  over_runs 7 0 [] (field 0 (leaf NullTarget) no_parts) (2 ∷ []) 0 (to_null list_cell (2 ∷ []) 0, tt),
  (tt, tt),
  (over_runs 5 0 [] (field 0 (leaf (At 0)) no_parts) (1 ∷ []) 0 (to_ref list_cell (1 ∷ []) 0, tt), (tt, tt), tt),
)

of_together : OfForest [] together one_tree
of_together = (
  (
    0,
    inl refl,
    node_bare chain_auto.rules 0 (node 5 0 [] (field 0 (under last) no_parts)) (
      rule 0 list_cell (1 ∷ []),
      inl refl,
      refl,
      refl,
      (
        (
          rule 1 list_cell (2 ∷ []),
          inr (inl refl),
          refl,
          refl,
          ((rule 2 Null [], inr (inr (inl refl)), refl, refl, refl), tt),
        ),
        tt,
      ),
    ),
  ),
  ((tt, tt), tt),
  tt,
)

grouped : Regrouping [] together apart two_trees one_tree
grouped = record { of = of_together; same_cells = swap _ _ []; vars = refl; data_vars = refl }

taken_apart : Regrouping [] apart together one_tree two_trees
taken_apart = record { of = of_apart; same_cells = swap _ _ []; vars = refl; data_vars = refl }
