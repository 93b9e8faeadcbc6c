-- Nodes that are no exploration, each by one clause.
use Rattle.std.proofs.Common.{◌≡◌, ◌<◌, ℕ, zero, suc, List, [], ◌∷◌, slice_get, None}
use Rattle.std.proofs.Common.{Some, refl, sym, ◌∙◌, ap, subst, arith, inl, inr, lit<, lit≤}
use Rattle.std.proofs.lemmas.Option.{none-some, same_Some}
use Rattle.fore_base.specs.declared.fault.Fault.TheVariants.{UninitDeref}
use Rattle.fore_base.specs.declared.store.Value.TheVariants.{Null as NullValue, Uninit as UninitValue}
use Rattle.fore_base.specs.Heap.{leaks}
use Rattle.fa_core.specs.declared.forest.Target.TheVariants.{Null, Uninit}
use Rattle.c_cfg.specs.Edges.{Passed, Faulted}
use Rattle.c_cfg.specs.Graphs.{ControlGraph}
use Rattle.c_cfg.specs.declared.graph.Edge.{Edge}
use Rattle.c_cfg.specs.declared.graph.Instr.TheVariants.{CopyPtr, LoadPtr}
use Rattle.c_cfg.specs.declared.graph.PtrArg.TheVariants.{Null as PtrNull}
use Rattle.fix_core.specs.declared.explored.AbsTrace.{AbsTrace}
use Rattle.fix_core.specs.Explorations.{IsNode, IsChild, IsHoused, IsCared, EarlierDone, IsFirst, NoLater}
use Rattle.fix_core.specs.Explorations.{AbstractTrace, Exploration}
use Rattle.fix_core.specs.Follows.{passed_by}
use Rattle.fix_core.specs.declared.nodes.Node.{Node}
use Rattle.fix_core.proofs.ExplorationRows.Bare.{table, bare, holding, as_it_is, entry, reached, edge, graph_of}
use Rattle.fix_core.proofs.ExplorationRows.Bare.{unset_member}
use Rattle.fix_core.proofs.ExplorationRows.Whole.{e0, graph, n1}

-- a node whose variable is null, and its head
abbrev at : ℕ → ℕ → ℕ → Node
at location p c = reached location p c (as_it_is (bare Null))

own : (location p c : ℕ) → IsChild (at location p c) p c
own location p c = record { parent = refl; edge = refl }

-- an edge that sets the variable to null, from a location to another
abbrev null_edge : ℕ → ℕ → Edge
null_edge from to = edge from to 1 (CopyPtr 0 PtrNull)

sets_null : (from to next : ℕ) → passed_by table (null_edge from to) (holding UninitValue next)
    ≡ Passed (holding NullValue next)
unfolding leaks
sets_null from to next = refl

-- no node of the list is there
abbrev Elsewhere : List Node → ℕ → Type 0
Elsewhere [] location = Unit {0}
Elsewhere (n ∷ ns) location = (n.head.location ≡ location → ⊥) × Elsewhere ns location

nobody : (ns : List Node) (location at : ℕ) (n : Node) → Elsewhere ns location → slice_get ns at ≡ Some n
    → n.head.location ≡ location → ⊥
nobody [] location at n e is there = none-some n is
nobody (m ∷ ms) location zero n e is there = e.0 (ap (λ z. z.head.location) (same_Some m n is) ∙ there)
nobody (m ∷ ms) location (suc at) n e is there = nobody ms location at n e.1 is there

not_one_of : (a b : ℕ) → a < b → a ≡ b → ⊥
not_one_of a b less is = omega (arith, less, is)

-- Node 0 was reached by no edge, on no choice

abbrev entry_by : Node
entry_by =
    record {
      head = record { location = 0; parent = None; edge = Some 0; choice = None };
      state = as_it_is (bare Uninit);
    }

entry_has_an_edge : IsFirst table graph (entry_by ∷ []) → ⊥
entry_has_an_edge f = none-some 0 (sym f.no_edge ∙ ap (λ z. z.head.edge) (sym (same_Some entry_by f.node f.is)))

abbrev entry_on : Node
entry_on =
    record {
      head = record { location = 0; parent = None; edge = None; choice = Some 1 };
      state = as_it_is (bare Uninit);
    }

entry_has_a_choice : IsFirst table graph (entry_on ∷ []) → ⊥
entry_has_a_choice f = none-some 1 (sym f.no_choice ∙ ap (λ z. z.head.choice) (sym (same_Some entry_on f.node f.is)))

-- A choice in a head that its edge has not

abbrev chosen : Node
chosen =
    record {
      head = record { location = 1; parent = Some 0; edge = Some 0; choice = Some 1 };
      state = as_it_is (bare Null);
    }

wrong_choice : Exploration table graph 1 (entry ∷ chosen ∷ []) → ⊥
wrong_choice x =
    let f = x.follow 1 chosen (lit< tt) refl in
    let c : 0 ≡ f.number = same_Some 0 f.number f.follows.child.edge in
    let e : e0 ≡ f.edge = same_Some e0 f.edge (ap (slice_get graph.edges) c ∙ f.is_edge) in
    none-some 1 (ap (λ z. z.choice) e ∙ sym f.follows.choice)

-- A node that an earlier one of its location covers

covered_node : Exploration table graph 1 (entry ∷ n1 ∷ n1 ∷ []) → ⊥
covered_node x = x.fresh 1 2 n1 n1 (lit< tt) refl refl refl (record { vars = refl; data_vars = refl; within = tt })

-- A child of node 1 before one of node 0; and one of edge 2 before one of edge 0

later_parent_first : Exploration table graph 1 (entry ∷ n1 ∷ at 2 1 2 ∷ at 3 0 1 ∷ []) → ⊥
later_parent_first x =
    let o : NoLater 1 2 0 1 = x.order 2 3 (at 2 1 2) (at 3 0 1) 1 2 0 1 (lit< tt) refl refl
    (own 2 1 2) (own 3 0 1) in
    elim o [ inl less ↦ omega (arith, less) | inr same ↦ omega (arith, same.0) ]

later_edge_first : Exploration table graph 1 (entry ∷ at 2 0 2 ∷ n1 ∷ []) → ⊥
later_edge_first x =
    let o : NoLater 0 2 0 0 = x.order 1 2 (at 2 0 2) n1 0 2 0 0 (lit< tt) refl refl
    (own 2 0 2) (own 1 0 0) in
    elim o [ inl less ↦ omega (arith, less) | inr same ↦ omega (arith, same.1) ]

-- A fault left out: on edge 0 the members of node 0 meet a fault, and node 1 was reached by edge 1, or by edge 0 itself

abbrev follows_it : Edge
follows_it = edge 0 3 1 (LoadPtr 0 0 0)

follows_unset : (next : ℕ) → passed_by table follows_it (holding UninitValue next) ≡ Faulted UninitDeref
follows_unset next = refl

fault_before_it : Exploration table (graph_of (follows_it ∷ null_edge 0 1 ∷ [])) 1 (entry ∷ at 1 0 1 ∷ []) → ⊥
fault_before_it x =
    x.calm 1 (at 1 0 1) entry 0 1 refl (own 1 0 1) refl 0 follows_it (lit≤ tt) refl refl
    (holding UninitValue 0) UninitDeref (unset_member 0) (follows_unset 0)

fault_on_its_edge : Exploration table (graph_of (follows_it ∷ [])) 1 (entry ∷ at 3 0 0 ∷ []) → ⊥
fault_on_its_edge x =
    x.calm 1 (at 3 0 0) entry 0 0 refl (own 3 0 0) refl 0 follows_it (lit≤ tt) refl refl
    (holding UninitValue 0) UninitDeref (unset_member 0) (follows_unset 0)

-- From location 0 edge 0 leads to location 1, and edge 1 to location 3; edge 2 leads from location 1 to the loop head 2

abbrev fork : ControlGraph
fork = graph_of (null_edge 0 1 ∷ null_edge 0 3 ∷ null_edge 1 2 ∷ [])

-- at location 1 no node of these is
housed_at_1 : IsHoused table fork (entry ∷ at 3 0 1 ∷ []) 1 (holding NullValue 0) → ⊥
housed_at_1 h =
    nobody (entry ∷ at 3 0 1 ∷ []) 1 h.at h.node
    (not_one_of 0 1 (lit< tt), ((λ e. not_one_of 1 3 (lit< tt) (sym e)), tt)) h.is h.there

-- An earlier edge left out: node 1 was reached by edge 1, and no node by edge 0
earlier_edge_left_out : Exploration table fork 1 (entry ∷ at 3 0 1 ∷ []) → ⊥
earlier_edge_left_out x =
    let cared = x.earlier_edges 1 (at 3 0 1) entry 0 1 refl refl (own 3 0 1) refl 0 (null_edge 0 1) (lit< tt) refl refl
    (holding UninitValue 0) (unset_member 0) in
    housed_at_1 (subst (IsCared table fork (entry ∷ at 3 0 1 ∷ []) 1) (sets_null 0 1 0) cared)

-- A node left undone before the parent of the last one: no node was reached by edge 1
node_left_undone : Exploration table fork 1 (entry ∷ n1 ∷ at 2 1 2 ∷ []) → ⊥
node_left_undone x =
    let cared = x.done 2 (at 2 1 2) 1 2 refl refl (own 2 1 2) 0 (lit< tt) entry refl 1 (null_edge 0 3) refl refl
    (holding UninitValue 0) (unset_member 0) in
    housed_at_3 (subst (IsCared table fork (entry ∷ n1 ∷ at 2 1 2 ∷ []) 3) (sets_null 0 3 0) cared)
  where
    housed_at_3 : IsHoused table fork (entry ∷ n1 ∷ at 2 1 2 ∷ []) 3 (holding NullValue 0) → ⊥
    housed_at_3 h =
        nobody (entry ∷ n1 ∷ at 2 1 2 ∷ []) 3 h.at h.node
        (not_one_of 0 3 (lit< tt), (not_one_of 1 3 (lit< tt), (not_one_of 2 3 (lit< tt), tt))) h.is h.there

-- The same of a trace that ends on edge 1 of node 0, while no node was reached by edge 0

abbrev trace_on_edge_1 : AbsTrace
trace_on_edge_1 = record {
  nodes = 0 ∷ [];
  edge = 1;
  choices = [];
  fault = UninitDeref;
  line = 1;
  steps = 1;
  last = record { forest = bare Uninit; face = table.face; signatures = [] };
}

abbrev two_edges : ControlGraph
two_edges = graph_of (null_edge 0 1 ∷ follows_it ∷ [])

trace_past_an_edge : AbstractTrace table two_edges (entry ∷ []) trace_on_edge_1 → ⊥
trace_past_an_edge a = here (only a.at a.node a.is)
  where
    only : (j : ℕ) (n : Node) → IsNode (entry ∷ []) j n → entry ≡ n
    only zero n is = same_Some entry n is
    only (suc j) n is = absurd (none-some n is)

    here : entry ≡ a.node → ⊥
    here is =
        let earlier = subst (λ z. EarlierDone table two_edges (entry ∷ []) z 1) (sym is) a.earlier_edges in
        let cared = earlier 0 (null_edge 0 1) (lit< tt) refl refl (holding UninitValue 0) (unset_member 0) in
        let h : IsHoused table two_edges (entry ∷ []) 1 (holding NullValue 0) =
        subst (IsCared table two_edges (entry ∷ []) 1) (sets_null 0 1 0) cared in
        nobody (entry ∷ []) 1 h.at h.node (not_one_of 0 1 (lit< tt), tt) h.is h.there
