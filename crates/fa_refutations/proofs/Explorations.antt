-- What wrong bodies of explorations would answer, refused by the words of their contracts.
use Rattle.std.proofs.Common.{◌≡◌, ◌≤◌, ℕ, zero, suc, true, false, List, [], ◌∷◌, length, Option, Some, None, refl}
use Rattle.std.proofs.Common.{inl, inr, sym, ◌∙◌, ap, subst, arith, lit<, slice_get}
use Rattle.std.proofs.lemmas.Option.{none-some, same_Some}
use Rattle.fore_base.specs.Heap.{leaks}
use Rattle.fore_base.specs.Lists.{Every, Paired}
use Rattle.fore_base.specs.declared.store.Store.{Store}
use Rattle.ta_core.specs.Auto.{Automaton}
use Rattle.ta_core.specs.Language.{HasSameLanguage}
use Rattle.fa_core.specs.Boxes.{Boxes}
use Rattle.fa_core.specs.Dressed.{no_nodes}
use Rattle.fa_core.specs.Rearranged.{empty}
use Rattle.fa_core.specs.declared.forest.Forest.{Forest}
use Rattle.fa_core.specs.declared.forest.Target.{Target}
use Rattle.fa_core.specs.declared.forest.Target.TheVariants.{Null, Uninit}
use Rattle.fa_pool.specs.declared.kept.Kept.{Kept}
use Rattle.fa_join.specs.Joinable.{Joinable, PairedButOne}
use Rattle.c_cfg.specs.Edges.{Passed}
use Rattle.c_cfg.specs.Graphs.{ControlGraph}
use Rattle.c_cfg.specs.declared.graph.Edge.{Edge}
use Rattle.c_cfg.specs.declared.graph.Instr.TheVariants.{TestPtr}
use Rattle.c_cfg.specs.declared.graph.PtrArg.TheVariants.{Null as PtrNull}
use Rattle.fix_core.specs.Explorations.{IsHoused, IsCared}
use Rattle.fix_core.specs.Follows.{SameLanguages, IsMember, passed_by}
use Rattle.fix_core.specs.States.{AbstractState}
use Rattle.fix_core.specs.declared.nodes.Node.{Node}
use Rattle.fix_core.specs.inner.Holding.{IsKeptIfThere}
use Rattle.fix_successors.specs.Arriving.{Arrival, EachTwo, states_of, IsArrival, AreApart, AreTargets}
use Rattle.fix_successors.specs.Exits.{AreExits}
use Rattle.fix_successors.specs.declared.images.EdgeImage.{EdgeImage}
use Rattle.fix_engine.specs.declared.taking.Taken.TheVariants.{All}
use Rattle.fix_engine.specs.inner.Rounds.{IsTakenRound}

-- no struct, and no box; forests without components
abbrev table : Boxes
table = record { face = record { shapes = record { structs = [] }; boxes = [] }; defs = [] }

abbrev bare : List Target → Forest
bare vars = record { autos = []; vars = vars; data_vars = [] }

abbrev state : Option Forest → AbstractState
state middle = record { face = table.face; forest = bare []; middle = middle; folds = [] }

-- The forest before it was folded has one variable, which was never set; what is kept for it has the null pointer, as
-- the forest of the state has.
abbrev null_one : Kept
null_one = record { parts = []; vars = Null ∷ []; data_vars = [] }

forest_kept_as_the_middle : IsKeptIfThere [] (Some (bare (Uninit ∷ []))) (Some null_one) → ⊥
forest_kept_as_the_middle kept =
    differ (ap (λ (F : Forest). F.vars) (same_Some (bare (Null ∷ [])) (bare (Uninit ∷ [])) kept.1))
  where
    differ : Null ∷ [] ≡ Uninit ∷ [] → ⊥
    differ e = cc

-- The edges 0 and 1, the two branches of a test, begin at location 0, and edge 2 leads from location 2 to 3. Location 1
-- is a loop head.
abbrev branch : ℕ → ℕ → Edge
branch from to =
    record { from = from; to = to; instr = TestPtr PtrNull PtrNull true; choice = None; line = 1 }

abbrev graph : ControlGraph
graph = record {
  locations = 4;
  ptrs = 0;
  datums = 0;
  edges = branch 0 1 ∷ branch 0 2 ∷ branch 2 3 ∷ [];
  heads = false ∷ true ∷ false ∷ false ∷ [];
  shapes = record { structs = [] };
}

-- the number of the first branch in the place of the second one's
branch_left_out : AreExits graph 3 ((0 ∷ 0 ∷ []) ∷ [] ∷ (2 ∷ []) ∷ [] ∷ []) → ⊥
branch_left_out exits =
    elim ((exits.each 0).all 1 (branch 0 2) (lit< tt) refl refl) [
      | inl e ↦ omega (arith, e)
      | inr i ↦ elim i [ inl e ↦ omega (arith, e) | inr z ↦ z ]
    ]

-- One case at the loop head becomes the same state twice: what both were regrouped into can be joined.

abbrev settled : AbstractState
settled = state (Some (bare []))

same_again : Joinable [] (bare []) (bare [])
same_again = record { vars = refl; data_vars = refl; components = tt }

no_components : (S : Automaton → Automaton → Type 0) (xs ys : List Automaton) → Paired HasSameLanguage [] xs
    → Paired HasSameLanguage [] ys
    → PairedButOne HasSameLanguage S xs ys
no_components S [] [] p q = tt
no_components S [] (y ∷ ys) p q = absurd q
no_components S (x ∷ xs) ys p q = absurd p

joinable : (G H : Forest) → SameLanguages (bare []) G → SameLanguages (bare []) H → Joinable [] G H
joinable G H g h = record {
  vars = g.vars ∙ sym h.vars;
  data_vars = g.data_vars ∙ sym h.data_vars;
  components = no_components _ G.autos H.autos g.languages h.languages;
}

case_cut_in_two : AreTargets table graph 1 (bare []) (branch 0 1) (settled ∷ settled ∷ []) → ⊥
case_cut_in_two targets = two targets.arrivals targets.are targets.each targets.apart
  where
    first : List AbstractState → AbstractState
    first [] = settled
    first (a ∷ as') = a

    rest : List AbstractState → List AbstractState
    rest [] = []
    rest (a ∷ as') = as'

    two : (xs : List Arrival) → states_of xs ≡ settled ∷ settled ∷ []
        → Every (IsArrival table graph 1 (bare []) (branch 0 1)) xs
        → EachTwo (AreApart table graph 1 (branch 0 1)) xs
        → ⊥
    two [] e each apart = cc
    two (x ∷ []) e each apart = cc
    two (x ∷ y ∷ zs) e each apart =
        let ex : x.state ≡ settled = ap first e in
        let ey : y.state ≡ settled = ap (λ as'. first (rest as')) e in
        let mx = ap (λ (a : AbstractState). a.middle) ex in
        let my = ap (λ (a : AbstractState). a.middle) ey in
        elim (apart.0.0.middles (bare []) (bare []) mx my) [
          | inl one ↦ one.joinable (joinable x.grouped y.grouped
              ((each.0.groups (bare []) mx).unfolded (ap (λ (a : AbstractState). a.folds) ex))
              ((each.1.0.groups (bare []) my).unfolded (ap (λ (a : AbstractState). a.folds) ey)))
          | inr differ ↦ differ same_again
        ]

-- A round of nodes 1 and 2 was taken up, the second with the images of the first, of which there are none: so there is
-- no node at location 3.

abbrev node : ℕ → Option ℕ → Option ℕ → AbstractState → Node
node location parent edge a =
    record { head = record { location = location; parent = parent; edge = edge; choice = None }; state = a }

abbrev nodes : List Node
nodes = node 0 None None (state None) ∷ node 1 (Some 0) (Some 0) settled ∷ node 2 (Some 0) (Some 1) (state None) ∷ []

abbrev store : Store
store = record { vars = []; data_vars = []; cells = []; next = 0 }

is_member : IsMember table (bare []) store
is_member = (
  no_nodes,
  record {
    proper = record { differ = tt; below = tt; vars = tt; fields = tt };
    fields = tt;
    of = tt;
    same_facts = empty;
    vars = refl;
    data_vars = refl;
  },
)

passes : passed_by table (branch 2 3) store ≡ Passed store
unfolding leaks
passes = refl

nobody_at_3 : (at : ℕ) (n : Node) → slice_get nodes at ≡ Some n → n.head.location ≡ 3 → ⊥
nobody_at_3 zero n is there =
    let e : 0 ≡ 3 = ap (λ (m : Node). m.head.location) (same_Some (node 0 None None (state None)) n is) ∙ there in
    omega (arith, e)
nobody_at_3 (suc zero) n is there =
    let e : 1 ≡ 3 = ap (λ (m : Node). m.head.location) (same_Some (node 1 (Some 0) (Some 0) settled) n is) ∙ there in
    omega (arith, e)
nobody_at_3 (suc (suc zero)) n is there =
    let e : 2 ≡ 3 = ap (λ (m : Node). m.head.location) (same_Some (node 2 (Some 0) (Some 1) (state None)) n is)
    ∙ there in
    omega (arith, e)
nobody_at_3 (suc (suc (suc at))) n is there = none-some n is

first_images_again : IsTakenRound table graph 1 3 9 nodes 3 All → ⊥
first_images_again front =
    let cared = front.done 2 (lit< tt) (node 2 (Some 0) (Some 1) (state None)) refl 2 (branch 2 3) refl refl store
    is_member in
    let h : IsHoused table graph nodes 3 store = subst (IsCared table graph nodes 3) passes cared in
    nobody_at_3 h.at h.node h.is h.there

-- one job, and a round of two nodes
two_nodes_for_one_job : (x y : List EdgeImage) → length (x ∷ y ∷ []) ≤ 1 → ⊥
two_nodes_for_one_job x y few = omega (arith, few)
