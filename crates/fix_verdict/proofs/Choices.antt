-- Each choice of an abstract trace is that of an edge, and so 0 or 1.
use Rattle.std.proofs.Common.{◌≡◌, ◌<◌, ℕ, suc, zero, List, [], ◌∷◌, slice_get, Option, Some, None, sym, subst, arith}
use Rattle.fore_base.specs.Lists.{Every}
use Rattle.fa_core.specs.Boxes.{Boxes}
use Rattle.c_cfg.specs.Fans.{choice_list}
use Rattle.c_cfg.specs.Graphs.{ControlGraph}
use Rattle.c_cfg.specs.Ranges.{ChoiceFits, IsEdgeOf}
use Rattle.c_cfg.specs.declared.graph.Edge.{Edge}
use Rattle.fix_core.specs.declared.explored.AbsTrace.{AbsTrace}
use Rattle.fix_core.specs.declared.nodes.Node.{Node}
use Rattle.fix_core.specs.Explorations.{
  IsNode,
  IsEdge,
  FollowsEarlier,
  Exploration,
  IsWay,
  begins,
  goes,
  AbstractTrace,
}
use Rattle.fix_core.proofs.Numbered.{one_node}
use Rattle.fix_core.proofs.Lists.{some_same, every_both}

-- they are 0 or 1
abbrev pub AreChoices : List ℕ → Type 0
AreChoices choices = Every (λ x. x < 2) choices

of_option : (o : Option ℕ) → ChoiceFits o → AreChoices (choice_list o)
of_option None h = tt
of_option (Some x) h = (h, tt)

edge_at : (P : Edge → Type 0) (edges : List Edge) (c : ℕ) (e : Edge) → Every P edges → slice_get edges c ≡ Some e → P e
edge_at P [] c e all is = cc
edge_at P (d ∷ ds) zero e all is = subst P (some_same d e is) all.0
edge_at P (d ∷ ds) (suc c) e all is = edge_at P ds c e all.1 is

module _ (T : Boxes) (g : ControlGraph) (k : ℕ) (nodes : List Node) (fit : Every (IsEdgeOf g) g.edges)
    (x : Exploration T g k nodes) where
  of_edge : (c : ℕ) (e : Edge) → IsEdge g c e → AreChoices (choice_list e.choice)
  of_edge c e is = of_option e.choice (edge_at (IsEdgeOf g) g.edges c e fit is).fits.choice

  no_parent : (n : Node) (p : ℕ) → n.head.parent ≡ None → n.head.parent ≡ Some p → ⊥
  no_parent n p h i = cc

  first_has_none : (n : Node) (p : ℕ) → IsNode nodes 0 n → n.head.parent ≡ Some p → ⊥
  first_has_none n p is par =
      no_parent n p
      (subst (λ z. z.head.parent ≡ None) (one_node nodes 0 x.first.node n x.first.is is) x.first.no_parent) par

  follow_of : (j p : ℕ) (n : Node) → IsNode nodes j n → n.head.parent ≡ Some p → FollowsEarlier T g k nodes j n
  follow_of zero p n is par = absurd (first_has_none n p is par)
  follow_of (suc j) p n is par = x.follow (suc j) n (omega arith) is

  way_choices : (at : ℕ) (way choices : List ℕ) → IsWay nodes at way choices → AreChoices choices
  way_choices at way choices begins = tt
  way_choices at way choices
      (goes {p = p} {way = before} {choices = first} n more used earlier is par more_is used_is) =
      let f = follow_of at p n is par in
      let own : AreChoices (choice_list n.head.choice) =
      subst (λ o. AreChoices (choice_list o)) (sym f.follows.choice) (of_edge f.number f.edge f.is_edge) in
      subst AreChoices (sym used_is)
      (every_both (λ c. c < 2) first (choice_list n.head.choice) (way_choices p before first earlier) own)

pub trace_choices : (T : Boxes) (g : ControlGraph) (k : ℕ) (nodes : List Node) (tr : AbsTrace)
    → Every (IsEdgeOf g) g.edges → Exploration T g k nodes
    → AbstractTrace T g nodes tr → AreChoices tr.choices
trace_choices T g k nodes tr fit x a =
    subst AreChoices (sym a.all_choices) (every_both (λ c. c < 2) a.choices (choice_list a.edge.choice)
    (way_choices T g k nodes fit x a.at tr.nodes a.choices a.way) (of_edge T g k nodes fit x tr.edge a.edge a.is_edge))
