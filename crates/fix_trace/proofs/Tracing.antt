-- The way to a node, found from its end.
use Rattle.std.proofs.Common.{◌≡◌, ℕ, suc, zero, ◌+◌, ◌<◌, ◌≤◌, List, [], ◌∷◌, ◌++◌, length, Option, Some, None, refl}
use Rattle.std.proofs.Common.{sym, ap, ◌∙◌, subst, arith}
use Rattle.fix_core.specs.declared.nodes.Node.{Node}
use Rattle.fix_core.specs.declared.nodes.NodeHead.{NodeHead}
use Rattle.c_cfg.specs.Fans.{choice_list}
use Rattle.c_cfg.specs.Graphs.{ControlGraph}
use Rattle.fa_core.specs.Boxes.{Boxes}
use Rattle.fix_core.specs.Explorations.{IsNode, IsWay, begins, goes, Exploration}
use Rattle.fix_core.proofs.Numbered.{one_node}
use Rattle.fix_trace.specs.Tracing.{HasWays, LeadsBack, IsOnWay}
use Rattle.fix_core.proofs.Lists.{some_same, length_push}

pub back_push : (nodes : List Node) (xs : List ℕ) (here at q : ℕ) (n : Node) → LeadsBack nodes xs here at
    → IsNode nodes here n → n.head.parent ≡ Some q → LeadsBack nodes (xs ++ here ∷ []) q at
back_push nodes [] here at q n l is par = (l, (n, q, is, par, refl))
back_push nodes (x ∷ xs) here at q n l is par =
    (l.0, (l.1.0, l.1.1, l.1.2, l.1.3, back_push nodes xs here l.1.1 q n l.1.4 is par))

pub record Popped (nodes : List Node) (xs : List ℕ) (y p at : ℕ) : Type 0 where
  pub node : Node
  pub is : IsNode nodes y node
  pub parent : node.head.parent ≡ Some p
  pub left : LeadsBack nodes xs y at

pub back_pop : (nodes : List Node) (xs : List ℕ) (y p at : ℕ) → LeadsBack nodes (xs ++ y ∷ []) p at
    → Popped nodes xs y p at
back_pop nodes [] y p at l = record { node = l.1.0; is = l.1.2; parent = l.1.3 ∙ ap Some (sym l.1.4); left = l.0 }
back_pop nodes (x ∷ xs) y p at l =
    let r = back_pop nodes xs y p l.1.1 l.1.4 in
    record { node = r.node; is = r.is; parent = r.parent; left = (l.0, (l.1.0, l.1.1, l.1.2, l.1.3, r.left)) }

none_some : {X : Type 0} (x : X) (o : Option X) → o ≡ None → o ≡ Some x → ⊥
none_some x o h i = cc

-- the way back ends at node 0
pub back_ends : (nodes : List Node) (here : ℕ) (n : Node) → HasWays nodes → IsNode nodes here n → n.head.parent ≡ None
    → here ≡ 0
back_ends nodes zero n w is none = refl
back_ends nodes (suc j) n w is none = let h = w.each (suc j) n (omega arith) is in
    absurd (none_some h.parent n.head.parent none h.is)

pub parent_earlier : (nodes : List Node) (here p : ℕ) (n : Node) → HasWays nodes → IsNode nodes here n
    → n.head.parent ≡ Some p → p < here
parent_earlier nodes zero p n w is some = absurd (none_some p n.head.parent (w.none n is) some)
parent_earlier nodes (suc j) p n w is some =
    let h = w.each (suc j) n (omega arith) is in
    subst (λ z. z < suc j) (some_same h.parent p (sym h.is ∙ some)) h.earlier

pub way_next : (nodes : List Node) (back rest : List ℕ) (next at : ℕ) (way choices used : List ℕ) (n : Node)
    → IsOnWay nodes back at way choices → back ≡ rest ++ next ∷ [] → IsNode nodes next n
    → used ≡ choices ++ choice_list n.head.choice
    → IsOnWay nodes rest at (way ++ next ∷ []) used
way_next nodes back rest next at way choices used n w split is same =
    let r = back_pop nodes rest next w.here at (subst (λ z. LeadsBack nodes z w.here at) split w.left) in
    let one : r.node ≡ n = some_same r.node n (sym r.is ∙ is) in
    record {
      here = next;
      left = r.left;
      way_here = goes n (way ++ next ∷ []) used w.way_here is (subst (λ z. z.head.parent ≡ Some w.here) one r.parent)
          refl same;
    }

pub next_inside : (nodes : List Node) (back rest : List ℕ) (next at : ℕ) (way choices : List ℕ)
    → IsOnWay nodes back at way choices → back ≡ rest ++ next ∷ [] → (n : Node) × IsNode nodes next n
next_inside nodes back rest next at way choices w split =
    let r = back_pop nodes rest next w.here at (subst (λ z. LeadsBack nodes z w.here at) split w.left) in (r.node, r.is)

-- the head that the code reads is the node's
pub head_has : {X : Type 0} (head : NodeHead) (n : Node) (f : NodeHead → Option X) (o : Option X) → head ≡ n.head
    → f head ≡ o → f n.head ≡ o
head_has head n f o same is = ap f (sym same) ∙ is

pub way_starts : (nodes : List Node) (back : List ℕ) (at : ℕ) (way choices : List ℕ) → LeadsBack nodes back 0 at
    → way ≡ 0 ∷ [] → choices ≡ [] → IsOnWay nodes back at way choices
way_starts nodes back at way choices l is none = record { here = 0; way_here = rw (is, none) begins; left = l }

-- a way has at most one node for each number up to its last
pub way_short : (nodes : List Node) (at : ℕ) (way used : List ℕ) → HasWays nodes → IsWay nodes at way used
    → length way ≤ at + 1
way_short nodes at way used w begins = omega arith
way_short nodes at way used w
    (goes {p = p} {way = before} {choices = first} n more all earlier is par more_is used_is) =
    omega (
      arith,
      way_short nodes p before first w earlier,
      parent_earlier nodes at p n w is par,
      ap length more_is
          ∙ length_push before at,
    )

-- the nodes of an exploration have ways
pub has_ways : (T : Boxes) (g : ControlGraph) (k : ℕ) (nodes : List Node) → Exploration T g k nodes → HasWays nodes
has_ways T g k nodes x = record {
  none = λ n is. subst (λ z. z.head.parent ≡ None) (one_node nodes 0 x.first.node n x.first.is is) x.first.no_parent;
  each = λ j n pos is. let f = x.follow j n pos is in
      record { parent = f.at; is = f.follows.child.parent; earlier = f.earlier };
}
