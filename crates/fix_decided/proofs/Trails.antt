-- The edges by which a node was reached from node 0.
use Rattle.std.proofs.Common.{◌≡◌, ◌<◌, ℕ, zero, suc, List, [], ◌∷◌, ◌++◌, length, nat_eq, Bool, true, false}
use Rattle.std.proofs.Common.{if◌then◌else◌, inl, inr, refl, sym, ap, ◌∙◌, subst, arith}
use Rattle.std.proofs.lemmas.Bool.{eq-eqb}
use Rattle.fore_base.specs.Lists.{IsIn}
use Rattle.c_cfg.specs.declared.graph.Edge.{Edge}
use Rattle.c_cfg.specs.Graphs.{ControlGraph}
use Rattle.c_cfg.specs.GraphRuns.{out_of}
use Rattle.c_prefixes.specs.Prefixes.{IsPathFrom, IsPrefix}
use Rattle.fa_core.specs.Boxes.{Boxes}
use Rattle.fix_core.specs.declared.nodes.Node.{Node}
use Rattle.fix_core.specs.Explorations.{IsNode, FollowsEarlier, Exploration}
use Rattle.fix_core.proofs.Lists.{at_within, in_at}
use Rattle.fix_core.proofs.Numbered.{one_node}

-- Paths with one edge more.

-- where a path from location k ends
abbrev pub end_of : ℕ → List Edge → ℕ
end_of k [] = k
end_of k (e ∷ es) = end_of e.to es

pub end_push : (k : ℕ) (es : List Edge) (e : Edge) → end_of k (es ++ e ∷ []) ≡ e.to
end_push k [] e = refl
end_push k (d ∷ es) e = end_push d.to es e

-- an edge of the list begins at its location
in_out : (edges : List Edge) (e : Edge) (k : ℕ) → IsIn e edges → e.from ≡ k → IsIn e (out_of edges k)
in_out [] e k h is = h
in_out (d ∷ ds) e k h is = here (nat_eq d.from k) refl h (λ i. in_out ds e k i is)
  where
    differ : false ≡ true → ⊥
    differ h = cc

    here : (b : Bool) → nat_eq d.from k ≡ b → IsIn e (d ∷ ds) → (IsIn e ds → IsIn e (out_of ds k))
        → IsIn e (if b then d ∷ out_of ds k else out_of ds k)
    here true t (inl same) rest = inl same
    here true t (inr i) rest = inr (rest i)
    here false t (inl same) rest = absurd (differ (sym t ∙ eq-eqb d.from k (ap (λ (z : Edge). z.from) (sym same) ∙ is)))
    here false t (inr i) rest = rest i

path_push : (edges : List Edge) (k : ℕ) (es : List Edge) (e : Edge) → IsPathFrom edges k es
    → IsIn e (out_of edges (end_of k es)) → IsPathFrom edges k (es ++ e ∷ [])
path_push edges k [] e p i = (i, tt)
path_push edges k (d ∷ es) e p i = (p.0, path_push edges d.to es e p.1 i)

push_apart : {X : Type 0} (xs : List X) (x : X) → [] ≡ xs ++ x ∷ [] → ⊥
push_apart [] x h = cc
push_apart (y ∷ ys) x h = cc

tails_same : {X : Type 0} (x y : X) (xs ys : List X) → x ∷ xs ≡ y ∷ ys → (x ≡ y) × (xs ≡ ys)
tails_same x y xs ys h = (cc, cc)

-- of two equal lists with one item at the end, the items are equal, and so are the lists
pub push_same : {X : Type 0} (xs ys : List X) (x y : X) → xs ++ x ∷ [] ≡ ys ++ y ∷ [] → (xs ≡ ys) × (x ≡ y)
push_same [] [] x y h = (refl, (tails_same x y [] [] h).0)
push_same [] (z ∷ ys) x y h = absurd (push_apart ys y (tails_same x z [] (ys ++ y ∷ []) h).1)
push_same (w ∷ xs) [] x y h = absurd (push_apart xs x (sym (tails_same w y (xs ++ x ∷ []) [] h).1))
push_same (w ∷ xs) (z ∷ ys) x y h =
    let t = tails_same w z (xs ++ x ∷ []) (ys ++ y ∷ []) h in
    let k = push_same xs ys x y t.1 in (
      subst (λ (v : _). w ∷ xs ≡ v ∷ ys) t.0 (ap (λ (vs : List _). w ∷ vs) k.0),
      k.1,
    )

-- Trails.

module _ (T : Boxes) (g : ControlGraph) (k : ℕ) (nodes : List Node) where
  -- node j was reached by these edges
  pub data IsTrail : ℕ → List Edge → Type 0 where
    begins : IsTrail 0 []
    goes : {j : ℕ} (n : Node) (es more : List Edge) (f : FollowsEarlier T g k nodes j n) → IsNode nodes j n
        → IsTrail f.at es → more ≡ es ++ f.edge ∷ [] → IsTrail j more

  module _ (explored : Exploration T g k nodes) where
    trail_within : (limit j : ℕ) → j < limit → j < length nodes → (es : List Edge) × IsTrail j es
    trail_within zero j h within = absurd (omega (arith, h))
    trail_within (suc limit) zero h within = ([], begins)
    trail_within (suc limit) (suc j) h within =
        let n = at_within nodes (suc j) within in
        let f = explored.follow (suc j) n.0 (omega arith) n.1 in
        let early = f.earlier in
        let t = trail_within limit f.at (omega (arith, early, h)) (omega (arith, early, within)) in
        (t.0 ++ f.edge ∷ [], goes n.0 t.0 (t.0 ++ f.edge ∷ []) f n.1 t.1 refl)

    -- each node has a trail
    pub trail_to : (j : ℕ) → j < length nodes → (es : List Edge) × IsTrail j es
    trail_to j within = trail_within (suc j) j (omega arith) within

    -- it ends at the node's location
    pub trail_ends : (j : ℕ) (es : List Edge) (n : Node) → IsTrail j es → IsNode nodes j n
        → n.head.location ≡ end_of 0 es
    trail_ends j es n begins is =
        ap (λ (z : Node). z.head.location) (one_node nodes 0 n explored.first.node is explored.first.is)
        ∙ explored.first.entry
    trail_ends j es n (goes m before more f m_is t is_more) is =
        ap (λ (z : Node). z.head.location) (one_node nodes j n m is m_is) ∙ f.follows.to
        ∙ sym (end_push 0 before f.edge) ∙ ap (end_of 0) (sym is_more)

    -- it is a prefix of the graph
    pub trail_prefix : (j : ℕ) (es : List Edge) → IsTrail j es → IsPrefix g es
    trail_prefix j es begins = tt
    trail_prefix j es (goes m before more f m_is t is_more) =
        subst (IsPrefix g) (sym is_more)
        (path_push g.edges 0 before f.edge (trail_prefix f.at before t)
        (in_out g.edges f.edge (end_of 0 before) (in_at g.edges f.number f.edge f.is_edge)
        (sym f.follows.from ∙ trail_ends f.at before f.parent t f.is)))
