-- Where the ways of a tree to a root give it a field, the tree has an edge that gives it.
use Rattle.std.proofs.Common.{◌≡◌, ◌⊎◌, inl, inr, ℕ, Bool, true, false, nat_eq, if◌then◌else◌, List, [], ◌∷◌, ◌++◌}
use Rattle.std.proofs.Common.{flat_map, refl, sym, ap, subst, ◌∙◌}
use Rattle.std.proofs.lemmas.Bool.{eqb-true}
use Rattle.fore_base.specs.Lists.{IsIn}
use Rattle.fore_base.proofs.ListLemmas.{in_append}
use Rattle.ta_core.specs.declared.symbol.Slot.{Slot}
use Rattle.ta_core.specs.declared.symbol.Slot.TheVariants.{Field, Link}
use Rattle.ta_core.specs.declared.tree.Tree.{Tree}
use Rattle.fa_core.specs.declared.faces.BoxFace.{BoxFace}
use Rattle.fa_core.specs.declared.forest.Target.{Target}
use Rattle.fa_core.specs.declared.forest.Target.TheVariants.{Null, Uninit, Dangling, At}
use Rattle.fa_core.specs.Cells.{edges, is_leaf}
use Rattle.fa_core.specs.Dressed.{Node, Parts, End, node, no_parts, field, link, hook, under, leaf}
use Rattle.fa_core.specs.Member.{bare, bare_parts, bare_end, slots_of, leaf_symbol}
use Rattle.fa_core.specs.Ways.{Way, Step, ways, longer, given, gives_out_of, has}
use Rattle.fa_core.proofs.CellMarks.{given_through}
use Rattle.fa_core.proofs.Dressing.{cell_top}
use Rattle.fa_core.proofs.WayParts.{collect, edge_ways, pair_roots, collect_edges, cell_ways, HaveEdges, branch_ways}
use Rattle.fa_core.proofs.WaysOf.{rolled_ways}
use Rattle.fa_lift.specs.Lift.{fields_given}
use Rattle.fa_back.proofs.RootMarks.{in_has}

abbrev mutual
  -- some edge of the tree ends at a leaf that refers to root r, and gives it field f
  pub HasEdge : List BoxFace → ℕ → ℕ → Node → Type 0
  HasEdge bs f r (node c s ds ps) = HasEdgeIn bs f r ps

  pub HasEdgeIn : List BoxFace → ℕ → ℕ → Parts → Type 0
  HasEdgeIn bs f r no_parts = ⊥
  HasEdgeIn bs f r (field g e ps) = HasEdgeAt bs f r e ⊎ HasEdgeIn bs f r ps
  HasEdgeIn bs f r (link b i e ps) = ((e ≡ leaf (At r)) × (has f (gives_out_of bs b) ≡ true))
      ⊎ (HasEdgeAt bs f r e ⊎ HasEdgeIn bs f r ps)
  HasEdgeIn bs f r (hook b i ps) = HasEdgeIn bs f r ps

  pub HasEdgeAt : List BoxFace → ℕ → ℕ → End → Type 0
  HasEdgeAt bs f r (under n) = HasEdge bs f r n
  HasEdgeAt bs f r (leaf t) = ⊥

node_edges : (w : Node) → HaveEdges (ways (bare w))
node_edges (node c s ds ps) = branch_ways (bare (node c s ds ps)) (ap is_leaf (cell_top c s ds ps))

abbrev step : Slot → List ℕ → Step
step s rs = record { slot = s; refers = rs }

module _ (bs : List BoxFace) (f r : ℕ) where
  -- what the edge at the top of a child's ways and those below it give
  abbrev Below : Slot → List ℕ → Tree → List ℕ
  Below s rs t = collect (λ w. given bs (longer rs (s, w)).steps) r (ways t)

  leaf_gives : (s : Slot) (rs : List ℕ) (t : Target) → IsIn f (Below s rs (bare_end (leaf t)))
      → (t ≡ At r) × IsIn f (given bs (step s rs ∷ []))
  leaf_gives s rs Null h =
      let z : IsIn f [] = rw (rolled_ways (record { symbol = leaf_symbol Null; children = [] })) at h in absurd z
  leaf_gives s rs Uninit h =
      let z : IsIn f [] = rw (rolled_ways (record { symbol = leaf_symbol Uninit; children = [] })) at h in absurd z
  leaf_gives s rs Dangling h =
      let z : IsIn f [] = rw (rolled_ways (record { symbol = leaf_symbol Dangling; children = [] })) at h in absurd z
  leaf_gives s rs (At k) h =
      let w : Way = record { root = k; steps = [] } in
      let z : IsIn f (collect (λ w. given bs (longer rs (s, w)).steps) r (w ∷ [])) =
      subst (λ (x : List Way). IsIn f (collect (λ w. given bs (longer rs (s, w)).steps) r x))
      (rolled_ways (record { symbol = leaf_symbol (At k); children = [] })) h in
      here (nat_eq r k) refl z
    where
      only : (xs : List ℕ) → IsIn f (xs ++ []) → IsIn f xs
      only xs h = elim (in_append f xs [] h) [ inl i ↦ i | inr i ↦ absurd i ]

      here : (b : Bool) → nat_eq r k ≡ b
          → IsIn f (flat_map (λ (w : Way). given bs (longer rs (s, w)).steps)
          (if b then (record { root = k; steps = [] }) ∷ [] else []))
          → (At k ≡ At r) × IsIn f (given bs (step s rs ∷ []))
      here true e i = (ap At (sym (eqb-true r k e)), only (given bs (step s rs ∷ [])) i)
      here false e i = absurd i

  mutual
    pub edge_of : (w : Node) → IsIn f (fields_given bs r (bare w)) → HasEdge bs f r w
    edge_of (node c s ds ps) h =
        let es = edges (slots_of ps) (bare_parts ps) in
        let rs = pair_roots (edge_ways es) in
        edge_in rs ps
        (subst (λ (x : List ℕ). IsIn f x)
        (ap (λ (ws : List Way). collect (λ w. given bs w.steps) r ws) (cell_ways s ds (slots_of ps) (bare_parts ps))
        ∙ collect_edges (λ w. given bs w.steps) r rs es)
        h)

    edge_in : (rs : List ℕ) (ps : Parts)
        → IsIn f (flat_map (λ (e : Slot × Tree). Below e.0 rs e.1) (edges (slots_of ps) (bare_parts ps)))
        → HasEdgeIn bs f r ps
    edge_in rs no_parts h = absurd h
    edge_in rs (field g e ps) h = elim
        (in_append f (Below (Field g) rs (bare_end e))
        (flat_map (λ (x : Slot × Tree). Below x.0 rs x.1) (edges (slots_of ps) (bare_parts ps))) h) [
          | inl i ↦ inl (edge_field g rs e i)
          | inr i ↦ inr (edge_in rs ps i)
        ]
    edge_in rs (link b n e ps) h = elim
        (in_append f (Below (Link b) rs (bare_end e))
        (flat_map (λ (x : Slot × Tree). Below x.0 rs x.1) (edges (slots_of ps) (bare_parts ps))) h) [
          | inl i ↦ (elim (edge_link b rs e i) [ inl k ↦ inl k | inr k ↦ inr (inl k) ])
          | inr i ↦ inr (inr (edge_in rs ps i))
        ]
    edge_in rs (hook b n ps) h = edge_in rs ps h

    edge_field : (g : ℕ) (rs : List ℕ) (e : End) → IsIn f (Below (Field g) rs (bare_end e)) → HasEdgeAt bs f r e
    edge_field g rs (leaf t) h = absurd (leaf_gives (Field g) rs t h).1
    edge_field g rs (under w) h =
        edge_of w
        (subst (λ (x : List ℕ). IsIn f x) (given_through bs r rs (Field g) (ways (bare w)) (node_edges w)) h)

    edge_link : (b : ℕ) (rs : List ℕ) (e : End) → IsIn f (Below (Link b) rs (bare_end e))
        → ((e ≡ leaf (At r)) × (has f (gives_out_of bs b) ≡ true)) ⊎ HasEdgeAt bs f r e
    edge_link b rs (leaf t) h =
        let k = leaf_gives (Link b) rs t h in
        inl (ap leaf k.0, in_has f (gives_out_of bs b) k.1)
    edge_link b rs (under w) h =
        inr
        (edge_of w
        (subst (λ (x : List ℕ). IsIn f x) (given_through bs r rs (Link b) (ways (bare w)) (node_edges w)) h))
