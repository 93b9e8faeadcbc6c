-- Box edges stand at their cells whatever the leaves of a dressed forest are, and whatever its roots are.
use Rattle.std.proofs.Common.{◌≡◌, ◌⊎◌, ◌∙◌, inl, inr, ℕ, zero, suc, List, [], ◌∷◌, ◌++◌, refl, sym, ap, subst}
use Rattle.std.proofs.lemmas.Option.{same_Some}
use Rattle.fore_base.specs.Lists.{IsIn}
use Rattle.fore_base.specs.declared.store.Value.{Value}
use Rattle.fore_base.specs.declared.store.Value.TheVariants.{Cell}
use Rattle.fore_base.proofs.ListLemmas.{in_left, in_right, in_append}
use Rattle.fa_core.specs.declared.forest.Target.{Target}
use Rattle.fa_core.specs.declared.forest.Target.TheVariants.{At}
use Rattle.fa_core.specs.Dressed.{Node, Parts, End, Nodes, node, no_parts, field, link, hook, under, leaf, no_nodes}
use Rattle.fa_core.specs.Dressed.{more}
use Rattle.fa_core.specs.Dressed.{Fact, Head, tree_facts, slot_facts, end_facts, forest_facts, facts, end_value}
use Rattle.fa_core.specs.Dressed.{with_ports, roots_of}
use Rattle.fa_core.specs.Dressed.{Seen, SeenLink, SeenHook, SeenCell, seen, tree_cells, below, end_cells}
use Rattle.fa_core.specs.Dressed.{forest_cells, cells}
use Rattle.fa_core.specs.Placed.{placed, placed_parts, placed_end, placed_all}
use Rattle.fa_merge.specs.Dropped.{AreLeaves, IsFlatRoot, drop_leaf, dropped, without_node}
use Rattle.fa_split.specs.Split.{with_last}
use Rattle.sym_core.specs.Kept.{HasBoxEdge, IsEdgeOf}
use Rattle.sym_transfer.proofs.LastTrees.{every_stays}
use Rattle.sym_transfer.proofs.LeafEdges.{HasEdge}

-- Among more cells.

pub edge_first : (xs ys : List SeenCell) (m b : ℕ) → HasBoxEdge xs m b → HasBoxEdge (xs ++ ys) m b
edge_first xs ys m b (c, i, q, x) = (c, in_left c xs ys i, q, x)

pub edge_later : (xs ys : List SeenCell) (m b : ℕ) → HasBoxEdge ys m b → HasBoxEdge (xs ++ ys) m b
edge_later xs ys m b (c, i, q, x) = (c, in_right c xs ys i, q, x)

edge_parts : (xs ys : List SeenCell) (m b : ℕ) → HasBoxEdge (xs ++ ys) m b → HasBoxEdge xs m b ⊎ HasBoxEdge ys m b
edge_parts xs ys m b (c, i, q, x) = elim (in_append c xs ys i) [ inl j ↦ inl (c, j, q, x) | inr j ↦ inr (c, j, q, x) ]

-- Other leaves, and other values of the roots.

module _ (f : ℕ → Target) (vs ws : List Value) where
  slots_kept : (b : ℕ) (ps : Parts) → HasEdge b (seen vs ps) → HasEdge b (seen ws (placed_parts f ps))
  slots_kept b no_parts h = h
  slots_kept b (field g e ps) (x, inl p, i) = absurd (subst (λ (y : Seen). IsEdgeOf b y) p i)
  slots_kept b (field g e ps) (x, inr p, i) = let k = slots_kept b ps (x, p, i) in (k.0, inr k.1, k.2)
  slots_kept b (link a inside e ps) (x, inl p, i) =
      (SeenLink a inside (end_value ws (placed_end f e)), inl refl, subst (λ (y : Seen). IsEdgeOf b y) p i)
  slots_kept b (link a inside e ps) (x, inr p, i) = let k = slots_kept b ps (x, p, i) in (k.0, inr k.1, k.2)
  slots_kept b (hook a inside ps) (x, inl p, i) =
      (SeenHook a inside, inl refl, subst (λ (y : Seen). IsEdgeOf b y) p i)
  slots_kept b (hook a inside ps) (x, inr p, i) = let k = slots_kept b ps (x, p, i) in (k.0, inr k.1, k.2)

  module _ (m b : ℕ) where
    both_kept : (xs ys us zs : List SeenCell) → (HasBoxEdge xs m b → HasBoxEdge us m b)
        → (HasBoxEdge ys m b → HasBoxEdge zs m b) → HasBoxEdge (xs ++ ys) m b → HasBoxEdge (us ++ zs) m b
    both_kept xs ys us zs p q h = elim (edge_parts xs ys m b h) [
      | inl k ↦ edge_first us zs m b (p k)
      | inr k ↦ edge_later us zs m b (q k)
    ]

    mutual
      tree_kept : (n : Node) → HasBoxEdge (tree_cells vs n) m b → HasBoxEdge (tree_cells ws (placed f n)) m b
      tree_kept (node c s ds ps) (k, inl p, q, i) = (
        record { cell = c; shape = s; datums = ds; slots = seen ws (placed_parts f ps) },
        inl refl,
        ap (λ (y : SeenCell). y.cell) (sym p) ∙ q,
        slots_kept b ps (subst (λ (y : SeenCell). HasEdge b y.slots) p i),
      )
      tree_kept (node c s ds ps) (k, inr p, q, i) =
          let z = below_kept ps (k, p, q, i) in (z.0, inr z.1, z.2, z.3)

      below_kept : (ps : Parts) → HasBoxEdge (below vs ps) m b → HasBoxEdge (below ws (placed_parts f ps)) m b
      below_kept no_parts h = h
      below_kept (field g e ps) h =
          both_kept (end_cells vs e) (below vs ps) (end_cells ws (placed_end f e)) (below ws (placed_parts f ps))
          (end_kept e) (below_kept ps) h
      below_kept (link a inside e ps) h =
          both_kept (end_cells vs e) (below vs ps) (end_cells ws (placed_end f e)) (below ws (placed_parts f ps))
          (end_kept e) (below_kept ps) h
      below_kept (hook a inside ps) h = below_kept ps h

      end_kept : (e : End) → HasBoxEdge (end_cells vs e) m b → HasBoxEdge (end_cells ws (placed_end f e)) m b
      end_kept (under n) h = tree_kept n h
      end_kept (leaf t) (k, p, q, i) = absurd p

    pub forest_kept : (d : Nodes) → HasBoxEdge (forest_cells vs d) m b
        → HasBoxEdge (forest_cells ws (placed_all f d)) m b
    forest_kept no_nodes h = h
    forest_kept (more n ns) h =
        both_kept (tree_cells vs n) (forest_cells vs ns) (tree_cells ws (placed f n))
        (forest_cells ws (placed_all f ns))
        (tree_kept n) (forest_kept ns) h

-- One more tree, as the last.

last_cells : (vs : List Value) (d : Nodes) (n : Node) (m b : ℕ) → HasBoxEdge (forest_cells vs d) m b
    → HasBoxEdge (forest_cells vs (with_last d n)) m b
last_cells vs no_nodes n m b (k, p, q, i) = absurd p
last_cells vs (more x ns) n m b h = elim (edge_parts (tree_cells vs x) (forest_cells vs ns) m b h) [
  | inl k ↦ edge_first (tree_cells vs x) (forest_cells vs (with_last ns n)) m b k
  | inr k ↦ edge_later (tree_cells vs x) (forest_cells vs (with_last ns n)) m b (last_cells vs ns n m b k)
]

-- each box edge stands where one more tree is the last
pub edges_grown : (d : Nodes) (n : Node) (m b : ℕ) → HasBoxEdge (cells d) m b → HasBoxEdge (cells (with_last d n)) m b
edges_grown d n m b h =
    let ws : List Value = roots_of (with_last d n) in
    last_cells ws d n m b
    (subst (λ (z : Nodes). HasBoxEdge (forest_cells ws z) m b) (every_stays d)
    (forest_kept (λ k. At k) (roots_of d) ws m b d h))

-- A root that is dropped.

no_cells_below : (vs : List Value) (ps : Parts) → AreLeaves ps → below vs ps ≡ []
no_cells_below vs no_parts h = refl
no_cells_below vs (field f (leaf t) ps) h = no_cells_below vs ps h
no_cells_below vs (field f (under n) ps) h = absurd h
no_cells_below vs (link b inside e ps) h = absurd h
no_cells_below vs (hook b inside ps) h = absurd h

-- where fields alone stand at the root, each other cell is in another tree
other_tree : (vs : List Value) (d : Nodes) (r c : ℕ) → IsFlatRoot d r c → (k : SeenCell) → IsIn k (forest_cells vs d)
    → (k.cell ≡ c → ⊥) → IsIn k (forest_cells vs (without_node r d))
other_tree vs no_nodes r c (s, ds, ps, e, l) k i ne = absurd i
other_tree vs (more n ns) zero c (s, ds, ps, e, l) k i ne =
    here (subst (λ (z : Node). IsIn k (tree_cells vs z ++ forest_cells vs ns)) (same_Some n (node c s ds ps) e) i)
  where
    here : IsIn k (tree_cells vs (node c s ds ps) ++ forest_cells vs ns) → IsIn k (forest_cells vs ns)
    here (inl q) = absurd (ne (ap (λ (z : SeenCell). z.cell) q))
    here (inr j) = subst (λ (z : List SeenCell). IsIn k (z ++ forest_cells vs ns)) (no_cells_below vs ps l) j
other_tree vs (more n ns) (suc r) c h k i ne =
    here (in_append k (tree_cells vs n) (forest_cells vs ns) i) (λ j. other_tree vs ns r c h k j ne)
  where
    here : IsIn k (tree_cells vs n) ⊎ IsIn k (forest_cells vs ns)
        → (IsIn k (forest_cells vs ns) → IsIn k (forest_cells vs (without_node r ns)))
        → IsIn k (tree_cells vs n ++ forest_cells vs (without_node r ns))
    here (inl j) rest = in_left k (tree_cells vs n) (forest_cells vs (without_node r ns)) j
    here (inr j) rest = in_right k (tree_cells vs n) (forest_cells vs (without_node r ns)) (rest j)

-- each box edge at another cell stands where the root is dropped
pub edges_dropped : (d : Nodes) (r c : ℕ) → IsFlatRoot d r c → (k : SeenCell) → IsIn k (cells d) → (k.cell ≡ c → ⊥)
    → (b : ℕ) → HasEdge b k.slots → HasBoxEdge (cells (dropped r d)) k.cell b
edges_dropped d r c flat k i ne b x =
    forest_kept (drop_leaf r) (roots_of d) (roots_of (dropped r d)) k.cell b (without_node r d)
    (k, other_tree (roots_of d) d r c flat k i ne, refl, x)

-- Cells have heads.

module _ (vs : List Value) (k : SeenCell) where
  abbrev HeadIn : List Fact → Type 0
  HeadIn fs = IsIn (Head k.cell k.shape k.datums) fs

  both_headed : (xs ys : List SeenCell) (us ws : List Fact) → (IsIn k xs → HeadIn us) → (IsIn k ys → HeadIn ws)
      → IsIn k (xs ++ ys) → HeadIn (us ++ ws)
  both_headed xs ys us ws p q i = elim (in_append k xs ys i) [
    | inl j ↦ in_left (Head k.cell k.shape k.datums) us ws (p j)
    | inr j ↦ in_right (Head k.cell k.shape k.datums) us ws (q j)
  ]

  mutual
    tree_headed : (n : Node) → IsIn k (tree_cells vs n) → HeadIn (tree_facts vs n)
    tree_headed (node c s ds ps) (inl e) = inl (ap (λ (z : SeenCell). Head z.cell z.shape z.datums) e)
    tree_headed (node c s ds ps) (inr i) = inr (slots_headed c ps i)

    slots_headed : (c : ℕ) (ps : Parts) → IsIn k (below vs ps) → HeadIn (slot_facts vs c ps)
    slots_headed c no_parts i = absurd i
    slots_headed c (field f e ps) i =
        inr
        (both_headed (end_cells vs e) (below vs ps) (end_facts vs e) (slot_facts vs c ps) (end_headed e)
        (slots_headed c ps) i)
    slots_headed c (link b inside e ps) i =
        in_right (Head k.cell k.shape k.datums)
        (forest_facts (with_ports (Cell c ∷ (end_value vs e ∷ [])) inside) (Cell c ∷ (end_value vs e ∷ [])) inside)
        (end_facts vs e ++ slot_facts vs c ps)
        (both_headed (end_cells vs e) (below vs ps) (end_facts vs e) (slot_facts vs c ps) (end_headed e)
        (slots_headed c ps) i)
    slots_headed c (hook b inside ps) i =
        in_right (Head k.cell k.shape k.datums)
        (forest_facts (with_ports (Cell c ∷ []) inside) (Cell c ∷ []) inside) (slot_facts vs c ps) (slots_headed c ps i)

    end_headed : (e : End) → IsIn k (end_cells vs e) → HeadIn (end_facts vs e)
    end_headed (under n) i = tree_headed n i
    end_headed (leaf t) i = absurd i

  forest_headed : (d : Nodes) → IsIn k (forest_cells vs d) → HeadIn (forest_facts vs [] d)
  forest_headed no_nodes i = absurd i
  forest_headed (more n ns) i =
      both_headed (tree_cells vs n) (forest_cells vs ns) (tree_facts vs n) (forest_facts vs [] ns) (tree_headed n)
      (forest_headed ns) i

-- the head of a cell is among the facts
pub cell_headed : (d : Nodes) (k : SeenCell) → IsIn k (cells d) → IsIn (Head k.cell k.shape k.datums) (facts d)
cell_headed d k i = forest_headed (roots_of d) k d i
