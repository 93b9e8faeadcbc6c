-- Box edges stay where another leaf stands in a field of a root.
use Rattle.std.proofs.Common.{◌≡◌, ◌⊎◌, inl, inr, ℕ, zero, suc, Bool, true, false, nat_eq, if◌then◌else◌, List, ◌∷◌}
use Rattle.std.proofs.Common.{◌++◌, Some, refl, sym, ap, subst, ◌∙◌}
use Rattle.std.proofs.lemmas.Option.{same_Some}
use Rattle.fore_base.specs.Lists.{IsIn}
use Rattle.fore_base.specs.declared.store.Value.{Value}
use Rattle.fore_base.proofs.ListLemmas.{in_left, in_right, in_append}
use Rattle.fa_core.specs.declared.forest.Target.{Target}
use Rattle.fa_core.specs.Dressed.{Node, Parts, End, Nodes, node, no_parts, field, link, hook, leaf, no_nodes, more}
use Rattle.fa_core.specs.Dressed.{end_value, roots_of, Seen, SeenField, SeenLink, SeenHook, SeenCell, seen, cells}
use Rattle.fa_core.specs.Dressed.{tree_cells, below, end_cells, forest_cells}
use Rattle.fa_split.specs.Split.{top_parts}
use Rattle.fa_edit.specs.Leaves.{end_of_field, put_leaf, HasLeaf, leaf_put}
use Rattle.sym_core.specs.Kept.{HasBoxEdge, IsEdgeOf}
use Rattle.sym_transfer.proofs.LeafPut.{roots_kept}

-- an edge of box b is among the slots
abbrev pub HasEdge : ℕ → List Seen → Type 0
HasEdge b xs = (x : Seen) × IsIn x xs × IsEdgeOf b x

edge_later : (b : ℕ) (y : Seen) (xs : List Seen) → HasEdge b xs → HasEdge b (y ∷ xs)
edge_later b y xs h = (h.0, inr h.1, h.2)

slots_edges : (vs : List Value) (f : ℕ) (u : Target) (b : ℕ) (ps : Parts) → HasEdge b (seen vs ps)
    → HasEdge b (seen vs (put_leaf f u ps))
slots_edges vs f u b no_parts h = h
slots_edges vs f u b (field g e ps) (x, inl p, i) = absurd (subst (λ (y : Seen). IsEdgeOf b y) p i)
slots_edges vs f u b (field g e ps) (x, inr p, i) = here (nat_eq g f) (slots_edges vs f u b ps (x, p, i))
  where
    here : (c : Bool) → HasEdge b (seen vs (put_leaf f u ps))
        → HasEdge b (seen vs (if c then field g (leaf u) ps else field g e (put_leaf f u ps)))
    here true rest = (x, inr p, i)
    here false rest = edge_later b (SeenField g (end_value vs e)) (seen vs (put_leaf f u ps)) rest
slots_edges vs f u b (link a inside e ps) (x, inl p, i) = (x, inl p, i)
slots_edges vs f u b (link a inside e ps) (x, inr p, i) =
    edge_later b (SeenLink a inside (end_value vs e)) (seen vs (put_leaf f u ps)) (slots_edges vs f u b ps (x, p, i))
slots_edges vs f u b (hook a inside ps) (x, inl p, i) = (x, inl p, i)
slots_edges vs f u b (hook a inside ps) (x, inr p, i) =
    edge_later b (SeenHook a inside) (seen vs (put_leaf f u ps)) (slots_edges vs f u b ps (x, p, i))

-- a cell below the slots stands below them still, where the end of the field was a leaf
below_kept : (vs : List Value) (f : ℕ) (t u : Target) (ps : Parts) → end_of_field f ps ≡ Some (leaf t)
    → below vs (put_leaf f u ps) ≡ below vs ps
below_kept vs f t u no_parts h = refl
below_kept vs f t u (field g e ps) h = here (nat_eq g f) h (below_kept vs f t u ps)
  where
    here : (b : Bool) → (if b then Some e else end_of_field f ps) ≡ Some (leaf t)
        → (end_of_field f ps ≡ Some (leaf t) → below vs (put_leaf f u ps) ≡ below vs ps)
        → below vs (if b then field g (leaf u) ps else field g e (put_leaf f u ps)) ≡ below vs (field g e ps)
    here true q rest = ap (λ (x : End). end_cells vs x ++ below vs ps) (sym (same_Some e (leaf t) q))
    here false q rest = ap (λ (x : List SeenCell). end_cells vs e ++ x) (rest q)
below_kept vs f t u (link b inside e ps) h = ap (λ (x : List SeenCell). end_cells vs e ++ x) (below_kept vs f t u ps h)
below_kept vs f t u (hook b inside ps) h = below_kept vs f t u ps h

forest_edges : (vs : List Value) (r f : ℕ) (t u : Target) (d : Nodes) → HasLeaf d r f t → (m b : ℕ)
    → HasBoxEdge (forest_cells vs d) m b → HasBoxEdge (forest_cells vs (leaf_put r f u d)) m b
forest_edges vs zero f t u no_nodes h m b k = k
forest_edges vs (suc r) f t u no_nodes h m b k = k
forest_edges vs zero f t u (more (node c s ds ps) ns) (n, e, h) m b (x, inl p, q, i) =
    let j = slots_edges vs f u b ps (subst (λ (y : SeenCell). HasEdge b y.slots) p i) in (
      record { cell = c; shape = s; datums = ds; slots = seen vs (put_leaf f u ps) },
      inl refl,
      ap (λ (y : SeenCell). y.cell) (sym p) ∙ q,
      j,
    )
forest_edges vs zero f t u (more (node c s ds ps) ns) (n, e, h) m b (x, inr p, q, i) =
    let l : end_of_field f ps ≡ Some (leaf t) =
    subst (λ (y : Node). end_of_field f (top_parts y) ≡ Some (leaf t)) (sym (same_Some (node c s ds ps) n e)) h
    in (
      x,
      inr (subst (λ (ys : List SeenCell). IsIn x (ys ++ forest_cells vs ns)) (sym (below_kept vs f t u ps l)) p),
      q,
      i,
    )
forest_edges vs (suc r) f t u (more n ns) h m b (x, p, q, i) =
    here (in_append x (tree_cells vs n) (forest_cells vs ns) p) (forest_edges vs r f t u ns h m b)
  where
    here : IsIn x (tree_cells vs n) ⊎ IsIn x (forest_cells vs ns)
        → (HasBoxEdge (forest_cells vs ns) m b → HasBoxEdge (forest_cells vs (leaf_put r f u ns)) m b)
        → HasBoxEdge (tree_cells vs n ++ forest_cells vs (leaf_put r f u ns)) m b
    here (inl a) rest = (x, in_left x (tree_cells vs n) (forest_cells vs (leaf_put r f u ns)) a, q, i)
    here (inr a) rest =
        let y = rest (x, a, q, i) in
        (y.0, in_right y.0 (tree_cells vs n) (forest_cells vs (leaf_put r f u ns)) y.1, y.2, y.3)

-- each box edge stands where it stood
pub edges_kept : (r f : ℕ) (t u : Target) (d : Nodes) → HasLeaf d r f t → (m b : ℕ) → HasBoxEdge (cells d) m b
    → HasBoxEdge (cells (leaf_put r f u d)) m b
edges_kept r f t u d h m b k =
    subst (λ (vs : List Value). HasBoxEdge (forest_cells vs (leaf_put r f u d)) m b) (sym (roots_kept r f u d))
    (forest_edges (roots_of d) r f t u d h m b k)
