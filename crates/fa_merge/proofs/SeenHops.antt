-- The own facts and the box edges of a dressed forest, told by its cells: what is regrouped has the same.
use Rattle.std.proofs.Common.{ℕ, List, [], ◌∷◌, ◌++◌, flat_map, sym, ap}
use Rattle.fore_base.specs.declared.store.Value.{Value}
use Rattle.fore_base.specs.declared.store.Value.TheVariants.{Cell}
use Rattle.fa_core.specs.declared.faces.BoxFace.{BoxFace}
use Rattle.fa_core.specs.Dressed.{Node, Parts, End, Nodes, node, no_parts, field, link, hook, under, leaf, no_nodes}
use Rattle.fa_core.specs.Dressed.{more}
use Rattle.fa_core.specs.Dressed.{Fact, Head, Points, Seen, SeenField, SeenLink, SeenHook, SeenCell, seen, tree_cells}
use Rattle.fa_core.specs.Dressed.{below}
use Rattle.fa_core.specs.Dressed.{end_cells, forest_cells, end_value, inside_facts}
use Rattle.fa_core.specs.Rearranged.{Rearranged, empty, keep, chain}
use Rattle.fa_core.specs.Ways.{back_of}
use Rattle.fa_core.proofs.Permuted.{in_rearranged}
use Rattle.fa_core.proofs.Rearranging.{equal, back, both, exchange, flat_map-append, flat_mapped}
use Rattle.fa_back.specs.inner.Hops.{Edge, Hops, hop_var, hop_own, hop_down, hop_up, hook_edge}
use Rattle.fa_back.specs.inner.Hops.{tree_own, part_own, end_own, tree_edges, part_edges, end_edges, forest_own}
use Rattle.fa_back.specs.inner.Hops.{forest_edges}

-- the pointers of a cell's slots
abbrev slots_own : ℕ → List Seen → List Fact
slots_own c [] = []
slots_own c (SeenField f v ∷ xs) = Points c f v ∷ slots_own c xs
slots_own c (SeenLink b inside v ∷ xs) = slots_own c xs
slots_own c (SeenHook b inside ∷ xs) = slots_own c xs

abbrev cell_own : SeenCell → List Fact
cell_own x = Head x.cell x.shape x.datums ∷ slots_own x.cell x.slots

-- the box edges of a cell's slots
abbrev slots_edges : List BoxFace → ℕ → List Seen → List Edge
slots_edges bs c [] = []
slots_edges bs c (SeenField f v ∷ xs) = slots_edges bs c xs
slots_edges bs c (SeenLink b inside v ∷ xs) =
    record { input = c; output = v; facts = inside_facts (Cell c ∷ (v ∷ [])) inside; back = back_of bs b }
    ∷ slots_edges bs c xs
slots_edges bs c (SeenHook b inside ∷ xs) = hook_edge c inside ∷ slots_edges bs c xs

abbrev cell_edges : List BoxFace → SeenCell → List Edge
cell_edges bs x = slots_edges bs x.cell x.slots

-- two parts, each with what stands in front and what stands behind
joined : {X Y : Type 0} (f : X → List Y) (us ps qs : List Y) (xs ys : List X) → Rearranged us (flat_map f xs)
    → Rearranged ps (qs ++ flat_map f ys) → Rearranged (us ++ ps) (qs ++ flat_map f (xs ++ ys))
joined f us ps qs xs ys p q =
    chain (both p q) (chain (exchange (flat_map f xs) qs (flat_map f ys))
    (equal (ap (λ (z : List _). qs ++ z) (sym (flat_map-append f xs ys)))))

module _ (vs : List Value) where
  mutual
    own_tree : (n : Node) → Rearranged (tree_own vs n) (flat_map cell_own (tree_cells vs n))
    own_tree (node c s ds ps) = keep (Head c s ds) (own_parts c ps)

    own_parts : (c : ℕ) (ps : Parts) → Rearranged (part_own vs c ps)
        (slots_own c (seen vs ps) ++ flat_map cell_own (below vs ps))
    own_parts c no_parts = empty
    own_parts c (field f e ps) = keep (Points c f (end_value vs e))
        (joined cell_own (end_own vs e) (part_own vs c ps) (slots_own c (seen vs ps)) (end_cells vs e) (below vs ps)
        (own_end e) (own_parts c ps))
    own_parts c (link b inside e ps) = joined cell_own (end_own vs e) (part_own vs c ps) (slots_own c (seen vs ps))
        (end_cells vs e) (below vs ps) (own_end e) (own_parts c ps)
    own_parts c (hook b inside ps) = own_parts c ps

    own_end : (e : End) → Rearranged (end_own vs e) (flat_map cell_own (end_cells vs e))
    own_end (under n) = own_tree n
    own_end (leaf t) = empty

  own_forest : (d : Nodes) → Rearranged (forest_own vs d) (flat_map cell_own (forest_cells vs d))
  own_forest no_nodes = empty
  own_forest (more n ns) = chain (both (own_tree n) (own_forest ns))
      (equal (sym (flat_map-append cell_own (tree_cells vs n) (forest_cells vs ns))))

  module _ (bs : List BoxFace) where
    mutual
      edge_tree : (n : Node) → Rearranged (tree_edges bs vs n) (flat_map (cell_edges bs) (tree_cells vs n))
      edge_tree (node c s ds ps) = edge_parts c ps

      edge_parts : (c : ℕ) (ps : Parts) → Rearranged (part_edges bs vs c ps)
          (slots_edges bs c (seen vs ps) ++ flat_map (cell_edges bs) (below vs ps))
      edge_parts c no_parts = empty
      edge_parts c (field f e ps) = joined (cell_edges bs) (end_edges bs vs e) (part_edges bs vs c ps)
          (slots_edges bs c (seen vs ps)) (end_cells vs e) (below vs ps) (edge_end e) (edge_parts c ps)
      edge_parts c (link b inside e ps) = keep (record {
        input = c;
        output = end_value vs e;
        facts = inside_facts (Cell c ∷ (end_value vs e ∷ [])) inside;
        back =
            back_of bs b;
      })
          (joined (cell_edges bs) (end_edges bs vs e) (part_edges bs vs c ps) (slots_edges bs c (seen vs ps))
          (end_cells vs e) (below vs ps) (edge_end e) (edge_parts c ps))
      edge_parts c (hook b inside ps) = keep (hook_edge c inside) (edge_parts c ps)

      edge_end : (e : End) → Rearranged (end_edges bs vs e) (flat_map (cell_edges bs) (end_cells vs e))
      edge_end (under n) = edge_tree n
      edge_end (leaf t) = empty

    edge_forest : (d : Nodes) → Rearranged (forest_edges bs vs d) (flat_map (cell_edges bs) (forest_cells vs d))
    edge_forest no_nodes = empty
    edge_forest (more n ns) = chain (both (edge_tree n) (edge_forest ns))
        (equal (sym (flat_map-append (cell_edges bs) (tree_cells vs n) (forest_cells vs ns))))

module _ (bs : List BoxFace) (vs ws : List Value) (d e : Nodes)
    (same : Rearranged (forest_cells vs d) (forest_cells ws e)) where
  -- the same cells have the same facts
  pub same_own : Rearranged (forest_own vs d) (forest_own ws e)
  same_own = chain (own_forest vs d) (chain (flat_mapped cell_own same) (back (own_forest ws e)))

  -- and the same box edges
  pub same_edges : Rearranged (forest_edges bs vs d) (forest_edges bs ws e)
  same_edges = chain (edge_forest vs bs d) (chain (flat_mapped (cell_edges bs) same) (back (edge_forest ws bs e)))

  -- so hops lead to the same cells
  pub hops_moved : (vars : List Value) (n : ℕ) → Hops vars (forest_own vs d) (forest_edges bs vs d) n
      → Hops vars (forest_own ws e) (forest_edges bs ws e) n
  hops_moved vars n (hop_var i) = hop_var i
  hops_moved vars n (hop_own m f h i) = hop_own m f (hops_moved vars m h)
      (in_rearranged (Points m f (Cell n)) same_own i)
  hops_moved vars n (hop_down x i h o) = hop_down x (in_rearranged x same_edges i) (hops_moved vars x.input h) o
  hops_moved vars n (hop_up x m i b o h w) = hop_up x m (in_rearranged x same_edges i) b o (hops_moved vars m h) w
