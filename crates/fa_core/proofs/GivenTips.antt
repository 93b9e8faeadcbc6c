-- What the ways of the trees provide at a root is what its leaves are given, in the same order.
use Rattle.std.proofs.Common.{◌≡◌, ℕ, Bool, true, false, cond, nat_eq, List, [], ◌∷◌, ◌++◌, flat_map, refl, sym, ap}
use Rattle.std.proofs.Common.{ap₂, ◌∙◌}
use Rattle.ta_core.specs.declared.symbol.Slot.{Slot}
use Rattle.ta_core.specs.declared.symbol.Slot.TheVariants.{Field, Link}
use Rattle.ta_core.specs.declared.tree.Tree.{Tree}
use Rattle.fa_core.specs.declared.faces.BoxFace.{BoxFace}
use Rattle.fa_core.specs.declared.forest.Target.TheVariants.{Null, Uninit, Dangling, At}
use Rattle.fa_core.specs.Cells.{edges, is_leaf}
use Rattle.fa_core.specs.Choices.{bares}
use Rattle.fa_core.specs.Dressed.{Node, Parts, End, Nodes, node, no_parts, field, link, hook, under, leaf, no_nodes}
use Rattle.fa_core.specs.Dressed.{more}
use Rattle.fa_core.specs.Filled.{given_at}
use Rattle.fa_core.specs.Member.{bare, bare_parts, bare_end, slots_of, leaf_symbol}
use Rattle.fa_core.specs.Ways.{Way, ways, longer, given, gives_out_of}
use Rattle.fa_core.proofs.CellMarks.{given_through}
use Rattle.fa_core.proofs.Dressing.{cell_top}
use Rattle.fa_core.proofs.Given.{tip_to, tips, tips_of, end_tips, all_tips}
use Rattle.fa_core.proofs.Rearranging.{flat_map-append}
use Rattle.fa_core.proofs.WayParts.{collect, collect_edges, edge_ways, pair_roots, cell_ways, HaveEdges, branch_ways}
use Rattle.fa_core.proofs.WaysOf.{rolled_ways}

module _ (bs : List BoxFace) (r : ℕ) where
  -- what the ways of the tree give at root r
  abbrev provided : Tree → List ℕ
  provided t = collect (λ w. given bs w.steps) r (ways t)

  -- the same below a slot of a cell that refers to the roots rs
  abbrev below_slot : List ℕ → Slot → Tree → List ℕ
  below_slot rs s t = collect (λ w. given bs (longer rs (s, w)).steps) r (ways t)

  have_edges : (n : Node) → HaveEdges (ways (bare n))
  have_edges (node c s ds ps) = branch_ways (bare (node c s ds ps)) (ap is_leaf (cell_top c s ds ps))

  mutual
    tree_tips : (n : Node) → provided (bare n) ≡ flat_map (tip_to r) (tips bs n)
    tree_tips (node c s ds ps) =
        let rs : List ℕ = pair_roots (edge_ways (edges (slots_of ps) (bare_parts ps))) in
        ap (λ (ws : List Way). collect (λ w. given bs w.steps) r ws) (cell_ways s ds (slots_of ps) (bare_parts ps))
        ∙ collect_edges (λ w. given bs w.steps) r rs (edges (slots_of ps) (bare_parts ps))
        ∙ parts_tips rs ps

    parts_tips : (rs : List ℕ) (ps : Parts)
        → flat_map (λ e. below_slot rs e.0 e.1) (edges (slots_of ps) (bare_parts ps))
        ≡ flat_map (tip_to r) (tips_of bs ps)
    parts_tips rs no_parts = refl
    parts_tips rs (field f e ps) = ap₂ (λ (x y : List ℕ). x ++ y) (slot_tips rs (Field f) [] refl e) (parts_tips rs ps)
        ∙ sym (flat_map-append (tip_to r) (end_tips bs [] e) (tips_of bs ps))
    parts_tips rs (link b i e ps) =
        ap₂ (λ (x y : List ℕ). x ++ y) (slot_tips rs (Link b) (gives_out_of bs b) refl e) (parts_tips rs ps)
        ∙ sym (flat_map-append (tip_to r) (end_tips bs (gives_out_of bs b) e) (tips_of bs ps))
    parts_tips rs (hook b i ps) = parts_tips rs ps

    slot_tips : (rs : List ℕ) (s : Slot) (g : List ℕ) → given bs (record { slot = s; refers = rs } ∷ []) ≡ g → (e : End)
        → below_slot rs s (bare_end e) ≡ flat_map (tip_to r) (end_tips bs g e)
    slot_tips rs s g h (under n) = given_through bs r rs s (ways (bare n)) (have_edges n) ∙ tree_tips n
    slot_tips rs s g h (leaf Null) = let e = rolled_ways (record { symbol = leaf_symbol Null; children = [] }) in
        rw e refl
    slot_tips rs s g h (leaf Uninit) = let e = rolled_ways (record { symbol = leaf_symbol Uninit; children = [] }) in
        rw e refl
    slot_tips rs s g h (leaf Dangling) =
        let e = rolled_ways (record { symbol = leaf_symbol Dangling; children = [] }) in rw e refl
    slot_tips rs s g h (leaf (At k)) = let e = rolled_ways (record { symbol = leaf_symbol (At k); children = [] }) in
        rw e (here (nat_eq r k))
      where
        here : (b : Bool) → flat_map (λ (w : Way). given bs (longer rs (s, w)).steps)
            (cond b (record { root = k; steps = [] } ∷ []) []) ≡ cond b g [] ++ []
        here true = ap (λ (z : List ℕ). z ++ []) h
        here false = refl

  -- the fields that box edges of the trees give to root r are those that its leaves are given
  pub given_tips : (d : Nodes) → given_at bs (bares d) r ≡ flat_map (tip_to r) (all_tips bs d)
  given_tips no_nodes = refl
  given_tips (more n ns) = ap₂ (λ (x y : List ℕ). x ++ y) (tree_tips n) (given_tips ns)
      ∙ sym (flat_map-append (tip_to r) (tips bs n) (all_tips bs ns))
