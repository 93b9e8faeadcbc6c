-- The ways of a dressed tree end at its leaves that refer to roots, in their order.
use Rattle.std.proofs.Common.{◌≡◌, ℕ, List, [], ◌∷◌, ◌++◌, map, refl, ap, ap₂, ◌∙◌}
use Rattle.ta_core.specs.declared.symbol.Slot.{Slot}
use Rattle.ta_core.specs.declared.symbol.Slot.TheVariants.{Field, Link}
use Rattle.ta_core.specs.declared.symbol.Symbol.TheVariants.{Cell as CellSymbol}
use Rattle.ta_core.specs.declared.tree.Tree.{Tree, Tree-F, roll-Tree, fold-roll-Tree}
use Rattle.fa_core.specs.declared.forest.Target.TheVariants.{Null, Uninit, Dangling, At}
use Rattle.fa_core.specs.Dressed.{Node, Parts, End, node, no_parts, field, link, hook, under, leaf, refs, refs_of}
use Rattle.fa_core.specs.Dressed.{end_refs}
use Rattle.fa_core.specs.Member.{bare, bare_parts, bare_end, slots_of, leaf_symbol}
use Rattle.fa_core.specs.Ways.{Way, ways, ways_at, child_ways, longer}

abbrev way_root : Way → ℕ
way_root w = w.root

abbrev pair_root : Slot × Way → ℕ
pair_root p = p.1.root

pub map-append : {X Y : Type 0} (f : X → Y) (xs ys : List X) → map f (xs ++ ys) ≡ map f xs ++ map f ys
map-append f [] ys = refl
map-append f (x ∷ xs) ys = ap (λ (z : List _). f x ∷ z) (map-append f xs ys)

paired_roots : (s : Slot) (ws : List Way) → map pair_root (map (λ (w : Way). (s, w)) ws) ≡ map way_root ws
paired_roots s [] = refl
paired_roots s (w ∷ ws) = ap (λ (z : List ℕ). w.root ∷ z) (paired_roots s ws)

longer_roots : (rs : List ℕ) (ps : List (Slot × Way)) → map way_root (map (longer rs) ps) ≡ map pair_root ps
longer_roots rs [] = refl
longer_roots rs (p ∷ ps) = ap (λ (z : List ℕ). p.1.root ∷ z) (longer_roots rs ps)

-- the ways of a rolled tree
pub rolled_ways : (x : Tree-F Tree) → ways (roll-Tree x) ≡ ways_at x.symbol (map ways x.children)
rolled_ways x = fold-roll-Tree (List Way) (λ t. ways_at t.symbol t.children) x

mutual
  pub tree_roots : (n : Node) → map way_root (ways (bare n)) ≡ refs n
  tree_roots (node c s ds ps) =
      rw (rolled_ways (record { symbol = CellSymbol s ds (slots_of ps); children = bare_parts ps }))
      (longer_roots _ (child_ways (slots_of ps) (map ways (bare_parts ps))) ∙ parts_roots ps)

  pub parts_roots : (ps : Parts) → map pair_root (child_ways (slots_of ps) (map ways (bare_parts ps))) ≡ refs_of ps
  parts_roots no_parts = refl
  parts_roots (field f e ps) =
      map-append pair_root (map (λ (w : Way). (Field f, w)) (ways (bare_end e)))
      (child_ways (slots_of ps) (map ways (bare_parts ps)))
      ∙ ap₂ (λ (x y : List ℕ). x ++ y) (paired_roots (Field f) (ways (bare_end e)) ∙ end_roots e) (parts_roots ps)
  parts_roots (link b inside e ps) =
      map-append pair_root (map (λ (w : Way). (Link b, w)) (ways (bare_end e)))
      (child_ways (slots_of ps) (map ways (bare_parts ps)))
      ∙ ap₂ (λ (x y : List ℕ). x ++ y) (paired_roots (Link b) (ways (bare_end e)) ∙ end_roots e) (parts_roots ps)
  parts_roots (hook b inside ps) = parts_roots ps

  pub end_roots : (e : End) → map way_root (ways (bare_end e)) ≡ end_refs e
  end_roots (under n) = tree_roots n
  end_roots (leaf Null) = rw (rolled_ways (record { symbol = leaf_symbol Null; children = [] })) refl
  end_roots (leaf Uninit) = rw (rolled_ways (record { symbol = leaf_symbol Uninit; children = [] })) refl
  end_roots (leaf Dangling) = rw (rolled_ways (record { symbol = leaf_symbol Dangling; children = [] })) refl
  end_roots (leaf (At k)) = rw (rolled_ways (record { symbol = leaf_symbol (At k); children = [] })) refl
