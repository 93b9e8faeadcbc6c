-- The ways of a tree whose references have other numbers.
use Rattle.std.proofs.Common.{◌≡◌, ℕ, List, [], ◌∷◌, ◌++◌, map, flat_map, refl, ap}
use Rattle.ta_core.specs.declared.symbol.Slot.TheVariants.{Field, Link}
use Rattle.fa_core.specs.declared.forest.Target.{Target}
use Rattle.fa_core.specs.declared.forest.Target.TheVariants.{Null, Uninit, Dangling, At}
use Rattle.fa_core.specs.Dressed.{Node, Parts, End, node, no_parts, field, link, hook, under, leaf, leaf_refs}
use Rattle.fa_core.specs.Member.{bare, bare_parts, bare_end, slots_of, leaf_symbol}
use Rattle.fa_core.specs.Placed.{placed_leaf, placed, placed_parts, placed_end}
use Rattle.fa_core.specs.Ways.{Step, Way, ways, child_ways}
use Rattle.fa_core.proofs.WaysOf.{rolled_ways}
use Rattle.fa_leaves.proofs.PutWays.{put_pair, slots_put, cell_put}

-- Any map from the numbers of roots to leaves.
module _ (f : ℕ → Target) where
  -- the roots that come in the place of root k
  abbrev pub put : ℕ → List ℕ
  put k = leaf_refs (f k)

  abbrev pub put_step : Step → Step
  put_step s = record { slot = s.slot; refers = flat_map put s.refers }

  -- the way to root j in the place of w
  abbrev pub way_to : List Step → ℕ → Way
  way_to ss j = record { root = j; steps = map put_step ss }

  abbrev pub put_way : Way → List Way
  put_way w = map (way_to w.steps) (put w.root)

  put_are : (ss : List Step) (js : List ℕ) → map (λ (j : ℕ). (way_to ss j).root) js ≡ js
  put_are ss [] = refl
  put_are ss (j ∷ js) = ap (λ (z : List ℕ). j ∷ z) (put_are ss js)

  leaf_put : (t : Target) → ways (bare_end (leaf (placed_leaf f t))) ≡ flat_map put_way (ways (bare_end (leaf t)))
  leaf_put Null = rw (rolled_ways (record { symbol = leaf_symbol Null; children = [] })) refl
  leaf_put Uninit = rw (rolled_ways (record { symbol = leaf_symbol Uninit; children = [] })) refl
  leaf_put Dangling = rw (rolled_ways (record { symbol = leaf_symbol Dangling; children = [] })) refl
  leaf_put (At k) = rw (rolled_ways (record { symbol = leaf_symbol (At k); children = [] })) (here (f k))
    where
      here : (t : Target) → ways (bare_end (leaf t)) ≡ map (way_to []) (leaf_refs t) ++ []
      here Null = rw (rolled_ways (record { symbol = leaf_symbol Null; children = [] })) refl
      here Uninit = rw (rolled_ways (record { symbol = leaf_symbol Uninit; children = [] })) refl
      here Dangling = rw (rolled_ways (record { symbol = leaf_symbol Dangling; children = [] })) refl
      here (At j) = rw (rolled_ways (record { symbol = leaf_symbol (At j); children = [] })) refl

  mutual
    -- the law: each way to a root becomes the ways to what is put in its place, with the slots that it had
    pub ways_put : (n : Node) → ways (bare (placed f n)) ≡ flat_map put_way (ways (bare n))
    ways_put (node c s ds ps) = cell_put put way_to put (λ ss k. put_are ss (put k)) (λ rs x ss j. refl) c s ds ps
        (placed_parts f ps) (parts_put ps)

    parts_put : (ps : Parts) → child_ways (slots_of (placed_parts f ps)) (map ways (bare_parts (placed_parts f ps)))
        ≡ flat_map (put_pair put way_to) (child_ways (slots_of ps) (map ways (bare_parts ps)))
    parts_put no_parts = refl
    parts_put (field g e ps) = slots_put put way_to put (λ ss k. put_are ss (put k)) (λ rs x ss j. refl) (Field g)
        (ways (bare_end e)) _ _ _ (end_put e) (parts_put ps)
    parts_put (link b inside e ps) = slots_put put way_to put (λ ss k. put_are ss (put k)) (λ rs x ss j. refl)
        (Link b) (ways (bare_end e)) _ _ _ (end_put e) (parts_put ps)
    parts_put (hook b inside ps) = parts_put ps

    pub end_put : (e : End) → ways (bare_end (placed_end f e)) ≡ flat_map put_way (ways (bare_end e))
    end_put (under n) = ways_put n
    end_put (leaf t) = leaf_put t
