-- Ways in the place of which other ways come: where the ways to a root go on, so do those of a cell, slot by slot.
use Rattle.std.proofs.Common.{◌≡◌, ℕ, List, [], ◌∷◌, ◌++◌, map, flat_map, refl, sym, ap, ap₂, ◌∙◌}
use Rattle.fore_base.specs.declared.store.Datum.{Datum}
use Rattle.ta_core.specs.declared.symbol.Slot.{Slot}
use Rattle.ta_core.specs.declared.symbol.Symbol.TheVariants.{Cell as CellSymbol}
use Rattle.fa_core.specs.Dressed.{Parts, node}
use Rattle.fa_core.specs.Member.{bare, bare_parts, slots_of}
use Rattle.fa_core.specs.Ways.{Step, Way, ways, ways_at, child_ways, longer}
use Rattle.fa_core.proofs.Rearranging.{flat_map-append}
use Rattle.fa_core.proofs.WaysOf.{rolled_ways, map-append}

-- In the place of a way to root k with these steps come the ways of the steps to each of puts k.
module _ {X : Type 0} (puts : ℕ → List X) (way : List Step → X → Way) where
  abbrev pub put_way : Way → List Way
  put_way w = map (way w.steps) (puts w.root)

  abbrev pub put_pair : Slot × Way → List (Slot × Way)
  put_pair p = map (λ w. (p.0, w)) (put_way p.1)

abbrev roots : List (Slot × Way) → List ℕ
roots ps = map (λ p. p.1.root) ps

-- They lead to the roots put k, and a step before the way is one before each of them.
module _ {X : Type 0} (puts : ℕ → List X) (way : List Step → X → Way) (put : ℕ → List ℕ)
    (put_are : (ss : List Step) (k : ℕ) → map (λ (x : X). (way ss x).root) (puts k) ≡ put k)
    (longer_way : (rs : List ℕ) (s : Slot) (ss : List Step) (x : X) → longer (flat_map put rs) (s, way ss x)
    ≡ way (record { slot = s; refers = rs } ∷ ss) x) where
  abbrev each_way : Way → List Way
  each_way = put_way puts way

  abbrev each_pair : Slot × Way → List (Slot × Way)
  each_pair = put_pair puts way

  pair_roots : (s : Slot) (ss : List Step) (xs : List X)
      → roots (map (λ (w : Way). (s, w)) (map (way ss) xs)) ≡ map (λ (x : X). (way ss x).root) xs
  pair_roots s ss [] = refl
  pair_roots s ss (x ∷ xs) = ap (λ (z : List ℕ). (way ss x).root ∷ z) (pair_roots s ss xs)

  roots_put : (ps : List (Slot × Way)) → roots (flat_map each_pair ps) ≡ flat_map put (roots ps)
  roots_put [] = refl
  roots_put (p ∷ ps) = map-append (λ (q : Slot × Way). q.1.root) (each_pair p) (flat_map each_pair ps)
      ∙ ap₂ (λ (x y : List ℕ). x ++ y)
      (pair_roots p.0 p.1.steps (puts p.1.root) ∙ put_are p.1.steps p.1.root) (roots_put ps)

  one_longer : (rs : List ℕ) (s : Slot) (ss : List Step) (xs : List X)
      → map (longer (flat_map put rs)) (map (λ (w : Way). (s, w)) (map (way ss) xs))
      ≡ map (way (record { slot = s; refers = rs } ∷ ss)) xs
  one_longer rs s ss [] = refl
  one_longer rs s ss (x ∷ xs) =
      ap₂ (λ (w : Way) (z : List Way). w ∷ z) (longer_way rs s ss x) (one_longer rs s ss xs)

  longer_put : (rs : List ℕ) (ps : List (Slot × Way))
      → map (longer (flat_map put rs)) (flat_map each_pair ps) ≡ flat_map each_way (map (longer rs) ps)
  longer_put rs [] = refl
  longer_put rs (p ∷ ps) = map-append (longer (flat_map put rs)) (each_pair p) (flat_map each_pair ps)
      ∙ ap₂ (λ (x y : List Way). x ++ y) (one_longer rs p.0 p.1.steps (puts p.1.root)) (longer_put rs ps)

  slot_put : (s : Slot) (ws : List Way) → map (λ (w : Way). (s, w)) (flat_map each_way ws)
      ≡ flat_map each_pair (map (λ (w : Way). (s, w)) ws)
  slot_put s [] = refl
  slot_put s (w ∷ ws) = map-append (λ (v : Way). (s, v)) (each_way w) (flat_map each_way ws)
      ∙ ap (λ (z : List (Slot × Way)). each_pair (s, w) ++ z) (slot_put s ws)

  -- a slot whose ways go on, before slots whose ways do
  pub slots_put : (s : Slot) (ws vs : List Way) (ps qs : List (Slot × Way)) → vs ≡ flat_map each_way ws
      → qs ≡ flat_map each_pair ps
      → map (λ (w : Way). (s, w)) vs ++ qs ≡ flat_map each_pair (map (λ (w : Way). (s, w)) ws ++ ps)
  slots_put s ws vs ps qs e h =
      ap₂ (λ (x y : List (Slot × Way)). x ++ y) (ap (map (λ (w : Way). (s, w))) e ∙ slot_put s ws) h
      ∙ sym (flat_map-append each_pair (map (λ (w : Way). (s, w)) ws) ps)

  -- a cell in whose slots the ways go on
  pub cell_put : (c s : ℕ) (ds : List Datum) (ps qs : Parts) → child_ways (slots_of qs) (map ways (bare_parts qs))
      ≡ flat_map each_pair (child_ways (slots_of ps) (map ways (bare_parts ps)))
      → ways (bare (node c s ds qs)) ≡ flat_map each_way (ways (bare (node c s ds ps)))
  cell_put c s ds ps qs h =
      let xs = child_ways (slots_of ps) (map ways (bare_parts ps)) in
      let a : ways (bare (node c s ds qs)) ≡ ways_at (CellSymbol s ds (slots_of qs)) (map ways (bare_parts qs)) =
      rolled_ways (record { symbol = CellSymbol s ds (slots_of qs); children = bare_parts qs }) in
      let b : ways_at (CellSymbol s ds (slots_of qs)) (map ways (bare_parts qs))
      ≡ map (longer (roots (flat_map each_pair xs))) (flat_map each_pair xs) =
      ap (λ (z : List (Slot × Way)). map (longer (roots z)) z) h in
      let d : map (longer (roots (flat_map each_pair xs))) (flat_map each_pair xs)
      ≡ map (longer (flat_map put (roots xs))) (flat_map each_pair xs) =
      ap (λ (z : List ℕ). map (longer z) (flat_map each_pair xs)) (roots_put xs) in
      let e : ways (bare (node c s ds ps)) ≡ map (longer (roots xs)) xs =
      rolled_ways (record { symbol = CellSymbol s ds (slots_of ps); children = bare_parts ps }) in
      a ∙ b ∙ d ∙ longer_put (roots xs) xs ∙ ap (flat_map each_way) (sym e)
