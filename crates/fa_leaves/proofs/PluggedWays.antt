-- The ways of a tree with another tree in the place of the references to a root: each way there goes on through the
-- other tree.
use Rattle.std.proofs.Common.{◌≡◌, ℕ, Bool, true, false, if◌then◌else◌, nat_eq, List, [], ◌∷◌, ◌++◌, map, flat_map}
use Rattle.std.proofs.Common.{refl}
use Rattle.std.proofs.Common.{sym, ap, ap₂, ◌∙◌, append-nil}
use Rattle.ta_core.specs.declared.symbol.Slot.TheVariants.{Field, Link}
use Rattle.fa_core.specs.declared.forest.Target.{Target}
use Rattle.fa_core.specs.declared.forest.Target.TheVariants.{Null, Uninit, Dangling, At}
use Rattle.fa_core.specs.Dressed.{Node, Parts, End, node, no_parts, field, link, hook, under, leaf}
use Rattle.fa_core.specs.Member.{bare, bare_parts, bare_end, slots_of, leaf_symbol}
use Rattle.fa_core.specs.Ways.{Step, Way, ways, child_ways}
use Rattle.fa_core.proofs.WaysOf.{rolled_ways, map-append}
use Rattle.fa_leaves.specs.Grafting.{plug, plug_parts, plug_end, plug_leaf}
use Rattle.fa_leaves.proofs.PutWays.{put_pair, slots_put, cell_put}

module _ (r : ℕ) (vs : List Way) where
  -- the ways that come in the place of one to root k: to r there stand those of vs
  abbrev pub puts : ℕ → List Way
  puts k = if nat_eq r k then vs else (record { root = k; steps = [] } ∷ [])

  -- the roots that come in the place of root k
  abbrev pub put : ℕ → List ℕ
  put k = map (λ (w : Way). w.root) (puts k)

  abbrev pub put_step : Step → Step
  put_step s = record { slot = s.slot; refers = flat_map put s.refers }

  -- the way v behind these steps
  abbrev pub through : List Step → Way → Way
  through ss v = record { root = v.root; steps = map put_step ss ++ v.steps }

  abbrev pub put_way : Way → List Way
  put_way w = map (through w.steps) (puts w.root)

  -- without steps a way stays
  bare_through : (us : List Way) → map (through []) us ≡ us
  bare_through [] = refl
  bare_through (u ∷ us) = ap (λ (z : List Way). u ∷ z) (bare_through us)

  -- the roots of the new ways
  pub way_roots_put : (ws : List Way) → map (λ (w : Way). w.root) (flat_map put_way ws)
      ≡ flat_map put (map (λ (w : Way). w.root) ws)
  way_roots_put [] = refl
  way_roots_put (w ∷ ws) = map-append (λ (v : Way). v.root) (put_way w) (flat_map put_way ws)
      ∙ ap₂ (λ (x y : List ℕ). x ++ y) (through_roots w.steps (puts w.root)) (way_roots_put ws)
    where
      through_roots : (ss : List Step) (us : List Way)
          → map (λ (v : Way). v.root) (map (through ss) us) ≡ map (λ (v : Way). v.root) us
      through_roots ss [] = refl
      through_roots ss (u ∷ us) = ap (λ (z : List ℕ). u.root ∷ z) (through_roots ss us)

module _ (r : ℕ) (m : Node) where
  abbrev vs : List Way
  vs = ways (bare m)

  leaf_put : (t : Target) → ways (bare_end (plug_leaf r m t))
      ≡ flat_map (put_way r (ways (bare m))) (ways (bare_end (leaf t)))
  leaf_put Null = rw (rolled_ways (record { symbol = leaf_symbol Null; children = [] })) refl
  leaf_put Uninit = rw (rolled_ways (record { symbol = leaf_symbol Uninit; children = [] })) refl
  leaf_put Dangling = rw (rolled_ways (record { symbol = leaf_symbol Dangling; children = [] })) refl
  leaf_put (At k) = here (nat_eq r k) refl ∙ sym (ap (flat_map (put_way r vs)) own)
    where
      own : ways (bare_end (leaf (At k))) ≡ record { root = k; steps = [] } ∷ []
      own = rolled_ways (record { symbol = leaf_symbol (At k); children = [] })

      here : (b : Bool) → nat_eq r k ≡ b → ways (bare_end (if b then under m else leaf (At k)))
          ≡ map (through r (ways (bare m)) []) (if b then ways (bare m) else (record { root = k; steps = [] } ∷ []))
          ++ []
      here true e = sym (append-nil (map (through r vs []) vs) ∙ bare_through r vs vs)
      here false e = own

  mutual
    -- the law: each way goes on by what is put in the place of its root
    pub ways_plugged : (n : Node) → ways (bare (plug r m n)) ≡ flat_map (put_way r (ways (bare m))) (ways (bare n))
    ways_plugged (node c s ds ps) = cell_put (puts r vs) (through r vs) (put r vs) (λ ss k. refl) (λ rs x ss v. refl)
        c s ds ps (plug_parts r m ps) (parts_put ps)

    parts_put : (ps : Parts) → child_ways (slots_of (plug_parts r m ps)) (map ways (bare_parts (plug_parts r m ps)))
        ≡ flat_map (put_pair (puts r vs) (through r vs)) (child_ways (slots_of ps) (map ways (bare_parts ps)))
    parts_put no_parts = refl
    parts_put (field g e ps) = slots_put (puts r vs) (through r vs) (put r vs) (λ ss k. refl) (λ rs x ss v. refl)
        (Field g) (ways (bare_end e)) _ _ _ (end_put e) (parts_put ps)
    parts_put (link b inside e ps) = slots_put (puts r vs) (through r vs) (put r vs) (λ ss k. refl)
        (λ rs x ss v. refl) (Link b) (ways (bare_end e)) _ _ _ (end_put e) (parts_put ps)
    parts_put (hook b inside ps) = parts_put ps

    end_put : (e : End) → ways (bare_end (plug_end r m e)) ≡ flat_map (put_way r (ways (bare m))) (ways (bare_end e))
    end_put (under n) = ways_plugged n
    end_put (leaf t) = leaf_put t
