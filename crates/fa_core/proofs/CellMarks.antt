-- The signature of a cell is a function of its slots, the signatures of its children, and which of these are leaves.
use Rattle.std.proofs.Common.{◌≡◌, ◌⊎◌, inl, inr, ℕ, ◌≤◌, ◌+◌, Bool, true, false, true≢false, ◌&&◌, ◌||◌, cond, nat_eq}
use Rattle.std.proofs.Common.{nat_le, List, [], ◌∷◌, ◌++◌, length, map, filter, flat_map, Option, Some, None, refl, sym}
use Rattle.std.proofs.Common.{ap, ap₂, subst, ◌∙◌, arith, append-nil, length-append}
use Rattle.std.proofs.lemmas.Bool.{eqb-true, eq-eqb, leb-true, leb-false, le-leb}
use Rattle.std.proofs.lemmas.List.Folds.{flat_map-map}
use Rattle.ta_core.specs.declared.symbol.Slot.{Slot}
use Rattle.ta_core.specs.declared.symbol.Slot.TheVariants.{Field, Link, Hook}
use Rattle.ta_core.specs.declared.symbol.Symbol.{Symbol}
use Rattle.ta_core.specs.declared.symbol.Symbol.TheVariants.{Null, Uninit, Dangling, Ref, Cell}
use Rattle.ta_core.specs.declared.tree.Tree.{Tree, Tree-F, out-Tree, roll-Tree, roll-out-Tree}
use Rattle.fore_base.specs.declared.store.Datum.{Datum}
use Rattle.ta_core.proofs.Runs.{tree_of}
use Rattle.fa_core.specs.declared.faces.BoxFace.{BoxFace}
use Rattle.fa_core.specs.declared.signature.RefMark.{RefMark}
use Rattle.fa_core.specs.declared.signature.Below.{Below}
use Rattle.fa_core.specs.Ways.{Way, Step, ways, longer, to_root, given, given_by, is_back, all_back, leads_back, led_to}
use Rattle.fa_core.specs.Ways.{any_back, ways_at, has, once, roots_met, mark, signature}
use Rattle.fa_core.specs.Cells.{edges, is_leaf, below_of, mark_of, many_with, many_from, leaf_mark, marks_by}
use Rattle.fa_core.specs.Cells.{provided_in, back_in, reach_in, provided_at, back_at, reach_at, cell_mark, roots_in}
use Rattle.fa_core.specs.Cells.{cell_roots, cell_marks}
use Rattle.fa_core.proofs.Numbers.{bool_same, Within, has_append, has_left, has_right, has_cases, has_once, once_flat}
use Rattle.fa_core.proofs.Numbers.{IsCount, count_more, count_same, filter_same, has_filter}
use Rattle.fa_core.specs.Rearranged.{Rearranged, empty, chain, in_order}
use Rattle.fa_core.proofs.Rearranging.{equal, both}
use Rattle.fa_core.proofs.Sorting.{order_same, ordered}
use Rattle.fa_core.proofs.WayParts.{way_roots, collect, edge_ways, pair_roots, edges_map, collect_edges, edge_roots}
use Rattle.fa_core.proofs.WayParts.{longer_roots, cell_ways, ways_out, IsEdged, HaveEdges, IsLeafWays, leaf_ways}
use Rattle.fa_core.proofs.WayParts.{branch_ways, WaysIn, EdgesIn, all_in, tree_in, collect_in}

-- the mark of a root, where the tree refers to it
found : (bs : List BoxFace) (ws : List Way) (r : ℕ) (rs : List ℕ) → mark_of r (map (mark bs ws) rs)
    ≡ cond (has r rs) (Some (mark bs ws r)) None
found bs ws r [] = refl
found bs ws r (x ∷ xs) = here (nat_eq r x) refl (found bs ws r xs)
  where
    here : (b : Bool) → nat_eq r x ≡ b → mark_of r (map (mark bs ws) xs) ≡ cond (has r xs) (Some (mark bs ws r)) None
        → cond b (Some (mark bs ws x)) (mark_of r (map (mark bs ws) xs))
        ≡ cond (b || has r xs) (Some (mark bs ws r)) None
    here true e k = ap (λ (n : ℕ). Some (mark bs ws n)) (sym (eqb-true r x e))
    here false e k = k

mark_here : (bs : List BoxFace) (t : Tree) (r : ℕ) → mark_of r (signature bs t)
    ≡ cond (has r (way_roots (ways t))) (Some (mark bs (ways t) r)) None
mark_here bs t r = found bs (ways t) r (roots_met (ways t))
    ∙ ap (λ (b : Bool). cond b (Some (mark bs (ways t) r)) None) (has_once r (way_roots (ways t)))

pub none_there : (r : ℕ) (ws : List Way) → has r (way_roots ws) ≡ false → to_root r ws ≡ []
none_there r [] h = refl
none_there r (w ∷ ws) h = here (nat_eq r w.root) h (none_there r ws)
  where
    here : (b : Bool) → (b || has r (way_roots ws)) ≡ false → (has r (way_roots ws) ≡ false → to_root r ws ≡ [])
        → cond b (w ∷ to_root r ws) (to_root r ws) ≡ []
    here true h f = absurd (true≢false h)
    here false h f = f h

pub some_there : (r : ℕ) (ws : List Way) → has r (way_roots ws) ≡ true → 1 ≤ length (to_root r ws)
some_there r [] h = absurd (true≢false (sym h))
some_there r (w ∷ ws) h = here (nat_eq r w.root) h (some_there r ws)
  where
    here : (b : Bool) → (b || has r (way_roots ws)) ≡ true → (has r (way_roots ws) ≡ true → 1 ≤ length (to_root r ws))
        → 1 ≤ length (cond b (w ∷ to_root r ws) (to_root r ws))
    here true h f = omega arith
    here false h f = f h

-- MANY

abbrev tick : Way → List ℕ
tick w = 0 ∷ []

ticks : (ws : List Way) → length (flat_map tick ws) ≡ length ws
ticks [] = refl
ticks (w ∷ ws) = let e = ticks ws in omega (arith, e)

-- the references for which a mark stands: 2 for two or more
abbrev count_in : Option RefMark → ℕ
count_in None = 0
count_in (Some m) = cond m.many 2 1

abbrev count_at : ℕ → List (Slot × Below) → ℕ
count_at r [] = 0
count_at r (e ∷ es) = count_in (mark_of r e.1.marks) + count_at r es

-- they are two or more
many_counts : (r : ℕ) (one : Bool) (es : List (Slot × Below)) → nat_le 2 (cond one 1 0 + count_at r es)
    ≡ many_from one r es
many_counts r one [] = last one
  where
    last : (b : Bool) → nat_le 2 (cond b 1 0 + 0) ≡ false
    last true = refl
    last false = refl
many_counts r one (e ∷ es) = here one (mark_of r e.1.marks) (many_counts r one es) (many_counts r true es)
  where
    mark_with : (b m : Bool) (x : Bool) → nat_le 2 (1 + count_at r es) ≡ x
        → nat_le 2 (cond b 1 0 + (cond m 2 1 + count_at r es)) ≡ (m || (b || x))
    mark_with b true x h = let l : 2 ≤ cond b 1 0 + (2 + count_at r es) = omega arith in
        le-leb 2 (cond b 1 0 + (2 + count_at r es)) l
    mark_with true false x h = let l : 2 ≤ 1 + (1 + count_at r es) = omega arith in le-leb 2 (1 + (1 + count_at r es)) l
    mark_with false false x h = let e : 0 + (1 + count_at r es) ≡ 1 + count_at r es = omega arith in
        ap (λ (n : ℕ). nat_le 2 n) e ∙ h

    here : (b : Bool) (m : Option RefMark) → nat_le 2 (cond b 1 0 + count_at r es) ≡ many_from b r es
        → nat_le 2 (1 + count_at r es) ≡ many_from true r es → nat_le 2 (cond b 1 0 + (count_in m + count_at r es))
        ≡ many_with b m (many_from b r es) (many_from true r es)
    here b None h k = let e : 0 + count_at r es ≡ count_at r es = omega arith in
        ap (λ (n : ℕ). nat_le 2 (cond b 1 0 + n)) e ∙ h
    here b (Some m) h k = mark_with b m.many (many_from true r es) k

module _ (bs : List BoxFace) (r : ℕ) where
  count_here : (ws : List Way)
      → IsCount (length (to_root r ws)) (count_in (cond (has r (way_roots ws)) (Some (mark bs ws r)) None))
  count_here ws = here (has r (way_roots ws)) refl
    where
      two : (c : Bool) → nat_le 2 (length (to_root r ws)) ≡ c → 1 ≤ length (to_root r ws)
          → IsCount (length (to_root r ws)) (cond c 2 1)
      two true e l = inr (leb-true 2 (length (to_root r ws)) e, omega arith)
      two false e l = let k = leb-false 2 (length (to_root r ws)) e in inl (omega (arith, k, l))

      here : (b : Bool) → has r (way_roots ws) ≡ b
          → IsCount (length (to_root r ws)) (count_in (cond b (Some (mark bs ws r)) None))
      here true e = two (nat_le 2 (length (to_root r ws))) refl (some_there r ws e)
      here false e = inl (ap (λ (l : List Way). length l) (none_there r ws e))

  count_edges : (es : List (Slot × Tree))
      → IsCount (length (flat_map (λ e. collect tick r (ways e.1)) es))
      (count_at r (map (λ e. (e.0, below_of bs e.1)) es))
  count_edges [] = inl refl
  count_edges (e ∷ es) =
      let m = mark_here bs e.1 r in
      let k = count_here (ways e.1) in
      let c : IsCount (length (collect tick r (ways e.1))) (count_in (mark_of r (signature bs e.1))) =
      rw (m, ticks (to_root r (ways e.1))) k in
      let l = length-append (collect tick r (ways e.1)) (flat_map (λ (x : Slot × Tree). collect tick r (ways x.1)) es)
      in
      rw l
      (count_more (length (collect tick r (ways e.1))) (count_in (mark_of r (signature bs e.1)))
      (length (flat_map (λ (x : Slot × Tree). collect tick r (ways x.1)) es))
      (count_at r (map (λ (x : Slot × Tree). (x.0, below_of bs x.1)) es)) c (count_edges es))

-- PROVIDED

given_below : (bs : List BoxFace) (x : Step) (ss : List Step) → IsEdged ss → given bs (x ∷ ss) ≡ given bs ss
given_below bs x [] h = absurd h
given_below bs x (y ∷ ss) h = refl

module _ (bs : List BoxFace) (r : ℕ) (rs : List ℕ) where
  abbrev pub gives : Slot → Way → List ℕ
  gives s w = given bs (longer rs (s, w)).steps

  -- what an edge above adds to ways that have edges: nothing
  pub given_through : (s : Slot) (ws : List Way) → HaveEdges ws → collect (gives s) r ws
      ≡ collect (λ w. given bs w.steps) r ws
  given_through s [] h = refl
  given_through s (w ∷ ws) h = here (nat_eq r w.root) (given_through s ws h.1)
    where
      here : (b : Bool) → collect (gives s) r ws ≡ collect (λ w. given bs w.steps) r ws
          → flat_map (gives s) (cond b (w ∷ to_root r ws) (to_root r ws))
          ≡ flat_map (λ w. given bs w.steps) (cond b (w ∷ to_root r ws) (to_root r ws))
      here true e = ap₂ (λ (y z : List ℕ). y ++ z) (given_below bs (record { slot = s; refers = rs }) w.steps h.0) e
      here false e = e

  provided_cell : (s : Slot) (m : RefMark) → provided_in bs (Some m) s false ≡ m.provided
  provided_cell (Field f) m = refl
  provided_cell (Link b) m = refl
  provided_cell (Hook b) m = refl

  provided_branch : (s : Slot) (ws : List Way) → HaveEdges ws
      → Rearranged (collect (gives s) r ws)
      (provided_in bs (cond (has r (way_roots ws)) (Some (mark bs ws r)) None) s false)
  provided_branch s ws h = here (has r (way_roots ws)) refl
    where
      here : (b : Bool) → has r (way_roots ws) ≡ b
          → Rearranged (collect (gives s) r ws) (provided_in bs (cond b (Some (mark bs ws r)) None) s false)
      here true e = chain (equal (given_through s ws h))
          (chain (ordered (collect (λ w. given bs w.steps) r ws)) (equal (sym (provided_cell s (mark bs ws r)))))
      here false e = equal (ap (λ (l : List Way). flat_map (gives s) l) (none_there r ws e))

  -- the ways of a leaf that refers to root n
  abbrev one : ℕ → List Way
  one n = record { root = n; steps = [] } ∷ []

  one_provided : (n : ℕ) → collect (λ w. given bs w.steps) r (one n) ≡ []
  one_provided n = here (nat_eq r n)
    where
      here : (b : Bool) → flat_map (λ (w : Way). given bs w.steps) (cond b (one n) []) ≡ []
      here true = refl
      here false = refl

  leaf_given : (s : Slot) (m : RefMark) → m.provided ≡ [] → given_by bs s ≡ provided_in bs (Some m) s true
  leaf_given (Field f) m h = sym h
  leaf_given (Link b) m h = refl
  leaf_given (Hook b) m h = sym h

  provided_one : (s : Slot) (n : ℕ) → collect (gives s) r (one n)
      ≡ provided_in bs (cond (has r (way_roots (one n))) (Some (mark bs (one n) r)) None) s true
  provided_one s n = here (nat_eq r n)
    where
      here : (b : Bool) → flat_map (gives s) (cond b (one n) [])
          ≡ provided_in bs (cond (b || false) (Some (mark bs (one n) r)) None) s true
      here true = append-nil (given_by bs s)
          ∙ leaf_given s (mark bs (one n) r) (ap (λ (l : List ℕ). in_order l) (one_provided n))
      here false = refl

  provided_leaf : (s : Slot) (ws : List Way) → IsLeafWays ws → collect (gives s) r ws
      ≡ provided_in bs (cond (has r (way_roots ws)) (Some (mark bs ws r)) None) s true
  provided_leaf s ws (inl e) =
      subst (λ (l : List Way). collect (gives s) r l
      ≡ provided_in bs (cond (has r (way_roots l)) (Some (mark bs l r)) None) s true) (sym e) refl
  provided_leaf s ws (inr h) =
      subst (λ (l : List Way). collect (gives s) r l
      ≡ provided_in bs (cond (has r (way_roots l)) (Some (mark bs l r)) None) s true) (sym h.1) (provided_one s h.0)

  provided_here : (s : Slot) (t : Tree)
      → Rearranged (collect (gives s) r (ways t))
      (provided_in bs (mark_of r (signature bs t)) s (is_leaf (out-Tree t).symbol))
  provided_here s t = chain (here (is_leaf (out-Tree t).symbol) refl)
      (equal (ap (λ (m : Option RefMark). provided_in bs m s (is_leaf (out-Tree t).symbol)) (sym (mark_here bs t r))))
    where
      here : (b : Bool) → is_leaf (out-Tree t).symbol ≡ b
          → Rearranged (collect (gives s) r (ways t))
          (provided_in bs (cond (has r (way_roots (ways t))) (Some (mark bs (ways t) r)) None) s b)
      here true e = equal (provided_leaf s (ways t) (leaf_ways t e))
      here false e = provided_branch s (ways t) (branch_ways t e)

  provided_edges : (es : List (Slot × Tree))
      → Rearranged (flat_map (λ e. collect (λ w. given bs (longer rs (e.0, w)).steps) r (ways e.1)) es)
      (provided_at bs r (map (λ e. (e.0, below_of bs e.1)) es))
  provided_edges [] = empty
  provided_edges (e ∷ es) = both (provided_here e.0 e.1) (provided_edges es)

-- BACK

abbrev some : List ℕ → Bool
some [] = false
some (x ∷ xs) = true

some_append : (xs ys : List ℕ) → some (xs ++ ys) ≡ (some xs || some ys)
some_append [] ys = refl
some_append (x ∷ xs) ys = refl

module _ (bs : List BoxFace) where
  abbrev climbs : List Step → List ℕ
  climbs xs = cond (leads_back bs xs) (0 ∷ []) []

  any_some : (ws : List Way) → any_back bs ws ≡ some (flat_map (λ w. climbs w.steps) ws)
  any_some [] = refl
  any_some (w ∷ ws) = here (leads_back bs w.steps) (any_some ws)
    where
      here : (b : Bool) → any_back bs ws ≡ some (flat_map (λ w. climbs w.steps) ws) → (b || any_back bs ws)
          ≡ some (cond b (0 ∷ []) [] ++ flat_map (λ w. climbs w.steps) ws)
      here true e = refl
      here false e = e

  edged_leads : (xs : List Step) → IsEdged xs → leads_back bs xs ≡ all_back bs xs
  edged_leads [] h = absurd h
  edged_leads (x ∷ xs) h = refl

  module _ (r : ℕ) (rs : List ℕ) where
    abbrev rises : Slot → Way → List ℕ
    rises s w = climbs (longer rs (s, w)).steps

    back_through : (s : Slot) (ws : List Way) → HaveEdges ws → some (collect (rises s) r ws)
        ≡ (is_back bs s && any_back bs (to_root r ws))
    back_through s ws h = here (is_back bs s) refl ws h
      where
        and_none : (b : Bool) → (b && false) ≡ false
        and_none true = refl
        and_none false = refl

        here : (b : Bool) → is_back bs s ≡ b → (ws : List Way) → HaveEdges ws → some (collect (rises s) r ws)
            ≡ (b && any_back bs (to_root r ws))
        here b e [] h = sym (and_none b)
        here b e (w ∷ ws) h = inside (nat_eq r w.root) (here b e ws h.1)
          where
            step : (a c d x : Bool) → a ≡ b → c ≡ d → some (collect (rises s) r ws) ≡ (b && x)
                → some (cond (a && d) (0 ∷ []) [] ++ collect (rises s) r ws) ≡ (b && (c || x))
            step true true true x i j k = subst (λ (z : Bool). true ≡ (z && true)) i refl
            step true false false x i j k = k
            step true true false x i j k = absurd (true≢false j)
            step true false true x i j k = absurd (true≢false (sym j))
            step false c d x i j k = k ∙ subst (λ (z : Bool). (z && x) ≡ (z && (c || x))) i refl

            inside : (m : Bool) → some (collect (rises s) r ws) ≡ (b && any_back bs (to_root r ws))
                → some (flat_map (rises s) (cond m (w ∷ to_root r ws) (to_root r ws)))
                ≡ (b && any_back bs (cond m (w ∷ to_root r ws) (to_root r ws)))
            inside true k = step (is_back bs s) (leads_back bs w.steps) (all_back bs w.steps)
                (any_back bs (to_root r ws)) e (edged_leads w.steps h.0) k
            inside false k = k

    back_branch : (s : Slot) (ws : List Way) → HaveEdges ws → some (collect (rises s) r ws)
        ≡ back_in bs (cond (has r (way_roots ws)) (Some (mark bs ws r)) None) s false
    back_branch s ws h = here (has r (way_roots ws)) refl
      where
        here : (b : Bool) → has r (way_roots ws) ≡ b → some (collect (rises s) r ws)
            ≡ back_in bs (cond b (Some (mark bs ws r)) None) s false
        here true e = back_through s ws h
        here false e = ap (λ (l : List Way). some (flat_map (rises s) l)) (none_there r ws e)

    back_one : (s : Slot) (n : ℕ) → some (collect (rises s) r (one bs r rs n))
        ≡ back_in bs (cond (has r (way_roots (one bs r rs n))) (Some (mark bs (one bs r rs n) r)) None) s true
    back_one s n = here (nat_eq r n) (is_back bs s)
      where
        here : (b c : Bool) → some (flat_map (rises s) (cond b (one bs r rs n) []))
            ≡ back_in bs (cond (b || false) (Some (mark bs (one bs r rs n) r)) None) s true
        here true c = last (is_back bs s)
          where
            last : (d : Bool) → some (cond (d && true) (0 ∷ []) [] ++ []) ≡ (d && true)
            last true = refl
            last false = refl
        here false c = refl

    back_leaf : (s : Slot) (ws : List Way) → IsLeafWays ws → some (collect (rises s) r ws)
        ≡ back_in bs (cond (has r (way_roots ws)) (Some (mark bs ws r)) None) s true
    back_leaf s ws (inl e) =
        subst (λ (l : List Way). some (collect (rises s) r l)
        ≡ back_in bs (cond (has r (way_roots l)) (Some (mark bs l r)) None) s true) (sym e) refl
    back_leaf s ws (inr h) =
        subst (λ (l : List Way). some (collect (rises s) r l)
        ≡ back_in bs (cond (has r (way_roots l)) (Some (mark bs l r)) None) s true) (sym h.1) (back_one s h.0)

    back_here : (s : Slot) (t : Tree) → some (collect (rises s) r (ways t))
        ≡ back_in bs (mark_of r (signature bs t)) s (is_leaf (out-Tree t).symbol)
    back_here s t = here (is_leaf (out-Tree t).symbol) refl
        ∙ ap (λ (m : Option RefMark). back_in bs m s (is_leaf (out-Tree t).symbol)) (sym (mark_here bs t r))
      where
        here : (b : Bool) → is_leaf (out-Tree t).symbol ≡ b → some (collect (rises s) r (ways t))
            ≡ back_in bs (cond (has r (way_roots (ways t))) (Some (mark bs (ways t) r)) None) s b
        here true e = back_leaf s (ways t) (leaf_ways t e)
        here false e = back_branch s (ways t) (branch_ways t e)

    back_edges : (es : List (Slot × Tree)) → some (flat_map (λ e. collect (rises e.0) r (ways e.1)) es)
        ≡ back_at bs r (map (λ e. (e.0, below_of bs e.1)) es)
    back_edges [] = refl
    back_edges (e ∷ es) = some_append (collect (rises e.0) r (ways e.1))
        (flat_map (λ (x : Slot × Tree). collect (rises x.0) r (ways x.1)) es)
        ∙ ap₂ (λ (a b : Bool). a || b) (back_here e.0 e.1) (back_edges es)

-- REACH

not_has : (n : ℕ) → has n [] ≡ true → ⊥
not_has n h = true≢false (sym h)

module _ (bs : List BoxFace) (r : ℕ) (rs : List ℕ) where
  abbrev leads : Slot → Way → List ℕ
  leads s w = led_to bs (longer rs (s, w)).steps

  abbrev led : Way → List ℕ
  led w = led_to bs w.steps

  -- where the edge does not lead back, or no way does, it is what the ways give
  leads_plain : (s : Slot) (ws : List Way) → HaveEdges ws → (is_back bs s && any_back bs (to_root r ws)) ≡ false
      → collect (leads s) r ws ≡ collect led r ws
  leads_plain s [] h k = refl
  leads_plain s (w ∷ ws) h k = here (nat_eq r w.root) k (leads_plain s ws h.1)
    where
      step : (a c d x : Bool) → c ≡ d → (a && (c || x)) ≡ false → cond (a && d) rs (led w) ≡ led w
      step true true true x j k = absurd (true≢false k)
      step true false false x j k = refl
      step true true false x j k = absurd (true≢false j)
      step true false true x j k = absurd (true≢false (sym j))
      step false c d x j k = refl

      rest : (a c x : Bool) → (a && (c || x)) ≡ false → (a && x) ≡ false
      rest true true x k = absurd (true≢false k)
      rest true false x k = k
      rest false c x k = refl

      here : (m : Bool) → (is_back bs s && any_back bs (cond m (w ∷ to_root r ws) (to_root r ws))) ≡ false
          → ((is_back bs s && any_back bs (to_root r ws)) ≡ false → collect (leads s) r ws ≡ collect led r ws)
          → flat_map (leads s) (cond m (w ∷ to_root r ws) (to_root r ws))
          ≡ flat_map led (cond m (w ∷ to_root r ws) (to_root r ws))
      here true k f = ap₂ (λ (y z : List ℕ). y ++ z)
          (step (is_back bs s) (leads_back bs w.steps) (all_back bs w.steps) (any_back bs (to_root r ws))
          (edged_leads bs w.steps h.0) k)
          (f (rest (is_back bs s) (leads_back bs w.steps) (any_back bs (to_root r ws)) k))
      here false k f = f k

  -- nothing beyond the cell's roots
  leads_in : (s : Slot) (ws : List Way) → Within (collect led r ws) rs → Within (collect (leads s) r ws) rs
  leads_in s [] low n h = absurd (not_has n h)
  leads_in s (w ∷ ws) low n h = here (nat_eq r w.root) low h (leads_in s ws)
    where
      part : (a : Bool) → Within (led w) rs → has n (cond a rs (led w)) ≡ true → has n rs ≡ true
      part true l h = h
      part false l h = l n h

      here : (m : Bool) → Within (flat_map led (cond m (w ∷ to_root r ws) (to_root r ws))) rs
          → has n (flat_map (leads s) (cond m (w ∷ to_root r ws) (to_root r ws))) ≡ true
          → (Within (collect led r ws) rs → Within (collect (leads s) r ws) rs) → has n rs ≡ true
      here true low h f = elim (has_cases n (leads s w) (collect (leads s) r ws) h) [
        | inl i ↦ part (is_back bs s && all_back bs w.steps) (λ k x. low k (has_left k (led w) (collect led r ws) x)) i
        | inr j ↦ f (λ k x. low k (has_right k (led w) (collect led r ws) x)) n j
      ]
      here false low h f = f low n h

  -- all of them, where some way leads back
  leads_all : (s : Slot) (ws : List Way) → HaveEdges ws → (is_back bs s && any_back bs (to_root r ws)) ≡ true
      → Within rs (collect (leads s) r ws)
  leads_all s [] h k = absurd (none (is_back bs s) k)
    where
      none : (b : Bool) → (b && false) ≡ true → ⊥
      none true h = true≢false (sym h)
      none false h = true≢false (sym h)
  leads_all s (w ∷ ws) h k = here (nat_eq r w.root) k (leads_all s ws h.1)
    where
      step : (a c d x : Bool) → c ≡ d → (a && (c || x)) ≡ true → ((a && d) ≡ true) ⊎ ((a && x) ≡ true)
      step true true true x j k = inl refl
      step true false false x j k = inr k
      step true true false x j k = absurd (true≢false j)
      step true false true x j k = absurd (true≢false (sym j))
      step false c d x j k = absurd (true≢false (sym k))

      head : (a : Bool) → a ≡ true → (n : ℕ) → has n rs ≡ true → has n (cond a rs (led w)) ≡ true
      head true e n x = x
      head false e n x = absurd (true≢false (sym e))

      here : (m : Bool) → (is_back bs s && any_back bs (cond m (w ∷ to_root r ws) (to_root r ws))) ≡ true
          → ((is_back bs s && any_back bs (to_root r ws)) ≡ true → Within rs (collect (leads s) r ws))
          → Within rs (flat_map (leads s) (cond m (w ∷ to_root r ws) (to_root r ws)))
      here true k f n x = elim
          (step (is_back bs s) (leads_back bs w.steps) (all_back bs w.steps) (any_back bs (to_root r ws))
          (edged_leads bs w.steps h.0) k) [
            | inl i ↦ has_left n (leads s w) (collect (leads s) r ws) (head (is_back bs s && all_back bs w.steps) i n x)
            | inr j ↦ has_right n (leads s w) (collect (leads s) r ws) (f j n x)
          ]
      here false k f n x = f k n x

  -- the roots that the child's own mark reaches
  own_reach : (n : ℕ) (ws : List Way) → WaysIn (way_roots ws) ws → has n (mark bs ws r).reach ≡ has n (collect led r ws)
  own_reach n ws h = has_filter n (λ k. has k (collect led r ws)) (roots_met ws)
      ∙ ap (λ (b : Bool). b && has n (collect led r ws)) (has_once n (way_roots ws))
      ∙ last (has n (way_roots ws)) (has n (collect led r ws)) (collect_in bs (way_roots ws) r ws h n)
    where
      last : (a b : Bool) → (b ≡ true → a ≡ true) → (a && b) ≡ b
      last true b f = refl
      last false true f = absurd (true≢false (sym (f refl)))
      last false false f = refl

  reach_branch : (n : ℕ) (s : Slot) (ws : List Way) → HaveEdges ws → WaysIn (way_roots ws) ws → Within (way_roots ws) rs
      → has n (collect (leads s) r ws)
      ≡ has n (reach_in bs (once rs) (cond (has r (way_roots ws)) (Some (mark bs ws r)) None) s false)
  reach_branch n s ws h k low = here (has r (way_roots ws)) refl
    where
      inside : (c : Bool) → (is_back bs s && any_back bs (to_root r ws)) ≡ c → has n (collect (leads s) r ws)
          ≡ has n (cond c (once rs) (mark bs ws r).reach)
      inside true e = bool_same (has n (collect (leads s) r ws)) (has n rs)
          (leads_in s ws (λ i x. low i (collect_in bs (way_roots ws) r ws k i x)) n) (leads_all s ws h e n)
          ∙ sym (has_once n rs)
      inside false e = ap (λ (l : List ℕ). has n l) (leads_plain s ws h e) ∙ sym (own_reach n ws k)

      here : (b : Bool) → has r (way_roots ws) ≡ b → has n (collect (leads s) r ws)
          ≡ has n (reach_in bs (once rs) (cond b (Some (mark bs ws r)) None) s false)
      here true e = inside (is_back bs s && any_back bs (to_root r ws)) refl
      here false e = ap (λ (l : List Way). has n (flat_map (leads s) l)) (none_there r ws e)

  one_led : (n : ℕ) → collect led r (one bs r rs n) ≡ []
  one_led n = here (nat_eq r n)
    where
      here : (b : Bool) → flat_map led (cond b (one bs r rs n) []) ≡ []
      here true = refl
      here false = refl

  one_reach : (n k : ℕ) → has n (mark bs (one bs r rs k) r).reach ≡ false
  one_reach n k = has_filter n (λ i. has i (collect led r (one bs r rs k))) (roots_met (one bs r rs k))
      ∙ last (has n (roots_met (one bs r rs k))) (has n (collect led r (one bs r rs k)))
      (ap (λ (l : List ℕ). has n l) (one_led k))
    where
      last : (a b : Bool) → b ≡ false → (a && b) ≡ false
      last true b e = e
      last false b e = refl

  reach_one : (n : ℕ) (s : Slot) (k : ℕ) → has n (collect (leads s) r (one bs r rs k))
      ≡ has n
      (reach_in bs (once rs) (cond (has r (way_roots (one bs r rs k))) (Some (mark bs (one bs r rs k) r)) None) s true)
  reach_one n s k = here (nat_eq r k)
    where
      inside : (c : Bool) → has n (cond (c && true) rs [] ++ [])
          ≡ has n (cond (c && true) (once rs) (mark bs (one bs r rs k) r).reach)
      inside true = ap (λ (l : List ℕ). has n l) (append-nil rs) ∙ sym (has_once n rs)
      inside false = sym (one_reach n k)

      here : (b : Bool) → has n (flat_map (leads s) (cond b (one bs r rs k) []))
          ≡ has n (reach_in bs (once rs) (cond (b || false) (Some (mark bs (one bs r rs k) r)) None) s true)
      here true = inside (is_back bs s)
      here false = refl

  reach_leaf : (n : ℕ) (s : Slot) (ws : List Way) → IsLeafWays ws → has n (collect (leads s) r ws)
      ≡ has n (reach_in bs (once rs) (cond (has r (way_roots ws)) (Some (mark bs ws r)) None) s true)
  reach_leaf n s ws (inl e) =
      subst (λ (l : List Way). has n (collect (leads s) r l)
      ≡ has n (reach_in bs (once rs) (cond (has r (way_roots l)) (Some (mark bs l r)) None) s true)) (sym e) refl
  reach_leaf n s ws (inr h) =
      subst (λ (l : List Way). has n (collect (leads s) r l)
      ≡ has n (reach_in bs (once rs) (cond (has r (way_roots l)) (Some (mark bs l r)) None) s true)) (sym h.1)
      (reach_one n s h.0)

  reach_here : (n : ℕ) (s : Slot) (t : Tree) → Within (way_roots (ways t)) rs → has n (collect (leads s) r (ways t))
      ≡ has n (reach_in bs (once rs) (mark_of r (signature bs t)) s (is_leaf (out-Tree t).symbol))
  reach_here n s t low = here (is_leaf (out-Tree t).symbol) refl
      ∙ ap (λ (m : Option RefMark). has n (reach_in bs (once rs) m s (is_leaf (out-Tree t).symbol)))
      (sym (mark_here bs t r))
    where
      here : (b : Bool) → is_leaf (out-Tree t).symbol ≡ b → has n (collect (leads s) r (ways t))
          ≡ has n (reach_in bs (once rs) (cond (has r (way_roots (ways t))) (Some (mark bs (ways t) r)) None) s b)
      here true e = reach_leaf n s (ways t) (leaf_ways t e)
      here false e = reach_branch n s (ways t) (branch_ways t e) (tree_in t) low

  reach_edges : (n : ℕ) (es : List (Slot × Tree)) → EdgesIn rs es
      → has n (flat_map (λ e. collect (leads e.0) r (ways e.1)) es)
      ≡ has n (reach_at bs (once rs) r (map (λ e. (e.0, below_of bs e.1)) es))
  reach_edges n [] h = refl
  reach_edges n (e ∷ es) h =
      has_append n (collect (leads e.0) r (ways e.1))
      (flat_map (λ (x : Slot × Tree). collect (leads x.0) r (ways x.1)) es)
      ∙ ap₂ (λ (a b : Bool). a || b) (reach_here n e.0 e.1 h.0) (reach_edges n es h.1)
      ∙ sym
      (has_append n (reach_in bs (once rs) (mark_of r (signature bs e.1)) e.0 (is_leaf (out-Tree e.1).symbol))
      (reach_at bs (once rs) r (map (λ (x : Slot × Tree). (x.0, below_of bs x.1)) es)))

-- THE LAW

mark_roots : (bs : List BoxFace) (ws : List Way) (xs : List ℕ) → roots_in (map (mark bs ws) xs) ≡ xs
mark_roots bs ws [] = refl
mark_roots bs ws (x ∷ xs) = ap (λ (l : List ℕ). x ∷ l) (mark_roots bs ws xs)

roots_edges : (bs : List BoxFace) (es : List (Slot × Tree)) → cell_roots (map (λ e. (e.0, below_of bs e.1)) es)
    ≡ once (pair_roots (edge_ways es))
roots_edges bs es =
    ap (λ (l : List ℕ). once l)
    (flat_map-map (λ (e : Slot × Below). roots_in e.1.marks) (λ (e : Slot × Tree). (e.0, below_of bs e.1)) es)
    ∙ once_flat (λ (e : Slot × Tree). roots_in (signature bs e.1)) (λ (e : Slot × Tree). way_roots (ways e.1)) es
    (λ e. mark_roots bs (ways e.1) (roots_met (ways e.1))) []
    ∙ ap (λ (l : List ℕ). once l) (sym (edge_roots es))

abbrev made : ℕ → Bool → List ℕ → Bool → List ℕ → RefMark
made r many provided back reach = record { root = r; many = many; provided = provided; back = back; reach = reach }

pub same_made : (r : ℕ) (m n : Bool) (p q : List ℕ) (b c : Bool) (x y : List ℕ) → m ≡ n → p ≡ q → b ≡ c → x ≡ y
    → made r m p b x ≡ made r n q c y
same_made r m n p q b c x y e f g h = ap (λ (z : Bool). made r z p b x) e ∙ ap (λ (z : List ℕ). made r n z b x) f
    ∙ ap (λ (z : Bool). made r n q z x) g ∙ ap (λ (z : List ℕ). made r n q c z) h

module _ (bs : List BoxFace) (es : List (Slot × Tree)) where
  abbrev refers : List ℕ
  refers = pair_roots (edge_ways es)

  abbrev all_ways : List Way
  all_ways = map (longer refers) (edge_ways es)

  abbrev belows : List (Slot × Below)
  belows = map (λ e. (e.0, below_of bs e.1)) es

  all_met : roots_met all_ways ≡ once refers
  all_met = ap (λ (l : List ℕ). once l) (longer_roots refers (edge_ways es))

  mark_cell : (r : ℕ) → mark bs all_ways r ≡ cell_mark bs belows (once refers) r
  mark_cell r = same_made r _ _ _ _ _ _ _ _
      (count_same (length (to_root r all_ways)) (count_at r belows)
      (subst (λ (n : ℕ). IsCount n (count_at r belows))
      (ap (λ (l : List ℕ). length l) (sym (collect_edges tick r refers es)) ∙ ticks (to_root r all_ways))
      (count_edges bs r es))
      ∙ (let e : count_at r belows ≡ 0 + count_at r belows = omega arith in ap (λ (n : ℕ). nat_le 2 n) e)
      ∙ many_counts r false belows)
      (order_same (chain (equal (collect_edges (λ w. given bs w.steps) r refers es)) (provided_edges bs r refers es)))
      (any_some bs (to_root r all_ways)
      ∙ ap (λ (l : List ℕ). some l) (collect_edges (λ w. climbs bs w.steps) r refers es)
      ∙ back_edges bs r refers es)
      (ap (λ (l : List ℕ). filter (λ n. has n (collect (led bs r refers) r all_ways)) l) all_met
      ∙ filter_same (λ n. has n (collect (led bs r refers) r all_ways))
      (λ n. has n (reach_at bs (once refers) r belows)) (once refers)
      (λ n. ap (λ (l : List ℕ). has n l) (collect_edges (led bs r refers) r refers es)
      ∙ reach_edges bs r refers n es (all_in es)))

  pub map_same : {X Y : Type 0} (f g : X → Y) (xs : List X) → ((x : X) → f x ≡ g x) → map f xs ≡ map g xs
  map_same f g [] h = refl
  map_same f g (x ∷ xs) h = ap₂ (λ (y : _) (ys : List _). y ∷ ys) (h x) (map_same f g xs h)

  marks_edges : map (mark bs all_ways) (roots_met all_ways) ≡ cell_marks bs belows
  marks_edges =
      ap (λ (l : List ℕ). map (mark bs all_ways) l) all_met
      ∙ map_same (mark bs all_ways) (cell_mark bs belows (once refers)) (once refers) mark_cell
      ∙ ap (λ (l : List ℕ). map (cell_mark bs belows l) l) (sym (roots_edges bs es))

-- the law: the signature of a cell, from its slots and what stands below them
pub cell_signature : (bs : List BoxFace) (s : ℕ) (ds : List Datum) (ss : List Slot) (ts : List Tree)
    → signature bs (tree_of (Cell s ds ss) ts) ≡ cell_marks bs (edges ss (map (below_of bs) ts))
cell_signature bs s ds ss ts =
    ap (λ (ws : List Way). map (mark bs ws) (roots_met ws)) (cell_ways s ds ss ts)
    ∙ marks_edges bs (edges ss ts)
    ∙ ap (λ (l : List (Slot × Below)). cell_marks bs l) (sym (edges_map (below_of bs) ss ts))

same_tree : (y : Symbol) (ts : List Tree) (t : Tree) → record { symbol = y; children = ts } ≡ out-Tree t
    → tree_of y ts ≡ t
same_tree y ts t e = ap (λ (x : Tree-F Tree). roll-Tree x) e ∙ roll-out-Tree t

alone : (bs : List BoxFace) (n : ℕ) → map (mark bs (one bs n [] n)) (roots_met (one bs n [] n)) ≡ leaf_mark n ∷ []
alone bs n = let e = eq-eqb n n refl in rw e refl

-- the signature of any tree, from its symbol and what stands below it
pub tree_signature : (bs : List BoxFace) (t : Tree)
    → signature bs t ≡ marks_by bs (out-Tree t).symbol (map (below_of bs) (out-Tree t).children)
tree_signature bs t = here (out-Tree t).symbol refl
  where
    by_ways : (y : Symbol) → (out-Tree t).symbol ≡ y
        → signature bs t ≡ map (mark bs (ways_at y (map ways (out-Tree t).children)))
        (roots_met (ways_at y (map ways (out-Tree t).children)))
    by_ways y e = ap (λ (ws : List Way). map (mark bs ws) (roots_met ws))
        (ways_out t ∙ ap (λ (z : Symbol). ways_at z (map ways (out-Tree t).children)) e)

    here : (y : Symbol) → (out-Tree t).symbol ≡ y
        → signature bs t ≡ marks_by bs y (map (below_of bs) (out-Tree t).children)
    here Null e = by_ways Null e
    here Uninit e = by_ways Uninit e
    here Dangling e = by_ways Dangling e
    here (Ref r) e = by_ways (Ref r) e ∙ alone bs r
    here (Cell s ds ss) e = ap (λ (u : Tree). signature bs u)
        (sym
        (same_tree (Cell s ds ss) (out-Tree t).children t
        (ap (λ (y : Symbol). record { symbol = y; children = (out-Tree t).children }) (sym e))))
        ∙ cell_signature bs s ds ss (out-Tree t).children
