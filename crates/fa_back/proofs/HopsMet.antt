-- A root whose cell is reached by hops is met.
use Rattle.std.proofs.Common.{◌≡◌, ◌⊎◌, inl, inr, ℕ, Bool, true, false, ◌&&◌, List, [], ◌∷◌, ◌++◌}
use Rattle.std.proofs.Common.{map, refl, sym, ap, subst, ◌∙◌, Option, Some, None}
use Rattle.std.proofs.lemmas.Option.{none-some, same_Some}
use Rattle.fore_base.specs.Lists.{IsIn, IsDistinct}
use Rattle.fore_base.specs.declared.store.Value.{Value}
use Rattle.fore_base.specs.declared.store.Value.TheVariants.{Null as NullValue, Uninit as UninitValue}
use Rattle.fore_base.specs.declared.store.Value.TheVariants.{Dangling as DanglingValue, Cell}
use Rattle.fore_base.proofs.ListLemmas.{in_left, in_right, in_append, in_map}
use Rattle.ta_core.specs.declared.symbol.Slot.{Slot}
use Rattle.ta_core.specs.declared.symbol.Slot.TheVariants.{Field, Link}
use Rattle.fa_core.specs.declared.faces.BoxFace.{BoxFace}
use Rattle.fa_core.specs.declared.forest.Target.{Target}
use Rattle.fa_core.specs.declared.forest.Target.TheVariants.{Null, Uninit, Dangling, At}
use Rattle.fa_core.specs.Choices.{all_numbers, bares}
use Rattle.fa_core.specs.Dressed.{Node, Parts, End, Nodes, node, no_parts, field, link, hook, under, leaf}
use Rattle.fa_core.specs.Dressed.{end_value, value_in, nth_value, roots_of, number, refs, refs_of}
use Rattle.fa_core.specs.Dressed.{end_refs}
use Rattle.fa_core.specs.Member.{bare, bare_end}
use Rattle.fa_core.specs.Ways.{Way, ways, longer, is_back, back_of, all_back, leads_back, led_to}
use Rattle.fa_core.proofs.WaysOf.{tree_roots}
use Rattle.fa_back.specs.Reached.{RootReached, by_var, by_tree, by_way}
use Rattle.fa_back.specs.Reached.{node_at}
use Rattle.fa_back.specs.inner.Hops.{Hops, hop_var, hop_own, hop_down, hop_up, forest_own}
use Rattle.fa_back.specs.inner.Hops.{forest_edges}
use Rattle.fa_back.proofs.FactParts.{number_of, no_cell, node_root, root_node, var_target}
use Rattle.fa_back.proofs.MetHops.{at_tree}
use Rattle.fa_back.proofs.Sites.{Above, top, child_of, Site, site, num, tree_sites, part_sites, end_sites}
use Rattle.fa_back.proofs.Sites.{forest_sites, node_ends, ends_of, forest_nums, only_one, end_in_node, forest_child}
use Rattle.fa_back.proofs.Sites.{site_tree, tree_site, below_top, own_forest, edge_forest}
use Rattle.fa_back.proofs.WaysUp.{pairs, ways_node, ways_leaf, led_longer}

-- the cell leads up: from it a path of edges that lead back goes to a root that is met
module _ (bs : List BoxFace) (Met : ℕ → Type 0) where
  abbrev mutual
    pub WayUp : Node → Type 0
    WayUp (node c s ds ps) = PartsUp ps

    pub PartsUp : Parts → Type 0
    PartsUp no_parts = ⊥
    PartsUp (field f e ps) = PartsUp ps
    PartsUp (link b inside e ps) = ((back_of bs b ≡ true) × EndUp e) ⊎ PartsUp ps
    PartsUp (hook b inside ps) = PartsUp ps

    pub EndUp : End → Type 0
    EndUp (under n) = WayUp n
    EndUp (leaf Null) = ⊥
    EndUp (leaf Uninit) = ⊥
    EndUp (leaf Dangling) = ⊥
    EndUp (leaf (At k)) = Met k

  pub part_up : (ps : Parts) (b : ℕ) (e : End) → IsIn (Some b, e) (ends_of ps) → back_of bs b ≡ true → EndUp e
      → PartsUp ps
  part_up no_parts b e i t u = absurd i
  part_up (field f x ps) b e (inl i) t u = absurd (none-some b (sym (ap (λ (z : Option ℕ × End). z.0) i)))
  part_up (field f x ps) b e (inr i) t u = part_up ps b e i t u
  part_up (link g inside x ps) b e (inl i) t u =
      inl (
        ap (back_of bs) (same_Some g b (sym (ap (λ (z : Option ℕ × End). z.0) i))) ∙ t,
        subst EndUp (ap (λ (z : Option ℕ × End). z.1) i) u,
      )
  part_up (link g inside x ps) b e (inr i) t u = inr (part_up ps b e i t u)
  part_up (hook g inside ps) b e i t u = part_up ps b e i t u

  pub node_up : (n : Node) (b : ℕ) (e : End) → IsIn (Some b, e) (node_ends n) → back_of bs b ≡ true → EndUp e → WayUp n
  node_up (node c s ds ps) b e i t u = part_up ps b e i t u

  pair_up : (a b : Bool) → a ≡ true → b ≡ true → (a && b) ≡ true
  pair_up true b e h = h
  pair_up false b e h = e

  mutual
    -- a way of the tree that leads back as a whole
    pub up_way : (n : Node) → WayUp n → (w : Way) × IsIn w (ways (bare n)) × Met w.root
        × ((leads_back bs w.steps ≡ true) × ((k : ℕ) → IsIn k (refs n) → IsIn k (led_to bs w.steps))
        × (all_back bs w.steps ≡ true))
    up_way (node c s ds ps) u =
        let p = up_pair ps u in (
          longer (refs_of ps) p.0,
          rw (ways_node c s ds ps) (in_map (longer (refs_of ps)) p.0 (pairs ps) p.1),
          p.2,
          (p.3, λ k i. highest k p.0 p.3 i, p.3),
        )
      where
        highest : (k : ℕ) (p : Slot × Way) → (is_back bs p.0 && all_back bs p.1.steps) ≡ true → IsIn k (refs_of ps)
            → IsIn k (led_to bs (record { slot = p.0; refers = refs_of ps } ∷ p.1.steps))
        highest k p e i = rw e i

    pub up_pair : (ps : Parts) → PartsUp ps → (p : Slot × Way) × IsIn p (pairs ps) × Met p.1.root
        × ((is_back bs p.0 && all_back bs p.1.steps) ≡ true)
    up_pair no_parts u = absurd u
    up_pair (field f e ps) u = let p = up_pair ps u in
        (p.0, in_right p.0 (map (λ (w : Way). (Field f, w)) (ways (bare_end e))) (pairs ps) p.1, p.2, p.3)
    up_pair (link b inside e ps) (inl h) =
        let w = up_end_way e h.1 in (
          (Link b, w.0),
          in_left (Link b, w.0) (map (λ (y : Way). (Link b, y)) (ways (bare_end e))) (pairs ps)
              (in_map (λ (y : Way). (Link b, y)) w.0 (ways (bare_end e)) w.1),
          w.2,
          pair_up (back_of bs b) (all_back bs w.0.steps) h.0 w.3,
        )
    up_pair (link b inside e ps) (inr u) = let p = up_pair ps u in
        (p.0, in_right p.0 (map (λ (w : Way). (Link b, w)) (ways (bare_end e))) (pairs ps) p.1, p.2, p.3)
    up_pair (hook b inside ps) u = up_pair ps u

    pub up_end_way : (e : End) → EndUp e → (w : Way) × IsIn w (ways (bare_end e)) × Met w.root
        × (all_back bs w.steps ≡ true)
    up_end_way (under n) u = let w = up_way n u in (w.0, w.1, w.2, w.3.2)
    up_end_way (leaf Null) u = absurd u
    up_end_way (leaf Uninit) u = absurd u
    up_end_way (leaf Dangling) u = absurd u
    up_end_way (leaf (At k)) u = (record { root = k; steps = [] }, rw (ways_leaf k) (inl refl), u, refl)

  module _ (k : ℕ) (s : Site) (u : WayUp s.here) (here : IsIn k (refs s.here)) where
    -- one of the ways, of a root that is met, leads to root k, which is one of these roots
    abbrev LedWay : List Way → List ℕ → Type 0
    LedWay ws rs = ((w : Way) × IsIn w ws × Met w.root × IsIn k (led_to bs w.steps)) × IsIn k rs

    -- so does one with the slot at its top
    abbrev LedPair : List (Slot × Way) → List ℕ → Type 0
    LedPair ps rs = ((p : Slot × Way) × IsIn p ps × Met p.1.root × IsIn k (led_to bs p.1.steps)) × IsIn k rs

    -- a way through the slot y, or one through a later slot
    led_slot : (y : Slot) (ws : List Way) (later : List (Slot × Way)) (xs rs : List ℕ) → LedWay ws xs ⊎ LedPair later rs
        → LedPair (map (λ (w : Way). (y, w)) ws ++ later) (xs ++ rs)
    led_slot y ws later xs rs (inl w) = (
      (
        (y, w.0.0),
        in_left (y, w.0.0) (map (λ (v : Way). (y, v)) ws) later (in_map (λ (v : Way). (y, v)) w.0.0 ws w.0.1),
        w.0.2,
        w.0.3,
      ),
      in_left k xs rs w.1,
    )
    led_slot y ws later xs rs (inr p) = (
      (p.0.0, in_right p.0.0 (map (λ (v : Way). (y, v)) ws) later p.0.1, p.0.2, p.0.3),
      in_right k xs rs p.1,
    )

    mutual
      -- a way back to a cell in the tree leads, from the whole tree, to each root to which the cell's tree refers
      pub led_tree : (a : Above) (n : Node) → IsIn s (tree_sites a n) → LedWay (ways (bare n)) (refs n)
      led_tree a (node c h ds ps) (inl e) =
          let uu : WayUp (node c h ds ps) = subst (λ (z : Site). WayUp z.here) e u in
          let kk : IsIn k (refs_of ps) = subst (λ (z : Site). IsIn k (refs z.here)) e here in
          let w = up_way (node c h ds ps) uu in
          ((w.0, w.1, w.2, w.3.1 k kk), kk)
      led_tree a (node c h ds ps) (inr i) =
          let p = led_parts (node c h ds ps) ps i in (
            (
              longer (refs_of ps) p.0.0,
              rw (ways_node c h ds ps) (in_map (longer (refs_of ps)) p.0.0 (pairs ps) p.0.1),
              p.0.2,
              led_longer bs k (record { slot = p.0.0.0; refers = refs_of ps }) p.0.0.1.steps p.1 p.0.3,
            ),
            p.1,
          )

      led_parts : (z : Node) (ps : Parts) → IsIn s (part_sites z ps) → LedPair (pairs ps) (refs_of ps)
      led_parts z no_parts i = absurd i
      led_parts z (field f e ps) i = led_slot (Field f) (ways (bare_end e)) (pairs ps) (end_refs e) (refs_of ps)
          (elim (in_append s (end_sites z e) (part_sites z ps) i) [
            | inl j ↦ inl (led_end z e j)
            | inr j ↦ inr (led_parts z ps j)
          ])
      led_parts z (link b inside e ps) i = led_slot (Link b) (ways (bare_end e)) (pairs ps) (end_refs e) (refs_of ps)
          (elim (in_append s (end_sites z e) (part_sites z ps) i) [
            | inl j ↦ inl (led_end z e j)
            | inr j ↦ inr (led_parts z ps j)
          ])
      led_parts z (hook b inside ps) i = led_parts z ps i

      led_end : (z : Node) (e : End) → IsIn s (end_sites z e) → LedWay (ways (bare_end e)) (end_refs e)
      led_end z (under n) i = led_tree (child_of z) n i
      led_end z (leaf t) i = absurd i

-- why a cell is reached: it is a root that is met, or stands below such a cell, or leads up
pub data Fine (bs : List BoxFace) (Met : ℕ → Type 0) (S : List Site) : Site → Type 0 where
  fine_top : {s : Site} (j : ℕ) → s.above ≡ top j → Met j → Fine bs Met S s
  fine_below : {s : Site} (p : Site) → IsIn p S → s.above ≡ child_of p.here → Fine bs Met S p → Fine bs Met S s
  fine_way : {s : Site} → WayUp bs Met s.here → Fine bs Met S s

abbrev IsTop : Above → Type 0
IsTop (top j) = Unit {0}
IsTop (child_of n) = ⊥

abbrev top_of : Above → ℕ
top_of (top j) = j
top_of (child_of n) = 0

abbrev parent_of : Node → Above → Node
parent_of n (top j) = n
parent_of n (child_of m) = m

module _ (bs : List BoxFace) (targets : List Target) (d : Nodes) (differ : IsDistinct (all_numbers d)) where
  abbrev Met : ℕ → Type 0
  Met = RootReached bs targets (bares d)

  abbrev S : List Site
  S = forest_sites (λ i. i) d

  abbrev vs : List Value
  vs = roots_of d

  abbrev Hop : ℕ → Type 0
  Hop = Hops (map (value_in vs) targets) (forest_own vs d) (forest_edges bs vs d)

  abbrev Q : ℕ → Type 0
  Q n = (s : Site) × IsIn s S × (num s ≡ n) × Fine bs Met S s

  one : (s t : Site) → IsIn s S → IsIn t S → num s ≡ num t → s ≡ t
  one s t i j e = only_one num S s t (rw (forest_nums (λ i. i) d) differ) i j e

  root_fine : (k n : ℕ) → Met k → nth_value vs k ≡ Cell n → Q n
  root_fine k n h e =
      let x = root_node d k n e in (
        site (top k) x.0,
        tree_site (λ i. i) d k x.0 x.1,
        ap number_of (sym (node_root d k x.0 x.1) ∙ e),
        fine_top k refl h,
      )

  -- a root to which a fine cell's tree refers is met
  fine_refs : (s : Site) → IsIn s S → Fine bs Met S s → (k : ℕ) → IsIn k (refs s.here) → Met k
  fine_refs s i (fine_top j e h) k r =
      let x = site_tree (λ i. i) d s i in
      elim (below_top (top x.0) x.1 s x.3) [
        | inl y ↦ (let same : x.0 ≡ j = ap top_of (sym (ap (λ (z : Site). z.above) y) ∙ e) in
            by_tree j (bare s.here) h
            (at_tree d j s.here (subst (λ (z : ℕ). node_at d z ≡ Some s.here) same
            (x.2 ∙ ap (λ (z : Site). Some z.here) (sym y)))) (rw (tree_roots s.here) r))
        | inr y ↦ absurd (subst IsTop (sym e ∙ y.1) tt)
      ]
  fine_refs s i (fine_below p j e h) k r =
      let x = site_tree (λ i. i) d s i in
      elim (below_top (top x.0) x.1 s x.3) [
        | inl y ↦ absurd (subst IsTop (sym (ap (λ (z : Site). z.above) y) ∙ e) tt)
        | inr y ↦ (let same : y.0 ≡ p.here = ap (parent_of s.here) (sym y.1 ∙ e) in
            fine_refs p j h k (end_in_node p.here y.2.0 (under s.here) k
            (subst (λ (z : Node). IsIn (y.2.0, under s.here) (node_ends z)) same y.2.1) r))
      ]
  fine_refs s i (fine_way u) k r =
      let x = site_tree (λ i. i) d s i in
      let w = led_tree bs Met k s u r (top x.0) x.1 x.3 in
      by_way w.0.0.root x.0 w.0.2 (bare x.1, at_tree d x.0 x.1 x.2, (w.0.0, w.0.1, refl, inr w.0.3))

  -- a root whose cell is fine is met
  fine_root : (s : Site) → IsIn s S → Fine bs Met S s → (k : ℕ) → nth_value vs k ≡ Cell (num s) → Met k
  fine_root s i h k e =
      let x = root_node d k (num s) e in
      let t : s ≡ site (top k) x.0 = one s (site (top k) x.0) i (tree_site (λ i. i) d k x.0 x.1)
      (ap number_of (sym e ∙ node_root d k x.0 x.1)) in
      go x.0 x.1 (subst (Fine bs Met S) t h)
    where
      go : (x : Node) → node_at d k ≡ Some x → Fine bs Met S (site (top k) x) → Met k
      go x g (fine_top j y m) = subst Met (sym (ap top_of y)) m
      go x g (fine_below p j y m) = absurd (subst IsTop y tt)
      go x g (fine_way u) = let w = up_way bs Met x u in by_way w.0.root k w.2
          (bare x, at_tree d k x g, (w.0, w.1, refl, inl (refl, w.3.0)))

  -- the end of a fine cell's slot is fine
  end_fine : (s : Site) → IsIn s S → Fine bs Met S s → (o : Option ℕ) (e : End) (n : ℕ) → IsIn (o, e) (node_ends s.here)
      → end_value vs e ≡ Cell n → Q n
  end_fine s i h o (under u) n j e = (
    site (child_of s.here) u,
    forest_child (λ i. i) d s o u i j,
    ap number_of e,
    fine_below s i refl h,
  )
  end_fine s i h o (leaf Null) n j e = absurd (no_cell NullValue n e)
  end_fine s i h o (leaf Uninit) n j e = absurd (no_cell UninitValue n e)
  end_fine s i h o (leaf Dangling) n j e = absurd (no_cell DanglingValue n e)
  end_fine s i h o (leaf (At k)) n j e = root_fine k n
      (fine_refs s i h k (end_in_node s.here o (leaf (At k)) k j (inl refl))) e

  -- the cell above a fine end of an edge that leads back is fine
  up_fine : (s : Site) → IsIn s S → (b : ℕ) (e : End) (m : ℕ) → IsIn (Some b, e) (node_ends s.here) → back_of bs b
      ≡ true → end_value vs e ≡ Cell m → Q m → Fine bs Met S s
  up_fine s i b (under u) m j t e q =
      let c : IsIn (site (child_of s.here) u) S = forest_child (λ i. i) d s (Some b) u i j in
      let same : q.0 ≡ site (child_of s.here) u = one q.0 (site (child_of s.here) u) q.1 c
      (q.2 ∙ sym (ap number_of e)) in
      go (subst (Fine bs Met S) same q.3)
    where
      go : Fine bs Met S (site (child_of s.here) u) → Fine bs Met S s
      go (fine_top k y h) = absurd (subst IsTop (sym y) tt)
      go (fine_below p k y h) = subst (Fine bs Met S) (one p s k i (ap number (ap (parent_of s.here) (sym y)))) h
      go (fine_way w) = fine_way (node_up bs Met s.here b (under u) j t w)
  up_fine s i b (leaf Null) m j t e q = absurd (no_cell NullValue m e)
  up_fine s i b (leaf Uninit) m j t e q = absurd (no_cell UninitValue m e)
  up_fine s i b (leaf Dangling) m j t e q = absurd (no_cell DanglingValue m e)
  up_fine s i b (leaf (At k)) m j t e q =
      fine_way (node_up bs Met s.here b (leaf (At k)) j t
      (fine_root q.0 q.1 q.3 k (e ∙ ap (λ (z : ℕ). Cell z) (sym q.2))))

  pub hops_fine : (n : ℕ) → Hop n → Q n
  hops_fine n (hop_var i) = let k = var_target vs targets n i in root_fine k.0 n (by_var k.1) k.2
  hops_fine n (hop_own m f h i) =
      let q = hops_fine m h in
      let o = own_forest bs vs (λ i. i) d m f n i in
      let same : q.0 ≡ o.0 = one q.0 o.0 q.1 o.1 (q.2 ∙ o.2) in
      end_fine o.0 o.1 (subst (Fine bs Met S) same q.3) None o.3.0 n o.3.1 o.3.2
  hops_fine n (hop_down x i h e) =
      let q = hops_fine x.input h in
      let o = edge_forest bs vs (λ i. i) d x i in
      let same : q.0 ≡ o.0 = one q.0 o.0 q.1 o.1 (q.2 ∙ o.2) in
      elim o.3 [
        | inl y ↦ end_fine o.0 o.1 (subst (Fine bs Met S) same q.3) (Some y.0) y.1 n y.2 (sym y.3 ∙ e)
        | inr y ↦ absurd (no_cell DanglingValue n (sym y.0 ∙ e))
      ]
  hops_fine n (hop_up x m i t e h w) =
      let q = hops_fine m h in
      let o = edge_forest bs vs (λ i. i) d x i in
      elim o.3 [
        | inl y ↦ (o.0, o.1, sym (w ∙ o.2), up_fine o.0 o.1 y.0 y.1 m y.2 (sym y.4 ∙ t) (sym y.3 ∙ e) q)
        | inr y ↦ absurd (no_cell DanglingValue m (sym y.0 ∙ e))
      ]

  -- a root whose cell is reached by hops is met
  pub hops_met : (r n : ℕ) → nth_value (roots_of d) r ≡ Cell n → Hop n → Met r
  hops_met r n e h = let q = hops_fine n h in fine_root q.0 q.1 q.3 r (e ∙ ap (λ (z : ℕ). Cell z) (sym q.2))
