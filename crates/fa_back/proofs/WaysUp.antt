-- Ways of dressed trees, and where they lead.
use Rattle.std.proofs.Common.{◌≡◌, ◌⊎◌, inl, inr, ℕ, Bool, true, false, ◌&&◌, List, [], ◌∷◌}
use Rattle.std.proofs.Common.{map, refl, sym, ap, subst, ◌∙◌, true≢false}
use Rattle.std.proofs.Common.{if◌then◌else◌}
use Rattle.std.proofs.lemmas.Bool.{and_parts}
use Rattle.fore_base.specs.Lists.{IsIn, Every}
use Rattle.fore_base.specs.declared.store.Datum.{Datum}
use Rattle.fore_base.specs.declared.store.Value.{Value}
use Rattle.fore_base.specs.declared.store.Value.TheVariants.{Cell}
use Rattle.fore_base.proofs.ListLemmas.{in_left, in_right, in_append, in_mapped, every_append, every_in}
use Rattle.ta_core.specs.declared.symbol.Slot.{Slot}
use Rattle.ta_core.specs.declared.symbol.Slot.TheVariants.{Field, Link}
use Rattle.ta_core.specs.declared.symbol.Symbol.TheVariants.{Ref, Cell as CellSymbol}
use Rattle.fa_core.specs.declared.faces.BoxFace.{BoxFace}
use Rattle.fa_core.specs.declared.forest.Target.{Target}
use Rattle.fa_core.specs.declared.forest.Target.TheVariants.{Null, Uninit, Dangling, At}
use Rattle.fa_core.specs.Choices.{numbers, numbers_of, end_numbers}
use Rattle.fa_core.specs.Dressed.{Node, Parts, End, Nodes, node, no_parts, field, link, hook, under, leaf}
use Rattle.fa_core.specs.Dressed.{Fact, Points, end_value, nth_value, number, refs, refs_of, end_refs}
use Rattle.fa_core.specs.Member.{bare, bare_parts, bare_end, slots_of, leaf_symbol}
use Rattle.fa_core.specs.Ways.{Way, Step, ways, child_ways, longer, is_back, back_of, all_back, led_to}
use Rattle.fa_core.proofs.WaysOf.{rolled_ways, parts_roots}
use Rattle.fa_back.specs.inner.Hops.{Edge, Hops, hop_own, hop_down, hop_up, link_edge, tree_own}
use Rattle.fa_back.specs.inner.Hops.{part_own, end_own, tree_edges, part_edges, end_edges}
use Rattle.fa_back.proofs.FactParts.{number_of}

-- the ways of the slots, each with its slot
abbrev pub pairs : Parts → List (Slot × Way)
pairs ps = child_ways (slots_of ps) (map ways (bare_parts ps))

pub ways_node : (c s : ℕ) (ds : List Datum) (ps : Parts) → ways (bare (node c s ds ps))
    ≡ map (longer (refs_of ps)) (pairs ps)
ways_node c s ds ps =
    rolled_ways (record { symbol = CellSymbol s ds (slots_of ps); children = bare_parts ps })
    ∙ ap (λ (z : List ℕ). map (longer z) (pairs ps)) (parts_roots ps)

pub ways_leaf : (k : ℕ) → ways (bare_end (leaf (At k))) ≡ record { root = k; steps = [] } ∷ []
ways_leaf k = rolled_ways (record { symbol = Ref k; children = [] })

-- a way of a leaf is that of its reference
pub leaf_way : (t : Target) (w : Way) → IsIn w (ways (bare_end (leaf t))) → (t ≡ At w.root) × (w.steps ≡ [])
leaf_way Null w i = absurd (rw (rolled_ways (record { symbol = leaf_symbol Null; children = [] })) at i)
leaf_way Uninit w i = absurd (rw (rolled_ways (record { symbol = leaf_symbol Uninit; children = [] })) at i)
leaf_way Dangling w i = absurd (rw (rolled_ways (record { symbol = leaf_symbol Dangling; children = [] })) at i)
leaf_way (At k) w i = go (rw (ways_leaf k) at i)
  where
    go : IsIn w (record { root = k; steps = [] } ∷ []) → (At k ≡ At w.root) × (w.steps ≡ [])
    go (inl e) = (ap (λ (z : Way). At z.root) (sym e), ap (λ (z : Way). z.steps) e)
    go (inr e) = absurd e

-- a pair stands with the slot's end
pub in_pairs_field : (f : ℕ) (e : End) (ps : Parts) (p : Slot × Way) → IsIn p (pairs (field f e ps))
    → ((p.0 ≡ Field f) × IsIn p.1 (ways (bare_end e))) ⊎ IsIn p (pairs ps)
in_pairs_field f e ps p i = elim (in_append p (map (λ (w : Way). (Field f, w)) (ways (bare_end e))) (pairs ps) i) [
  | inl j ↦ (let k = in_mapped (λ (w : Way). (Field f, w)) p (ways (bare_end e)) j in inl
      (ap (λ (z : Slot × Way). z.0) k.2, subst (λ (z : Slot × Way). IsIn z.1 (ways (bare_end e))) (sym k.2) k.1))
  | inr j ↦ inr j
]

pub in_pairs_link : (b : ℕ) (inside : Nodes) (e : End) (ps : Parts) (p : Slot × Way)
    → IsIn p (pairs (link b inside e ps)) → ((p.0 ≡ Link b) × IsIn p.1 (ways (bare_end e))) ⊎ IsIn p (pairs ps)
in_pairs_link b inside e ps p i = elim (in_append p (map (λ (w : Way). (Link b, w)) (ways (bare_end e))) (pairs ps) i) [
  | inl j ↦ (let k = in_mapped (λ (w : Way). (Link b, w)) p (ways (bare_end e)) j in inl
      (ap (λ (z : Slot × Way). z.0) k.2, subst (λ (z : Slot × Way). IsIn z.1 (ways (bare_end e))) (sym k.2) k.1))
  | inr j ↦ inr j
]

-- the step above a way: where it leads
pub led_cases : (bs : List BoxFace) (k : ℕ) (s : Step) (ss : List Step) → IsIn k (led_to bs (s ∷ ss))
    → ((all_back bs (s ∷ ss) ≡ true) × IsIn k s.refers) ⊎ IsIn k (led_to bs ss)
led_cases bs k s ss h = go (all_back bs (s ∷ ss)) refl h
  where
    go : (b : Bool) → all_back bs (s ∷ ss) ≡ b → IsIn k (if b then s.refers else led_to bs ss)
        → ((all_back bs (s ∷ ss) ≡ true) × IsIn k s.refers) ⊎ IsIn k (led_to bs ss)
    go true e i = inl (e, i)
    go false e i = inr i

-- where a longer way leads: nothing is lost
pub led_longer : (bs : List BoxFace) (k : ℕ) (s : Step) (ss : List Step) → IsIn k s.refers → IsIn k (led_to bs ss)
    → IsIn k (led_to bs (s ∷ ss))
led_longer bs k s ss r h = go (all_back bs (s ∷ ss))
  where
    go : (b : Bool) → IsIn k (if b then s.refers else led_to bs ss)
    go true = r
    go false = h

module _ (bs : List BoxFace) (vars : List Value) (own : List Fact) (edges : List Edge) (vs : List Value) where
  abbrev pub H : ℕ → Type 0
  H = Hops vars own edges

  -- what a value names is reached
  abbrev pub VH : Value → Type 0
  VH v = (n : ℕ) → v ≡ Cell n → H n

  mutual
    -- where its top is reached, each cell of a tree is, and each root to which it refers
    pub hop_tree : (n : Node) → ((x : Fact) → IsIn x (tree_own vs n) → IsIn x own)
        → ((x : Edge) → IsIn x (tree_edges bs vs n) → IsIn x edges) → H (number n) → Every H (numbers n)
        × Every (λ k. VH (nth_value vs k)) (refs n)
    hop_tree (node c s ds ps) o g h = let k = hop_parts c ps (λ x i. o x (inr i)) g h in ((h, k.0), k.1)

    pub hop_parts : (c : ℕ) (ps : Parts) → ((x : Fact) → IsIn x (part_own vs c ps) → IsIn x own)
        → ((x : Edge) → IsIn x (part_edges bs vs c ps) → IsIn x edges) → H c → Every H (numbers_of ps)
        × Every (λ k. VH (nth_value vs k)) (refs_of ps)
    hop_parts c no_parts o g h = (tt, tt)
    hop_parts c (field f e ps) o g h =
        let there : IsIn (Points c f (end_value vs e)) own = o (Points c f (end_value vs e)) (inl refl) in
        let k = hop_end e (λ x i. o x (inr (in_left x (end_own vs e) (part_own vs c ps) i)))
        (λ x i. g x (in_left x (end_edges bs vs e) (part_edges bs vs c ps) i))
        (λ n w. hop_own c f h (rw w at there)) in
        let l = hop_parts c ps (λ x i. o x (inr (in_right x (end_own vs e) (part_own vs c ps) i)))
        (λ x i. g x (in_right x (end_edges bs vs e) (part_edges bs vs c ps) i)) h in (
          every_append H (end_numbers e) (numbers_of ps) k.0 l.0,
          every_append (λ j. VH (nth_value vs j)) (end_refs e) (refs_of ps) k.1 l.1,
        )
    hop_parts c (link b inside e ps) o g h =
        let there : IsIn (link_edge bs vs c b inside e) edges = g (link_edge bs vs c b inside e) (inl refl) in
        let k = hop_end e (λ x i. o x (in_left x (end_own vs e) (part_own vs c ps) i))
        (λ x i. g x (inr (in_left x (end_edges bs vs e) (part_edges bs vs c ps) i)))
        (λ n w. hop_down (link_edge bs vs c b inside e) there h w) in
        let l = hop_parts c ps (λ x i. o x (in_right x (end_own vs e) (part_own vs c ps) i))
        (λ x i. g x (inr (in_right x (end_edges bs vs e) (part_edges bs vs c ps) i))) h in (
          every_append H (end_numbers e) (numbers_of ps) k.0 l.0,
          every_append (λ j. VH (nth_value vs j)) (end_refs e) (refs_of ps) k.1 l.1,
        )
    hop_parts c (hook b inside ps) o g h = hop_parts c ps o (λ x i. g x (inr i)) h

    pub hop_end : (e : End) → ((x : Fact) → IsIn x (end_own vs e) → IsIn x own)
        → ((x : Edge) → IsIn x (end_edges bs vs e) → IsIn x edges) → VH (end_value vs e) → Every H (end_numbers e)
        × Every (λ k. VH (nth_value vs k)) (end_refs e)
    hop_end (under n) o g h = hop_tree n o g (h (number n) refl)
    hop_end (leaf Null) o g h = (tt, tt)
    hop_end (leaf Uninit) o g h = (tt, tt)
    hop_end (leaf Dangling) o g h = (tt, tt)
    hop_end (leaf (At k)) o g h = (tt, (h, tt))

  module _ (cells : (x : Edge) → IsIn x edges → x.back ≡ true → (m : ℕ) × (x.output ≡ Cell m)) where
    mutual
      -- where the root of a way is reached, so is the cell from which all of it leads back, and so are the roots to
      -- which the way back leads
      pub up_tree : (n : Node) → ((x : Fact) → IsIn x (tree_own vs n) → IsIn x own)
          → ((x : Edge) → IsIn x (tree_edges bs vs n) → IsIn x edges) → (w : Way) → IsIn w (ways (bare n))
          → VH (nth_value vs w.root) → (all_back bs w.steps ≡ true → H (number n))
          × ((k : ℕ) → IsIn k (led_to bs w.steps) → VH (nth_value vs k))
      up_tree (node c s ds ps) o g w i h =
          let j = in_mapped (longer (refs_of ps)) w (pairs ps) (rw (ways_node c s ds ps) at i) in
          let u = up_parts c ps (λ x i. o x (inr i)) g j.0 j.1 (subst (λ (z : Way). VH (nth_value vs z.root)) j.2 h) in
          subst (λ (z : Way). (all_back bs z.steps ≡ true → H c)
          × ((k : ℕ) → IsIn k (led_to bs z.steps) → VH (nth_value vs k))) (sym j.2) (
            u.0,
            λ k l. elim (led_cases bs k (record { slot = j.0.0; refers = refs_of ps }) j.0.1.steps l) [
              | inl x ↦ every_in (λ y. VH (nth_value vs y)) (refs_of ps) k
                  (hop_parts c ps (λ x i. o x (inr i)) g (u.0 x.0)).1 x.1
              | inr x ↦ u.1 k x
            ],
          )

      pub up_parts : (c : ℕ) (ps : Parts) → ((x : Fact) → IsIn x (part_own vs c ps) → IsIn x own)
          → ((x : Edge) → IsIn x (part_edges bs vs c ps) → IsIn x edges) → (p : Slot × Way) → IsIn p (pairs ps)
          → VH (nth_value vs p.1.root) → ((is_back bs p.0 && all_back bs p.1.steps) ≡ true → H c)
          × ((k : ℕ) → IsIn k (led_to bs p.1.steps) → VH (nth_value vs k))
      up_parts c no_parts o g p i h = absurd i
      up_parts c (field f e ps) o g p i h = elim (in_pairs_field f e ps p i) [
        | inl j ↦ (let u = up_end e (λ x i. o x (inr (in_left x (end_own vs e) (part_own vs c ps) i)))
            (λ x i. g x (in_left x (end_edges bs vs e) (part_edges bs vs c ps) i)) p.1 j.1 h in (
              λ b. absurd (true≢false (sym (and_parts (is_back bs p.0) (all_back bs p.1.steps) b).0
                  ∙ ap (is_back bs) j.0)),
              u.1,
            ))
        | inr j ↦ up_parts c ps (λ x i. o x (inr (in_right x (end_own vs e) (part_own vs c ps) i)))
            (λ x i. g x (in_right x (end_edges bs vs e) (part_edges bs vs c ps) i)) p j h
      ]
      up_parts c (link b inside e ps) o g p i h = elim (in_pairs_link b inside e ps p i) [
        | inl j ↦ (let u = up_end e (λ x i. o x (in_left x (end_own vs e) (part_own vs c ps) i))
            (λ x i. g x (inr (in_left x (end_edges bs vs e) (part_edges bs vs c ps) i))) p.1 j.1 h in (
              λ t. let q = and_parts (is_back bs p.0) (all_back bs p.1.steps) t in
                  let x : Edge = link_edge bs vs c b inside e in
                  let there : IsIn (link_edge bs vs c b inside e) edges = g (link_edge bs vs c b inside e) (inl refl) in
                  let backs : back_of bs b ≡ true = sym (ap (is_back bs) j.0) ∙ q.0 in
                  let m = cells (link_edge bs vs c b inside e) there backs in
                  hop_up (link_edge bs vs c b inside e) m.0 there backs m.1 (u.0 q.1 m.0 m.1) refl,
              u.1,
            ))
        | inr j ↦ up_parts c ps (λ x i. o x (in_right x (end_own vs e) (part_own vs c ps) i))
            (λ x i. g x (inr (in_right x (end_edges bs vs e) (part_edges bs vs c ps) i))) p j h
      ]
      up_parts c (hook b inside ps) o g p i h = up_parts c ps o (λ x i. g x (inr i)) p i h

      pub up_end : (e : End) → ((x : Fact) → IsIn x (end_own vs e) → IsIn x own)
          → ((x : Edge) → IsIn x (end_edges bs vs e) → IsIn x edges) → (w : Way) → IsIn w (ways (bare_end e))
          → VH (nth_value vs w.root) → (all_back bs w.steps ≡ true → VH (end_value vs e))
          × ((k : ℕ) → IsIn k (led_to bs w.steps) → VH (nth_value vs k))
      up_end (under n) o g w i h = let u = up_tree n o g w i h in
          (λ b m e. subst H (ap (λ (z : Value). number_of z) e) (u.0 b), u.1)
      up_end (leaf t) o g w i h = let j = leaf_way t w i in (
        λ b. subst (λ (z : Target). VH (end_value vs (leaf z))) (sym j.0) h,
        λ k l. absurd (subst (λ (z : List Step). IsIn k (led_to bs z)) j.1 l),
      )
