-- The law of folding, on dressed forests: where the part of a dressed forest is put inside a box edge, the edge opens
-- into the part again.
use Rattle.std.proofs.Common.{◌≡◌, inl, inr, ℕ, nat_eq, if◌then◌else◌}
use Rattle.std.proofs.Common.{List, [], ◌∷◌, ◌++◌, map, flat_map, refl, sym, ap, ap₂, subst, ◌∙◌, append_assoc}
use Rattle.fore_base.specs.Lists.{IsIn, Every, IsDistinct}
use Rattle.fore_base.specs.declared.store.Value.{Value}
use Rattle.fore_base.specs.declared.store.Value.TheVariants.{Cell}
use Rattle.fore_base.proofs.ListLemmas.{every_parts}
use Rattle.fa_core.specs.declared.forest.Target.{Target}
use Rattle.fa_core.specs.declared.forest.Target.TheVariants.{Null, Uninit, Dangling, At}
use Rattle.fa_core.specs.Choices.{count}
use Rattle.fa_core.specs.Dressed.{Node, Parts, End, Nodes, node, no_parts, field, link, hook, under, leaf, no_nodes}
use Rattle.fa_core.specs.Dressed.{more, number, nth_value, value_in, end_value, roots_of, with_ports, Fact, slot_facts}
use Rattle.fa_core.specs.Dressed.{forest_facts, inside_facts, refs, refs_of, end_refs}
use Rattle.fa_core.specs.Dressed.{leaf_refs}
use Rattle.fa_core.specs.Folding.{Ports, taken_at}
use Rattle.fa_core.specs.Placed.{placed_leaf, placed, placed_parts, placed_end}
use Rattle.fa_core.specs.Rearranged.{Rearranged, empty, keep, chain}
use Rattle.fa_core.proofs.Placing.{number_placed}
use Rattle.fa_core.proofs.Rearranging.{same, back, after, before, both, exchange, middle, flat_map-append}
use Rattle.fa_core.proofs.Rearranging.{flat_mapped}
use Rattle.fa_unfold.specs.Opens.{Item, IsCell, tree_items, slot_items, end_items, forest_items, items, opened}
use Rattle.fa_unfold.specs.Opens.{Opens, item_boxes, inside_boxes, all_boxes, tree_boxes, slot_boxes}
use Rattle.fa_unfold.proofs.InsideBoxes.{both_boxes, tree_has, slots_have}
use Rattle.fa_folding.proofs.PlacedBoxes.{tree_placed, slots_placed}
use Rattle.fa_folding.specs.Folded.{taken_parts, left_parts, shape_of, datums_of, parts_of, node_or, each_node}
use Rattle.fa_folding.specs.Folded.{root_cell, inside_of_part}
use Rattle.fa_merge.specs.Reordered.{counted}
use Rattle.fa_folding.proofs.Lists.{two_parts, by_root, AreIn, ArePartsApart, by_ports, once_there}
use Rattle.fa_unfold.proofs.Opening.{slots_opened, trees_opened}
use Rattle.fa_folding.proofs.Places.{items_apart, none_taken}
use Rattle.fa_merge.proofs.OtherOrders.{flat_later}

-- Other leaves that are what the references were.

module _ (f : ℕ → Target) (vs ws : List Value) where
  abbrev pub Agrees : ℕ → Type 0
  Agrees k = value_in ws (f k) ≡ nth_value vs k

  leaf_agrees : (t : Target) → Every Agrees (leaf_refs t) → value_in ws (placed_leaf f t) ≡ value_in vs t
  leaf_agrees Null h = refl
  leaf_agrees Uninit h = refl
  leaf_agrees Dangling h = refl
  leaf_agrees (At k) h = h.0

  end_agrees : (e : End) → Every Agrees (end_refs e) → end_value ws (placed_end f e) ≡ end_value vs e
  end_agrees (under n) h = ap Cell (number_placed f n)
  end_agrees (leaf t) h = leaf_agrees t h

  mutual
    pub node_agrees : (n : Node) → Every Agrees (refs n) → tree_items ws (placed f n) ≡ tree_items vs n
    node_agrees (node c s ds ps) h = ap (λ (z : List Item). IsCell c s ds ∷ z) (parts_agree c ps h)

    pub parts_agree : (c : ℕ) (ps : Parts) → Every Agrees (refs_of ps)
        → slot_items ws c (placed_parts f ps) ≡ slot_items vs c ps
    parts_agree c no_parts h = refl
    parts_agree c (field g e ps) h = let k = every_parts Agrees (end_refs e) (refs_of ps) h in
        rw (end_agrees e k.0, items_agree e k.0, parts_agree c ps k.1) refl
    parts_agree c (link b inside e ps) h = let k = every_parts Agrees (end_refs e) (refs_of ps) h in
        rw (end_agrees e k.0, items_agree e k.0, parts_agree c ps k.1) refl
    parts_agree c (hook b inside ps) h = rw (parts_agree c ps h) refl

    items_agree : (e : End) → Every Agrees (end_refs e) → end_items ws (placed_end f e) ≡ end_items vs e
    items_agree (under n) h = node_agrees n h
    items_agree (leaf t) h = refl

-- The trees of a list of roots.

pub whole_items : (vs : List Value) (d : Nodes)
    → forest_items vs d ≡ flat_map (λ k. tree_items vs (node_or d k)) (counted 0 (count d))
whole_items vs no_nodes = refl
whole_items vs (more n ns) = ap (λ (z : List Item). tree_items vs n ++ z)
    (whole_items vs ns ∙ sym (flat_later (λ k. tree_items vs (node_or (more n ns) k)) 0 (count ns)))

pub each_items : (vs : List Value) (g : ℕ → Node) (rs : List ℕ)
    → forest_items vs (each_node g rs) ≡ flat_map (λ r. tree_items vs (g r)) rs
each_items vs g [] = refl
each_items vs g (r ∷ rs) = ap (λ (z : List Item). tree_items vs (g r) ++ z) (each_items vs g rs)

-- as often, in whatever order, item by item
pub each_same : {X Y : Type 0} (h f : Y → List X) (ys : List Y) → ((y : Y) → IsIn y ys → Rearranged (h y) (f y))
    → Rearranged (flat_map h ys) (flat_map f ys)
each_same h f [] p = empty
each_same h f (y ∷ ys) p = both (p y (inl refl)) (each_same h f ys (λ z i. p z (inr i)))

-- One tree apart.

abbrev pub taken_items : List Value → Nodes → ℕ → List ℕ → List Item
taken_items vs d r fs = slot_items vs (number (node_or d r)) (taken_parts fs (parts_of (node_or d r)))

abbrev pub rest_items : List Value → Nodes → ℕ → List ℕ → List Item
rest_items vs d r fs = IsCell (number (node_or d r)) (shape_of (node_or d r))
    (datums_of (node_or d r)) ∷ slot_items vs (number (node_or d r)) (left_parts fs (parts_of (node_or d r)))

tree_apart : (vs : List Value) (n : Node) (fs : List ℕ)
    → Rearranged (tree_items vs n) (slot_items vs (number n) (taken_parts fs (parts_of n)) ++
    (IsCell (number n) (shape_of n) (datums_of n) ∷ slot_items vs (number n) (left_parts fs (parts_of n))))
tree_apart vs (node c s ds ps) fs = chain (keep (IsCell c s ds) (items_apart fs vs c ps))
    (back (middle (slot_items vs c (taken_parts fs ps)) (IsCell c s ds) (slot_items vs c (left_parts fs ps))))

pub none_items : (vs : List Value) (d : Nodes) (r : ℕ) → taken_items vs d r [] ≡ []
none_items vs d r = rw (none_taken (parts_of (node_or d r))) refl

-- The edge stands at the input alone.

abbrev pub one_edge : Item → ℕ → List ℕ → List Item
one_edge x r [] = []
one_edge x r (f ∷ fs) = x ∷ []

-- what the folded tree of root r has besides the slots that are left
abbrev pub edge_at : Item → ℕ → ℕ → List Item
edge_at x i r = if nat_eq i r then x ∷ [] else []

edge_once : (x : Item) (i : ℕ) (rs : List ℕ) → IsDistinct rs → IsIn i rs
    → Rearranged (flat_map (edge_at x i) rs) (x ∷ [])
edge_once x i rs d there = once_there (one_edge x) (λ r. refl) (i, 0 ∷ []) rs d there

-- The facts of an inside that is a part.

abbrev pub port_cells : Nodes → Ports → List Value
port_cells d ps = map (λ p. root_cell d p.0) ps

abbrev pub AsMany : Ports → List ℕ → Type 0
AsMany [] ss = Unit {0}
AsMany (p ∷ ps) [] = ⊥
AsMany (p ∷ ps) (s ∷ ss) = AsMany ps ss

module _ (f : ℕ → Target) (d : Nodes) (vin : List Value) where
  abbrev vs_of : List Value
  vs_of = roots_of d

  abbrev pub PortsAgree : Ports → Type 0
  PortsAgree [] = Unit {0}
  PortsAgree (p ∷ ps) = Every (Agrees f vs_of vin) (refs_of (taken_parts p.1 (parts_of (node_or d p.0))))
      × PortsAgree ps

  abbrev pub InnerAgree : List ℕ → Type 0
  InnerAgree [] = Unit {0}
  InnerAgree (r ∷ rs) = Every (Agrees f vs_of vin) (refs (node_or d r)) × InnerAgree rs

  inner_facts : (rs : List ℕ) → InnerAgree rs
      → forest_facts vin [] (each_node (λ r. placed f (node_or d r)) rs)
      ≡ flat_map opened (flat_map (λ r. tree_items vs_of (node_or d r)) rs)
  inner_facts rs h = trees_opened vin (each_node (λ r. placed f (node_or d r)) rs)
      ∙ ap (λ (z : List Item). flat_map opened z) (each_items vin (λ r. placed f (node_or d r)) rs ∙ same_each rs h)
    where
      same_each : (rs : List ℕ) → InnerAgree rs
          → flat_map (λ r. tree_items vin (placed f (node_or d r))) rs
          ≡ flat_map (λ r. tree_items vs_of (node_or d r)) rs
      same_each [] h = refl
      same_each (r ∷ rs) h = ap₂ (λ (x y : List Item). x ++ y) (node_agrees f vs_of vin (node_or d r) h.0)
          (same_each rs h.1)

  part_facts : (ps : Ports) (ss rs : List ℕ) → AsMany ps ss → PortsAgree ps → InnerAgree rs
      → forest_facts vin (port_cells d ps) (inside_of_part f d ps ss rs)
      ≡ flat_map opened (flat_map (λ p. taken_items vs_of d p.0 p.1) ps ++ flat_map
      (λ r. tree_items vs_of (node_or d r)) rs)
  part_facts [] ss rs m a b = inner_facts rs b
  part_facts (p ∷ ps) [] rs m a b = absurd m
  part_facts (p ∷ ps) (s ∷ ss) rs m a b =
      let c = number (node_or d p.0) in
      let qs = taken_parts p.1 (parts_of (node_or d p.0)) in
      let one : slot_facts vin c (placed_parts f qs) ≡ flat_map opened (slot_items vs_of c qs) =
      slots_opened vin c (placed_parts f qs)
      ∙ ap (λ (z : List Item). flat_map opened z) (parts_agree f vs_of vin c qs a.0) in
      ap₂ (λ (x y : List Fact). x ++ y) one (part_facts ps ss rs m a.1 b)
      ∙ sym (ap (λ (z : List Item). flat_map opened z)
      (append_assoc (slot_items vs_of c qs) (flat_map (λ p. taken_items vs_of d p.0 p.1) ps)
      (flat_map (λ r. tree_items vs_of (node_or d r)) rs))
      ∙ flat_map-append opened (slot_items vs_of c qs)
      (flat_map (λ p. taken_items vs_of d p.0 p.1) ps ++ flat_map (λ r. tree_items vs_of (node_or d r)) rs))

-- The boxes of the edges of an inside that is a part are those of what the part has.

module _ (f : ℕ → Target) (d : Nodes) (vs : List Value) where
  inner_boxes : (rs : List ℕ) → flat_map item_boxes (flat_map (λ r. tree_items vs (node_or d r)) rs)
      ≡ all_boxes (each_node (λ r. placed f (node_or d r)) rs)
  inner_boxes [] = refl
  inner_boxes (r ∷ rs) =
      both_boxes (tree_items vs (node_or d r)) (flat_map (λ r. tree_items vs (node_or d r)) rs)
      (tree_boxes (placed f (node_or d r))) (all_boxes (each_node (λ r. placed f (node_or d r)) rs))
      (tree_has vs (node_or d r) ∙ sym (tree_placed f (node_or d r))) (inner_boxes rs)

  part_boxes : (ps : Ports) (ss rs : List ℕ) → AsMany ps ss
      → flat_map item_boxes (flat_map (λ p. taken_items vs d p.0 p.1) ps ++ flat_map
      (λ r. tree_items vs (node_or d r)) rs) ≡ all_boxes (inside_of_part f d ps ss rs)
  part_boxes [] ss rs m = inner_boxes rs
  part_boxes (p ∷ ps) [] rs m = absurd m
  part_boxes (p ∷ ps) (s ∷ ss) rs m =
      let c = number (node_or d p.0) in
      let qs = taken_parts p.1 (parts_of (node_or d p.0)) in
      let others = flat_map (λ p. taken_items vs d p.0 p.1) ps in
      let below = flat_map (λ r. tree_items vs (node_or d r)) rs in
      ap (λ (z : List Item). flat_map item_boxes z) (append_assoc (slot_items vs c qs) others below)
      ∙ both_boxes (slot_items vs c qs) (others ++ below) (slot_boxes (placed_parts f qs))
      (all_boxes (inside_of_part f d ps ss rs)) (slots_have vs c qs ∙ sym (slots_placed f qs)) (part_boxes ps ss rs m)

-- The law.

-- The roots of d are those of the part's inside and those that are kept, the ports among these; the references of the
-- part agree with its inside; and the
-- tree g r of each kept root has the slots that are left there and, at the input i, the edge, whose inside is the part.
pub record IsFolding (d : Nodes) (ports : Ports) (shapes inner kept : List ℕ) (f : ℕ → Target) (i : ℕ) (edge : Item)
    (g : ℕ → Node) : Type 0 where
  pub all : Rearranged (counted 0 (count d)) (inner ++ kept)
  pub differ : IsDistinct kept
  pub input : IsIn i kept
  pub there : AreIn (taken_items (roots_of d) d) (none_items (roots_of d) d) kept ports
  pub apart : ArePartsApart (taken_items (roots_of d) d) (none_items (roots_of d) d) ports
  pub many : AsMany ports shapes
  pub ports_agree : PortsAgree f d (with_ports (port_cells d ports) (inside_of_part f d ports shapes inner)) ports
  pub inner_agree : InnerAgree f d (with_ports (port_cells d ports) (inside_of_part f d ports shapes inner)) inner
  pub edge_is : opened edge ≡ inside_facts (port_cells d ports) (inside_of_part f d ports shapes inner)
  pub boxes_are : inside_boxes edge ≡ all_boxes (inside_of_part f d ports shapes inner)
  pub trees : (r : ℕ) → IsIn r kept → Rearranged (tree_items (roots_of (each_node g kept)) (g r))
      (edge_at edge i r ++ rest_items (roots_of d) d r (taken_at ports r))

module _ (d : Nodes) (ports : Ports) (shapes inner kept : List ℕ) (f : ℕ → Target) (i : ℕ) (edge : Item)
    (g : ℕ → Node) (h : IsFolding d ports shapes inner kept f i edge g) where
  abbrev vs : List Value
  vs = roots_of d

  abbrev e : Nodes
  e = each_node g kept

  abbrev t : ℕ → List ℕ → List Item
  t = taken_items vs d

  abbrev whole : ℕ → List Item
  whole r = tree_items vs (node_or d r)

  abbrev rest : ℕ → List Item
  rest r = rest_items vs d r (taken_at ports r)

  abbrev others_of : List Item
  others_of = flat_map rest kept

  abbrev gained_of : List Item
  gained_of = flat_map (λ p. t p.0 p.1) ports ++ flat_map whole inner

  before_items : Rearranged (items e) (edge ∷ others_of)
  before_items =
      let a : Rearranged (flat_map (λ r. tree_items (roots_of e) (g r)) kept)
      (flat_map (λ r. edge_at edge i r ++ rest r) kept) =
      each_same (λ r. tree_items (roots_of e) (g r)) (λ r. edge_at edge i r ++ rest r) kept h.trees in
      let b : Rearranged (flat_map (λ r. edge_at edge i r ++ rest r) kept)
      (flat_map (edge_at edge i) kept ++ others_of) =
      two_parts (λ r. edge_at edge i r ++ rest r) (edge_at edge i) rest
      (λ r. same (edge_at edge i r ++ rest r)) kept in
      rw (each_items (roots_of e) g kept)
      (chain a (chain b (before others_of (edge_once edge i kept h.differ h.input))))

  after_items : Rearranged (items d) (gained_of ++ others_of)
  after_items =
      let a : Rearranged (items d) (flat_map whole inner ++ flat_map whole kept) =
      rw (whole_items vs d, sym (flat_map-append whole inner kept)) (flat_mapped whole h.all) in
      let b : Rearranged (flat_map whole kept) (flat_map (by_root t (none_items vs d) ports) kept ++ others_of) =
      two_parts whole (by_root t (none_items vs d) ports) rest
      (λ r. tree_apart vs (node_or d r) (taken_at ports r)) kept in
      let c : Rearranged (flat_map whole kept) (flat_map (λ p. t p.0 p.1) ports ++ others_of) =
      chain b (before others_of (by_ports t (none_items vs d) ports kept h.differ h.there h.apart)) in
      rw (append_assoc (flat_map (λ p. t p.0 p.1) ports) (flat_map whole inner) others_of)
      (chain a (chain (after (flat_map whole inner) c)
      (exchange (flat_map whole inner) (flat_map (λ p. t p.0 p.1) ports) others_of)))

  -- the edge of the folded forest opens into the part
  pub folding_opens : Opens edge e d
  folding_opens = record {
    others = others_of;
    gained = gained_of;
    before = before_items;
    after = after_items;
    same = sym (h.edge_is ∙ part_facts f d
        (with_ports (port_cells d ports)
        (inside_of_part f d ports shapes inner)) ports shapes inner h.many h.ports_agree h.inner_agree);
    inner = λ b i. subst (IsIn b) (part_boxes f d vs ports shapes inner h.many ∙ sym h.boxes_are) i;
  }
