-- The fold of a dressed forest over a table: its references and insides.
use Rattle.std.proofs.Common.{◌≡◌, ◌<◌, inl, inr, ℕ, zero, suc, Bool, true, false, cond, nat_eq, if◌then◌else◌, List}
use Rattle.std.proofs.Common.{[], ◌∷◌, ◌++◌, flat_map, refl, sym, ap, subst, Option, Some, None}
use Rattle.std.proofs.Common.{slice_get, arith}
use Rattle.fore_base.specs.Lists.{IsIn, Every}
use Rattle.fore_base.specs.declared.store.Value.{Value}
use Rattle.fore_base.specs.declared.store.Value.TheVariants.{Cell, Dangling as DanglingValue}
use Rattle.fore_base.proofs.ListLemmas.{every_append, every_in, in_left}
use Rattle.fa_core.specs.declared.boxes.BoxDef.{BoxDef}
use Rattle.fa_core.specs.declared.faces.BoxFace.{BoxFace}
use Rattle.fa_core.specs.declared.forest.Forest.{Forest}
use Rattle.fa_core.specs.declared.forest.Target.{Target}
use Rattle.fa_core.specs.Boxes.{Boxes, faces_of}
use Rattle.fa_core.specs.Choices.{count}
use Rattle.fa_core.specs.Dressed.{Node, Parts, Nodes, node, no_parts, field, link, hook, no_nodes, more}
use Rattle.fa_core.specs.Dressed.{all_refs, forest_cells, nth_value, number, refs, refs_of, roots_of, cells}
use Rattle.fa_core.specs.Folding.{IsPart, IsPartWithin, taken_at}
use Rattle.fa_core.specs.Member.{InsidesOf, InsidesOfParts, OfForest, TreesOf}
use Rattle.fa_core.specs.Placed.{placed_parts}
use Rattle.fa_core.specs.References.{AllBelow}
use Rattle.fa_core.specs.Ways.{has}
use Rattle.fa_core.proofs.Placing.{insides_placed, refs_placed_parts, refs_put}
use Rattle.fa_split.proofs.SplitCells.{all_below, refers_well}
use Rattle.fa_unfold.specs.Opens.{Item, Opens}
use Rattle.fa_unfold.specs.Parts.{listed}
use Rattle.fa_unfold.specs.Sites.{IsOver}
use Rattle.fa_unfold.specs.Slots.{joined}
use Rattle.fa_unfold.specs.inner.Trees.{joined_parts, part_key}
use Rattle.fa_unfold.proofs.Joins.{joined_every, joined_same}
use Rattle.fa_unfold.proofs.OpenedFits.{IsSlotItem}
use Rattle.fa_unfold.proofs.OpenedOnce.{CellInside, tree_insides}
use Rattle.fa_unfold.proofs.PartItems.{list_refs, part_refs, slots_refs}
use Rattle.fa_unfold.proofs.PortTrees.{PartInside, insides_listed, insides_unlisted}
use Rattle.fa_core.proofs.Rearranging.{back, flat_mapped, flat_map-append, every_moved}
use Rattle.ta_core.specs.Auto.{Automaton}
use Rattle.fa_folding.specs.Folded.{each_node, left_parts, node_or, parts_of}
use Rattle.fa_folding.proofs.Folding.{ends_there, inside, kept_roots}
use Rattle.fa_folding.proofs.FoldedTrees.{edge_item, edge_parts, fold_opens, folded, folded_node}
use Rattle.fa_folding.proofs.FoldedTrees.{gained_parts, left_alone, moves, new}
use Rattle.fa_folding.proofs.Insides.{inside_is, numbered_at, part_is_inside}

-- References of trees by their place.

pub refs_there : (d : Nodes) (m r k : ℕ) → AllBelow m (all_refs d) → IsIn k (refs (node_or d r)) → k < m
refs_there no_nodes m r k l i = absurd i
refs_there (more n ns) m zero k l i = every_in (λ z. z < m) (refs n ++ all_refs ns) k l
    (in_left k (refs n) (all_refs ns) i)
refs_there (more n ns) m (suc r) k l i = refs_there ns m r k (right (refs n) l) i
  where
    right : (xs : List ℕ) → AllBelow m (xs ++ all_refs ns) → AllBelow m (all_refs ns)
    right [] h = h
    right (x ∷ xs) h = right xs h.1

-- a root whose value is a cell is there
value_there : (d : Nodes) (k c : ℕ) → nth_value (roots_of d) k ≡ Cell c → k < count d
value_there no_nodes k c e = absurd (not_cell e)
  where
    kind : Value → ℕ
    kind (Cell n) = 1
    kind v = 0

    not_cell : DanglingValue ≡ Cell c → ⊥
    not_cell q = let z : 0 ≡ 1 = ap kind q in omega (arith, z)
value_there (more n ns) zero c e = omega arith
value_there (more n ns) (suc k) c e = let l = value_there ns k c e in omega (arith, l)

each_refs : (P : ℕ → Type 0) (m : ℕ → Node) (rs : List ℕ) → ((r : ℕ) → IsIn r rs → Every P (refs (m r)))
    → Every P (all_refs (each_node m rs))
each_refs P m [] h = tt
each_refs P m (r ∷ rs) h =
    every_append P (refs (m r)) (all_refs (each_node m rs)) (h r (inl refl)) (each_refs P m rs (λ k i. h k (inr i)))

joined_refs : (P : ℕ → Type 0) (bs : List BoxFace) (ps qs : Parts) → Every P (refs_of ps) → Every P (refs_of qs)
    → Every P (refs_of (joined_parts bs ps qs))
joined_refs P bs ps qs h k =
    let r = flat_mapped part_refs (joined_same (part_key bs) (listed ps) (listed qs)) in
    let a : Every P (flat_map part_refs (listed qs) ++ flat_map part_refs (listed ps)) =
    every_append P (flat_map part_refs (listed qs)) (flat_map part_refs (listed ps))
    (subst (Every P) (slots_refs qs) k) (subst (Every P) (slots_refs ps) h) in
    subst (Every P) (sym (list_refs (joined (part_key bs) (listed ps) (listed qs))))
    (every_moved P (back r) (subst (Every P) (sym (flat_map-append part_refs (listed qs) (listed ps))) a))

left_insides : (T : List BoxDef) (fs : List ℕ) (ps : Parts) → InsidesOfParts T ps → InsidesOfParts T (left_parts fs ps)
left_insides T fs no_parts h = tt
left_insides T fs (field f e ps) h = here (has f fs) (left_insides T fs ps h.1)
  where
    here : (b : Bool) → InsidesOfParts T (left_parts fs ps)
        → InsidesOfParts T (cond b (left_parts fs ps) (field f e (left_parts fs ps)))
    here true k = k
    here false k = (h.0, k)
left_insides T fs (link b inside e ps) h = (h.0, h.1, left_insides T fs ps h.2)
left_insides T fs (hook b inside ps) h = (h.0, left_insides T fs ps h.1)

node_insides : (T : List BoxDef) (m : Node) → InsidesOf T m → InsidesOfParts T (parts_of m)
node_insides T (node c s ds ps) h = h

each_inside : (T : List BoxDef) (vs : List Value) (m : ℕ → Node) (rs : List ℕ)
    → ((r : ℕ) → IsIn r rs → InsidesOf T (m r)) → Every (CellInside T) (forest_cells vs (each_node m rs))
each_inside T vs m [] h = tt
each_inside T vs m (r ∷ rs) h =
    every_append (CellInside T) _ (forest_cells vs (each_node m rs)) (tree_insides T vs (m r) (h r (inl refl)))
    (each_inside T vs m rs (λ k i. h k (inr i)))

-- the trees of a dressed forest have insides of their boxes
insides_at : (T : List BoxDef) (autos : List Automaton) (d : Nodes) (r : ℕ) → TreesOf T autos d
    → InsidesOf T (node_or d r)
insides_at T [] no_nodes r h = tt
insides_at T [] (more n ns) r h = absurd h
insides_at T (a ∷ autos) no_nodes r h = absurd h
insides_at T (a ∷ autos) (more n ns) zero h = h.1
insides_at T (a ∷ autos) (more n ns) (suc r) h = insides_at T autos ns r h.2

module _ (t : Boxes) (F : Forest) (over : IsOver t F) (n i : ℕ) (def : BoxDef) (there : slice_get t.defs n ≡ Some def)
    (out : Option ℕ) (g : BoxDef) (p : IsPart (faces_of t.defs) F def i out g) (fit : IsPartWithin g def) (d : Nodes)
    (of : OfForest t.defs F d) where
  abbrev pub bs : List BoxFace
  bs = faces_of t.defs

  pub low : (r k : ℕ) → IsIn k (refs (node_or d r)) → k < count d
  low r k j = refs_there d (count d) r k (all_below t.defs F d (refers_well t.face F over.sound) of) j

  abbrev pub kept_there : List ℕ
  kept_there = kept_roots t.defs bs F def i out g p d of low

  abbrev pub e : Nodes
  e = folded t.defs bs F def i out g p d of low n

  abbrev pub edge : Item
  edge = edge_item t.defs bs F def i out g p d of low n out

  pub opens : Opens edge e d
  opens = fold_opens t.defs bs F def i out g p d of low n (ends_there t.defs bs F def i out g p d of low)

  edge_slot : (o : Option ℕ) → IsSlotItem (edge_item t.defs bs F def i out g p d of low n o)
  edge_slot None = tt
  edge_slot (Some j) = tt

  pub is_slot : IsSlotItem edge
  is_slot = edge_slot out

  abbrev f : ℕ → Target
  f = numbered_at (new t.defs bs F def i out g p d of low n)

  -- a kept root has a number below that of the roots
  pub new_below : (k : ℕ) → k < count d → (IsIn k p.inner → ⊥)
      → new t.defs bs F def i out g p d of low n k < count e
  new_below k l q = value_there e _ (number (node_or d k)) (moves t.defs bs F def i out g p d of low n k l q)

  abbrev Below : ℕ → Type 0
  Below k = k < count e

  put_below : (ks : List ℕ) → Every (λ k. (k < count d) × (IsIn k p.inner → ⊥)) ks
      → Every Below (flat_map (refs_put f) ks)
  put_below [] h = tt
  put_below (k ∷ ks) h = (new_below k h.0.0 h.0.1, put_below ks h.1)

  edge_below : (o : Option ℕ) → out ≡ o
      → Every Below (refs_of (edge_parts t.defs bs F def i out g p d of low n o))
  edge_below None q = tt
  edge_below (Some j) q =
      let w = ends_there t.defs bs F def i out g p d of low j q in (new_below j w.0 w.1, tt)

  gained_below : (r : ℕ) → Every Below (refs_of (gained_parts t.defs bs F def i out g p d of low n r))
  gained_below r = here (nat_eq i r)
    where
      here : (b : Bool)
          → Every Below (refs_of (if b then edge_parts t.defs bs F def i out g p d of low n out else no_parts))
      here true = edge_below out refl
      here false = tt

  -- the references are to roots that are there
  pub low_folded : AllBelow (count e) (all_refs e)
  low_folded = each_refs Below (folded_node t.defs bs F def i out g p d of low n) kept_there
      (λ r m.
      (let left = left_parts (taken_at p.ports r) (parts_of (node_or d r)) in
      joined_refs Below bs (placed_parts f left) (gained_parts t.defs bs F def i out g p d of low n r)
      (subst (Every Below) (sym (refs_placed_parts f left))
      (put_below (refs_of left) (left_alone t.defs bs F def i out g p d of low n r m)))
      (gained_below r)))

  edge_inside : (o : Option ℕ) → InsidesOfParts t.defs (edge_parts t.defs bs F def i out g p d of low n o)
  edge_inside None =
      ((def.inside.autos, inside_is t.defs n def there, part_is_inside t.defs bs F def i out g p fit d of), tt)
  edge_inside (Some j) =
      ((def.inside.autos, inside_is t.defs n def there, part_is_inside t.defs bs F def i out g p fit d of), tt, tt)

  gained_inside : (r : ℕ) → InsidesOfParts t.defs (gained_parts t.defs bs F def i out g p d of low n r)
  gained_inside r = here (nat_eq i r)
    where
      here : (b : Bool)
          → InsidesOfParts t.defs (if b then edge_parts t.defs bs F def i out g p d of low n out else no_parts)
      here true = edge_inside out
      here false = tt

  -- each inside is of its box
  pub node_inside : (r : ℕ) → InsidesOf t.defs (folded_node t.defs bs F def i out g p d of low n r)
  node_inside r =
      let left = left_parts (taken_at p.ports r) (parts_of (node_or d r)) in
      let a = insides_placed f t.defs (node 0 0 [] left)
      (left_insides t.defs (taken_at p.ports r) (parts_of (node_or d r))
      (node_insides t.defs (node_or d r) (insides_at t.defs F.autos d r of))) in
      insides_unlisted t.defs (joined (part_key bs) (listed (placed_parts f left))
      (listed (gained_parts t.defs bs F def i out g p d of low n r)))
      (joined_every (part_key bs) (PartInside t.defs) (listed (placed_parts f left))
      (listed (gained_parts t.defs bs F def i out g p d of low n r)) (insides_listed t.defs _ a)
      (insides_listed t.defs _ (gained_inside r)))

  pub insides_folded : Every (CellInside t.defs) (cells e)
  insides_folded = each_inside t.defs (roots_of e) (folded_node t.defs bs F def i out g p d of low n) kept_there
      (λ r m. node_inside r)
