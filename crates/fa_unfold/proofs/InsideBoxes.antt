-- The boxes of the items of an inside are those of its edges.
use Rattle.std.proofs.Common.{◌≡◌, inl, inr, ℕ, List, [], ◌∷◌, ◌++◌, refl, ap, ap₂, subst, ◌∙◌, flat_map}
use Rattle.fore_base.specs.Lists.{IsIn}
use Rattle.fore_base.specs.declared.store.Datum.{Datum}
use Rattle.fore_base.specs.declared.store.Value.{Value}
use Rattle.fore_base.specs.declared.store.Value.TheVariants.{Null, Uninit, Dangling, Cell}
use Rattle.fore_base.proofs.ListLemmas.{in_append, in_left, in_right}
use Rattle.fa_core.specs.Dressed.{Node, Parts, End, Nodes, node, no_parts, field, link, hook, under, leaf, no_nodes}
use Rattle.fa_core.specs.Dressed.{more}
use Rattle.fa_core.proofs.Rearranging.{flat_map-append}
use Rattle.fa_unfold.specs.Opens.{Item, tree_items, slot_items, end_items, forest_items, item_boxes}
use Rattle.fa_unfold.specs.Opens.{tree_boxes, slot_boxes, end_boxes, all_boxes}
use Rattle.fa_unfold.proofs.Opening.{port_items}

-- the boxes of two lists of items
pub both_boxes : (xs ys : List Item) (us ws : List ℕ) → flat_map item_boxes xs ≡ us → flat_map item_boxes ys ≡ ws
    → flat_map item_boxes (xs ++ ys) ≡ us ++ ws
both_boxes xs ys us ws a b = flat_map-append item_boxes xs ys ∙ ap₂ (λ (u w : List ℕ). u ++ w) a b

mutual
  pub tree_has : (vs : List Value) (n : Node) → flat_map item_boxes (tree_items vs n) ≡ tree_boxes n
  tree_has vs (node c s ds ps) = slots_have vs c ps

  pub slots_have : (vs : List Value) (c : ℕ) (ps : Parts) → flat_map item_boxes (slot_items vs c ps) ≡ slot_boxes ps
  slots_have vs c no_parts = refl
  slots_have vs c (field f e ps) =
      both_boxes (end_items vs e) (slot_items vs c ps) (end_boxes e) (slot_boxes ps) (end_has vs e)
      (slots_have vs c ps)
  slots_have vs c (link b i e ps) =
      ap (λ (z : List ℕ). b ∷ z)
      (both_boxes (end_items vs e) (slot_items vs c ps) (end_boxes e) (slot_boxes ps) (end_has vs e)
      (slots_have vs c ps))
  slots_have vs c (hook b i ps) = ap (λ (z : List ℕ). b ∷ z) (slots_have vs c ps)

  end_has : (vs : List Value) (e : End) → flat_map item_boxes (end_items vs e) ≡ end_boxes e
  end_has vs (under n) = tree_has vs n
  end_has vs (leaf t) = refl

pub trees_have : (vs : List Value) (d : Nodes) → flat_map item_boxes (forest_items vs d) ≡ all_boxes d
trees_have vs no_nodes = refl
trees_have vs (more n ns) =
    both_boxes (tree_items vs n) (forest_items vs ns) (tree_boxes n) (all_boxes ns) (tree_has vs n) (trees_have vs ns)

-- those of a port are among those of its slots
port_has : (vs : List Value) (v : Value) (ps : Parts) (b : ℕ) → IsIn b (flat_map item_boxes (port_items vs v ps))
    → IsIn b (slot_boxes ps)
port_has vs (Cell m) ps b i = subst (IsIn b) (slots_have vs m ps) i
port_has vs Null ps b i = absurd i
port_has vs Uninit ps b i = absurd i
port_has vs Dangling ps b i = absurd i

-- in two lists, one after the other
both_in : (xs ys : List Item) (us ws : List ℕ) (b : ℕ) → (IsIn b (flat_map item_boxes xs) → IsIn b us)
    → (IsIn b (flat_map item_boxes ys) → IsIn b ws) → IsIn b (flat_map item_boxes (xs ++ ys)) → IsIn b (us ++ ws)
both_in xs ys us ws b f g i =
    let k = subst (IsIn b) (flat_map-append item_boxes xs ys) i in
    elim (in_append b (flat_map item_boxes xs) (flat_map item_boxes ys) k) [
      | inl j ↦ in_left b us ws (f j)
      | inr j ↦ in_right b us ws (g j)
    ]

-- what a Link gains: the slots of both ports, and the inner trees
pub link_boxes : (us vs ws : List Value) (c : ℕ) (v : Value) (ps qs : Parts) (ns : Nodes) (c0 s0 : ℕ)
    (ds0 : List Datum) (c1 s1 : ℕ) (ds1 : List Datum) (b : ℕ)
    → IsIn b (flat_map item_boxes (slot_items us c ps ++ (port_items vs v qs ++ forest_items ws ns)))
    → IsIn b (all_boxes (more (node c0 s0 ds0 ps) (more (node c1 s1 ds1 qs) ns)))
link_boxes us vs ws c v ps qs ns c0 s0 ds0 c1 s1 ds1 b =
    both_in (slot_items us c ps) (port_items vs v qs ++ forest_items ws ns) (slot_boxes ps)
    (slot_boxes qs ++ all_boxes ns) b (subst (IsIn b) (slots_have us c ps))
    (both_in (port_items vs v qs) (forest_items ws ns) (slot_boxes qs) (all_boxes ns) b (port_has vs v qs b)
    (subst (IsIn b) (trees_have ws ns)))

-- and what a Hook gains
pub hook_boxes : (us ws : List Value) (c : ℕ) (ps : Parts) (ns : Nodes) (c0 s0 : ℕ) (ds0 : List Datum) (b : ℕ)
    → IsIn b (flat_map item_boxes (slot_items us c ps ++ forest_items ws ns))
    → IsIn b (all_boxes (more (node c0 s0 ds0 ps) ns))
hook_boxes us ws c ps ns c0 s0 ds0 b =
    both_in (slot_items us c ps) (forest_items ws ns) (slot_boxes ps) (all_boxes ns) b
    (subst (IsIn b) (slots_have us c ps)) (subst (IsIn b) (trees_have ws ns))
