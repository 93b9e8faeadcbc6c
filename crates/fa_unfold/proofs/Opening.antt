-- The facts are those of the items. Replacing an item by items with its facts changes no fact, and keeps every other
-- item.
use Rattle.std.proofs.Common.{◌≡◌, ◌⊎◌, inl, inr, ℕ, List, [], ◌∷◌, ◌++◌, refl, ap, ap₂, subst, flat_map}
use Rattle.fore_base.specs.Lists.{IsIn}
use Rattle.fore_base.specs.declared.store.Datum.{Datum}
use Rattle.fore_base.specs.declared.store.Value.{Value}
use Rattle.fore_base.specs.declared.store.Value.TheVariants.{Null, Uninit, Dangling, Cell}
use Rattle.fore_base.proofs.ListLemmas.{in_right}
use Rattle.fa_core.specs.Dressed.{Node, Parts, End, Nodes, node, no_parts, field, link, hook, under, leaf, no_nodes}
use Rattle.fa_core.specs.Dressed.{more, Fact, Head, Points, facts, tree_facts, slot_facts, end_facts, forest_facts}
use Rattle.fa_core.specs.Dressed.{port_facts, inside_facts, end_value, roots_of}
use Rattle.fa_core.specs.Rearranged.{Rearranged, chain}
use Rattle.fa_core.proofs.Rearranging.{back, flat_map-append, flat_mapped}
use Rattle.fa_core.proofs.Permuted.{in_rearranged}
use Rattle.fa_unfold.specs.Opens.{Item, tree_items, slot_items, end_items, forest_items, items, opened}
use Rattle.fa_unfold.specs.Opens.{Opens}

-- the facts of two lists of items
both_opened : (xs ys : List Item) (us ws : List Fact) → us ≡ flat_map opened xs → ws ≡ flat_map opened ys → us ++ ws
    ≡ flat_map opened (xs ++ ys)
both_opened xs ys us ws a b = rw (flat_map-append opened xs ys) (ap₂ (λ (u w : List Fact). u ++ w) a b)

mutual
  pub tree_opened : (vs : List Value) (n : Node) → tree_facts vs n ≡ flat_map opened (tree_items vs n)
  tree_opened vs (node c s ds ps) = ap (λ (z : List Fact). Head c s ds ∷ z) (slots_opened vs c ps)

  pub slots_opened : (vs : List Value) (c : ℕ) (ps : Parts) → slot_facts vs c ps ≡ flat_map opened (slot_items vs c ps)
  slots_opened vs c no_parts = refl
  slots_opened vs c (field f e ps) =
      ap (λ (z : List Fact). Points c f (end_value vs e) ∷ z)
      (both_opened (end_items vs e) (slot_items vs c ps) (end_facts vs e) (slot_facts vs c ps) (end_opened vs e)
      (slots_opened vs c ps))
  slots_opened vs c (link b inside e ps) =
      ap (λ (z : List Fact). inside_facts (Cell c ∷ (end_value vs e ∷ [])) inside ++ z)
      (both_opened (end_items vs e) (slot_items vs c ps) (end_facts vs e) (slot_facts vs c ps) (end_opened vs e)
      (slots_opened vs c ps))
  slots_opened vs c (hook b inside ps) =
      ap (λ (z : List Fact). inside_facts (Cell c ∷ []) inside ++ z) (slots_opened vs c ps)

  end_opened : (vs : List Value) (e : End) → end_facts vs e ≡ flat_map opened (end_items vs e)
  end_opened vs (under n) = tree_opened vs n
  end_opened vs (leaf t) = refl

pub trees_opened : (vs : List Value) (d : Nodes) → forest_facts vs [] d ≡ flat_map opened (forest_items vs d)
trees_opened vs no_nodes = refl
trees_opened vs (more n ns) =
    both_opened (tree_items vs n) (forest_items vs ns) (tree_facts vs n) (forest_facts vs [] ns) (tree_opened vs n)
    (trees_opened vs ns)

pub facts_opened : (d : Nodes) → facts d ≡ flat_map opened (items d)
facts_opened d = trees_opened (roots_of d) d

-- the items of the slots of a port that is this value; none where it is no cell
abbrev pub port_items : List Value → Value → Parts → List Item
port_items vs (Cell m) ps = slot_items vs m ps
port_items vs Null ps = []
port_items vs Uninit ps = []
port_items vs Dangling ps = []

pub port_opened : (vs : List Value) (v : Value) (c s : ℕ) (ds : List Datum) (ps : Parts)
    → port_facts vs v (node c s ds ps) ≡ flat_map opened (port_items vs v ps)
port_opened vs (Cell m) c s ds ps = slots_opened vs m ps
port_opened vs Null c s ds ps = refl
port_opened vs Uninit c s ds ps = refl
port_opened vs Dangling c s ds ps = refl

-- the same facts, so the same stores
pub opens_facts : (x : Item) (d e : Nodes) → Opens x d e → Rearranged (facts d) (facts e)
opens_facts x d e o =
    let l : Rearranged (flat_map opened (items d)) (opened x ++ flat_map opened o.others) =
    flat_mapped opened o.before in
    let r : Rearranged (flat_map opened (items e)) (flat_map opened o.gained ++ flat_map opened o.others) =
    subst (λ (z : List Fact). Rearranged (flat_map opened (items e)) z) (flat_map-append opened o.gained o.others)
    (flat_mapped opened o.after) in
    let s : Rearranged (flat_map opened (items e)) (opened x ++ flat_map opened o.others) =
    subst (λ (z : List Fact). Rearranged (flat_map opened (items e)) (z ++ flat_map opened o.others)) o.same r in
    rw (facts_opened d, facts_opened e) (chain l (back s))

-- each item but the opened one stays
pub opens_keeps : (x : Item) (d e : Nodes) → Opens x d e → (y : Item) → IsIn y (items d) → (y ≡ x) ⊎ IsIn y (items e)
opens_keeps x d e o y h = here (in_rearranged y o.before h)
  where
    here : IsIn y (x ∷ o.others) → (y ≡ x) ⊎ IsIn y (items e)
    here (inl p) = inl p
    here (inr k) = inr (in_rearranged y (back o.after) (in_right y o.gained o.others k))
