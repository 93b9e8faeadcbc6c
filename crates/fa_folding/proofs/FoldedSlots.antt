-- The slots of folded cells, by the slots before: they stand in order, whichever trees are taken.
use Rattle.std.proofs.Common.{◌≡◌, ◌<◌, ℕ, zero, suc, Bool, true, false, cond, nat_eq, nat_le, if◌then◌else◌}
use Rattle.std.proofs.Common.{length, List, [], ◌∷◌, map, filter, refl, sym, ap, ap₂, subst, ◌∙◌, Option, Some}
use Rattle.std.proofs.Common.{None, slice_get, arith}
use Rattle.std.proofs.lemmas.Option.{none-some, same_Some, slice_get_within}
use Rattle.fore_base.specs.Lists.{IsIn, IsDistinct}
use Rattle.ta_core.specs.declared.symbol.Slot.{Slot}
use Rattle.ta_core.specs.declared.symbol.Slot.TheVariants.{Field, Link, Hook}
use Rattle.ta_core.specs.declared.tree.Tree.{Tree, out-Tree}
use Rattle.fa_core.specs.declared.boxes.BoxDef.{BoxDef}
use Rattle.fa_core.specs.declared.faces.BoxFace.{BoxFace}
use Rattle.fa_core.specs.declared.forest.Forest.{Forest}
use Rattle.fa_core.specs.Boxes.{Boxes, faces_of}
use Rattle.fa_core.specs.Choices.{all_numbers, bares, count}
use Rattle.fa_core.specs.Dressed.{Node, Parts, Nodes, node, no_parts, field, link, hook, no_nodes, more, cells, refs}
use Rattle.fa_core.specs.Dressed.{roots_of}
use Rattle.fa_core.specs.Filled.{Choice, IsInOrder}
use Rattle.fa_core.specs.Folding.{IsPart, IsPartWithin, symbol_slots, taken_at}
use Rattle.fa_core.specs.Member.{OfForest, bare, slots_of}
use Rattle.fa_core.proofs.Dressing.{bares_length, cell_top, dress_all, numbered_differ}
use Rattle.fa_core.proofs.FilledKept.{forest_numbers}
use Rattle.fa_core.proofs.Placing.{slots_placed}
use Rattle.fa_unfold.specs.Parts.{Part, FieldPart, LinkPart, HookPart, listed}
use Rattle.fa_unfold.specs.Sites.{IsOver}
use Rattle.fa_unfold.specs.Slots.{joined, put_in, slot_key}
use Rattle.fa_unfold.specs.inner.Trees.{joined_parts, part_key, part_slot, unlisted}
use Rattle.fa_unfold.proofs.EndStructs.{insides_of}
use Rattle.fa_folding.specs.Folded.{node_or, parts_of}
use Rattle.fa_core.proofs.SeenCells.{cell_number}
use Rattle.fa_merge.specs.Reordered.{counted}
use Rattle.fa_folding.proofs.Numbers.{in_counted, kept_in}
use Rattle.fa_folding.proofs.FoldedOrder.{is_other, parts_ordered, slots_left}
use Rattle.fa_folding.proofs.FoldedTables.{e, kept_there, low}
use Rattle.fa_folding.proofs.FoldedTrees.{edge_parts, folded_parts, gained_parts, new}
use Rattle.fa_folding.proofs.Insides.{numbered_at}

slots_unlisted : (xs : List Part) → slots_of (unlisted xs) ≡ map part_slot xs
slots_unlisted [] = refl
slots_unlisted (FieldPart f e ∷ xs) = ap (λ (z : List Slot). Field f ∷ z) (slots_unlisted xs)
slots_unlisted (LinkPart b k e ∷ xs) = ap (λ (z : List Slot). Link b ∷ z) (slots_unlisted xs)
slots_unlisted (HookPart b k ∷ xs) = ap (λ (z : List Slot). Hook b ∷ z) (slots_unlisted xs)

slots_listed : (ps : Parts) → map part_slot (listed ps) ≡ slots_of ps
slots_listed no_parts = refl
slots_listed (field f e ps) = ap (λ (z : List Slot). Field f ∷ z) (slots_listed ps)
slots_listed (link b k e ps) = ap (λ (z : List Slot). Link b ∷ z) (slots_listed ps)
slots_listed (hook b k ps) = ap (λ (z : List Slot). Hook b ∷ z) (slots_listed ps)

-- lists put together by keys, and what their items become
module _ {X Y : Type 0} (h : X → Y) (key : Y → ℕ) where
  pub put_mapped : (x : X) (xs : List X) → map h (put_in (λ z. key (h z)) x xs) ≡ put_in key (h x) (map h xs)
  put_mapped x [] = refl
  put_mapped x (y ∷ xs) = here (nat_le (key (h x)) (key (h y))) (put_mapped x xs)
    where
      here : (b : Bool) → map h (put_in (λ z. key (h z)) x xs) ≡ put_in key (h x) (map h xs)
          → map h (cond b (x ∷ (y ∷ xs)) (y ∷ put_in (λ z. key (h z)) x xs))
          ≡ cond b (h x ∷ (h y ∷ map h xs)) (h y ∷ put_in key (h x) (map h xs))
      here true r = refl
      here false r = ap (λ (z : List Y). h y ∷ z) r

  pub joined_mapped : (xs ys : List X) → map h (joined (λ z. key (h z)) xs ys) ≡ joined key (map h xs) (map h ys)
  joined_mapped xs [] = refl
  joined_mapped xs (y ∷ ys) = put_mapped y (joined (λ z. key (h z)) xs ys)
      ∙ ap (put_in key (h y)) (joined_mapped xs ys)

pub slots_joined : (bs : List BoxFace) (os qs : Parts) → slots_of (joined_parts bs os qs)
    ≡ joined (slot_key bs) (slots_of os) (slots_of qs)
slots_joined bs os qs =
    slots_unlisted (joined (part_key bs) (listed os) (listed qs))
    ∙ joined_mapped part_slot (slot_key bs) (listed os) (listed qs)
    ∙ ap₂ (λ (x y : List Slot). joined (slot_key bs) x y) (slots_listed os) (slots_listed qs)

-- the slot that is gained at the input
abbrev pub edge_slots : ℕ → Option ℕ → List Slot
edge_slots n None = Hook n ∷ []
edge_slots n (Some j) = Link n ∷ []

abbrev pub gained_slots : ℕ → ℕ → Option ℕ → ℕ → List Slot
gained_slots n i out r = if nat_eq i r then edge_slots n out else []

-- the slots of a cell after the fold, in their order
abbrev pub slots_after : List BoxFace → List ℕ → List Slot → List Slot → List Slot
slots_after bs fs gain ss = joined (slot_key bs) (filter (is_other fs) ss) gain

module _ (T : List BoxDef) (bs : List BoxFace) (F : Forest) (def : BoxDef) (i : ℕ) (out : Option ℕ) (g : BoxDef)
    (p : IsPart bs F def i out g) (d : Nodes) (of : OfForest T F d)
    (low : (r k : ℕ) → IsIn k (refs (node_or d r)) → k < count d) (n : ℕ) where
  gained_are : (r : ℕ) → slots_of (gained_parts T bs F def i out g p d of low n r) ≡ gained_slots n i out r
  gained_are r = here (nat_eq i r)
    where
      edge : (o : Option ℕ) → slots_of (edge_parts T bs F def i out g p d of low n o) ≡ edge_slots n o
      edge None = refl
      edge (Some j) = refl

      here : (b : Bool) → slots_of (cond b (edge_parts T bs F def i out g p d of low n out) no_parts)
          ≡ cond b (edge_slots n out) []
      here true = edge out
      here false = refl

  pub folded_slots : (r : ℕ) → slots_of (folded_parts T bs F def i out g p d of low n r)
      ≡ slots_after bs (taken_at p.ports r) (gained_slots n i out r) (slots_of (parts_of (node_or d r)))
  folded_slots r =
      slots_joined bs _ (gained_parts T bs F def i out g p d of low n r)
      ∙ ap₂ (λ (x y : List Slot). joined (slot_key bs) x y)
      (slots_placed (numbered_at (new T bs F def i out g p d of low n)) _
      ∙ slots_left (taken_at p.ports r) (parts_of (node_or d r))) (gained_are r)

pub node_slots : (m : Node) → symbol_slots (out-Tree (bare m)).symbol ≡ slots_of (parts_of m)
node_slots (node c s ds ps) = ap symbol_slots (cell_top c s ds ps)

pub tree_is : (d : Nodes) (ts : List Tree) (r : ℕ) (t : Tree) → bares d ≡ ts → slice_get ts r ≡ Some t
    → t ≡ bare (node_or d r)
tree_is d ts r t e h = here d r (subst (λ (z : List Tree). slice_get z r ≡ Some t) (sym e) h)
  where
    here : (d : Nodes) (r : ℕ) → slice_get (bares d) r ≡ Some t → t ≡ bare (node_or d r)
    here no_nodes r h = absurd (none-some t h)
    here (more n ns) zero h = sym (same_Some (bare n) t h)
    here (more n ns) (suc r) h = here ns r h

module _ (t : Boxes) (F : Forest) (over : IsOver t F) (n i : ℕ) (def : BoxDef) (there : slice_get t.defs n ≡ Some def)
    (out : Option ℕ) (g : BoxDef) (p : IsPart (faces_of t.defs) F def i out g) (fit : IsPartWithin g def) where
  -- whichever trees are taken, the slots of root r after the fold are in order
  pub fold_in_order : (ts : List Tree) → Choice F.autos ts → (r : ℕ) (u : Tree) → slice_get ts r ≡ Some u
      → (IsIn r p.inner → ⊥)
      → IsInOrder (faces_of t.defs) (slots_after (faces_of t.defs) (taken_at p.ports r) (gained_slots n i out r)
      (symbol_slots (out-Tree u).symbol))
  fold_in_order ts c r u h q =
      let filled = over.sound.well_formed.filled in
      let f = filled.trees ts c in
      let z = dress_all t.defs 0 F.autos ts f.tops over.ranked (insides_of t F over F.autos filled.rules) c f.are in
      let apart : IsDistinct (map cell_number (cells z.nodes)) =
      subst IsDistinct (sym (forest_numbers (roots_of z.nodes) z.nodes))
      (numbered_differ 0 (all_numbers z.nodes) z.cells) in
      let l = low t F over n i def there out g p fit z.nodes z.of in
      let e : u ≡ bare (node_or z.nodes r) = tree_is z.nodes ts r u z.trees h in
      let k : IsIn r (kept_there t F over n i def there out g p fit z.nodes z.of) =
      (let b = subst (λ (m : ℕ). r < m) (sym (ap length z.trees) ∙ bares_length z.nodes) (slice_get_within ts r u h) in
      kept_in p.inner (counted 0 (count z.nodes)) r q
      (in_counted 0 (count z.nodes) r (omega arith) (omega (arith, b)))) in
      let o = (parts_ordered t F over n i def there out g p fit z.nodes z.of apart r k).0 in
      subst (λ (ss : List Slot). IsInOrder (faces_of t.defs) (slots_after (faces_of t.defs) (taken_at p.ports r)
      (gained_slots n i out r) ss)) (sym (node_slots (node_or z.nodes r))
      ∙ ap (λ (v : Tree). symbol_slots (out-Tree v).symbol) (sym e))
      (subst (IsInOrder (faces_of t.defs))
      (folded_slots t.defs (faces_of t.defs) F def i out g p z.nodes z.of l n r) o)
