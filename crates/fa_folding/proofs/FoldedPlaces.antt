-- The trees after a fold, with their slots: what a dressed forest becomes is what its trees become.
use Rattle.std.proofs.Common.{◌≡◌, ◌<◌, ◌+◌, ◌-◌, ℕ, zero, suc, nat_le, Bool, true, false, cond, nat_eq}
use Rattle.std.proofs.Common.{if◌then◌else◌, List, [], ◌∷◌, ◌++◌, map, refl, sym, ap, ap₂, subst, ◌∙◌}
use Rattle.std.proofs.Common.{Option, Some, None, slice_get, arith}
use Rattle.fore_base.specs.Lists.{IsIn}
use Rattle.ta_core.specs.declared.symbol.Slot.{Slot}
use Rattle.ta_core.specs.declared.symbol.Slot.TheVariants.{Field, Link, Hook}
use Rattle.ta_core.specs.declared.symbol.Symbol.TheVariants.{Cell as CellSymbol}
use Rattle.ta_core.specs.declared.tree.Tree.{Tree, out-Tree}
use Rattle.fa_core.specs.declared.boxes.BoxDef.{BoxDef}
use Rattle.fa_core.specs.declared.faces.BoxFace.{BoxFace}
use Rattle.fa_core.specs.declared.forest.Forest.{Forest}
use Rattle.fa_core.specs.Boxes.{Boxes, faces_of}
use Rattle.fa_core.specs.Choices.{bares, count}
use Rattle.fa_core.specs.Dressed.{Node, Parts, Nodes, node, no_parts, field, link, hook, no_nodes, more, refs}
use Rattle.fa_core.specs.Filled.{IsInOrder}
use Rattle.fa_core.specs.Folding.{IsPart, IsPartWithin}
use Rattle.fa_core.specs.Folding.{IsFoldedTree, box_slot, gained, left, moved_places}
use Rattle.fa_core.specs.Folding.{number_without, taken_at, top_places}
use Rattle.fa_core.specs.Member.{OfForest, bare, bare_end, slots_of}
use Rattle.fa_core.specs.Placed.{placed_parts}
use Rattle.fa_core.specs.Rearranged.{Rearranged}
use Rattle.fa_core.proofs.Dressing.{cell_top, choice_of}
use Rattle.fa_core.proofs.Rearranging.{mapped}
use Rattle.fa_core.proofs.WaysOf.{map-append}
use Rattle.fa_unfold.specs.Parts.{Part, FieldPart, LinkPart, HookPart, listed}
use Rattle.fa_unfold.specs.Sites.{IsOver}
use Rattle.fa_unfold.specs.Slots.{joined, put_in, slot_key}
use Rattle.fa_unfold.specs.inner.Trees.{joined_parts, part_key, unlisted}
use Rattle.fa_unfold.proofs.Joins.{joined_same}
use Rattle.fa_folding.specs.Folded.{datums_of, left_parts, node_or, parts_of, shape_of}
use Rattle.fa_folding.proofs.FoldedSlots.{joined_mapped, fold_in_order, folded_slots, gained_slots, node_slots}
use Rattle.fa_folding.proofs.FoldedSlots.{slots_after}
use Rattle.fa_folding.proofs.FoldedTables.{e, edge, kept_there, low}
use Rattle.fa_folding.proofs.FoldedTrees.{edge_parts, folded_node, folded_parts, gained_parts}
use Rattle.fa_folding.proofs.Insides.{numbered_at, places_moved}
use Rattle.fa_merge.specs.Reordered.{counted}
use Rattle.fa_folding.proofs.Numbers.{counted_above, in_kept}
use Rattle.fa_folding.proofs.Places.{cell_is, left_places, part_places, slots_are, top_places_are}

-- Slots with their children, put together.

abbrev place_of : Part → Slot × List Tree
place_of (FieldPart f e) = (Field f, bare_end e ∷ [])
place_of (LinkPart b k e) = (Link b, bare_end e ∷ [])
place_of (HookPart b k) = (Hook b, [])

places_unlisted : (xs : List Part) → part_places (unlisted xs) ≡ map place_of xs
places_unlisted [] = refl
places_unlisted (FieldPart f e ∷ xs) = ap (λ (z : List (Slot × List Tree)). (Field f, bare_end e ∷ []) ∷ z)
    (places_unlisted xs)
places_unlisted (LinkPart b k e ∷ xs) = ap (λ (z : List (Slot × List Tree)). (Link b, bare_end e ∷ []) ∷ z)
    (places_unlisted xs)
places_unlisted (HookPart b k ∷ xs) = ap (λ (z : List (Slot × List Tree)). (Hook b, []) ∷ z) (places_unlisted xs)

places_listed : (ps : Parts) → map place_of (listed ps) ≡ part_places ps
places_listed no_parts = refl
places_listed (field f e ps) = ap (λ (z : List (Slot × List Tree)). (Field f, bare_end e ∷ []) ∷ z) (places_listed ps)
places_listed (link b k e ps) = ap (λ (z : List (Slot × List Tree)). (Link b, bare_end e ∷ []) ∷ z) (places_listed ps)
places_listed (hook b k ps) = ap (λ (z : List (Slot × List Tree)). (Hook b, []) ∷ z) (places_listed ps)

joined_places : (bs : List BoxFace) (os qs : Parts)
    → Rearranged (part_places (joined_parts bs os qs)) (part_places qs ++ part_places os)
joined_places bs os qs =
    let r = mapped place_of (joined_same (part_key bs) (listed os) (listed qs)) in
    subst (λ (z : List (Slot × List Tree)). Rearranged z (part_places qs ++ part_places os))
    (sym (places_unlisted (joined (part_key bs) (listed os) (listed qs))))
    (subst (λ (z : List (Slot × List Tree)). Rearranged (map place_of (joined (part_key bs) (listed os) (listed qs))) z)
    (map-append place_of (listed qs) (listed os)
    ∙ ap₂ (λ (x y : List (Slot × List Tree)). x ++ y) (places_listed qs) (places_listed os)) r)

pub bare_got : (d : Nodes) (r : ℕ) → r < count d → slice_get (bares d) r ≡ Some (bare (node_or d r))
bare_got no_nodes r l = absurd (omega (arith, l))
bare_got (more n ns) zero l = refl
bare_got (more n ns) (suc r) l = bare_got ns r (omega (arith, l))

node_again : (m : Node) → (out-Tree (bare m)).symbol ≡ CellSymbol (shape_of m) (datums_of m) (slots_of (parts_of m))
node_again (node c s ds ps) = cell_top c s ds ps

pub node_places : (m : Node) → top_places (bare m) ≡ part_places (parts_of m)
node_places (node c s ds ps) = top_places_are c s ds ps

module _ (t : Boxes) (F : Forest) (over : IsOver t F) (n i : ℕ) (def : BoxDef) (there : slice_get t.defs n ≡ Some def)
    (out : Option ℕ) (g : BoxDef) (p : IsPart (faces_of t.defs) F def i out g) (fit : IsPartWithin g def) (d : Nodes)
    (of : OfForest t.defs F d) where
  abbrev bs : List BoxFace
  bs = faces_of t.defs

  abbrev lo : (r k : ℕ) → IsIn k (refs (node_or d r)) → k < count d
  lo = low t F over n i def there out g p fit d of

  abbrev k : Nodes
  k = e t F over n i def there out g p fit d of

  abbrev kept : List ℕ
  kept = kept_there t F over n i def there out g p fit d of

  abbrev m : ℕ → Node
  m = folded_node t.defs bs F def i out g p d of lo n

  abbrev f : ℕ → ℕ
  f = number_without p.inner

  abbrev parts : ℕ → Parts
  parts = folded_parts t.defs bs F def i out g p d of lo n

  pub gained_places : (r : ℕ) → part_places (gained_parts t.defs bs F def i out g p d of lo n r)
      ≡ gained (box_slot f n out) i r
  gained_places r = here (nat_eq i r)
    where
      edge : (o : Option ℕ) → part_places (edge_parts t.defs bs F def i out g p d of lo n o)
          ≡ box_slot f n o ∷ []
      edge None = refl
      edge (Some j) = refl

      here : (b : Bool) → part_places (cond b (edge_parts t.defs bs F def i out g p d of lo n out) no_parts)
          ≡ cond b (box_slot f n out ∷ []) []
      here true = edge out
      here false = refl

  pub kept_below : (r : ℕ) → IsIn r kept → r < count d
  kept_below r w =
      let z = in_kept p.inner (counted 0 (count d)) r w in
      let q = (counted_above 0 (count d) r z.1).1 in omega (arith, q)

  -- the tree of a kept root is the folded one
  pub is_folded : (r : ℕ) → IsIn r kept → IsFoldedTree bs f (gained (box_slot f n out) i r) (taken_at p.ports r)
      (bare (node_or d r)) (bare (m r))
  is_folded r w =
      let z = in_kept p.inner (counted 0 (count d)) r w in
      let own = parts_of (node_or d r) in
      let left_own = left_parts (taken_at p.ports r) own in
      let here : part_places (placed_parts (numbered_at f) left_own)
      ≡ moved_places f (left (taken_at p.ports r) (top_places (bare (node_or d r)))) =
      sym (places_moved f left_own)
      ∙ ap (moved_places f) (sym (left_places (taken_at p.ports r) own)
      ∙ ap (left (taken_at p.ports r)) (sym (node_places (node_or d r)))) in
      let o = fold_in_order t F over n i def there out g p fit (bares d) (choice_of t.defs F.autos d of) r
      (bare (node_or d r)) (bare_got d r (kept_below r w)) z.0 in
      record {
        shape = shape_of (node_or d r);
        datums = datums_of (node_or d r);
        slots = slots_of own;
        symbol = node_again (node_or d r);
        made = part_places (parts r);
        same = subst (λ (l : List (Slot × List Tree)). Rearranged (part_places (parts r)) l)
            (ap₂ (λ (a b : List (Slot × List Tree)). a ++ b) (gained_places r) here)
            (joined_places bs (placed_parts (numbered_at f) left_own)
            (gained_parts t.defs bs F def i out g p d of lo n r));
        order = subst (IsInOrder bs) (sym
            (slots_are (parts r) ∙ folded_slots t.defs bs F def i out g p d of lo n r))
            (subst (λ (ss : List Slot). IsInOrder bs
            (slots_after bs (taken_at p.ports r) (gained_slots n i out r) ss))
            (node_slots (node_or d r)) o);
        is = sym (cell_is 0 (shape_of (node_or d r)) (datums_of (node_or d r)) (parts r));
      }

-- lists put together by equal keys
put_keys : {X : Type 0} (key other : X → ℕ) → ((x : X) → key x ≡ other x) → (x : X) (ys : List X)
    → put_in key x ys ≡ put_in other x ys
put_keys key other h x [] = refl
put_keys {X} key other h x (y ∷ ys) =
    ap₂ (λ (a b : ℕ). if nat_le a b then x ∷ (y ∷ ys) else y ∷ put_in key x ys) (h x) (h y)
    ∙ ap (λ (z : List X). if nat_le (other x) (other y) then x ∷ (y ∷ ys) else y ∷ z) (put_keys key other h x ys)

joined_keys : {X : Type 0} (key other : X → ℕ) → ((x : X) → key x ≡ other x) → (xs ys : List X)
    → joined key xs ys ≡ joined other xs ys
joined_keys key other h xs [] = refl
joined_keys key other h xs (y ∷ ys) =
    put_keys key other h y (joined key xs ys) ∙ ap (put_in other y) (joined_keys key other h xs ys)

-- the key of a slot with its child
abbrev pub grown_key : List BoxFace → Slot × List Tree → ℕ
grown_key bs p = slot_key bs p.0

place_key_is : (bs : List BoxFace) (x : Part) → part_key bs x ≡ grown_key bs (place_of x)
place_key_is bs (FieldPart f e) = refl
place_key_is bs (LinkPart b k e) = refl
place_key_is bs (HookPart b k) = refl

-- the slots put together, with their children
pub joined_are : (bs : List BoxFace) (os qs : Parts) → part_places (joined_parts bs os qs)
    ≡ joined (grown_key bs) (part_places os) (part_places qs)
joined_are bs os qs =
    places_unlisted (joined (part_key bs) (listed os) (listed qs))
    ∙ ap (map place_of) (joined_keys (part_key bs) (λ x. grown_key bs (place_of x)) (place_key_is bs) (listed os)
    (listed qs))
    ∙ joined_mapped place_of (grown_key bs) (listed os) (listed qs)
    ∙ ap₂ (λ (x y : List (Slot × List Tree)). joined (grown_key bs) x y) (places_listed os) (places_listed qs)
