-- Slots that are taken and slots that are left: in dressed trees and in trees.
use Rattle.std.proofs.Common.{◌≡◌, ℕ, Bool, true, false, not, cond}
use Rattle.std.proofs.Common.{List, [], ◌∷◌, ◌++◌, map, flat_map, refl, ap, ap₂, append_assoc}
use Rattle.fore_base.specs.declared.store.Datum.{Datum}
use Rattle.fore_base.specs.declared.store.Value.{Value}
use Rattle.ta_core.specs.declared.symbol.Slot.{Slot}
use Rattle.ta_core.specs.declared.symbol.Slot.TheVariants.{Field, Link, Hook}
use Rattle.ta_core.specs.declared.symbol.Symbol.TheVariants.{Cell as CellSymbol}
use Rattle.ta_core.specs.declared.tree.Tree.{Tree, roll-Tree, out-roll-Tree}
use Rattle.fa_core.specs.Dressed.{Parts, node, no_parts, field, link, hook}
use Rattle.fa_core.specs.Dressed.{end_value, SeenField, SeenLink, SeenHook}
use Rattle.fa_core.specs.Folding.{places, top_places, cell_of, taken, left}
use Rattle.fa_core.specs.Member.{bare, bare_parts, bare_end, slots_of}
use Rattle.fa_core.specs.Rearranged.{Rearranged, empty, keep, chain}
use Rattle.fa_core.specs.Ways.{has}
use Rattle.fa_core.proofs.Rearranging.{after, exchange}
use Rattle.fa_unfold.specs.Opens.{Item, HasSlot, slot_items, end_items}
use Rattle.fa_folding.specs.Folded.{taken_parts, left_parts}

-- the slots of a cell, each with its child
abbrev pub part_places : Parts → List (Slot × List Tree)
part_places no_parts = []
part_places (field f e ps) = (Field f, bare_end e ∷ []) ∷ part_places ps
part_places (link b inside e ps) = (Link b, bare_end e ∷ []) ∷ part_places ps
part_places (hook b inside ps) = (Hook b, []) ∷ part_places ps

pub places_are : (ps : Parts) → places (slots_of ps) (bare_parts ps) ≡ part_places ps
places_are no_parts = refl
places_are (field f e ps) = ap (λ (z : List (Slot × List Tree)). (Field f, bare_end e ∷ []) ∷ z) (places_are ps)
places_are (link b inside e ps) = ap (λ (z : List (Slot × List Tree)). (Link b, bare_end e ∷ []) ∷ z) (places_are ps)
places_are (hook b inside ps) = ap (λ (z : List (Slot × List Tree)). (Hook b, []) ∷ z) (places_are ps)

pub top_places_are : (c s : ℕ) (ds : List Datum) (ps : Parts) → top_places (bare (node c s ds ps)) ≡ part_places ps
top_places_are c s ds ps = let e = out-roll-Tree
    (record { symbol = CellSymbol s ds (slots_of ps); children = bare_parts ps }) in rw e (places_are ps)

pub slots_are : (ps : Parts) → map (λ (p : Slot × List Tree). p.0) (part_places ps) ≡ slots_of ps
slots_are no_parts = refl
slots_are (field f e ps) = ap (λ (z : List Slot). Field f ∷ z) (slots_are ps)
slots_are (link b inside e ps) = ap (λ (z : List Slot). Link b ∷ z) (slots_are ps)
slots_are (hook b inside ps) = ap (λ (z : List Slot). Hook b ∷ z) (slots_are ps)

pub children_are : (ps : Parts) → flat_map (λ (p : Slot × List Tree). p.1) (part_places ps) ≡ bare_parts ps
children_are no_parts = refl
children_are (field f e ps) = ap (λ (z : List Tree). bare_end e ∷ z) (children_are ps)
children_are (link b inside e ps) = ap (λ (z : List Tree). bare_end e ∷ z) (children_are ps)
children_are (hook b inside ps) = children_are ps

-- a cell over the places of its slots
pub cell_is : (c s : ℕ) (ds : List Datum) (ps : Parts) → cell_of s ds (part_places ps) ≡ bare (node c s ds ps)
cell_is c s ds ps = ap₂ (λ (x : List Slot) (y : List Tree). roll-Tree
    (record { symbol = CellSymbol s ds x; children = y })) (slots_are ps) (children_are ps)

module _ (fs : List ℕ) where
  pub taken_places : (ps : Parts) → taken fs (part_places ps) ≡ part_places (taken_parts fs ps)
  taken_places no_parts = refl
  taken_places (field f e ps) = here (has f fs) (taken_places ps)
    where
      here : (b : Bool) → taken fs (part_places ps) ≡ part_places (taken_parts fs ps)
          → cond b ((Field f, bare_end e ∷ []) ∷ taken fs (part_places ps)) (taken fs (part_places ps))
          ≡ part_places (cond b (field f e (taken_parts fs ps)) (taken_parts fs ps))
      here true r = ap (λ (z : List (Slot × List Tree)). (Field f, bare_end e ∷ []) ∷ z) r
      here false r = r
  taken_places (link b inside e ps) = taken_places ps
  taken_places (hook b inside ps) = taken_places ps

  pub left_places : (ps : Parts) → left fs (part_places ps) ≡ part_places (left_parts fs ps)
  left_places no_parts = refl
  left_places (field f e ps) = here (has f fs) (left_places ps)
    where
      here : (b : Bool) → left fs (part_places ps) ≡ part_places (left_parts fs ps)
          → cond (not b) ((Field f, bare_end e ∷ []) ∷ left fs (part_places ps)) (left fs (part_places ps))
          ≡ part_places (cond b (left_parts fs ps) (field f e (left_parts fs ps)))
      here true r = r
      here false r = ap (λ (z : List (Slot × List Tree)). (Field f, bare_end e ∷ []) ∷ z) r
  left_places (link b inside e ps) = ap (λ (z : List (Slot × List Tree)). (Link b, bare_end e ∷ []) ∷ z)
      (left_places ps)
  left_places (hook b inside ps) = ap (λ (z : List (Slot × List Tree)). (Hook b, []) ∷ z) (left_places ps)

  -- the items of the slots are those of the taken and those of the left ones
  pub items_apart : (vs : List Value) (c : ℕ) (ps : Parts)
      → Rearranged (slot_items vs c ps) (slot_items vs c (taken_parts fs ps) ++ slot_items vs c (left_parts fs ps))
  items_apart vs c no_parts = empty
  items_apart vs c (field f e ps) = here (has f fs) (items_apart vs c ps)
    where
      one : List Item
      one = HasSlot c (SeenField f (end_value vs e)) ∷ end_items vs e

      here : (b : Bool) → Rearranged (slot_items vs c ps)
          (slot_items vs c (taken_parts fs ps) ++ slot_items vs c (left_parts fs ps))
          → Rearranged (slot_items vs c (field f e ps))
          (slot_items vs c (cond b (field f e (taken_parts fs ps)) (taken_parts fs ps)) ++ slot_items vs c
          (cond b (left_parts fs ps) (field f e (left_parts fs ps))))
      here true r = keep (HasSlot c (SeenField f (end_value vs e)))
          (rw (append_assoc (end_items vs e) (slot_items vs c (taken_parts fs ps))
          (slot_items vs c (left_parts fs ps))) (after (end_items vs e) r))
      here false r =
          let x = HasSlot c (SeenField f (end_value vs e)) ∷ end_items vs e in
          chain (after x r) (exchange x (slot_items vs c (taken_parts fs ps)) (slot_items vs c (left_parts fs ps)))
  items_apart vs c (link b inside e ps) =
      let x = HasSlot c (SeenLink b inside (end_value vs e)) ∷ end_items vs e in
      chain (after x (items_apart vs c ps))
      (exchange x (slot_items vs c (taken_parts fs ps)) (slot_items vs c (left_parts fs ps)))
  items_apart vs c (hook b inside ps) =
      let x = HasSlot c (SeenHook b inside) ∷ [] in
      chain (after x (items_apart vs c ps))
      (exchange x (slot_items vs c (taken_parts fs ps)) (slot_items vs c (left_parts fs ps)))

-- nothing is taken of no fields
pub none_taken : (ps : Parts) → taken_parts [] ps ≡ no_parts
none_taken no_parts = refl
none_taken (field f e ps) = none_taken ps
none_taken (link b inside e ps) = none_taken ps
none_taken (hook b inside ps) = none_taken ps
