-- Cells with a child for each field and Link: their references are those of their children.
use Rattle.std.proofs.Common.{◌≡◌, inl, inr, ℕ, zero, suc, ◌+◌, true, true≢false, length, List, [], ◌∷◌, ◌++◌, map}
use Rattle.std.proofs.Common.{flat_map, refl, sym, ap, ap₂, ◌∙◌, slice_get, slice_set, Some, arith}
use Rattle.std.proofs.lemmas.List.{length-set}
use Rattle.std.proofs.lemmas.Option.{none-some, same_Some}
use Rattle.fore_base.specs.Lists.{IsIn}
use Rattle.ta_core.specs.Arity.{child_slots}
use Rattle.ta_core.specs.declared.symbol.Slot.{Slot}
use Rattle.ta_core.specs.declared.symbol.Slot.TheVariants.{Field, Link, Hook}
use Rattle.ta_core.specs.declared.symbol.Symbol.{Symbol}
use Rattle.ta_core.specs.declared.symbol.Symbol.TheVariants.{Null, Uninit, Dangling, Ref, Cell}
use Rattle.ta_core.specs.declared.tree.Tree.{Tree, Tree-F, out-Tree, out-roll-Tree}
use Rattle.fa_core.specs.Canonical.{at_fields, fields_under}
use Rattle.fa_core.specs.Rearranged.{often}
use Rattle.fa_core.specs.References.{tree_refs}
use Rattle.fa_core.specs.Ways.{Way, ways, ways_at, child_ways}
use Rattle.fa_core.proofs.Counts.{often_both}
use Rattle.fa_core.proofs.WayParts.{pair_roots, way_roots, ways_out, longer_roots, with_slot}
use Rattle.fa_core.proofs.WaysOf.{map-append, rolled_ways}
use Rattle.fa_canon.specs.inner.Cutting.{IsRankedCell, child_at, field_at, has_field_at, ref_leaf, with_child}

slot_roots : (s : Slot) (ws : List Way) → pair_roots (with_slot s ws) ≡ way_roots ws
slot_roots s [] = refl
slot_roots s (w ∷ ws) = ap (λ (z : List ℕ). w.root ∷ z) (slot_roots s ws)

child_roots : (ss : List Slot) (cs : List Tree) → length cs ≡ child_slots ss
    → pair_roots (child_ways ss (map ways cs)) ≡ flat_map tree_refs cs
child_roots [] [] e = refl
child_roots [] (c ∷ cs) e = let z : suc (length cs) ≡ 0 = e in absurd (omega (arith, z))
child_roots (Hook b ∷ ss) cs e = child_roots ss cs e
child_roots (Field f ∷ ss) [] e = let z : 0 ≡ child_slots ss + 1 = e in absurd (omega (arith, z))
child_roots (Field f ∷ ss) (c ∷ cs) e =
    let z : suc (length cs) ≡ child_slots ss + 1 = e in
    map-append (λ (p : Slot × Way). p.1.root) (with_slot (Field f) (ways c)) (child_ways ss (map ways cs))
    ∙ ap₂ (λ (x y : List ℕ). x ++ y) (slot_roots (Field f) (ways c)) (child_roots ss cs (omega (arith, z)))
child_roots (Link b ∷ ss) [] e = let z : 0 ≡ child_slots ss + 1 = e in absurd (omega (arith, z))
child_roots (Link b ∷ ss) (c ∷ cs) e =
    let z : suc (length cs) ≡ child_slots ss + 1 = e in
    map-append (λ (p : Slot × Way). p.1.root) (with_slot (Link b) (ways c)) (child_ways ss (map ways cs))
    ∙ ap₂ (λ (x y : List ℕ). x ++ y) (slot_roots (Link b) (ways c)) (child_roots ss cs (omega (arith, z)))

-- the references of such a cell are those of its children
pub cell_refs : (t : Tree) → IsRankedCell t → tree_refs t ≡ flat_map tree_refs (out-Tree t).children
cell_refs t h =
    let cs = (out-Tree t).children in
    let e : ways t ≡ ways_at (Cell h.shape h.datums h.slots) (map ways cs) = ways_out t
    ∙ ap (λ (y : Symbol). ways_at y (map ways cs)) h.symbol in
    ap way_roots e ∙ longer_roots (pair_roots (child_ways h.slots (map ways cs))) (child_ways h.slots (map ways cs))
    ∙ child_roots h.slots cs h.many

-- The children at the ends of fields, by their places.

slot_field : (ss : List Slot) (cs : List Tree) (q : ℕ) (u : Tree) → field_at ss q ≡ true → slice_get cs q ≡ Some u
    → IsIn u (at_fields ss cs)
slot_field [] cs q u h e = absurd (true≢false (sym h))
slot_field (Hook b ∷ ss) cs q u h e = slot_field ss cs q u h e
slot_field (Field f ∷ ss) [] q u h e = absurd (none-some u e)
slot_field (Field f ∷ ss) (c ∷ cs) zero u h e = inl (sym (same_Some c u e))
slot_field (Field f ∷ ss) (c ∷ cs) (suc q) u h e = inr (slot_field ss cs q u h e)
slot_field (Link b ∷ ss) [] q u h e = absurd (none-some u e)
slot_field (Link b ∷ ss) (c ∷ cs) zero u h e = absurd (true≢false (sym h))
slot_field (Link b ∷ ss) (c ∷ cs) (suc q) u h e = slot_field ss cs q u h e

field_slot : (ss : List Slot) (cs : List Tree) (u : Tree) → IsIn u (at_fields ss cs) → (q : ℕ)
    × (field_at ss q ≡ true) × (slice_get cs q ≡ Some u)
field_slot [] cs u i = absurd i
field_slot (Hook b ∷ ss) cs u i = field_slot ss cs u i
field_slot (Field f ∷ ss) [] u i = absurd i
field_slot (Field f ∷ ss) (c ∷ cs) u (inl e) = (0, refl, ap Some (sym e))
field_slot (Field f ∷ ss) (c ∷ cs) u (inr i) = let k = field_slot ss cs u i in (suc k.0, k.1, k.2)
field_slot (Link b ∷ ss) [] u i = absurd i
field_slot (Link b ∷ ss) (c ∷ cs) u i = let k = field_slot ss cs u i in (suc k.0, k.1, k.2)

pub at_field : (y : Symbol) (cs : List Tree) (q : ℕ) (u : Tree) → has_field_at y q ≡ true → slice_get cs q ≡ Some u
    → IsIn u (fields_under y cs)
at_field Null cs q u h e = absurd (true≢false (sym h))
at_field Uninit cs q u h e = absurd (true≢false (sym h))
at_field Dangling cs q u h e = absurd (true≢false (sym h))
at_field (Ref r) cs q u h e = absurd (true≢false (sym h))
at_field (Cell s ds ss) cs q u h e = slot_field ss cs q u h e

pub field_place : (y : Symbol) (cs : List Tree) (u : Tree) → IsIn u (fields_under y cs) → (q : ℕ)
    × (has_field_at y q ≡ true) × (slice_get cs q ≡ Some u)
field_place Null cs u i = absurd i
field_place Uninit cs u i = absurd i
field_place Dangling cs u i = absurd i
field_place (Ref r) cs u i = absurd i
field_place (Cell s ds ss) cs u i = field_slot ss cs u i

-- the reference of a leaf
pub leaf_ref : (r : ℕ) → tree_refs (ref_leaf r) ≡ r ∷ []
leaf_ref r = ap way_roots (rolled_ways (record { symbol = Ref r; children = [] }))

pub leaf_symbol : (r : ℕ) → (out-Tree (ref_leaf r)).symbol ≡ Ref r
leaf_symbol r = ap (λ (x : Tree-F Tree). x.symbol) (out-roll-Tree (record { symbol = Ref r; children = [] }))

-- Another child.

pub put_symbol : (t : Tree) (p : ℕ) (u : Tree) → (out-Tree (with_child t p u)).symbol ≡ (out-Tree t).symbol
put_symbol t p u = ap (λ (x : Tree-F Tree). x.symbol)
    (out-roll-Tree (record { symbol = (out-Tree t).symbol; children = slice_set (out-Tree t).children p u }))

pub put_children : (t : Tree) (p : ℕ) (u : Tree) → (out-Tree (with_child t p u)).children
    ≡ slice_set (out-Tree t).children p u
put_children t p u = ap (λ (x : Tree-F Tree). x.children)
    (out-roll-Tree (record { symbol = (out-Tree t).symbol; children = slice_set (out-Tree t).children p u }))

pub put_cell : (t : Tree) (p : ℕ) (u : Tree) → IsRankedCell t → IsRankedCell (with_child t p u)
put_cell t p u h = record {
  shape = h.shape;
  datums = h.datums;
  slots = h.slots;
  symbol = put_symbol t p u ∙ h.symbol;
  many = ap length (put_children t p u) ∙ length-set (out-Tree t).children p u ∙ h.many;
}

set_counts : (r : ℕ) (cs : List Tree) (p : ℕ) (c u : Tree) → slice_get cs p ≡ Some c
    → often r (flat_map tree_refs (slice_set cs p u)) + often r (tree_refs c)
    ≡ often r (flat_map tree_refs cs) + often r (tree_refs u)
set_counts r [] p c u e = absurd (none-some c e)
set_counts r (x ∷ cs) zero c u e =
    let a = often_both r (tree_refs u) (flat_map tree_refs cs) in
    let b = often_both r (tree_refs x) (flat_map tree_refs cs) in
    let same : often r (tree_refs x) ≡ often r (tree_refs c) =
    ap (λ (z : Tree). often r (tree_refs z)) (same_Some x c e) in
    omega (arith, a, b, same)
set_counts r (x ∷ cs) (suc p) c u e =
    let a = often_both r (tree_refs x) (flat_map tree_refs (slice_set cs p u)) in
    let b = often_both r (tree_refs x) (flat_map tree_refs cs) in
    let rest = set_counts r cs p c u e in
    omega (arith, a, b, rest)

-- the references with another child
pub put_counts : (r : ℕ) (t : Tree) (p : ℕ) (c u : Tree) → IsRankedCell t → child_at t p ≡ Some c
    → often r (tree_refs (with_child t p u)) + often r (tree_refs c) ≡ often r (tree_refs t) + often r (tree_refs u)
put_counts r t p c u h e =
    let a : often r (tree_refs (with_child t p u))
    ≡ often r (flat_map tree_refs (slice_set (out-Tree t).children p u)) =
    ap (often r) (cell_refs (with_child t p u) (put_cell t p u h)
    ∙ ap (flat_map tree_refs) (put_children t p u)) in
    let b : often r (tree_refs t) ≡ often r (flat_map tree_refs (out-Tree t).children) = ap (often r) (cell_refs t h) in
    let s = set_counts r (out-Tree t).children p c u e in
    omega (arith, a, b, s)
