-- Worked values of the roots of a part: inner roots in the order of first visit, depth first, from the input's fields
-- and then from the output's; and a slot of the input that is not taken.
use Rattle.std.proofs.Common.{◌≡◌, ◌<◌, inl, inr, ℕ, zero, suc, List, [], ◌∷◌, ◌++◌, map, length, refl, ap}
use Rattle.std.proofs.Common.{◌∙◌, arith}
use Rattle.fore_base.specs.Lists.{IsIn}
use Rattle.ta_core.specs.declared.symbol.Slot.TheVariants.{Field}
use Rattle.ta_core.specs.declared.tree.Tree.{Tree, out-roll-Tree}
use Rattle.fa_core.specs.Canonical.{refs_at}
use Rattle.fa_core.specs.Dressed.{Node, node, no_parts, field, leaf}
use Rattle.fa_core.specs.Folding.{top_places, Placing, all_placed, is_placed, place_now, position, Ports, port_refs}
use Rattle.fa_core.specs.Folding.{left_refs, ArePartRoots, number_without}
use Rattle.fa_core.specs.Member.{bare, bare_end}
use Rattle.fa_core.specs.declared.forest.Target.{Target}
use Rattle.fa_core.specs.declared.forest.Target.TheVariants.{Null as NullTarget, At}
use Rattle.fa_core.proofs.RowsBack.{opened}
use Rattle.fa_core.proofs.RowsCanonical.{target_root}
use Rattle.fa_core_rows.proofs.HookFolds.{item, both, ref_refs, null_refs}

-- An item with these at next and prev.
abbrev pair : ℕ → Target → Target → Node
pair c x y = node c 0 [] (field 0 (leaf x) (field 1 (leaf y) no_parts))

pair_places : (c : ℕ) (x y : Target) → top_places (bare (pair c x y)) ≡ (Field 0, bare_end (leaf x) ∷ []) ∷
    (Field 1, bare_end (leaf y) ∷ []) ∷ []
pair_places c x y =
    let e = out-roll-Tree (record { symbol = item both; children = bare_end (leaf x) ∷ bare_end (leaf y) ∷ [] }) in
    rw e refl

-- Root 2 is the input, and its next is root 3, whose next is root 1. Root 4 is the output, and its prev is root 0.

abbrev trees_with : Target → List Tree
trees_with prev = bare (pair 0 NullTarget NullTarget) ∷ bare (pair 1 NullTarget NullTarget) ∷ bare (pair 2 (At 3) prev)
    ∷ bare (pair 3 (At 1) NullTarget) ∷ bare (pair 4 NullTarget (At 0)) ∷ []

abbrev trees : List Tree
trees = trees_with NullTarget

abbrev ports : Ports
ports = (2, 0 ∷ []) ∷ (4, 1 ∷ []) ∷ []

from_ports : port_refs trees ports ≡ 3 ∷ 0 ∷ []
from_ports =
    let a = pair_places 2 (At 3) NullTarget in
    let b = pair_places 4 NullTarget (At 0) in
    let c = ref_refs 3 in
    let d = ref_refs 0 in
    rw (a, b, c, d) refl

refs_0 : refs_at trees 0 ≡ []
refs_0 = simp opened

refs_1 : refs_at trees 1 ≡ []
refs_1 = simp opened

refs_3 : refs_at trees 3 ≡ 1 ∷ []
refs_3 = simp opened

left_of_2 : left_refs trees ports 2 ≡ []
left_of_2 = let a = pair_places 2 (At 3) NullTarget in let b = null_refs in rw (a, b) refl

left_of_4 : left_refs trees ports 4 ≡ []
left_of_4 = let a = pair_places 4 NullTarget (At 0) in let b = null_refs in rw (a, b) refl

-- the three inner roots: both that are reached from the input, the nearer one first, and then that of the output
abbrev inner : List ℕ
inner = 3 ∷ 1 ∷ 0 ∷ []

abbrev order : List ℕ
order = 2 ∷ 4 ∷ inner

walk : Placing (refs_at trees) (port_refs trees ports) (2 ∷ 4 ∷ []) order
walk =
    let e = from_ports in
    let a = refs_3 in
    let b = refs_1 in
    let c = refs_0 in
    let last : Placing (refs_at trees) (refs_at trees 0 ++ []) order order = rw c all_placed in
    let next : Placing (refs_at trees) (refs_at trees 1 ++ 0 ∷ []) (2 ∷ 4 ∷ 3 ∷ 1 ∷ []) order =
    rw b (place_now {r = 0} (λ i. new_0 i) last) in
    let first : Placing (refs_at trees) (refs_at trees 3 ++ 0 ∷ []) (2 ∷ 4 ∷ 3 ∷ []) order =
    rw a (place_now {r = 1} (λ i. new_1 i) next) in
    rw e (place_now {r = 3} (λ i. new_3 i) first)
  where
    new_3 : IsIn {X = ℕ} 3 (2 ∷ 4 ∷ []) → ⊥
    new_3 (inl e) = omega (arith, e)
    new_3 (inr (inl e)) = omega (arith, e)
    new_3 (inr (inr x)) = x

    new_1 : IsIn {X = ℕ} 1 (2 ∷ 4 ∷ 3 ∷ []) → ⊥
    new_1 (inl e) = omega (arith, e)
    new_1 (inr (inl e)) = omega (arith, e)
    new_1 (inr (inr (inl e))) = omega (arith, e)
    new_1 (inr (inr (inr x))) = x

    new_0 : IsIn {X = ℕ} 0 (2 ∷ 4 ∷ 3 ∷ 1 ∷ []) → ⊥
    new_0 (inl e) = omega (arith, e)
    new_0 (inr (inl e)) = omega (arith, e)
    new_0 (inr (inr (inl e))) = omega (arith, e)
    new_0 (inr (inr (inr (inl e)))) = omega (arith, e)
    new_0 (inr (inr (inr (inr x)))) = x

abbrev vars : List Target
vars = At 2 ∷ At 4 ∷ []

roots : ArePartRoots vars trees ports inner
roots = record { order = order; reached = walk; are = refl; no_var = no_var; alone = alone }
  where
    none : (r : ℕ) → IsIn r inner → r ≡ 2 → ⊥
    none r (inl e) k = omega (arith, e, k)
    none r (inr (inl e)) k = omega (arith, e, k)
    none r (inr (inr (inl e))) k = omega (arith, e, k)
    none r (inr (inr (inr x))) k = x

    nor : (r : ℕ) → IsIn r inner → r ≡ 4 → ⊥
    nor r (inl e) k = omega (arith, e, k)
    nor r (inr (inl e)) k = omega (arith, e, k)
    nor r (inr (inr (inl e))) k = omega (arith, e, k)
    nor r (inr (inr (inr x))) k = x

    no_var : (r : ℕ) → IsIn r inner → IsIn (At r) vars → ⊥
    no_var r i (inl e) = none r i (ap target_root e)
    no_var r i (inr (inl e)) = nor r i (ap target_root e)
    no_var r i (inr (inr x)) = x

    alone : (r k : ℕ) → IsIn k inner → (IsIn r inner → ⊥) → r < 5 → IsIn k (left_refs trees ports r) → ⊥
    alone zero k i o l j = o (inr (inr (inl refl)))
    alone (suc zero) k i o l j = o (inr (inl refl))
    alone (suc (suc zero)) k i o l j = let e = left_of_2 in rw e at j
    alone (suc (suc (suc zero))) k i o l j = o (inl refl)
    alone (suc (suc (suc (suc zero)))) k i o l j = let e = left_of_4 in rw e at j
    alone (suc (suc (suc (suc (suc r))))) k i o l j = omega (arith, l)

-- In the part the ports are 0 and 1, and the inner roots 2, 3 and 4. Once these are taken away, roots 2 and 4 are roots
-- 0 and 1.

places : map (position order) order ≡ 0 ∷ 1 ∷ 2 ∷ 3 ∷ 4 ∷ []
places = refl

later_numbers : map (number_without inner) (2 ∷ 4 ∷ []) ≡ 0 ∷ 1 ∷ []
later_numbers = refl

-- No other order is that of the part.

module _ (refers : ℕ → List ℕ) where
  one_order : {todo placed first second : List ℕ} → Placing refers todo placed first
      → Placing refers todo placed second → first ≡ second
  one_order all_placed all_placed = refl
  one_order (is_placed i w) (is_placed j v) = one_order w v
  one_order (is_placed i w) (place_now j v) = absurd (j i)
  one_order (place_now i w) (is_placed j v) = absurd (i j)
  one_order (place_now i w) (place_now j v) = one_order w v

abbrev third_of : List ℕ → ℕ
third_of (a ∷ b ∷ c ∷ rest) = c
third_of rest = 9

abbrev fourth_of : List ℕ → ℕ
fourth_of (a ∷ b ∷ c ∷ d ∷ rest) = d
fourth_of rest = 9

output_first : ArePartRoots vars trees ports (0 ∷ 3 ∷ 1 ∷ []) → ⊥
output_first h = let e = ap third_of (one_order (refs_at trees) walk h.reached ∙ h.are) in omega (arith, e)

breadth_first : ArePartRoots vars trees ports (3 ∷ 0 ∷ 1 ∷ []) → ⊥
breadth_first h = let e = ap fourth_of (one_order (refs_at trees) walk h.reached ∙ h.are) in omega (arith, e)

one_left_out : ArePartRoots vars trees ports (3 ∷ 1 ∷ []) → ⊥
one_left_out h = let e = ap length (one_order (refs_at trees) walk h.reached ∙ h.are) in omega (arith, e)

-- The input's prev, which is not taken, refers to an inner root: it is reached otherwise.

left_by_prev : left_refs (trees_with (At 3)) ports 2 ≡ 3 ∷ []
left_by_prev = let a = pair_places 2 (At 3) (At 3) in let b = ref_refs 3 in rw (a, b) refl

slot_not_taken : ArePartRoots vars (trees_with (At 3)) ports inner → ⊥
slot_not_taken h = let e = left_by_prev in h.alone 2 3 (inl refl) not_inner (omega arith) (rw e (inl refl))
  where
    not_inner : IsIn {X = ℕ} 2 inner → ⊥
    not_inner (inl e) = omega (arith, e)
    not_inner (inr (inl e)) = omega (arith, e)
    not_inner (inr (inr (inl e))) = omega (arith, e)
    not_inner (inr (inr (inr x))) = x
