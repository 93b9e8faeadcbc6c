-- What the body of `merge_root` needs.
use Rattle.std.proofs.Common.{◌≡◌, ℕ, zero, suc, ◌<◌, ◌+◌, Bool, true, false, if◌then◌else◌, nat_eq, length, List, []}
use Rattle.std.proofs.Common.{◌∷◌, ◌++◌, map, refl, sym, ap, ◌∙◌, slice_set, arith}
use Rattle.ta_core.specs.Auto.{Automaton}
use Rattle.fa_core.specs.declared.forest.Forest.{Forest}
use Rattle.fa_core.specs.Placed.{placed_leaf}
use Rattle.fa_core.specs.Rearranged.{Rearranged}
use Rattle.fa_merge.specs.Merged.{merged, others, last_order, to_last, merged_at}
use Rattle.fa_merge.specs.Reordered.{counted, reordered_by, renumber}
use Rattle.fa_sound.specs.Components.{component_at}
use Rattle.fa_merge.specs.inner.Lone.{IsLone}
use Rattle.fa_merge.proofs.OtherOrders.{mapped_length, order_length, component_at_mapped}
use Rattle.fa_merge.proofs.MergedAnywhere.{new, rest, others_new, place_less, size_is, at_place, autos_last}
use Rattle.fa_merge.proofs.MergedAnywhere.{last_is_order}

counted_push : (k n : ℕ) → counted k (suc n) ≡ counted k n ++ ((k + n) ∷ [])
counted_push k zero = ap (λ (z : ℕ). z ∷ []) (let e : k ≡ k + 0 = omega arith in e)
counted_push k (suc n) =
    ap (λ (z : List ℕ). k ∷ z)
    (counted_push (suc k) n ∙ ap (λ (z : ℕ). counted (suc k) n ++ (z ∷ []))
    (let e : suc k + n ≡ k + suc n = omega arith in e))

others_both : (r : ℕ) (xs ys : List ℕ) → others r (xs ++ ys) ≡ others r xs ++ others r ys
others_both r [] ys = refl
others_both r (x ∷ xs) ys = here (nat_eq x r) (others_both r xs ys)
  where
    here : (b : Bool) → others r (xs ++ ys) ≡ others r xs ++ others r ys
        → (if b then others r (xs ++ ys) else x ∷ others r (xs ++ ys)) ≡ (if b then others r xs else x ∷ others r xs)
        ++ others r ys
    here true e = e
    here false e = ap (λ (z : List ℕ). x ∷ z) e

pub others_step : (r n : ℕ) → others r (counted 0 n) ++ others r (n ∷ []) ≡ others r (counted 0 (n + 1))
others_step r n =
    let a : suc n ≡ n + 1 = omega arith in
    let b : 0 + n ≡ n = omega arith in
    sym (ap (λ (z : ℕ). others r (counted 0 z)) (sym a)
    ∙ ap (others r) (counted_push 0 n ∙ ap (λ (z : ℕ). counted 0 n ++ (z ∷ [])) b)
    ∙ others_both r (counted 0 n) (n ∷ []))

pub lone_order : (F : Forest) (r i : ℕ) (h : IsLone F r i)
    → Rearranged (last_order (length F.autos) r) (counted 0 (length F.autos))
lone_order F r i h = (last_is_order (length F.autos) r h.root).all

pub lone_length : (F : Forest) (r i : ℕ) (h : IsLone F r i) → length (last_order (length F.autos) r) ≡ length F.autos
lone_length F r i h = order_length (length F.autos) (to_last (length F.autos) r) (last_order (length F.autos) r)
    (last_is_order (length F.autos) r h.root)

pub autos_length : (F : Forest) (r i : ℕ) (h : IsLone F r i)
    → length (reordered_by (to_last (length F.autos) r) (last_order (length F.autos) r) F).autos ≡ length F.autos
autos_length F r i h = mapped_length _ (last_order (length F.autos) r) ∙ lone_length F r i h

pub lone_place : (F : Forest) (r i : ℕ) (h : IsLone F r i) → to_last (length F.autos) r i + 1 < length F.autos
lone_place F r i h = let a = place_less F r i h i h.into h.apart in let b = size_is F r i h in omega (arith, a, b)

-- the components after the merge
abbrev pub IsMergedList : ℕ → List Automaton → List Automaton → Type 0
IsMergedList place autos made = (cs : List Automaton) (l : Automaton) → autos ≡ cs ++ (l ∷ [])
    → made ≡ slice_set cs place (merged (length cs) (component_at cs place) l)

pub lone_value : (F : Forest) (r i : ℕ) (h : IsLone F r i) (made : List Automaton)
    → IsMergedList (to_last (length F.autos) r i)
    (reordered_by (to_last (length F.autos) r) (last_order (length F.autos) r) F).autos made
    → record {
      autos = made;
      vars = map (placed_leaf (renumber (to_last (length F.autos) r))) F.vars;
      data_vars = F.data_vars;
    } ≡ merged_at r i F
lone_value F r i h made w =
    let cs = others_new F r i h in
    let e : made ≡ slice_set cs (to_last (length F.autos) r i)
    (merged (length cs) (component_at cs (to_last (length F.autos) r i)) (new F r i h r)) =
    w cs (new F r i h r) (autos_last (new F r i h) (rest F r i h) r) in
    let n : component_at cs (to_last (length F.autos) r i) ≡ new F r i h i =
    component_at_mapped (new F r i h) (rest F r i h) (to_last (length F.autos) r i) i (at_place F r i h) in
    ap (λ (z : List Automaton).
    record {
      autos = z;
      vars = map (placed_leaf (renumber (to_last (length F.autos) r))) F.vars;
      data_vars = F.data_vars;
    })
    (e ∙ ap (λ (z : Automaton). slice_set cs (to_last (length F.autos) r i) (merged (length cs) z (new F r i h r)))
    n)
