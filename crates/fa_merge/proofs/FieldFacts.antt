-- Pointers of one cell, in the order of its fields.
use Rattle.std.proofs.Common.{◌≡◌, ℕ, suc, Bool, true, false, true≢false, length, List, [], ◌∷◌, ◌++◌, map, refl, sym}
use Rattle.std.proofs.Common.{ap, ap₂}
use Rattle.fore_base.specs.Lists.{Every}
use Rattle.fa_core.specs.Dressed.{Fact, Head, Points}
use Rattle.fa_core.specs.Filled.{numbered}
use Rattle.fa_core.specs.Member.{points}
use Rattle.fa_core.specs.Rearranged.{Rearranged, empty, keep, swap, chain}
use Rattle.fa_back.proofs.FactParts.{fact_value}

-- Items that were changed are moved as the changed ones are.

module _ {Y : Type 0} where
  abbrev pub head_or : Y → List Y → Y
  head_or d [] = d
  head_or d (y ∷ ys) = y

  abbrev pub tail_of : List Y → List Y
  tail_of [] = []
  tail_of (y ∷ ys) = ys

  abbrev pub is_none : List Y → Bool
  is_none [] = true
  is_none (y ∷ ys) = false

  pub no_list : {y : Y} {ys : List Y} → [] ≡ y ∷ ys → ⊥
  no_list p = true≢false (ap is_none p)

  pub first_same : {y z : Y} {ys zs : List Y} → y ∷ ys ≡ z ∷ zs → y ≡ z
  first_same {y} p = ap (head_or y) p

  pub later_same : {y z : Y} {ys zs : List Y} → y ∷ ys ≡ z ∷ zs → ys ≡ zs
  later_same p = ap tail_of p

pub unmap : {X Y : Type 0} (g : X → Y) {zs ys : List Y} → Rearranged zs ys → (xs : List X) → map g xs ≡ zs
    → (us : List X) × Rearranged xs us × (map g us ≡ ys)
unmap g empty [] e = ([], empty, refl)
unmap g empty (x ∷ xs) e = absurd (no_list (sym e))
unmap g (keep y r) [] e = absurd (no_list e)
unmap g (keep y r) (x ∷ xs) e =
    let k = unmap g r xs (later_same e) in
    (x ∷ k.0, keep x k.1, ap₂ (λ a b. a ∷ b) (first_same e) k.2)
unmap g (swap a b l) [] e = absurd (no_list e)
unmap g (swap a b l) (x ∷ []) e = absurd (no_list (later_same e))
unmap g (swap a b l) (x ∷ (z ∷ xs)) e = (
  z ∷ (x ∷ xs),
  swap x z xs,
  ap₂ (λ c d. c ∷ d) (first_same (later_same e)) (ap₂ (λ c d. c ∷ d) (first_same e) (later_same (later_same e))),
)
unmap g (chain p q) xs e =
    let k = unmap g p xs e in
    let l = unmap g q k.0 k.2 in
    (l.0, chain k.1 l.1, l.2)

pub split_map : {X Y : Type 0} (g : X → Y) (xs : List X) (ps qs : List Y) → map g xs ≡ ps ++ qs → (us : List X)
    × (ws : List X) × (xs ≡ us ++ ws) × (map g us ≡ ps) × (map g ws ≡ qs)
split_map g xs [] qs e = ([], xs, refl, refl, e)
split_map g [] (p ∷ ps) qs e = absurd (no_list e)
split_map g (x ∷ xs) (p ∷ ps) qs e =
    let k = split_map g xs ps qs (later_same e) in
    (x ∷ k.0, k.1, ap (λ ys. x ∷ ys) k.2, ap₂ (λ a b. a ∷ b) (first_same e) k.3, k.4)

-- Facts.

abbrev pub is_head : Fact → Bool
is_head (Head c s ds) = true
is_head (Points c f v) = false

abbrev pub fact_field : Fact → ℕ
fact_field (Head c s ds) = 0
fact_field (Points c f v) = f

-- the pointer is of the cell
abbrev pub IsOwn : ℕ → Fact → Type 0
IsOwn c (Head n s ds) = ⊥
IsOwn c (Points n f v) = n ≡ c

-- pointers of one cell in the order of its fields
pub in_order : (c k : ℕ) (xs : List Fact) (ts : List ℕ) → Every (IsOwn c) xs → map fact_field xs ≡ numbered k ts
    → (points c k (map fact_value xs) ≡ xs) × (length xs ≡ length ts)
in_order c k [] [] h e = (refl, refl)
in_order c k [] (t ∷ ts) h e = absurd (no_list e)
in_order c k (x ∷ xs) [] h e = absurd (no_list (sym e))
in_order c k (Head n s ds ∷ xs) (t ∷ ts) h e = absurd h.0
in_order c k (Points n f v ∷ xs) (t ∷ ts) h e =
    let p = in_order c (suc k) xs ts h.1 (later_same e) in (
      ap₂ (λ (x : Fact) (ys : List Fact). x ∷ ys) (ap₂ (λ (m g : ℕ). Points m g v) (sym h.0) (sym (first_same e))) p.0,
      ap (λ (m : ℕ). suc m) p.1,
    )

pub fact_count : (xs : List Fact) → length (map fact_value xs) ≡ length xs
fact_count [] = refl
fact_count (x ∷ xs) = ap (λ (m : ℕ). suc m) (fact_count xs)
