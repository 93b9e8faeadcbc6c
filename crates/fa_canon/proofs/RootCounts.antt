-- References to a root counted tree by tree.
use Rattle.std.proofs.Common.{◌≡◌, ◌≢◌, ◌⊎◌, ℕ, zero, suc, ◌≤◌, ◌+◌, length, List, [], ◌∷◌, ◌++◌, flat_map, refl, ap}
use Rattle.std.proofs.Common.{slice_get, slice_set, Some, length-append, arith}
use Rattle.std.proofs.lemmas.Option.{none-some, same_Some}
use Rattle.ta_core.specs.declared.tree.Tree.{Tree}
use Rattle.fa_core.specs.Canonical.{RefersTo, references}
use Rattle.fa_core.specs.Rearranged.{often}
use Rattle.fa_core.specs.References.{tree_refs}
use Rattle.fa_core.specs.Ways.{ways, to_root}
use Rattle.fa_core.proofs.Counts.{often_in, often_out, in_or_out}
use Rattle.fa_core.proofs.PlainWays.{to_often}

-- the references of the first tree, and those of the others
pub count_first : (r : ℕ) (t : Tree) (ts : List Tree) → references (t ∷ ts) r ≡ often r (tree_refs t) + references ts r
count_first r t ts =
    let a : references (t ∷ ts) r ≡ length (to_root r (ways t)) + references ts r =
    length-append (to_root r (ways t)) (flat_map (λ (t : Tree). to_root r (ways t)) ts) in
    let b : length (to_root r (ways t)) ≡ often r (tree_refs t) = to_often r (ways t) in
    omega (arith, a, b)

-- those of one tree, and of two, are among all
pub count_one : (r : ℕ) (ts : List Tree) (i : ℕ) (t : Tree) → slice_get ts i ≡ Some t
    → often r (tree_refs t) ≤ references ts r
count_one r [] i t e = absurd (none-some t e)
count_one r (u ∷ ts) zero t e =
    let s = count_first r u ts in
    let same : often r (tree_refs u) ≡ often r (tree_refs t) =
    ap (λ (z : Tree). often r (tree_refs z)) (same_Some u t e) in
    omega (arith, s, same)
count_one r (u ∷ ts) (suc i) t e =
    let s = count_first r u ts in
    let rest = count_one r ts i t e in
    omega (arith, s, rest)

pub count_two : (r : ℕ) (ts : List Tree) (i k : ℕ) (t u : Tree) → i ≢ k → slice_get ts i ≡ Some t
    → slice_get ts k ≡ Some u → often r (tree_refs t) + often r (tree_refs u) ≤ references ts r
count_two r [] i k t u d e f = absurd (none-some t e)
count_two r (v ∷ ts) zero zero t u d e f = absurd (d refl)
count_two r (v ∷ ts) zero (suc k) t u d e f =
    let s = count_first r v ts in
    let same : often r (tree_refs v) ≡ often r (tree_refs t) =
    ap (λ (z : Tree). often r (tree_refs z)) (same_Some v t e) in
    let rest = count_one r ts k u f in
    omega (arith, s, same, rest)
count_two r (v ∷ ts) (suc i) zero t u d e f =
    let s = count_first r v ts in
    let same : often r (tree_refs v) ≡ often r (tree_refs u) =
    ap (λ (z : Tree). often r (tree_refs z)) (same_Some v u f) in
    let rest = count_one r ts i t e in
    omega (arith, s, same, rest)
count_two r (v ∷ ts) (suc i) (suc k) t u d e f =
    let s = count_first r v ts in
    let rest = count_two r ts i k t u (λ z. d (ap (λ (n : ℕ). suc n) z)) e f in
    omega (arith, s, rest)

-- with another tree in the place of one
pub count_set : (r : ℕ) (ts : List Tree) (i : ℕ) (t u : Tree) → slice_get ts i ≡ Some t
    → references (slice_set ts i u) r + often r (tree_refs t) ≡ references ts r + often r (tree_refs u)
count_set r [] i t u e = absurd (none-some t e)
count_set r (v ∷ ts) zero t u e =
    let s = count_first r v ts in
    let w = count_first r u ts in
    let same : often r (tree_refs v) ≡ often r (tree_refs t) =
    ap (λ (z : Tree). often r (tree_refs z)) (same_Some v t e) in
    omega (arith, s, w, same)
count_set r (v ∷ ts) (suc i) t u e =
    let s = count_first r v ts in
    let w = count_first r v (slice_set ts i u) in
    let rest = count_set r ts i t u e in
    omega (arith, s, w, rest)

-- with one more tree behind them
pub count_push : (r : ℕ) (ts : List Tree) (u : Tree) → references (ts ++ u ∷ []) r
    ≡ references ts r + often r (tree_refs u)
count_push r [] u = let s = count_first r u [] in let z : references [] r ≡ 0 = refl in omega (arith, s, z)
count_push r (t ∷ ts) u =
    let s = count_first r t ts in
    let w = count_first r t (ts ++ u ∷ []) in
    let rest = count_push r ts u in
    omega (arith, s, w, rest)

-- a tree that refers to the root has a reference to it, and one that does not has none
pub refer_count : (t : Tree) (r : ℕ) → RefersTo t r → 1 ≤ often r (tree_refs t)
refer_count t r h = often_in r (tree_refs t) h

pub refer_or_not : (t : Tree) (r : ℕ) → RefersTo t r ⊎ (RefersTo t r → ⊥)
refer_or_not t r = in_or_out r (tree_refs t)

pub none_counted : (r : ℕ) (ts : List Tree) → references ts r ≡ 0 → (i : ℕ) (t : Tree) → slice_get ts i ≡ Some t
    → RefersTo t r → ⊥
none_counted r ts z i t e h =
    let a = count_one r ts i t e in
    let b = refer_count t r h in
    omega (arith, z, a, b)

pub none_to_count : (r : ℕ) (ts : List Tree) → ((i : ℕ) (t : Tree) → slice_get ts i ≡ Some t → RefersTo t r → ⊥)
    → references ts r ≡ 0
none_to_count r [] h = refl
none_to_count r (t ∷ ts) h =
    let s = count_first r t ts in
    let own : often r (tree_refs t) ≡ 0 = often_out r (tree_refs t) (h 0 t refl) in
    let rest = none_to_count r ts (λ i u e. h (suc i) u e) in
    omega (arith, s, own, rest)
