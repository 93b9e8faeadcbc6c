-- Orders of roots, with the new numbers as a function.
use Rattle.std.specs.Prelude.{◌≡◌, ◌<◌, ◌≤◌, ◌⊎◌, ℕ, zero, suc, List, [], ◌∷◌, Some, slice_get}
use Rattle.fa_core.specs.Rearranged.{Rearranged}
use Rattle.fa_merge.specs.Reordered.{counted}

-- order has the roots below n, each once, and f gives the place of each; other numbers stay
pub record IsOrder (n : ℕ) (f : ℕ → ℕ) (order : List ℕ) : Type 0 where
  pub all : Rearranged order (counted 0 n)
  pub finds : (k : ℕ) → ((k < n) × (slice_get order (f k) ≡ Some k)) ⊎ ((n ≤ k) × (f k ≡ k))

-- the j-th number, or d where there is none
abbrev pub nth_or : List ℕ → ℕ → ℕ → ℕ
nth_or [] j d = d
nth_or (k ∷ ks) zero d = k
nth_or (k ∷ ks) (suc j) d = nth_or ks j d
