-- Numbers put into classes, one number after another.
use Rattle.std.specs.Prelude.{◌≡◌, ℕ, ◌<◌, ◌≤◌, List, length, slice_index}

-- the relation holds of each number below n and itself, goes both ways, and goes on
pub record IsEquivalence (n : ℕ) (R : ℕ → ℕ → Type 0) : Type 0 where
  pub same : (p : ℕ) → p < n → R p p
  pub turned : (p q : ℕ) → R p q → R q p
  pub through : (p q r : ℕ) → R p q → R q r → R p r

-- the numbers are in one class
abbrev pub IsOneClass : List ℕ → ℕ → ℕ → Type 0
IsOneClass classes p q = slice_index classes p ≡ slice_index classes q

-- classes of the numbers below n: each number is related to the first one of its class, the firsts of two classes are
-- not related, and there are fewer classes than numbers where two numbers are related
pub record AreClasses (R : ℕ → ℕ → Type 0) (n : ℕ) (classes firsts : List ℕ) : Type 0 where
  pub long : length classes ≡ n
  pub few : length firsts ≤ n
  pub fits : (p : ℕ) → p < n → slice_index classes p < length firsts
  pub low : (v : ℕ) → v < length firsts → slice_index firsts v < n
  pub first : (p : ℕ) → p < n → R (slice_index firsts (slice_index classes p)) p
  pub apart : (v w : ℕ) → v < length firsts → w < length firsts → R (slice_index firsts v) (slice_index firsts w)
      → v ≡ w
  pub fewer : (p q : ℕ) → p < q → q < n → R p q → length firsts < n
