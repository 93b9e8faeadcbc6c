-- Relations on the states of an automaton, as tables.
use Rattle.std.specs.Prelude.{◌≡◌, ℕ, ◌<◌, Bool, true, false, List, [], length, slice_index_or}
use Rattle.fore_base.specs.Lists.{Every}

-- a relation on the numbers below `size`: in row p the entry q says whether p is related to q
pub record Table : Type 0 where
  pub size : ℕ
  pub rows : List (List Bool)

-- there are n rows of n entries
abbrev pub AreSquare : ℕ → List (List Bool) → Type 0
AreSquare n rows = (length rows ≡ n) × Every (λ row. length row ≡ n) rows

-- there are `size` rows, of `size` entries each
abbrev pub IsSquare : Table → Type 0
IsSquare t = AreSquare t.size t.rows

-- the entry at row p and place q, false where there is none
abbrev pub entry : List (List Bool) → ℕ → ℕ → Bool
entry rows p q = slice_index_or (slice_index_or rows p []) q false

-- the rows relate p to q
abbrev pub Relates : List (List Bool) → ℕ → ℕ → Type 0
Relates rows p q = entry rows p q ≡ true

-- the relation holds of p and q
abbrev pub Holds : Table → ℕ → ℕ → Type 0
Holds t p q = Relates t.rows p q

-- the rows are n of n entries, and relate those of the numbers below n that P relates
pub record AreRowsOf (n : ℕ) (P : ℕ → ℕ → Type 0) (rows : List (List Bool)) : Type 0 where
  pub square : AreSquare n rows
  pub only : (p q : ℕ) → Relates rows p q → (p < n) × (q < n) × P p q
  pub each : (p q : ℕ) → p < n → q < n → P p q → Relates rows p q
