-- What parallel phases answer: the least index, one product for each item, each row as it is defined.
use Rattle.std.specs.Prelude.{
  ◌≡◌,
  ◌⊎◌,
  ℕ,
  ◌<◌,
  ◌+◌,
  Bool,
  List,
  [],
  length,
  Option,
  Some,
  MatchOption,
  slice_get,
  slice_index_or,
  take,
}
use Rattle.fore_base.specs.Lists.{Every}

-- no item meets P
abbrev pub NoneMeets : {X : Type 0} → (X → Type 0) → List X → Type 0
NoneMeets P xs = Every (λ x. P x → ⊥) xs

-- the item at place i meets P, and none before it does
abbrev pub IsLeast : {X : Type 0} → (X → Type 0) → List X → ℕ → Type 0
IsLeast {X} P xs i = (x : X) × (slice_get xs i ≡ Some x) × P x × NoneMeets P (take i xs)

-- the least place whose item meets P, and None where none does
abbrev pub IsFirst : {X : Type 0} → (X → Type 0) → List X → Option ℕ → Type 0
IsFirst P xs o = MatchOption o (NoneMeets P xs) (IsLeast P xs)

-- the rows from index n on may be given
abbrev pub AreTaken : (ℕ → ℕ → Type 0) → ℕ → List (List Bool) → Type 0
AreTaken P n rows = (k : ℕ) → k < length rows → P (n + k) (length (slice_index_or rows k []))

-- the rows from index n on are filled
abbrev pub AreFilled : (ℕ → List Bool → Type 0) → ℕ → List (List Bool) → Type 0
AreFilled F n rows = (k : ℕ) → k < length rows → F (n + k) (slice_index_or rows k [])

-- the new rows are as many and as long as the old ones, and each is as it was, or filled
abbrev pub AreKept : (ℕ → List Bool → Type 0) → ℕ → List (List Bool) → List (List Bool) → Type 0
AreKept F n old new = (length new ≡ length old)
    × ((k : ℕ) → k < length old
    → (length (slice_index_or new k []) ≡ length (slice_index_or old k []))
    × ((slice_index_or new k [] ≡ slice_index_or old k []) ⊎ F (n + k) (slice_index_or new k [])))
