-- What wrong bodies of parallel phases would answer, refused by the words of their contracts.
use Rattle.std.proofs.Common.{◌≡◌, ℕ, ◌+◌, Bool, true, false, List, [], ◌∷◌, Some, None, refl, arith, lit<}
use Rattle.std.proofs.lemmas.Bool.{false≢true}
use Rattle.std.proofs.lemmas.Option.{same_Some}
use Rattle.std.proofs.Common.{slice_get}
use Rattle.fore_base.specs.Lists.{Paired}
use Rattle.par_kit.specs.Phases.{IsFirst, AreFilled}

-- The least index of a 5.

abbrev is_five : ℕ → Type 0
is_five n = n ≡ 5

-- of 3 and 5, one in each half: place 0, that of the 5 in the second half, not counted from the front
counted_from_the_second_half : IsFirst is_five (3 ∷ 5 ∷ []) (Some 0) → ⊥
counted_from_the_second_half least = omega (arith, same_Some 3 least.0 least.1, least.2)

-- of 5 and 3: none, since the second half has none
second_half_alone : IsFirst is_five (5 ∷ 3 ∷ []) None → ⊥
second_half_alone none = none.0 refl

-- of 5 and 5: the place of the one in the second half
second_half_preferred : IsFirst is_five (5 ∷ 5 ∷ []) (Some 1) → ⊥
second_half_preferred least = least.3.0 refl

-- One product for each item: of 3 and 4 their doubles, that of the second half first
abbrev is_double : ℕ → ℕ → Type 0
is_double n made = made ≡ n + n

second_half_first : Paired is_double (3 ∷ 4 ∷ []) (8 ∷ 6 ∷ []) → ⊥
second_half_first made = omega (arith, made.0)

-- Rows that are filled: row i gets a mark at place i. Row 0 was filled twice, and row 1 never.
abbrev has_own_mark : ℕ → List Bool → Type 0
has_own_mark i row = slice_get row i ≡ Some true

first_row_twice : AreFilled has_own_mark 0 ((true ∷ false ∷ []) ∷ (false ∷ false ∷ []) ∷ []) → ⊥
first_row_twice filled = false≢true (same_Some false true (filled 1 (lit< tt)))
