-- Worked values: what is reached by a table.
use Rattle.std.proofs.Common.{◌≡◌, inl, inr, ℕ, zero, suc, List, [], ◌∷◌, refl, arith}
use Rattle.fore_search.specs.Reached.{row, IsReached, start, next}

-- 0 leads to 1, 1 back to 0, 2 to 1, and 3 nowhere
abbrev table : List (List ℕ)
table = (1 ∷ []) ∷ (0 ∷ []) ∷ (1 ∷ []) ∷ [] ∷ []

row_of_two : row table 2 ≡ 1 ∷ []
row_of_two = refl

-- behind the table there is no row
no_row : row table 4 ≡ []
no_row = refl

itself : IsReached table (0 ∷ []) 0
itself = start (inl refl)

at_once : IsReached table (0 ∷ []) 1
at_once = next 0 itself (inl refl)

-- by two steps
on_to_zero : IsReached table (2 ∷ []) 0
on_to_zero = next 1 (next 2 (start (inl refl)) (inl refl)) (inl refl)

-- none leads to 2, and none but itself to 3
only_below : (q : ℕ) → IsReached table (0 ∷ []) q → (q ≡ 2 → ⊥) × (q ≡ 3 → ⊥)
only_below q (start (inl e)) = (λ f. omega (arith, e, f), λ f. omega (arith, e, f))
only_below q (start (inr i)) = absurd i
only_below q (next zero a (inl e)) = (λ f. omega (arith, e, f), λ f. omega (arith, e, f))
only_below q (next zero a (inr i)) = absurd i
only_below q (next (suc zero) a (inl e)) = (λ f. omega (arith, e, f), λ f. omega (arith, e, f))
only_below q (next (suc zero) a (inr i)) = absurd i
only_below q (next (suc (suc zero)) a i) = absurd ((only_below 2 a).0 refl)
only_below q (next (suc (suc (suc zero))) a i) = absurd i
only_below q (next (suc (suc (suc (suc p)))) a i) = absurd i

-- none is reached from nowhere
nowhere : (q : ℕ) → IsReached table [] q → ⊥
nowhere q (start i) = absurd i
nowhere q (next p a i) = nowhere p a
