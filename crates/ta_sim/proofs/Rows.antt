-- Worked values of relations as tables, each made by hand.
use Rattle.std.proofs.Common.{◌≡◌, ℕ, zero, suc, ◌<◌, Bool, true, false, true≢false, List, [], ◌∷◌, refl, sym, arith}
use Rattle.ta_sim.specs.Relations.{Table, IsSquare, AreRowsOf, entry, Holds, Relates}

-- row 0 relates 0 to 1 alone, row 1 relates 1 to both
abbrev rows : List (List Bool)
rows = (false ∷ true ∷ []) ∷ (true ∷ true ∷ []) ∷ []

abbrev table : Table
table = record { size = 2; rows = rows }

-- the row comes first, and then the place in it; what is out of range is not related
entries : (entry rows 0 1 ≡ true) × (entry rows 1 0 ≡ true) × (entry rows 0 0 ≡ false)
entries = (refl, refl, refl)

out_of_range : (entry rows 0 2 ≡ false) × (entry rows 2 0 ≡ false)
out_of_range = (refl, refl)

holds : Holds table 0 1
holds = refl

holds_not : Holds table 0 0 → ⊥
holds_not h = true≢false (sym h)

-- there are as many rows as the size says, each as long
square : IsSquare table
square = (refl, (refl, (refl, tt)))

row_missing : IsSquare (record { size = 3; rows = rows }) → ⊥
row_missing h = let e = h.0 in omega (arith, e)

row_short : IsSquare (record { size = 2; rows = (false ∷ []) ∷ (true ∷ true ∷ []) ∷ [] }) → ⊥
row_short h = let e = h.1.0 in omega (arith, e)

-- the rows that relate 0 to itself are those of equality below 1; without the pair, or with a pair that is not wanted,
-- or with a row too few, they are not
abbrev one_row : Bool → List (List Bool)
one_row b = (b ∷ []) ∷ []

equal_rows : AreRowsOf 1 (λ p q. p ≡ q) (one_row true)
equal_rows = record { square = (refl, (refl, tt)); only = only; each = each }
  where
    only : (p q : ℕ) → Relates (one_row true) p q → (p < 1) × (q < 1) × (p ≡ q)
    only zero zero h = (omega arith, omega arith, refl)
    only zero (suc q) h = absurd (true≢false (sym h))
    only (suc p) q h = absurd (true≢false (sym h))

    each : (p q : ℕ) → p < 1 → q < 1 → p ≡ q → Relates (one_row true) p q
    each zero zero l k e = refl
    each zero (suc q) l k e = absurd (omega (arith, k))
    each (suc p) q l k e = absurd (omega (arith, l))

pair_missing : AreRowsOf 1 (λ p q. p ≡ q) (one_row false) → ⊥
pair_missing h = true≢false (sym (h.each 0 0 (omega arith) (omega arith) refl))

pair_unwanted : AreRowsOf 1 (λ p q. ⊥) (one_row true) → ⊥
pair_unwanted h = (h.only 0 0 refl).2

row_too_few : AreRowsOf 2 (λ p q. Relates rows p q) (one_row true) → ⊥
row_too_few h = let e = h.square.0 in omega (arith, e)
