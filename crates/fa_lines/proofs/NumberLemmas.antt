-- Numbers and their texts.
use Rattle.std.proofs.Common.{arith, ℕ, List, [], ◌∷◌, ◌≡◌, ◌≤◌, ◌<◌, ◌*◌, ◌+◌, ◌-◌, rules}
use Rattle.std.specs.Str.Parse.{AllDigits}
use Rattle.std.proofs.lemmas.Str.Parse.{IsNumeralModel, numerals_by_fold, tells_digits}
use Rattle.std.proofs.lemmas.Fmt.{digits_value-decimal}
use Rattle.std.specs.Prelude.{decimal}
use Rattle.fa_lines.specs.inner.Reading.{value_from}

-- a number grows by digits behind it
pub value_grows : (ds : List ℕ) (n : ℕ) → n ≤ value_from n ds
value_grows [] n = omega arith
value_grows (d ∷ ds) n = let more = value_grows ds (n * 10 + (d - 48)) in omega (arith, more)

reads_digits : IsNumeralModel (AllDigits 10) (value_from 0)
reads_digits = numerals_by_fold (AllDigits 10) tells_digits value_from (search rules)

-- the digits that write a number are read as it
pub value_written : (n : ℕ) → n < 4294967296 → value_from 0 (decimal n) ≡ n
value_written n less = digits_value-decimal reads_digits n (omega (arith, less))
