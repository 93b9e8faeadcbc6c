-- Numbers in texts.
use Rattle.std.proofs.Common.{arith, ℕ, List, ◌≡◌, ◌<◌, ◌^◌, Result, Ok, sym, ◌∙◌, ap}
use Rattle.std.specs.Str.Parse.{ParsesUnsigned}
use Rattle.std.specs.Str.Parse.{digits_value}
use Rattle.std.proofs.lemmas.Fmt.{parse-decimal, decimal_is_IsNumeral}
use Rattle.fore_words.specs.Values.{IsNumber}

-- a text that is a number is read as it
pub parsed : {E : Type 0} (r : Result ℕ E) (text : List ℕ) (most n : ℕ) → most < 2 ^ 32 → ParsesUnsigned 32 10 text r
    → IsNumber most text n → r ≡ Ok n
parsed r text most n small parses is =
    let less : n < 2 ^ 32 = omega (arith, is.greatest, small) in
    parse-decimal 32 n text r less (omega (arith, less)) is.written parses

-- a text that is a number is the value of its digits
pub number_is : (most : ℕ) (text : List ℕ) (n : ℕ) → most < 2 ^ 64 → IsNumber most text n → n ≡ digits_value 10 text
number_is most text n small is =
    let value = decimal_is_IsNumeral n (omega (arith, is.greatest, small)) in
    sym value.1 ∙ ap (digits_value 10) (sym is.written)
