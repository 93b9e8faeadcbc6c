-- Rows on which fault is reported.
use Rattle.std.proofs.Common.{◌≡◌, ℕ, true, false, [], ◌∷◌, refl, inl, inr}
use Rattle.fore_base.specs.declared.place.Place.{Place}
use Rattle.c_typing.specs.Orders.{before}
use Rattle.c_typing.specs.Typing.{IsFirst}
use Rattle.c_typing.specs.declared.fault.TypeFault.TheVariants.{Rule, Limit}

abbrev place : ℕ → ℕ → ℕ → Place
place offset line column = record { offset = offset; line = line; column = column }

-- the earlier place comes first, whatever the numbers are, and by bytes, also where lines say another thing
earlier_place : before (Rule 15 (place 3 1 4)) (Rule 1 (place 4 1 5)) ≡ true
earlier_place = refl

later_place : before (Rule 1 (place 4 1 5)) (Rule 15 (place 3 1 4)) ≡ false
later_place = refl

by_bytes : before (Limit 8 (place 3 9 9)) (Rule 1 (place 4 1 1)) ≡ true
by_bytes = refl

-- on one place a rule comes before a limit, whatever the numbers are
rule_before_limit : before (Rule 15 (place 3 1 4)) (Limit 2 (place 3 1 4)) ≡ true
rule_before_limit = refl

limit_after_rule : before (Limit 2 (place 3 1 4)) (Rule 15 (place 3 1 4)) ≡ false
limit_after_rule = refl

-- then the lesser number comes first
lesser_rule : before (Rule 6 (place 3 1 4)) (Rule 10 (place 3 1 4)) ≡ true
lesser_rule = refl

greater_rule : before (Rule 10 (place 3 1 4)) (Rule 6 (place 3 1 4)) ≡ false
greater_rule = refl

lesser_limit : before (Limit 3 (place 3 1 4)) (Limit 4 (place 3 1 4)) ≡ true
lesser_limit = refl

-- no fault comes before itself
no_earlier : before (Rule 5 (place 3 1 4)) (Rule 5 (place 3 1 4)) ≡ false
no_earlier = refl

-- faults that only lines or columns tell apart are not level
by_line : before (Rule 5 (place 3 1 9)) (Rule 5 (place 3 2 4)) ≡ true
by_line = refl

by_column : before (Rule 5 (place 3 1 9)) (Rule 5 (place 3 1 4)) ≡ false
by_column = refl

-- the first of three
first_of_three : IsFirst (Rule 5 (place 3 1 4))
    (Limit 4 (place 3 1 4) ∷ Rule 5 (place 3 1 4) ∷ Rule 1 (place 7 1 8) ∷ [])
first_of_three = (inr (inl refl), (refl, (refl, (refl, tt))))
