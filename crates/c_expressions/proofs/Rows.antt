-- Worked values of the first fault so far, by hand: the earlier place counts, on one place a rule before a limit, and
-- then the lesser number.
use Rattle.std.proofs.Common.{◌≡◌, ℕ, ◌+◌, true, false, [], ◌∷◌, Some, None, refl}
use Rattle.fore_base.specs.declared.place.Place.{Place}
use Rattle.c_ast.specs.declared.operands.Name.{Name}
use Rattle.c_typing.specs.Globals.{Globals}
use Rattle.c_typing.specs.Sites.{UsesStruct, UsesEnum}
use Rattle.c_typing.specs.declared.fault.TypeFault.TheVariants.{Rule, Limit}
use Rattle.c_expressions.specs.First.{earlier_of, first_from}
use Rattle.c_expressions.specs.Meeting.{met, noted, noted_when}

-- the place behind so many bytes of one line
abbrev at : ℕ → Place
at n = record { offset = n; line = 1; column = n + 1 }

-- one more

nothing_before : earlier_of None (Rule 7 (at 9)) ≡ Rule 7 (at 9)
nothing_before = refl

earlier_place : earlier_of (Some (Rule 3 (at 9))) (Limit 7 (at 4)) ≡ Limit 7 (at 4)
earlier_place = refl

later_place : earlier_of (Some (Limit 7 (at 4))) (Rule 3 (at 9)) ≡ Limit 7 (at 4)
later_place = refl

rule_before_limit : earlier_of (Some (Limit 2 (at 4))) (Rule 5 (at 4)) ≡ Rule 5 (at 4)
rule_before_limit = refl

lesser_number : earlier_of (Some (Rule 8 (at 4))) (Rule 6 (at 4)) ≡ Rule 6 (at 4)
lesser_number = refl

-- several

none_more : first_from (Some (Rule 3 (at 4))) [] ≡ Some (Rule 3 (at 4))
none_more = refl

middle : first_from None (Rule 7 (at 9) ∷ Rule 5 (at 2) ∷ Limit 3 (at 5) ∷ []) ≡ Some (Rule 5 (at 2))
middle = refl

found_stays : first_from (Some (Rule 1 (at 0))) (Rule 7 (at 9) ∷ Rule 5 (at 2) ∷ []) ≡ Some (Rule 1 (at 0))
found_stays = refl

-- by a test

holds : noted_when true (Rule 1 (at 3)) (Some (Rule 5 (at 8))) ≡ Some (Rule 1 (at 3))
holds = refl

fails : noted_when false (Rule 1 (at 3)) (Some (Rule 5 (at 8))) ≡ Some (Rule 5 (at 8))
fails = refl

-- places of a file that defines nothing: a struct that is named there breaks rule 1, an enumeration rule 4

abbrev defines_nothing : Globals
defines_nothing =
    record { structs = []; enums = []; values = []; functions = []; main = None; calls = [] }

abbrev name : ℕ → Name
name n = record { at = at n; text = 97 ∷ [] }

unknown_struct : noted defines_nothing None (UsesStruct (name 6)) ≡ Some (Rule 1 (at 6))
unfolding noted
unknown_struct = refl

second_is_first : met defines_nothing None (UsesStruct (name 6) ∷ UsesEnum (name 2) ∷ []) ≡ Some (Rule 4 (at 2))
unfolding met noted
second_is_first = refl

no_places : met defines_nothing (Some (Rule 1 (at 6))) [] ≡ Some (Rule 1 (at 6))
unfolding met
no_places = refl
