-- Worked values of answers and of memos that agree with a pool, each made by hand.
use Rattle.std.proofs.Common.{◌≡◌, ℕ, Bool, true, false, List, [], ◌∷◌, refl, ap, inl, inr, subst, arith}
use Rattle.std.proofs.lemmas.Bool.{false≢true}
use Rattle.std.proofs.lemmas.Option.{same_Some}
use Rattle.ta_core.specs.Auto.{Automaton}
use Rattle.ta_core.specs.Language.{InLanguage, IsWithin, run_none}
use Rattle.ta_core.specs.declared.auto.Rule.{Rule}
use Rattle.ta_core.specs.declared.symbol.Symbol.TheVariants.{Null}
use Rattle.ta_core.proofs.Runs.{tree_of, run_tree}
use Rattle.fa_kept.specs.Memos.{Answer, answer, Lacks, IsWithinAt, IsRight, Agrees}
use Rattle.fa_kept.specs.inner.Asking.{AreRight, IsPassedTo, found_is, passed_one}

-- the rule of a leaf that is null, an automaton whose one tree this leaf is, and one that has no tree
abbrev leaf : Rule
leaf = record { state = 0; symbol = Null; children = [] }

abbrev one : Automaton
one = record { states = 1; roots = 0 ∷ []; rules = leaf ∷ [] }

abbrev none : Automaton
none = record { states = 1; roots = []; rules = [] }

-- a pool of both
abbrev pool : List Automaton
pool = one ∷ none ∷ []

null_in_one : InLanguage one (tree_of Null [])
null_in_one = (0, inl refl, run_tree one.rules leaf [] (inl refl) run_none)

one_not_within_none : IsWithin one none → ⊥
one_not_within_none w = (w (tree_of Null []) null_in_one).1

none_within_each : (b : Automaton) → IsWithin none b
none_within_each b t l = absurd l.1

-- an answer is for two numbers in their order
for_3_and_5 : answer 3 5 true ≡ ((3, 5), true)
for_3_and_5 = refl

narrow_is : {n m w v : ℕ} {x y : Bool} → answer n w x ≡ answer m v y → n ≡ m
narrow_is e = ap (λ (a : Answer). a.0.0) e

wide_is : {n m w v : ℕ} {x y : Bool} → answer n w x ≡ answer m v y → w ≡ v
wide_is e = ap (λ (a : Answer). a.0.1) e

-- a memo of one answer lacks that for the numbers the other way round, and for one other number
lacks_5_and_3 : Lacks (answer 3 5 false ∷ []) 5 3
lacks_5_and_3 = λ holds i. elim i [
  | inl e ↦ let d = narrow_is e in omega (arith, d)
  | inr j ↦ j
]

lacks_3_and_4 : Lacks (answer 3 5 false ∷ []) 3 4
lacks_3_and_4 = λ holds i. elim i [
  | inl e ↦ let d = wide_is e in omega (arith, d)
  | inr j ↦ j
]

has_3_and_5 : Lacks (answer 3 5 false ∷ []) 3 5 → ⊥
has_3_and_5 lacks = lacks false (inl refl)

-- the language of number 1 is within that of number 0, and not the other way round
second_within_first : IsWithinAt pool 1 0
second_within_first a b p q = subst (λ (x : Automaton). IsWithin x b) (same_Some none a p) (none_within_each b)

first_not_within_second : IsWithinAt pool 0 1 → ⊥
first_not_within_second h = one_not_within_none (h one none refl refl)

-- so are the answers
right_yes : IsRight pool 1 0 true
right_yes = record { narrow = omega arith; wide = omega arith; right = ((λ e. second_within_first), (λ h. refl)) }

right_no : IsRight pool 0 1 false
right_no = record {
  narrow = omega arith;
  wide = omega arith;
  right = ((λ e. absurd (false≢true e)), (λ h. absurd (first_not_within_second h)));
}

wrong_yes : IsRight pool 0 1 true → ⊥
wrong_yes r = first_not_within_second (r.right.0 refl)

wrong_no : IsRight pool 1 0 false → ⊥
wrong_no r = false≢true (r.right.1 second_within_first)

-- no answer is right where one number is that of no automaton
no_number_2 : IsRight pool 2 0 true → ⊥
no_number_2 r = let low = r.narrow in omega (arith, low)

no_number_2_wide : IsRight pool 1 2 true → ⊥
no_number_2_wide r = let low = r.wide in omega (arith, low)

-- a memo agrees where each answer is right
none_agree : Agrees [] []
none_agree = tt

both_agree : Agrees (answer 1 0 true ∷ answer 0 1 false ∷ []) pool
both_agree = (right_yes, (right_no, tt))

not_the_other_way_round : Agrees (answer 0 1 true ∷ []) pool → ⊥
not_the_other_way_round h = wrong_yes h.0

not_with_one_wrong : Agrees (answer 1 0 true ∷ answer 1 0 false ∷ []) pool → ⊥
not_with_one_wrong h = wrong_no h.1.0

not_with_a_shorter_pool : Agrees (answer 1 0 true ∷ []) (one ∷ []) → ⊥
not_with_a_shorter_pool h = let low = h.0.narrow in omega (arith, low)

-- What is found for two numbers

found_3_in_5 : found_is 3 5 true ≡ record { narrow = 3; wide = 5; within = true }
found_3_in_5 = refl

both_right : AreRight pool (found_is 1 0 true ∷ found_is 0 1 false ∷ [])
both_right = (right_yes, (right_no, tt))

one_wrong : AreRight pool (found_is 1 0 true ∷ found_is 0 1 true ∷ []) → ⊥
one_wrong h = wrong_yes h.1.0

-- How far the first 5 of a list was looked for

abbrev is_five : ℕ → Type 0
is_five n = n ≡ 5

met_behind_two : IsPassedTo is_five (3 ∷ 4 ∷ 5 ∷ []) 2 true
met_behind_two = (5, refl, refl, ((λ e. omega (arith, e)), ((λ e. omega (arith, e)), tt)))

not_the_second_of_two : IsPassedTo is_five (5 ∷ 5 ∷ []) 1 true → ⊥
not_the_second_of_two least = least.3.0 refl

not_met : IsPassedTo is_five (4 ∷ []) 0 true → ⊥
not_met least = let same = same_Some 4 least.0 least.1 in let is = least.2 in omega (arith, same, is)

two_passed : IsPassedTo is_five (3 ∷ 4 ∷ 5 ∷ []) 2 false
two_passed = (omega arith, omega arith, ((λ e. omega (arith, e)), ((λ e. omega (arith, e)), tt)))

none_passed : IsPassedTo is_five (3 ∷ []) 0 false → ⊥
none_passed p = let some = p.0 in omega (arith, some)

past_the_end : IsPassedTo is_five (3 ∷ []) 2 false → ⊥
past_the_end p = let few = p.1 in omega (arith, few)

five_passed : IsPassedTo is_five (5 ∷ []) 1 false → ⊥
five_passed p = p.2.0 refl

one_met : passed_one true ≡ record { count = 0; met = true }
one_met = refl

one_gone : passed_one false ≡ record { count = 1; met = false }
one_gone = refl
