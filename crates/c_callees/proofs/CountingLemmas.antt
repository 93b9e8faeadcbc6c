-- Counting places up to a limit.
use Rattle.std.proofs.Common.{◌≡◌, ℕ, zero, suc, ◌+◌, ◌<◌, ◌≤◌, List, [], ◌∷◌, ◌++◌, Option, Some, None, length, map}
use Rattle.std.proofs.Common.{drop, get_or, slice_get, refl, sym, ap, arith, ◌∙◌}
use Rattle.std.proofs.lemmas.List.{drop_all}
use Rattle.std.proofs.lemmas.Option.{none-some}
use Rattle.fore_base.proofs.ListLemmas.{drop_item}
use Rattle.fore_base.specs.declared.place.Place.{Place}
use Rattle.c_ast.specs.declared.statements.Part.{Part}
use Rattle.c_typing.specs.BodySites.{part_places}
use Rattle.c_typing.specs.Texts.{joined}
use Rattle.c_callees.specs.declared.counting.Count.{Count}
use Rattle.c_callees.specs.inner.Counting.{passed, all_passed}

pub passed-none : (c : Count) → all_passed c [] ≡ c
unfolding all_passed
passed-none c = refl

pub passed-one : (c : Count) (at : Place) → all_passed c (at ∷ []) ≡ passed c at
unfolding all_passed
passed-one c at = refl

pub passed-more : (c : Count) (at : Place) (ats : List Place) → all_passed c (at ∷ ats) ≡ all_passed (passed c at) ats
unfolding all_passed
passed-more c at ats = refl

pub passed-append : (c : Count) (xs ys : List Place) → all_passed c (xs ++ ys) ≡ all_passed (all_passed c xs) ys
unfolding all_passed
passed-append c [] ys = refl
passed-append c (x ∷ xs) ys = passed-append (passed c x) xs ys

pub ruleset counting = (passed-none, passed-one, passed-more, passed-append)

-- once a place is beyond, it stays
stays : (p : Place) (n : ℕ) (ats : List Place) → (all_passed (record { left = n; beyond = Some p }) ats).beyond ≡ Some p
unfolding all_passed
stays p n [] = refl
stays p n (at ∷ ats) = stays p n ats

-- the first place beyond the limit
pub beyond-all : (n : ℕ) (ats : List Place) → (all_passed (record { left = n; beyond = None }) ats).beyond
    ≡ slice_get ats n
unfolding all_passed
beyond-all n [] = refl
beyond-all zero (at ∷ ats) = stays at 0 ats
beyond-all (suc n) (at ∷ ats) = beyond-all n ats

-- where none is beyond, those that passed are as many as are left no more
left-all : (n : ℕ) (ats : List Place) → (all_passed (record { left = n; beyond = None }) ats).beyond ≡ None
    → (all_passed (record { left = n; beyond = None }) ats).left + length ats ≡ n
unfolding all_passed
left-all n [] none = omega (arith)
left-all zero (at ∷ ats) none = absurd (none-some at (sym none ∙ stays at 0 ats))
left-all (suc n) (at ∷ ats) none = omega (arith, left-all n ats none)

pub all_within : (n : ℕ) (c : Count) (ats : List Place) → c ≡ all_passed (record { left = n; beyond = None }) ats
    → c.beyond ≡ None → c.left + length ats ≡ n
all_within n c ats is none =
    ap (λ (d : Count). d.left + length ats) is ∙ left-all n ats (sym (ap (λ (d : Count). d.beyond) is) ∙ none)

pub parts_passed : (c : Count) (parts : List Part) (i : ℕ) (p : Part) → i < length parts → p ≡ get_or parts i p →
    all_passed c (joined (map part_places (drop i parts)))
    ≡ all_passed (all_passed c (part_places p)) (joined (map part_places (drop (i + 1) parts)))
parts_passed c parts i p within is =
    ap (λ ps. all_passed c (joined (map part_places ps))) (drop_item parts i p within is)
    ∙ passed-append c (part_places p) (joined (map part_places (drop (i + 1) parts)))

pub parts_over : (c : Count) (parts : List Part) (i : ℕ) → length parts ≤ i
    → all_passed c (joined (map part_places (drop i parts))) ≡ c
parts_over c parts i past = ap (λ ps. all_passed c (joined (map part_places ps))) (drop_all i parts past)
    ∙ passed-none c

-- a place, and then two lists of places
pub passed_two : (c0 c1 c2 c3 : Count) (at : Place) (xs ys : List Place) → c1 ≡ passed c0 at → c2 ≡ all_passed c1 xs
    → c3 ≡ all_passed c2 ys → c3 ≡ all_passed c0 (at ∷ xs ++ ys)
passed_two c0 c1 c2 c3 at xs ys h k l =
    l ∙ ap (λ c. all_passed c ys) (k ∙ ap (λ c. all_passed c xs) h ∙ sym (passed-more c0 at xs))
    ∙ sym (passed-append c0 (at ∷ xs) ys)
