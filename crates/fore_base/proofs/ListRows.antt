-- Worked values of the words on lists and marks, each worked out by hand from what they mean.
use Rattle.std.proofs.Common.{◌≡◌, inl, inr, ◌<◌, ℕ, Bool, true, false, true≢false, List, [], ◌∷◌, refl, sym, arith}
use Rattle.fore_base.specs.Lists.{IsIn, Every, IsDistinct, Paired, PairedBut}
use Rattle.fore_base.specs.Marks.{IsMarked, all_marked, some_marked, marked_each, marked_count}

-- Lists

is_second : IsIn {X = ℕ} 7 (5 ∷ 7 ∷ [])
is_second = inr (inl refl)

is_none_of_them : IsIn {X = ℕ} 6 (5 ∷ 7 ∷ []) → ⊥
is_none_of_them (inl e) = omega (arith, e)
is_none_of_them (inr (inl e)) = omega (arith, e)
is_none_of_them (inr (inr h)) = h

each_is_low : Every (λ n. n < 8) (5 ∷ 7 ∷ [])
each_is_low = (omega arith, (omega arith, tt))

one_is_not : Every (λ n. n < 7) (5 ∷ 7 ∷ []) → ⊥
one_is_not h = let l = h.1.0 in omega (arith, l)

none_twice : IsDistinct {X = ℕ} (5 ∷ 7 ∷ [])
none_twice = (λ h. elim h [ inl e ↦ absurd (omega (arith, e)) | inr n ↦ n ], (λ h. h, tt))

one_twice : IsDistinct {X = ℕ} (5 ∷ 7 ∷ 5 ∷ []) → ⊥
one_twice d = d.0 (inr (inl refl))

each_below_its_partner : Paired (λ m n. m < n) (1 ∷ 4 ∷ []) (2 ∷ 5 ∷ [])
each_below_its_partner = (omega arith, (omega arith, tt))

one_is_no_partner : Paired (λ m n. m < n) (1 ∷ 5 ∷ []) (2 ∷ 5 ∷ []) → ⊥
one_is_no_partner h = let l = h.1.0 in omega (arith, l)

no_partner_is_left : Paired (λ (m n : ℕ). m < n) (1 ∷ 4 ∷ []) (2 ∷ []) → ⊥
no_partner_is_left h = h.1

none_has_no_partner : Paired (λ (m n : ℕ). m < n) [] (2 ∷ []) → ⊥
none_has_no_partner h = h

-- at place 1 stand 9 and 3
but_at_one_place : PairedBut (λ m n. m < n) 1 9 3 (1 ∷ 9 ∷ 4 ∷ []) (2 ∷ 3 ∷ 5 ∷ [])
but_at_one_place = (omega arith, (refl, refl, (omega arith, tt)))

not_at_another_place : PairedBut (λ m n. m < n) 0 9 3 (1 ∷ 9 ∷ 4 ∷ []) (2 ∷ 3 ∷ 5 ∷ []) → ⊥
not_at_another_place h = let e = h.0 in omega (arith, e)

-- Marks: of 0 and 2, of three numbers

abbrev marks : List Bool
marks = true ∷ false ∷ true ∷ []

zero_is_marked : IsMarked marks 0
zero_is_marked = refl

one_is_not_marked : IsMarked marks 1 → ⊥
one_is_not_marked h = true≢false (sym h)

past_the_end_is_none : IsMarked marks 3 → ⊥
past_the_end_is_none h = true≢false (sym h)

both_are_marked : all_marked marks (2 ∷ 0 ∷ []) ≡ true
both_are_marked = refl

not_all_are_marked : all_marked marks (2 ∷ 1 ∷ []) ≡ false
not_all_are_marked = refl

all_of_none : all_marked marks [] ≡ true
all_of_none = refl

some_are_marked : some_marked marks (1 ∷ 2 ∷ []) ≡ true
some_are_marked = refl

none_is_marked : some_marked marks (1 ∷ 3 ∷ []) ≡ false
none_is_marked = refl

some_of_none : some_marked marks [] ≡ false
some_of_none = refl

each_in_its_set : marked_each (0 ∷ 1 ∷ []) (marks ∷ (false ∷ true ∷ []) ∷ []) ≡ true
each_in_its_set = refl

one_not_in_its_set : marked_each (0 ∷ 0 ∷ []) (marks ∷ (false ∷ true ∷ []) ∷ []) ≡ false
one_not_in_its_set = refl

a_set_too_many : marked_each (0 ∷ []) (marks ∷ marks ∷ []) ≡ false
a_set_too_many = refl

a_number_too_many : marked_each (0 ∷ 0 ∷ []) (marks ∷ []) ≡ false
a_number_too_many = refl

two_marks : marked_count marks ≡ 2
two_marks = refl
