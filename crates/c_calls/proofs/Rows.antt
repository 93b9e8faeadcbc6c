-- Worked calls and weights. The values are counted by hand from what is called where.
use Rattle.std.proofs.Common.{◌≡◌, inl, inr, ℕ, true, false, List, [], ◌∷◌, refl, sym, arith}
use Rattle.std.proofs.Common.{zero, suc, ◌<◌, get_or, min, true≢false}
use Rattle.c_calls.specs.Calls.{called_by, AreCalls, Leads, at_once, through, leads_within, none_recurs}
use Rattle.c_calls.specs.Weights.{Weighs, weighs, none, more, weight_within, weight_of, AreWeights}
use Rattle.c_calls.proofs.FewCalls.{leads_few}
use Rattle.c_calls.proofs.Weighed.{one_weight}

-- void a(void) { } void b(void) { a(); a(); } int main(void) { b(); return 0; }
abbrev stairs : List (List ℕ)
stairs = [] ∷ (0 ∷ 0 ∷ []) ∷ (1 ∷ []) ∷ []

-- void f(void) { g(); } void g(void) { f(); } int main(void) { f(); return 0; }
abbrev ring : List (List ℕ)
ring = (1 ∷ []) ∷ (0 ∷ []) ∷ (0 ∷ []) ∷ []

-- int main(void) { main(); return 0; }
abbrev itself : List (List ℕ)
itself = (0 ∷ []) ∷ []

-- Calls

b_calls_a_twice : called_by stairs 1 ≡ 0 ∷ 0 ∷ []
b_calls_a_twice = refl

what_is_not_there_calls_nothing : called_by stairs 3 ≡ []
what_is_not_there_calls_nothing = refl

stairs_are_calls : AreCalls stairs
stairs_are_calls = (tt, ((omega arith, (omega arith, tt)), ((omega arith, tt), tt)))

a_call_of_what_is_not_there : AreCalls ((1 ∷ []) ∷ []) → ⊥
a_call_of_what_is_not_there h = let l = h.0.0 in omega (arith, l)

-- What leads where

main_leads_to_b : Leads stairs 2 1
main_leads_to_b = at_once (inl refl)

main_leads_to_a : Leads stairs 2 0
main_leads_to_a = through 1 (inl refl) (at_once (inr (inl refl)))

-- calls lead one way
a_leads_nowhere : (g : ℕ) → Leads stairs 0 g → ⊥
a_leads_nowhere g (at_once i) = i
a_leads_nowhere g (through h i l) = i

-- no call at all leads from a function to itself
main_does_not_lead_to_itself : Leads stairs 2 2 → ⊥
main_does_not_lead_to_itself l = absurd (true≢false (sym (leads_few stairs 2 2 l)))

-- f leads to itself, though it does not call itself
f_leads_to_itself : Leads ring 0 0
f_leads_to_itself = through 1 (inl refl) (at_once (inl refl))

not_by_one_call : leads_within ring 1 0 0 ≡ false
not_by_one_call = refl

but_by_two : leads_within ring 2 0 0 ≡ true
but_by_two = refl

by_no_call_nothing_leads : leads_within ring 0 0 1 ≡ false
by_no_call_nothing_leads = refl

main_leads_into_the_ring : leads_within ring 2 2 1 ≡ true
main_leads_into_the_ring = refl

-- main leads to f and g, which lead to themselves, and is not led to
main_is_in_no_ring : leads_within ring 3 2 2 ≡ false
main_is_in_no_ring = refl

stairs_do_not_recur : none_recurs stairs ≡ true
stairs_do_not_recur = refl

the_ring_recurs : none_recurs ring ≡ false
the_ring_recurs = refl

main_that_calls_itself_recurs : none_recurs itself ≡ false
main_that_calls_itself_recurs = refl

-- the last function alone is in no ring, the first is
a_first_function_that_recurs : none_recurs ((0 ∷ []) ∷ [] ∷ []) ≡ false
a_first_function_that_recurs = refl

no_functions_do_not_recur : none_recurs [] ≡ true
no_functions_do_not_recur = refl

-- Weights: the body of a has none, that of b two statements, and that of main two

abbrev bodies : List ℕ
bodies = 0 ∷ 2 ∷ 2 ∷ []

stairs_weigh : weight_of bodies stairs 2 ≡ 4
stairs_weigh = refl

-- a body of one statement that is called twice counts twice
twice_called : weight_of (1 ∷ 2 ∷ 2 ∷ []) stairs 1 ≡ 4
twice_called = refl

-- a function that is called by none counts for itself alone
what_is_not_called_counts_not : weight_of (5 ∷ 2 ∷ []) ([] ∷ [] ∷ []) 1 ≡ 2
what_is_not_called_counts_not = refl

-- void f(void) with 4,094 statements, and int main(void) { f(); f(); f(); f(); ;;;; }: 4 times 4,095, and 4
at_the_limit : weight_of (4094 ∷ 8 ∷ []) ([] ∷ (0 ∷ 0 ∷ 0 ∷ 0 ∷ []) ∷ []) 1 ≡ 16384
at_the_limit = refl

-- void f0(void) { return; }, void fk(void) { fj(); fj(); } with j one less, up to f5, and main with one call and a
-- return: fk weighs 3 times 2 ^ k less 2, main 2 more than f5
abbrev doubling : List (List ℕ)
doubling = [] ∷ (0 ∷ 0 ∷ []) ∷ (1 ∷ 1 ∷ []) ∷ (2 ∷ 2 ∷ []) ∷ (3 ∷ 3 ∷ []) ∷ (4 ∷ 4 ∷ []) ∷ (5 ∷ []) ∷ []

abbrev doubling_bodies : List ℕ
doubling_bodies = 1 ∷ 2 ∷ 2 ∷ 2 ∷ 2 ∷ 2 ∷ 2 ∷ []

five_doublings : weight_of doubling_bodies doubling 5 ≡ 94
five_doublings = refl

main_over_five_doublings : weight_of doubling_bodies doubling 6 ≡ 96
main_over_five_doublings = refl

-- calls followed one deep: main, and the two statements of f5
not_followed_on : weight_within doubling_bodies doubling 1 6 ≡ 4
not_followed_on = refl

-- int x = f(), y = f(); is one statement with two calls; f has a body of 3
one_statement_two_calls : weight_of (3 ∷ 1 ∷ []) ([] ∷ (0 ∷ 0 ∷ []) ∷ []) 1 ≡ 7
one_statement_two_calls = refl

-- as a derivation: a weighs 1, and b two statements and twice that
a_weighs : Weighs (1 ∷ 2 ∷ 2 ∷ []) stairs 0 1
a_weighs = weighs (none refl) refl

b_weighs : Weighs (1 ∷ 2 ∷ 2 ∷ []) stairs 1 4
b_weighs = weighs (more a_weighs (more a_weighs (none refl) refl) refl) refl

-- and not once
not_as_called_once : Weighs (1 ∷ 2 ∷ 2 ∷ []) stairs 1 3 → ⊥
not_as_called_once w = let e = one_weight (1 ∷ 2 ∷ 2 ∷ []) stairs 1 3 4 w b_weighs in absurd (omega (arith, e))

-- a function that calls itself alone has no weight: it would be greater than itself
mutual
  itself_weighs_nothing : (w : ℕ) → Weighs (1 ∷ []) itself 0 w → ⊥
  itself_weighs_nothing w (weighs (more a b d) e) = itself_weighs_nothing _ a

-- with a cap of 3: b weighs 4
up_to_three : AreWeights (1 ∷ 2 ∷ 2 ∷ []) stairs 3 (1 ∷ 3 ∷ 3 ∷ [])
up_to_three = record { long = refl; each = each }
  where
    each : (f : ℕ) → f < 3 → get_or (1 ∷ 3 ∷ 3 ∷ []) f 0 ≡ min (weight_of (1 ∷ 2 ∷ 2 ∷ []) stairs f) 3
    each zero l = refl
    each (suc zero) l = refl
    each (suc (suc zero)) l = refl
    each (suc (suc (suc f))) l = absurd (omega (arith, l))
