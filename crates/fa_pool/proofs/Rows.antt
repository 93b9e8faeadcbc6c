-- Worked values of pools, kept forests and keys, each made by hand.
use Rattle.std.proofs.Common.{◌≡◌, ℕ, ◌+◌, ◌*◌, ◌-◌, ◌^◌, List, [], ◌∷◌, length, Option, Some, None, refl, ap}
use Rattle.std.proofs.Common.{arith, inl, inr}
use Rattle.std.proofs.lemmas.Option.{none-some, same_Some}
use Rattle.fore_base.specs.declared.store.Datum.{Datum}
use Rattle.fore_base.specs.declared.store.Datum.TheVariants.{Undefined, Known}
use Rattle.ta_core.specs.Auto.{Automaton}
use Rattle.ta_core.specs.declared.auto.Rule.{Rule}
use Rattle.ta_core.specs.declared.symbol.Slot.TheVariants.{Field, Link, Hook}
use Rattle.ta_core.specs.declared.symbol.Symbol.{Symbol}
use Rattle.ta_core.specs.declared.symbol.Symbol.TheVariants.{Null, Uninit, Dangling, Ref, Cell}
use Rattle.fa_core.specs.declared.forest.Forest.{Forest}
use Rattle.fa_core.specs.declared.forest.Target.{Target}
use Rattle.fa_core.specs.declared.forest.Target.TheVariants as target
use Rattle.fa_pool.specs.Keys.{key_of, mixed, with_datum, with_numbers, with_rule, with_slot, with_symbol}
use Rattle.fa_pool.specs.Looks.{with_looks, with_target}
use Rattle.fa_pool.specs.Pools.{IsNumber, ReadsAs, IsKeptIn, IsGrown}
use Rattle.fa_pool.specs.declared.kept.Kept.{Kept}

-- automata without root states and rules, of so many states
abbrev auto : ℕ → Automaton
auto n = record { states = n; roots = []; rules = [] }

differ : (n m : ℕ) → (n ≡ m → ⊥) → auto n ≡ auto m → ⊥
differ n m apart e = apart (ap (λ (a : Automaton). a.states) e)

-- a pool of two
abbrev pool : List Automaton
pool = auto 3 ∷ auto 5 ∷ []

-- the number of an automaton is its place, from 0
first_is_0 : IsNumber pool 0 (auto 3)
first_is_0 = refl

second_is_1 : IsNumber pool 1 (auto 5)
second_is_1 = refl

first_is_not_1 : IsNumber pool 1 (auto 3) → ⊥
first_is_not_1 e = differ 5 3 (λ d. omega (arith, d)) (same_Some (auto 5) (auto 3) e)

none_is_2 : IsNumber pool 2 (auto 5) → ⊥
none_is_2 e = none-some (auto 5) e

-- a kept forest of these parts, with one variable that is null and one datum, and a forest of these automata
abbrev kept : List ℕ → Kept
kept ns = record { parts = ns; vars = target.Null ∷ []; data_vars = Known 7 ∷ [] }

abbrev forest : List Automaton → List Target → List Datum → Forest
forest autos vars ds = record { autos = autos; vars = vars; data_vars = ds }

abbrev own : List Automaton → Forest
own autos = forest autos (target.Null ∷ []) (Known 7 ∷ [])

-- it reads as the forest with the automata of its parts, in their order; one part may stand twice
reads_in_order : ReadsAs pool (kept (1 ∷ 0 ∷ 1 ∷ [])) (own (auto 5 ∷ auto 3 ∷ auto 5 ∷ []))
reads_in_order = record { parts = (refl, (refl, (refl, tt))); vars = refl; data_vars = refl }

reads_no_part : ReadsAs pool (kept []) (own [])
reads_no_part = record { parts = tt; vars = refl; data_vars = refl }

-- and as no other
not_in_another_order : ReadsAs pool (kept (0 ∷ 1 ∷ [])) (own (auto 5 ∷ auto 3 ∷ [])) → ⊥
not_in_another_order r = differ 3 5 (λ d. omega (arith, d)) (same_Some (auto 3) (auto 5) r.parts.0)

not_with_one_more : ReadsAs pool (kept (0 ∷ [])) (own (auto 3 ∷ auto 5 ∷ [])) → ⊥
not_with_one_more r = r.parts.1

not_with_one_fewer : ReadsAs pool (kept (0 ∷ 1 ∷ [])) (own (auto 3 ∷ [])) → ⊥
not_with_one_fewer r = r.parts.1

not_with_other_variables : ReadsAs pool (kept []) (forest [] [] (Known 7 ∷ [])) → ⊥
not_with_other_variables r = let e : 0 ≡ 1 = ap (λ (vs : List Target). length vs) r.vars in omega (arith, e)

not_with_other_data : ReadsAs pool (kept []) (forest [] (target.Null ∷ []) []) → ⊥
not_with_other_data r = let e : 0 ≡ 1 = ap (λ (ds : List Datum). length ds) r.data_vars in omega (arith, e)

-- parts are numbers below the length
both_in : IsKeptIn pool (kept (1 ∷ 0 ∷ []))
both_in = (omega arith, (omega arith, tt))

third_is_not_in : IsKeptIn pool (kept (0 ∷ 2 ∷ [])) → ⊥
third_is_not_in h = let low = h.1.0 in omega (arith, low)

-- a pool grows behind, by some of the automata
grown_by_one : IsGrown pool (auto 5 ∷ auto 8 ∷ []) (auto 3 ∷ auto 5 ∷ auto 8 ∷ [])
grown_by_one = (auto 8 ∷ [], refl, (inr (inl refl), tt))

grown_by_none : IsGrown pool (auto 5 ∷ []) pool
grown_by_none = ([], refl, tt)

not_in_front : IsGrown pool (auto 8 ∷ []) (auto 8 ∷ auto 3 ∷ auto 5 ∷ []) → ⊥
not_in_front g = differ 8 3 (λ d. omega (arith, d))
    (same_Some (auto 8) (auto 3) (ap (λ (autos : List Automaton). front autos) g.1))
  where
    front : List Automaton → Option Automaton
    front [] = None
    front (a ∷ autos) = Some a

-- A number goes into a key of 64 bits: the key 1,000,003 times, and the number

mixed_small : mixed 2 5 ≡ 2000011
mixed_small = refl

-- 2^63 is half of 2^64, and 1,000,003 is odd
mixed_half : mixed (2 ^ 63) 0 ≡ 2 ^ 63
mixed_half = refl

-- the greatest key is -1
mixed_greatest : mixed (2 ^ 64 - 1) 1000003 ≡ 0
mixed_greatest = refl

numbers_in_turn : with_numbers 0 (2 ∷ 5 ∷ []) ≡ 2000011
numbers_in_turn = refl

no_numbers : with_numbers 9 [] ≡ 9
no_numbers = refl

-- kinds are told apart by their first number
key_of_undefined : with_datum 0 Undefined ≡ 0
key_of_undefined = refl

key_of_known : with_datum 0 (Known 7) ≡ 1000010
key_of_known = refl

key_of_field : with_slot 1 (Field 7) ≡ 1000003 * 1000003 + 7
key_of_field = refl

key_of_link : with_slot 0 (Link 7) ≡ 1000010
key_of_link = refl

key_of_hook : with_slot 0 (Hook 7) ≡ 2000013
key_of_hook = refl

key_of_null : with_symbol 0 Null ≡ 0
key_of_null = refl

key_of_uninit : with_symbol 0 Uninit ≡ 1
key_of_uninit = refl

key_of_dangling : with_symbol 0 Dangling ≡ 2
key_of_dangling = refl

key_of_ref : with_symbol 0 (Ref 7) ≡ 3000016
key_of_ref = refl

-- 4, struct 2, the datum 7, and the field 5
key_of_cell : with_symbol 0 (Cell 2 (Known 7 ∷ []) (Field 5 ∷ []))
    ≡ with_numbers 0 (4 ∷ 2 ∷ 1 ∷ 7 ∷ 0 ∷ 5 ∷ [])
key_of_cell = refl

-- the state, the symbol, and the children
key_of_rule : with_rule 0 (record { state = 6; symbol = Ref 1; children = 8 ∷ [] })
    ≡ with_numbers 0 (6 ∷ 3 ∷ 1 ∷ 8 ∷ [])
key_of_rule = refl

abbrev leaf : ℕ → Symbol → Rule
leaf q y = record { state = q; symbol = y; children = [] }

-- how many states, the root states, and the rules
key_of_whole : key_of (record { states = 2; roots = 1 ∷ 0 ∷ []; rules = leaf 0 Null ∷ leaf 1 Dangling ∷ [] })
    ≡ with_numbers 0 (2 ∷ 1 ∷ 0 ∷ 0 ∷ 0 ∷ 1 ∷ 2 ∷ [])
key_of_whole = refl

-- Forests that look alike

key_of_null_target : with_target 0 target.Null ≡ 0
key_of_null_target = refl

key_of_uninit_target : with_target 0 target.Uninit ≡ 1
key_of_uninit_target = refl

key_of_dangling_target : with_target 0 target.Dangling ≡ 2
key_of_dangling_target = refl

key_of_root : with_target 0 (target.At 7) ≡ 3000016
key_of_root = refl

-- root 1 and null, the datum 7, and 2 roots
key_of_looks : with_looks 6 (target.At 1 ∷ target.Null ∷ []) (Known 7 ∷ []) 2
    ≡ with_numbers 6 (3 ∷ 1 ∷ 0 ∷ 1 ∷ 7 ∷ 2 ∷ [])
key_of_looks = refl
