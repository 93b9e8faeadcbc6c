-- Worked values: lists that differ in one place, forests that can and cannot be joined, and the automaton that joins
-- two.
use Rattle.std.proofs.Common.{◌≡◌, inl, inr, ℕ, zero, suc, true, false, List, [], ◌∷◌, refl, sym, ap, subst, ◌∙◌, arith}
use Rattle.std.proofs.lemmas.Option.{none-some}
use Rattle.fore_base.specs.Lists.{IsIn}
use Rattle.fore_base.specs.declared.store.Datum.{Datum}
use Rattle.fore_base.specs.declared.store.Datum.TheVariants.{Undefined, Known}
use Rattle.ta_core.specs.Auto.{Automaton, automaton}
use Rattle.ta_core.specs.declared.auto.Rule.{Rule}
use Rattle.ta_core.specs.declared.symbol.Slot.TheVariants.{Field}
use Rattle.ta_core.specs.declared.symbol.Symbol.{Symbol}
use Rattle.ta_core.specs.declared.symbol.Symbol.TheVariants.{Null, Uninit, Cell}
use Rattle.fa_core.specs.Dressed.{Nodes}
use Rattle.fa_core.specs.Member.{OfForest}
use Rattle.fa_core.specs.declared.forest.Forest.{Forest}
use Rattle.fa_core.specs.declared.forest.Target.{Target}
use Rattle.fa_core.specs.declared.forest.Target.TheVariants.{Null as NullTarget, At}
use Rattle.fa_split.specs.Divided.{HasVarsOf}
use Rattle.fa_join.specs.Joinable.{PairedButOne, Joinable, NoneJoinable}
use Rattle.fa_join.specs.Joined.{IsJoined, Joins}
use Rattle.fa_join.specs.declared.comparing.Apart.TheVariants.{Nowhere, At as AtPlace, More}
use Rattle.fa_join.specs.inner.Apart.{apart_with, at_state}
use Rattle.fa_join.specs.inner.Joining.{of_both, joined}

-- Lists that are equal in all places but one at most, where anything may stand.

abbrev Equal : ℕ → ℕ → Type 0
Equal x y = x ≡ y

abbrev Any : ℕ → ℕ → Type 0
Any x y = Unit {0}

abbrev Below : ℕ → ℕ → Type 0
Below x y = y ≡ suc x

-- in one place they may differ, in none they need to
differ_in_one : PairedButOne Equal Any (1 ∷ 2 ∷ 3 ∷ []) (1 ∷ 7 ∷ 3 ∷ [])
differ_in_one = inl (refl, inr (tt, (refl, tt)))

differ_in_none : PairedButOne Equal Any (1 ∷ 2 ∷ []) (1 ∷ 2 ∷ [])
differ_in_none = inl (refl, inl (refl, tt))

-- not in two
never_in_two : PairedButOne Equal Any (1 ∷ 2 ∷ []) (3 ∷ 4 ∷ []) → ⊥
never_in_two (inl h) = (let e : 1 ≡ 3 = h.0 in omega (arith, e))
never_in_two (inr h) = (let e : 2 ≡ 4 = h.1.0 in omega (arith, e))

-- and only by what the second relation allows
allowed_there : PairedButOne Equal Below (1 ∷ 2 ∷ []) (1 ∷ 3 ∷ [])
allowed_there = inl (refl, inr (refl, tt))

not_allowed_there : PairedButOne Equal Below (1 ∷ 2 ∷ []) (1 ∷ 4 ∷ []) → ⊥
not_allowed_there (inl (e, inl h)) = (let f : 2 ≡ 4 = h.0 in omega (arith, f))
not_allowed_there (inl (e, inr h)) = (let f : 4 ≡ 3 = h.0 in omega (arith, f))
not_allowed_there (inr h) = (let f : 2 ≡ 4 = h.1.0 in omega (arith, f))

-- as many items
never_longer : PairedButOne Equal Any (1 ∷ []) (1 ∷ 2 ∷ []) → ⊥
never_longer (inl h) = h.1
never_longer (inr h) = h.1

-- Places at which lists differ: one is kept, a second one makes more.
no_place : apart_with Nowhere 4 true ≡ Nowhere
no_place = refl

first_place : apart_with Nowhere 4 false ≡ AtPlace 4
first_place = refl

same_place : apart_with (AtPlace 2) 4 true ≡ AtPlace 2
same_place = refl

second_place : apart_with (AtPlace 2) 4 false ≡ More
second_place = refl

third_place : apart_with More 4 false ≡ More
third_place = refl

-- Automata: a cell with two fields.

abbrev rule : ℕ → Symbol → List ℕ → Rule
rule q y qs = record { state = q; symbol = y; children = qs }

abbrev list_cell : Symbol
list_cell = Cell 0 [] (Field 0 ∷ [])

abbrev fork : Symbol
fork = Cell 0 [] (Field 0 ∷ Field 1 ∷ [])

-- null in both fields
abbrev nulls : Automaton
nulls = automaton 2 (1 ∷ []) (rule 0 Null [] ∷ rule 1 fork (0 ∷ 0 ∷ []) ∷ [])

-- null in the first field, uninitialised in the second
abbrev mixed : Automaton
mixed = automaton 3 (2 ∷ []) (rule 0 Null [] ∷ rule 1 Uninit [] ∷ rule 2 fork (0 ∷ 1 ∷ []) ∷ [])

one_state : at_state mixed 1 ≡ automaton 3 (1 ∷ []) (rule 0 Null [] ∷ rule 1 Uninit [] ∷ rule 2 fork (0 ∷ 1 ∷ []) ∷ [])
one_state = refl

-- rules of two states, those of another one left out
rules_of_two : of_both 9 0 2 (rule 0 Null [] ∷ rule 1 Null [] ∷ rule 2 Uninit [] ∷ rule 0 list_cell (1 ∷ []) ∷ [])
    ≡ rule 9 Null [] ∷ rule 9 Uninit [] ∷ rule 9 list_cell (1 ∷ []) ∷ []
rules_of_two = refl

-- the second field is null or uninitialised: state 6 has the rules of both
joined_fields : joined nulls mixed 1 ≡ automaton 7 (5 ∷ []) (
    rule 0 Null [] ∷ rule 1 fork (0 ∷ 0 ∷ []) ∷ rule 2 Null [] ∷ rule 3 Uninit [] ∷ rule 4 fork (2 ∷ 3 ∷ []) ∷
    rule 5 fork (0 ∷ 6 ∷ []) ∷ rule 6 Null [] ∷ rule 6 Uninit [] ∷ [])
joined_fields = refl

-- Forests.

abbrev forest_of : Automaton → List Target → List Datum → Forest
forest_of a vs ds = record { autos = a ∷ []; vars = vs; data_vars = ds }

abbrev first_datum : List Datum → ℕ
first_datum [] = 0
first_datum (Undefined ∷ ds) = 0
first_datum (Known n ∷ ds) = n

-- other data, or other targets, and they cannot be joined
other_data : Joinable [] (forest_of nulls (At 0 ∷ []) (Known 1 ∷ [])) (forest_of nulls (At 0 ∷ []) (Known 2 ∷ [])) → ⊥
other_data h = (let e : 1 ≡ 2 = ap first_datum h.data_vars in omega (arith, e))

abbrev IsAtRoot : List Target → Type 0
IsAtRoot (At r ∷ vs) = Unit {0}
IsAtRoot vs = ⊥

other_targets : Joinable [] (forest_of nulls (At 0 ∷ []) []) (forest_of nulls (NullTarget ∷ []) []) → ⊥
other_targets h = subst IsAtRoot h.vars tt

-- a forest can be joined with itself, so it may stand once in a list and not twice
with_itself : Joinable [] (forest_of nulls (At 0 ∷ []) []) (forest_of nulls (At 0 ∷ []) [])
with_itself = record { vars = refl; data_vars = refl; components = inl ((λ t. ((λ h. h), (λ h. h))), tt) }

once_alone : NoneJoinable [] (forest_of nulls (At 0 ∷ []) [] ∷ [])
once_alone zero zero F G e f n h = n refl
once_alone zero (suc j) F G e f n h = none-some G f
once_alone (suc i) j F G e f n h = none-some F e

never_twice : NoneJoinable [] (forest_of nulls (At 0 ∷ []) [] ∷ forest_of nulls (At 0 ∷ []) [] ∷ []) → ⊥
never_twice h = h 0 1 (forest_of nulls (At 0 ∷ []) []) (forest_of nulls (At 0 ∷ []) []) refl refl
    (λ e. omega (arith, e)) with_itself

-- two equal forests are joined to one; none is lost, and the data stay
joins_itself : Joins (forest_of nulls (At 0 ∷ []) []) (forest_of nulls (At 0 ∷ []) []) (forest_of nulls (At 0 ∷ []) [])
joins_itself =
    record {
      first = (refl, refl);
      second = (refl, refl);
      dressed = λ T d. ((λ h. inl h), (λ h. elim h [ inl k ↦ k | inr k ↦ k ]));
    }

joined_to_one : IsJoined [] (forest_of nulls (At 0 ∷ []) [] ∷ forest_of nulls (At 0 ∷ []) [] ∷ [])
    (forest_of nulls (At 0 ∷ []) [] ∷ [])
joined_to_one = record {
  whole =
      λ F i d o.
      (forest_of nulls (At 0 ∷ []) [], inl refl, same F i, subst (λ (z : Forest). OfForest [] z d) (is F i) o);
  only = λ F i d o. (F, elim i [ inl e ↦ inl e | inr e ↦ absurd e ], (refl, refl), o);
}
  where
    is : (F : Forest) → IsIn F (forest_of nulls (At 0 ∷ []) [] ∷ forest_of nulls (At 0 ∷ []) [] ∷ [])
        → F ≡ forest_of nulls (At 0 ∷ []) []
    is F (inl e) = e
    is F (inr (inl e)) = e
    is F (inr (inr e)) = absurd e

    same : (F : Forest) → IsIn F (forest_of nulls (At 0 ∷ []) [] ∷ forest_of nulls (At 0 ∷ []) [] ∷ [])
        → HasVarsOf F (forest_of nulls (At 0 ∷ []) [])
    same F i = (ap (λ (z : Forest). z.vars) (sym (is F i)), ap (λ (z : Forest). z.data_vars) (sym (is F i)))

-- with the data of the other one it is lost
never_with_other_data : (d : Nodes) → OfForest [] (forest_of nulls [] (Known 1 ∷ [])) d
    → IsJoined [] (forest_of nulls [] (Known 1 ∷ []) ∷ []) (forest_of nulls [] (Known 2 ∷ []) ∷ []) → ⊥
never_with_other_data d o h =
    let k = h.whole (forest_of nulls [] (Known 1 ∷ [])) (inl refl) d o in
    elim k.1 [
      | inl e ↦ (let f : 2 ≡ 1 = ap (λ (z : Forest). first_datum z.data_vars) (sym e) ∙ ap first_datum k.2.1 in
          omega (arith, f))
      | inr e ↦ absurd e
    ]
