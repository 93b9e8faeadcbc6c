-- What wrong bodies of a pool would answer, refused by the words of its contracts.
use Rattle.std.proofs.Common.{◌≡◌, ℕ, List, [], ◌∷◌, length, ap, arith}
use Rattle.std.proofs.lemmas.Option.{same_Some}
use Rattle.ta_core.specs.Auto.{Automaton}
use Rattle.fa_core.specs.declared.forest.Forest.{Forest}
use Rattle.fa_pool.specs.Pools.{ReadsAs}
use Rattle.fa_pool.specs.declared.kept.Kept.{Kept}

-- automata without rules, of so many states, with these root states
abbrev auto : ℕ → List ℕ → Automaton
auto n roots = record { states = n; roots = roots; rules = [] }

-- a kept forest of one component, and that component as a forest
abbrev kept : ℕ → Kept
kept n = record { parts = n ∷ []; vars = []; data_vars = [] }

abbrev alone : Automaton → Forest
alone a = record { autos = a ∷ []; vars = []; data_vars = [] }

-- a new automaton stands behind the two that are there: its number, counted from 0 and not from 2
new_automata_from_0 : ReadsAs (auto 3 [] ∷ auto 5 [] ∷ auto 8 [] ∷ []) (kept 0) (alone (auto 8 [])) → ⊥
new_automata_from_0 reads =
    let e : 3 ≡ 8 = ap (λ (a : Automaton). a.states) (same_Some (auto 3 []) (auto 8 []) reads.parts.0) in
    omega (arith, e)

-- an automaton of 3 states with a root state, taken for the one of 3 states without
as_many_states : ReadsAs (auto 3 [] ∷ auto 5 [] ∷ []) (kept 0) (alone (auto 3 (0 ∷ []))) → ⊥
as_many_states reads =
    let e : 0 ≡ 1 = ap (λ (a : Automaton). length a.roots) (same_Some (auto 3 []) (auto 3 (0 ∷ [])) reads.parts.0) in
    omega (arith, e)
