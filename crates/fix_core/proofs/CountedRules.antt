-- How many rules automata have, counted as far as a number goes.
use Rattle.std.proofs.Common.{◌≡◌, ◌<◌, ◌≤◌, ◌+◌, ℕ, List, length, map, drop, get_or, sym, ap, ◌∙◌, inl, inr}
use Rattle.std.proofs.Common.{arith}
use Rattle.std.specs.Prelude.{min}
use Rattle.std.proofs.Math.Nat.{min-eq_left, min-eq_right}
use Rattle.std.proofs.lemmas.Bool.{cases_lt}
use Rattle.std.proofs.lemmas.List.{drop_all, drop_more}
use Rattle.ta_core.specs.Auto.{Automaton}
use Rattle.fa_pool.specs.Pools.{IsNumber}
use Rattle.fix_core.specs.Counted.{rules_in}
use Rattle.fix_core.specs.Reads.{auto_at}
use Rattle.fix_core.proofs.Reading.{at_its_place}

-- what is cut off on the way is cut off at the end
capped : (a b m : ℕ) → min (min a m + b) m ≡ min (a + b) m
capped a b m = elim (cases_lt a m) [
  | inl low ↦ ap (λ z. min (z + b) m) (min-eq_left (omega (arith, low)))
  | inr high ↦
      let whole : m ≤ m + b = omega (arith) in
      let more : m ≤ a + b = omega (arith, high) in
      ap (λ z. min (z + b) m) (min-eq_right high) ∙ min-eq_right whole ∙ sym (min-eq_right more)
]

-- one automaton more is counted
pub counted_next : (pool : List Automaton) (ns : List ℕ) (i d : ℕ) (a : Automaton) (rules m all : ℕ)
    → i < length ns → IsNumber pool (get_or ns i d) a
    → min (rules + rules_in (map (auto_at pool) (drop i ns))) m ≡ all
    → min (min (rules + length a.rules) m + rules_in (map (auto_at pool) (drop (i + 1) ns))) m ≡ all
counted_next pool ns i d a rules m all low is before =
    let rest = rules_in (map (auto_at pool) (drop (i + 1) ns)) in
    let here = ap (λ (xs : List ℕ). rules_in (map (auto_at pool) xs)) (drop_more ns i d low) in
    let own = ap (λ (x : Automaton). length x.rules) (at_its_place pool (get_or ns i d) a is) in
    let sum : rules + length a.rules + rest ≡ rules + rules_in (map (auto_at pool) (drop i ns)) =
    omega (arith, here, own) in
    capped (rules + length a.rules) rest m ∙ ap (λ z. min z m) sum ∙ before

-- all are counted
pub counted_all : (pool : List Automaton) (ns : List ℕ) (i rules m all : ℕ) → length ns ≤ i → rules ≤ m
    → min (rules + rules_in (map (auto_at pool) (drop i ns))) m ≡ all → rules ≡ all
counted_all pool ns i rules m all past low before =
    let none = ap (λ (xs : List ℕ). rules_in (map (auto_at pool) xs)) (drop_all i ns past) in
    let sum : rules + rules_in (map (auto_at pool) (drop i ns)) ≡ rules = omega (arith, none) in
    sym (ap (λ z. min z m) sum ∙ min-eq_left low) ∙ before
