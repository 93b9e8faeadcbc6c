-- Answers of inclusion that are kept by the numbers of automata in a pool.
use Rattle.std.specs.Prelude.{◌↔◌, ℕ, ◌<◌, Bool, IsTrue, List, length}
use Rattle.fore_base.specs.Lists.{IsIn, Every}
use Rattle.ta_core.specs.Auto.{Automaton}
use Rattle.ta_core.specs.Language.{IsWithin}
use Rattle.fa_pool.specs.Pools.{IsNumber}

-- two numbers in their order, and whether the language of the first is within that of the second
abbrev pub Answer : Type 0
Answer = (ℕ × ℕ) × Bool

abbrev pub answer : ℕ → ℕ → Bool → Answer
answer narrow wide holds = ((narrow, wide), holds)

-- there is no answer for the two numbers
abbrev pub Lacks : List Answer → ℕ → ℕ → Type 0
Lacks memo narrow wide = (holds : Bool) → IsIn (answer narrow wide holds) memo → ⊥

-- in the pool the language of the automaton of the one number is within that of the other
abbrev pub IsWithinAt : List Automaton → ℕ → ℕ → Type 0
IsWithinAt pool narrow wide = (a b : Automaton) → IsNumber pool narrow a → IsNumber pool wide b → IsWithin a b

-- both numbers are those of automata, and the answer is true exactly where the language of the one is within that of
-- the other
pub record IsRight (pool : List Automaton) (n w : ℕ) (holds : Bool) : Type 0 where
  pub narrow : n < length pool
  pub wide : w < length pool
  pub right : IsTrue holds ↔ IsWithinAt pool n w

-- each answer is right for the pool
abbrev pub Agrees : List Answer → List Automaton → Type 0
Agrees memo pool = Every (λ a. IsRight pool a.0.0 a.0.1 a.1) memo
