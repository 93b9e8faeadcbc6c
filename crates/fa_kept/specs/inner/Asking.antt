-- What was found when a kept forest was asked, and how far the first that covers was looked for.
use Rattle.std.specs.Prelude.{◌↔◌, ℕ, ◌<◌, ◌≤◌, Bool, true, false, IsTrue, List, length, take}
use Rattle.fore_base.specs.Lists.{Every}
use Rattle.par_kit.specs.Phases.{NoneMeets, IsLeast}
use Rattle.ta_core.specs.Auto.{Automaton}
use Rattle.fa_pool.specs.declared.kept.Kept.{Kept}
use Rattle.fa_kept.specs.declared.asking.Asked.{Asked}
use Rattle.fa_kept.specs.declared.asking.Found.{Found}
use Rattle.fa_kept.specs.declared.portions.Passed.{Passed}
use Rattle.fa_kept.specs.Memos.{IsRight}
use Rattle.fa_kept.specs.inner.Within.{CoversByNumbers}

-- what is found for two numbers
abbrev pub found_is : ℕ → ℕ → Bool → Found
found_is narrow wide within = record { narrow = narrow; wide = wide; within = within }

-- what was found is right for the pool
abbrev pub AreRight : List Automaton → List Found → Type 0
AreRight pool found = Every (λ f. IsRight pool f.narrow f.wide f.within) found

-- the kept forest was asked whether it covers the narrow one
pub record IsAsked (pool : List Automaton) (wide narrow : Kept) (asked : Asked) : Type 0 where
  pub covers : IsTrue asked.covers ↔ CoversByNumbers pool wide narrow
  pub found : AreRight pool asked.found

-- so many items at the front do not meet P: the next one does, or at least one was passed
abbrev pub IsPassedTo : {X : Type 0} → (X → Type 0) → List X → ℕ → Bool → Type 0
IsPassedTo P xs n true = IsLeast P xs n
IsPassedTo P xs n false = (0 < n) × (n ≤ length xs) × NoneMeets P (take n xs)

abbrev pub IsPassed : {X : Type 0} → (X → Type 0) → List X → Passed → Type 0
IsPassed P xs passed = IsPassedTo P xs passed.count passed.met

-- the first item met, or passed
abbrev pub passed_one : Bool → Passed
passed_one true = record { count = 0; met = true }
passed_one false = record { count = 1; met = false }
