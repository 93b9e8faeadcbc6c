-- Forests that are kept by the numbers of their components in a pool, which is a list of automata.
use Rattle.std.specs.Prelude.{◌≡◌, ℕ, ◌<◌, List, ◌++◌, length, Some, slice_get}
use Rattle.fore_base.specs.Lists.{IsIn, Every, Paired}
use Rattle.ta_core.specs.Auto.{Automaton}
use Rattle.fa_core.specs.declared.forest.Forest.{Forest}
use Rattle.fa_pool.specs.declared.kept.Kept.{Kept}

-- the number is that of the automaton: its place in the pool
abbrev pub IsNumber : List Automaton → ℕ → Automaton → Type 0
IsNumber pool n a = slice_get pool n ≡ Some a

-- by the pool the kept forest reads as F: its parts are the numbers of the components of F in their order, and the
-- variables are those of F
pub record ReadsAs (pool : List Automaton) (kept : Kept) (F : Forest) : Type 0 where
  pub parts : Paired (IsNumber pool) kept.parts F.autos
  pub vars : F.vars ≡ kept.vars
  pub data_vars : F.data_vars ≡ kept.data_vars

-- each part of the kept forest is the number of an automaton of the pool
abbrev pub IsKeptIn : List Automaton → Kept → Type 0
IsKeptIn pool kept = Every (λ n. n < length pool) kept.parts

-- the new pool is the old one with some of these automata behind it
abbrev pub IsGrown : List Automaton → List Automaton → List Automaton → Type 0
IsGrown old autos new = (more : List Automaton) × (new ≡ old ++ more) × Every (λ a. IsIn a autos) more
