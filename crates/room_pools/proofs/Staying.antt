-- Forests that are kept in a pool which grows.
use Rattle.std.proofs.Common.{◌≡◌, ℕ, ◌<◌, List, ◌++◌, length, arith, sym, subst}
use Rattle.std.proofs.lemmas.List.{length-append}
use Rattle.fore_base.specs.Lists.{Every}
use Rattle.fore_base.proofs.ListLemmas.{every_weaker}
use Rattle.ta_core.specs.Auto.{Automaton}
use Rattle.fa_pool.specs.Pools.{IsKeptIn, IsGrown}
use Rattle.fa_pool.specs.declared.kept.Kept.{Kept}

stays_in : (pool more : List Automaton) (kept : Kept) → IsKeptIn pool kept → IsKeptIn (pool ++ more) kept
stays_in pool more kept h =
    every_weaker (λ n. n < length pool) (λ n. n < length (pool ++ more)) kept.parts
    (λ n low. (let e = length-append pool more in omega (arith, low, e))) h

-- what was kept in the pool is kept in it when it has grown
pub all_stay_in : (pool autos new : List Automaton) (all : List Kept) → IsGrown pool autos new
    → Every (IsKeptIn pool) all → Every (IsKeptIn new) all
all_stay_in pool autos new all grown h =
    subst (λ (xs : List Automaton). Every (IsKeptIn xs) all) (sym grown.1)
    (every_weaker (IsKeptIn pool) (IsKeptIn (pool ++ grown.0)) all (stays_in pool grown.0) h)
