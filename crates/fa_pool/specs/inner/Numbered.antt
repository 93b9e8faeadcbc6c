-- Automata that were given their numbers in a pool, and in what is to come behind it.
use Rattle.std.specs.Prelude.{◌≡◌, ◌⊎◌, ℕ, List, [], ◌∷◌, ◌++◌}
use Rattle.std.specs.BTreeMap.{BTreeMap}
use Rattle.fore_base.specs.Lists.{IsIn, Every, IsDistinct, Paired}
use Rattle.ta_core.specs.Auto.{Automaton}
use Rattle.fa_pool.specs.Indexes.{IsIndexed}
use Rattle.fa_pool.specs.Pools.{IsNumber}

-- the list has the automaton at its end, which was in neither list; or it stays as it was
abbrev pub IsPut : List Automaton → Automaton → List Automaton → List Automaton → Type 0
IsPut held a old new = (new ≡ old) ⊎ ((new ≡ old ++ a ∷ []) × (IsIn a (held ++ old) → ⊥))

-- the numbers are those of the automata in the pool and what comes behind it, which is some of them, none twice and
-- none of the pool
pub record AreNumbered (index : BTreeMap ℕ (List ℕ)) (held autos : List Automaton) (parts : List ℕ)
    (more : List Automaton) : Type 0 where
  pub numbers : Paired (IsNumber (held ++ more)) parts autos
  pub among : Every (λ a. IsIn a autos) more
  pub distinct : IsDistinct (held ++ more)
  pub indexed : IsIndexed index (held ++ more)
