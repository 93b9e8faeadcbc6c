-- The keys by which forests are found that look alike.
use Rattle.std.specs.Prelude.{ℕ, List, [], ◌∷◌}
use Rattle.fore_base.specs.declared.store.Datum.{Datum}
use Rattle.fa_core.specs.declared.forest.Target.{Target}
use Rattle.fa_core.specs.declared.forest.Target.TheVariants.{Null, Uninit, Dangling, At}
use Rattle.fa_pool.specs.Keys.{mixed, with_datums}

-- the key with a target: which kind, and the number of its root
abbrev pub with_target : ℕ → Target → ℕ
with_target key Null = mixed key 0
with_target key Uninit = mixed key 1
with_target key Dangling = mixed key 2
with_target key (At r) = mixed (mixed key 3) r

abbrev pub with_targets : ℕ → List Target → ℕ
with_targets key [] = key
with_targets key (t ∷ ts) = with_targets (with_target key t) ts

-- with what a forest looks like: its targets, its data, and how many roots it has
abbrev pub with_looks : ℕ → List Target → List Datum → ℕ → ℕ
with_looks key vars ds roots = mixed (with_datums (with_targets key vars) ds) roots
