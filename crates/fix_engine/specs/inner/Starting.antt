-- The forest of node 0.
use Rattle.std.specs.Prelude.{ℕ, [], replicate}
use Rattle.fore_base.specs.declared.store.Datum.TheVariants.{Undefined}
use Rattle.fa_core.specs.declared.forest.Forest.{Forest}
use Rattle.fa_core.specs.declared.forest.Target.TheVariants.{Uninit}

-- no component, and no variable set
abbrev pub no_components : ℕ → ℕ → Forest
no_components ptrs datums = record { autos = []; vars = replicate ptrs Uninit; data_vars = replicate datums Undefined }
