-- When one forest covers another, and reduced forests.
use Rattle.std.specs.Prelude.{◌≡◌}
use Rattle.fore_base.specs.Lists.{Every, Paired}
use Rattle.ta_core.specs.Language.{IsWithin}
use Rattle.ta_core.specs.Simulations.{AutoReduced}
use Rattle.fa_core.specs.declared.forest.Forest.{Forest}

-- F covers G: they have the same targets and data and as many roots, and the language of each component of G is within
-- that of F's; boxes are symbols
pub record Covers (F G : Forest) : Type 0 where
  pub vars : G.vars ≡ F.vars
  pub data_vars : G.data_vars ≡ F.data_vars
  pub within : Paired IsWithin G.autos F.autos

-- each component is reduced
abbrev pub Reduced : Forest → Type 0
Reduced F = Every AutoReduced F.autos
