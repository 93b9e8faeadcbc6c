-- Roots that have one rule.
use Rattle.std.specs.Prelude.{◌≡◌, ◌<◌, ℕ, length}
use Rattle.fore_base.specs.Lists.{IsIn}
use Rattle.ta_core.specs.Single.{HasOneTop}
use Rattle.fa_core.specs.declared.forest.Forest.{Forest}
use Rattle.fa_core.specs.declared.forest.Target.{Target}
use Rattle.fa_core.specs.declared.forest.Target.TheVariants.{At}
use Rattle.fa_merge.specs.Reordered.{component_at}

-- r is a root, and has one rule
pub record HasTop (F : Forest) (r : ℕ) : Type 0 where
  pub root : r < length F.autos
  pub top : HasOneTop (component_at F.autos r)

-- if the target is a root, that has one rule
abbrev pub IsTopped : Forest → Target → Type 0
IsTopped F t = (r : ℕ) → t ≡ At r → HasTop F r

-- each root at which a variable is has one rule
abbrev pub AreTopped : Forest → Type 0
AreTopped F = (r : ℕ) → IsIn (At r) F.vars → HasOneTop (component_at F.autos r)
