-- Forests divided into several: none of the stores for which a forest stands is lost, and none is new.
use Rattle.std.specs.Prelude.{◌≡◌, List}
use Rattle.fore_base.specs.Lists.{Every}
use Rattle.fa_core.specs.declared.boxes.BoxDef.{BoxDef}
use Rattle.fa_core.specs.declared.forest.Forest.{Forest}
pub use Rattle.fa_sound.specs.Unions.{forests}
use Rattle.fa_core.specs.Member.{Regroups, RegroupsInto}

-- whatever the box table is, each forest of the list regroups F, and each dressed forest of F can be regrouped into one
-- of some forest of the list
pub record IsDivided (F : Forest) (Gs : List Forest) : Type 0 where
  pub regroups : (T : List BoxDef) → Every (Regroups T F) Gs
  pub whole : (T : List BoxDef) → RegroupsInto T F Gs

-- the targets and data of F
abbrev pub HasVarsOf : Forest → Forest → Type 0
HasVarsOf F G = (G.vars ≡ F.vars) × (G.data_vars ≡ F.data_vars)
