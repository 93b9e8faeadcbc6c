-- Forests that show what an edge needs: each pointer field that it reads, writes or frees ends at one leaf.
use Rattle.std.specs.Prelude.{◌≡◌, ℕ, List, Some, slice_index_or}
use Rattle.fore_base.specs.Lists.{IsIn}
use Rattle.fore_base.specs.declared.shape.Shape.{Shape}
use Rattle.ta_core.specs.Single.{HasOneTop}
use Rattle.fa_core.specs.declared.forest.Forest.{Forest}
use Rattle.fa_core.specs.declared.forest.Target.{Target}
use Rattle.fa_core.specs.declared.forest.Target.TheVariants.{Uninit, At}
use Rattle.fa_sound.specs.Components.{component_at}
use Rattle.fa_edit.specs.Plain.{IsPlainAt}
use Rattle.c_cfg.specs.declared.graph.Instr.{Instr}
use Rattle.sym_core.specs.Kept.{base_of, Needs}

-- what the pointer variable x is
abbrev pub target_at : Forest → ℕ → Target
target_at F x = slice_index_or F.vars x Uninit

-- each root at which a variable is has one rule, and each field that the edge needs at the cell of its base ends at one
-- leaf, or is no field of the struct
pub record IsExplicit (hs : List Shape) (F : Forest) (i : Instr) : Type 0 where
  pub tops : (r : ℕ) → IsIn (At r) F.vars → HasOneTop (component_at F.autos r)
  pub plain : (b r f : ℕ) → base_of i ≡ Some b → target_at F b ≡ At r → Needs i f → IsPlainAt hs F r f
