-- Forests whose roots are those of a canonical forest, in any order.
use Rattle.std.specs.Prelude.{ℕ, ◌<◌, List, length}
use Rattle.fore_base.specs.Lists.{Every}
use Rattle.ta_core.specs.Single.{HasOneTop}
use Rattle.ta_core.specs.declared.tree.Tree.{Tree}
use Rattle.fa_core.specs.Canonical.{IsRootKind, IsShared, IsUntied}
use Rattle.fa_core.specs.Filled.{Choice}
use Rattle.fa_core.specs.declared.faces.Face.{Face}
use Rattle.fa_core.specs.declared.forest.Forest.{Forest}

-- the root is of kind 1 or 2, whichever trees are taken
abbrev pub IsSharedRoot : Forest → ℕ → Type 0
IsSharedRoot F r = (ts : List Tree) → Choice F.autos ts → IsShared F.vars ts r

-- it is not, whichever are taken
abbrev pub IsUnsharedRoot : Forest → ℕ → Type 0
IsUnsharedRoot F r = (ts : List Tree) → Choice F.autos ts → IsShared F.vars ts r → ⊥

-- each component has one root state with one rule, and the roots are the cells of the four kinds: what makes a
-- well-formed forest canonical but for the order of its roots
pub record HasRootKinds (face : Face) (F : Forest) : Type 0 where
  pub tops : Every HasOneTop F.autos
  pub kinds : (ts : List Tree) → Choice F.autos ts → (r : ℕ) → r < length ts → IsRootKind face.boxes F.vars ts r
  pub untied : (ts : List Tree) → Choice F.autos ts → IsUntied F.vars ts
