-- Which roots of a forest are reached, and when its members leak.
use Rattle.std.specs.Prelude.{◌<◌, ℕ, List, length}
use Rattle.fore_base.specs.Heap.{Leaked}
use Rattle.fore_base.specs.declared.store.Store.{Store}
use Rattle.ta_core.specs.declared.tree.Tree.{Tree}
use Rattle.fa_core.specs.declared.boxes.BoxDef.{BoxDef}
use Rattle.fa_core.specs.declared.faces.Face.{Face}
use Rattle.fa_core.specs.declared.forest.Forest.{Forest}
use Rattle.fa_core.specs.Boxes.{IsTableOf}
use Rattle.fa_core.specs.Filled.{Choice}
use Rattle.fa_core.specs.Member.{Stands}
use Rattle.fa_back.specs.Insides.{AreRankedInsides}
use Rattle.fa_back.specs.Reached.{RootReached}

-- the root is reached, whichever tree of each component is taken
abbrev pub IsReached : Face → Forest → ℕ → Type 0
IsReached face F r = (ts : List Tree) → Choice F.autos ts → RootReached face.boxes F.vars ts r

-- the root is not reached, whichever tree of each component is taken
abbrev pub IsUnreached : Face → Forest → ℕ → Type 0
IsUnreached face F r = (ts : List Tree) → Choice F.autos ts → RootReached face.boxes F.vars ts r → ⊥

-- each root is reached
abbrev pub AreAllReached : Face → Forest → Type 0
AreAllReached face F = (r : ℕ) → r < length F.autos → IsReached face F r

-- the root is not reached, and each lesser one is
pub record IsLeastUnreached (face : Face) (F : Forest) (r : ℕ) : Type 0 where
  pub root : r < length F.autos
  pub unreached : IsUnreached face F r
  pub least : (k : ℕ) → k < r → IsReached face F k

-- every member of the forest by these boxes leaks
abbrev pub DoAllLeak : Face → List BoxDef → Forest → Type 0
DoAllLeak face T F = (s : Store) → Stands face.shapes.structs T F s → Leaked s

-- no member of the forest by these boxes leaks
abbrev pub DoesNoneLeak : Face → List BoxDef → Forest → Type 0
DoesNoneLeak face T F = (s : Store) → Stands face.shapes.structs T F s → Leaked s → ⊥

-- every member of the forest leaks, for each table over the face
abbrev pub AlwaysLeaks : Face → Forest → Type 0
AlwaysLeaks face F = (T : List BoxDef) → IsTableOf face T → DoAllLeak face T F

-- no member of the forest leaks, for each table over the face
abbrev pub NeverLeaks : Face → Forest → Type 0
NeverLeaks face F = (T : List BoxDef) → IsTableOf face T → DoesNoneLeak face T F

-- the forest stands for some store, for each table over the face whose insides have rules with as many children as
-- their symbols
abbrev pub HasMembers : Face → Forest → Type 0
HasMembers face F = (T : List BoxDef) → IsTableOf face T → AreRankedInsides T
    → (s : Store) × Stands face.shapes.structs T F s
