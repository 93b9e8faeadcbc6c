-- When a forest shows more of a forest, for an edge of a control graph: its stores are stores of the other, and each
-- box edge that the graph's edge does not need stands in it as it stood.
use Rattle.std.specs.Prelude.{◌≡◌, ℕ, List}
use Rattle.fore_base.specs.Lists.{IsIn}
use Rattle.fore_base.specs.declared.store.Store.{Store}
use Rattle.fa_core.specs.Dressed.{Nodes, Seen, SeenCell, cells}
use Rattle.fa_core.specs.Member.{StandsBy}
use Rattle.fa_core.specs.declared.boxes.BoxDef.{BoxDef}
use Rattle.fa_core.specs.declared.faces.BoxFace.{BoxFace}
use Rattle.fa_core.specs.declared.faces.Face.{Face}
use Rattle.fa_core.specs.declared.forest.Forest.{Forest}
use Rattle.c_cfg.specs.declared.graph.Instr.{Instr}
use Rattle.sym_core.specs.Kept.{IsEdgeOf, IsExcepted}

-- this slot stands at cell n: of the same box, with the same inside and the same value at its end
abbrev pub StandsAt : List SeenCell → ℕ → Seen → Type 0
StandsAt cs n x = (c : SeenCell) × IsIn c cs × (c.cell ≡ n) × IsIn x c.slots

-- each box edge of d that is not excepted stands in e as it stands in d
abbrev pub LeavesEdges : List BoxFace → Instr → Store → Nodes → Nodes → Type 0
LeavesEdges bs i s d e = (c : SeenCell) → IsIn c (cells d) → (x : Seen) → IsIn x c.slots → (b : ℕ) → IsEdgeOf b x
    → (IsExcepted bs i s c x → ⊥) → StandsAt (cells e) c.cell x

-- a dressed forest of F that stands for s too, whose box edges d has
pub record RefinedFrom (face : Face) (T : List BoxDef) (i : Instr) (F : Forest) (d : Nodes) (s : Store) : Type 0 where
  pub dressed : Nodes
  pub stands : StandsBy face.shapes.structs T F dressed s
  pub edges : LeavesEdges face.boxes i s dressed d

-- each dressed forest of G that stands for a store comes so from one of F: G is F, split, lifted or unfolded
abbrev pub Refines : Face → List BoxDef → Instr → Forest → Forest → Type 0
Refines face T i F G = (d : Nodes) (s : Store) → StandsBy face.shapes.structs T G d s → RefinedFrom face T i F d s
