-- What an edge of a control graph makes of the members of a forest: no case is lost, none is invented, and each fault
-- is met.
use Rattle.std.specs.Prelude.{◌≡◌, List}
use Rattle.fore_base.specs.Heap.{IsAlike}
use Rattle.fore_base.specs.Lists.{IsIn}
use Rattle.fore_base.specs.declared.fault.Fault.{Fault}
use Rattle.fore_base.specs.declared.store.Store.{Store}
use Rattle.fa_core.specs.Member.{Stands}
use Rattle.fa_core.specs.declared.boxes.BoxDef.{BoxDef}
use Rattle.fa_core.specs.declared.faces.Face.{Face}
use Rattle.fa_core.specs.declared.forest.Forest.{Forest}
use Rattle.c_cfg.specs.Edges.{Pass, Passed, Faulted, Halted, NotPassed, gstep}
use Rattle.c_cfg.specs.declared.graph.Edge.{Edge}

-- a fault, and a forest whose members meet it
pub record BadAt : Type 0 where
  pub fault : Fault
  pub at : Forest

-- over the structs and faces of `face`, and the boxes T
module _ (face : Face) (T : List BoxDef) where
  -- the store is a member of a forest of the list
  abbrev pub StandsInOne : List Forest → Store → Type 0
  StandsInOne Ms s = (M : Forest) × IsIn M Ms × Stands face.shapes.structs T M s

  -- the store is a member of a forest of the list, and meets there this fault
  abbrev pub FaultsInOne : List BadAt → Fault → Store → Type 0
  FaultsInOne Bads k s = (b : BadAt) × IsIn b Bads × (b.fault ≡ k) × Stands face.shapes.structs T b.at s

  -- where the edge goes on from s, to a member of a forest of Ms; where it faults, s is a member of a Bad with that
  -- fault
  abbrev pub IsMet : List Forest → List BadAt → Store → Pass → Type 0
  IsMet Ms Bads s (Passed t) = StandsInOne Ms t
  IsMet Ms Bads s (Faulted k) = FaultsInOne Bads k s
  IsMet Ms Bads s Halted = Unit {0}
  IsMet Ms Bads s NotPassed = Unit {0}

  -- no case is lost: each member of F goes into a member of a forest of Ms, or meets the fault of a Bad in which it
  -- stands, or does not go on
  abbrev pub AllCases : Forest → Edge → List Forest → List BadAt → Type 0
  AllCases F e Ms Bads = (s : Store) → Stands face.shapes.structs T F s
      → IsMet Ms Bads s (gstep face.shapes.structs e s)

  -- u is alike to what the edge makes of a member of F
  pub record ComesFrom (F : Forest) (e : Edge) (u : Store) : Type 0 where
    pub was : Store
    pub goes_to : Store
    pub stands : Stands face.shapes.structs T F was
    pub goes : gstep face.shapes.structs e was ≡ Passed goes_to
    pub alike : IsAlike goes_to u

  -- no case is invented: each member of M comes so
  abbrev pub CaseOf : Forest → Edge → Forest → Type 0
  CaseOf F e M = (u : Store) → Stands face.shapes.structs T M u → ComesFrom F e u

  -- each member of a Bad is a member of F that meets its fault
  abbrev pub IsTrueBad : Forest → Edge → BadAt → Type 0
  IsTrueBad F e b = (s : Store) → Stands face.shapes.structs T b.at s → Stands face.shapes.structs T F s
      × (gstep face.shapes.structs e s ≡ Faulted b.fault)
