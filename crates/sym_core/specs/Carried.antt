-- What the edit of a forest does to its members, before the leak test.
use Rattle.std.specs.Prelude.{◌≡◌, ℕ, List}
use Rattle.fore_base.specs.Heap.{IsAlike}
use Rattle.fore_base.specs.declared.store.Store.{Store}
use Rattle.fa_core.specs.Dressed.{Nodes}
use Rattle.fa_core.specs.Member.{StandsBy, Stands}
use Rattle.fa_core.specs.declared.boxes.BoxDef.{BoxDef}
use Rattle.fa_core.specs.declared.faces.Face.{Face}
use Rattle.fa_core.specs.declared.forest.Forest.{Forest}
use Rattle.c_cfg.specs.Edges.{Pass, Passed, raw_step}
use Rattle.c_cfg.specs.declared.graph.Instr.{Instr}
use Rattle.sym_core.specs.Kept.{KeepsEdges}

module _ (face : Face) (T : List BoxDef) where
  -- s goes on to a member of R; x is the edge's choice
  pub record GoesInto (R : Forest) (i : Instr) (x : ℕ) (s : Store) : Type 0 where
    pub next : Store
    pub goes : raw_step face.shapes.structs i x s ≡ Passed next
    pub stands : Stands face.shapes.structs T R next

  -- the dressed forest d of the store u comes from one of H, whose box edges it has
  pub record ComesRaw (H R : Forest) (i : Instr) (x : ℕ) (d : Nodes) (u : Store) : Type 0 where
    pub dressed : Nodes
    pub was : Store
    pub goes_to : Store
    pub stands : StandsBy face.shapes.structs T H dressed was
    pub goes : raw_step face.shapes.structs i x was ≡ Passed goes_to
    pub into : Stands face.shapes.structs T R goes_to
    pub alike : IsAlike goes_to u
    pub edges : KeepsEdges face.boxes i was alike.to dressed d

  -- the members of R are what the members of H become: none is lost, none is invented, and box edges that are not
  -- needed are kept
  pub record Carries (H R : Forest) (i : Instr) (x : ℕ) : Type 0 where
    pub forth : (s : Store) → Stands face.shapes.structs T H s → GoesInto R i x s
    pub back : (d : Nodes) (u : Store) → StandsBy face.shapes.structs T R d u → ComesRaw H R i x d u

  -- each member of H goes thus
  abbrev pub AllGo : Forest → Instr → ℕ → Pass → Type 0
  AllGo H i x p = (s : Store) → Stands face.shapes.structs T H s → raw_step face.shapes.structs i x s ≡ p
