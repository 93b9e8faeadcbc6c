-- A new cell as a last root (`malloc`, 7.22.3.4): its pointers are uninitialised and its data undefined.
use Rattle.std.specs.Prelude.{◌≡◌, ◌<◌, ℕ, zero, suc, List, length, replicate, slice_set}
use Rattle.fore_base.specs.Lists.{Every}
use Rattle.fore_base.specs.Shapes.{targets_of, datums_of}
use Rattle.fore_base.specs.declared.shape.Shape.{Shape}
use Rattle.fore_base.specs.declared.store.Datum.TheVariants.{Undefined}
use Rattle.fa_core.specs.Choices.{count}
use Rattle.fa_core.specs.Dressed.{Node, Parts, Nodes, node, no_parts, field, leaf, all_refs}
use Rattle.fa_core.specs.Filled.{IsRoot}
use Rattle.fa_core.specs.Member.{OfForest}
use Rattle.fa_core.specs.declared.boxes.BoxDef.{BoxDef}
use Rattle.fa_core.specs.declared.forest.Forest.{Forest}
use Rattle.fa_core.specs.declared.forest.Target.TheVariants.{Uninit, At}
use Rattle.fa_split.specs.Split.{with_last}

-- the fields from k on, j of them, each Uninit
abbrev pub blank_parts : ℕ → ℕ → Parts
blank_parts k zero = no_parts
blank_parts k (suc j) = field k (leaf Uninit) (blank_parts (suc k) j)

-- a cell of the struct that was just made, of number c
abbrev pub new_node : List Shape → ℕ → ℕ → Node
new_node hs shape c = node c shape (replicate (datums_of hs shape) Undefined)
    (blank_parts 0 (length (targets_of hs shape)))

-- G is F with a new cell of the struct as its last root, at which variable `to` is
pub record IsNewed (hs : List Shape) (T : List BoxDef) (F G : Forest) (to shape : ℕ) : Type 0 where
  pub roots : ℕ
  pub vars : G.vars ≡ slice_set F.vars to (At roots)
  pub data_vars : G.data_vars ≡ F.data_vars
  -- all targets and references of F are in range
  pub targets : Every (IsRoot roots) F.vars
  pub counted : (d : Nodes) → OfForest T F d → count d ≡ roots
  pub refs : (d : Nodes) → OfForest T F d → Every (λ r. r < roots) (all_refs d)
  pub forth : (d : Nodes) → OfForest T F d → (c : ℕ) → OfForest T G (with_last d (new_node hs shape c))
  pub back : (d : Nodes) → OfForest T G d → (e : Nodes) × (c : ℕ) × (d ≡ with_last e (new_node hs shape c))
      × OfForest T F e
