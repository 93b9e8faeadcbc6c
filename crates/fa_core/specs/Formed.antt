-- What is asked of a forest beside the fields of its cells: what an operation owes so that its result is filled where
-- it regroups a filled forest.
use Rattle.std.specs.Prelude.{ℕ, List, length}
use Rattle.fore_base.specs.Lists.{Every}
use Rattle.ta_core.specs.Auto.{IsRanked}
use Rattle.ta_core.specs.declared.tree.Tree.{Tree}
use Rattle.fa_core.specs.declared.faces.Face.{Face}
use Rattle.fa_core.specs.declared.forest.Forest.{Forest}
use Rattle.fa_core.specs.Filled.{Choice, TopsAre, IsRoot, DatumFits, RulesFit}
use Rattle.fa_core.specs.References.{AllBelow, tree_refs}

-- each tree has a cell at its top, and refers to roots that are there; so does each target
pub record IsFormedChoice (F : Forest) (ts : List Tree) : Type 0 where
  pub tops : (structs : List ℕ) × TopsAre ts structs
  pub refers : Every (λ t. AllBelow (length F.autos) (tree_refs t)) ts
  pub vars : Every (IsRoot (length F.autos)) F.vars

-- the rules have as many children as their symbols, data and symbols fit the face, and each choice of trees is formed
pub record IsFormed (face : Face) (F : Forest) : Type 0 where
  pub ranked : Every IsRanked F.autos
  pub data_vars : Every DatumFits F.data_vars
  pub rules : Every (RulesFit face) F.autos
  pub choices : (ts : List Tree) → Choice F.autos ts → IsFormedChoice F ts
