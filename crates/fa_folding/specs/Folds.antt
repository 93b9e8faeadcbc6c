-- What a fold of a forest keeps: the dressed forests, with the part of each put inside a box edge.
use Rattle.std.specs.Prelude.{◌≡◌, map}
use Rattle.std.specs.Prelude.{List}
use Rattle.fa_core.specs.declared.boxes.BoxDef.{BoxDef}
use Rattle.fa_core.specs.declared.forest.Forest.{Forest}
use Rattle.fa_core.specs.Dressed.{Nodes, roots_of, value_in}
use Rattle.fa_core.specs.Member.{OfForest}
use Rattle.fa_unfold.specs.Opens.{Item, Opens}

-- e of G is d of F with some of its cells and slots put inside a box edge: that edge opens into them, so the facts are
-- the same; every other cell and slot stays, and so does each variable
pub record IsFolded (F G : Forest) (d e : Nodes) : Type 0 where
  pub edge : Item
  pub opens : Opens edge e d
  pub vars : map (value_in (roots_of d)) F.vars ≡ map (value_in (roots_of e)) G.vars
  pub data_vars : F.data_vars ≡ G.data_vars

-- each dressed forest of F is, with a part of it put inside a box edge, one of G
abbrev pub FoldsInto : List BoxDef → Forest → Forest → Type 0
FoldsInto T F G = (d : Nodes) → OfForest T F d → (e : Nodes) × OfForest T G e × IsFolded F G d e
