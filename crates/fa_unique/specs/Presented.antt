-- Canonical forests without box edges, and when two dressed forests are equal up to the numbers of cells.
use Rattle.std.specs.Prelude.{◌≡◌}
use Rattle.fore_base.specs.Lists.{Every}
use Rattle.fa_core.specs.declared.faces.Face.{Face}
use Rattle.fa_core.specs.declared.forest.Forest.{Forest}
use Rattle.fa_core.specs.Boxless.{HasNoBoxes}
use Rattle.fa_core.specs.Canonical.{IsCanonical}
use Rattle.fa_core.specs.Choices.{bares}
use Rattle.fa_core.specs.Dressed.{Nodes}

-- the forest is canonical, and no rule has a box edge
pub record IsPlainCanonical (face : Face) (F : Forest) : Type 0 where
  pub canonical : IsCanonical face F
  pub plain : Every HasNoBoxes F.autos

-- d of F and e of G are equal up to the numbers of cells: the same trees, place by place, the same targets and the same
-- data. A tree without box edges has its numbers beside what `bares` keeps, and no more
pub record PresentAlike (F G : Forest) (d e : Nodes) : Type 0 where
  pub trees : bares d ≡ bares e
  pub vars : F.vars ≡ G.vars
  pub data_vars : F.data_vars ≡ G.data_vars
