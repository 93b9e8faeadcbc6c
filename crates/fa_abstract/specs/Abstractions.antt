-- Forests abstracted by height and then reduced.
use Rattle.std.specs.Prelude.{◌≡◌, ℕ, List}
use Rattle.fore_base.specs.Lists.{Paired}
use Rattle.ta_core.specs.Language.{HasSameLanguage}
use Rattle.fa_core.specs.declared.faces.BoxFace.{BoxFace}
use Rattle.fa_core.specs.declared.forest.Forest.{Forest}
use Rattle.fa_height.specs.Quotients.{Quotient}

-- G has the targets, the data variables and, component by component, the language of the quotient of F by height k
pub record IsAbstraction (bs : List BoxFace) (F : Forest) (k : ℕ) (G : Forest) : Type 0 where
  pub middle : Forest
  pub quotient : Quotient bs F k middle
  pub vars : G.vars ≡ middle.vars
  pub data_vars : G.data_vars ≡ middle.data_vars
  pub same : Paired HasSameLanguage middle.autos G.autos
