-- Nodes without box edges.
use Rattle.std.specs.Prelude.{List}
use Rattle.fore_base.specs.Lists.{Every}
use Rattle.ta_core.specs.Auto.{IsRanked}
use Rattle.fa_core.specs.Boxless.{HasNoBoxes}
use Rattle.fa_core.specs.declared.forest.Forest.{Forest}
use Rattle.fix_core.specs.declared.nodes.Node.{Node}

-- no rule has a box edge, and each has as many children as its symbol
pub record IsBare (F : Forest) : Type 0 where
  pub plain : Every HasNoBoxes F.autos
  pub ranked : Every IsRanked F.autos

-- so it is with the forest of each node
abbrev pub AreBare : List Node → Type 0
AreBare nodes = Every (λ (n : Node). IsBare n.state.forest) nodes
