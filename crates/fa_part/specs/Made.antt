-- The box that the code makes of a part.
use Rattle.std.specs.Prelude.{◌≡◌, ℕ, List, [], ◌++◌}
use Rattle.ta_core.specs.Auto.{Automaton}
use Rattle.fa_core.specs.Folding.{AreInnerAutos, ArePortAutos, position}
use Rattle.fa_core.specs.declared.boxes.BoxDef.{BoxDef}
use Rattle.fa_part.specs.declared.ports.Port.{Port}
use Rattle.fa_part.specs.Ports.{ports_of, roots_of, shapes_of}

-- the components of the ports, and those of the inner roots behind them
pub record ArePartAutos (own : List Automaton) (ps : List Port) (inner : List ℕ) (made : List Automaton) : Type 0 where
  pub port_autos : List Automaton
  pub inner_autos : List Automaton
  pub are : made ≡ port_autos ++ inner_autos
  pub at_ports : ArePortAutos (position (roots_of ps ++ inner)) own (ports_of ps) (shapes_of ps) port_autos
  pub at_inner : AreInnerAutos (position (roots_of ps ++ inner)) own inner inner_autos

-- g has the name and face of box b, no variables, and these components
pub record IsBoxOf (b : BoxDef) (own : List Automaton) (g : BoxDef) : Type 0 where
  pub name : g.name ≡ b.name
  pub face : g.face ≡ b.face
  pub no_vars : g.inside.vars ≡ []
  pub no_data : g.inside.data_vars ≡ []
  pub are : g.inside.autos ≡ own

-- g has the name and face of box b, no variables, and the components of the part
abbrev pub IsMade : List Automaton → BoxDef → List Port → List ℕ → BoxDef → Type 0
IsMade own b ps inner g = (made : List Automaton) × IsBoxOf b made g × ArePartAutos own ps inner made
