-- Worked answers: which forests are bare, and which ends are decided.
use Rattle.std.proofs.Common.{◌≡◌, ℕ, List, [], ◌∷◌, refl, lit<, arith}
use Rattle.ta_core.specs.Auto.{automaton}
use Rattle.ta_core.specs.declared.symbol.Slot.TheVariants.{Field, Link, Hook}
use Rattle.ta_core.specs.declared.symbol.Symbol.{Symbol}
use Rattle.ta_core.specs.declared.symbol.Symbol.TheVariants.{Null, Cell}
use Rattle.fa_core.specs.declared.forest.Forest.{Forest}
use Rattle.fix_core.specs.declared.explored.Explored.TheVariants.{Closed, Spent}
use Rattle.fix_decided.specs.Bare.{IsBare}
use Rattle.fix_decided.specs.Decided.{IsDecided}

-- one component, whose rules are a cell with these slots and children, and a null pointer
abbrev of_cell : Symbol → List ℕ → Forest
of_cell y children = record {
  autos = automaton 2 (0 ∷ [])
      (record { state = 0; symbol = y; children = children }
      ∷ (record { state = 1; symbol = Null; children = [] } ∷ [])) ∷ [];
  vars = [];
  data_vars = [];
}

-- without components there is nothing to ask
none_is_bare : IsBare (record { autos = []; vars = []; data_vars = [] })
none_is_bare = record { plain = tt; ranked = tt }

-- a cell with one field
field_is_bare : IsBare (of_cell (Cell 0 [] (Field 0 ∷ [])) (1 ∷ []))
field_is_bare = record {
  plain = (((tt, tt), (tt, tt)), tt);
  ranked = (((lit< tt, tt), ((lit< tt, (lit< tt, tt), refl), ((lit< tt, tt, refl), tt))), tt);
}

-- a cell with an edge of a box that has an output, and of one that has none
link_is_not_bare : IsBare (of_cell (Cell 0 [] (Link 0 ∷ [])) (1 ∷ [])) → ⊥
link_is_not_bare b = b.plain.0.0.0

hook_is_not_bare : IsBare (of_cell (Cell 0 [] (Hook 0 ∷ [])) []) → ⊥
hook_is_not_bare b = b.plain.0.0.0

-- a cell without a child for its field
childless_is_not_bare : IsBare (of_cell (Cell 0 [] (Field 0 ∷ [])) []) → ⊥
childless_is_not_bare b = let e : 0 ≡ 1 = b.ranked.0.1.0.2 in omega (arith, e)

-- every node is done; the budget is full
closed_is_decided : IsDecided (Closed [])
closed_is_decided = tt

full_is_not_decided : IsDecided (Spent []) → ⊥
full_is_not_decided h = h
