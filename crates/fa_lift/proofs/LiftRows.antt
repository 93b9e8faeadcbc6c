-- Worked values of lifting: which children an edge may be at, and what is left of an automaton.
use Rattle.std.proofs.Common.{◌≡◌, true, false, List, [], ◌∷◌, None, Some, refl}
use Rattle.ta_core.specs.Auto.{Automaton}
use Rattle.ta_core.specs.declared.symbol.Slot.TheVariants.{Field, Link, Hook}
use Rattle.ta_core.specs.declared.symbol.Symbol.TheVariants.{Null, Ref, Cell}
use Rattle.fa_core.specs.declared.faces.BoxFace.{BoxFace}
use Rattle.fa_lift.specs.Lift.{child_gives, hat_children, hatted}

-- box 0 gives field 1 at its output, and box 1 has none
boxes : List BoxFace
boxes =
    record { input = 1; output = Some 1; gives_in = 0 ∷ []; gives_out = 1 ∷ []; back = true }
    ∷ record { input = 1; output = None; gives_in = 0 ∷ []; gives_out = []; back = false }
    ∷ []

-- a child counts behind a Hook as before it
of_a_link : child_gives boxes 1 (Hook 1 ∷ Field 1 ∷ Link 0 ∷ []) 1 ≡ true
unfolding boxes
of_a_link = refl

-- another field, another slot, no such child
not_that_field : child_gives boxes 0 (Hook 1 ∷ Field 1 ∷ Link 0 ∷ []) 1 ≡ false
unfolding boxes
not_that_field = refl

not_a_field : child_gives boxes 1 (Hook 1 ∷ Field 1 ∷ Link 0 ∷ []) 0 ≡ false
unfolding boxes
not_a_field = refl

not_there : child_gives boxes 1 (Hook 1 ∷ Field 1 ∷ Link 0 ∷ []) 2 ≡ false
unfolding boxes
not_there = refl

-- three states, a cell of state 1: the first child hatted, the second, and the leaf in the place of the second
one_hat : hat_children 3 1 (0 ∷ 1 ∷ []) ≡ (3 ∷ 1 ∷ []) ∷ (0 ∷ 4 ∷ []) ∷ (0 ∷ 6 ∷ []) ∷ []
one_hat = refl

-- the lists of cells that end in a null pointer, with one cell but the first taken out, and Ref(5) there
lists : Automaton
lists = record {
  states = 2;
  roots = 0 ∷ [];
  rules =
      record { state = 0; symbol = Cell 0 [] (Field 0 ∷ []); children = 0 ∷ [] }
      ∷ record { state = 0; symbol = Cell 0 [] (Field 0 ∷ []); children = 1 ∷ [] }
      ∷ record { state = 1; symbol = Null; children = [] }
      ∷ [];
}

left : hatted lists 0 5 ≡ record {
  states = 5;
  roots = 2 ∷ [];
  rules =
      record { state = 0; symbol = Cell 0 [] (Field 0 ∷ []); children = 0 ∷ [] }
      ∷ record { state = 0; symbol = Cell 0 [] (Field 0 ∷ []); children = 1 ∷ [] }
      ∷ record { state = 1; symbol = Null; children = [] }
      ∷ record { state = 4; symbol = Ref 5; children = [] }
      ∷ record { state = 2; symbol = Cell 0 [] (Field 0 ∷ []); children = 2 ∷ [] }
      ∷ record { state = 2; symbol = Cell 0 [] (Field 0 ∷ []); children = 4 ∷ [] }
      ∷ record { state = 2; symbol = Cell 0 [] (Field 0 ∷ []); children = 3 ∷ [] }
      ∷ [];
}
unfolding lists
left = refl
