-- The symbols and rules that tables stand for.
use Rattle.std.specs.Prelude.{ℕ, List, [], ◌∷◌, map}
use Rattle.fore_base.specs.declared.store.Datum.{Datum}
use Rattle.ta_core.specs.Auto.{Automaton, automaton}
use Rattle.ta_core.specs.declared.auto.Rule.{Rule}
use Rattle.ta_core.specs.declared.symbol.Slot.{Slot}
use Rattle.ta_core.specs.declared.symbol.Slot.TheVariants.{Field}
use Rattle.ta_core.specs.declared.symbol.Symbol.{Symbol}
use Rattle.ta_core.specs.declared.symbol.Symbol.TheVariants.{Null, Uninit, Dangling, Ref, Cell}
use Rattle.ta_core.specs.declared.tables.Line.{Line}
use Rattle.ta_core.specs.declared.tables.Plan.{Plan}
use Rattle.ta_core.specs.declared.tables.Sign.{Sign}
use Rattle.ta_core.specs.declared.tables.Sign.TheVariants.{Null as NullSign, Uninit as UninitSign}
use Rattle.ta_core.specs.declared.tables.Sign.TheVariants.{Dangling as DanglingSign, Ref as RefSign, ListCell, Fork}
use Rattle.ta_core.specs.declared.tables.Sign.TheVariants.{Datum as DatumSign, Slots}

-- a cell of struct 0 without data
abbrev pub cell : List Slot → Symbol
cell slots = Cell 0 [] slots

-- a cell with one datum and no slots
abbrev pub single : ℕ → Datum → Symbol
single shape datum = Cell shape (datum ∷ []) []

-- the symbol that a sign stands for
abbrev pub sign_symbol : Sign → Symbol
sign_symbol NullSign = Null
sign_symbol UninitSign = Uninit
sign_symbol DanglingSign = Dangling
sign_symbol (RefSign r) = Ref r
sign_symbol ListCell = cell (Field 0 ∷ [])
sign_symbol Fork = cell (Field 0 ∷ Field 1 ∷ [])
sign_symbol (DatumSign shape datum) = single shape datum
sign_symbol (Slots first second) = cell (first ∷ second ∷ [])

-- the rule that a line stands for
abbrev pub line_rule : Line → Rule
line_rule l = record { state = l.0; symbol = sign_symbol l.1; children = l.2.now }

-- the automaton of a plan
abbrev pub planned : Plan → Automaton
planned p = automaton p.0 p.1.now (map line_rule p.2.now)
