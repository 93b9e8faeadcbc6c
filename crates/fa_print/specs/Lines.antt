-- How lines are printed. What they say is said by the words of the reader of files of boxes.
use Rattle.std.specs.Prelude.{ℕ, zero, suc, List, [], ◌∷◌, ◌++◌, map, flat_map, codes, decimal, cond, nat_eq}
use Rattle.std.specs.Prelude.{drop, slice_index_or}
use Rattle.std.specs.List.{concat}
use Rattle.fore_base.specs.declared.store.Datum.{Datum}
use Rattle.ta_core.specs.Auto.{Automaton}
use Rattle.ta_core.specs.declared.auto.Rule.{Rule as AutoRule}
use Rattle.ta_core.specs.declared.symbol.Slot.{Slot}
use Rattle.ta_core.specs.declared.symbol.Slot.TheVariants.{Field as FieldSlot, Link as LinkSlot, Hook as HookSlot}
use Rattle.ta_core.specs.declared.symbol.Symbol.{Symbol}
use Rattle.ta_core.specs.declared.symbol.Symbol.TheVariants.{Null as NullSymbol, Uninit as UninitSymbol}
use Rattle.ta_core.specs.declared.symbol.Symbol.TheVariants.{Dangling as DanglingSymbol, Ref as RefSymbol}
use Rattle.ta_core.specs.declared.symbol.Symbol.TheVariants.{Cell as CellSymbol}
use Rattle.fa_core.specs.Boxes.{Boxes}
use Rattle.fa_lines.specs.Spelling.{line_pieces, state_text, term_pieces}
use Rattle.fa_lines.specs.declared.line.DatumText.{DatumText}
use Rattle.fa_lines.specs.declared.line.SlotText.{SlotText}
use Rattle.fa_lines.specs.declared.line.SlotText.TheVariants.{Field, Link, Hook}
use Rattle.fa_lines.specs.declared.line.Term.{Term}
use Rattle.fa_lines.specs.declared.line.Term.TheVariants.{Null, Uninit, Dangling, Ref, Cell}
use Rattle.fa_lines.specs.declared.line.Line.{Line}
use Rattle.fa_lines.specs.declared.line.Line.TheVariants.{Skipped, Opens, Root, Rule, Ends}
use Rattle.fa_print.specs.Names.{Texts, name_at, struct_name, pointer_names, datum_names, box_name}

-- What is printed for what is said.

-- words with a space between two, and a newline
abbrev pub line : Texts → List ℕ
line [] = 10 ∷ []
line (w ∷ ws) = (w ++ flat_map (λ v. codes " " ++ v) ws) ++ 10 ∷ []

-- a cell has no spaces
abbrev pub term_text : Term → List ℕ
term_text Null = codes "null"
term_text Uninit = codes "uninit"
term_text Dangling = codes "dangling"
term_text (Ref r) = codes "ref " ++ decimal r
term_text (Cell shape ds slots) = concat (term_pieces (Cell shape ds slots))

abbrev pub line_text : Line → List ℕ
line_text Skipped = line []
line_text (Opens name input output) = line (line_pieces (Opens name input output))
line_text (Root r qs) = line (line_pieces (Root r qs))
line_text (Rule q term) = line (state_text q ∷ codes "=" ∷ term_text term ∷ [])
line_text Ends = line (line_pieces Ends)

abbrev pub lines_text : List Line → List ℕ
lines_text lines = flat_map line_text lines

-- What is said of a cell.

-- the data of a cell; those of the first field here have number n
abbrev pub named_data : Texts → ℕ → List Datum → List DatumText
named_data names n [] = []
named_data names n (d ∷ ds) = record { name = name_at names n; datum = d } ∷ named_data names (suc n) ds

-- the first of the states below the slots
abbrev pub first_state : List ℕ → ℕ
first_state qs = slice_index_or qs 0 0

-- a slot, with the first of the states below it and the slots behind it
abbrev pub named_slot : Boxes → Texts → Slot → List ℕ → SlotText
named_slot table pointers (FieldSlot f) qs = Field (name_at pointers f) (first_state qs)
named_slot table pointers (LinkSlot b) qs = Link (box_name table b) (first_state qs)
named_slot table pointers (HookSlot b) qs = Hook (box_name table b)

-- the states below the slots behind a slot
abbrev pub states_behind : Slot → List ℕ → List ℕ
states_behind (FieldSlot f) qs = drop 1 qs
states_behind (LinkSlot b) qs = drop 1 qs
states_behind (HookSlot b) qs = qs

-- slots, with the states below them
abbrev pub named_slots : Boxes → Texts → List Slot → List ℕ → List SlotText
named_slots table pointers [] qs = []
named_slots table pointers (s ∷ ss) qs =
    named_slot table pointers s qs ∷ named_slots table pointers ss (states_behind s qs)

-- a symbol, with the states below it; the data are those that it has: a cell that stands for a port has none
abbrev pub named_term : Boxes → Symbol → List ℕ → Term
named_term table NullSymbol qs = Null
named_term table UninitSymbol qs = Uninit
named_term table DanglingSymbol qs = Dangling
named_term table (RefSymbol r) qs = Ref r
named_term table (CellSymbol s ds slots) qs =
    Cell (struct_name table.face.shapes.structs s) (named_data (datum_names table.face.shapes.structs s) 0 ds)
    (named_slots table (pointer_names table.face.shapes.structs s) slots qs)

-- What is said of a component.

abbrev pub rule_line : Boxes → AutoRule → Line
rule_line table r = Rule r.state (named_term table r.symbol r.children)

-- the rules of a state, in the order kept
abbrev pub rules_of : List AutoRule → ℕ → List AutoRule
rules_of [] q = []
rules_of (r ∷ rs) q = cond (nat_eq r.state q) (r ∷ rules_of rs q) (rules_of rs q)

-- the rules of n states, state by state, the first of them q
abbrev pub by_state : List AutoRule → ℕ → ℕ → List AutoRule
by_state rules q zero = []
by_state rules q (suc n) = rules_of rules q ++ by_state rules (suc q) n

-- a component of this number: its root states, and then its rules in order of state
abbrev pub part_lines : Boxes → ℕ → Automaton → List Line
part_lines table k a = Root k a.roots ∷ map (rule_line table) (by_state a.rules 0 a.states)

-- components, the first of this number
abbrev pub parts_lines : Boxes → ℕ → List Automaton → List Line
parts_lines table k [] = []
parts_lines table k (a ∷ autos) = part_lines table k a ++ parts_lines table (suc k) autos
