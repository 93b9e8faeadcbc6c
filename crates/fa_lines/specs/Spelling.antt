-- How a line is written: its pieces in order.
use Rattle.std.specs.Prelude.{
  ◌≡◌,
  ◌≢◌,
  ◌≤◌,
  ◌<◌,
  ◌^◌,
  ℕ,
  true,
  List,
  [],
  ◌∷◌,
  ◌++◌,
  map,
  codes,
  decimal,
  Option,
  Some,
  None,
}
use Rattle.fore_base.specs.Lists.{Every}
use Rattle.fore_base.specs.declared.store.Datum.{Datum}
use Rattle.fore_base.specs.declared.store.Datum.TheVariants.{Undefined, Known}
use Rattle.fa_lines.specs.Pieces.{is_word}
use Rattle.fa_lines.specs.declared.line.DatumText.{DatumText}
use Rattle.fa_lines.specs.declared.line.SlotText.{SlotText}
use Rattle.fa_lines.specs.declared.line.SlotText.TheVariants.{Field, Link, Hook}
use Rattle.fa_lines.specs.declared.line.Term.{Term}
use Rattle.fa_lines.specs.declared.line.Term.TheVariants.{Null, Uninit, Dangling, Ref, Cell}
use Rattle.fa_lines.specs.declared.line.Line.{Line}
use Rattle.fa_lines.specs.declared.line.Line.TheVariants.{Skipped, Opens, Root, Rule, Ends}

abbrev pub Texts : Type 0
Texts = List (List ℕ)

-- a state: s and its number
abbrev pub state_text : ℕ → List ℕ
state_text q = codes "s" ++ decimal q

-- texts with a comma between two
abbrev pub series : List Texts → Texts
series [] = []
series (x ∷ []) = x
series (x ∷ y ∷ ys) = x ++ codes "," ∷ series (y ∷ ys)

abbrev pub datum_text : Datum → List ℕ
datum_text Undefined = codes "undef"
datum_text (Known d) = decimal d

-- name=D
abbrev pub datum_pieces : DatumText → Texts
datum_pieces d = d.name ∷ codes "=" ∷ datum_text d.datum ∷ []

-- field=sN, @box=sN, or @box
abbrev pub slot_pieces : SlotText → Texts
slot_pieces (Field name q) = name ∷ codes "=" ∷ state_text q ∷ []
slot_pieces (Link name q) = codes "@" ∷ name ∷ codes "=" ∷ state_text q ∷ []
slot_pieces (Hook name) = codes "@" ∷ name ∷ []

-- the data in brackets, which are left out where there are none
abbrev pub data_pieces : List DatumText → Texts
data_pieces [] = []
data_pieces (d ∷ ds) = codes "[" ∷ series (map datum_pieces (d ∷ ds)) ++ codes "]" ∷ []

abbrev pub term_pieces : Term → Texts
term_pieces Null = codes "null" ∷ []
term_pieces Uninit = codes "uninit" ∷ []
term_pieces Dangling = codes "dangling" ∷ []
term_pieces (Ref r) = codes "ref" ∷ decimal r ∷ []
term_pieces (Cell shape ds slots) =
    shape ∷ (data_pieces ds ++ (codes "(" ∷ (series (map slot_pieces slots) ++ codes ")" ∷ [])))

abbrev pub output_pieces : Option (List ℕ) → Texts
output_pieces None = []
output_pieces (Some name) = codes "out" ∷ name ∷ []

abbrev pub line_pieces : Line → Texts
line_pieces Skipped = []
line_pieces (Opens name input output) = codes "box" ∷ name ∷ codes "in" ∷ input ∷ output_pieces output
line_pieces (Root r qs) = codes "root" ∷ decimal r ∷ map state_text qs
line_pieces (Rule q term) = state_text q ∷ codes "=" ∷ term_pieces term
line_pieces Ends = codes "end" ∷ []

-- What may be written.

-- states are the numbers up to 255
abbrev pub IsState : ℕ → Type 0
IsState q = q ≤ 255

abbrev pub IsName : List ℕ → Type 0
IsName text = is_word text ≡ true

-- data are undefined, or the numbers up to 15
abbrev pub IsValue : Datum → Type 0
IsValue Undefined = Unit {0}
IsValue (Known n) = n ≤ 15

abbrev pub IsDatum : DatumText → Type 0
IsDatum d = IsName d.name × IsValue d.datum

abbrev pub IsSlot : SlotText → Type 0
IsSlot (Field name q) = IsName name × IsState q
IsSlot (Link name q) = IsName name × IsState q
IsSlot (Hook name) = IsName name

abbrev pub IsTerm : Term → Type 0
IsTerm Null = Unit {0}
IsTerm Uninit = Unit {0}
IsTerm Dangling = Unit {0}
IsTerm (Ref r) = r < 2 ^ 32
IsTerm (Cell shape ds slots) = IsName shape × Every IsDatum ds × Every IsSlot slots

abbrev pub IsOutput : Option (List ℕ) → Type 0
IsOutput None = Unit {0}
IsOutput (Some name) = IsName name

-- names are words, numbers are in range, and a component has a root state
abbrev pub IsLine : Line → Type 0
IsLine Skipped = Unit {0}
IsLine (Opens name input output) = IsName name × IsName input × IsOutput output
IsLine (Root r qs) = (r < 2 ^ 32) × (qs ≢ []) × Every IsState qs
IsLine (Rule q term) = IsState q × IsTerm term
IsLine Ends = Unit {0}
