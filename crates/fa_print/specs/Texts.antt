-- The texts of forests, boxes and stores.
use Rattle.std.specs.Prelude.{ℕ, suc, List, [], ◌∷◌, ◌++◌, flat_map, codes, decimal, Option, Some, None}
use Rattle.std.specs.List.{concat}
use Rattle.fore_base.specs.declared.shape.Shape.{Shape}
use Rattle.fore_base.specs.declared.store.CellRec.{CellRec}
use Rattle.fore_base.specs.declared.store.Datum.{Datum}
use Rattle.fore_base.specs.declared.store.Datum.TheVariants.{Undefined, Known}
use Rattle.fore_base.specs.declared.store.Store.{Store}
use Rattle.fore_base.specs.declared.store.Value.{Value}
use Rattle.fore_base.specs.declared.store.Value.TheVariants.{Null, Uninit, Dangling, Cell}
use Rattle.c_types.specs.Program.{Program}
use Rattle.fa_core.specs.Boxes.{Boxes}
use Rattle.fa_core.specs.declared.boxes.BoxDef.{BoxDef}
use Rattle.fa_core.specs.declared.forest.Forest.{Forest}
use Rattle.fa_core.specs.declared.forest.Target.{Target}
use Rattle.fa_core.specs.declared.forest.Target.TheVariants.{At, Null as NullTarget, Uninit as UninitTarget}
use Rattle.fa_core.specs.declared.forest.Target.TheVariants.{Dangling as DanglingTarget}
use Rattle.fa_lines.specs.Spelling.{series, data_pieces}
use Rattle.fa_lines.specs.declared.line.Line.{Line}
use Rattle.fa_lines.specs.declared.line.Line.TheVariants.{Opens, Ends}
use Rattle.fa_print.specs.Lines.{line, line_text, lines_text, parts_lines, named_data}
use Rattle.fa_print.specs.Names.{Texts, name_at, struct_name, pointer_names, datum_names, variable_name}
use Rattle.fa_print.specs.Names.{pointer_variables}

-- Variables. Each line has the number and the name.

-- the line of a variable, of which these words say the value; none where no word does
abbrev pub variable_line : List ℕ → Texts → ℕ → Texts → List ℕ
variable_line kind names n [] = []
variable_line kind names n (w ∷ ws) = line (kind ∷ decimal n ∷ variable_name names n ∷ w ∷ ws)

-- the words for what a pointer variable of a forest is
abbrev pub target_words : Target → Texts
target_words UninitTarget = []
target_words NullTarget = codes "null" ∷ []
target_words DanglingTarget = codes "dangling" ∷ []
target_words (At r) = codes "ref" ∷ decimal r ∷ []

-- the words for the value of a data variable
abbrev pub datum_words : Datum → Texts
datum_words Undefined = []
datum_words (Known d) = decimal d ∷ []

-- the words for the value of a pointer variable of a store
abbrev pub value_words : Value → Texts
value_words Uninit = []
value_words Null = codes "null" ∷ []
value_words Dangling = codes "dangling" ∷ []
value_words (Cell n) = codes "cell" ∷ decimal n ∷ []

-- the lines of the pointer variables of a forest, the first of number n
abbrev pub target_lines : Texts → ℕ → List Target → List ℕ
target_lines names n [] = []
target_lines names n (t ∷ ts) = variable_line (codes "var") names n (target_words t) ++ target_lines names (suc n) ts

-- the lines of data variables, the first of number n
abbrev pub datum_lines : Texts → ℕ → List Datum → List ℕ
datum_lines names n [] = []
datum_lines names n (d ∷ ds) = variable_line (codes "data") names n (datum_words d) ++ datum_lines names (suc n) ds

-- the lines of the pointer variables of a store, the first of number n
abbrev pub value_lines : Texts → ℕ → List Value → List ℕ
value_lines names n [] = []
value_lines names n (v ∷ vs) = variable_line (codes "var") names n (value_words v) ++ value_lines names (suc n) vs

-- Forests, with the names of the boxes of a table and of the variables of a program.

abbrev pub forest_text : Boxes → Program → Forest → List ℕ
forest_text table p F =
    line (codes "forest" ∷ [])
    ++ (target_lines (pointer_variables p) 0 F.vars
    ++ (datum_lines p.data_vars 0 F.data_vars
    ++ lines_text (parts_lines table 0 F.autos ++ Ends ∷ [])))

-- Boxes.

abbrev pub output_name : List Shape → Option ℕ → Option (List ℕ)
output_name structs None = None
output_name structs (Some s) = Some (struct_name structs s)

-- its name and the structs of its ports, and then the components of its inside
abbrev pub box_lines : Boxes → BoxDef → List Line
box_lines table b =
    Opens b.name (struct_name table.face.shapes.structs b.face.input)
    (output_name table.face.shapes.structs b.face.output)
    ∷ (parts_lines table 0 b.inside.autos ++ Ends ∷ [])

abbrev pub box_text : Boxes → BoxDef → List ℕ
box_text table b = lines_text (box_lines table b)

-- Stores.

-- the value of a field
abbrev pub value_text : Value → List ℕ
value_text Null = codes "null"
value_text Uninit = codes "uninit"
value_text Dangling = codes "dangling"
value_text (Cell n) = codes "cell " ++ decimal n

-- field=V for each pointer field, the first of number n
abbrev pub field_pieces : Texts → ℕ → List Value → List Texts
field_pieces names n [] = []
field_pieces names n (v ∷ vs) = (name_at names n ∷ codes "=" ∷ value_text v ∷ []) ∷ field_pieces names (suc n) vs

-- STRUCT[DATA](FIELDS), without the brackets of the data where there are none
abbrev pub record_text : List Shape → CellRec → List ℕ
record_text structs c =
    concat (struct_name structs c.shape
    ∷ (data_pieces (named_data (datum_names structs c.shape) 0 c.datums)
    ++ (codes "(" ∷ (series (field_pieces (pointer_names structs c.shape) 0 c.fields) ++ codes ")" ∷ []))))

abbrev pub cell_line : List Shape → CellRec → List ℕ
cell_line structs c = line (codes "cell" ∷ decimal c.number ∷ record_text structs c ∷ [])

abbrev pub store_text : Program → Store → List ℕ
store_text p s =
    line (codes "store" ∷ [])
    ++ (value_lines (pointer_variables p) 0 s.vars
    ++ (datum_lines p.data_vars 0 s.data_vars
    ++ (flat_map (cell_line p.shapes.structs) s.cells
    ++ line_text Ends)))
