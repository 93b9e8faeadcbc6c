-- Reading and writing a store. What meets a fault gives it in place of a value.
use Rattle.std.specs.Prelude.{ℕ, ◌+◌, List, [], ◌∷◌, ◌++◌, map, nat_eq, if◌then◌else◌, Result, Ok, Err, slice_index_or}
use Rattle.std.specs.Prelude.{slice_set}
use Rattle.fore_base.specs.declared.fault.Fault.{Fault}
use Rattle.fore_base.specs.declared.fault.Fault.TheVariants.{NullDeref, UninitDeref, DanglingDeref, InvalidFree}
use Rattle.fore_base.specs.declared.fault.Fault.TheVariants.{DoubleFree}
use Rattle.fore_base.specs.declared.store.Value.{Value}
use Rattle.fore_base.specs.declared.store.Value.TheVariants.{Null, Uninit, Dangling, Cell}
use Rattle.fore_base.specs.declared.store.Datum.{Datum}
use Rattle.fore_base.specs.declared.store.Datum.TheVariants.{Undefined}
use Rattle.fore_base.specs.declared.store.CellRec.{CellRec}
use Rattle.fore_base.specs.declared.store.Store.{Store}

-- goes on with what was got; a fault ends it. So the order of evaluation is the order of the lines of a `do`.
infixl 10 ◌>>=◌
abbrev pub ◌>>=◌ : {A B : Type 0} → Result A Fault → (A → Result B Fault) → Result B Fault
Ok a >>= next = next a
Err fault >>= next = Err fault

-- the same as a word
abbrev pub onward : {A B : Type 0} → Result A Fault → (A → Result B Fault) → Result B Fault
onward got next = got >>= next

-- Variables. Each is numbered by its kind, pointers and data apart.

-- the pointer variable of this number; one past the end was never set (6.7.9)
abbrev pub var_of : Store → ℕ → Value
var_of s x = slice_index_or s.vars x Uninit

-- the same of a data variable
abbrev pub datum_of : Store → ℕ → Datum
datum_of s x = slice_index_or s.data_vars x Undefined

-- the store with another value in a pointer variable (6.5.16.1)
abbrev pub set_var : Store → ℕ → Value → Store
set_var s x v = record s { vars = slice_set s.vars x v }

-- the same of a data variable
abbrev pub set_datum : Store → ℕ → Datum → Store
set_datum s x d = record s { data_vars = slice_set s.data_vars x d }

-- a list with one value at each of these places
abbrev pub set_each : {A : Type 0} → List A → List ℕ → A → List A
set_each xs [] v = xs
set_each xs (n ∷ ns) v = set_each (slice_set xs n v) ns v

-- variables that die: a variable that is not alive holds nothing that can be used (6.2.4)
abbrev pub kill : List ℕ → List ℕ → Store → Store
kill ptrs datums s = record s { vars = set_each s.vars ptrs Uninit; data_vars = set_each s.data_vars datums Undefined }

-- Fields. A cell is found by its number, which no other cell has.

-- the value of a pointer field of the cell of this number
abbrev pub field_in : List CellRec → ℕ → ℕ → Value
field_in [] n f = Uninit
field_in (c ∷ cs) n f = if nat_eq c.number n then slice_index_or c.fields f Uninit else field_in cs n f

-- the same of a data field
abbrev pub datum_in : List CellRec → ℕ → ℕ → Datum
datum_in [] n f = Undefined
datum_in (c ∷ cs) n f = if nat_eq c.number n then slice_index_or c.datums f Undefined else datum_in cs n f

-- the cells with another value in a pointer field of the cell of this number
abbrev pub with_field : List CellRec → ℕ → ℕ → Value → List CellRec
with_field [] n f v = []
with_field (c ∷ cs) n f v = if nat_eq c.number n then record c { fields = slice_set c.fields f v } ∷ cs
    else c ∷ with_field cs n f v

-- the same of a data field
abbrev pub with_datum : List CellRec → ℕ → ℕ → Datum → List CellRec
with_datum [] n f d = []
with_datum (c ∷ cs) n f d = if nat_eq c.number n then record c { datums = slice_set c.datums f d } ∷ cs
    else c ∷ with_datum cs n f d

-- Arrows. Only a pointer to a live object may be followed (6.5.3.2).

-- the number of the cell to which a value points, or the fault of an arrow from it
abbrev pub followed : Value → Result ℕ Fault
followed Null = Err NullDeref
followed Uninit = Err UninitDeref
followed Dangling = Err DanglingDeref
followed (Cell n) = Ok n

-- reads a pointer field of the cell to which v points (6.5.2.3)
abbrev pub load : Store → Value → ℕ → Result Value Fault
load s v f = do
  n ← followed v
  Ok (field_in s.cells n f)

-- reads a data field of it
abbrev pub load_datum : Store → Value → ℕ → Result Datum Fault
load_datum s v f = do
  n ← followed v
  Ok (datum_in s.cells n f)

-- writes a pointer field of it (6.5.16.1)
abbrev pub store_at : Store → Value → ℕ → Value → Result Store Fault
store_at s v f w = do
  n ← followed v
  Ok (record s { cells = with_field s.cells n f w })

-- writes a data field of it
abbrev pub store_datum : Store → Value → ℕ → Datum → Result Store Fault
store_datum s v f d = do
  n ← followed v
  Ok (record s { cells = with_datum s.cells n f d })

-- the value at the end of some arrows, one arrow after the other
abbrev pub walk : Store → Value → List ℕ → Result Value Fault
walk s v [] = Ok v
walk s v (f ∷ fs) = do
  w ← load s v f
  walk s w fs

-- the arrows before the last, then the last arrow and the write; f is the first arrow, fs are the others
abbrev pub write_from : Store → Value → ℕ → List ℕ → Value → Result Store Fault
write_from s v f [] w = store_at s v f w
write_from s v f (g ∷ gs) w = do
  u ← load s v f
  write_from s u g gs w

-- Cells

-- a new cell: the next number, which no cell ever had (7.22.3.4; `malloc` always gives a cell)
abbrev pub grown : Store → CellRec → Store
grown s c = record s { cells = s.cells ++ c ∷ []; next = s.next + 1 }

-- when an object's lifetime ends, pointers to it become indeterminate (6.2.4)
abbrev pub dangle : ℕ → Value → Value
dangle n (Cell m) = if nat_eq m n then Dangling else Cell m
dangle n v = v

-- the same in each pointer field of a cell
abbrev pub dangle_in : ℕ → CellRec → CellRec
dangle_in n c = record c { fields = map (dangle n) c.fields }

-- the cells but for the one of this number, to which no field points any more
abbrev pub without : ℕ → List CellRec → List CellRec
without n [] = []
without n (c ∷ cs) = if nat_eq c.number n then without n cs else dangle_in n c ∷ without n cs

-- `free`: of a null pointer nothing, of a live cell its end, of anything else a fault (7.22.3.3)
abbrev pub freed : Store → Value → Result Store Fault
freed s Null = Ok s
freed s Uninit = Err InvalidFree
freed s Dangling = Err DoubleFree
freed s (Cell n) = Ok (record s { vars = map (dangle n) s.vars; cells = without n s.cells })
