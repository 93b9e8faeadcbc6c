-- Cells as a walk writes them, fact by fact. The number of a cell is one more than its place.
use Rattle.std.specs.Prelude.{ℕ, zero, suc, nat_le, if◌then◌else◌, List, [], ◌∷◌, ◌++◌, map}
use Rattle.fore_base.specs.declared.store.CellRec.{CellRec}
use Rattle.fore_base.specs.declared.store.Datum.{Datum}
use Rattle.fa_core.specs.Dressed.{Fact, Head, Points}
use Rattle.fa_sample.specs.declared.drafts.Draft.{Draft}
use Rattle.fa_sample.specs.declared.drafts.FieldValue.{FieldValue}

-- the field before the first whose number is not less
abbrev pub put_in : FieldValue → List FieldValue → List FieldValue
put_in x [] = x ∷ []
put_in x (y ∷ ys) = if nat_le x.field y.field then x ∷ (y ∷ ys) else y ∷ put_in x ys

-- the cell at this place with one field more
abbrev pub put_at : ℕ → FieldValue → List Draft → List Draft
put_at at x [] = []
put_at zero x (c ∷ cs) = record c { fields = put_in x c.fields } ∷ cs
put_at (suc at) x (c ∷ cs) = c ∷ put_at at x cs

-- the cell of this number with one field more
abbrev pub put_field : ℕ → FieldValue → List Draft → List Draft
put_field zero x cs = cs
put_field (suc at) x cs = put_at at x cs

-- a cell that has no pointer fields yet
abbrev pub new_draft : ℕ → List Datum → Draft
new_draft s ds = record { shape = s; datums = ds; fields = [] }

-- the cells when the facts are written
abbrev pub written : List Fact → List Draft → List Draft
written [] cs = cs
written (Head c s ds ∷ fs) cs = written fs (cs ++ new_draft s ds ∷ [])
written (Points c f v ∷ fs) cs = written fs (put_field c (record { field = f; value = v }) cs)

-- the cell of number k with the values of its fields
abbrev pub cell_done : ℕ → Draft → CellRec
cell_done k c = record { number = k; shape = c.shape; datums = c.datums; fields = map (λ x. x.value) c.fields }

-- the cells from number k on
abbrev pub cells_done : ℕ → List Draft → List CellRec
cells_done k [] = []
cells_done k (c ∷ cs) = cell_done k c ∷ cells_done (suc k) cs
