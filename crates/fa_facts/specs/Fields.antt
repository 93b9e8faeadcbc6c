-- The pointer fields that facts give to a cell, those that its heads ask for, and the cells that facts name.
use Rattle.std.specs.Prelude.{ℕ, nat_eq, if◌then◌else◌, List, [], ◌∷◌, ◌++◌}
use Rattle.fore_base.specs.Lists.{IsIn}
use Rattle.fore_base.specs.declared.shape.Shape.{Shape}
use Rattle.fore_base.specs.declared.store.Value.{Value}
use Rattle.fore_base.specs.declared.store.Value.TheVariants.{Null as NullValue, Uninit as UninitValue}
use Rattle.fore_base.specs.declared.store.Value.TheVariants.{Dangling as DanglingValue, Cell}
use Rattle.fa_core.specs.Dressed.{Fact, Head, Points}
use Rattle.fa_core.specs.Filled.{fields_of}

-- the fields of cell c that have a value, in the order of the facts
abbrev pub fields_at : ℕ → List Fact → List ℕ
fields_at c [] = []
fields_at c (Head m s ds ∷ fs) = fields_at c fs
fields_at c (Points m f v ∷ fs) = if nat_eq c m then f ∷ fields_at c fs else fields_at c fs

-- the fields of the structs of cell c, one struct for each head of that number
abbrev pub fields_owed : List Shape → ℕ → List Fact → List ℕ
fields_owed hs c [] = []
fields_owed hs c (Head m s ds ∷ fs) = if nat_eq c m then fields_of hs s ++ fields_owed hs c fs else fields_owed hs c fs
fields_owed hs c (Points m f v ∷ fs) = fields_owed hs c fs

-- a value that names a cell names one of these
abbrev pub IsNamed : List ℕ → Value → Type 0
IsNamed hs NullValue = Unit {0}
IsNamed hs UninitValue = Unit {0}
IsNamed hs DanglingValue = Unit {0}
IsNamed hs (Cell n) = IsIn n hs

-- so does the value of a field
abbrev pub FactNamed : List ℕ → Fact → Type 0
FactNamed hs (Head c s ds) = Unit {0}
FactNamed hs (Points c f v) = IsNamed hs v
