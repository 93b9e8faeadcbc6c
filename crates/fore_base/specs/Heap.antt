-- What cells a store has, which of them can be reached, and when two stores are alike.
use Rattle.std.specs.Prelude.{◌≡◌, ◌<◌, ◌⊎◌, ℕ, zero, suc, List, [], ◌∷◌, ◌++◌, map, length, nat_eq, Bool, true, false}
use Rattle.std.specs.Prelude.{◌||◌, if◌then◌else◌}
use Rattle.std.specs.List.Sorted.{IsPermutation}
use Rattle.fore_base.specs.declared.store.Value.{Value}
use Rattle.fore_base.specs.declared.store.Value.TheVariants.{Cell}
use Rattle.fore_base.specs.declared.store.CellRec.{CellRec}
use Rattle.fore_base.specs.declared.store.Store.{Store}
use Rattle.fore_base.specs.Lists.{IsIn, Every}

-- some cell has this number
abbrev pub HasCell : List CellRec → ℕ → Type 0
HasCell [] n = ⊥
HasCell (c ∷ cs) n = (c.number ≡ n) ⊎ HasCell cs n

-- a value that names a cell names one of these
abbrev pub NamesCell : List CellRec → Value → Type 0
NamesCell cs (Cell n) = HasCell cs n
NamesCell cs v = Unit {0}

-- no two cells have one number
abbrev pub AllDiffer : List CellRec → Type 0
AllDiffer [] = Unit {0}
AllDiffer (c ∷ cs) = (HasCell cs c.number → ⊥) × AllDiffer cs

-- cell numbers differ and are below `next`, and every cell that is named is there
pub record IsProper (s : Store) : Type 0 where
  pub differ : AllDiffer s.cells
  pub below : Every (λ c. c.number < s.next) s.cells
  pub vars : Every (NamesCell s.cells) s.vars
  pub fields : Every (λ c. Every (NamesCell s.cells) c.fields) s.cells

-- the least set of numbers that has each that a variable names, and each that a field of a cell in the set names
pub data Reach (s : Store) : ℕ → Type 0 where
  by_var : {n : ℕ} → IsIn (Cell n) s.vars → Reach s n
  by_field : {n : ℕ} (c : CellRec) → IsIn c s.cells → Reach s c.number → IsIn (Cell n) c.fields → Reach s n

-- some cell cannot be reached
pub record Leaked (s : Store) : Type 0 where
  pub cell : CellRec
  pub is_there : IsIn cell s.cells
  pub unreached : Reach s cell.number → ⊥

-- The leak test as a computation: it is true exactly where the store has leaked.

-- whether one of the values names the cell n
abbrev pub is_named : ℕ → List Value → Bool
is_named n [] = false
is_named n (Cell m ∷ vs) = nat_eq m n || is_named n vs
is_named n (v ∷ vs) = is_named n vs

-- the fields of the cells that the values name
abbrev pub fields_named : List Value → List CellRec → List Value
fields_named vs [] = []
fields_named vs (c ∷ cs) = if is_named c.number vs then c.fields ++ fields_named vs cs else fields_named vs cs

-- the cells that the values do not name
abbrev pub cells_unnamed : List Value → List CellRec → List CellRec
cells_unnamed vs [] = []
cells_unnamed vs (c ∷ cs) = if is_named c.number vs then cells_unnamed vs cs else c ∷ cells_unnamed vs cs

-- the cells that are left when, n times, those that the values name are taken out and their fields become the values
abbrev pub left_after : ℕ → List Value → List CellRec → List CellRec
left_after zero vs cs = cs
left_after (suc n) vs cs = left_after n (fields_named vs cs) (cells_unnamed vs cs)

-- some cell is left
abbrev pub is_some_left : List CellRec → Bool
is_some_left [] = false
is_some_left cs = true

-- as many rounds as there are cells reach all that can be reached
unfoldable pub leaks : Store → Bool
leaks s = is_some_left (left_after (length s.cells) s.vars s.cells)

-- Stores that are alike. Which number an object has, and which comes first, is nothing that a program can see.

-- a value that names the cell with the new number
abbrev pub value_renamed : (ℕ → ℕ) → Value → Value
value_renamed to (Cell n) = Cell (to n)
value_renamed to v = v

-- a cell with the new numbers
abbrev pub cell_renamed : (ℕ → ℕ) → CellRec → CellRec
cell_renamed to c = record c { number = to c.number; fields = map (value_renamed to) c.fields }

-- the cells of t are those of s under other numbers, in any order; `next` is not compared
pub record IsAlike (s t : Store) : Type 0 where
  pub to : ℕ → ℕ
  pub one_to_one : (m n : ℕ) → HasCell s.cells m → HasCell s.cells n → to m ≡ to n → m ≡ n
  pub vars : t.vars ≡ map (value_renamed to) s.vars
  pub data_vars : t.data_vars ≡ s.data_vars
  pub cells : IsPermutation (map (cell_renamed to) s.cells) t.cells
