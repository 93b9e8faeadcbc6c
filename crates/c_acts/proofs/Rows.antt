-- Worked values of what acts do to a store, and of the choices of steps, by hand from their meaning in C.
use Rattle.std.proofs.Common.{◌≡◌, ℕ, true, false, Some, None, Ok, Err, [], ◌∷◌, refl}
use Rattle.fore_base.specs.declared.fault.Fault.TheVariants.{NullDeref, UninitDeref, InvalidFree}
use Rattle.fore_base.specs.declared.store.Value.{Value}
use Rattle.fore_base.specs.declared.store.Value.TheVariants.{Null, Uninit, Dangling, Cell}
use Rattle.fore_base.specs.declared.store.Datum.{Datum}
use Rattle.fore_base.specs.declared.store.Datum.TheVariants.{Undefined, Known}
use Rattle.fore_base.specs.declared.store.Store.{Store}
use Rattle.c_types.specs.declared.program.Path.{Path}
use Rattle.c_types.specs.declared.program.DataPath.TheVariants.{Var as DataVar, Field as DataField}
use Rattle.c_types.specs.declared.program.PtrRhs.TheVariants.{Path as RhsPath, Null as RhsNull, New as RhsNew}
use Rattle.c_types.specs.declared.program.DataRhs.TheVariants.{Path as DataRhsPath, Choice as DataRhsChoice}
use Rattle.c_acts.specs.Assigning.{copied, copied_data, freed_at, done_to}
use Rattle.c_acts.specs.Choices.{chosen, or_none}
use Rattle.c_acts.specs.Making.{made_from}

abbrev var : ℕ → Path
var x = record { var = x; fields = [] }

abbrev arrow : ℕ → ℕ → Path
arrow x f = record { var = x; fields = f ∷ [] }

-- x, y and z, the data d and e, and the cell 1 of the struct 0, with one pointer field and no datum
abbrev with_cell : Value → Value → Value → Datum → Datum → Value → Store
with_cell x y z d e f = record {
  vars = x ∷ y ∷ z ∷ [];
  data_vars = d ∷ e ∷ [];
  cells = record { number = 1; shape = 0; datums = []; fields = f ∷ [] } ∷ [];
  next = 2;
}

-- x is the null pointer, y the cell, z was not set; d is 5, e was not set; the cell's field is the null pointer
abbrev store : Store
store = with_cell Null (Cell 1) Uninit (Known 5) Undefined Null

-- Copies of pointers

-- x = y;
copies : copied store (var 0) (var 1) ≡ Ok (with_cell (Cell 1) (Cell 1) Uninit (Known 5) Undefined Null)
copies = refl

-- y->0 = y;
stores : copied store (arrow 1 0) (var 1) ≡ Ok (with_cell Null (Cell 1) Uninit (Known 5) Undefined (Cell 1))
stores = refl

-- x->0 = y;
stores_nowhere : copied store (arrow 0 0) (var 1) ≡ Err NullDeref
stores_nowhere = refl

-- x->0 = z->0;  (the right side is read before the left path is followed)
right_side_first : copied store (arrow 0 0) (arrow 2 0) ≡ Err UninitDeref
right_side_first = refl

-- Copies of data

-- e = d;
copies_datum : copied_data store (DataVar 1) (DataRhsPath (DataVar 0)) 1
    ≡ Ok (with_cell Null (Cell 1) Uninit (Known 5) (Known 5) Null)
copies_datum = refl

-- e = nondet();  on the choice 1
chooses : copied_data store (DataVar 1) DataRhsChoice 1 ≡ Ok (with_cell Null (Cell 1) Uninit (Known 5) (Known 1) Null)
chooses = refl

-- x->0 = z->0;  for data
right_datum_first : copied_data store (DataField (var 0) 0) (DataRhsPath (DataField (var 2) 0)) 0 ≡ Err UninitDeref
right_datum_first = refl

-- free

-- free(y);  its cell is gone, and y dangles
frees : freed_at store (var 1)
    ≡ Ok (record { vars = Null ∷ Dangling ∷ Uninit ∷ []; data_vars = Known 5 ∷ Undefined ∷ []; cells = []; next = 2 })
frees = refl

-- free(y->0);  of the null pointer
frees_nothing : freed_at store (arrow 1 0) ≡ Ok store
frees_nothing = refl

-- free(z);
frees_what_was_not_set : freed_at store (var 2) ≡ Err InvalidFree
frees_what_was_not_set = refl

-- free(x->0);  the path is followed first
frees_nowhere : freed_at store (arrow 0 0) ≡ Err NullDeref
frees_nowhere = refl

-- What was done, or the fault that was met

done : done_to (Ok tt) store ≡ Ok store
done = refl

met : done_to (Err NullDeref) store ≡ Err NullDeref
met = refl

-- Cells that are made

of_its_struct : made_from (RhsNew 4) ≡ Some 4
of_its_struct = refl

none_by_a_copy : made_from (RhsPath (var 1)) ≡ None
none_by_a_copy = refl

none_by_null : made_from RhsNull ≡ None
none_by_null = refl

-- The choice on which a step is taken

none_is_needed : chosen false None ≡ Some 0
none_is_needed = refl

one_is_ignored : chosen false (Some 1) ≡ Some 0
one_is_ignored = refl

one_is_taken : chosen true (Some 1) ≡ Some 1
one_is_taken = refl

zero_is_taken : chosen true (Some 0) ≡ Some 0
zero_is_taken = refl

one_is_missed : chosen true None ≡ None
one_is_missed = refl

-- As a number

zero_for_none : or_none None ≡ 0
zero_for_none = refl

the_choice_itself : or_none (Some 1) ≡ 1
the_choice_itself = refl
