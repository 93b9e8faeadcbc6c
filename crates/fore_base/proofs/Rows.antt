-- Worked values of stores, faults and structs, each worked out by hand from what the words mean.
use Rattle.std.proofs.Common.{◌≡◌, inl, inr, ◌+◌, ℕ, true, false, List, [], ◌∷◌, refl, sym, ◌∙◌, arith}
use Rattle.std.specs.Prelude.{Ok, Err}
use Rattle.fore_base.specs.declared.fault.Fault.TheVariants.{NullDeref, UninitDeref, DanglingDeref, InvalidFree}
use Rattle.fore_base.specs.declared.fault.Fault.TheVariants.{DoubleFree, Leak, Assertion, IndetTest}
use Rattle.fore_base.specs.declared.store.Value.{Value}
use Rattle.fore_base.specs.declared.store.Value.TheVariants.{Null, Uninit, Dangling, Cell}
use Rattle.fore_base.specs.declared.store.Datum.{Datum}
use Rattle.fore_base.specs.declared.store.Datum.TheVariants.{Undefined, Known}
use Rattle.fore_base.specs.declared.store.CellRec.{CellRec}
use Rattle.fore_base.specs.declared.store.Store.{Store}
use Rattle.fore_base.specs.declared.shape.FieldKind.{FieldKind}
use Rattle.fore_base.specs.declared.shape.FieldKind.TheVariants.{Pointer, Datum as DatumField}
use Rattle.fore_base.specs.declared.shape.FieldDef.{FieldDef}
use Rattle.fore_base.specs.declared.shape.Shape.{Shape}
use Rattle.fore_base.specs.Faults.{number_of}
use Rattle.fore_base.specs.Heap.{IsProper, Reach, by_var, by_field, Leaked, leaks, IsAlike}
use Rattle.fore_base.specs.Shapes.{fields_at, targets_of, datums_of}
use Rattle.fore_base.specs.Stores.{var_of, datum_of, set_var, set_datum, set_each, kill, field_in, datum_in, with_field}
use Rattle.fore_base.specs.Stores.{with_datum, followed, load, load_datum, store_at, store_datum, walk, write_from}
use Rattle.fore_base.specs.Stores.{grown, dangle, freed}

-- The numbers that reports print

first : number_of NullDeref ≡ 1
first = refl

second : number_of UninitDeref ≡ 2
second = refl

third : number_of DanglingDeref ≡ 3
third = refl

fourth : number_of InvalidFree ≡ 4
fourth = refl

fifth : number_of DoubleFree ≡ 5
fifth = refl

sixth : number_of Leak ≡ 6
sixth = refl

seventh : number_of Assertion ≡ 7
seventh = refl

eighth : number_of IndetTest ≡ 8
eighth = refl

-- A store: the variables point to cell 4, to nothing, to an object that has ended, and nowhere yet. Cell 4 leads to
-- cell 2 and to nothing; cell 2
-- leads back to cell 4 and to an object that has ended. Cell 4 has the data 7 and nothing yet, cell 2 the datum 1.

abbrev cell : ℕ → List Datum → List Value → CellRec
cell n ds vs = record { number = n; shape = 0; datums = ds; fields = vs }

abbrev store : List Value → List CellRec → Store
store vs cs = record { vars = vs; data_vars = Known 3 ∷ Undefined ∷ []; cells = cs; next = 8 }

abbrev four : CellRec
four = cell 4 (Known 7 ∷ Undefined ∷ []) (Cell 2 ∷ Null ∷ [])

abbrev two : CellRec
two = cell 2 (Known 1 ∷ []) (Cell 4 ∷ Dangling ∷ [])

abbrev vars : List Value
vars = Cell 4 ∷ Null ∷ Dangling ∷ Uninit ∷ []

abbrev s : Store
s = store vars (four ∷ two ∷ [])

-- Variables

a_variable : var_of s 0 ≡ Cell 4
a_variable = refl

no_variable : var_of s 4 ≡ Uninit
no_variable = refl

a_data_variable : datum_of s 0 ≡ Known 3
a_data_variable = refl

no_data_variable : datum_of s 2 ≡ Undefined
no_data_variable = refl

a_variable_is_set : set_var s 1 (Cell 2) ≡ store (Cell 4 ∷ Cell 2 ∷ Dangling ∷ Uninit ∷ []) (four ∷ two ∷ [])
a_variable_is_set = refl

a_data_variable_is_set : set_datum s 1 (Known 0) ≡ record s { data_vars = Known 3 ∷ Known 0 ∷ [] }
a_data_variable_is_set = refl

some_places_are_set : set_each {A = ℕ} (6 ∷ 7 ∷ 8 ∷ []) (0 ∷ 2 ∷ []) 9 ≡ 9 ∷ 7 ∷ 9 ∷ []
some_places_are_set = refl

-- the pointers 0 and 2 and the datum 0 die
variables_die : kill (0 ∷ 2 ∷ []) (0 ∷ []) s
    ≡ record s { vars = Uninit ∷ Null ∷ Uninit ∷ Uninit ∷ []; data_vars = Undefined ∷ Undefined ∷ [] }
variables_die = refl

-- Fields

a_field : field_in s.cells 2 0 ≡ Cell 4
a_field = refl

another_field : field_in s.cells 4 1 ≡ Null
another_field = refl

no_such_field : field_in s.cells 4 2 ≡ Uninit
no_such_field = refl

no_such_cell : field_in s.cells 3 0 ≡ Uninit
no_such_cell = refl

a_data_field : datum_in s.cells 2 0 ≡ Known 1
a_data_field = refl

another_data_field : datum_in s.cells 4 0 ≡ Known 7
another_data_field = refl

no_such_data_field : datum_in s.cells 2 1 ≡ Undefined
no_such_data_field = refl

no_such_cell_with_data : datum_in s.cells 0 0 ≡ Undefined
no_such_cell_with_data = refl

-- one field of one cell is written, and all else stays
a_field_is_written : with_field s.cells 2 1 Null ≡ four ∷ cell 2 (Known 1 ∷ []) (Cell 4 ∷ Null ∷ []) ∷ []
a_field_is_written = refl

nothing_is_written : with_field s.cells 5 0 Null ≡ four ∷ two ∷ []
nothing_is_written = refl

a_data_field_is_written : with_datum s.cells 4 1 (Known 15) ≡ cell 4 (Known 7 ∷ Known 15 ∷ []) (Cell 2 ∷ Null ∷ [])
    ∷ two ∷ []
a_data_field_is_written = refl

no_datum_is_written : with_datum s.cells 5 0 Undefined ≡ four ∷ two ∷ []
no_datum_is_written = refl

-- Arrows

from_null : followed Null ≡ Err NullDeref
from_null = refl

from_unset : followed Uninit ≡ Err UninitDeref
from_unset = refl

from_ended : followed Dangling ≡ Err DanglingDeref
from_ended = refl

from_a_cell : followed (Cell 2) ≡ Ok 2
from_a_cell = refl

a_load : load s (Cell 4) 0 ≡ Ok (Cell 2)
a_load = refl

a_load_from_null : load s Null 0 ≡ Err NullDeref
a_load_from_null = refl

a_load_of_a_datum : load_datum s (Cell 2) 0 ≡ Ok (Known 1)
a_load_of_a_datum = refl

a_load_of_a_datum_from_ended : load_datum s Dangling 0 ≡ Err DanglingDeref
a_load_of_a_datum_from_ended = refl

a_write : store_at s (Cell 4) 1 (Cell 4)
    ≡ Ok (store vars (cell 4 (Known 7 ∷ Undefined ∷ []) (Cell 2 ∷ Cell 4 ∷ []) ∷ two ∷ []))
a_write = refl

a_write_through_unset : store_at s Uninit 0 Null ≡ Err UninitDeref
a_write_through_unset = refl

a_write_of_a_datum : store_datum s (Cell 2) 0 (Known 9)
    ≡ Ok (store vars (four ∷ cell 2 (Known 9 ∷ []) (Cell 4 ∷ Dangling ∷ []) ∷ []))
a_write_of_a_datum = refl

a_write_of_a_datum_through_null : store_datum s Null 0 (Known 9) ≡ Err NullDeref
a_write_of_a_datum_through_null = refl

-- x, x->0->1, and x->1->0, whose first arrow gives null
no_arrow : walk s (Cell 4) [] ≡ Ok (Cell 4)
no_arrow = refl

two_arrows : walk s (Cell 4) (0 ∷ 1 ∷ []) ≡ Ok Dangling
two_arrows = refl

an_arrow_too_many : walk s (Cell 4) (1 ∷ 0 ∷ []) ≡ Err NullDeref
an_arrow_too_many = refl

-- x->0->1 = null, and x->1->0 = null
a_write_behind_an_arrow : write_from s (Cell 4) 0 (1 ∷ []) Null
    ≡ Ok (store vars (four ∷ cell 2 (Known 1 ∷ []) (Cell 4 ∷ Null ∷ []) ∷ []))
a_write_behind_an_arrow = refl

a_write_behind_null : write_from s (Cell 4) 1 (0 ∷ []) Null ≡ Err NullDeref
a_write_behind_null = refl

-- Cells that begin and end

-- the new cell is the last, and the next number goes up
a_new_cell : grown s (cell 8 [] []) ≡ record s { cells = four ∷ two ∷ cell 8 [] [] ∷ []; next = 9 }
a_new_cell = refl

-- where object 2 ends
it_dangles : dangle 2 (Cell 2) ≡ Dangling
it_dangles = refl

another_does_not : dangle 2 (Cell 4) ≡ Cell 4
another_does_not = refl

null_stays : dangle 2 Null ≡ Null
null_stays = refl

unset_stays : dangle 2 Uninit ≡ Uninit
unset_stays = refl

ended_stays : dangle 2 Dangling ≡ Dangling
ended_stays = refl

free_of_null : freed s Null ≡ Ok s
free_of_null = refl

free_of_unset : freed s Uninit ≡ Err InvalidFree
free_of_unset = refl

free_of_ended : freed s Dangling ≡ Err DoubleFree
free_of_ended = refl

-- the cell goes; the field of cell 2 that led to it dangles, and so does the variable
free_of_a_cell : freed s (Cell 4)
    ≡ Ok (store (Dangling ∷ Null ∷ Dangling ∷ Uninit ∷ []) (cell 2 (Known 1 ∷ []) (Dangling ∷ Dangling ∷ []) ∷ []))
free_of_a_cell = refl

free_of_the_second_cell : freed s (Cell 2)
    ≡ Ok (store vars (cell 4 (Known 7 ∷ Undefined ∷ []) (Dangling ∷ Null ∷ []) ∷ []))
free_of_the_second_cell = refl

-- Reaching and leaks

-- cell 4 by the variable, cell 2 by the field of cell 4
reaches_four : Reach s 4
reaches_four = by_var (inl refl)

reaches_two : Reach s 2
reaches_two = by_field four (inl refl) reaches_four (inl refl)

-- without a variable that leads to a cell, the two cells lead to each other and are lost all the same
abbrev lost : Store
lost = store (Null ∷ Dangling ∷ []) (four ∷ two ∷ [])

nothing_is_reached : (n : ℕ) → Reach lost n → ⊥
nothing_is_reached n (by_var (inl e)) = cc
nothing_is_reached n (by_var (inr (inl e))) = cc
nothing_is_reached n (by_var (inr (inr h))) = h
nothing_is_reached n (by_field c there reach field) = nothing_is_reached c.number reach

it_has_leaked : Leaked lost
it_has_leaked = record { cell = two; is_there = inr (inl refl); unreached = nothing_is_reached 2 }

no_leak : leaks s ≡ false
unfolding leaks
no_leak = refl

a_leak : leaks lost ≡ true
unfolding leaks
a_leak = refl

-- one of two cells is lost
half_a_leak : leaks (store (Null ∷ Cell 2 ∷ []) (cell 4 [] (Cell 2 ∷ []) ∷ cell 2 [] (Null ∷ []) ∷ [])) ≡ true
unfolding leaks
half_a_leak = refl

-- a chain of three, whose last cell is found in the third round
no_leak_in_a_chain : leaks
    (store (Cell 0 ∷ []) (cell 2 [] (Null ∷ []) ∷ cell 1 [] (Cell 2 ∷ []) ∷ cell 0 [] (Cell 1 ∷ []) ∷ [])) ≡ false
unfolding leaks
no_leak_in_a_chain = refl

no_cell_no_leak : leaks (store (Dangling ∷ Uninit ∷ []) []) ≡ false
unfolding leaks
no_cell_no_leak = refl

-- Proper stores

s_is_proper : IsProper s
s_is_proper = record {
  differ = (λ h. elim h [ inl e ↦ absurd (omega (arith, e)) | inr n ↦ n ], (λ h. h, tt));
  below = (omega arith, (omega arith, tt));
  vars = (inl refl, (tt, (tt, (tt, tt))));
  fields = ((inr (inl refl), (tt, tt)), ((inl refl, (tt, tt)), tt));
}

-- a cell as high as the next number, a number that stands twice, a field that names no cell
a_cell_too_high : IsProper (store [] (cell 8 [] [] ∷ [])) → ⊥
a_cell_too_high p = let l = p.below.0 in omega (arith, l)

a_number_twice : IsProper (store [] (cell 1 [] [] ∷ cell 1 [] [] ∷ [])) → ⊥
a_number_twice p = p.differ.0 (inl refl)

a_field_to_no_cell : IsProper (store [] (cell 1 [] (Cell 0 ∷ []) ∷ [])) → ⊥
a_field_to_no_cell p = elim p.fields.0.0 [ inl e ↦ absurd (omega (arith, e)) | inr n ↦ n ]

a_variable_to_no_cell : IsProper (store (Cell 3 ∷ []) []) → ⊥
a_variable_to_no_cell p = p.vars.0

-- Alike

-- the same cells as those of s, by the numbers 5 and 3 and the other way round; the next number is another
abbrev t : Store
t =
    record
    (store (Cell 5 ∷ Null ∷ Dangling ∷ Uninit ∷ [])
    (cell 3 (Known 1 ∷ []) (Cell 5 ∷ Dangling ∷ []) ∷ cell 5 (Known 7 ∷ Undefined ∷ []) (Cell 3 ∷ Null ∷ []) ∷ []))
    { next = 6 }

they_are_alike : IsAlike s t
they_are_alike = record {
  to = λ n. n + 1;
  one_to_one = λ m n h k e. omega (arith, e);
  vars = refl;
  data_vars = refl;
  cells = record { moves = (0, 1) ∷ []; below = (omega arith, omega arith, tt); is = refl };
}

-- two cells are not made into one
not_one_cell : IsAlike (store (Cell 0 ∷ Cell 1 ∷ []) (cell 0 [] [] ∷ cell 1 [] [] ∷ []))
    (store (Cell 5 ∷ Cell 5 ∷ []) (cell 5 [] [] ∷ cell 5 [] [] ∷ [])) → ⊥
not_one_cell h =
    let zero_to : h.to 0 ≡ 5 = let e = h.vars in cc in
    let one_to : h.to 1 ≡ 5 = let e = h.vars in cc in
    let same = h.one_to_one 0 1 (inl refl) (inr (inl refl)) (zero_to ∙ sym one_to) in
    omega (arith, same)

-- another value in a variable, or another datum
another_value : IsAlike (store (Null ∷ []) []) (store (Uninit ∷ []) []) → ⊥
another_value h = let e = h.vars in cc

another_datum : IsAlike (store [] []) (record (store [] []) { data_vars = Known 4 ∷ Undefined ∷ [] }) → ⊥
another_datum h = let e = h.data_vars in cc

-- Fields of structs: struct 0 has a datum, a pointer to struct 1, and a datum; struct 1 has pointers to 0 and to 1

abbrev field : FieldKind → FieldDef
field kind = record { name = []; kind = kind }

abbrev shapes : List Shape
shapes = record { name = []; fields = field DatumField ∷ field (Pointer 1) ∷ field DatumField ∷ [] }
    ∷ record { name = []; fields = field (Pointer 0) ∷ field (Pointer 1) ∷ [] } ∷ []

one_pointer : targets_of shapes 0 ≡ 1 ∷ []
one_pointer = refl

two_pointers : targets_of shapes 1 ≡ 0 ∷ 1 ∷ []
two_pointers = refl

no_struct : targets_of shapes 2 ≡ []
no_struct = refl

two_data : datums_of shapes 0 ≡ 2
two_data = refl

no_data : datums_of shapes 1 ≡ 0
no_data = refl

no_struct_no_data : datums_of shapes 2 ≡ 0
no_struct_no_data = refl

two_fields : fields_at shapes 1 ≡ field (Pointer 0) ∷ field (Pointer 1) ∷ []
two_fields = refl

no_fields : fields_at shapes 2 ≡ []
no_fields = refl
