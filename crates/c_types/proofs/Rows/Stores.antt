-- Rows on steps that take a reference away, on stores that fit a program, and on runs that are over. A relation is
-- shown by a derivation, or refuted.
use Rattle.std.proofs.Common.{◌≡◌, inl, inr, ℕ, Bool, true, false, None, List, [], ◌∷◌, refl, subst, true≢false, arith}
use Rattle.fore_base.specs.declared.fault.Fault.TheVariants.{Leak}
use Rattle.fore_base.specs.declared.store.Value.{Value}
use Rattle.fore_base.specs.declared.store.Value.TheVariants.{Null, Uninit, Dangling, Cell}
use Rattle.fore_base.specs.declared.store.Datum.{Datum}
use Rattle.fore_base.specs.declared.store.Datum.TheVariants.{Undefined, Known}
use Rattle.fore_base.specs.declared.store.CellRec.{CellRec}
use Rattle.fore_base.specs.declared.store.Store.{Store}
use Rattle.fore_base.specs.Heap.{leaks}
use Rattle.c_types.specs.declared.outcome.Outcome.TheVariants.{Ended, Fault, Starved, BadChoice, StillRunning}
use Rattle.c_types.specs.declared.program.DataPath.TheVariants.{Var as DataVar}
use Rattle.c_types.specs.declared.program.PtrRhs.TheVariants.{Path as RhsPath, Null as RhsNull, New as RhsNew}
use Rattle.c_types.specs.declared.program.DataRhs.TheVariants.{Known as DataRhsKnown}
use Rattle.c_types.specs.declared.program.Atom.TheVariants.{Choice as ChoiceAtom}
use Rattle.c_types.specs.declared.program.Act.{Act}
use Rattle.c_types.specs.declared.program.Act.TheVariants.{SetPtr, SetData, Free, Error, Halt, Return, Break, Continue}
use Rattle.c_types.specs.Program.{Program}
use Rattle.c_types.specs.Control.{start_of, Items, Done, Do, Close, If, Loop, Again, DoLoop, DoAgain, Ask}
use Rattle.c_types.specs.declared.mode.MallocMode.TheVariants.{Always, MayFail}
use Rattle.c_types.specs.Losses.{loses}
use Rattle.c_types.specs.Fits.{FitsProgram, Visited, start, step, ActFits, ItemsFit}
use Rattle.c_types.specs.Over.{IsOver, IsFault, IsStarved}
use Rattle.c_types.proofs.Layers.{layers}
use Rattle.c_types.proofs.Rows.Forms.{pointer_to, datum, nodes, var, arrow, new, main}

-- Losses

-- p = cell 1, q = NULL, r was not set; the cell 1 has left = cell 2 and right = NULL, the cell 2 has both not set
abbrev cell_of : ℕ → ℕ → List Datum → List Value → CellRec
cell_of number shape datums fields = record { number = number; shape = shape; datums = datums; fields = fields }

abbrev store : Store
store = record {
  vars = Cell 1 ∷ Null ∷ Uninit ∷ [];
  data_vars = [];
  cells = cell_of 1 0 [] (Cell 2 ∷ Null ∷ []) ∷ cell_of 2 0 [] (Uninit ∷ Uninit ∷ []) ∷ [];
  next = 3;
}

abbrev act_on : Act → Bool
act_on a = loses (Do a 1 Done) store

null_over_a_cell : act_on (SetPtr (var 0) RhsNull) ≡ true
null_over_a_cell = refl

null_over_null : act_on (SetPtr (var 1) RhsNull) ≡ false
null_over_null = refl

copy_over_a_cell : act_on (SetPtr (var 0) (RhsPath (var 1))) ≡ true
copy_over_a_cell = refl

copy_over_uninit : act_on (SetPtr (var 2) (RhsPath (var 0))) ≡ false
copy_over_uninit = refl

over_a_cell_in_a_field : act_on (SetPtr (arrow 0 0) (RhsPath (var 1))) ≡ true
over_a_cell_in_a_field = refl

over_null_in_a_field : act_on (SetPtr (arrow 0 1) (RhsPath (var 0))) ≡ false
over_null_in_a_field = refl

over_nothing : act_on (SetPtr (arrow 1 0) (RhsPath (var 0))) ≡ false
over_nothing = refl

new_is_a_loss : act_on (SetPtr (var 1) (RhsNew 0)) ≡ true
new_is_a_loss = refl

datum_is_none : act_on (SetData (DataVar 0) (DataRhsKnown 1)) ≡ false
datum_is_none = refl

free_of_a_cell : act_on (Free (var 0)) ≡ true
free_of_a_cell = refl

free_of_null : act_on (Free (var 1)) ≡ false
free_of_null = refl

error_is_none : act_on Error ≡ false
error_is_none = refl

exit_is_none : act_on Halt ≡ false
exit_is_none = refl

return_is_one : act_on (Return None) ≡ true
return_is_one = refl

return_without_cells : loses (Do (Return None) 1 Done) (record store { vars = Null ∷ Uninit ∷ [] }) ≡ false
return_without_cells = refl

-- the Closes that a `break` takes away: of p, of q and r, of p behind the Again
abbrev round_with : List ℕ → List ℕ → Items
round_with inside outside = Close inside [] 2 (Again (Ask ChoiceAtom 1) Done Done (Close outside [] 3 Done))

break_of_p : loses (Do Break 1 (round_with (0 ∷ []) [])) store ≡ true
break_of_p = refl

break_of_others : loses (Do Break 1 (round_with (1 ∷ 2 ∷ []) (0 ∷ []))) store ≡ false
break_of_others = refl

break_of_the_last : loses (Do Break 1 (round_with (2 ∷ 1 ∷ 0 ∷ []) [])) store ≡ true
break_of_the_last = refl

continue_of_p : loses (Do Continue 1 (round_with (0 ∷ []) [])) store ≡ true
continue_of_p = refl

continue_of_others : loses (Do Continue 1 (round_with (1 ∷ []) (0 ∷ []))) store ≡ false
continue_of_others = refl

close_of_p : loses (Close (0 ∷ []) [] 1 Done) store ≡ true
close_of_p = refl

close_of_others : loses (Close (1 ∷ 2 ∷ []) [] 1 Done) store ≡ false
close_of_others = refl

test_is_none : loses (If (Ask ChoiceAtom 1) Done Done Done) store ≡ false
test_is_none = refl

nothing_is_none : loses Done store ≡ false
nothing_is_none = refl

-- Stores that fit

-- struct node { struct node *next; };  struct item { struct node *head; int key; };  struct node *p; struct item *q;
-- int x;
abbrev both : Program
both = record {
  shapes =
      record {
        structs = record { name = []; fields = pointer_to 0 ∷ [] }
            ∷ record { name = []; fields = pointer_to 0 ∷ datum ∷ [] } ∷ [];
      };
  vars = record { name = []; shape = 0 } ∷ record { name = []; shape = 1 } ∷ [];
  data_vars = [] ∷ [];
  funcs = [];
  body = [];
}

-- q is the item 7, whose head is the node 4; p is Dangling
abbrev a_node : CellRec
a_node = cell_of 4 0 [] (Null ∷ [])

abbrev an_item : CellRec
an_item = cell_of 7 1 (Known 3 ∷ []) (Cell 4 ∷ [])

abbrev with : List Value → List Datum → List CellRec → Store
with vars data_vars cells = record { vars = vars; data_vars = data_vars; cells = cells; next = 8 }

it_fits : FitsProgram both (with (Dangling ∷ Cell 7 ∷ []) (Undefined ∷ []) (a_node ∷ an_item ∷ []))
it_fits = record {
  vars = (tt, (inr (inl (refl, refl)), tt));
  data_vars = refl;
  cells = (
    record { shape = omega arith; fields = (tt, tt); datums = refl },
    (record { shape = omega arith; fields = (inl (refl, refl), tt); datums = refl }, tt),
  );
}

no_cells_fit : FitsProgram both (with (Null ∷ Uninit ∷ []) (Known 1 ∷ []) [])
no_cells_fit = record { vars = (tt, (tt, tt)); data_vars = refl; cells = tt }

-- p names the item
other_struct : FitsProgram both (with (Cell 7 ∷ Null ∷ []) (Undefined ∷ []) (an_item ∷ [])) → ⊥
other_struct f = elim f.vars.0 [ inl e ↦ (let wrong : 1 ≡ 0 = e.1 in omega (arith, wrong)) | inr n ↦ n ]

-- p names no cell
no_such_cell : FitsProgram both (with (Cell 5 ∷ Null ∷ []) (Undefined ∷ []) (a_node ∷ [])) → ⊥
no_such_cell f = elim f.vars.0 [ inl e ↦ (let wrong : 4 ≡ 5 = e.0 in omega (arith, wrong)) | inr n ↦ n ]

one_variable : FitsProgram both (with (Null ∷ []) (Undefined ∷ []) []) → ⊥
one_variable f = f.vars.1

three_variables : FitsProgram both (with (Null ∷ Null ∷ Null ∷ []) (Undefined ∷ []) []) → ⊥
three_variables f = f.vars.1.1

no_data_variable : FitsProgram both (with (Null ∷ Null ∷ []) [] []) → ⊥
no_data_variable f = let wrong : 0 ≡ 1 = f.data_vars in omega (arith, wrong)

no_such_struct : FitsProgram both (with (Null ∷ Null ∷ []) (Undefined ∷ []) (cell_of 4 2 [] [] ∷ [])) → ⊥
no_such_struct f = omega (arith, f.cells.0.shape)

no_datum : FitsProgram both (with (Null ∷ Null ∷ []) (Undefined ∷ []) (cell_of 7 1 [] (Null ∷ []) ∷ [])) → ⊥
no_datum f = let wrong : 0 ≡ 1 = f.cells.0.datums in omega (arith, wrong)

no_field : FitsProgram both (with (Null ∷ Null ∷ []) (Undefined ∷ []) (cell_of 4 0 [] [] ∷ [])) → ⊥
no_field f = f.cells.0.fields

field_of_another_struct :
    FitsProgram both (with (Null ∷ Null ∷ []) (Undefined ∷ []) (cell_of 4 0 [] (Cell 7 ∷ []) ∷ an_item ∷ [])) → ⊥
field_of_another_struct f =
    elim f.cells.0.fields.0 [
      | inl e ↦ (let wrong : 4 ≡ 7 = e.0 in omega (arith, wrong))
      | inr g ↦
          (elim g [ inl e ↦ (let wrong : 1 ≡ 0 = e.1 in omega (arith, wrong)) | inr n ↦ n ])
    ]

-- Typed items

-- p = q->head fits, q = p does not, `break` fits wherever it stands
copies_head : ActFits both (SetPtr (var 0) (RhsPath (arrow 1 0)))
copies_head = refl

copies_p : ActFits both (SetPtr (var 1) (RhsPath (var 0))) → ⊥
copies_p e = true≢false (let wrong : false ≡ true = e in cc)

breaks : ActFits both Break
breaks = refl

-- each act of the items counts, in each place
abbrev bad : Items
bad = Do (SetPtr (var 1) (RhsPath (var 0))) 1 Done

first_act : ItemsFit both bad → ⊥
first_act f = copies_p f.0

later_act : ItemsFit both (Do Halt 1 bad) → ⊥
later_act f = copies_p f.1.0

after_a_close : ItemsFit both (Close [] [] 1 bad) → ⊥
after_a_close f = copies_p f.0

in_a_yes_side : ItemsFit both (If (Ask ChoiceAtom 1) bad Done Done) → ⊥
in_a_yes_side f = copies_p f.0.0

in_a_no_side : ItemsFit both (If (Ask ChoiceAtom 1) Done bad Done) → ⊥
in_a_no_side f = copies_p f.1.0

after_a_test : ItemsFit both (If (Ask ChoiceAtom 1) Done Done bad) → ⊥
after_a_test f = copies_p f.2.0

in_a_next : ItemsFit both (Loop (Ask ChoiceAtom 1) bad Done Done) → ⊥
in_a_next f = copies_p f.0.0

in_a_body : ItemsFit both (Again (Ask ChoiceAtom 1) Done bad Done) → ⊥
in_a_body f = copies_p f.1.0

after_a_loop : ItemsFit both (Loop (Ask ChoiceAtom 1) Done Done bad) → ⊥
after_a_loop f = copies_p f.2.0

in_a_do : ItemsFit both (DoLoop (Ask ChoiceAtom 1) bad Done) → ⊥
in_a_do f = copies_p f.0.0

after_a_do : ItemsFit both (DoAgain (Ask ChoiceAtom 1) Done bad) → ⊥
after_a_do f = copies_p f.1.0

all_fit : ItemsFit both (Do Halt 1 (Loop (Ask ChoiceAtom 1) Done (Do Break 2 Done) (Close (0 ∷ []) [] 3 Done)))
all_fit = (refl, (tt, (refl, tt), tt))

-- Stores that a run visits: 2 p = malloc();

abbrev makes : Program
makes = main nodes 1 0 (new (var 0) 2 ∷ []) 3

makes_items : start_of makes ≡ Do (SetPtr (var 0) (RhsNew 0)) 2 Done
makes_items = simp layers refl

at_first : Visited makes Always (Do (SetPtr (var 0) (RhsNew 0)) 2 Done)
    (record { vars = Uninit ∷ []; data_vars = []; cells = []; next = 1 })
at_first = subst (λ is. Visited makes Always is (record { vars = Uninit ∷ []; data_vars = []; cells = []; next = 1 }))
    makes_items start

after_one : Visited makes Always Done
    (record { vars = Cell 1 ∷ []; data_vars = []; cells = cell_of 1 0 [] (Uninit ∷ []) ∷ []; next = 2 })
unfolding leaks
after_one = step 0 at_first refl

-- the same where the `malloc` fails

failed_first : Visited makes MayFail (Do (SetPtr (var 0) (RhsNew 0)) 2 Done)
    (record { vars = Uninit ∷ []; data_vars = []; cells = []; next = 1 })
failed_first = subst (λ is. Visited makes MayFail is
    (record { vars = Uninit ∷ []; data_vars = []; cells = []; next = 1 }))
    makes_items start

after_a_failure : Visited makes MayFail Done (record { vars = Null ∷ []; data_vars = []; cells = []; next = 1 })
unfolding leaks
after_a_failure = step 0 failed_first refl

-- Runs that are over

ended_is_over : IsOver (Ended 3)
ended_is_over = tt

fault_is_over : IsOver (Fault Leak 2 3)
fault_is_over = tt

starved_is_over : IsOver (Starved 3)
starved_is_over = tt

bad_choice_is_over : IsOver (BadChoice 0)
bad_choice_is_over = tt

running_is_not : IsOver StillRunning → ⊥
running_is_not over = over

fault_is_one : IsFault (Fault Leak 2 3)
fault_is_one = tt

ended_is_no_fault : IsFault (Ended 3) → ⊥
ended_is_no_fault fault = fault

starved_is_no_fault : IsFault (Starved 3) → ⊥
starved_is_no_fault fault = fault

starved_is_one : IsStarved (Starved 3)
starved_is_one = tt

bad_choice_is_not : IsStarved (BadChoice 0) → ⊥
bad_choice_is_not starved = starved
