-- What a machine is at, and what a step does to it.
use Rattle.std.specs.Prelude.{◌≡◌, ℕ, Bool, true, false, Option, Some, None}
use Rattle.fore_base.specs.declared.store.Store.{Store}
use Rattle.c_types.specs.declared.mode.MallocMode.{MallocMode}
use Rattle.c_types.specs.Program.{Program}
use Rattle.c_types.specs.Control.{Items, Done, Do, Close, If, Loop, Again, DoLoop, DoAgain, Enter, Leave, Exit, opened}
use Rattle.c_types.specs.Steps.{Goes, Stops, Faults, turn_of, mark_of}
use Rattle.c_types.specs.Steps as steps
use Rattle.c_machine.specs.Pending.{left_of}
use Rattle.c_machine.specs.declared.state.Turn.{Turn}
use Rattle.c_machine.specs.declared.state.Turn.TheVariants.{Next, Fault, Ended, NeedsChoice}
use Rattle.c_machine.specs.declared.state.Machine.{Machine}

abbrev pub program_of : Machine → Program
program_of m = m.program.now

-- whether its `malloc` may fail
abbrev pub mode_of : Machine → MallocMode
mode_of m = m.mode

-- the items that are left, opened
abbrev pub todo : Machine → Items
todo m = left_of m.control

abbrev pub store_of : Machine → Store
store_of m = m.heap

-- what each further step answers, once the run is over
abbrev pub over_of : Machine → Option Turn
over_of m = m.over

-- how many steps take no memory; once the run is over all do
abbrev pub spare_for : Option Turn → Bool → ℕ
spare_for (Some turn) reserved = 1
spare_for None true = 1
spare_for None false = 0

abbrev pub spare_of : Machine → ℕ
spare_of m = spare_for m.over m.reserved

-- no item is left
abbrev pub is_done : Items → Bool
is_done Done = true
is_done (Do a m is) = false
is_done (Close ps ds m is) = false
is_done (If c x y is) = false
is_done (Loop c n b is) = false
is_done (Again c n b is) = false
is_done (DoLoop c b is) = false
is_done (DoAgain c b is) = false
is_done (Enter vs ws m is) = false
is_done (Leave v vs a m is) = false
is_done (Exit v vs d m is) = false

-- what a machine answers to a step that goes so, and where it is then
abbrev pub Stepped : steps.Turn → Machine → Machine → Turn → Type 0
Stepped (Goes is s) old new answer = (answer ≡ Next) × (todo new ≡ opened is) × (store_of new ≡ s)
    × (over_of new ≡ None)
Stepped Stops old new answer = (answer ≡ Ended) × (over_of new ≡ Some Ended)
Stepped (Faults kind) old new answer = (answer ≡ Fault kind (mark_of (todo old)))
    × (over_of new ≡ Some (Fault kind (mark_of (todo old))))

-- the same with the choice that there is, or none, which changes nothing
abbrev pub Answers : Option ℕ → Machine → Machine → Turn → Type 0
Answers None old new answer = (answer ≡ NeedsChoice) × (new ≡ old)
Answers (Some choice) old new answer =
    Stepped (turn_of (program_of old).shapes.structs (mode_of old) (todo old) (store_of old) choice) old new answer
