-- Worked values, which guard the definitions of specs/Machines.antt: what a machine is at, and what it answers to a
-- step.
use Rattle.std.proofs.Common.{◌≡◌, true, false, Some, None, [], ◌∷◌, refl, sym, ◌∙◌}
use Rattle.fore_base.specs.declared.fault.Fault.TheVariants.{Leak, DoubleFree}
use Rattle.fore_base.specs.declared.store.Store.{Store}
use Rattle.c_types.specs.declared.program.Act.TheVariants.{Halt}
use Rattle.c_types.specs.declared.program.Atom.TheVariants.{Choice}
use Rattle.c_types.specs.Control.{Items, Done, Do, Close, If, Loop, Again, DoLoop, DoAgain, Ask, opened}
use Rattle.c_types.specs.Steps.{Goes, Stops, Faults, mark_of}
use Rattle.c_machine.specs.declared.state.Machine.{Machine}
use Rattle.c_machine.specs.declared.state.Turn.TheVariants.{Next, Fault, Ended, NeedsChoice}
use Rattle.c_machine.specs.Machines.{todo, store_of, over_of, spare_for, is_done, Stepped, Answers}

-- Steps that take no memory

none_before_it_is_reserved : spare_for None false ≡ 0
none_before_it_is_reserved = refl

one_after : spare_for None true ≡ 1
one_after = refl

-- once the run is over each step does, reserved or not
all_at_the_end : spare_for (Some Ended) false ≡ 1
all_at_the_end = refl

all_after_a_fault : spare_for (Some (Fault Leak 3)) true ≡ 1
all_after_a_fault = refl

-- Whether no item is left

nothing_left : is_done Done ≡ true
nothing_left = refl

an_act_left : is_done (Do Halt 7 Done) ≡ false
an_act_left = refl

an_end_of_a_block_left : is_done (Close (0 ∷ []) [] 7 Done) ≡ false
an_end_of_a_block_left = refl

a_test_left : is_done (If (Ask Choice 7) Done Done Done) ≡ false
a_test_left = refl

a_loop_left : is_done (Loop (Ask Choice 7) Done Done Done) ≡ false
a_loop_left = refl

a_round_left : is_done (Again (Ask Choice 7) Done Done Done) ≡ false
a_round_left = refl

a_do_left : is_done (DoLoop (Ask Choice 7) Done Done) ≡ false
a_do_left = refl

a_do_round_left : is_done (DoAgain (Ask Choice 7) Done Done) ≡ false
a_do_round_left = refl

-- What is answered

module _ (old new : Machine) (is : Items) (s : Store) where
  on : todo new ≡ opened is → store_of new ≡ s → over_of new ≡ None → Stepped (Goes is s) old new Next
  on items store over = (refl, items, store, over)

  on_is_no_end : Stepped (Goes is s) old new Ended → ⊥
  on_is_no_end h = let e : Ended ≡ Next = h.0 in cc

  on_keeps_its_items : Stepped (Goes is s) old new Next → todo new ≡ opened is
  on_keeps_its_items h = h.1

  on_keeps_its_store : Stepped (Goes is s) old new Next → store_of new ≡ s
  on_keeps_its_store h = h.2

  on_is_not_over : Stepped (Goes is s) old new Next → over_of new ≡ Some Ended → ⊥
  on_is_not_over h over = let e : Some Ended ≡ None = sym over ∙ h.3 in cc

  the_end : over_of new ≡ Some Ended → Stepped Stops old new Ended
  the_end over = (refl, over)

  the_end_does_not_go_on : Stepped Stops old new Next → ⊥
  the_end_does_not_go_on h = let e : Next ≡ Ended = h.0 in cc

  the_end_stays : Stepped Stops old new Ended → over_of new ≡ None → ⊥
  the_end_stays h over = let e : None ≡ Some Ended = sym over ∙ h.1 in cc

  -- a fault has the line of the item in front before the step
  a_fault : mark_of (todo old) ≡ 8 → over_of new ≡ Some (Fault DoubleFree 8)
      → Stepped (Faults DoubleFree) old new (Fault DoubleFree 8)
  a_fault line over = rw line (refl, over)

  not_another_fault : Stepped (Faults DoubleFree) old new (Fault Leak (mark_of (todo old))) → ⊥
  not_another_fault h = let e : Fault Leak (mark_of (todo old)) ≡ Fault DoubleFree (mark_of (todo old)) = h.0 in cc

  no_fault_goes_on : Stepped (Faults DoubleFree) old new Next → ⊥
  no_fault_goes_on h = let e : Next ≡ Fault DoubleFree (mark_of (todo old)) = h.0 in cc

-- without its choice a step changes nothing
changes_nothing : (old : Machine) → Answers None old old NeedsChoice
changes_nothing old = (refl, refl)

answers_nothing_else : (old new : Machine) → Answers None old new Next → ⊥
answers_nothing_else old new h = let e : Next ≡ NeedsChoice = h.0 in cc
