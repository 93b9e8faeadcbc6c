use Rattle.std.proofs.Common.{◌≡◌, ◌≤◌, ◌+◌, ◌-◌, None, drop, length}
use Rattle.c_machine.specs.Machines.{program_of, mode_of, todo, store_of, over_of}
use Rattle.c_machine.specs.inner.Going.{going}
use Rattle.c_machine.proofs.run.run_on.Given as goal

abbrev pub invariant-loop-step : goal.invariant-loop-step
invariant-loop-step l = record {
  goes : going (program_of l.initial.machine).shapes.structs (mode_of l.initial.machine) l.limit 0
      (todo l.initial.machine) (store_of l.initial.machine) l.choices 0
      ≡ going (program_of l.initial.machine).shapes.structs (mode_of l.initial.machine) (l.limit - l.step) l.step
      (todo l.machine) (store_of l.machine) (drop l.used l.choices) l.used;
  over : over_of l.machine ≡ None;
  program : program_of l.machine ≡ program_of l.initial.machine;
  mode : mode_of l.machine ≡ mode_of l.initial.machine;
  next : (store_of l.machine).next ≤ l.step + 1;
  used : l.used ≤ length l.choices;
}
