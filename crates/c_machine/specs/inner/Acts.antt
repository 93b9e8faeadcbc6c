-- How the machine's answers read as turns.
use Rattle.std.specs.Prelude.{◌≡◌, Result, Ok, Err}
use Rattle.fore_base.specs.declared.fault.Fault.{Fault as Kind}
use Rattle.fore_base.specs.declared.store.Store.{Store}
use Rattle.c_types.specs.Control.{Items, opened}
use Rattle.c_types.specs.Steps.{Turn, Goes, Stops, Faults, settle}
use Rattle.c_machine.specs.declared.items.Control.{Control}
use Rattle.c_machine.specs.declared.acting.Pace.{Pace}
use Rattle.c_machine.specs.declared.acting.Pace.TheVariants.{Goes as PaceGoes, Stops as PaceStops, Faults as PaceFaults}
use Rattle.c_machine.specs.Pending.{left_of}

-- the turn, where these items are left and this store
abbrev pub turn_seen : Pace → Items → Store → Turn
turn_seen PaceGoes is s = Goes is s
turn_seen PaceStops is s = Stops
turn_seen (PaceFaults kind) is s = Faults kind

-- the turn after something was done, or met a fault
abbrev pub settled_as : Result Unit Kind → Store → Items → Turn
settled_as (Ok done) s is = settle s is
settled_as (Err kind) s is = Faults kind

-- a turn that went so, to this control and this store
abbrev pub TurnIs : Turn → Pace → Control → Store → Type 0
TurnIs t PaceGoes c s = (js : Items) × (t ≡ Goes js s) × (left_of c ≡ opened js)
TurnIs t PaceStops c s = t ≡ Stops
TurnIs t (PaceFaults kind) c s = t ≡ Faults kind
