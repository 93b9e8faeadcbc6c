-- Worked values, which guard the definition in specs/: what a replay says of each outcome of a run.
use Rattle.std.proofs.Common.{◌≡◌, refl}
use Rattle.fore_base.specs.declared.fault.Fault.TheVariants.{Leak, DoubleFree}
use Rattle.c_types.specs.declared.outcome.Outcome.TheVariants.{Ended, Fault, Starved, BadChoice, StillRunning}
use Rattle.trace_replay.specs.declared.verdict.Replay.TheVariants.{Real, Spurious}
use Rattle.trace_replay.specs.Replays.{replay_of}

-- kind, line and step are those of the run
a_fault_is_real : replay_of (Fault DoubleFree 8 4) ≡ Real DoubleFree 8 4
a_fault_is_real = refl

another_is_real : replay_of (Fault Leak 2 5) ≡ Real Leak 2 5
another_is_real = refl

an_end_is_spurious : replay_of (Ended 4) ≡ Spurious
an_end_is_spurious = refl

-- the trace has too few choices
starving_is_spurious : replay_of (Starved 3) ≡ Spurious
starving_is_spurious = refl

a_bad_choice_is_spurious : replay_of (BadChoice 0) ≡ Spurious
a_bad_choice_is_spurious = refl

-- too few steps
running_is_spurious : replay_of StillRunning ≡ Spurious
running_is_spurious = refl
