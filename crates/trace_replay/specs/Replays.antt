-- What a replay says of a run.
use Rattle.c_types.specs.declared.outcome.Outcome.{Outcome}
use Rattle.c_types.specs.declared.outcome.Outcome.TheVariants.{Ended, Fault, Starved, BadChoice, StillRunning}
use Rattle.trace_replay.specs.declared.verdict.Replay.{Replay}
use Rattle.trace_replay.specs.declared.verdict.Replay.TheVariants.{Real, Spurious}

-- a fault is real, with its kind, line and step; a run that meets none is spurious
abbrev pub replay_of : Outcome → Replay
replay_of (Fault kind line step) = Real kind line step
replay_of (Ended step) = Spurious
replay_of (Starved step) = Spurious
replay_of (BadChoice index) = Spurious
replay_of StillRunning = Spurious
