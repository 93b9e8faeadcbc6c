-- Runs that are over.
use Rattle.c_types.specs.declared.outcome.Outcome.{Outcome}
use Rattle.c_types.specs.declared.outcome.Outcome.TheVariants.{Starved, Fault, StillRunning}

-- the run has ended, met a fault, or stopped for want of a choice
abbrev pub IsOver : Outcome → Type 0
IsOver StillRunning = ⊥
IsOver _ = Unit {0}

abbrev pub IsFault : Outcome → Type 0
IsFault (Fault kind line step) = Unit {0}
IsFault _ = ⊥

-- a choice was needed, and none was left
abbrev pub IsStarved : Outcome → Type 0
IsStarved (Starved step) = Unit {0}
IsStarved _ = ⊥
