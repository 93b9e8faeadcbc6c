-- When a program and a control graph agree: on any choices they meet the same faults in the same lines, both end, or
-- both want a choice, and the program does so after no more steps than the graph after edges.
use Rattle.std.specs.Prelude.{◌≡◌, ◌≤◌, ℕ, List}
use Rattle.fore_base.specs.declared.fault.Fault.{Fault as Kind}
use Rattle.c_types.specs.declared.mode.MallocMode.{MallocMode}
use Rattle.c_types.specs.declared.outcome.Outcome.{Outcome}
use Rattle.c_types.specs.declared.outcome.Outcome.TheVariants.{Ended, Fault, Starved, BadChoice}
use Rattle.c_types.specs.Program.{Program}
use Rattle.c_types.specs.Runs.{run}
use Rattle.c_cfg.specs.Graphs.{ControlGraph}
use Rattle.c_cfg.specs.GraphRuns.{grun}

-- a fault of this kind in this line, after any number of steps
abbrev pub IsFaultAt : Kind → ℕ → Outcome → Type 0
IsFaultAt kind line o = (step : ℕ) × (o ≡ Fault kind line step)

-- the run has ended
abbrev pub IsEnded : Outcome → Type 0
IsEnded o = (step : ℕ) × (o ≡ Ended step)

-- a choice was needed, and none was left
abbrev pub IsStarved : Outcome → Type 0
IsStarved o = (step : ℕ) × (o ≡ Starved step)

-- the choice at this index is needed, and is neither 0 nor 1
abbrev pub IsBadAt : ℕ → Outcome → Type 0
IsBadAt index o = o ≡ BadChoice index

-- P holds of some number exactly where Q does; and where Q holds of m, P holds of some n that is no greater
pub record Together (P Q : ℕ → Type 0) : Type 0 where
  pub there : (n : ℕ) → P n → (m : ℕ) × Q m
  pub back : (m : ℕ) → Q m → (n : ℕ) × (n ≤ m) × P n

-- of a condition on outcomes: some number of steps leads the program to one, where `malloc` has this mode, exactly
-- where some number of edges leads the graph to one
abbrev pub BothCome : Program → MallocMode → ControlGraph → List ℕ → (Outcome → Type 0) → Type 0
BothCome p mode g choices Is = Together (λ n. Is (run p mode choices n)) (λ m. Is (grun g choices m))

pub record Agrees (p : Program) (mode : MallocMode) (g : ControlGraph) : Type 0 where
  pub faults : (choices : List ℕ) (kind : Kind) (line : ℕ) → BothCome p mode g choices (IsFaultAt kind line)
  pub ends : (choices : List ℕ) → BothCome p mode g choices IsEnded
  pub starves : (choices : List ℕ) → BothCome p mode g choices IsStarved
  pub bad_choices : (choices : List ℕ) (index : ℕ) → BothCome p mode g choices (IsBadAt index)
