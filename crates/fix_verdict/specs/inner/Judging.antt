-- What the replay of a trace says.
use Rattle.std.specs.Prelude.{◌≡◌, ℕ}
use Rattle.c_types.specs.declared.mode.MallocMode.{MallocMode}
use Rattle.c_types.specs.declared.outcome.Outcome.TheVariants.{Fault}
use Rattle.c_types.specs.Over.{IsFault}
use Rattle.c_types.specs.Program.{Program}
use Rattle.c_types.specs.Runs.{run}
use Rattle.fa_core.specs.Boxes.{Boxes}
use Rattle.fix_core.specs.declared.explored.AbsTrace.{AbsTrace}
use Rattle.fix_verdict.specs.declared.verdict.Verdict.{Verdict}
use Rattle.fix_verdict.specs.declared.verdict.Verdict.TheVariants.{Unsafe, LooseTrace}
use Rattle.fix_core.specs.Follows.{IsMember}

-- the run of this many steps on the trace's choices meets this fault; or it meets none, and the store is a member of
-- the trace's last forest
abbrev pub IsReplayed : Boxes → Program → MallocMode → AbsTrace → ℕ → Verdict → Type 0
IsReplayed T p m tr n (Unsafe kind line step) = run p m tr.choices n ≡ Fault kind line step
IsReplayed T p m tr n (LooseTrace sample) = (IsFault (run p m tr.choices n) → ⊥) × IsMember T tr.last.forest sample
IsReplayed T p m tr n _ = ⊥
