use Rattle.std.proofs.Common.{◌≡◌, ℕ, ◌<◌, ◌≤◌, ◌+◌, [], get_or}
use Rattle.par_kit.specs.Phases.{AreKept}
use Rattle.par_kit.proofs.filling.fill_here.Given as goal

-- the rows up to the index are filled, those from it on are as they were
abbrev pub invariant-loop-index : goal.invariant-loop-index
invariant-loop-index g l = AreKept (g.W.RowWorker.is_row l.worker) l.base l.fn.rows l.rows
    × ((k : ℕ) → k < l.index → g.W.RowWorker.is_row l.worker (l.base + k) (get_or l.rows k []))
    × ((k : ℕ) → l.index ≤ k → get_or l.rows k [] ≡ get_or l.fn.rows k [])
