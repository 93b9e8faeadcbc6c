use Rattle.std.proofs.Common.{◌≡◌, ℕ, ◌+◌, length}
use Rattle.fore_base.specs.Lists.{Every}
use Rattle.fa_sound.specs.Unions.{forests}
use Rattle.fa_opening.specs.Opened.{IsThatField, OpensInto}
use Rattle.fa_opening.specs.inner.Rounds.{IsRound}
use Rattle.fa_opening.proofs.opening.open_edges.Given as goal

abbrev pub invariant-loop-round : goal.invariant-loop-round
invariant-loop-round l =
    ((k : ℕ) → k + l._round ≡ length l.table.defs
    → Every (IsRound l.table l.root l.field l.forest.forest k) l.made)
    × OpensInto l.table.face.boxes l.table.defs l.root (IsThatField l.field) l.forest.forest (forests l.made)
