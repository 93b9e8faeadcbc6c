use Rattle.std.proofs.Common.{◌≡◌, drop}
use Rattle.fa_lines.specs.inner.Reading.{states_of, states_more}
use Rattle.fa_lines.proofs.reading.states_of.Given as goal

abbrev pub invariant-loop-piece : goal.invariant-loop-piece
invariant-loop-piece l = states_more l.found (states_of (drop l.piece-index l.pieces)) ≡ states_of l.pieces
