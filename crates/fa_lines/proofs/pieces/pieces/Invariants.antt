use Rattle.std.proofs.Common.{◌≡◌, ◌++◌, length}
use Rattle.fa_lines.specs.Pieces.{pieces}
use Rattle.fa_lines.proofs.pieces.pieces.Given as goal

abbrev pub invariant-pieces : goal.invariant-pieces
invariant-pieces l = l.found ++ pieces l.rest ≡ pieces l.line

abbrev pub decreases-pieces : goal.decreases-pieces
decreases-pieces l = length l.rest
