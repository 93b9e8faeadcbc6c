use Rattle.std.proofs.Common.{◌≡◌, ◌+◌, drop}
use Rattle.std.specs.List.{prefix_len}
use Rattle.fa_lines.specs.Pieces.{joins}
use Rattle.fa_lines.proofs.pieces.joined_size.Given as goal

abbrev pub invariant-loop-i : goal.invariant-loop-i
invariant-loop-i l =
    prefix_len (joins l.first) l.bytes ≡ l.i + prefix_len (joins l.first) (drop l.i l.bytes)
