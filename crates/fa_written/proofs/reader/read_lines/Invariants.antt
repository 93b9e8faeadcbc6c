use Rattle.std.proofs.Common.{◌≤◌, ◌+◌, length}
use Rattle.fa_written.specs.inner.Reached.{Reached}
use Rattle.fa_written.proofs.reader.read_lines.Given as goal

abbrev pub invariant-lines : goal.invariant-lines
invariant-lines l = (l.number + length l.rest ≤ 1 + length l.text) × Reached l.text l.number l.rest l.reading

abbrev pub decreases-lines : goal.decreases-lines
decreases-lines l = length l.rest
