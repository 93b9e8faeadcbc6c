use Rattle.std.proofs.Common.{◌≡◌, ◌≤◌, ◌+◌, drop}
use Rattle.fore_gen.specs.Programs.{count_lines}
use Rattle.fore_gen.proofs.programs.count_lines.Given as goal

abbrev pub invariant-loop-byte : goal.invariant-loop-byte
invariant-loop-byte l =
    (l.lines ≤ l.byte-index) × (l.lines + count_lines (drop l.byte-index l.text) ≡ count_lines l.text)
