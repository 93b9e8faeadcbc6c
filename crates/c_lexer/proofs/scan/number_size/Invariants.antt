use Rattle.std.proofs.Common.{◌≡◌, ◌+◌, drop}
use Rattle.std.specs.List.{prefix_len}
use Rattle.c_lexer.specs.Bytes.{is_number_byte}
use Rattle.c_lexer.proofs.scan.number_size.Given as goal

abbrev pub invariant-loop-i : goal.invariant-loop-i
invariant-loop-i l = prefix_len is_number_byte l.rest ≡ l.i + prefix_len is_number_byte (drop l.i l.rest)
