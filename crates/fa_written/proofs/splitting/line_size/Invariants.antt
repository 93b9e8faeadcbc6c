use Rattle.std.proofs.Common.{◌≡◌, ◌+◌, drop}
use Rattle.std.specs.List.{prefix_len}
use Rattle.c_lexer.specs.Bytes.{is_no_newline}
use Rattle.fa_written.proofs.splitting.line_size.Given as goal

abbrev pub invariant-loop-i : goal.invariant-loop-i
invariant-loop-i l = prefix_len is_no_newline l.text ≡ l.i + prefix_len is_no_newline (drop l.i l.text)
