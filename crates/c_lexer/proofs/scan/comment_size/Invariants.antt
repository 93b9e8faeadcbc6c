use Rattle.std.proofs.Common.{◌≡◌, drop}
use Rattle.c_lexer.specs.inner.Steps.{comment_end}
use Rattle.c_lexer.proofs.scan.comment_size.Given as goal

abbrev pub invariant-loop-i : goal.invariant-loop-i
invariant-loop-i l = comment_end l.i (drop l.i l.rest) ≡ comment_end 2 (drop 2 l.rest)
