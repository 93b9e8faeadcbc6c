use Rattle.std.proofs.Common.{◌≡◌, false, drop}
use Rattle.c_lexer.specs.inner.Steps.{quote_end}
use Rattle.c_lexer.proofs.scan.quotation_size.Given as goal

abbrev pub invariant-loop-i : goal.invariant-loop-i
invariant-loop-i l = quote_end l.quote l.escaped l.i (drop l.i l.rest) ≡ quote_end l.quote false 1 (drop 1 l.rest)
