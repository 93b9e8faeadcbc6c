use Rattle.std.proofs.Common.{◌≡◌, take}
use Rattle.c_lexer.specs.inner.Steps.{cursor_after}
use Rattle.c_lexer.proofs.place.advance.Given as goal

abbrev pub invariant-loop-i : goal.invariant-loop-i
invariant-loop-i l = l.cursor ≡ cursor_after (take l.i l.text)
