use Rattle.std.proofs.Common.{◌≡◌, drop, filter}
use Rattle.c_lexer.specs.Bytes.{is_solid}
use Rattle.c_lexer.specs.inner.Steps.{are_same}
use Rattle.c_lexer.proofs.scan.spells.Given as goal

abbrev pub invariant-loop-byte : goal.invariant-loop-byte
invariant-loop-byte l = are_same (filter is_solid (drop l.byte-index l.line)) l.left
    ≡ are_same (filter is_solid l.line) l.name
