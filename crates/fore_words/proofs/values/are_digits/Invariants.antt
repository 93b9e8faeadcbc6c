use Rattle.std.proofs.Common.{take}
use Rattle.fore_base.specs.Lists.{Every}
use Rattle.fore_words.specs.Values.{IsDigit}
use Rattle.fore_words.proofs.values.are_digits.Given as goal

abbrev pub invariant-loop-byte : goal.invariant-loop-byte
invariant-loop-byte l = Every IsDigit (take l.byte-index l.bytes)
