use Rattle.std.proofs.Common.{◌≡◌, map, take}
use Rattle.fore_words.specs.Values.{digit_of}
use Rattle.fore_words.proofs.values.values_of.Given as goal

abbrev pub invariant-loop-digit : goal.invariant-loop-digit
invariant-loop-digit l = l.values ≡ map digit_of (take l.digit-index l.digits)
