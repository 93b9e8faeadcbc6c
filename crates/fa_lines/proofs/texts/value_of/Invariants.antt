use Rattle.std.proofs.Common.{◌≡◌, ◌<◌, drop}
use Rattle.fa_lines.specs.inner.Reading.{value_from}
use Rattle.fa_lines.proofs.texts.value_of.Given as goal

abbrev pub invariant-loop-digit : goal.invariant-loop-digit
invariant-loop-digit l = (l.value < 42949674000)
    × (value_from 0 l.digits ≡ value_from l.value (drop l.digit-index l.digits))
