use Rattle.std.proofs.Common.{◌≡◌, ◌++◌, take}
use Rattle.fore_report.specs.Texts.{spaced}
use Rattle.fore_report.proofs.texts.put_spaced.Given as goal

abbrev pub invariant-loop-number : goal.invariant-loop-number
invariant-loop-number l = l.text ≡ l.initial.text ++ spaced (take l.number-index l.numbers)
