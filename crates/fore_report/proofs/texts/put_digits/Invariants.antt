use Rattle.std.proofs.Common.{◌≡◌, ◌++◌, flat_map, take, decimal}
use Rattle.fore_report.proofs.texts.put_digits.Given as goal

abbrev pub invariant-loop-number : goal.invariant-loop-number
invariant-loop-number l = l.text ≡ l.initial.text ++ flat_map decimal (take l.number-index l.numbers)
