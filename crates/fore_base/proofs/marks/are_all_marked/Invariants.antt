use Rattle.std.proofs.Common.{◌≡◌, drop}
use Rattle.fore_base.specs.Marks.{all_marked}
use Rattle.fore_base.proofs.marks.are_all_marked.Given as goal

abbrev pub invariant-loop-number : goal.invariant-loop-number
invariant-loop-number l = all_marked l.marks (drop l.number-index l.numbers) ≡ all_marked l.marks l.numbers
