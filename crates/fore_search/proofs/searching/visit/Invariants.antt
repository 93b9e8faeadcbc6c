use Rattle.std.proofs.Common.{take}
use Rattle.fore_search.specs.inner.Search.{Visits}
use Rattle.fore_search.proofs.searching.visit.Given as goal

abbrev pub invariant-loop-number : goal.invariant-loop-number
invariant-loop-number l = Visits (take l.number-index l.numbers) l.initial.marks l.initial.todo l.marks l.todo
