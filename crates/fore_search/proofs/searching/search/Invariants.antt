use Rattle.std.proofs.Common.{length, ◌+◌, ◌-◌}
use Rattle.fore_base.specs.Marks.{marked_count}
use Rattle.fore_search.specs.inner.Search.{Searching}
use Rattle.fore_search.proofs.searching.search.Given as goal

abbrev pub invariant-numbers : goal.invariant-numbers
invariant-numbers l = Searching l.table l.from l.marks l.todo

abbrev pub decreases-numbers : goal.decreases-numbers
decreases-numbers l = length l.todo + (length l.table - marked_count l.marks)
