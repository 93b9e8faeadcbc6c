use Rattle.std.proofs.Common.{◌∷◌, [], take, get_or}
use Rattle.std.proofs.lemmas.List.{take_more}
use Rattle.fore_search.proofs.Searches.{visits_more}
use Rattle.fore_search.proofs.searching.visit.Goals as goal

pub loop-number-preserved : goal.loop-number-preserved
loop-number-preserved c =
    rw (take_more c.args.numbers.now c.loop-number.number-index 0 c.loop-number-test.true)
    (visits_more (take c.loop-number.number-index c.args.numbers.now)
    (get_or c.args.numbers.now c.loop-number.number-index 0 ∷ []) c.args.marks.now c.args.todo.now
    c.loop-number.marks
    c.loop-number.todo c.visit_one.new.marks c.visit_one.new.todo c.loop-number.invariant c.in_ok-visit_one.ensures)
