use Rattle.std.proofs.Common.{arith}
use Rattle.fix_engine.proofs.Rounding.{numbers_fit, round_made, round_few}
use Rattle.fix_engine.proofs.rounds.round_of.Goals as goal

pub returns-clause-made : goal.returns-clause-made
returns-clause-made g c =
    let t = c.args.task.now in
    let numbers = c.in_ok-numbers.numbers in
    round_made t.table t.graph t.height c.args.nodes.now c.args.at numbers c.make_all.result
    (omega (arith, c.in_ok-numbers.ensures.0, c.min-many.ensures, c.requires.inside, c.requires.jobs))
    (omega (arith, c.in_ok-numbers.ensures.0, c.min-many.ensures, c.requires.inside))
    c.in_ok-numbers.ensures.1 (rw c.as_slice.ensures at c.make_all.ensures)

pub returns-clause-few : goal.returns-clause-few
returns-clause-few g c =
    let t = c.args.task.now in
    let numbers = c.in_ok-numbers.numbers in
    round_few t.table t.graph t.height c.args.nodes.now numbers c.make_all.result c.args.crew.now.jobs
    (omega (arith, c.in_ok-numbers.ensures.0, c.min-many.ensures)) (rw c.as_slice.ensures at c.make_all.ensures)

pub make_all-requires-clause-accepted : goal.make_all-requires-clause-accepted
make_all-requires-clause-accepted g c =
    let t = c.args.task.now in
    let numbers = c.in_ok-numbers.numbers in
    λ κs within. rw c.as_slice.ensures
    (numbers_fit t.table t.graph t.height c.args.nodes.now c.args.at numbers
    (record { shared = c.type_bounds.sync-R.shared }) c.requires.explored
    (omega (arith, c.in_ok-numbers.ensures.0, c.min-many.ensures, c.requires.inside)) c.in_ok-numbers.ensures.1)
