use Rattle.fix_core.proofs.Lists.{at_within}
use Rattle.fore_explored.proofs.NodeLemmas.{middle_printed, no_middle, with_middle}
use Rattle.fore_explored.proofs.explored.put_middle.Goals as goal

pub put_settled-requires : goal.put_settled-requires
put_settled-requires c =
    let n = at_within c.args.nodes.now c.args.number c.requires.number in
    let is = rw c.in-Some.is at c.in_ok-middle.ensures n.0 n.1 in
    middle_printed c.args.table.now c.args.program.now n.0.state c.in-Some.middle (c.requires.state n.0 n.1) is.0 is.1

pub returns-in-None : goal.returns-in-None
returns-in-None c = λ n there. no_middle c.args.table.now c.args.program.now n.state c.args.text.now
    (rw c.in-None.is at c.in_ok-middle.ensures n there)

pub returns-in_ok-put_settled-in-Some : goal.returns-in_ok-put_settled-in-Some
returns-in_ok-put_settled-in-Some c = λ n there.
    let is = rw c.in-Some.is at c.in_ok-middle.ensures n there in
    with_middle c.args.table.now c.args.program.now n.state c.in-Some.middle.forest c.args.text.now
    c.put_settled.new.text is.0 (rw (c.folds.ensures n there) at c.in_ok-put_settled-in-Some.ensures)
