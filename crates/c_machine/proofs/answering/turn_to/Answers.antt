use Rattle.c_machine.specs.Pending.{pending}
use Rattle.c_machine.proofs.Stacks.{branch_yes, branch_no, round_yes, do_round_yes}
use Rattle.c_machine.proofs.answering.turn_to.Goals as goal

pub returns-then-outcome : goal.returns-then-outcome
returns-then-outcome c =
    branch_yes c.args.sides c.in-Branch.yes c.in-Branch.no c.args.outcome (pending c.args.stack.now.items)
    (pending c.put.new.stack.items) c.in-Branch.is c.if-outcome.true c.put.ensures.pending

pub returns-else-outcome : goal.returns-else-outcome
returns-else-outcome c =
    branch_no c.args.sides c.in-Branch.yes c.in-Branch.no c.args.outcome (pending c.args.stack.now.items)
    (pending c.put-else-outcome.new.stack.items) c.in-Branch.is c.if-outcome.false c.put-else-outcome.ensures.pending

pub returns-then-outcome-2 : goal.returns-then-outcome-2
returns-then-outcome-2 c =
    round_yes c.args.sides c.in-Round.cond c.in-Round.next c.in-Round.body c.args.outcome
    (pending c.args.stack.now.items) (pending c.put-then-outcome-2.new.stack.items)
    (pending c.put-then-outcome-2-2.new.stack.items) c.in-Round.is c.if-outcome-2.true
    c.put-then-outcome-2.ensures.pending c.put-then-outcome-2-2.ensures.pending

pub returns-then-outcome-3 : goal.returns-then-outcome-3
returns-then-outcome-3 c =
    do_round_yes c.args.sides c.in-DoRound.cond c.in-DoRound.body c.args.outcome (pending c.args.stack.now.items)
    (pending c.put-then-outcome-3.new.stack.items) (pending c.put-then-outcome-3-2.new.stack.items)
    c.in-DoRound.is c.if-outcome-3.true c.put-then-outcome-3.ensures.pending
    c.put-then-outcome-3-2.ensures.pending
