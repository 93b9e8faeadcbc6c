use Rattle.fa_named.proofs.MarkedLemmas.{marked_end}
use Rattle.fa_named.proofs.states.marked.Goals as goal

pub returns : goal.returns
returns c =
    marked_end c.args.states.now c.loop-state.marks c.loop-state.state-index c.loop-state-test.false
    c.loop-state.invariant
