use Rattle.std.proofs.Common.{true}
use Rattle.fix_engine.specs.inner.Taking.{AreFirstTaken}
use Rattle.fix_engine.proofs.taking.take_states.Given as goal

abbrev pub invariant-loop-state : goal.invariant-loop-state
invariant-loop-state g l =
    AreFirstTaken l.task.table l.task.graph l.task.height l.initial.nodes l.at l.number l.task.budget l.states
    l.state-index l.nodes true
