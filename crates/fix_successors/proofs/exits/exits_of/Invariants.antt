use Rattle.fix_successors.specs.Exits.{AreExits}
use Rattle.fix_successors.proofs.exits.exits_of.Given as goal

abbrev pub invariant-loop-number : goal.invariant-loop-number
invariant-loop-number l = AreExits l.graph l.number l.exits
