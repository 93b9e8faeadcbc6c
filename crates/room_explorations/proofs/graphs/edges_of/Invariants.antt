use Rattle.fore_base.specs.Lists.{Every}
use Rattle.c_cfg.specs.Graphs.{HasItsChoice}
use Rattle.room_explorations.proofs.graphs.edges_of.Given as goal

abbrev pub invariant-loop-part : goal.invariant-loop-part
invariant-loop-part l = Every HasItsChoice l.edges
