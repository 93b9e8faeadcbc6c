use Rattle.std.proofs.Common.{subst, sym}
use Rattle.c_calls.specs.Calls.{AreCalls}
use Rattle.c_typing.proofs.CallLaws.{calls_within}
use Rattle.c_callees.proofs.calling.call_graph.Goals as goal

pub graph_of-requires : goal.graph_of-requires
graph_of-requires c = subst AreCalls (sym c.in_ok-calls.ensures) (calls_within c.args.items.now)
