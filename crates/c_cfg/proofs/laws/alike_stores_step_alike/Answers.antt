use Rattle.c_cfg.proofs.Properly.{steps_proper, empty_proper}
use Rattle.c_cfg.proofs.LikeSteps.{steps_alike}
use Rattle.c_cfg.proofs.AlikeStores.{alike_chain, unset_alike}
use Rattle.c_cfg.proofs.laws.alike_stores_step_alike.Goals as goal

pub returns-clause-alike : goal.returns-clause-alike
returns-clause-alike c = steps_alike c.args.graph.now.shapes.structs

pub returns-clause-keeps : goal.returns-clause-keeps
returns-clause-keeps c = steps_proper c.args.graph.now.shapes.structs

pub returns-clause-begins : goal.returns-clause-begins
returns-clause-begins c = (
  empty_proper c.args.graph.now.ptrs c.args.graph.now.datums,
  unset_alike c.args.graph.now.ptrs c.args.graph.now.datums,
)

pub returns-clause-chain : goal.returns-clause-chain
returns-clause-chain c = alike_chain
