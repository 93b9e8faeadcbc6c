use Rattle.fix_core.specs.Explorations.{IsExplored}
use Rattle.fix_core.proofs.Lists.{if_ok}
use Rattle.fix_decided.specs.Decided.{IsDecided}
use Rattle.fix_engine.proofs.exploring.explore.Goals as goal

pub returns-clause-decides : goal.returns-clause-decides
returns-clause-decides g c = λ free most.
    let T = c.args.table.now in
    let graph = c.args.graph.now in
    if_ok (IsExplored T graph c.args.height c.args.budget) IsDecided c.work.result
    (λ found h. c.enough_nodes_decide.ensures.decides T graph c.args.height c.args.budget found c.known.ensures free
    most h)
    (rw c.new-task.ensures at c.work.ensures)
