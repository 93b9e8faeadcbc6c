use Rattle.fix_core.proofs.Holding.{nothing_held}
use Rattle.fix_core.proofs.held.Held.none.Goals as goal

pub returns-clause-held : goal.returns-clause-held
returns-clause-held c = λ face.
    nothing_held face (record {
      nodes = c.new.result;
      pool = c.new-2.result;
      memo = c.new-3.result;
      groups = c.new-4.result;
    }) c.new.ensures c.new-3.ensures c.new-4.ensures.empty
