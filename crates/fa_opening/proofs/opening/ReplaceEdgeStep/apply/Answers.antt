use Rattle.fa_opening.proofs.Steps.{root_there}
use Rattle.fa_opening.proofs.opening.ReplaceEdgeStep.apply.Goals as goal

pub covering_slot-requires-clause-root : goal.covering_slot-requires-clause-root
covering_slot-requires-clause-root c =
    root_there c.args.part.now c.args.self.now.root c.known.ensures c.requires.at.target

pub covering_slot-requires-clause-top : goal.covering_slot-requires-clause-top
covering_slot-requires-clause-top c = c.requires.top
