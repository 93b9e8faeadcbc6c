use Rattle.sym_transfer.proofs.CreatedStores.{created_carries}
use Rattle.sym_transfer.proofs.creating.created.Goals as goal

pub returns-clause-carries : goal.returns-clause-carries
returns-clause-carries c = λ T table x.
    let F = c.args.forest.now.forest in
    created_carries c.args.forest.now.face T F c.in_ok-made.made.forest c.args.to c.args.shape
    (c.in_ok-made.ensures.newed T) table c.known.ensures.sound.well_formed.filled x
