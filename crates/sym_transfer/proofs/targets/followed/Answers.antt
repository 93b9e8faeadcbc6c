use Rattle.std.proofs.Common.{◌∙◌, ap}
use Rattle.sym_transfer.specs.inner.Targets.{root_of}
use Rattle.sym_transfer.proofs.Below.{followed_top}
use Rattle.sym_transfer.proofs.targets.followed.Goals as goal

pub returns-clause-top : goal.returns-clause-top
returns-clause-top c = followed_top c.args.forest.now.face c.args.forest.now.forest c.known.ensures.sound
    c.requires.tops c.args.base c.root_of.result (c.root_of.ensures ∙ ap root_of c.target_of.ensures)
