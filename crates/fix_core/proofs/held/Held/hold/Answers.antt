use Rattle.std.proofs.Common.{◌∙◌}
use Rattle.fix_core.proofs.HeldSteps.{held_as}
use Rattle.fix_core.proofs.held.Held.hold.Goals as goal

pub returns-clause-node : goal.returns-clause-node
returns-clause-node c =
    held_as c.args.self.now c.keep_middle.new.self (record {
      head = c.args.head;
      forest = c.args.forest;
      middle = c.in_ok-middle.middle;
      folds = c.in_ok-folds.folds;
    }) c.args.state.now c.keep_middle.ensures.grows c.requires c.in_ok-middle.ensures.kept
    (c.in_ok-folds.ensures ∙ c.folds.ensures)
