use Rattle.std.proofs.Common.{sym, true≢false, ◌∙◌}
use Rattle.fa_opening.proofs.Steps.{root_there}
use Rattle.fa_opening.proofs.opening.step_given.Goals as goal

pub step_bared-requires-clause-bared : goal.step_bared-requires-clause-bared
step_bared-requires-clause-bared c =
    record {
      root = root_there c.args.forest.now c.args.root c.known.ensures c.requires.ready.at.target;
      top = c.requires.ready.top;
      covered = c.requires.covered;
      given = λ t h. true≢false (sym (c.in_ok-can_lift.ensures.1 (t, h)) ∙ c.if-branch.false);
    }
