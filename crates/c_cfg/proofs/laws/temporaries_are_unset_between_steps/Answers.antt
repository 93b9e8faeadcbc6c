use Rattle.std.proofs.Common.{◌≡◌, true, subst}
use Rattle.c_types.specs.Program.{Program, is_typed}
use Rattle.c_cfg.proofs.Agree.BetweenSteps.{unset_between_steps}
use Rattle.c_cfg.proofs.laws.temporaries_are_unset_between_steps.Goals as goal

pub returns : goal.returns
returns c =
    unset_between_steps c.args.program.now
    (subst (λ (p : Program). is_typed p ≡ true) c.program.view_is c.program.invariant) c.args.mode
    c.args.graph.now
