use Rattle.std.proofs.Common.{◌≡◌, true, subst}
use Rattle.c_types.specs.Program.{Program, is_typed}
use Rattle.c_types.proofs.StepLaws.{begins_fitting, step_keeps, visited_fits}
use Rattle.c_types.proofs.laws.steps_keep_stores.Goals as goal

pub returns-clause-begins : goal.returns-clause-begins
returns-clause-begins c =
    begins_fitting c.args.program.now (subst (λ (p : Program). is_typed p ≡ true) c.program.view_is c.program.invariant)

pub returns-clause-keeps : goal.returns-clause-keeps
returns-clause-keeps c =
    step_keeps c.args.program.now (subst (λ (p : Program). is_typed p ≡ true) c.program.view_is c.program.invariant)

pub returns-clause-visited : goal.returns-clause-visited
returns-clause-visited c =
    visited_fits c.args.program.now (subst (λ (p : Program). is_typed p ≡ true) c.program.view_is c.program.invariant)
