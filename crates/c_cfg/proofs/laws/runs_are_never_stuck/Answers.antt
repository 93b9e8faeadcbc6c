use Rattle.std.proofs.Common.{◌≡◌, true, subst}
use Rattle.c_types.specs.Program.{Program, is_typed}
use Rattle.c_cfg.proofs.Agree.Unstuck.{never_stuck}
use Rattle.c_cfg.proofs.laws.runs_are_never_stuck.Goals as goal

pub returns : goal.returns
returns c =
    never_stuck c.args.program.now
    (subst (λ (p : Program). is_typed p ≡ true) c.program.view_is c.program.invariant) c.args.mode
    c.args.graph.now
