use Rattle.std.proofs.Common.{◌≡◌, true, subst}
use Rattle.c_types.specs.Program.{Program, is_typed}
use Rattle.c_cfg.proofs.Agree.Agreed.{agree}
use Rattle.c_cfg.proofs.laws.graphs_agree.Goals as goal

pub returns : goal.returns
returns c =
    agree c.args.program.now
    (subst (λ (p : Program). is_typed p ≡ true) c.program.view_is c.program.invariant) c.args.mode
    c.args.graph.now
