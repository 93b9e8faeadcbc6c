use Rattle.std.proofs.Common.{rules, ◌≡◌, true, subst, IfOk}
use Rattle.std.proofs.lemmas.Result.{IfOk-weaker}
use Rattle.c_types.specs.Program.{Program, is_typed}
use Rattle.c_cfg.specs.Graphs.{ControlGraph}
use Rattle.c_cfg.specs.Agreement.{Agrees}
use Rattle.c_cfg.specs.Lowering.{LowerOf}
use Rattle.c_cfg.proofs.Agree.Agreed.{agree}
use Rattle.c_lower.proofs.lower.lower.Goals as goal

pub returns-clause-agrees : goal.returns-clause-agrees
returns-clause-agrees c =
    let p = c.args.program.now in
    let typed = subst (λ (q : Program). is_typed q ≡ true) c.program.view_is c.program.invariant in
    let low : IfOk c.graph_from.result (λ (g : ControlGraph). LowerOf p c.args.mode g) = search rules in
    IfOk-weaker c.graph_from.result (λ (g : ControlGraph). LowerOf p c.args.mode g)
    (λ (g : ControlGraph). Agrees p c.args.mode g) (λ g h. agree p typed c.args.mode g h) low
