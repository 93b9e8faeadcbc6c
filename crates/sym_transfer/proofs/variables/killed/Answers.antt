use Rattle.fore_base.specs.Stores.{set_each}
use Rattle.fore_base.specs.declared.store.Datum.TheVariants.{Undefined}
use Rattle.fa_core.specs.declared.forest.Target.TheVariants.{Uninit}
use Rattle.c_cfg.specs.declared.graph.Instr.TheVariants.{Kill}
use Rattle.sym_transfer.specs.inner.Targets.{with_vars}
use Rattle.sym_transfer.proofs.Outcomes.{carried}
use Rattle.sym_transfer.proofs.VarKinds.{kill_vars}
use Rattle.sym_transfer.proofs.variables.killed.Goals as goal

pub returns-clause-edited : goal.returns-clause-edited
returns-clause-edited c = λ T table x.
    let F = c.args.forest.now in
    let ps = c.args.ptrs.now in
    let ds = c.args.datums.now in
    carried F.face T F.forest
    (with_vars F.forest (set_each F.forest.vars ps Uninit) (set_each F.forest.data_vars ds Undefined))
    c.in_ok-made.made.forest (Kill ps ds) x c.in_ok-made.ensures.value (kill_vars F.face T F.forest ps ds x)
