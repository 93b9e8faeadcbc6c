use Rattle.std.proofs.Common.{◌∙◌, length, ap}
use Rattle.fore_base.specs.declared.store.Datum.TheVariants.{Undefined}
use Rattle.fa_core.specs.declared.forest.Forest.{Forest}
use Rattle.fa_core.specs.declared.forest.Target.TheVariants.{Uninit}
use Rattle.fa_core.specs.Filled.{DatumFits, IsRoot}
use Rattle.sym_transfer.proofs.Below.{targets_below, data_fit, uninit_below, every_each, length_each}
use Rattle.sym_transfer.proofs.variables.without_these.Goals as goal

pub with_vars-requires-clause-targets : goal.with_vars-requires-clause-targets
with_vars-requires-clause-targets c =
    let F = c.args.forest.now.forest in
    rw (c.set_these-vars.ensures, c.in_ok-vars.ensures, c.forest.ensures)
    (every_each (IsRoot (length F.autos)) F.vars c.args.ptrs.now Uninit
    (targets_below c.args.forest.now.face F c.known.ensures.sound) (uninit_below (length F.autos)))

pub with_vars-requires-clause-data : goal.with_vars-requires-clause-data
with_vars-requires-clause-data c =
    let F = c.args.forest.now.forest in
    rw (c.set_these-data_vars.ensures, c.in_ok-data_vars.ensures, c.forest-2.ensures)
    (every_each DatumFits F.data_vars c.args.datums.now Undefined
    (data_fit c.args.forest.now.face F c.known.ensures.sound) tt)

pub returns-clause-form : goal.returns-clause-form
returns-clause-form c =
    let F = c.args.forest.now.forest in
    record {
      face = c.in_ok-made.ensures.face;
      plain = c.in_ok-made.ensures.plain;
      vars = ap (λ (G : Forest). length G.vars) c.in_ok-made.ensures.value
          ∙ rw (c.set_these-vars.ensures, c.in_ok-vars.ensures, c.forest.ensures)
          (length_each F.vars c.args.ptrs.now Uninit);
      data_vars = ap (λ (G : Forest). length G.data_vars) c.in_ok-made.ensures.value
          ∙ rw (c.set_these-data_vars.ensures, c.in_ok-data_vars.ensures, c.forest-2.ensures)
          (length_each F.data_vars c.args.datums.now Undefined);
    }
