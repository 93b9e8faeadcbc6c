use Rattle.std.proofs.Common.{ap, ◌∙◌, length, slice_set}
use Rattle.fore_base.specs.declared.store.Datum.{Datum}
use Rattle.c_cfg.specs.declared.graph.Instr.TheVariants.{CopyData}
use Rattle.sym_transfer.specs.inner.Targets.{datum_of_arg, with_vars}
use Rattle.sym_transfer.proofs.Below.{data_arg_fits}
use Rattle.sym_transfer.proofs.Outcomes.{carried}
use Rattle.sym_transfer.proofs.VarKinds.{copy_data}
use Rattle.sym_transfer.proofs.variables.copied_datum.Goals as goal

pub with_known-requires : goal.with_known-requires
with_known-requires c =
    record {
      fits = rw c.datum_of_arg-datum.ensures
          (data_arg_fits c.args.forest.now.face c.args.forest.now.forest c.known.ensures.sound 0
          (length c.args.forest.now.forest.data_vars) c.args.from c.requires.from);
    }

pub returns-clause-edited : goal.returns-clause-edited
returns-clause-edited c = λ T table x.
    let F = c.args.forest.now in
    let G = λ (y : Datum). with_vars F.forest F.forest.vars (slice_set F.forest.data_vars c.args.to y) in
    carried F.face T F.forest (G (datum_of_arg F.forest c.args.from)) c.in_ok-made.made.forest
    (CopyData c.args.to c.args.from) x (c.in_ok-made.ensures.value ∙ ap G c.datum_of_arg-datum.ensures)
    (copy_data F.face T F.forest c.args.to c.args.from x)
