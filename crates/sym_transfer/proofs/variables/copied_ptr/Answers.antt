use Rattle.std.proofs.Common.{ap, ◌∙◌, slice_set}
use Rattle.fa_core.specs.declared.forest.Target.{Target}
use Rattle.c_cfg.specs.declared.graph.Instr.TheVariants.{CopyPtr}
use Rattle.sym_transfer.specs.inner.Targets.{target_of_arg, with_vars}
use Rattle.sym_transfer.proofs.Below.{arg_below}
use Rattle.sym_transfer.proofs.Outcomes.{carried}
use Rattle.sym_transfer.proofs.VarKinds.{copy_ptr}
use Rattle.sym_transfer.proofs.variables.copied_ptr.Goals as goal

pub with_target-requires : goal.with_target-requires
with_target-requires c =
    record {
      root = rw c.target_of_arg-target.ensures
          (arg_below c.args.forest.now.face c.args.forest.now.forest c.known.ensures.sound c.args.from);
    }

pub returns-clause-edited : goal.returns-clause-edited
returns-clause-edited c = λ T table x.
    let F = c.args.forest.now in
    let G = λ (t : Target). with_vars F.forest (slice_set F.forest.vars c.args.to t) F.forest.data_vars in
    carried F.face T F.forest (G (target_of_arg F.forest c.args.from)) c.in_ok-made.made.forest
    (CopyPtr c.args.to c.args.from) x (c.in_ok-made.ensures.value ∙ ap G c.target_of_arg-target.ensures)
    (copy_ptr F.face T F.forest c.args.to c.args.from x)
