use Rattle.std.proofs.Common.{◌∙◌, ap₂}
use Rattle.sym_transfer.specs.inner.Targets.{same_targets}
use Rattle.sym_transfer.proofs.Outcomes.{ptrs_tested}
use Rattle.sym_transfer.proofs.testing.tested_ptrs.Goals as goal

pub returns-clause-edited : goal.returns-clause-edited
returns-clause-edited c =
    λ T table x. ptrs_tested c.args.forest.now T c.args.equal x c.args.left c.args.right c.known.ensures.sound
    c.same_targets-same.result
    (c.same_targets-same.ensures ∙ ap₂ same_targets c.target_of_arg.ensures c.target_of_arg-2.ensures) c.in_ok-made.made
    c.in_ok-made.ensures
