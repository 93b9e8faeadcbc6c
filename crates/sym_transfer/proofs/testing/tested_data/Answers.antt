use Rattle.std.proofs.Common.{◌∙◌, ap₂}
use Rattle.c_types.specs.Steps.{same_datums}
use Rattle.sym_transfer.proofs.Outcomes.{data_tested}
use Rattle.sym_transfer.proofs.testing.tested_data.Goals as goal

pub returns-clause-edited : goal.returns-clause-edited
returns-clause-edited c =
    λ T table x. data_tested c.args.forest.now T c.args.equal x c.args.left c.args.right c.same_datums-same.result
    (c.same_datums-same.ensures ∙ ap₂ same_datums c.datum_of_arg.ensures c.datum_of_arg-2.ensures) c.in_ok-made.made
    c.in_ok-made.ensures
