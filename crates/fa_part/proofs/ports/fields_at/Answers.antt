use Rattle.std.proofs.Common.{Some}
use Rattle.std.proofs.lemmas.Result.{IfOk-weaker}
use Rattle.fa_core.specs.Folding.{ArePortFields}
use Rattle.fa_part.specs.Ports.{AreFieldsAt}
use Rattle.fa_part.proofs.BoxFields.{fields_there}
use Rattle.fa_part.proofs.ports.fields_at.Goals as goal

pub returns : goal.returns
returns c =
    IfOk-weaker c.port_fields.result (ArePortFields c.args.boxes.now c.at.result.now)
    (AreFieldsAt c.args.boxes.now _)
    (λ fs h. fields_there c.args.boxes.now _ c.at.result.now fs c.at.ensures h) c.port_fields.ensures
