use Rattle.std.proofs.lemmas.Result.{IfOk-at_ok}
use Rattle.fa_part.proofs.TablePorts.{box_there}
use Rattle.fa_part.specs.Ports.{AreFieldsOf}
use Rattle.fa_fold.proofs.within.is_within.Goals as goal

pub box_fields-requires : goal.box_fields-requires
box_fields-requires c =
    box_there c.args.table.now.defs c.args.box_no c.args.output c.requires.fits

pub is_within_by-requires-clause-fields : goal.is_within_by-requires-clause-fields
is_within_by-requires-clause-fields c = λ b there.
    IfOk-at_ok (AreFieldsOf c.args.table.now.face.boxes b) c.in_ok-fields.was (c.box_fields.ensures b there)
