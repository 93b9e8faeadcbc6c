use Rattle.std.proofs.lemmas.Result.{IfOk-at_ok}
use Rattle.fa_part.specs.Ports.{AreFieldsOf}
use Rattle.fa_fold.proofs.FoldSites.{box_low}
use Rattle.fa_fold.proofs.folds.fold_once.Goals as goal

pub box_fields-requires : goal.box_fields-requires
box_fields-requires c =
    box_low c.args.table.now c.args.forest.now.forest c.args.box_no c.args.input c.args.output c.requires.can

pub fold_by-requires-clause-fields : goal.fold_by-requires-clause-fields
fold_by-requires-clause-fields c = λ b there.
    IfOk-at_ok (AreFieldsOf c.args.table.now.face.boxes b) c.in_ok-fields.was (c.box_fields.ensures b there)
