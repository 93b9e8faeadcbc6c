use Rattle.fa_fold.proofs.AllFolds.{least_fold_of}
use Rattle.fa_fold.proofs.BoxFields.{fields_at, fields_low}
use Rattle.fa_fold.proofs.FoldSites.{box_low}
use Rattle.fa_fold.proofs.all.fold_least.Goals as goal

pub at-own-requires : goal.at-own-requires
at-own-requires c =
    let T = c.args.table.now in
    let site = c.args.site.now in
    fields_low T c.args.fields.now c.requires.fields site.box_no
    (box_low T c.args.forest.now.forest site.box_no site.input site.output c.requires.site.can)

pub fold_by-requires-clause-fields : goal.fold_by-requires-clause-fields
fold_by-requires-clause-fields c =
    fields_at c.args.table.now c.args.fields.now c.requires.fields c.args.site.now.box_no c.at-own.result.now
    c.at-own.ensures

pub returns-clause-fold : goal.returns-clause-fold
returns-clause-fold c =
    least_fold_of c.args.table.now c.args.forest.now.forest c.in_ok-made.made.0.forest c.args.site.now
    c.in_ok-made.made.1 c.requires.site c.in_ok-made.ensures.fold c.in_ok-made.ensures.step
