use Rattle.fa_opening.proofs.SplitFields.{stays_shown, stays_regrouped}
use Rattle.fa_opening.proofs.fields.stay.Goals as goal

pub returns-clause-each : goal.returns-clause-each
returns-clause-each c =
    rw c.in_ok-made.ensures
    (stays_shown c.args.part.now c.known.ensures c.args._root c.args._field c.requires.bared c.requires.none)

pub returns-clause-whole : goal.returns-clause-whole
returns-clause-whole c = λ T. rw c.in_ok-made.ensures (stays_regrouped T c.args.part.now)
