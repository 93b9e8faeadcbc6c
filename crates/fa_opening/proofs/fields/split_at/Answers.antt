use Rattle.fa_opening.proofs.SplitFields.{field_can, split_shown}
use Rattle.fa_opening.proofs.fields.split_at.Goals as goal

pub split_child-requires-clause-can : goal.split_child-requires-clause-can
split_child-requires-clause-can c =
    field_can c.args.root c.args._field c.args.place c.args.part.now c.known.ensures c.requires.bared c.requires.place

pub split_child-requires-clause-gives : goal.split_child-requires-clause-gives
split_child-requires-clause-gives c = c.requires.bared.gives

pub returns-clause-each : goal.returns-clause-each
returns-clause-each c =
    let m = c.in_ok-made.ensures in
    split_shown c.args.part.now c.known.ensures c.args.root c.args._field c.args.place c.requires.bared
    c.requires.place c.in_ok-made.made m.face m.vars m.plain m.dressed m.regroups
