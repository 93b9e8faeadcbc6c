use Rattle.fa_learn.proofs.Copies.{next_first, next_inside, next_new, next_sound, next_word}
use Rattle.fa_learn.proofs.table.add_next.Goals as goal

pub add-requires-clause-word : goal.add-requires-clause-word
add-requires-clause-word c =
    next_word c.args.table.now c.known.ensures c.args.box_no c.args.made.now c.requires.first c.box_def.result.now
    c.box_def.ensures

pub add-requires-clause-new : goal.add-requires-clause-new
add-requires-clause-new c =
    next_new c.args.table.now c.known.ensures c.args.box_no c.args.made.now c.requires.first c.box_def.result.now
    c.box_def.ensures

pub add-requires-clause-inside : goal.add-requires-clause-inside
add-requires-clause-inside c =
    next_inside c.args.table.now c.known.ensures c.args.box_no c.args.made.now c.requires.first c.box_def.result.now
    c.box_def.ensures

pub add-requires-clause-sound : goal.add-requires-clause-sound
add-requires-clause-sound c =
    next_sound c.args.table.now c.known.ensures c.args.box_no c.args.made.now c.requires.first c.box_def.result.now
    c.box_def.ensures

pub returns : goal.returns
returns c =
    next_first c.args.table.now c.known.ensures c.args.box_no c.args.made.now c.requires.first c.box_def.result.now
    c.box_def.ensures c.add.new.self c.in_ok-add.ensures.defs c.in_ok-add.ensures.faces c.add.ensures.shapes
