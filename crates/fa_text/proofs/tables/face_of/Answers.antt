use Rattle.fa_text.proofs.Growing.{next_named}
use Rattle.fa_text.proofs.tables.face_of.Goals as goal

pub box_face-requires-clause-named : goal.box_face-requires-clause-named
box_face-requires-clause-named c = next_named c.args.table.now c.args.named.now c.known.ensures.faces c.requires.next

pub returns-in-Ok-clause-sound : goal.returns-in-Ok-clause-sound
returns-in-Ok-clause-sound c = c.in-Ok.ensures.sound c.args.named.now.name
