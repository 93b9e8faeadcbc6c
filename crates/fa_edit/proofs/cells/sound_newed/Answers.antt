use Rattle.fa_edit.proofs.NewForests.{new_sound}
use Rattle.fa_edit.proofs.cells.sound_newed.Goals as goal

pub of-requires : goal.of-requires
of-requires c =
    rw (c.face-2.ensures, c.in_ok-made.ensures, c.as_slice-structs.ensures, c.face.ensures, c.forest.ensures)
    (new_sound c.args.forest.now.face c.args.forest.now.forest c.args.to c.args.shape c.known.ensures.sound
    c.known.ensures.ranked c.requires.shape)
