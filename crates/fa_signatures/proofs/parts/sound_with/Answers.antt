use Rattle.fa_signatures.proofs.CutLaws.{pieces_sound}
use Rattle.fa_signatures.proofs.parts.sound_with.Goals as goal

pub of-requires : goal.of-requires
of-requires c = rw c.in_ok-made.ensures
    (pieces_sound c.args.face.now c.args.forest.now c.args.autos.now c.requires.pieces c.requires.filled)
