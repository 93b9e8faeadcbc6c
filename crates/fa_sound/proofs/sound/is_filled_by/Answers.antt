use Rattle.std.proofs.Common.{sym}
use Rattle.fore_base.proofs.ListLemmas.{paired_long}
use Rattle.fa_sound.specs.Signatures.{AreSignatures}
use Rattle.fa_sound.proofs.sound.is_filled_by.Goals as goal

pub given_each-requires : goal.given_each-requires
given_each-requires c =
    rw c.as_slice.ensures
    (sym (paired_long (AreSignatures c.args.face.now.boxes) c.args.forest.now.autos c.args.all.now c.requires.signed))
