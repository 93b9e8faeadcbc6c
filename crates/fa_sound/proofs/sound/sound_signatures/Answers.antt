use Rattle.fa_sound.proofs.GivenTwice.{twice_unsound}
use Rattle.fa_sound.proofs.sound.sound_signatures.Goals as goal

pub returns-then-not-branch-2 : goal.returns-then-not-branch-2
returns-then-not-branch-2 c =
    let w = rw (c.as_slice-4.ensures, c.as_slice-5.ensures) at c.in_ok-give_once.ensures in
    let d = w c.if-not-branch-2.true in
    λ s. twice_unsound c.args.face.now c.args.forest.now d.0 d.1 d.2 s
