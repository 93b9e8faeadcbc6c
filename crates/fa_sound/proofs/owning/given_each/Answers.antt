use Rattle.fa_sound.proofs.Given.{owns_give}
use Rattle.fa_sound.proofs.owning.given_each.Goals as goal

pub returns : goal.returns
returns c = λ bs k h l.
    owns_give bs c.args.autos.now c.args.all.now c.in_ok-given.given
    (rw (c.as_slice.ensures, c.in_ok-owns.ensures) at c.in_ok-given.ensures) k h l
