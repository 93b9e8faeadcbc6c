use Rattle.fa_unfold.proofs.growing.grown.Goals as goal

pub alone-requires : goal.alone-requires
alone-requires c = rw (c.in_ok-both.ensures.value, c.in_ok-below.ensures, c.in_ok-top.ensures) c.requires
