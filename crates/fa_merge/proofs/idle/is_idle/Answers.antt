use Rattle.fa_merge.proofs.IdleRoots.{idle_decided}
use Rattle.fa_merge.proofs.idle.is_idle.Goals as goal

pub returns : goal.returns
returns c =
    let s = c.args.forest.now in
    let d = idle_decided s.face s.forest c.args.root c.known.ensures.sound c.requires c.in_ok-own.own
    c.in_ok-own.ensures c.in_ok-all.all c.in_ok-all.ensures in
    let h = rw (c.as_slice.ensures, c.as_slice-2.ensures) at c.are_silent.ensures in
    ((λ t. d.0 (h.0 t)), (λ i. h.1 (d.1 i)))
