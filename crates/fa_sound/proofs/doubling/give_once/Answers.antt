use Rattle.fore_base.proofs.ListLemmas.{in_at}
use Rattle.fa_sound.proofs.doubling.give_once.Goals as goal

pub returns-then-not-branch : goal.returns-then-not-branch
returns-then-not-branch c =
    let i = in_at c.args.autos.now c.loop-auto.auto-index c.auto-item.result c.loop-auto-test.true c.auto-item.is in
    let w = c.in_ok-gives_once.ensures c.if-not-branch.true in
    λ e. (c.auto-item.result, i, w)
