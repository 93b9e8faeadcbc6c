use Rattle.fa_canon.proofs.Splits.{split_both}
use Rattle.fa_canon.proofs.steps.on_each.Goals as goal

pub loop-forest-preserved : goal.loop-forest-preserved
loop-forest-preserved g c =
    rw c.in_ok-append.ensures.ok
    (split_both (g.S.Step.relates c.args.step.now) c.loop-forest.yielded c.loop-forest.made c.in_ok-more.more
    c.in-Some.forest c.loop-forest.invariant c.in_ok-more.ensures)
