use Rattle.std.proofs.lemmas.List.{take_more}
use Rattle.fore_base.proofs.ListLemmas.{paired_push}
use Rattle.fa_order.specs.inner.Showing.{IsShownEnd}
use Rattle.fa_order.proofs.showing.shown_ends.Goals as goal

pub loop-state-preserved : goal.loop-state-preserved
loop-state-preserved c =
    rw (take_more c.args.states.now c.loop-state.state-index 0 c.loop-state-test.true, c.in_ok-push.ensures.ok)
    (paired_push (IsShownEnd c.args.forest.now.face.boxes c.args.auto.now.rules) _ _ _ _ c.loop-state.invariant
    c.in_ok-end.ensures)
