use Rattle.std.proofs.Common.{[], refl, slice_get}
use Rattle.std.proofs.lemmas.List.{take_more}
use Rattle.fa_part.proofs.EdgeRefs.{edges_more}
use Rattle.fa_part.proofs.referring.states_refs.Goals as goal

pub loop-state-init : goal.loop-state-init
loop-state-init c = rw c.new-made.ensures ([], tt, refl)

pub loop-state-preserved : goal.loop-state-preserved
loop-state-preserved c =
    rw (take_more c.args.states.now c.loop-state.state-index 0 c.loop-state-test.true, c.in_ok-append.ensures.ok)
    (edges_more (slice_get c.args.forest.now.forest.autos c.args.root) _ _ _ _ c.loop-state.invariant
    c.in_ok-state_refs.ensures)
