use Rattle.std.proofs.lemmas.List.{take_more}
use Rattle.fore_base.proofs.ListLemmas.{paired_push}
use Rattle.fa_signatures.specs.inner.CutPairs.{ArePlacesOf}
use Rattle.fa_signatures.proofs.pairing.options.Goals as goal

pub loop-state-preserved : goal.loop-state-preserved
loop-state-preserved c =
    let e = take_more c.args.states.now c.loop-state.state-index 0 c.loop-state-test.true in
    rw (c.in_ok-push.ensures.ok, e)
    (paired_push (ArePlacesOf c.args.pairs.now) c.loop-state.options _ c.in_ok-places.places _
    c.loop-state.invariant c.in_ok-places.ensures)
