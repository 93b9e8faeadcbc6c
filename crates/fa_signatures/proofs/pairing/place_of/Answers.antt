use Rattle.std.proofs.Common.{inl, inr, true≢false, sym, ap, ◌∙◌}
use Rattle.fore_base.proofs.ListLemmas.{in_push, take_item}
use Rattle.fa_signatures.specs.inner.CutPairs.{Pair}
use Rattle.fa_signatures.proofs.pairing.place_of.Goals as goal
use Rattle.fa_signatures.proofs.pairing.place_of.Goals.{else-pair-state-via-then-pair-state+else-is_same}
use Rattle.fa_signatures.proofs.pairing.place_of.Goals.{else-pair-state-via-else-pair-state}

pub loop-place-preserved : goal.loop-place-preserved
loop-place-preserved c =
    let x = c.index-pairs-place.result in
    let t = take_item c.args.pairs.now c.loop-place.place x c.loop-place-test.true c.index-pairs-place.is in
    rw t (λ i. elim (in_push x (c.args.state, c.args.below.now) _ i) [
      | inl j ↦ c.loop-place.invariant j
      | inr e ↦ (elim c.else-pair-state.branch [
        | else-pair-state-via-then-pair-state+else-is_same w ↦ true≢false
            (sym (w.is_same.ensures.1 (sym (ap (λ (p : Pair). p.1) e))) ∙ w.if-is_same.false)
        | else-pair-state-via-else-pair-state w ↦ w.if-pair-state.false (sym (ap (λ (p : Pair). p.0) e))
      ])
    ])
