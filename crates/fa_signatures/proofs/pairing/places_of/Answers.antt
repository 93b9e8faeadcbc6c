use Rattle.std.proofs.Common.{ℕ, Some, refl, sym, ap, ◌∙◌, arith}
use Rattle.std.proofs.lemmas.Option.{same_Some, slice_get_read, slice_get_within}
use Rattle.fa_signatures.specs.inner.CutPairs.{Pair, IsPairOf}
use Rattle.fa_signatures.proofs.PairRules.{places_push, places_skip, places_all}
use Rattle.fa_signatures.proofs.pairing.places_of.Goals as goal
use Rattle.fa_signatures.proofs.pairing.places_of.Goals.{then-pair-state+in_ok-number+in_ok-push, else-pair-state}

pub loop-place-preserved : goal.loop-place-preserved
loop-place-preserved c =
    let x = c.index-pairs-place.result in
    let P = λ (k : ℕ). IsPairOf c.args.pairs.now k c.args.state in
    let at = slice_get_read c.args.pairs.now _ c.loop-place.place x refl c.loop-place-test.true c.index-pairs-place.is
    in
    elim c.if-pair-state.branch [
      | then-pair-state+in_ok-number+in_ok-push w ↦ (
          let e = w.if-pair-state.true in
          let n = places_push P c.loop-place.places c.loop-place.place (x.1, at ∙ ap (λ (q : ℕ). Some (q, x.1)) e)
          c.loop-place.invariant in
          rw (w.places-is, w.in_ok-push.ensures.ok, w.in_ok-number.ensures) n)
      | else-pair-state w ↦ rw w.places-is (places_skip P c.loop-place.places c.loop-place.place
          (λ p. w.if-pair-state.false (ap (λ (y : Pair). y.0) (same_Some x (c.args.state, p.0) (sym at ∙ p.1))))
          c.loop-place.invariant)
    ]

pub returns : goal.returns
returns c =
    let all = c.loop-place-test.false in
    places_all (λ (k : ℕ). IsPairOf c.args.pairs.now k c.args.state) c.loop-place.places c.loop-place.place
    (λ k p. let l = slice_get_within c.args.pairs.now k (c.args.state, p.0) p.1 in omega (arith, all, l))
    c.loop-place.invariant
