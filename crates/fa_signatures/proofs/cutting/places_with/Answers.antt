use Rattle.std.proofs.Common.{ℕ, true≢false, refl, sym, ap, subst, ◌∙◌, arith}
use Rattle.std.proofs.lemmas.Option.{same_Some, slice_get_read}
use Rattle.fore_base.specs.Lists.{IsIn}
use Rattle.fa_signatures.specs.inner.CutPairs.{Pair, IsRootPair}
use Rattle.fa_signatures.proofs.PairRules.{places_push, places_skip, places_all, root_low, has_in, in_has}
use Rattle.fa_signatures.proofs.cutting.places_with.Goals as goal
use Rattle.fa_signatures.proofs.cutting.places_with.Goals.{then-has+then-are_same+in_ok-number+in_ok-push, else-has}
use Rattle.fa_signatures.proofs.cutting.places_with.Goals.{else-has-via-then-has+else-are_same, else-has-via-else-has}

pub loop-place-preserved : goal.loop-place-preserved
loop-place-preserved c =
    let x = c.index-pairs-place.result in
    let P = λ (k : ℕ). IsRootPair c.args.pairs.now c.args.roots.now c.args.marks.now k in
    let at = slice_get_read c.args.pairs.now _ c.loop-place.place x refl c.loop-place-test.true c.index-pairs-place.is
    in
    elim c.if-has.branch [
      | then-has+then-are_same+in_ok-number+in_ok-push w ↦ (
          let s = rw w.as_slice.ensures at w.are_same.ensures in
          let r = has_in x.0 c.args.roots.now (sym c.has.ensures ∙ w.if-has.true) in
          let n = places_push P c.loop-place.places c.loop-place.place
          (x.0, x.1, r, at, s.0 w.if-are_same.true)
          c.loop-place.invariant in
          rw (w.places-is, w.in_ok-push.ensures.ok, w.in_ok-number.ensures) n)
      | else-has w ↦ rw w.places-is (places_skip P c.loop-place.places c.loop-place.place (λ p.
          let same = same_Some x (p.0, p.1) (sym at ∙ p.3) in
          elim w.else-has.branch [
            | else-has-via-then-has+else-are_same v ↦ (
                let s = rw v.as_slice.ensures at v.are_same.ensures in
                true≢false (sym (s.1 (ap (λ (y : Pair). y.1.marks) same ∙ p.4)) ∙ v.if-are_same.false))
            | else-has-via-else-has v ↦ true≢false
                (sym
                (in_has x.0 c.args.roots.now
                (subst (λ (q : ℕ). IsIn q c.args.roots.now) (sym (ap (λ (y : Pair). y.0) same)) p.2))
                ∙ sym c.has.ensures ∙ v.if-has.false)
          ]) c.loop-place.invariant)
    ]

pub returns : goal.returns
returns c =
    let all = c.loop-place-test.false in
    places_all (λ (k : ℕ). IsRootPair c.args.pairs.now c.args.roots.now c.args.marks.now k) c.loop-place.places
    c.loop-place.place
    (λ k p. let l = root_low c.args.pairs.now c.args.roots.now c.args.marks.now k p in omega (arith, all, l))
    c.loop-place.invariant
