use Rattle.std.proofs.Common.{[], ◌∷◌, refl, sym, ◌∙◌, arith}
use Rattle.std.proofs.lemmas.List.{length-append}
use Rattle.std.proofs.lemmas.Option.{slice_get_read}
use Rattle.std.proofs.lemmas.Result.{on_ok_weaker}
use Rattle.ta_incl.proofs.Covering.{widens_more}
use Rattle.ta_incl.proofs.Extending.{begun_more, covers_full, covers_old, covers_all, next_push, next_skip}
use Rattle.ta_incl.proofs.exploring.+extend.Goals as goal
use Rattle.ta_incl.proofs.exploring.+extend.Goals.{then-fits+in_ok-longer+in_ok-extend, else-fits}

pub returns-then-not-is_due-clause-covers : goal.returns-then-not-is_due-clause-covers
returns-then-not-is_due-clause-covers t c =
    let l = c.if-from-len.true in
    let e = c.len.ensures in
    covers_old c.args.found.now c.args.rule.now c.args.from.now c.args.right.now c.args.orders.now c.args.turn.now _
    (omega (arith, l, e)) (sym c.is_due.ensures ∙ c.if-not-is_due.true)

pub returns-then-from-len-clause-covers : goal.returns-then-from-len-clause-covers
returns-then-from-len-clause-covers t c =
    let l = c.if-from-len.true in
    let e = c.len.ensures in
    on_ok_weaker c.add.result
    (covers_full c.args.found.now c.args.rule.now c.args.from.now c.args.right.now c.args.orders.now c.args.turn.now _
    (omega (arith, l, e))) c.add.ensures.covers

pub extend-requires : goal.extend-requires
extend-requires t c =
    let at = slice_get_read c.args.found.now _ c.loop-next.next c.index-found-next.result refl c.loop-next-test.true
    c.index-found-next.is in
    let l = c.if-from-len.false in
    let e = c.len.ensures in
    let k = length-append c.args.from.now (c.loop-next.next ∷ []) in
    rw (c.as_slice.ensures, c.in_ok-longer.ensures) (
      omega (arith, l, e, k),
      (
        begun_more c.args.found.now c.args.rule.now c.args.from.now c.loop-next.next c.at-state.result.now
            c.index-found-next.result c.requires.begun at c.at-state.ensures (c.fits.ensures.fits c.if-fits.true).0,
        c.requires.upward,
      ),
    )

pub loop-next-preserved : goal.loop-next-preserved
loop-next-preserved t c =
    let at = slice_get_read c.args.found.now _ c.loop-next.next c.index-found-next.result refl c.loop-next-test.true
    c.index-found-next.is in
    elim c.if-fits.branch [
      | then-fits+in_ok-longer+in_ok-extend w ↦ (
          let g = rw (w.as_slice.ensures, w.in_ok-longer.ensures) at w.in_ok-extend.ensures.covers in
          rw w.added-is (record {
            widens = widens_more c.args.orders.now.left _ c.args.found.now c.args.added.now c.loop-next.added
                w.extend.new.added
                c.loop-next.invariant.widens w.in_ok-extend.ensures.widens;
            covers = next_push c.args.found.now c.args.rule.now c.args.from.now c.args.right.now c.args.orders.now
                c.args.turn.now _
                c.loop-next.added w.extend.new.added c.loop-next.next c.loop-next.invariant.covers
                w.in_ok-extend.ensures.widens g;
          }))
      | else-fits w ↦ rw w.added-is (
          let late = rw c.len-in-loop-next.ensures at (c.fits.ensures.late w.if-fits.false) in
          record {
            widens = c.loop-next.invariant.widens;
            covers = next_skip c.args.found.now c.args.rule.now c.args.from.now c.args.right.now c.args.orders.now
                c.args.turn.now _
                c.loop-next.next c.at-state.result.now c.index-found-next.result c.loop-next.invariant.covers
                c.at-state.ensures at late;
          })
    ]

pub returns-clause-covers : goal.returns-clause-covers
returns-clause-covers t c =
    let l = c.if-from-len.false in
    let e = c.len.ensures in
    let all = c.loop-next-test.false in
    covers_all c.args.found.now c.args.rule.now c.args.from.now c.args.right.now c.args.orders.now c.args.turn.now _
    (omega (arith, l, e)) (λ k rest items low. c.loop-next.invariant.covers k rest items (omega (arith, low, all)))
