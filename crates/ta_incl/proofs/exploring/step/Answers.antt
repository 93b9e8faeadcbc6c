use Rattle.std.proofs.Common.{[], refl}
use Rattle.std.proofs.lemmas.Option.{slice_get_read}
use Rattle.fore_base.proofs.ListLemmas.{take_item}
use Rattle.ta_incl.proofs.Covering.{widens_more, widens_weaker}
use Rattle.ta_incl.proofs.Deriving.{covers_push, covers_skip, derived_by}
use Rattle.ta_incl.proofs.exploring.step.Goals as goal
use Rattle.ta_incl.proofs.exploring.step.Goals.{then-may_serve+in_ok-extend, else-may_serve}

pub loop-place-preserved : goal.loop-place-preserved
loop-place-preserved c =
    let e = take_item c.args.rules.now c.loop-place.place c.index-rules-place.result c.loop-place-test.true
    c.index-rules-place.is in
    let at = slice_get_read c.args.rules.now _ c.loop-place.place c.index-rules-place.result refl c.loop-place-test.true
    c.index-rules-place.is in
    elim c.if-may_serve.branch [
      | then-may_serve+in_ok-extend w ↦ (
          let m = w.in_ok-extend.ensures.widens in
          rw w.added-is (record {
            widens = widens_more c.args.orders.now.left _ c.args.found.now [] c.loop-place.added w.extend.new.added
                c.loop-place.invariant.widens
                (widens_weaker c.args.orders.now.left _ _ c.args.found.now c.loop-place.added w.extend.new.added
                (λ f h. (
                  derived_by c.args.rules.now c.args.right.now c.args.found.now c.loop-place.place
                      c.index-rules-place.result f at h.0,
                  h.1,
                )) m);
            covers =
                rw e
                (covers_push c.args.right.now c.args.orders.now c.args.turn.now _ c.args.found.now c.loop-place.added
                w.extend.new.added _ c.index-rules-place.result c.loop-place.invariant.covers m
                w.in_ok-extend.ensures.covers);
          }))
      | else-may_serve w ↦ rw w.added-is (record {
        widens = c.loop-place.invariant.widens;
        covers =
            rw e
            (covers_skip c.args.right.now c.args.orders.now c.args.turn.now c.args.found.now _ _
            c.index-rules-place.result c.loop-place.invariant.covers (c.may_serve.ensures w.if-may_serve.false));
      })
    ]
