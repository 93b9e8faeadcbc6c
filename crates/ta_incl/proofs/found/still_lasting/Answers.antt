use Rattle.std.proofs.Common.{Bool, List, ◌++◌, drop, length, ap, subst, arith}
use Rattle.ta_incl.specs.declared.found.Found.{Found}
use Rattle.ta_incl.specs.inner.Founds.{AreLasting}
use Rattle.ta_incl.proofs.Lasting.{lasting_at, still_step}
use Rattle.ta_incl.proofs.found.still_lasting.Goals as goal

pub pairs-preserved : goal.pairs-preserved
pairs-preserved c =
    let e = c.in-Some.ensures.cases.0 in
    let n = c.pairs.invariant.long in
    let k = ap length e in
    let was = subst (λ (rest : List Found). AreLasting c.args.order.now rest (drop c.pairs.place c.args.live.now)) e
    c.pairs.invariant.was in
    let more =
    subst (λ (rest : List Found). (more : List Bool) → AreLasting c.args.order.now (rest ++ c.args.added.now) more
    → AreLasting c.args.order.now (c.args.found.now ++ c.args.added.now) (c.pairs.marks ++ more)) e
    c.pairs.invariant.more in
    rw c.in_ok-push.ensures.ok (record {
      long = omega (arith, n, k);
      was = (lasting_at c.args.order.now c.in-Some.pair.now c.in-Some.later.now c.pairs.place c.args.live.now was).1;
      more = still_step c.args.order.now c.in-Some.pair.now c.in-Some.later.now c.args.added.now c.pairs.place
          c.args.live.now c.pairs.marks c.still_lasts-lasts.result (c.args.found.now ++ c.args.added.now) was
          c.still_lasts-lasts.ensures.yes c.still_lasts-lasts.ensures.no more;
    })
