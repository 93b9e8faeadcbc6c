use Rattle.std.proofs.Common.{◌≡◌, ◌∙◌, ◌+◌, take, ap}
use Rattle.fore_base.proofs.ListLemmas.{paired_push, take_item}
use Rattle.fix_successors.specs.Arriving.{IsCarriedOver, AreCarried, carried}
use Rattle.fix_successors.proofs.arrivals.carry_all.Goals as goal

pub loop-case-preserved : goal.loop-case-preserved
loop-case-preserved c =
    let x = c.case-item.result in
    let item : c.carried.result ≡ carried x = c.carried.ensures ∙ ap carried c.in_ok-forest.ensures in
    let all : AreCarried (take (c.loop-case.case-index + 1) c.args.cases.now) c.push.new.self =
    rw (
      take_item c.args.cases.now c.loop-case.case-index x c.loop-case-test.true c.case-item.is,
      c.in_ok-push.ensures.ok,
    )
    (paired_push IsCarriedOver (take c.loop-case.case-index c.args.cases.now) c.loop-case.states x c.carried.result
    c.loop-case.invariant (record { sound = c.known.ensures.sound; is = item })) in
    all
