use Rattle.std.proofs.Common.{true≢false, refl, sym, subst, take, List}
use Rattle.std.proofs.lemmas.List.{take_all}
use Rattle.fore_base.specs.Lists.{Every}
use Rattle.fore_base.proofs.ListLemmas.{in_at, take_item, every_push, every_in}
use Rattle.ta_core.specs.Auto.{Automaton}
use Rattle.fa_core.specs.Filled.{HasSome}
use Rattle.fa_boxes.proofs.empty.is_some_empty.Goals as goal

pub returns-then-branch-clause-empty : goal.returns-then-branch-clause-empty
returns-then-branch-clause-empty c = (
  (λ _. (
    c.auto-item.result,
    in_at c.args.autos.now c.loop-auto.auto-index c.auto-item.result c.loop-auto-test.true c.auto-item.is,
    c.in_ok-is_empty.ensures.empty.0 c.if-branch.true,
  )),
  (λ _. refl),
)

pub loop-auto-preserved : goal.loop-auto-preserved
loop-auto-preserved c =
    let e = take_item c.args.autos.now c.loop-auto.auto-index c.auto-item.result c.loop-auto-test.true c.auto-item.is in
    rw e
    (every_push HasSome (take c.loop-auto.auto-index c.args.autos.now) c.auto-item.result c.loop-auto.invariant
    (c.in_ok-is_empty.ensures.tree c.if-branch.false))

pub returns-clause-empty : goal.returns-clause-empty
returns-clause-empty c =
    let full : Every HasSome c.args.autos.now =
    subst (λ (l : List Automaton). Every HasSome l)
    (take_all c.loop-auto.auto-index c.args.autos.now c.loop-auto-test.false) c.loop-auto.invariant in (
      (λ z. absurd (true≢false (sym z))),
      (λ w. absurd (let k = every_in HasSome c.args.autos.now w.0 full w.1 in w.2 k.0 k.1)),
    )
