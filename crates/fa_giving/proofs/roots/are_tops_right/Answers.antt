use Rattle.std.proofs.Common.{subst, take, true, Bool}
use Rattle.std.proofs.lemmas.List.{take_all}
use Rattle.ta_core.specs.declared.auto.Rule.{Rule}
use Rattle.fore_base.specs.Lists.{Every}
use Rattle.fore_base.proofs.ListLemmas.{take_item, every_push, in_at}
use Rattle.fa_giving.specs.inner.Totals.{ForTop, IsGivenRight}
use Rattle.fa_giving.proofs.RootFields.{tops_right}
use Rattle.fa_giving.proofs.roots.are_tops_right.Goals as goal

pub is_top_right-requires-clause-rule : goal.is_top_right-requires-clause-rule
is_top_right-requires-clause-rule c = (c.requires.tops.only c.top-item.result
    (in_at c.args.tops.now c.loop-top.top-index c.top-item.result c.loop-top-test.true c.top-item.is)).0

pub is_top_right-requires-clause-top : goal.is_top_right-requires-clause-top
is_top_right-requires-clause-top c = (c.requires.tops.only c.top-item.result
    (in_at c.args.tops.now c.loop-top.top-index c.top-item.result c.loop-top-test.true c.top-item.is)).1

pub loop-top-preserved : goal.loop-top-preserved
loop-top-preserved c =
    let R : Rule → Bool → Type 0 = λ o b. ForTop c.args.autos.now c.args.place.root c.args.auto.now o
    (IsGivenRight c.args.face.now c.args.place.port c.args.place.root c.args.place.field) b in
    let e = take_item c.args.tops.now c.loop-top.top-index c.top-item.result c.loop-top-test.true c.top-item.is in
    rw e (every_push (λ (o : Rule). R o true) (take c.loop-top.top-index c.args.tops.now) c.top-item.result
    c.loop-top.invariant (subst (R c.top-item.result) c.if-not-branch.false c.in_ok-is_top_right.ensures))

pub returns : goal.returns
returns c =
    let R : Rule → Type 0 = λ o. ForTop c.args.autos.now c.args.place.root c.args.auto.now o
    (IsGivenRight c.args.face.now c.args.place.port c.args.place.root c.args.place.field) true in
    tops_right c.args.face.now c.args.place.port c.args.place.root c.args.place.field c.args.autos.now c.args.auto.now
    c.known.ensures c.requires.own c.args.tops.now c.requires.tops
    (subst (Every R) (take_all c.loop-top.top-index c.args.tops.now c.loop-top-test.false) c.loop-top.invariant)
