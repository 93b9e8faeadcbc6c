use Rattle.std.proofs.Common.{◌≡◌, ◌+◌, length, subst, sym, arith}
use Rattle.fix_core.proofs.Lists.{at_item}
use Rattle.fix_engine.specs.inner.Rounds.{AreImagesOf}
use Rattle.fix_engine.specs.inner.Taking.{IsFront, IsTakenNode}
use Rattle.fix_engine.proofs.Growing.{grows_then}
use Rattle.fix_engine.proofs.Rounding.{images_later, round_ends}
use Rattle.fix_engine.proofs.TakenUp.{front_stage, images_at}
use Rattle.fix_engine.proofs.rounds.take_round.Goals as goal

pub take_node-requires-clause-stage : goal.take_node-requires-clause-stage
take_node-requires-clause-stage g c =
    let t = c.args.task.now in
    let l = c.loop-images in
    let x = c.images-item.result in
    let is = at_item c.args.round.now l.images-index x c.loop-images-test.true c.images-item.is in
    let first = subst (λ z. AreImagesOf t.table t.graph t.height c.args.nodes.now z x) (sym l.invariant.2)
    (c.requires.round.each l.images-index x is) in
    let are = images_later t.table t.graph t.height c.args.nodes.now l.nodes l.here x l.invariant.1 first in
    λ κs within. rw c.as_slice.ensures
    (front_stage t.table t.graph t.height l.nodes l.here t.budget are.node x l.invariant.0 are.is are.made)

pub take_node-requires-clause-rises : goal.take_node-requires-clause-rises
take_node-requires-clause-rises g c =
    let l = c.loop-images in
    let x = c.images-item.result in
    let is = at_item c.args.round.now l.images-index x c.loop-images-test.true c.images-item.is in
    λ κs within. rw c.as_slice.ensures (c.requires.round.each l.images-index x is).made.rises

pub take_node-requires-clause-images : goal.take_node-requires-clause-images
take_node-requires-clause-images g c =
    let t = c.args.task.now in
    let l = c.loop-images in
    let x = c.images-item.result in
    let is = at_item c.args.round.now l.images-index x c.loop-images-test.true c.images-item.is in
    let first = subst (λ z. AreImagesOf t.table t.graph t.height c.args.nodes.now z x) (sym l.invariant.2)
    (c.requires.round.each l.images-index x is) in
    let are = images_later t.table t.graph t.height c.args.nodes.now l.nodes l.here x l.invariant.1 first in
    λ κs within. rw c.as_slice.ensures
    (images_at t.table t.graph t.height l.nodes l.here are.node x are.is are.made)

pub returns-in_default : goal.returns-in_default
returns-in_default g c =
    let t = c.args.task.now in
    let l = c.loop-images in
    round_ends t.table t.graph t.height l.nodes c.take_node.new.nodes l.here (c.args.at + length c.args.round.now)
    t.budget c.in_ok-how.how c.in_default.not-All c.in_ok-how.ensures

pub overflow_add-here : goal.overflow_add-here
overflow_add-here g c = omega (arith, c.loop-images.invariant.2, c.loop-images-test.true, c.requires.fits)

pub loop-images-preserved : goal.loop-images-preserved
loop-images-preserved g c =
    let t = c.args.task.now in
    let l = c.loop-images in
    let taken = subst (IsTakenNode t.table t.graph t.height l.nodes l.here t.budget c.take_node.new.nodes)
    c.in-All.is c.in_ok-how.ensures in (
      taken.0,
      grows_then c.args.nodes.now l.nodes c.take_node.new.nodes l.invariant.1 taken.1,
      omega (arith, l.invariant.2),
    )

pub returns : goal.returns
returns g c =
    let t = c.args.task.now in
    let l = c.loop-images in
    let all : l.here ≡ c.args.at + length c.args.round.now = omega (arith, l.invariant.2, c.loop-images-test.false) in
    subst (λ z. IsFront t.table t.graph t.height l.nodes z t.budget) all l.invariant.0
