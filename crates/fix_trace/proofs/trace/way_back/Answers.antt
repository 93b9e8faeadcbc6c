use Rattle.std.proofs.Common.{◌<◌, subst, Some, None, arith}
use Rattle.fix_trace.specs.Tracing.{LeadsBack}
use Rattle.fix_core.proofs.Lists.{at_within}
use Rattle.fix_trace.proofs.Tracing.{back_push, back_ends, parent_earlier, head_has}
use Rattle.fix_trace.proofs.trace.way_back.Goals as goal

pub up-smaller : goal.up-smaller
up-smaller c =
    let w = at_within c.args.nodes.now c.up.here c.up.invariant.1 in
    parent_earlier c.args.nodes.now c.up.here c.in-Some.parent w.0 c.requires.ways w.1
    (head_has c.head.result.now w.0 (λ h. h.parent) (Some c.in-Some.parent) (c.head.ensures w.0 w.1) c.in-Some.is)

pub up-preserved : goal.up-preserved
up-preserved c =
    let w = at_within c.args.nodes.now c.up.here c.up.invariant.1 in
    let par = head_has c.head.result.now w.0 (λ h. h.parent) (Some c.in-Some.parent) (c.head.ensures w.0 w.1)
    c.in-Some.is in
    let back : LeadsBack c.args.nodes.now c.push.new.self c.in-Some.parent c.args.at =
    rw c.in_ok-push.ensures.ok
    (back_push c.args.nodes.now c.up.back c.up.here c.args.at c.in-Some.parent w.0 c.up.invariant.0 w.1 par) in
    let earlier : c.in-Some.parent < c.up.here =
    parent_earlier c.args.nodes.now c.up.here c.in-Some.parent w.0 c.requires.ways w.1 par in
    (back, omega (arith, earlier, c.up.invariant.1))

pub returns : goal.returns
returns c =
    let w = at_within c.args.nodes.now c.up.here c.up.invariant.1 in
    let none = head_has c.head.result.now w.0 (λ h. h.parent) None (c.head.ensures w.0 w.1) c.in_default.is in
    subst (λ z. LeadsBack c.args.nodes.now c.up.back z c.args.at)
    (back_ends c.args.nodes.now c.up.here w.0 c.requires.ways w.1 none) c.up.invariant.0
