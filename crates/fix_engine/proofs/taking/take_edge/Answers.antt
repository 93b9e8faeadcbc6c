use Rattle.std.proofs.Common.{refl, sym, subst}
use Rattle.fix_successors.specs.Images.{IsImage, IsTrueFault}
use Rattle.fix_engine.proofs.TakenUp.{edge_fault, edge_due, edge_ended}
use Rattle.fix_engine.proofs.taking.take_edge.Goals as goal

pub returns-in_ok-copy-in-Fault : goal.returns-in_ok-copy-in-Fault
returns-in_ok-copy-in-Fault g c =
    let t = c.args.task.now in
    let x = c.args.next.now in
    let m = c.requires.image in
    let f = subst (IsImage t.table t.graph t.height m.node.state.forest m.made.edge) c.in-Fault.is m.made.image in
    let copied = subst (IsTrueFault t.table t.graph m.node.state.forest m.made.edge)
    (sym c.in_ok-copy-in-Fault.ensures.same) f in (
      edge_fault t.table t.graph t.height c.args.nodes.now c.args.at x c.in_ok-copy-in-Fault.copy c.requires.mid m
          copied,
      refl,
    )

pub take_states-requires-clause-due : goal.take_states-requires-clause-due
take_states-requires-clause-due g c =
    let t = c.args.task.now in
    let m = c.requires.image in
    let f = subst (IsImage t.table t.graph t.height m.node.state.forest m.made.edge) c.in-States.is m.made.image in
    λ κs within. rw c.as_slice.ensures
    (edge_due t.table t.graph t.height c.args.nodes.now c.args.at c.args.next.now c.in-States.states m f)

pub returns-in_ok-room-in-States : goal.returns-in_ok-room-in-States
returns-in_ok-room-in-States g c =
    let t = c.args.task.now in
    let m = c.requires.image in
    let f = subst (IsImage t.table t.graph t.height m.node.state.forest m.made.edge) c.in-States.is m.made.image in
    rw c.all_or_full.ensures
    (edge_ended t.table t.graph t.height c.args.nodes.now c.take_states.new.nodes c.args.at t.budget c.args.next.now
    c.in-States.states c.in_ok-room-in-States.room m f (rw (sym c.as_slice.ensures) c.in_ok-room-in-States.ensures))
