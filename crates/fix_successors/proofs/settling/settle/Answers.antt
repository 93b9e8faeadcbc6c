use Rattle.fix_successors.proofs.Settled.{settled}
use Rattle.fix_successors.proofs.settling.settle.Goals as goal

pub abstracted_states-requires-clause-normal : goal.abstracted_states-requires-clause-normal
abstracted_states-requires-clause-normal g c = λ κs within.
    rw c.as_slice.ensures c.in_ok-groups.ensures.forms.normal

pub returns : goal.returns
returns g c =
    let t = c.args.task.now in
    settled t.table t.graph t.height c.args.middle.now c.in_ok-groups.folds c.in_ok-groups.groups c.in_ok-groups.ensures
    c.in_ok-states.states (rw c.as_slice.ensures at c.in_ok-states.ensures)
