use Rattle.ta_core.proofs.Tops.{accepted}
use Rattle.ta_core.proofs.accepting.accepts.Goals as goal

pub returns : goal.returns
returns c =
    let m = rw c.as_slice.ensures at c.in_ok-states.ensures in
    let e = rw (c.as_slice-2.ensures, c.as_slice-3.ensures) at c.is_some_marked.ensures in
    rw (← c.auto.view_is) (accepted _ c.args.tree.now c.in_ok-states.states c.is_some_marked.result m e)
