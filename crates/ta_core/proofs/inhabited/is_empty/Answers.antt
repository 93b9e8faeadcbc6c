use Rattle.ta_core.proofs.Climbing.{barren, accepts_some}
use Rattle.ta_core.proofs.inhabited.is_empty.Goals as goal

pub returns-clause-empty : goal.returns-clause-empty
returns-clause-empty c =
    let e = rw (c.as_slice.ensures, c.as_slice-2.ensures) at c.is_some_marked.ensures in
    let m = rw (← c.auto.view_is) at c.in_ok-marks.ensures in
    rw (← c.auto.view_is) (barren _ c.in_ok-marks.marks c.is_some_marked.result m e)

pub returns-clause-tree : goal.returns-clause-tree
returns-clause-tree c =
    let e = rw (c.as_slice.ensures, c.as_slice-2.ensures) at c.is_some_marked.ensures in
    let m = rw (← c.auto.view_is) at c.in_ok-marks.ensures in
    rw (← c.auto.view_is) (accepts_some _ c.in_ok-marks.marks c.is_some_marked.result m e)
