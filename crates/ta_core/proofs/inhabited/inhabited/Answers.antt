use Rattle.std.proofs.Common.{map}
use Rattle.std.proofs.lemmas.Result.{IfOk-weaker}
use Rattle.ta_core.specs.inner.Closing.{Reached}
use Rattle.ta_core.specs.Language.{HasTree}
use Rattle.fore_base.specs.Marks.{MarksOf}
use Rattle.ta_core.specs.inner.Arcs.{up_arc}
use Rattle.ta_core.proofs.Climbing.{up_low, inhabited_marks}
use Rattle.ta_core.proofs.inhabited.inhabited.Goals as goal

pub reached-requires : goal.reached-requires
reached-requires c = rw (c.as_slice-2.ensures, c.in_ok-arcs.ensures, c.as_slice.ensures)
    (up_low _ c.auto.inside.rules c.auto.invariant.1)

pub returns : goal.returns
returns c =
    let h = rw (c.as_slice-2.ensures, c.in_ok-arcs.ensures, c.as_slice.ensures) at c.reached.ensures in
    rw (← c.auto.view_is) (IfOk-weaker c.reached.result
    (MarksOf c.auto.inside.states (Reached (map up_arc c.auto.inside.rules)))
    (MarksOf c.auto.inside.states (HasTree c.auto.inside.rules))
    (λ marks m. inhabited_marks c.auto.inside.rules c.auto.inside.states marks m)
    h)
