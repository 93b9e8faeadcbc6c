use Rattle.std.proofs.Common.{◌++◌}
use Rattle.std.proofs.lemmas.Result.{IfOk-weaker}
use Rattle.ta_core.specs.inner.Closing.{Reached}
use Rattle.ta_core.specs.Language.{TakesPart}
use Rattle.fore_base.specs.Marks.{MarksOf}
use Rattle.ta_core.specs.inner.Arcs.{root_arcs, rule_arcs}
use Rattle.ta_core.proofs.Descending.{down_low, part_marks}
use Rattle.ta_core.proofs.trimming.used.Goals as goal

pub reached-requires : goal.reached-requires
reached-requires c =
    rw (
      c.as_slice-3.ensures,
      c.in_ok-append.ensures.ok,
      c.in_ok-arcs.ensures,
      c.in_ok-more.ensures,
      c.as_slice.ensures,
      c.as_slice-2.ensures,
    )
    (down_low _ c.args.inhabited.now c.auto.inside.roots c.auto.inside.rules c.auto.invariant.0 c.auto.invariant.1)

pub returns : goal.returns
returns c =
    let h =
    rw (
      c.as_slice-3.ensures,
      c.in_ok-append.ensures.ok,
      c.in_ok-arcs.ensures,
      c.in_ok-more.ensures,
      c.as_slice.ensures,
      c.as_slice-2.ensures,
    ) at c.reached.ensures in
    let m = rw (← c.auto.view_is) at c.requires in
    rw (← c.auto.view_is) (IfOk-weaker c.reached.result
    (MarksOf c.auto.inside.states
    (Reached (root_arcs c.args.inhabited.now c.auto.inside.roots
    ++ rule_arcs c.args.inhabited.now c.auto.inside.rules)))
    (MarksOf c.auto.inside.states
    (TakesPart
    (record { states = c.auto.inside.states; roots = c.auto.inside.roots; rules = c.auto.inside.rules })))
    (part_marks (record { states = c.auto.inside.states; roots = c.auto.inside.roots; rules = c.auto.inside.rules })
    c.args.inhabited.now m)
    h)
