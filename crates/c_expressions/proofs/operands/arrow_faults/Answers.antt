use Rattle.std.proofs.Common.{◌+◌, drop, sym, ap, ◌∙◌}
use Rattle.c_typing.specs.Meanings.{followed}
use Rattle.c_typing.specs.Sites.{Follows, arrow_sites}
use Rattle.c_expressions.specs.Meeting.{noted, met}
use Rattle.c_expressions.proofs.OperandLemmas.{arrows_step, arrows_end}
use Rattle.c_expressions.proofs.operands.arrow_faults.Goals as goal

pub loop-arrow-preserved : goal.loop-arrow-preserved
loop-arrow-preserved c =
    let g = c.args.tables.now in
    let i = c.loop-arrow.arrow-index in
    let arrows = c.args.arrows.now in
    ap (λ f. met g f (arrow_sites g c.in_ok-meaning.meaning (drop (i + 1) arrows))) c.follows.ensures
    ∙ ap
    (λ m. met g (noted g c.loop-arrow.found (Follows c.loop-arrow.meaning c.arrow-item.result))
    (arrow_sites g m (drop (i + 1) arrows)))
    (c.in_ok-meaning.ensures ∙ ap (followed g c.loop-arrow.meaning) c.as_slice.ensures)
    ∙ sym
    (arrows_step g c.loop-arrow.found c.loop-arrow.meaning arrows i c.arrow-item.result c.loop-arrow-test.true
    c.arrow-item.is)
    ∙ c.loop-arrow.invariant

pub returns : goal.returns
returns c =
    sym
    (arrows_end c.args.tables.now c.loop-arrow.found c.loop-arrow.meaning c.args.arrows.now c.loop-arrow.arrow-index
    c.loop-arrow-test.false) ∙ c.loop-arrow.invariant
