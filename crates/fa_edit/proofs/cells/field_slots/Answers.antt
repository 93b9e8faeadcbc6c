use Rattle.std.proofs.Common.{◌∙◌, arith}
use Rattle.fa_edit.proofs.NewTrees.{slots_more}
use Rattle.fa_edit.proofs.cells.field_slots.Goals as goal

pub loop-place-preserved : goal.loop-place-preserved
loop-place-preserved c =
    let l = c.loop-place-test.true in (
      omega (arith, l),
      rw (c.in_ok-push.ensures.ok, c.in_ok-number_of.ensures)
          (slots_more c.loop-place.place c.args.count c.loop-place.slots l ∙ c.loop-place.invariant.1),
    )
