use Rattle.std.proofs.lemmas.List.{take_more}
use Rattle.fa_part.proofs.Adding.{adds_more}
use Rattle.fa_part.proofs.fields.add_each.Goals as goal

pub loop-field-preserved : goal.loop-field-preserved
loop-field-preserved c =
    rw (take_more c.args.more.now c.loop-field.field-index 0 c.loop-field-test.true)
    (adds_more c.loop-field.invariant c.in_ok-add.ensures)
