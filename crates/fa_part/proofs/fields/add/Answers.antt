use Rattle.std.proofs.Common.{◌∙◌, sym, true≢false}
use Rattle.fa_back.proofs.RootMarks.{has_in, in_has}
use Rattle.fa_part.proofs.Adding.{adds_old, adds_new}
use Rattle.fa_part.proofs.fields.add.Goals as goal

pub returns-in_ok-push : goal.returns-in_ok-push
returns-in_ok-push c =
    let h = rw c.as_slice.ensures at c.has.ensures in
    rw c.in_ok-push.ensures.ok (adds_new c.args.fields.now c.args.field
    (λ i. true≢false (sym (in_has c.args.field c.args.fields.now i) ∙ sym h ∙ c.if-not-has.true)))

pub returns-else-not-has : goal.returns-else-not-has
returns-else-not-has c =
    let h = rw c.as_slice.ensures at c.has.ensures in
    adds_old c.args.fields.now c.args.field (has_in c.args.field c.args.fields.now (sym h ∙ c.if-not-has.false))
