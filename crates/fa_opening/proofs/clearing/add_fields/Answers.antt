use Rattle.std.proofs.Common.{ℕ, List, sym, ◌∙◌, subst, take, slice_index_or, arith}
use Rattle.std.proofs.lemmas.List.{take_all, take_more}
use Rattle.fa_opening.specs.inner.Clearing.{AreIn}
use Rattle.fa_opening.proofs.ClearedCells.{in_added, in_kept, in_self, in_there}
use Rattle.fa_opening.proofs.clearing.add_fields.Goals as goal
use Rattle.fa_opening.proofs.clearing.add_fields.Goals.{then-not-has+in_ok-push, else-not-has}
use Rattle.fa_back.proofs.RootMarks.{has_in}

pub loop-field-init : goal.loop-field-init
loop-field-init c = (tt, in_self c.args.fields)

pub loop-field-preserved : goal.loop-field-preserved
loop-field-preserved c =
    let all = c.args.more.now in
    let i = c.loop-field.field-index in
    let f = slice_index_or all i 0 in
    let done = take i all in
    let e = take_more all i 0 c.loop-field-test.true in
    let h = rw c.as_slice.ensures at c.has.ensures in
    let k = c.loop-field.invariant in
    rw e (elim c.if-not-has.branch [
      | then-not-has+in_ok-push w ↦ rw (w.made-is, w.in_ok-push.ensures.ok)
          (in_added done _ f k.0, in_kept _ _ f k.1)
      | else-not-has w ↦ rw w.made-is
          (in_there done _ f k.0 (has_in f _ (sym h ∙ w.if-not-has.false)), k.1)
    ])

pub returns-clause-added : goal.returns-clause-added
returns-clause-added c =
    let past = c.loop-field-test.false in
    subst (λ (xs : List ℕ). AreIn xs c.loop-field.made)
    (take_all c.loop-field.field-index c.args.more.now (omega (arith, past))) c.loop-field.invariant.0
