use Rattle.std.proofs.Common.{inl, inr, true≢false, sym, ◌∙◌}
use Rattle.fa_order.proofs.ways_back.does_mark_lead.Goals as goal
use Rattle.fa_order.proofs.ways_back.does_mark_lead.Goals.{
  else-root-into-via-then-root-into+else-mark,
  else-root-into-via-else-root-into,
}

pub returns : goal.returns
returns c = (
  (λ t. inr (rw c.as_slice.ensures at (c.is_in.ensures.0 t))),
  (λ l. elim l [
    | inr i ↦ c.is_in.ensures.1 (rw c.as_slice.ensures i)
    | inl b ↦ elim c.else-root-into.branch [
      | else-root-into-via-then-root-into+else-mark w ↦ absurd (true≢false (sym b.1 ∙ w.if-mark.false))
      | else-root-into-via-else-root-into w ↦ absurd (w.if-root-into.false b.0)
    ]
  ]),
)
