use Rattle.std.proofs.Common.{inl, refl, true≢false, sym, ◌∙◌}
use Rattle.fa_order.proofs.OpenBacks.{none_or_some}
use Rattle.fa_order.proofs.ways_back.is_open_mark.Goals as goal
use Rattle.fa_order.proofs.ways_back.is_open_mark.Goals.{
  else-mark-via-then-mark+else-not-is_in,
  else-mark-via-else-mark,
}

pub returns-then-not-is_in : goal.returns-then-not-is_in
returns-then-not-is_in c = (
  (λ t. (
    c.args.into,
    (λ i. true≢false (sym (c.is_in.ensures.1 i) ∙ c.if-not-is_in.true)),
    inl (refl, c.if-mark.true),
  )),
  (λ o. refl),
)

pub returns : goal.returns
returns c = none_or_some c.args.mark.now c.args.placed.now c.args.into c.are_placed.result
    (rw c.as_slice.ensures at c.are_placed.ensures)
    (λ b. elim c.else-mark.branch [
      | else-mark-via-then-mark+else-not-is_in w ↦ w.is_in.ensures.0 w.if-not-is_in.false
      | else-mark-via-else-mark w ↦ absurd (true≢false (sym b ∙ w.if-mark.false))
    ])
