use Rattle.std.proofs.Common.{true≢false, slice_index_or, sym, ◌∙◌}
use Rattle.fore_base.proofs.ListLemmas.{in_place}
use Rattle.fa_boxes.proofs.tops.are_among.Goals as goal

pub returns-then-not-is_one_of : goal.returns-then-not-is_one_of
returns-then-not-is_one_of c = (
  slice_index_or c.args.numbers.now c.loop-number.number-index 0,
  in_place c.args.numbers.now c.loop-number.number-index 0 c.loop-number-test.true,
  (λ i. true≢false (sym (c.is_one_of.ensures.1 i) ∙ c.if-not-is_one_of.true)),
)
