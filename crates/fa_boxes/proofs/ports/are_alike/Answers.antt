use Rattle.std.proofs.Common.{true≢false, sym, ◌∙◌}
use Rattle.fore_base.proofs.ListLemmas.{in_at}
use Rattle.fa_boxes.proofs.ports.are_alike.Goals as goal

pub returns-then-not-are_rearranged : goal.returns-then-not-are_rearranged
returns-then-not-are_rearranged c =
    let e = rw c.as_slice.ensures at c.are_rearranged.ensures in (
      c.other-item.result,
      in_at c.args.all.now c.loop-other.other-index c.other-item.result c.loop-other-test.true c.other-item.is,
      (λ h. true≢false (sym (e.1 h) ∙ c.if-not-are_rearranged.true)),
    )
