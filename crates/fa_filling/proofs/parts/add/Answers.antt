use Rattle.std.proofs.Common.{true≢false, sym, ◌∙◌}
use Rattle.fa_filling.proofs.Partition.{added}
use Rattle.fa_filling.proofs.parts.add.Goals as goal

pub returns-in_ok-push : goal.returns-in_ok-push
returns-in_ok-push c =
    let e = rw c.as_slice.ensures at c.is_one_of.ensures in
    rw c.in_ok-push.ensures.ok
    (added c.args.number c.args.numbers.now c.requires (λ i. true≢false (sym (e.1 i) ∙ c.if-not-is_one_of.true)))
