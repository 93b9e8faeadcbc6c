use Rattle.std.proofs.Common.{ℕ, take, get_or}
use Rattle.std.proofs.lemmas.List.{take_more}
use Rattle.fore_base.specs.Lists.{IsIn}
use Rattle.fore_base.proofs.ListLemmas.{every_push, every_weaker}
use Rattle.fa_giving.proofs.roots.each_once.Goals as goal

pub loop-number-preserved : goal.loop-number-preserved
loop-number-preserved c =
    let i = c.loop-number.number-index in
    let ns = c.args.numbers.now in
    let h = c.in_ok-add.ensures in
    rw (take_more ns i 0 c.loop-number-test.true)
    (every_push (λ (m : ℕ). IsIn m c.add.new.once) (take i ns) (get_or ns i 0)
    (every_weaker (λ (m : ℕ). IsIn m c.loop-number.once) (λ (m : ℕ). IsIn m c.add.new.once) (take i ns)
    (λ m k. h.kept m k) c.loop-number.invariant) h.there)
