use Rattle.std.proofs.Common.{sym, ◌∙◌}
use Rattle.std.proofs.lemmas.Bool.{eqb-true}
use Rattle.fa_order.proofs.InOrder.{in_order}
use Rattle.fa_order.proofs.deciding.is_counted.Goals as goal

pub returns-then-numbers-count : goal.returns-then-numbers-count
returns-then-numbers-count c =
    let d = in_order c.args.numbers.now c.args.count in
    ((λ t. d.1 (c.if-numbers-count.true, sym c.do_rise.ensures ∙ t)), (λ e. c.do_rise.ensures ∙ (d.0 e).1))

pub returns-else-numbers-count : goal.returns-else-numbers-count
returns-else-numbers-count c =
    let d = in_order c.args.numbers.now c.args.count in
    ((λ t. absurd (c.if-numbers-count.false (eqb-true _ _ t))), (λ e. absurd (c.if-numbers-count.false (d.0 e).0)))
