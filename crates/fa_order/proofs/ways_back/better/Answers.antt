use Rattle.std.proofs.Common.{true≢false, sym, ◌∙◌}
use Rattle.fa_order.proofs.OpenBacks.{closed_better, lesser_better, none_better}
use Rattle.fa_order.proofs.ways_back.better.Goals as goal

pub returns-then-not-is_open : goal.returns-then-not-is_open
returns-then-not-is_open c =
    closed_better c.args.marks.now c.args.placed.now c.args.from c.args.into c.args.best
    (λ o. true≢false (sym (c.is_open.ensures.1 o) ∙ c.if-not-is_open.true))

pub returns-in-Some : goal.returns-in-Some
returns-in-Some c =
    lesser_better c.args.marks.now c.args.placed.now c.args.from c.args.into c.in-Some.field c.args.best c.lesser.result
    c.in-Some.ensures (c.is_open.ensures.0 c.if-not-is_open.false) c.lesser.ensures

pub returns-in-None : goal.returns-in-None
returns-in-None c =
    none_better c.args.marks.now c.args.placed.now c.args.from c.args.into c.args.best c.in-None.ensures
