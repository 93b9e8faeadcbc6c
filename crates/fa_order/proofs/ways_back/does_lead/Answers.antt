use Rattle.std.proofs.Common.{◌≡◌, refl, true≢false, sym}
use Rattle.fore_base.proofs.ListLemmas.{every_in, in_at}
use Rattle.fa_order.specs.inner.Backs.{MarkLeads}
use Rattle.fa_order.proofs.OpenBacks.{whole_every}
use Rattle.fa_order.proofs.ways_back.does_lead.Goals as goal

pub returns-then-does_mark_lead : goal.returns-then-does_mark_lead
returns-then-does_mark_lead c = (
  (λ t. (
    c.mark-item.result,
    in_at c.args.marks.now c.loop-mark.mark-index c.mark-item.result c.loop-mark-test.true c.mark-item.is,
    c.if-mark-from.true,
    c.does_mark_lead.ensures.0 c.if-does_mark_lead.true,
  )),
  (λ l. refl),
)

pub returns : goal.returns
returns c = (
  (λ t. absurd (true≢false (sym t))),
  (λ l. absurd (every_in (λ m. m.root ≡ c.args.from → MarkLeads c.args.into c.args.root m → ⊥) c.args.marks.now l.0
      (whole_every c.args.marks.now c.loop-mark.mark-index _ c.loop-mark-test.false c.loop-mark.invariant) l.1 l.2
      l.3)),
)
