use Rattle.std.proofs.Common.{◌≡◌, ℕ, refl, true≢false, sym}
use Rattle.fore_base.specs.Lists.{IsIn}
use Rattle.fore_base.proofs.ListLemmas.{every_in, in_at}
use Rattle.fa_order.specs.inner.Backs.{MarkLeads}
use Rattle.fa_order.proofs.OpenBacks.{whole_every}
use Rattle.fa_order.proofs.ways_back.is_open.Goals as goal

pub returns-then-is_open_mark : goal.returns-then-is_open_mark
returns-then-is_open_mark c = (
  (λ t. let o = c.is_open_mark.ensures.0 c.if-is_open_mark.true in (
    o.0,
    o.1,
    (
      c.mark-item.result,
      in_at c.args.marks.now c.loop-mark.mark-index c.mark-item.result c.loop-mark-test.true c.mark-item.is,
      c.if-mark-from.true,
      o.2,
    ),
  )),
  (λ l. refl),
)

pub returns : goal.returns
returns c = (
  (λ t. absurd (true≢false (sym t))),
  (λ l. absurd (every_in
      (λ m. m.root ≡ c.args.from → (r : ℕ) → (IsIn r c.args.placed.now → ⊥) → MarkLeads c.args.into r m → ⊥)
      c.args.marks.now l.2.0
      (whole_every c.args.marks.now c.loop-mark.mark-index _ c.loop-mark-test.false c.loop-mark.invariant)
      l.2.1 l.2.2 l.0 l.1 l.2.3)),
)
