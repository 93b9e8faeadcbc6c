use Rattle.std.proofs.Common.{ℕ}
use Rattle.fore_base.proofs.ListLemmas.{every_in, in_place}
use Rattle.fa_order.specs.Placing.{IsOpenAt}
use Rattle.fa_order.specs.inner.Backs.{LeadsBy}
use Rattle.fa_order.proofs.OpenBacks.{got, lowest_found, whole_every}
use Rattle.fa_order.proofs.ways_back.lowest_open.Goals as goal

pub returns-then-is_open_from : goal.returns-then-is_open_from
returns-then-is_open_from c =
    lowest_found (LeadsBy c.args.signatures.now) c.args.placed.now c.loop-root.root-index _
    (got c.args.placed.now c.loop-root.root-index c.loop-root-test.true)
    (in_place c.args.placed.now c.loop-root.root-index 0 c.loop-root-test.true)
    (c.is_open_from.ensures.0 c.if-is_open_from.true) c.loop-root.invariant

pub returns : goal.returns
returns c = λ i j h o.
    every_in (λ x. (j : ℕ) → IsOpenAt (LeadsBy c.args.signatures.now) c.args.placed.now x j → ⊥) c.args.placed.now i
    (whole_every c.args.placed.now c.loop-root.root-index _ c.loop-root-test.false c.loop-root.invariant) h j o
