use Rattle.std.proofs.Common.{refl, true≢false, sym, ◌∙◌}
use Rattle.fa_order.proofs.OpenBacks.{at_open, get_item, none_further, none_open_left}
use Rattle.fa_order.proofs.ways_back.is_open_from.Goals as goal

pub returns-then-is_open : goal.returns-then-is_open
returns-then-is_open c =
    let at = get_item c.args.signatures.now c.loop-place.place c.index-signatures-place.result c.loop-place-test.true
    c.index-signatures-place.is in (
      (λ t. (
        c.loop-place.place,
        at_open c.args.signatures.now c.loop-place.place c.index-signatures-place.result at c.args.placed.now
            c.args.from (rw c.as_slice.ensures at (c.is_open.ensures.0 c.if-is_open.true)),
      )),
      (λ o. refl),
    )

pub loop-place-preserved : goal.loop-place-preserved
loop-place-preserved c =
    let at = get_item c.args.signatures.now c.loop-place.place c.index-signatures-place.result c.loop-place-test.true
    c.index-signatures-place.is in
    none_further c.args.signatures.now c.args.placed.now c.args.from c.loop-place.place c.index-signatures-place.result
    at (λ o. true≢false (sym (c.is_open.ensures.1 (rw c.as_slice.ensures o)) ∙ c.if-is_open.false))
    c.loop-place.invariant

pub returns : goal.returns
returns c = (
  (λ t. absurd (true≢false (sym t))),
  (λ o. absurd (none_open_left c.args.signatures.now c.args.placed.now c.args.from c.loop-place.place
      c.loop-place-test.false c.loop-place.invariant o.0 o.1)),
)
