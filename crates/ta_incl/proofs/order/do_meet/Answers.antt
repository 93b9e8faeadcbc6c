use Rattle.std.proofs.Common.{true≢false, sym, arith}
use Rattle.fore_base.proofs.MarkLemmas.{marked_below}
use Rattle.ta_incl.proofs.order.do_meet.Goals as goal

pub returns : goal.returns
returns c = (
  λ y. absurd (true≢false (sym y)),
  λ h.
      let l = marked_below c.args.marks.now h.0 h.1 in
      let e = c.loop-place-test.false in
      absurd (c.loop-place.invariant h.0 (omega (arith, l, e)) h.1 h.2),
)
