use Rattle.std.proofs.Common.{length, sym, ap, subst, arith, length-append}
use Rattle.fore_base.specs.Marks.{MarksOf}
use Rattle.c_calls.specs.Calls.{Leads}
use Rattle.c_callees.proofs.LeadingLemmas.{leading_none, leading_more}
use Rattle.c_callees.proofs.calling.all_leading.Goals as goal

pub loop-to-init : goal.loop-to-init
loop-to-init c = record {
  leading = rw c.new-leading.ensures (leading_none c.args.graph.now);
  count = ap length c.new-leading.ensures;
}

pub loop-to-preserved : goal.loop-to-preserved
loop-to-preserved c =
    let calls = c.args.graph.now in
    let marks = c.in_ok-marks.marks in
    let of = subst (λ n. MarksOf (length calls) (λ f. Leads calls f n) marks) (sym c.loop-to.invariant.count)
    c.in_ok-marks.ensures in
    record {
      leading = rw c.in_ok-push.ensures.ok (leading_more calls c.loop-to.leading marks c.loop-to.invariant.leading of);
      count = rw c.in_ok-push.ensures.ok (simp length-append (omega (arith, c.loop-to.invariant.count)));
    }
