use Rattle.std.proofs.Common.{true≢false, sym, ◌∙◌}
use Rattle.fore_base.proofs.ListLemmas.{distinct_push}
use Rattle.ta_reduce.proofs.Once.{same_still, same_push}
use Rattle.ta_reduce.proofs.rooting.add_once.Goals as goal

pub returns-then-is_one_of-clause-same : goal.returns-then-is_one_of-clause-same
returns-then-is_one_of-clause-same c =
    same_still c.args.made.now c.args.state (rw c.as_slice.ensures at (c.is_one_of.ensures.0 c.if-is_one_of.true))

pub returns-clause-once : goal.returns-clause-once
returns-clause-once c = rw c.in_ok-push.ensures.ok
    (distinct_push c.args.made.now c.args.state c.requires
    (λ i. true≢false (sym (c.is_one_of.ensures.1 (rw c.as_slice.ensures i)) ∙ c.if-is_one_of.false)))

pub returns-clause-same : goal.returns-clause-same
returns-clause-same c = rw c.in_ok-push.ensures.ok (same_push c.args.made.now c.args.state)
