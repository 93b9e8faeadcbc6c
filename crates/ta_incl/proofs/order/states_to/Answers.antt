use Rattle.std.proofs.Common.{ℕ}
use Rattle.fore_base.specs.Marks.{IsMarked}
use Rattle.fore_base.proofs.MarkLemmas.{marks_push}
use Rattle.ta_sim.specs.Relations.{Relates}
use Rattle.ta_incl.proofs.order.states_to.Goals as goal

pub loop-state-preserved : goal.loop-state-preserved
loop-state-preserved c =
    rw c.in_ok-push.ensures.ok
    (marks_push (λ (m : ℕ). ((k : ℕ) × IsMarked c.args.marks.now k × Relates c.args.rows.now m k)) c.loop-state.under
    c.loop-state.state c.is_to.result c.loop-state.invariant c.is_to.ensures.0 c.is_to.ensures.1)
