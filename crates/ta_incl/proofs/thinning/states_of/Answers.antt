use Rattle.std.proofs.Common.{sym, ◌∙◌, true≢false}
use Rattle.ta_incl.proofs.Keeping.{set_push, set_skip}
use Rattle.ta_incl.proofs.thinning.states_of.Goals as goal
use Rattle.ta_incl.proofs.thinning.states_of.Goals.{then-is_marked+in_ok-push, else-is_marked}

pub loop-state-preserved : goal.loop-state-preserved
loop-state-preserved c = elim c.if-is_marked.branch [
  | then-is_marked+in_ok-push w ↦ rw (w.set-is, w.in_ok-push.ensures.ok)
      (set_push c.args.marks.now c.loop-state.state c.loop-state.set c.loop-state.invariant
      (sym c.is_marked.ensures ∙ w.if-is_marked.true))
  | else-is_marked w ↦ rw w.set-is
      (set_skip c.args.marks.now c.loop-state.state c.loop-state.set c.loop-state.invariant
      (λ m. true≢false (sym m ∙ sym c.is_marked.ensures ∙ w.if-is_marked.false)))
]
