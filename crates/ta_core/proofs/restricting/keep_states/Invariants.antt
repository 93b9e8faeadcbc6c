use Rattle.std.proofs.Common.{◌≡◌, ◌++◌, drop, slice_index}
use Rattle.ta_core.specs.inner.Restricted.{kept_states}
use Rattle.ta_core.proofs.restricting.keep_states.Given as goal

abbrev pub invariant-loop-state : goal.invariant-loop-state
invariant-loop-state l = l.kept ++ kept_states l.marks (λ q. slice_index l.numbers q) (drop l.state-index l.states)
    ≡ kept_states l.marks (λ q. slice_index l.numbers q) l.states
