use Rattle.std.proofs.Common.{take, slice_get}
use Rattle.fa_part.specs.inner.Referring.{AreEdgeRefs}
use Rattle.fa_part.proofs.referring.states_refs.Given as goal

abbrev pub invariant-loop-state : goal.invariant-loop-state
invariant-loop-state l =
    AreEdgeRefs (slice_get l.forest.forest.autos l.root) (take l.state-index l.states) l.made
