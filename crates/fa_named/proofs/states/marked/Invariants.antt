use Rattle.std.proofs.Common.{◌≡◌, false, drop, replicate}
use Rattle.fa_named.specs.Insides.{bound_from}
use Rattle.fa_named.specs.inner.Marked.{mark_all}
use Rattle.fa_named.proofs.states.marked.Given as goal

abbrev pub invariant-loop-state : goal.invariant-loop-state
invariant-loop-state l =
    mark_all (replicate (bound_from 0 l.states) false) l.states ≡ mark_all l.marks (drop l.state-index l.states)
