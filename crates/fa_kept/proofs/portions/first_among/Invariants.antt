use Rattle.std.proofs.Common.{◌≤◌, ◌-◌, length, take}
use Rattle.par_kit.specs.Phases.{NoneMeets}
use Rattle.fa_kept.specs.Memos.{Agrees}
use Rattle.fa_kept.specs.inner.Within.{CoversByNumbers}
use Rattle.fa_kept.proofs.portions.first_among.Given as goal

abbrev pub invariant-nodes : goal.invariant-nodes
invariant-nodes g l = Agrees l.memo l.pool × (l.at ≤ length l.nodes)
    × NoneMeets (λ node. CoversByNumbers l.pool node l.forest) (take l.at l.nodes)

abbrev pub decreases-nodes : goal.decreases-nodes
decreases-nodes g l = length l.nodes - l.at
