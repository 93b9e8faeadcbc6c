use Rattle.std.proofs.Common.{◌≡◌, map, take}
use Rattle.fa_boxes.specs.inner.Seeing.{below_at}
use Rattle.fa_boxes.proofs.seeing.belows_at.Given as goal

abbrev pub invariant-loop-state : goal.invariant-loop-state
invariant-loop-state l = l.belows ≡ map (below_at l.most l.table) (take l.state-index l.states)
