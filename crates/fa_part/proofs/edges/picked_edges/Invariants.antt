use Rattle.std.proofs.Common.{◌≡◌, ◌++◌, drop, filter}
use Rattle.fa_part.specs.inner.Edges.{is_picked}
use Rattle.fa_part.proofs.edges.picked_edges.Given as goal

abbrev pub invariant-loop-edge : goal.invariant-loop-edge
invariant-loop-edge l =
    l.made ++ filter (λ e. is_picked l.taken l.fields e.0) (drop l.edge-index l.edge-items)
    ≡ filter (λ e. is_picked l.taken l.fields e.0) l.edge-items
