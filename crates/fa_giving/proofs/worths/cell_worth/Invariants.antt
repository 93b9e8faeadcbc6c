use Rattle.std.proofs.Common.{◌≡◌, ◌≤◌, drop, length, false}
use Rattle.fa_core.specs.Cells.{edges}
use Rattle.fa_giving.specs.inner.Worths.{with_edges, leaf_worth}
use Rattle.fa_giving.proofs.worths.cell_worth.Given as goal

abbrev pub invariant-loop-slot : goal.invariant-loop-slot
invariant-loop-slot l = (l.place ≤ length l.children)
    × (with_edges l.boxes l.field l.table l.worth (edges (drop l.slot-index l.slots) (drop l.place l.children))
    ≡ with_edges l.boxes l.field l.table (leaf_worth false) (edges l.slots l.children))
