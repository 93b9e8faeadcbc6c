use Rattle.std.proofs.Common.{◌≡◌, ◌↔◌, ℕ, ◌<◌, length}
use Rattle.fore_base.specs.Marks.{IsMarked}
use Rattle.ta_sim.proofs.filling.fill_row.Given as goal

abbrev pub invariant-loop-right : goal.invariant-loop-right
invariant-loop-right g l = (length l.row ≡ l.size)
    × ((q : ℕ) → q < l.right → IsMarked l.row q ↔ g.P.Pairs.relates l.pairs l.left q)
