use Rattle.std.proofs.Common.{◌≡◌, ◌≤◌, true, drop, length}
use Rattle.sym_core.specs.Quiet.{is_quiet}
use Rattle.sym_step.specs.inner.Stepping.{IsSettlingBy, IsThat}
use Rattle.sym_step.proofs.posting.settle_each.Given as goal

abbrev pub invariant-loop-forest : goal.invariant-loop-forest
invariant-loop-forest g l =
    IsSettlingBy (IsThat l._table.defs) l._forest.face l._forest.forest l.edge
    (drop l.forest-index l.forest-items) l.next
    l.faulty
    × (is_quiet l.edge.instr ≡ true → length l.next ≤ l.forest-index)
