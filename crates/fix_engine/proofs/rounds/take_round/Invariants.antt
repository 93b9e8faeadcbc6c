use Rattle.std.proofs.Common.{◌≡◌, ◌+◌}
use Rattle.fix_engine.specs.inner.Taking.{IsFront, Grows}
use Rattle.fix_engine.proofs.rounds.take_round.Given as goal

abbrev pub invariant-loop-images : goal.invariant-loop-images
invariant-loop-images g l =
    IsFront l.task.table l.task.graph l.task.height l.nodes l.here l.task.budget × Grows l.initial.nodes l.nodes
    × (l.here ≡ l.at + l.images-index)
