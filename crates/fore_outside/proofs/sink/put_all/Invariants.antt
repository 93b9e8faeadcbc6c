use Rattle.std.proofs.Common.{◌≡◌, [], length, ◌-◌, ◌≤◌, take}
use Rattle.fore_outside.specs.Outside.{Grew}
use Rattle.fore_outside.proofs.sink.put_all.Given as goal

abbrev pub invariant-turns : goal.invariant-turns
invariant-turns g l = (l.done ≤ length l.bytes) × (g.K.Sink.faults l.sink ≡ g.K.Sink.faults l.initial.sink)
    × Grew (g.K.Sink.held l.initial.sink) (g.K.Sink.held l.sink) (take l.done l.bytes)
    × (l.bytes ≡ [] → l.sink ≡ l.initial.sink)

abbrev pub decreases-turns : goal.decreases-turns
decreases-turns g l = length l.bytes - l.done
