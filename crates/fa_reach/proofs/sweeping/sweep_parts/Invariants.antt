use Rattle.std.proofs.Common.{◌≡◌, drop}
use Rattle.fa_reach.specs.inner.Sweeps.{sweep_parts}
use Rattle.fa_reach.proofs.sweeping.sweep_parts.Given as goal

abbrev pub invariant-loop-part : goal.invariant-loop-part
invariant-loop-part l = (l.place ≡ l.part-index)
    × (sweep_parts l.place (drop l.part-index l.parts) l.set ≡ sweep_parts 0 l.parts l.initial.set)
