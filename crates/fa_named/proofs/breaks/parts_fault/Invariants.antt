use Rattle.std.proofs.Common.{◌≡◌, drop}
use Rattle.fa_named.specs.Breaks.{parts_faults}
use Rattle.fa_named.specs.Named.{first_of}
use Rattle.fa_named.proofs.breaks.parts_fault.Given as goal

abbrev pub invariant-loop-i : goal.invariant-loop-i
invariant-loop-i l =
    first_of (parts_faults l.known l.boxes l.ports 0 l.parts)
    ≡ first_of (parts_faults l.known l.boxes l.ports l.i (drop l.i l.parts))
