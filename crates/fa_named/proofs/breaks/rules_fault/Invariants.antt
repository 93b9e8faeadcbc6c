use Rattle.std.proofs.Common.{◌≡◌, ◌&&◌, false, drop}
use Rattle.std.specs.Prelude.{slice_index_or}
use Rattle.fa_named.specs.Breaks.{rules_faults}
use Rattle.fa_named.specs.Named.{first_of}
use Rattle.fa_named.proofs.breaks.rules_fault.Given as goal

abbrev pub invariant-loop-rule : goal.invariant-loop-rule
invariant-loop-rule l =
    first_of (rules_faults l.known l.boxes (λ q. l.port && slice_index_or l.roots q false)
    (λ q. slice_index_or l.below q false) l.rules)
    ≡ first_of (rules_faults l.known l.boxes (λ q. l.port && slice_index_or l.roots q false)
    (λ q. slice_index_or l.below q false) (drop l.rule-index l.rules))
