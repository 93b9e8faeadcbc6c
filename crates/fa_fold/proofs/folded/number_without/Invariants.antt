use Rattle.std.proofs.Common.{◌≡◌, ◌-◌, drop, filter, length, nat_lt}
use Rattle.fa_core.specs.Folding.{number_without}
use Rattle.fa_fold.proofs.folded.number_without.Given as goal

abbrev pub invariant-loop-other : goal.invariant-loop-other
invariant-loop-other l =
    l.number - length (filter (λ k. nat_lt k l.root) (drop l.other-index l.inner)) ≡ number_without l.inner l.root
