use Rattle.std.proofs.Common.{◌↔◌, ℕ, ◌<◌}
use Rattle.fore_base.specs.Lists.{IsIn}
use Rattle.fa_signatures.specs.inner.CutPairs.{IsRootPair}
use Rattle.fa_signatures.proofs.cutting.places_with.Given as goal

abbrev pub invariant-loop-place : goal.invariant-loop-place
invariant-loop-place l = (k : ℕ) → IsIn k l.places ↔ ((k < l.place) × IsRootPair l.pairs l.roots l.marks k)
