use Rattle.std.proofs.Common.{◌↔◌, ℕ, ◌<◌}
use Rattle.fore_base.specs.Lists.{IsIn}
use Rattle.fa_signatures.specs.inner.CutPairs.{IsPairOf}
use Rattle.fa_signatures.proofs.pairing.places_of.Given as goal

abbrev pub invariant-loop-place : goal.invariant-loop-place
invariant-loop-place l = (k : ℕ) → IsIn k l.places ↔ ((k < l.place) × IsPairOf l.pairs k l.state)
