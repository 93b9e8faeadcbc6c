use Rattle.std.proofs.Common.{take}
use Rattle.fore_base.specs.Lists.{IsDistinct}
use Rattle.fa_signatures.specs.inner.CutPairs.{GrowsOr, AddsEach}
use Rattle.fa_signatures.proofs.pairing.add_rules.Given as goal

abbrev pub invariant-loop-choice : goal.invariant-loop-choice
invariant-loop-choice l = record {
  grows : GrowsOr l.initial.pairs l.pairs
      (AddsEach l.boxes l.told l.initial.pairs l.rule (take l.choice-index l.choices) l.initial.over l.over);
  apart : IsDistinct l.initial.pairs → IsDistinct l.pairs;
}
