use Rattle.std.proofs.Common.{take}
use Rattle.fore_base.specs.Lists.{IsDistinct}
use Rattle.fa_signatures.specs.inner.CutPairs.{GrowsOr, ArePairRules}
use Rattle.fa_signatures.proofs.pairing.rules_over.Given as goal

abbrev pub invariant-loop-rule : goal.invariant-loop-rule
invariant-loop-rule l = record {
  grows : GrowsOr l.initial.pairs l.pairs
      (ArePairRules l.boxes l.told l.initial.pairs (take l.rule-index l.rules) l.over);
  apart : IsDistinct l.initial.pairs → IsDistinct l.pairs;
}
