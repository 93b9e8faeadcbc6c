use Rattle.std.proofs.Common.{take}
use Rattle.fa_giving.specs.inner.Shaped.{AreCellStructs}
use Rattle.fa_giving.proofs.shapes.structs_of.Given as goal

abbrev pub invariant-loop-rule : goal.invariant-loop-rule
invariant-loop-rule l = AreCellStructs (take l.rule-index l.rules) l.structs
