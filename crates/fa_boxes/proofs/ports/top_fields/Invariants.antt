use Rattle.std.proofs.Common.{take}
use Rattle.fa_boxes.specs.inner.Parts.{AreTopFields}
use Rattle.fa_boxes.proofs.ports.top_fields.Given as goal

abbrev pub invariant-loop-rule : goal.invariant-loop-rule
invariant-loop-rule l = AreTopFields l.boxes l.table l.root l.roots l.rules (take l.rule-index l.rules) l.all
