use Rattle.std.proofs.Common.{List, take}
use Rattle.ta_core.specs.declared.tree.Tree.{Tree}
use Rattle.fa_core.specs.Filled.{Choice}
use Rattle.fa_core.specs.Rearranged.{Rearranged}
use Rattle.fa_boxes.specs.inner.Parts.{parts_from}
use Rattle.fa_boxes.proofs.ports.all_fields.Given as goal

abbrev pub invariant-loop-place : goal.invariant-loop-place
invariant-loop-place l = (ts : List Tree) → Choice (take l.place l.autos) ts
    → Rearranged l.fields (parts_from l.boxes l.port 0 ts)
