use Rattle.std.proofs.Common.{List, subst}
use Rattle.ta_core.specs.declared.auto.Rule.{Rule}
use Rattle.fa_giving.specs.inner.Shaped.{AreCellStructs}
use Rattle.fa_giving.proofs.StructParts.{top_structs}
use Rattle.fa_giving.proofs.shapes.tops_of.Goals as goal

pub returns : goal.returns
returns c = top_structs c.args.auto.now c.in_ok-rules.rules c.in_ok-structs.structs c.in_ok-rules.ensures
    (subst (λ (os : List Rule). AreCellStructs os c.in_ok-structs.structs) c.as_slice.ensures c.in_ok-structs.ensures)
