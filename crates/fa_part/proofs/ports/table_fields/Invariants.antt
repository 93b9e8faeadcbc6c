use Rattle.std.proofs.Common.{take}
use Rattle.fore_base.specs.Lists.{Paired}
use Rattle.fa_part.specs.Ports.{AreFieldsOf}
use Rattle.fa_part.proofs.ports.table_fields.Given as goal

abbrev pub invariant-loop-box_no : goal.invariant-loop-box_no
invariant-loop-box_no l = Paired (AreFieldsOf l.table.face.boxes) (take l.box_no l.table.defs) l.made
