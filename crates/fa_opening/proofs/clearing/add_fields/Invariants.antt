use Rattle.std.proofs.Common.{take}
use Rattle.fa_opening.specs.inner.Clearing.{AreIn}
use Rattle.fa_opening.proofs.clearing.add_fields.Given as goal

abbrev pub invariant-loop-field : goal.invariant-loop-field
invariant-loop-field l = AreIn (take l.field-index l.more) l.made × AreIn l.initial.made l.made
