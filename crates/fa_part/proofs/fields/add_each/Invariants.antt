use Rattle.std.proofs.Common.{take}
use Rattle.fa_part.specs.inner.Added.{Adds}
use Rattle.fa_part.proofs.fields.add_each.Given as goal

abbrev pub invariant-loop-field : goal.invariant-loop-field
invariant-loop-field l = Adds l.initial.fields (take l.field-index l.more) l.fields
