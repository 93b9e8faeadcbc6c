use Rattle.std.proofs.Common.{take}
use Rattle.fore_base.specs.Lists.{Every}
use Rattle.fa_sound.specs.Unions.{forests}
use Rattle.fa_opening.specs.Opened.{IsAnyField, OpensInto}
use Rattle.fa_opening.specs.inner.Clearing.{IsCleared}
use Rattle.fa_opening.proofs.clearing.open_fields.Given as goal

abbrev pub invariant-loop-field : goal.invariant-loop-field
invariant-loop-field l =
    Every (IsCleared l.table l.root l._forest.forest (take l.field-index l.fields)) l.made
    × OpensInto l.table.face.boxes l.table.defs l.root IsAnyField l._forest.forest (forests l.made)
