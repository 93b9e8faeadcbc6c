use Rattle.std.proofs.Common.{◌≡◌, length, drop}
use Rattle.c_typing.specs.Texts.{Text}
use Rattle.c_typing.specs.Globals.{use_in}
use Rattle.c_defined.specs.inner.Directories.{look_up, or_else}
use Rattle.c_defined.proofs.structs.Uses.of.Given as goal

abbrev pub invariant-loop-field : goal.invariant-loop-field
invariant-loop-field l = record {
  even : length l.all.names ≡ length l.all.uses;
  found : (x : Text) → or_else (look_up x l.all.names l.all.uses)
      (use_in x l.all.ptrs l.all.datums (drop l.field-index l.fields)) ≡ use_in x 0 0 l.fields;
}
