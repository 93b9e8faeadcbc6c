use Rattle.std.proofs.Common.{◌≡◌, ◌++◌, drop}
use Rattle.c_typing.specs.Globals.{members_in}
use Rattle.c_typing.specs.Texts.{each_of}
use Rattle.c_defined.proofs.defined.one_struct.Given as goal

abbrev pub invariant-loop-field : goal.invariant-loop-field
invariant-loop-field l = l.members ++ each_of (members_in l.names) (drop l.field-index l.fields)
    ≡ each_of (members_in l.names) l.fields
