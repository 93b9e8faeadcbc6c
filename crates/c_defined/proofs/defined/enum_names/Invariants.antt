use Rattle.std.proofs.Common.{◌≡◌, ◌++◌, drop}
use Rattle.c_typing.specs.Globals.{enums_in, enums_of, itself}
use Rattle.c_typing.specs.Texts.{each_of, firsts}
use Rattle.c_defined.proofs.defined.enum_names.Given as goal

abbrev pub invariant-loop-item : goal.invariant-loop-item
invariant-loop-item l = l.names ++ firsts itself l.names (each_of enums_in (drop l.item-index l.items))
    ≡ enums_of l.items
