use Rattle.std.proofs.Common.{◌≡◌, ◌++◌, [], drop}
use Rattle.c_typing.specs.Globals.{itself}
use Rattle.c_typing.specs.Texts.{each_of, firsts}
use Rattle.c_defined.specs.inner.Definitions.{names_in}
use Rattle.c_defined.proofs.defined.all_names.Given as goal

abbrev pub invariant-loop-item : goal.invariant-loop-item
invariant-loop-item l = l.names ++ firsts itself l.names (each_of names_in (drop l.item-index l.items))
    ≡ firsts itself [] (each_of names_in l.items)
