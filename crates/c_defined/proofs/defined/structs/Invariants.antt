use Rattle.std.proofs.Common.{◌≡◌, ◌++◌, map, drop}
use Rattle.c_typing.specs.Globals.{defined_name, struct_definitions, struct_of, structs_in}
use Rattle.c_typing.specs.Texts.{each_of, firsts}
use Rattle.c_defined.proofs.defined.structs.Given as goal

abbrev pub invariant-loop-item : goal.invariant-loop-item
invariant-loop-item l = l.structs
    ++ map (struct_of l.names) (firsts defined_name l.seen (each_of structs_in (drop l.item-index l.items)))
    ≡ map (struct_of l.names) (struct_definitions l.items)
