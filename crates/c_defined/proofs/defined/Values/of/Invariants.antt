use Rattle.std.proofs.Common.{◌≡◌, ◌++◌, map, drop}
use Rattle.c_typing.specs.Globals.{value_name, values_in, values_of}
use Rattle.c_typing.specs.Texts.{each_of, firsts}
use Rattle.c_defined.proofs.defined.Values.of.Given as goal

abbrev pub invariant-loop-item : goal.invariant-loop-item
invariant-loop-item l = record {
  names : l.all.names ≡ map value_name l.all.values;
  rest : l.all.values ++ firsts value_name l.all.names (each_of values_in (drop l.item-index l.items))
      ≡ values_of l.items;
}
