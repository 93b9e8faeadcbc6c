use Rattle.std.proofs.Common.{◌≡◌, ◌++◌, map, drop}
use Rattle.c_typing.specs.Globals.{function_heads, function_name, function_of, functions_in, head_name}
use Rattle.c_typing.specs.Texts.{each_of, firsts}
use Rattle.c_tables.proofs.functions.Functions.of.Given as goal

abbrev pub invariant-loop-item : goal.invariant-loop-item
invariant-loop-item l = record {
  names : l.all.names ≡ map function_name l.all.functions;
  rest : l.all.functions
      ++ map (function_of l.structs)
      (firsts head_name l.all.names (each_of functions_in (drop l.item-index l.items)))
      ≡ map (function_of l.structs) (function_heads l.items);
}
