use Rattle.std.proofs.Common.{◌≡◌, ◌++◌, map, drop}
use Rattle.c_typing.specs.Globals.{function_heads, functions_in, head_name}
use Rattle.c_typing.specs.Texts.{each_of, firsts}
use Rattle.c_callees.proofs.functions.Functions.besides_main.Given as goal

abbrev pub invariant-loop-item : goal.invariant-loop-item
invariant-loop-item l = (l.all.texts ≡ l.all.names)
    × (l.all.names ++ map head_name (firsts head_name l.all.names (each_of functions_in (drop l.item-index l.items)))
    ≡ map head_name (function_heads l.items))
