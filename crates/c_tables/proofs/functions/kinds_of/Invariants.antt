use Rattle.std.proofs.Common.{◌≡◌, map, take}
use Rattle.c_typing.specs.Globals.{param_kind}
use Rattle.c_tables.proofs.functions.kinds_of.Given as goal

abbrev pub invariant-loop-param : goal.invariant-loop-param
invariant-loop-param l = l.kinds ≡ map (param_kind l.structs) (take l.param-index l.params)
