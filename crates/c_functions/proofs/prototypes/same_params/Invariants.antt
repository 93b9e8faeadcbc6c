use Rattle.std.proofs.Common.{◌≡◌, drop, map}
use Rattle.c_typing.specs.Functions.{same_kinds}
use Rattle.c_typing.specs.Globals.{param_kind, struct_names}
use Rattle.c_functions.proofs.prototypes.same_params.Given as goal

abbrev pub invariant-loop-place : goal.invariant-loop-place
invariant-loop-place l =
    same_kinds (drop l.place l.kinds) (map (param_kind (struct_names l.tables)) (drop l.place l.params))
    ≡ same_kinds l.kinds (map (param_kind (struct_names l.tables)) l.params)
