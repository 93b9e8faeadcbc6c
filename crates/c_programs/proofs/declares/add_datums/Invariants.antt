use Rattle.std.proofs.Common.{◌≡◌, ◌++◌, drop, map}
use Rattle.c_types.specs.declared.program.VarRef.TheVariants.{Data as DatumVar}
use Rattle.c_programs.proofs.declares.add_datums.Given as goal

abbrev pub invariant-loop-datum : goal.invariant-loop-datum
invariant-loop-datum l = l.found ++ map (λ x. DatumVar x) (drop l.datum-index l.datums)
    ≡ l.initial.found ++ map (λ x. DatumVar x) l.datums
