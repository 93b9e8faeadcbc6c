use Rattle.std.proofs.Common.{◌≡◌, ◌++◌, drop, map}
use Rattle.c_types.specs.declared.program.VarRef.TheVariants.{Ptr as PtrVar}
use Rattle.c_programs.proofs.declares.add_ptrs.Given as goal

abbrev pub invariant-loop-ptr : goal.invariant-loop-ptr
invariant-loop-ptr l = l.found ++ map (λ x. PtrVar x) (drop l.ptr-index l.ptrs)
    ≡ l.initial.found ++ map (λ x. PtrVar x) l.ptrs
