-- The program of the items, one item after the other.
use Rattle.std.proofs.Common.{◌≡◌, Bool, true, false, cond, List, [], ◌∷◌, ◌++◌, Option, Some, None, Result, Ok, OnOk}
use Rattle.std.proofs.Common.{refl, append_assoc, subst}
use Rattle.c_types.specs.declared.program.Func.{Func}
use Rattle.c_types.specs.declared.program.Stmt.{Stmt}
use Rattle.c_programs.specs.inner.Making.{or_body, with_func, with_main}

pub func_step : (main : Bool) (funcs : List Func) (func : Func) (rest : List Func) → with_func main funcs func ++ rest
    ≡ funcs ++ (cond main [] (func ∷ []) ++ rest)
func_step true funcs func rest = refl
func_step false funcs func rest = append_assoc funcs (func ∷ []) rest

pub main_step : (main : Bool) (body : Option (List Stmt)) (func : Func) (rest : List Stmt)
    → or_body (with_main main body func) rest ≡ or_body body (cond main func.body rest)
main_step true None func rest = refl
main_step true (Some first) func rest = refl
main_step false None func rest = refl
main_step false (Some first) func rest = refl

-- what holds of a result that has a value
pub on_ok_at : {X E P : Type 0} (r : Result X E) (x : X) → r ≡ Ok x → OnOk r P → P
on_ok_at {X} {E} {P} r x is h = subst (λ (q : Result X E). OnOk q P) is h
