-- The program of the items, one item after the other.
use Rattle.std.specs.Prelude.{Bool, true, false, List, [], ◌∷◌, ◌++◌, Option, Some, None}
use Rattle.c_types.specs.declared.program.Func.{Func}
use Rattle.c_types.specs.declared.program.Stmt.{Stmt}

-- the first body counts
abbrev pub or_body : Option (List Stmt) → List Stmt → List Stmt
or_body None body = body
or_body (Some first) body = first

abbrev pub with_body : Option (List Stmt) → List Stmt → Option (List Stmt)
with_body None body = Some body
with_body (Some first) body = Some first

-- after a function more, which is `main`, or is not
abbrev pub with_func : Bool → List Func → Func → List Func
with_func true funcs func = funcs
with_func false funcs func = funcs ++ func ∷ []

abbrev pub with_main : Bool → Option (List Stmt) → Func → Option (List Stmt)
with_main true body func = with_body body func.body
with_main false body func = body
