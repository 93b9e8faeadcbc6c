-- The statements of a `for`, part by part.
use Rattle.std.specs.Prelude.{ℕ, List, [], ◌∷◌, ◌++◌, Option}
use Rattle.c_ast.specs.declared.conditions.Cond as tree
use Rattle.c_ast.specs.declared.simples.Simple.{Simple}
use Rattle.c_ast.specs.declared.statements.First.{First}
use Rattle.c_ast.specs.declared.statements.First.TheVariants as first
use Rattle.c_ast.specs.declared.statements.Stmt as stmts
use Rattle.c_types.specs.declared.program.Stmt.{Stmt}
use Rattle.c_types.specs.declared.program.Stmt.TheVariants.{For}
use Rattle.c_typing.specs.Globals.{Globals}
use Rattle.c_typing.specs.Programs.{declare_stmts, grouped, maybe_cond, maybe_simple, simple_stmts, stmt_stmts}
use Rattle.c_typing.specs.Scopes.{Scope, opened, closed, past_first, past_stmt}

-- what stands first in the head of a `for`
abbrev pub first_stmts : Globals → First → Scope → List Stmt
first_stmts g (first.Declare d) scope = declare_stmts g d scope
first_stmts g (first.Simple s) scope = simple_stmts g scope s
first_stmts g first.Nothing scope = []

-- a `for` that declares is a group
abbrev pub group_first : First → List Stmt → Scope → ℕ → List Stmt
group_first (first.Declare d) body scope line = grouped body scope line ∷ []
group_first (first.Simple s) body scope line = body
group_first first.Nothing body scope line = body

-- the loop
abbrev pub for_body : Globals → ℕ → Option tree.Cond → Option Simple → stmts.Stmt → Scope → Stmt
for_body g line c next body scope =
    For (maybe_cond g scope line c) (maybe_simple g scope next) (stmt_stmts g body scope)

-- the whole `for`, which is a block of its own
abbrev pub past_for : Globals → First → stmts.Stmt → Scope → Scope
past_for g f body scope = closed scope (past_stmt g body (past_first g f (opened scope)))

abbrev pub for_made : Globals → ℕ → First → Option tree.Cond → Option Simple → stmts.Stmt → Scope → List Stmt
for_made g line f c next body scope =
    group_first f (first_stmts g f (opened scope) ++ for_body g line c next body (past_first g f (opened scope)) ∷ [])
    (past_first g f (opened scope)) line
