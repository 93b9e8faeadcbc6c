-- What is found in a scope, the number that comes next, and what is in scope once a block is closed or a function
-- begins.
use Rattle.std.specs.Prelude.{ℕ, List, [], ◌∷◌, Option, Some, None, length}
use Rattle.c_types.specs.declared.program.VarDef.{VarDef}
use Rattle.c_typing.specs.Scopes.{Scope, Var, outer}
use Rattle.c_typing.specs.declared.meaning.Kind.{Kind}
use Rattle.c_typing.specs.declared.meaning.Kind.TheVariants.{Points, Datum}
use Rattle.c_scopes.specs.declared.scopes.Found.{Found}

-- what is found of a variable
abbrev pub found_as : Option Var → Option Found
found_as None = None
found_as (Some v) = Some (record { kind = v.kind; number = v.number })

-- the number of the next variable of a kind: how many of that kind there were
abbrev pub next_number : Kind → List VarDef → List (List ℕ) → ℕ
next_number (Points to) vars data_vars = length vars
next_number Datum vars data_vars = length data_vars

-- In the function of this number, or in none; no block is open. What was declared stays declared.
abbrev pub moved : Option ℕ → Scope → Scope
moved home scope = record { home = home; blocks = []; vars = scope.vars; data_vars = scope.data_vars }

-- the innermost block is closed; what was declared in it stays declared
abbrev pub left : Scope → Scope
left scope = record scope { blocks = outer scope.blocks }
