-- The statements that parts of a block and a `for` are.
use Rattle.std.proofs.Common.{◌≡◌, ℕ, ◌+◌, ◌<◌, List, [], ◌∷◌, ◌++◌, Option, Result, IfOk, length, drop, get_or, refl}
use Rattle.std.proofs.Common.{sym, ap, subst, ◌∙◌}
use Rattle.std.proofs.lemmas.List.{at_drop_more}
use Rattle.fore_base.specs.declared.place.Place.{Place}
use Rattle.fore_base.proofs.ListLemmas.{drop_item}
use Rattle.c_ast.specs.declared.conditions.Cond.{Cond}
use Rattle.c_ast.specs.declared.simples.Simple.{Simple}
use Rattle.c_ast.specs.declared.statements.First.{First}
use Rattle.c_ast.specs.declared.statements.First.TheVariants as first
use Rattle.c_ast.specs.declared.statements.Part.{Part}
use Rattle.c_ast.specs.declared.statements.Stmt as tree
use Rattle.c_types.specs.declared.program.Stmt.{Stmt}
use Rattle.c_types.specs.declared.program.Stmt.TheVariants.{Group}
use Rattle.c_typing.specs.Globals.{Globals}
use Rattle.c_typing.specs.Programs.{for_stmts, part_stmts, parts_stmts, stmt_stmts, ptrs_of, datums_of}
use Rattle.c_typing.specs.Scopes.{Scope, Var, innermost, past_part}
use Rattle.c_making.specs.inner.Making.{group_first, for_made}

-- one item more was gone through
pub turn : {X Y : Type 0} (F : List X → Y) (xs : List X) (i : ℕ) (x : X) → i < length xs → x ≡ get_or xs i x
    → F (x ∷ drop (i + 1) xs) ≡ F (drop i xs)
turn {X} F xs i x h is = sym (at_drop_more F xs i x h ∙ ap (λ (y : X). F (y ∷ drop (i + 1) xs)) (sym is))

-- what was made is equal to what it has to be
pub made_as : {X E : Type 0} (r : Result X E) (a b : X) → b ≡ a → IfOk r (λ x. x ≡ a) → IfOk r (λ x. x ≡ b)
made_as {X} r a b is h = subst (λ (y : X). IfOk r (λ x. x ≡ y)) (sym is) h

pub stmts_step : (g : Globals) (parts : List Part) (i : ℕ) (p : Part) → i < length parts → p ≡ get_or parts i p
    → (scope : Scope) →
    parts_stmts g (drop i parts) scope ≡ part_stmts g p scope
    ++ parts_stmts g (drop (i + 1) parts) (past_part g p scope)
stmts_step g parts i p within is scope = ap (λ ps. parts_stmts g ps scope) (drop_item parts i p within is)

-- a group has the variables of the innermost block
pub same_group : (f : First) (body : List Stmt) (s t : Scope) (line : ℕ) → s.blocks ≡ t.blocks
    → group_first f body s line ≡ group_first f body t line
same_group (first.Declare d) body s t line same =
    ap (λ (bs : List (List Var)). Group body (ptrs_of (innermost bs)) (datums_of (innermost bs)) line ∷ []) same
same_group (first.Simple x) body s t line same = refl
same_group first.Nothing body s t line same = refl

pub for_as : (g : Globals) (f : First) (at : Place) (c : Option Cond) (next : Option Simple) (body : tree.Stmt)
    (scope : Scope) →
    for_stmts g f at c next (body, stmt_stmts g body) scope ≡ for_made g at.line f c next body scope
for_as g (first.Declare d) at c next body scope = refl
for_as g (first.Simple s) at c next body scope = refl
for_as g first.Nothing at c next body scope = refl
