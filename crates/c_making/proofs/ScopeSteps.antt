-- Scopes after declarations and parts of a block, and what is left of them at the end of a block.
use Rattle.std.proofs.Common.{◌≡◌, ℕ, ◌+◌, ◌<◌, List, length, drop, get_or, refl, ap, ◌∙◌}
use Rattle.fore_base.proofs.ListLemmas.{drop_item}
use Rattle.c_ast.specs.declared.statements.Declare.{Declare}
use Rattle.c_ast.specs.declared.statements.First.{First}
use Rattle.c_ast.specs.declared.statements.First.TheVariants as first
use Rattle.c_ast.specs.declared.statements.Part.{Part}
use Rattle.c_typing.specs.Globals.{Globals}
use Rattle.c_typing.specs.Scopes.{Scope, closed, declarators_of, kind_of, outer, past_declare, past_first, past_part}
use Rattle.c_typing.specs.Scopes.{past_parts}
use Rattle.c_typing.proofs.OwnScopes.{outer-all_declared, outer-declared}
use Rattle.c_typing.proofs.ScopeLaws.{home-past_parts}
use Rattle.c_scopes.specs.InScope.{left}

pub outer-past_declare : (g : Globals) (d : Declare) (scope : Scope) → outer (past_declare g d scope).blocks
    ≡ outer scope.blocks
outer-past_declare g d scope = outer-all_declared (kind_of g d) (declarators_of d) scope

pub outer-past_first : (g : Globals) (f : First) (scope : Scope) → outer (past_first g f scope).blocks
    ≡ outer scope.blocks
outer-past_first g (first.Declare d) scope = outer-past_declare g d scope
outer-past_first g (first.Simple s) scope = refl
outer-past_first g first.Nothing scope = refl

-- the innermost block is closed, and the others are those from before
pub left_closed : (before within : Scope) → outer within.blocks ≡ before.blocks → within.home ≡ before.home
    → left within ≡ closed before within
left_closed before within same stays =
    ap (λ bs. record { home = within.home; blocks = bs; vars = within.vars; data_vars = within.data_vars }) same
    ∙ ap (λ h. record { home = h; blocks = before.blocks; vars = within.vars; data_vars = within.data_vars }) stays

-- one part of a block more
pub past_step : (g : Globals) (parts : List Part) (i : ℕ) (p : Part) → i < length parts → p ≡ get_or parts i p
    → (scope : Scope) → past_parts g (drop i parts) scope ≡ past_parts g (drop (i + 1) parts) (past_part g p scope)
past_step g parts i p within is scope = ap (λ ps. past_parts g ps scope) (drop_item parts i p within is)

pub ruleset scoping = (outer-declared, outer-past_declare, outer-past_first, home-past_parts)
