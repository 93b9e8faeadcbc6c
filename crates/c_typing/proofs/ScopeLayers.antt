-- What is in scope after each kind of part, statement and block.
use Rattle.std.proofs.Common.{◌≡◌, List, Option, Some, None, sym, ap, ◌∙◌}
use Rattle.fore_base.specs.declared.place.Place.{Place}
use Rattle.c_ast.specs.declared.conditions.Cond.{Cond}
use Rattle.c_ast.specs.declared.operands.Operand.{Operand}
use Rattle.c_ast.specs.declared.simples.Simple.{Simple}
use Rattle.c_ast.specs.declared.statements.Block.{Block, roll-Block, fold-roll-Block}
use Rattle.c_ast.specs.declared.statements.Declare.{Declare}
use Rattle.c_ast.specs.declared.statements.First.{First}
use Rattle.c_ast.specs.declared.statements.Part as part
use Rattle.c_ast.specs.declared.statements.Part.TheOpen as layer
use Rattle.c_ast.specs.declared.statements.Part.TheVariants as part'
use Rattle.c_ast.specs.declared.statements.Stmt.{Stmt, Stmt-F, roll-Stmt, map-Stmt, fold-roll-Stmt}
use Rattle.c_ast.specs.declared.statements.Stmt.TheVariants as stmt
use Rattle.c_typing.specs.Globals.{Globals}
use Rattle.c_typing.specs.Scopes.{Scope, opened, closed, past_declare, past_first, past_part_step, past_stmt_step}
use Rattle.c_typing.specs.Scopes.{past_block_step, past_part, past_stmt, past_block, past_parts, past_other}

module _ (g : Globals) where
  pub past-Declare : (d : Declare) (scope : Scope) → past_part g (part'.Declare d) scope ≡ past_declare g d scope
  past-Declare d scope = ap (λ p. past_part g p scope) (sym (part'.rolls-Declare d))
      ∙ ap (λ f. f scope)
      (part.fold-roll-Part (Scope → Scope) (Scope → Scope) (Scope → Scope) (past_part_step g) (past_stmt_step g)
      (past_block_step g) (layer.Declare d))

  pub past-Stmt : (s : Stmt) (scope : Scope) → past_part g (part'.Stmt s) scope ≡ past_stmt g s scope
  past-Stmt s scope = ap (λ p. past_part g p scope) (sym (part'.rolls-Stmt s))
      ∙ ap (λ f. f scope)
      (part.fold-roll-Part (Scope → Scope) (Scope → Scope) (Scope → Scope) (past_part_step g) (past_stmt_step g)
      (past_block_step g) (layer.Stmt s))

  pub past-parts : (at close : Place) (parts : List part.Part) (scope : Scope)
      → past_block g (roll-Block (record { at = at; parts = parts; close = close })) scope
      ≡ closed scope (past_parts g parts (opened scope))
  past-parts at close parts scope =
      ap (λ f. f scope)
      (fold-roll-Block (Scope → Scope) (Scope → Scope) (Scope → Scope) (past_part_step g) (past_stmt_step g)
      (past_block_step g) (record { at = at; parts = parts; close = close }))

  -- what is in scope after a statement, by its layer
  past_layer : (y : Stmt-F part.Part Stmt Block) {s : Stmt} → roll-Stmt y ≡ s → (scope : Scope)
      → past_stmt g s scope
      ≡ past_stmt_step g (map-Stmt _ _ _ _ _ _ (past_part g) (past_stmt g) (past_block g) y) scope
  past_layer y is scope = ap (λ s. past_stmt g s scope) (sym is)
      ∙ ap (λ f. f scope)
      (fold-roll-Stmt (Scope → Scope) (Scope → Scope) (Scope → Scope) (past_part_step g) (past_stmt_step g)
      (past_block_step g) y)

  pub past-Empty-stmt : (at : Place) (scope : Scope) → past_stmt g (stmt.Empty at) scope ≡ scope
  past-Empty-stmt at = past_layer (layer.Empty at) (stmt.rolls-Empty at)

  pub past-Block-stmt : (b : Block) (scope : Scope) → past_stmt g (stmt.Block b) scope ≡ past_block g b scope
  past-Block-stmt b = past_layer (layer.Block b) (stmt.rolls-Block b)

  pub past-Simple-stmt : (s : Simple) (scope : Scope) → past_stmt g (stmt.Simple s) scope ≡ scope
  past-Simple-stmt s = past_layer (layer.Simple s) (stmt.rolls-Simple s)

  pub past-While-stmt : (at : Place) (c : Cond) (body : Stmt) (scope : Scope) → past_stmt g (stmt.While at c body) scope
      ≡ past_stmt g body scope
  past-While-stmt at c body = past_layer (layer.While at c body) (stmt.rolls-While at c body)

  pub past-Do-stmt : (at : Place) (body : Stmt) (c : Cond) (scope : Scope) → past_stmt g (stmt.Do at body c) scope
      ≡ past_stmt g body scope
  past-Do-stmt at body c = past_layer (layer.Do at body c) (stmt.rolls-Do at body c)

  pub past-For-stmt : (at : Place) (f : First) (c : Option Cond) (next : Option Simple) (body : Stmt) (scope : Scope)
      → past_stmt g (stmt.For at f c next body) scope ≡ closed scope (past_stmt g body (past_first g f (opened scope)))
  past-For-stmt at f c next body = past_layer (layer.For at f c next body) (stmt.rolls-For at f c next body)

  pub past-Return-stmt : (at : Place) (o : Option Operand) (scope : Scope) → past_stmt g (stmt.Return at o) scope
      ≡ scope
  past-Return-stmt at o = past_layer (layer.Return at o) (stmt.rolls-Return at o)

  pub past-Break-stmt : (at : Place) (scope : Scope) → past_stmt g (stmt.Break at) scope ≡ scope
  past-Break-stmt at = past_layer (layer.Break at) (stmt.rolls-Break at)

  pub past-Continue-stmt : (at : Place) (scope : Scope) → past_stmt g (stmt.Continue at) scope ≡ scope
  past-Continue-stmt at = past_layer (layer.Continue at) (stmt.rolls-Continue at)

  pub past-Assert-stmt : (at : Place) (c : Cond) (scope : Scope) → past_stmt g (stmt.Assert at c) scope ≡ scope
  past-Assert-stmt at c = past_layer (layer.Assert at c) (stmt.rolls-Assert at c)

  pub past-If-stmt : (at : Place) (c : Cond) (s : Stmt) (other : Option Stmt) (scope : Scope)
      → past_stmt g (stmt.If at c s other) scope ≡ past_other g other (past_stmt g s scope)
  past-If-stmt at c s None = past_layer (layer.If at c s None) (stmt.rolls-If at c s None)
  past-If-stmt at c s (Some o) = past_layer (layer.If at c s (Some o)) (stmt.rolls-If at c s (Some o))

pub ruleset scope_layers = (
  past-Declare,
  past-Stmt,
  past-parts,
  past-Empty-stmt,
  past-Block-stmt,
  past-Simple-stmt,
  past-While-stmt,
  past-Do-stmt,
  past-For-stmt,
  past-Return-stmt,
  past-Break-stmt,
  past-Continue-stmt,
  past-Assert-stmt,
  past-If-stmt,
)
