-- What each kind of part, statement and block is in a program.
use Rattle.std.proofs.Common.{◌≡◌, List, [], ◌∷◌, ◌++◌, Option, Some, None, map, refl, sym, ap, ◌∙◌}
use Rattle.fore_base.specs.declared.place.Place.{Place}
use Rattle.c_ast.specs.declared.conditions.Cond.{Cond}
use Rattle.c_ast.specs.declared.operands.Operand.{Operand}
use Rattle.c_ast.specs.declared.simples.Simple.{Simple}
use Rattle.c_ast.specs.declared.statements.Block.{Block, roll-Block, para-roll-Block}
use Rattle.c_ast.specs.declared.statements.Declare.{Declare}
use Rattle.c_ast.specs.declared.statements.First.{First}
use Rattle.c_ast.specs.declared.statements.Part as part
use Rattle.c_ast.specs.declared.statements.Part.TheOpen as layer
use Rattle.c_ast.specs.declared.statements.Part.TheVariants as part'
use Rattle.c_ast.specs.declared.statements.Stmt.{Stmt, Stmt-F, roll-Stmt, map-Stmt, para-roll-Stmt}
use Rattle.c_ast.specs.declared.statements.Stmt.TheVariants as stmt
use Rattle.c_types.specs.declared.program.Act.TheVariants.{Error, Break, Continue}
use Rattle.c_types.specs.declared.program.Stmt.TheVariants.{Do, Branch, While, DoWhile}
use Rattle.c_typing.specs.Globals.{Globals}
use Rattle.c_typing.specs.Programs.{grouped, simple_stmts, cond_of, return_act, declare_stmts, Stmts, part_step}
use Rattle.c_typing.specs.Programs.{each_stmts, past_all, block_step, for_stmts, stmt_step, part_stmts, stmt_stmts}
use Rattle.c_typing.specs.Programs.{block_stmts, parts_stmts, other_stmts}
use Rattle.c_typing.specs.Scopes.{Scope, opened, past_part, past_parts, past_stmt}

module _ (g : Globals) where
  each_parts : (parts : List part.Part) (scope : Scope) → each_stmts g (map (λ p. (p, part_stmts g p)) parts) scope
      ≡ parts_stmts g parts scope
  each_parts [] scope = refl
  each_parts (p ∷ ps) scope = ap (λ k. part_stmts g p scope ++ k) (each_parts ps (past_part g p scope))

  each_past : (parts : List part.Part) (scope : Scope) → past_all g (map (λ p. (p, part_stmts g p)) parts) scope
      ≡ past_parts g parts scope
  each_past [] scope = refl
  each_past (p ∷ ps) scope = each_past ps (past_part g p scope)

  pub made-Declare : (d : Declare) (scope : Scope) → part_stmts g (part'.Declare d) scope ≡ declare_stmts g d scope
  made-Declare d scope = ap (λ p. part_stmts g p scope) (sym (part'.rolls-Declare d))
      ∙ ap (λ f. f scope)
      (part.para-roll-Part (Stmts g) (Stmts g) (Stmts g) (part_step g) (stmt_step g) (block_step g) (layer.Declare d))

  pub made-Stmt : (s : Stmt) (scope : Scope) → part_stmts g (part'.Stmt s) scope ≡ stmt_stmts g s scope
  made-Stmt s scope = ap (λ p. part_stmts g p scope) (sym (part'.rolls-Stmt s))
      ∙ ap (λ f. f scope)
      (part.para-roll-Part (Stmts g) (Stmts g) (Stmts g) (part_step g) (stmt_step g) (block_step g) (layer.Stmt s))

  pub made-parts : (at close : Place) (parts : List part.Part) (scope : Scope)
      → block_stmts g (roll-Block (record { at = at; parts = parts; close = close })) scope
      ≡ grouped (parts_stmts g parts (opened scope)) (past_parts g parts (opened scope)) close.line ∷ []
  made-parts at close parts scope =
      ap (λ f. f scope)
      (para-roll-Block (Stmts g) (Stmts g) (Stmts g) (part_step g) (stmt_step g) (block_step g)
      (record { at = at; parts = parts; close = close }))
      ∙ ap (λ k. grouped k (past_all g (map (λ p. (p, part_stmts g p)) parts) (opened scope)) close.line ∷ [])
      (each_parts parts (opened scope))
      ∙ ap (λ k. grouped (parts_stmts g parts (opened scope)) k close.line ∷ []) (each_past parts (opened scope))

  -- what a statement is, by its layer
  made_layer : (y : Stmt-F part.Part Stmt Block) {s : Stmt} → roll-Stmt y ≡ s → (scope : Scope)
      → stmt_stmts g s scope
      ≡ stmt_step g
      (map-Stmt _ _ _ _ _ _ (λ p. (p, part_stmts g p)) (λ s. (s, stmt_stmts g s)) (λ b. (b, block_stmts g b)) y) scope
  made_layer y is scope = ap (λ s. stmt_stmts g s scope) (sym is)
      ∙ ap (λ f. f scope)
      (para-roll-Stmt (Stmts g) (Stmts g) (Stmts g) (part_step g) (stmt_step g) (block_step g) y)

  pub made-Empty-stmt : (at : Place) (scope : Scope) → stmt_stmts g (stmt.Empty at) scope ≡ []
  made-Empty-stmt at = made_layer (layer.Empty at) (stmt.rolls-Empty at)

  pub made-Block-stmt : (b : Block) (scope : Scope) → stmt_stmts g (stmt.Block b) scope ≡ block_stmts g b scope
  made-Block-stmt b = made_layer (layer.Block b) (stmt.rolls-Block b)

  pub made-Simple-stmt : (s : Simple) (scope : Scope) → stmt_stmts g (stmt.Simple s) scope ≡ simple_stmts g scope s
  made-Simple-stmt s = made_layer (layer.Simple s) (stmt.rolls-Simple s)

  pub made-While-stmt : (at : Place) (c : Cond) (body : Stmt) (scope : Scope)
      → stmt_stmts g (stmt.While at c body) scope ≡ While (cond_of g scope c) (stmt_stmts g body scope) ∷ []
  made-While-stmt at c body = made_layer (layer.While at c body) (stmt.rolls-While at c body)

  pub made-Do-stmt : (at : Place) (body : Stmt) (c : Cond) (scope : Scope) → stmt_stmts g (stmt.Do at body c) scope
      ≡ DoWhile (cond_of g scope c) (stmt_stmts g body scope) ∷ []
  made-Do-stmt at body c = made_layer (layer.Do at body c) (stmt.rolls-Do at body c)

  pub made-For-stmt : (at : Place) (f : First) (c : Option Cond) (next : Option Simple) (body : Stmt) (scope : Scope)
      → stmt_stmts g (stmt.For at f c next body) scope ≡ for_stmts g f at c next (body, stmt_stmts g body) scope
  made-For-stmt at f c next body = made_layer (layer.For at f c next body) (stmt.rolls-For at f c next body)

  pub made-Return-stmt : (at : Place) (o : Option Operand) (scope : Scope) → stmt_stmts g (stmt.Return at o) scope
      ≡ Do (return_act g scope scope.home o) at.line ∷ []
  made-Return-stmt at o = made_layer (layer.Return at o) (stmt.rolls-Return at o)

  pub made-Break-stmt : (at : Place) (scope : Scope) → stmt_stmts g (stmt.Break at) scope ≡ Do Break at.line ∷ []
  made-Break-stmt at = made_layer (layer.Break at) (stmt.rolls-Break at)

  pub made-Continue-stmt : (at : Place) (scope : Scope) → stmt_stmts g (stmt.Continue at) scope ≡ Do Continue at.line
      ∷ []
  made-Continue-stmt at = made_layer (layer.Continue at) (stmt.rolls-Continue at)

  pub made-Assert-stmt : (at : Place) (c : Cond) (scope : Scope) → stmt_stmts g (stmt.Assert at c) scope
      ≡ Branch (cond_of g scope c) [] (Do Error at.line ∷ []) ∷ []
  made-Assert-stmt at c = made_layer (layer.Assert at c) (stmt.rolls-Assert at c)

  pub made-If-stmt : (at : Place) (c : Cond) (s : Stmt) (other : Option Stmt) (scope : Scope)
      → stmt_stmts g (stmt.If at c s other) scope
      ≡ Branch (cond_of g scope c) (stmt_stmts g s scope) (other_stmts g other (past_stmt g s scope)) ∷ []
  made-If-stmt at c s None = made_layer (layer.If at c s None) (stmt.rolls-If at c s None)
  made-If-stmt at c s (Some o) = made_layer (layer.If at c s (Some o)) (stmt.rolls-If at c s (Some o))

pub ruleset program_layers = (
  made-Declare,
  made-Stmt,
  made-parts,
  made-Empty-stmt,
  made-Block-stmt,
  made-Simple-stmt,
  made-While-stmt,
  made-Do-stmt,
  made-For-stmt,
  made-Return-stmt,
  made-Break-stmt,
  made-Continue-stmt,
  made-Assert-stmt,
  made-If-stmt,
)
