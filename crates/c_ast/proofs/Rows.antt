-- Worked rows of depth, counted by hand.
use Rattle.std.proofs.Common.{◌≡◌, ℕ, suc, max, Bool, true, false, List, [], ◌∷◌, Option, Some, None, refl, ap, ◌∙◌}
use Rattle.fore_base.specs.declared.place.Place.{Place}
use Rattle.c_ast.proofs.DepthLemmas as depth
use Rattle.c_ast.specs.Depths.{depth_of_option, depth_of_argument, depth_of_call, depth_of_operand, depth_of_rhs}
use Rattle.c_ast.specs.Depths.{depth_of_simple, depth_of_test, depth_of_unary, depth_of_and, depth_of_cond}
use Rattle.c_ast.specs.Depths.{depth_of_declare, depth_of_part, depth_of_stmt, depth_of_block, depth_of_item}
use Rattle.c_ast.specs.Depths.{depth_of_items}
use Rattle.c_ast.specs.declared.conditions.And.{And, roll-And}
use Rattle.c_ast.specs.declared.conditions.Cond.{Cond, roll-Cond}
use Rattle.c_ast.specs.declared.conditions.Test.TheVariants as test
use Rattle.c_ast.specs.declared.conditions.Unary.{Unary}
use Rattle.c_ast.specs.declared.conditions.Unary.TheVariants as unary
use Rattle.c_ast.specs.declared.items.Head.{Head}
use Rattle.c_ast.specs.declared.items.Item.TheVariants as item
use Rattle.c_ast.specs.declared.operands.Call.{Call, roll-Call}
use Rattle.c_ast.specs.declared.operands.Name.{Name}
use Rattle.c_ast.specs.declared.operands.Operand.{Operand}
use Rattle.c_ast.specs.declared.operands.Operand.TheVariants as operand
use Rattle.c_ast.specs.declared.simples.Rhs.TheVariants as rhs
use Rattle.c_ast.specs.declared.statements.Block.{Block, roll-Block}
use Rattle.c_ast.specs.declared.statements.Declare.TheVariants as declare
use Rattle.c_ast.specs.declared.statements.Data.{Data}
use Rattle.c_ast.specs.declared.statements.First.TheVariants as first
use Rattle.c_ast.specs.declared.statements.Part.TheVariants as part
use Rattle.c_ast.specs.declared.statements.Stmt.{Stmt}
use Rattle.c_ast.specs.declared.statements.Stmt.TheVariants as stmt

module _ (p : Place) (v : Name) where
  -- g(NULL): the outermost call is no level
  abbrev inner : Call
  inner = roll-Call (record { name = v; operands = operand.Null p ∷ [] })

  inner_call : depth_of_call inner ≡ 0
  inner_call = depth.call-operands v (operand.Null p ∷ []) ∙ ap (λ k. max k 0) (depth.argument-Null p)

  -- f(x, g(NULL)): a call that is an operand of a call is one
  abbrev outer : Call
  outer = roll-Call (record { name = v; operands = operand.Null p ∷ (operand.Call inner ∷ []) })

  pub nested_call : depth_of_call outer ≡ 1
  nested_call = depth.call-operands v (operand.Null p ∷ (operand.Call inner ∷ []))
      ∙ ap (λ k. max k (max (depth_of_argument (operand.Call inner)) 0)) (depth.argument-Null p)
      ∙ ap (λ k. max 0 (max k 0)) (depth.argument-Call inner ∙ ap (λ k. suc k) inner_call)

  pub outer_operand : depth_of_operand (operand.Call outer) ≡ 1
  outer_operand = depth.operand-Call outer ∙ nested_call

  -- h(f(x, g(NULL))) has two
  pub two_calls : depth_of_call (roll-Call (record { name = v; operands = operand.Call outer ∷ [] })) ≡ 2
  two_calls = depth.call-operands v (operand.Call outer ∷ [])
      ∙ ap (λ k. max k 0) (depth.argument-Call outer ∙ ap (λ k. suc k) nested_call)

  -- a comparison is as deep as its deeper side, which is no level itself
  pub comparison : depth_of_test (test.Compare (operand.Null p) true (operand.Call outer)) ≡ 1
  comparison = depth.test-Compare (operand.Null p) true (operand.Call outer)
      ∙ ap (λ k. max k (depth_of_operand (operand.Call outer))) (depth.operand-Null p) ∙ ap (λ k. max 0 k) outer_operand

  -- NULL as a condition
  abbrev plain : Cond
  plain =
      roll-Cond (record { ands = roll-And (record { tests = test.Unary (unary.Operand (operand.Null p)) ∷ [] }) ∷ [] })

  abbrev plain_and : And
  plain_and = roll-And (record { tests = test.Unary (unary.Operand (operand.Null p)) ∷ [] })

  pub plain_cond : depth_of_cond plain ≡ 0
  plain_cond = depth.cond-ands (plain_and ∷ [])
      ∙ ap (λ k. max k 0) (depth.and-tests (test.Unary (unary.Operand (operand.Null p)) ∷ [])
      ∙ ap (λ k. max k 0) (depth.test-Unary (unary.Operand (operand.Null p)) ∙ depth.unary-Operand (operand.Null p)
      ∙ depth.operand-Null p))

  -- !(NULL) has two levels
  pub negated : depth_of_unary (unary.Not p (unary.Bracket p plain)) ≡ 2
  negated = depth.unary-Not p (unary.Bracket p plain)
      ∙ ap (λ k. suc k) (depth.unary-Bracket p plain ∙ ap (λ k. suc k) plain_cond)

  abbrev deep_and : And
  deep_and = roll-And (record { tests = test.Unary (unary.Not p (unary.Bracket p plain)) ∷ [] })

  deep_cond : depth_of_cond (roll-Cond (record { ands = plain_and ∷ (deep_and ∷ []) })) ≡ 2
  deep_cond = depth.cond-ands (plain_and ∷ (deep_and ∷ []))
      ∙ ap (λ k. max k (max (depth_of_and deep_and) 0))
      (depth.and-tests (test.Unary (unary.Operand (operand.Null p)) ∷ [])
      ∙ ap (λ k. max k 0) (depth.test-Unary (unary.Operand (operand.Null p)) ∙ depth.unary-Operand (operand.Null p)
      ∙ depth.operand-Null p))
      ∙ ap (λ k. max 0 (max k 0))
      (depth.and-tests (test.Unary (unary.Not p (unary.Bracket p plain)) ∷ [])
      ∙ ap (λ k. max k 0) (depth.test-Unary (unary.Not p (unary.Bracket p plain)) ∙ negated))

  -- { } as a statement
  abbrev braces : Block
  braces = roll-Block (record { at = p; parts = []; close = p })

  pub empty_block : depth_of_stmt (stmt.Block braces) ≡ 1
  empty_block = depth.stmt-Block braces ∙ ap (λ k. suc k) (depth.block-parts p p [])

  -- { { } ; } has two levels
  pub block_in_block : depth_of_stmt
      (stmt.Block
      (roll-Block
      (record { at = p; parts = part.Stmt (stmt.Block braces) ∷ (part.Stmt (stmt.Empty p) ∷ []); close = p }))) ≡ 2
  block_in_block = depth.stmt-Block _
      ∙ ap (λ k. suc k) (depth.block-parts p p (part.Stmt (stmt.Block braces) ∷ (part.Stmt (stmt.Empty p) ∷ []))
      ∙ ap (λ k. max k (max (depth_of_part (part.Stmt (stmt.Empty p))) 0))
      (depth.part-Stmt (stmt.Block braces) ∙ empty_block)
      ∙ ap (λ k. max 1 (max k 0)) (depth.part-Stmt (stmt.Empty p) ∙ depth.stmt-Empty p))

  -- while (NULL) ;
  pub while_row : depth_of_stmt (stmt.While p plain (stmt.Empty p)) ≡ 1
  while_row = depth.stmt-While p plain (stmt.Empty p) ∙ ap (λ k. suc (max k (depth_of_stmt (stmt.Empty p)))) plain_cond
      ∙ ap (λ k. suc (max 0 k)) (depth.stmt-Empty p)

  -- do { } while (NULL);
  pub do_row : depth_of_stmt (stmt.Do p (stmt.Block braces) plain) ≡ 2
  do_row = depth.stmt-Do p (stmt.Block braces) plain ∙ ap (λ k. suc (max k (depth_of_cond plain))) empty_block
      ∙ ap (λ k. suc (max 1 k)) plain_cond

  -- for (;;) ;
  pub for_row : depth_of_stmt (stmt.For p first.Nothing None None (stmt.Empty p)) ≡ 1
  for_row = depth.stmt-For p first.Nothing None None (stmt.Empty p)
      ∙ ap (λ k. suc (max (max 0 0) (max 0 k))) (depth.stmt-Empty p)

  -- if (NULL) ; else { } : the else is inside its if
  pub else_row : depth_of_stmt (stmt.If p plain (stmt.Empty p) (Some (stmt.Block braces))) ≡ 2
  else_row = depth.stmt-If p plain (stmt.Empty p) (Some (stmt.Block braces))
      ∙ ap (λ k. suc (max k (max (depth_of_stmt (stmt.Empty p)) (depth_of_stmt (stmt.Block braces))))) plain_cond
      ∙ ap (λ k. suc (max 0 (max k (depth_of_stmt (stmt.Block braces))))) (depth.stmt-Empty p)
      ∙ ap (λ k. suc (max 0 (max 0 k))) empty_block

  -- assert(NULL || !(NULL)); and return f(x, g(NULL));
  pub assert_row : depth_of_stmt (stmt.Assert p (roll-Cond (record { ands = plain_and ∷ (deep_and ∷ []) }))) ≡ 2
  assert_row = depth.stmt-Assert p (roll-Cond (record { ands = plain_and ∷ (deep_and ∷ []) })) ∙ deep_cond

  pub return_row : depth_of_stmt (stmt.Return p (Some (operand.Call outer))) ≡ 1
  return_row = depth.stmt-Return p (Some (operand.Call outer)) ∙ outer_operand

  -- a declaration is as deep as what it starts with
  pub declare_row : (d : Data)
      → depth_of_declare
      (declare.Datums d (record { name = v; from = None }
      ∷ (record { name = v; from = Some (rhs.Operand (operand.Call outer)) } ∷ []))) ≡ 1
  declare_row d = ap (λ k. max 0 (max k 0)) outer_operand

  -- the body of a function is a level, an item without a body has none
  pub function_row : (h : Head)
      → depth_of_items (item.Function h braces ∷ (item.Struct p v None ∷ (item.Proto None h ∷ []))) ≡ 1
  function_row h = ap (λ k. max (suc k) 0) (depth.block-parts p p [])
