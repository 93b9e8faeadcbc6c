-- The depth of each kind of node, from those of its parts.
use Rattle.std.proofs.Common.{◌≡◌, Bool, ℕ, zero, suc, max, List, [], ◌∷◌, Option, Some, None, map, refl, sym, ap, ◌∙◌}
use Rattle.fore_base.specs.declared.place.Place.{Place}
use Rattle.c_ast.specs.Depths.{deepest, depth_of_option, argument_step, call_step, operand_step, test_step, unary_step}
use Rattle.c_ast.specs.Depths.{and_step, cond_step, part_step, stmt_step, block_step, depth_of_argument, depth_of_call}
use Rattle.c_ast.specs.Depths.{depth_of_operand, depth_of_rhs, depth_of_simple, depth_of_test, depth_of_unary}
use Rattle.c_ast.specs.Depths.{depth_of_and, depth_of_cond, depth_of_declarator, depth_of_declare, depth_of_first}
use Rattle.c_ast.specs.Depths.{depth_of_part, depth_of_stmt, depth_of_block}
use Rattle.c_ast.specs.declared.conditions.And.{And, roll-And, fold-roll-And}
use Rattle.c_ast.specs.declared.conditions.Cond.{Cond, roll-Cond, fold-roll-Cond}
use Rattle.c_ast.specs.declared.conditions.Test.{Test, fold-roll-Test}
use Rattle.c_ast.specs.declared.conditions.Test.TheOpen as test-f
use Rattle.c_ast.specs.declared.conditions.Test.TheVariants as test
use Rattle.c_ast.specs.declared.conditions.Unary.{Unary, fold-roll-Unary}
use Rattle.c_ast.specs.declared.conditions.Unary.TheVariants as unary
use Rattle.c_ast.specs.declared.operands.Call.{Call, roll-Call, fold-roll-Call}
use Rattle.c_ast.specs.declared.operands.Name.{Name}
use Rattle.c_ast.specs.declared.operands.Operand.{Operand, fold-roll-Operand}
use Rattle.c_ast.specs.declared.operands.Operand.TheOpen as operand-f
use Rattle.c_ast.specs.declared.operands.Operand.TheVariants as operand
use Rattle.c_ast.specs.declared.operands.Path.{Path}
use Rattle.c_ast.specs.declared.simples.Simple.{Simple}
use Rattle.c_ast.specs.declared.statements.Block.{Block, roll-Block, fold-roll-Block}
use Rattle.c_ast.specs.declared.statements.Declare.{Declare}
use Rattle.c_ast.specs.declared.statements.First.{First}
use Rattle.c_ast.specs.declared.statements.Part as part
use Rattle.c_ast.specs.declared.statements.Part.TheVariants as part'
use Rattle.c_ast.specs.declared.statements.Stmt.{Stmt, fold-roll-Stmt}
use Rattle.c_ast.specs.declared.statements.Part.TheOpen as stmt-f
use Rattle.c_ast.specs.declared.statements.Stmt.TheVariants as stmt

pub argument-Path : (p : Path) → depth_of_argument (operand.Path p) ≡ 0
argument-Path p = ap depth_of_argument (sym (operand.rolls-Path p))
    ∙ fold-roll-Operand ℕ ℕ argument_step call_step (operand-f.Path p)

pub operand-Path : (p : Path) → depth_of_operand (operand.Path p) ≡ 0
operand-Path p = ap operand_step (operand.outs-Path p)

pub argument-Call : (c : Call) → depth_of_argument (operand.Call c) ≡ suc (depth_of_call c)
argument-Call c = ap depth_of_argument (sym (operand.rolls-Call c))
    ∙ fold-roll-Operand ℕ ℕ argument_step call_step (operand-f.Call c)

pub operand-Call : (c : Call) → depth_of_operand (operand.Call c) ≡ depth_of_call c
operand-Call c = ap operand_step (operand.outs-Call c)

pub argument-Number : (n : Name) → depth_of_argument (operand.Number n) ≡ 0
argument-Number n = ap depth_of_argument (sym (operand.rolls-Number n))
    ∙ fold-roll-Operand ℕ ℕ argument_step call_step (operand-f.Number n)

pub operand-Number : (n : Name) → depth_of_operand (operand.Number n) ≡ 0
operand-Number n = ap operand_step (operand.outs-Number n)

pub argument-Null : (at : Place) → depth_of_argument (operand.Null at) ≡ 0
argument-Null at = ap depth_of_argument (sym (operand.rolls-Null at))
    ∙ fold-roll-Operand ℕ ℕ argument_step call_step (operand-f.Null at)

pub operand-Null : (at : Place) → depth_of_operand (operand.Null at) ≡ 0
operand-Null at = ap operand_step (operand.outs-Null at)

pub argument-True : (at : Place) → depth_of_argument (operand.True at) ≡ 0
argument-True at = ap depth_of_argument (sym (operand.rolls-True at))
    ∙ fold-roll-Operand ℕ ℕ argument_step call_step (operand-f.True at)

pub operand-True : (at : Place) → depth_of_operand (operand.True at) ≡ 0
operand-True at = ap operand_step (operand.outs-True at)

pub argument-False : (at : Place) → depth_of_argument (operand.False at) ≡ 0
argument-False at = ap depth_of_argument (sym (operand.rolls-False at))
    ∙ fold-roll-Operand ℕ ℕ argument_step call_step (operand-f.False at)

pub operand-False : (at : Place) → depth_of_operand (operand.False at) ≡ 0
operand-False at = ap operand_step (operand.outs-False at)

pub call-operands : (name : Name) (operands : List Operand)
    → depth_of_call (roll-Call (record { name = name; operands = operands })) ≡ deepest (map depth_of_argument operands)
call-operands name operands = fold-roll-Call ℕ ℕ argument_step call_step (record { name = name; operands = operands })

pub test-Compare : (l : Operand) (b : Bool) (r : Operand) → depth_of_test (test.Compare l b r)
    ≡ max (depth_of_operand l) (depth_of_operand r)
test-Compare l b r = ap depth_of_test (sym (test.rolls-Compare l b r))
    ∙ fold-roll-Test ℕ ℕ ℕ ℕ test_step unary_step and_step cond_step (test-f.Compare l b r)

pub test-Unary : (u : Unary) → depth_of_test (test.Unary u) ≡ depth_of_unary u
test-Unary u = ap depth_of_test (sym (test.rolls-Unary u))
    ∙ fold-roll-Test ℕ ℕ ℕ ℕ test_step unary_step and_step cond_step (test-f.Unary u)

pub unary-Not : (at : Place) (u : Unary) → depth_of_unary (unary.Not at u) ≡ suc (depth_of_unary u)
unary-Not at u = ap depth_of_unary (sym (unary.rolls-Not at u))
    ∙ fold-roll-Unary ℕ ℕ ℕ ℕ test_step unary_step and_step cond_step (test-f.Not at u)

pub unary-Bracket : (at : Place) (c : Cond) → depth_of_unary (unary.Bracket at c) ≡ suc (depth_of_cond c)
unary-Bracket at c = ap depth_of_unary (sym (unary.rolls-Bracket at c))
    ∙ fold-roll-Unary ℕ ℕ ℕ ℕ test_step unary_step and_step cond_step (test-f.Bracket at c)

pub unary-Operand : (o : Operand) → depth_of_unary (unary.Operand o) ≡ depth_of_operand o
unary-Operand o = ap depth_of_unary (sym (unary.rolls-Operand o))
    ∙ fold-roll-Unary ℕ ℕ ℕ ℕ test_step unary_step and_step cond_step (test-f.Operand o)

pub and-tests : (tests : List Test) → depth_of_and (roll-And (record { tests = tests }))
    ≡ deepest (map depth_of_test tests)
and-tests tests = fold-roll-And ℕ ℕ ℕ ℕ test_step unary_step and_step cond_step (record { tests = tests })

pub cond-ands : (ands : List And) → depth_of_cond (roll-Cond (record { ands = ands })) ≡ deepest (map depth_of_and ands)
cond-ands ands = fold-roll-Cond ℕ ℕ ℕ ℕ test_step unary_step and_step cond_step (record { ands = ands })

pub part-Declare : (d : Declare) → depth_of_part (part'.Declare d) ≡ depth_of_declare d
part-Declare d = ap depth_of_part (sym (part'.rolls-Declare d))
    ∙ part.fold-roll-Part ℕ ℕ ℕ part_step stmt_step block_step (stmt-f.Declare d)

pub part-Stmt : (s : Stmt) → depth_of_part (part'.Stmt s) ≡ depth_of_stmt s
part-Stmt s = ap depth_of_part (sym (part'.rolls-Stmt s))
    ∙ part.fold-roll-Part ℕ ℕ ℕ part_step stmt_step block_step (stmt-f.Stmt s)

pub block-parts : (at close : Place) (parts : List part.Part)
    → depth_of_block (roll-Block (record { at = at; parts = parts; close = close })) ≡ deepest (map depth_of_part parts)
block-parts at close parts =
    fold-roll-Block ℕ ℕ ℕ part_step stmt_step block_step (record { at = at; parts = parts; close = close })

pub stmt-Empty : (at : Place) → depth_of_stmt (stmt.Empty at) ≡ 0
stmt-Empty at = ap depth_of_stmt (sym (stmt.rolls-Empty at))
    ∙ fold-roll-Stmt ℕ ℕ ℕ part_step stmt_step block_step (stmt-f.Empty at)

pub stmt-Block : (b : Block) → depth_of_stmt (stmt.Block b) ≡ suc (depth_of_block b)
stmt-Block b = ap depth_of_stmt (sym (stmt.rolls-Block b))
    ∙ fold-roll-Stmt ℕ ℕ ℕ part_step stmt_step block_step (stmt-f.Block b)

pub stmt-Simple : (s : Simple) → depth_of_stmt (stmt.Simple s) ≡ depth_of_simple s
stmt-Simple s = ap depth_of_stmt (sym (stmt.rolls-Simple s))
    ∙ fold-roll-Stmt ℕ ℕ ℕ part_step stmt_step block_step (stmt-f.Simple s)

pub stmt-While : (at : Place) (c : Cond) (s : Stmt) → depth_of_stmt (stmt.While at c s)
    ≡ suc (max (depth_of_cond c) (depth_of_stmt s))
stmt-While at c s = ap depth_of_stmt (sym (stmt.rolls-While at c s))
    ∙ fold-roll-Stmt ℕ ℕ ℕ part_step stmt_step block_step (stmt-f.While at c s)

pub stmt-Do : (at : Place) (s : Stmt) (c : Cond) → depth_of_stmt (stmt.Do at s c)
    ≡ suc (max (depth_of_stmt s) (depth_of_cond c))
stmt-Do at s c = ap depth_of_stmt (sym (stmt.rolls-Do at s c))
    ∙ fold-roll-Stmt ℕ ℕ ℕ part_step stmt_step block_step (stmt-f.Do at s c)

pub stmt-For : (at : Place) (f : First) (c : Option Cond) (m : Option Simple) (s : Stmt)
    → depth_of_stmt (stmt.For at f c m s)
    ≡ suc
    (max (max (depth_of_first f) (depth_of_option depth_of_cond c))
    (max (depth_of_option depth_of_simple m) (depth_of_stmt s)))
stmt-For at f c m s = ap depth_of_stmt (sym (stmt.rolls-For at f c m s))
    ∙ fold-roll-Stmt ℕ ℕ ℕ part_step stmt_step block_step (stmt-f.For at f c m s)

pub stmt-Return : (at : Place) (o : Option Operand) → depth_of_stmt (stmt.Return at o)
    ≡ depth_of_option depth_of_operand o
stmt-Return at o = ap depth_of_stmt (sym (stmt.rolls-Return at o))
    ∙ fold-roll-Stmt ℕ ℕ ℕ part_step stmt_step block_step (stmt-f.Return at o)

pub stmt-Break : (at : Place) → depth_of_stmt (stmt.Break at) ≡ 0
stmt-Break at = ap depth_of_stmt (sym (stmt.rolls-Break at))
    ∙ fold-roll-Stmt ℕ ℕ ℕ part_step stmt_step block_step (stmt-f.Break at)

pub stmt-Continue : (at : Place) → depth_of_stmt (stmt.Continue at) ≡ 0
stmt-Continue at = ap depth_of_stmt (sym (stmt.rolls-Continue at))
    ∙ fold-roll-Stmt ℕ ℕ ℕ part_step stmt_step block_step (stmt-f.Continue at)

pub stmt-Assert : (at : Place) (c : Cond) → depth_of_stmt (stmt.Assert at c) ≡ depth_of_cond c
stmt-Assert at c = ap depth_of_stmt (sym (stmt.rolls-Assert at c))
    ∙ fold-roll-Stmt ℕ ℕ ℕ part_step stmt_step block_step (stmt-f.Assert at c)

pub stmt-If : (at : Place) (c : Cond) (s : Stmt) (o : Option Stmt) → depth_of_stmt (stmt.If at c s o)
    ≡ suc (max (depth_of_cond c) (max (depth_of_stmt s) (depth_of_option depth_of_stmt o)))
stmt-If at c s None = ap depth_of_stmt (sym (stmt.rolls-If at c s None))
    ∙ fold-roll-Stmt ℕ ℕ ℕ part_step stmt_step block_step (stmt-f.If at c s None)
stmt-If at c s (Some o) = ap depth_of_stmt (sym (stmt.rolls-If at c s (Some o)))
    ∙ fold-roll-Stmt ℕ ℕ ℕ part_step stmt_step block_step (stmt-f.If at c s (Some o))

pub ruleset layers = (
  argument-Path,
  operand-Path,
  argument-Call,
  operand-Call,
  argument-Number,
  operand-Number,
  argument-Null,
  operand-Null,
  argument-True,
  operand-True,
  argument-False,
  operand-False,
  call-operands,
  test-Compare,
  test-Unary,
  unary-Not,
  unary-Bracket,
  unary-Operand,
  and-tests,
  cond-ands,
  part-Declare,
  part-Stmt,
  block-parts,
  stmt-Empty,
  stmt-Block,
  stmt-Simple,
  stmt-While,
  stmt-Do,
  stmt-For,
  stmt-Return,
  stmt-Break,
  stmt-Continue,
  stmt-Assert,
  stmt-If,
)
