-- The functions that a body calls: by their names alone, each call in its place and as often as it stands, also one
-- that is refused, and one that is given to another.
use Rattle.std.specs.Prelude.{List, [], ◌∷◌, ◌++◌, Option, Some, None}
use Rattle.c_ast.specs.declared.conditions.And.{And, fold-And, And-F}
use Rattle.c_ast.specs.declared.conditions.Cond.{Cond, fold-Cond, Cond-F}
use Rattle.c_ast.specs.declared.conditions.Test.{Test, fold-Test, Test-F}
use Rattle.c_ast.specs.declared.conditions.Test.TheOpen as test
use Rattle.c_ast.specs.declared.conditions.Unary.{Unary, fold-Unary, Unary-F}
use Rattle.c_ast.specs.declared.operands.Call.{Call, fold-Call, Call-F}
use Rattle.c_ast.specs.declared.operands.Operand.{Operand, fold-Operand, Operand-F}
use Rattle.c_ast.specs.declared.operands.Operand.TheOpen as operand
use Rattle.c_ast.specs.declared.simples.Rhs.{Rhs}
use Rattle.c_ast.specs.declared.simples.Rhs.TheVariants as rhs
use Rattle.c_ast.specs.declared.simples.Simple.{Simple}
use Rattle.c_ast.specs.declared.simples.Simple.TheVariants as simple
use Rattle.c_ast.specs.declared.statements.Block.{Block, fold-Block, Block-F}
use Rattle.c_ast.specs.declared.statements.Declarator.{Declarator}
use Rattle.c_ast.specs.declared.statements.Declare.{Declare}
use Rattle.c_ast.specs.declared.statements.Declare.TheVariants as declare
use Rattle.c_ast.specs.declared.statements.First.{First}
use Rattle.c_ast.specs.declared.statements.First.TheVariants as first
use Rattle.c_ast.specs.declared.statements.Part as part
use Rattle.c_ast.specs.declared.statements.Part.TheOpen as stmt
use Rattle.c_ast.specs.declared.statements.Stmt.{Stmt, fold-Stmt, Stmt-F}
use Rattle.c_typing.specs.Texts.{Text, each_of, joined}

-- the names of what may be missing
abbrev pub maybe_callees : {X : Type 0} → (X → List Text) → Option X → List Text
maybe_callees f None = []
maybe_callees f (Some x) = f x

-- Operands: a call, and those among its operands

abbrev pub operand_step : Operand-F (List Text) (List Text) → List Text
operand_step (operand.Path p) = []
operand_step (operand.Call c) = c
operand_step (operand.Number n) = []
operand_step (operand.Null at) = []
operand_step (operand.True at) = []
operand_step (operand.False at) = []

abbrev pub call_step : Call-F (List Text) (List Text) → List Text
call_step c = c.name.text ∷ joined c.operands

abbrev pub operand_callees : Operand → List Text
operand_callees = fold-Operand (List Text) (List Text) operand_step call_step

abbrev pub call_callees : Call → List Text
call_callees = fold-Call (List Text) (List Text) operand_step call_step

abbrev pub rhs_callees : Rhs → List Text
rhs_callees (rhs.Operand o) = operand_callees o
rhs_callees (rhs.Malloc cast at size) = []

abbrev pub simple_callees : Simple → List Text
simple_callees (simple.Assign to from) = rhs_callees from
simple_callees (simple.Call c) = call_callees c
simple_callees (simple.Free at p) = []

-- Conditions

abbrev pub test_step : Test-F (List Text) (List Text) (List Text) (List Text) → List Text
test_step (test.Compare left equal right) = operand_callees left ++ operand_callees right
test_step (test.Unary u) = u

abbrev pub unary_step : Unary-F (List Text) (List Text) (List Text) (List Text) → List Text
unary_step (test.Not at u) = u
unary_step (test.Bracket at c) = c
unary_step (test.Operand o) = operand_callees o

abbrev pub and_step : And-F (List Text) (List Text) (List Text) (List Text) → List Text
and_step a = joined a.tests

abbrev pub cond_step : Cond-F (List Text) (List Text) (List Text) (List Text) → List Text
cond_step c = joined c.ands

abbrev pub test_callees : Test → List Text
test_callees = fold-Test (List Text) (List Text) (List Text) (List Text) test_step unary_step and_step cond_step

abbrev pub unary_callees : Unary → List Text
unary_callees = fold-Unary (List Text) (List Text) (List Text) (List Text) test_step unary_step and_step cond_step

abbrev pub and_callees : And → List Text
and_callees = fold-And (List Text) (List Text) (List Text) (List Text) test_step unary_step and_step cond_step

abbrev pub cond_callees : Cond → List Text
cond_callees = fold-Cond (List Text) (List Text) (List Text) (List Text) test_step unary_step and_step cond_step

-- Declarations and statements

abbrev pub declarator_callees : Declarator → List Text
declarator_callees d = maybe_callees rhs_callees d.from

abbrev pub declare_callees : Declare → List Text
declare_callees (declare.Pointers at name vars) = each_of declarator_callees vars
declare_callees (declare.Datums base vars) = each_of declarator_callees vars

abbrev pub first_callees : First → List Text
first_callees (first.Declare d) = declare_callees d
first_callees (first.Simple s) = simple_callees s
first_callees first.Nothing = []

abbrev pub else_callees : Option (List Text) → List Text
else_callees None = []
else_callees (Some names) = names

abbrev pub part_step : part.Part-F (List Text) (List Text) (List Text) → List Text
part_step (stmt.Declare d) = declare_callees d
part_step (stmt.Stmt s) = s

abbrev pub block_step : Block-F (List Text) (List Text) (List Text) → List Text
block_step b = joined b.parts

abbrev pub stmt_step : Stmt-F (List Text) (List Text) (List Text) → List Text
stmt_step (stmt.Empty at) = []
stmt_step (stmt.Block b) = b
stmt_step (stmt.Simple s) = simple_callees s
stmt_step (stmt.If at c then_ other) = cond_callees c ++ then_ ++ else_callees other
stmt_step (stmt.While at c body) = cond_callees c ++ body
stmt_step (stmt.Do at body c) = body ++ cond_callees c
stmt_step (stmt.For at f c next body) =
    first_callees f ++ maybe_callees cond_callees c ++ maybe_callees simple_callees next ++ body
stmt_step (stmt.Return at o) = maybe_callees operand_callees o
stmt_step (stmt.Break at) = []
stmt_step (stmt.Continue at) = []
stmt_step (stmt.Assert at c) = cond_callees c

abbrev pub part_callees : part.Part → List Text
part_callees = part.fold-Part (List Text) (List Text) (List Text) part_step stmt_step block_step

abbrev pub stmt_callees : Stmt → List Text
stmt_callees = fold-Stmt (List Text) (List Text) (List Text) part_step stmt_step block_step

-- the names that a body calls, in order
abbrev pub block_callees : Block → List Text
block_callees = fold-Block (List Text) (List Text) (List Text) part_step stmt_step block_step

abbrev pub other_callees : Option Stmt → List Text
other_callees None = []
other_callees (Some s) = stmt_callees s
