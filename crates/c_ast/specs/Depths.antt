-- How deep a syntax tree is: open blocks, `if`, `while`, `do` and `for` statements, calls inside calls, negations and
-- bracketed conditions
-- round a token. An `else` counts as inside its `if`. The outermost call of a nest of calls is no level.
use Rattle.std.specs.Prelude.{ℕ, zero, suc, max, List, [], ◌∷◌, Option, Some, None, map}
use Rattle.c_ast.specs.declared.conditions.And.{And, fold-And, And-F}
use Rattle.c_ast.specs.declared.conditions.Cond.{Cond, fold-Cond, Cond-F}
use Rattle.c_ast.specs.declared.conditions.Test.{Test, fold-Test, Test-F}
use Rattle.c_ast.specs.declared.conditions.Test.TheOpen as test
use Rattle.c_ast.specs.declared.conditions.Unary.{Unary, fold-Unary, Unary-F}
use Rattle.c_ast.specs.declared.items.Item.{Item}
use Rattle.c_ast.specs.declared.items.Item.TheVariants as item
use Rattle.c_ast.specs.declared.items.Unit as whole
use Rattle.c_ast.specs.declared.operands.Call.{Call, fold-Call, Call-F}
use Rattle.c_ast.specs.declared.operands.Operand.{Operand, fold-Operand, Operand-F, out-Operand}
use Rattle.c_ast.specs.declared.operands.Operand.TheOpen as operand
use Rattle.c_ast.specs.declared.simples.Rhs.{Rhs}
use Rattle.c_ast.specs.declared.simples.Rhs.TheVariants as rhs
use Rattle.c_ast.specs.declared.simples.Simple.{Simple}
use Rattle.c_ast.specs.declared.simples.Simple.TheVariants as simple
use Rattle.c_ast.specs.declared.statements.Block.{Block, fold-Block, Block-F}
use Rattle.c_ast.specs.declared.statements.Declarator.{Declarator}
use Rattle.c_ast.specs.declared.statements.Declare.{Declare}
use Rattle.c_ast.specs.declared.statements.Declare.TheVariants as declare
use Rattle.c_ast.specs.declared.statements.First.{First}
use Rattle.c_ast.specs.declared.statements.First.TheVariants as first
use Rattle.c_ast.specs.declared.statements.Part as part
use Rattle.c_ast.specs.declared.statements.Stmt.{Stmt, fold-Stmt, Stmt-F}
use Rattle.c_ast.specs.declared.statements.Part.TheOpen as stmt

-- the greatest of a list
abbrev pub deepest : List ℕ → ℕ
deepest [] = 0
deepest (n ∷ ns) = max n (deepest ns)

-- what is not there has no level
abbrev pub depth_of_option : {X : Type 0} → (X → ℕ) → Option X → ℕ
depth_of_option f None = 0
depth_of_option f (Some x) = f x

-- operands of a call: a call among them is a level
abbrev pub argument_step : Operand-F ℕ ℕ → ℕ
argument_step (operand.Path p) = 0
argument_step (operand.Call c) = suc c
argument_step (operand.Number n) = 0
argument_step (operand.Null at) = 0
argument_step (operand.True at) = 0
argument_step (operand.False at) = 0

abbrev pub call_step : Call-F ℕ ℕ → ℕ
call_step c = deepest c.operands

abbrev pub depth_of_argument : Operand → ℕ
depth_of_argument = fold-Operand ℕ ℕ argument_step call_step

abbrev pub depth_of_call : Call → ℕ
depth_of_call = fold-Call ℕ ℕ argument_step call_step

-- an operand that stands in no call
abbrev pub operand_step : Operand-F Operand Call → ℕ
operand_step (operand.Path p) = 0
operand_step (operand.Call c) = depth_of_call c
operand_step (operand.Number n) = 0
operand_step (operand.Null at) = 0
operand_step (operand.True at) = 0
operand_step (operand.False at) = 0

abbrev pub depth_of_operand : Operand → ℕ
depth_of_operand o = operand_step (out-Operand o)

abbrev pub depth_of_rhs : Rhs → ℕ
depth_of_rhs (rhs.Operand o) = depth_of_operand o
depth_of_rhs (rhs.Malloc cast at size) = 0

abbrev pub depth_of_simple : Simple → ℕ
depth_of_simple (simple.Assign to from) = depth_of_rhs from
depth_of_simple (simple.Call c) = depth_of_call c
depth_of_simple (simple.Free at path) = 0

-- conditions: a negation and brackets are levels
abbrev pub test_step : Test-F ℕ ℕ ℕ ℕ → ℕ
test_step (test.Compare left equal right) = max (depth_of_operand left) (depth_of_operand right)
test_step (test.Unary u) = u

abbrev pub unary_step : Unary-F ℕ ℕ ℕ ℕ → ℕ
unary_step (test.Not at u) = suc u
unary_step (test.Bracket at c) = suc c
unary_step (test.Operand o) = depth_of_operand o

abbrev pub and_step : And-F ℕ ℕ ℕ ℕ → ℕ
and_step a = deepest a.tests

abbrev pub cond_step : Cond-F ℕ ℕ ℕ ℕ → ℕ
cond_step c = deepest c.ands

abbrev pub depth_of_test : Test → ℕ
depth_of_test = fold-Test ℕ ℕ ℕ ℕ test_step unary_step and_step cond_step

abbrev pub depth_of_unary : Unary → ℕ
depth_of_unary = fold-Unary ℕ ℕ ℕ ℕ test_step unary_step and_step cond_step

abbrev pub depth_of_and : And → ℕ
depth_of_and = fold-And ℕ ℕ ℕ ℕ test_step unary_step and_step cond_step

abbrev pub depth_of_cond : Cond → ℕ
depth_of_cond = fold-Cond ℕ ℕ ℕ ℕ test_step unary_step and_step cond_step

-- declarations
abbrev pub depth_of_declarator : Declarator → ℕ
depth_of_declarator d = depth_of_option depth_of_rhs d.from

abbrev pub depth_of_declare : Declare → ℕ
depth_of_declare (declare.Pointers at name vars) = deepest (map depth_of_declarator vars)
depth_of_declare (declare.Datums kind vars) = deepest (map depth_of_declarator vars)

abbrev pub depth_of_first : First → ℕ
depth_of_first (first.Declare d) = depth_of_declare d
depth_of_first (first.Simple s) = depth_of_simple s
depth_of_first first.Nothing = 0

-- statements: a block, an `if`, a `while`, a `do` and a `for` are levels
abbrev pub part_step : part.Part-F ℕ ℕ ℕ → ℕ
part_step (stmt.Declare d) = depth_of_declare d
part_step (stmt.Stmt s) = s

abbrev pub block_step : Block-F ℕ ℕ ℕ → ℕ
block_step b = deepest b.parts

abbrev pub depth_of_else : Option ℕ → ℕ
depth_of_else None = 0
depth_of_else (Some n) = n

abbrev pub stmt_step : Stmt-F ℕ ℕ ℕ → ℕ
stmt_step (stmt.Empty at) = 0
stmt_step (stmt.Block b) = suc b
stmt_step (stmt.Simple s) = depth_of_simple s
stmt_step (stmt.If at c then_ other) = suc (max (depth_of_cond c) (max then_ (depth_of_else other)))
stmt_step (stmt.While at c body) = suc (max (depth_of_cond c) body)
stmt_step (stmt.Do at body c) = suc (max body (depth_of_cond c))
stmt_step (stmt.For at f c next body) =
    suc
    (max (max (depth_of_first f) (depth_of_option depth_of_cond c))
    (max (depth_of_option depth_of_simple next) body))
stmt_step (stmt.Return at o) = depth_of_option depth_of_operand o
stmt_step (stmt.Break at) = 0
stmt_step (stmt.Continue at) = 0
stmt_step (stmt.Assert at c) = depth_of_cond c

abbrev pub depth_of_part : part.Part → ℕ
depth_of_part = part.fold-Part ℕ ℕ ℕ part_step stmt_step block_step

abbrev pub depth_of_stmt : Stmt → ℕ
depth_of_stmt = fold-Stmt ℕ ℕ ℕ part_step stmt_step block_step

-- what stands in a block, without the level of the block
abbrev pub depth_of_block : Block → ℕ
depth_of_block = fold-Block ℕ ℕ ℕ part_step stmt_step block_step

-- items: the block of a function is a level
abbrev pub depth_of_item : Item → ℕ
depth_of_item (item.Struct at name fields) = 0
depth_of_item (item.Enum at name values) = 0
depth_of_item (item.Proto outer head) = 0
depth_of_item (item.Function head body) = suc (depth_of_block body)
depth_of_item (item.Declare d) = depth_of_declare d

abbrev pub depth_of_items : List Item → ℕ
depth_of_items items = deepest (map depth_of_item items)

abbrev pub depth_of_unit : whole.Unit → ℕ
depth_of_unit u = depth_of_items u.items
