-- The functions that each kind of tree calls.
use Rattle.std.proofs.Common.{◌≡◌, Bool, List, [], ◌∷◌, ◌++◌, Option, Some, None, map, sym, ap, ◌∙◌}
use Rattle.fore_base.specs.declared.place.Place.{Place}
use Rattle.c_ast.specs.declared.conditions.And.{And, roll-And, fold-roll-And}
use Rattle.c_ast.specs.declared.conditions.Cond.{Cond, roll-Cond, fold-roll-Cond}
use Rattle.c_ast.specs.declared.conditions.Test.{Test, fold-roll-Test}
use Rattle.c_ast.specs.declared.conditions.Test.TheOpen as test-f
use Rattle.c_ast.specs.declared.conditions.Test.TheVariants as test
use Rattle.c_ast.specs.declared.conditions.Unary.{Unary, fold-roll-Unary}
use Rattle.c_ast.specs.declared.conditions.Unary.TheVariants as unary
use Rattle.c_ast.specs.declared.operands.Call.{Call, roll-Call, fold-roll-Call}
use Rattle.c_ast.specs.declared.operands.Name.{Name}
use Rattle.c_ast.specs.declared.operands.Operand.{Operand, fold-roll-Operand}
use Rattle.c_ast.specs.declared.operands.Operand.TheOpen as operand-f
use Rattle.c_ast.specs.declared.operands.Operand.TheVariants as operand
use Rattle.c_ast.specs.declared.operands.Path.{Path}
use Rattle.c_ast.specs.declared.simples.Simple.{Simple}
use Rattle.c_ast.specs.declared.statements.Block.{Block, roll-Block, fold-roll-Block}
use Rattle.c_ast.specs.declared.statements.Declare.{Declare}
use Rattle.c_ast.specs.declared.statements.First.{First}
use Rattle.c_ast.specs.declared.statements.Part as part
use Rattle.c_ast.specs.declared.statements.Part.TheOpen as layer
use Rattle.c_ast.specs.declared.statements.Part.TheVariants as part'
use Rattle.c_ast.specs.declared.statements.Stmt.{Stmt, Stmt-F, roll-Stmt, map-Stmt, fold-roll-Stmt}
use Rattle.c_ast.specs.declared.statements.Stmt.TheVariants as stmt
use Rattle.c_typing.specs.Callees.{maybe_callees, operand_step, call_step, operand_callees, call_callees}
use Rattle.c_typing.specs.Callees.{simple_callees}
use Rattle.c_typing.specs.Callees.{test_step, unary_step, and_step, cond_step, test_callees, unary_callees, and_callees}
use Rattle.c_typing.specs.Callees.{cond_callees, declare_callees, first_callees, part_step, block_step, stmt_step}
use Rattle.c_typing.specs.Callees.{part_callees, stmt_callees, block_callees, other_callees}
use Rattle.c_typing.specs.Texts.{Text, joined}

pub callees-Path : (p : Path) → operand_callees (operand.Path p) ≡ []
callees-Path p = ap operand_callees (sym (operand.rolls-Path p))
    ∙ fold-roll-Operand (List Text) (List Text) operand_step call_step (operand-f.Path p)

pub callees-Call : (c : Call) → operand_callees (operand.Call c) ≡ call_callees c
callees-Call c = ap operand_callees (sym (operand.rolls-Call c))
    ∙ fold-roll-Operand (List Text) (List Text) operand_step call_step (operand-f.Call c)

pub callees-Number : (n : Name) → operand_callees (operand.Number n) ≡ []
callees-Number n = ap operand_callees (sym (operand.rolls-Number n))
    ∙ fold-roll-Operand (List Text) (List Text) operand_step call_step (operand-f.Number n)

pub callees-Null : (at : Place) → operand_callees (operand.Null at) ≡ []
callees-Null at = ap operand_callees (sym (operand.rolls-Null at))
    ∙ fold-roll-Operand (List Text) (List Text) operand_step call_step (operand-f.Null at)

pub callees-True : (at : Place) → operand_callees (operand.True at) ≡ []
callees-True at = ap operand_callees (sym (operand.rolls-True at))
    ∙ fold-roll-Operand (List Text) (List Text) operand_step call_step (operand-f.True at)

pub callees-False : (at : Place) → operand_callees (operand.False at) ≡ []
callees-False at = ap operand_callees (sym (operand.rolls-False at))
    ∙ fold-roll-Operand (List Text) (List Text) operand_step call_step (operand-f.False at)

pub callees-operands : (name : Name) (operands : List Operand)
    → call_callees (roll-Call (record { name = name; operands = operands }))
    ≡ name.text ∷ joined (map operand_callees operands)
callees-operands name operands =
    fold-roll-Call (List Text) (List Text) operand_step call_step (record { name = name; operands = operands })

pub callees-Compare : (left : Operand) (equal : Bool) (right : Operand)
    → test_callees (test.Compare left equal right) ≡ operand_callees left ++ operand_callees right
callees-Compare left equal right = ap test_callees (sym (test.rolls-Compare left equal right))
    ∙ fold-roll-Test (List Text) (List Text) (List Text) (List Text) test_step unary_step and_step cond_step
    (test-f.Compare left equal right)

pub callees-Unary : (u : Unary) → test_callees (test.Unary u) ≡ unary_callees u
callees-Unary u = ap test_callees (sym (test.rolls-Unary u))
    ∙ fold-roll-Test (List Text) (List Text) (List Text) (List Text) test_step unary_step and_step cond_step
    (test-f.Unary u)

pub callees-Not : (at : Place) (u : Unary) → unary_callees (unary.Not at u) ≡ unary_callees u
callees-Not at u = ap unary_callees (sym (unary.rolls-Not at u))
    ∙ fold-roll-Unary (List Text) (List Text) (List Text) (List Text) test_step unary_step and_step cond_step
    (test-f.Not at u)

pub callees-Bracket : (at : Place) (c : Cond) → unary_callees (unary.Bracket at c) ≡ cond_callees c
callees-Bracket at c = ap unary_callees (sym (unary.rolls-Bracket at c))
    ∙ fold-roll-Unary (List Text) (List Text) (List Text) (List Text) test_step unary_step and_step cond_step
    (test-f.Bracket at c)

pub callees-Operand : (o : Operand) → unary_callees (unary.Operand o) ≡ operand_callees o
callees-Operand o = ap unary_callees (sym (unary.rolls-Operand o))
    ∙ fold-roll-Unary (List Text) (List Text) (List Text) (List Text) test_step unary_step and_step cond_step
    (test-f.Operand o)

pub callees-tests : (tests : List Test)
    → and_callees (roll-And (record { tests = tests })) ≡ joined (map test_callees tests)
callees-tests tests =
    fold-roll-And (List Text) (List Text) (List Text) (List Text) test_step unary_step and_step cond_step
    (record { tests = tests })

pub callees-ands : (ands : List And) → cond_callees (roll-Cond (record { ands = ands })) ≡ joined (map and_callees ands)
callees-ands ands =
    fold-roll-Cond (List Text) (List Text) (List Text) (List Text) test_step unary_step and_step cond_step
    (record { ands = ands })

pub callees-Declare : (d : Declare) → part_callees (part'.Declare d) ≡ declare_callees d
callees-Declare d = ap part_callees (sym (part'.rolls-Declare d))
    ∙ part.fold-roll-Part (List Text) (List Text) (List Text) part_step stmt_step block_step (layer.Declare d)

pub callees-Stmt : (s : Stmt) → part_callees (part'.Stmt s) ≡ stmt_callees s
callees-Stmt s = ap part_callees (sym (part'.rolls-Stmt s))
    ∙ part.fold-roll-Part (List Text) (List Text) (List Text) part_step stmt_step block_step (layer.Stmt s)

pub callees-parts : (at close : Place) (parts : List part.Part)
    → block_callees (roll-Block (record { at = at; parts = parts; close = close }))
    ≡ joined (map part_callees parts)
callees-parts at close parts =
    fold-roll-Block (List Text) (List Text) (List Text) part_step stmt_step block_step
    (record { at = at; parts = parts; close = close })

-- the functions that a statement calls, by its layer
callees_layer : (y : Stmt-F part.Part Stmt Block) {s : Stmt} → roll-Stmt y ≡ s → stmt_callees s
    ≡ stmt_step (map-Stmt _ _ _ _ _ _ part_callees stmt_callees block_callees y)
callees_layer y is = ap stmt_callees (sym is)
    ∙ fold-roll-Stmt (List Text) (List Text) (List Text) part_step stmt_step block_step y

pub callees-Empty-stmt : (at : Place) → stmt_callees (stmt.Empty at) ≡ []
callees-Empty-stmt at = callees_layer (layer.Empty at) (stmt.rolls-Empty at)

pub callees-Block-stmt : (b : Block) → stmt_callees (stmt.Block b) ≡ block_callees b
callees-Block-stmt b = callees_layer (layer.Block b) (stmt.rolls-Block b)

pub callees-Simple-stmt : (s : Simple) → stmt_callees (stmt.Simple s) ≡ simple_callees s
callees-Simple-stmt s = callees_layer (layer.Simple s) (stmt.rolls-Simple s)

pub callees-If-stmt : (at : Place) (c : Cond) (s : Stmt) (other : Option Stmt)
    → stmt_callees (stmt.If at c s other) ≡ cond_callees c ++ stmt_callees s ++ other_callees other
callees-If-stmt at c s None = callees_layer (layer.If at c s None) (stmt.rolls-If at c s None)
callees-If-stmt at c s (Some o) = callees_layer (layer.If at c s (Some o)) (stmt.rolls-If at c s (Some o))

pub callees-While-stmt : (at : Place) (c : Cond) (body : Stmt)
    → stmt_callees (stmt.While at c body) ≡ cond_callees c ++ stmt_callees body
callees-While-stmt at c body = callees_layer (layer.While at c body) (stmt.rolls-While at c body)

pub callees-Do-stmt : (at : Place) (body : Stmt) (c : Cond)
    → stmt_callees (stmt.Do at body c) ≡ stmt_callees body ++ cond_callees c
callees-Do-stmt at body c = callees_layer (layer.Do at body c) (stmt.rolls-Do at body c)

pub callees-For-stmt : (at : Place) (f : First) (c : Option Cond) (next : Option Simple) (body : Stmt)
    → stmt_callees (stmt.For at f c next body) ≡ first_callees f ++ maybe_callees cond_callees c
    ++ maybe_callees simple_callees next ++ stmt_callees body
callees-For-stmt at f c next body = callees_layer (layer.For at f c next body) (stmt.rolls-For at f c next body)

pub callees-Return-stmt : (at : Place) (o : Option Operand)
    → stmt_callees (stmt.Return at o) ≡ maybe_callees operand_callees o
callees-Return-stmt at o = callees_layer (layer.Return at o) (stmt.rolls-Return at o)

pub callees-Break-stmt : (at : Place) → stmt_callees (stmt.Break at) ≡ []
callees-Break-stmt at = callees_layer (layer.Break at) (stmt.rolls-Break at)

pub callees-Continue-stmt : (at : Place) → stmt_callees (stmt.Continue at) ≡ []
callees-Continue-stmt at = callees_layer (layer.Continue at) (stmt.rolls-Continue at)

pub callees-Assert-stmt : (at : Place) (c : Cond) → stmt_callees (stmt.Assert at c) ≡ cond_callees c
callees-Assert-stmt at c = callees_layer (layer.Assert at c) (stmt.rolls-Assert at c)

pub ruleset callee_layers = (
  callees-Path,
  callees-Call,
  callees-Number,
  callees-Null,
  callees-True,
  callees-False,
  callees-operands,
  callees-Compare,
  callees-Unary,
  callees-Not,
  callees-Bracket,
  callees-Operand,
  callees-tests,
  callees-ands,
  callees-Declare,
  callees-Stmt,
  callees-parts,
  callees-Empty-stmt,
  callees-Block-stmt,
  callees-Simple-stmt,
  callees-If-stmt,
  callees-While-stmt,
  callees-Do-stmt,
  callees-For-stmt,
  callees-Return-stmt,
  callees-Break-stmt,
  callees-Continue-stmt,
  callees-Assert-stmt,
)
