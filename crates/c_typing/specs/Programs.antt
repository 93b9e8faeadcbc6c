-- The program that a file is. It is one for each file; where a rule is broken it has 0 or a null pointer in the place
-- of what is not there, and nobody sees it.
use Rattle.std.specs.Prelude.{ℕ, Bool, true, false, not, cond, nat_eq, List, [], ◌∷◌, ◌++◌, map, length, Option, Some}
use Rattle.std.specs.Prelude.{None}
use Rattle.fore_base.specs.declared.place.Place.{Place}
use Rattle.fore_base.specs.declared.shape.FieldDef.{FieldDef}
use Rattle.fore_base.specs.declared.shape.FieldKind.{FieldKind}
use Rattle.fore_base.specs.declared.shape.FieldKind.TheVariants as field_kind
use Rattle.fore_base.specs.declared.shape.Shape.{Shape}
use Rattle.c_ast.specs.declared.conditions.And.{And, fold-And, And-F}
use Rattle.c_ast.specs.declared.conditions.Cond as tree
use Rattle.c_ast.specs.declared.conditions.Test.{Test, fold-Test, Test-F}
use Rattle.c_ast.specs.declared.conditions.Test.TheOpen as test
use Rattle.c_ast.specs.declared.conditions.Unary.{Unary, fold-Unary, Unary-F}
use Rattle.c_ast.specs.declared.items.Head.{Head}
use Rattle.c_ast.specs.declared.items.Item.{Item}
use Rattle.c_ast.specs.declared.items.Item.TheVariants as item
use Rattle.c_ast.specs.declared.items.Param.{Param}
use Rattle.c_ast.specs.declared.items.Unit as whole
use Rattle.c_ast.specs.declared.operands.Call.{Call, out-Call}
use Rattle.c_ast.specs.declared.operands.Operand.{Operand, Operand-F, out-Operand}
use Rattle.c_ast.specs.declared.operands.Operand.TheOpen as operand
use Rattle.c_ast.specs.declared.simples.Rhs.{Rhs}
use Rattle.c_ast.specs.declared.simples.Rhs.TheVariants as rhs
use Rattle.c_ast.specs.declared.simples.Simple.{Simple}
use Rattle.c_ast.specs.declared.simples.Simple.TheVariants as simple
use Rattle.c_ast.specs.declared.statements.Block.{Block, para-Block, Block-F}
use Rattle.c_ast.specs.declared.statements.Declarator.{Declarator}
use Rattle.c_ast.specs.declared.statements.Declare.{Declare}
use Rattle.c_ast.specs.declared.statements.First.{First}
use Rattle.c_ast.specs.declared.statements.First.TheVariants as first
use Rattle.c_ast.specs.declared.statements.Part as part
use Rattle.c_ast.specs.declared.statements.Part.TheOpen as stmt
use Rattle.c_ast.specs.declared.statements.Stmt as stmts
use Rattle.c_types.specs.Bodies.{body_declares}
use Rattle.c_types.specs.Program.{Program}
use Rattle.c_types.specs.declared.program.Act.{Act}
use Rattle.c_types.specs.declared.program.Act.TheVariants.{SetPtr, SetData, Free, Error, Halt, Return, Leave, Break}
use Rattle.c_types.specs.declared.program.Act.TheVariants.{Continue}
use Rattle.c_types.specs.declared.program.Arg.{Arg}
use Rattle.c_types.specs.declared.program.Arg.TheVariants as arg
use Rattle.c_types.specs.declared.program.Atom.{Atom}
use Rattle.c_types.specs.declared.program.Atom.TheVariants as atom
use Rattle.c_types.specs.declared.program.Cond.{Cond}
use Rattle.c_types.specs.declared.program.Cond.TheVariants as formula
use Rattle.c_types.specs.declared.program.DataOp.{DataOp}
use Rattle.c_types.specs.declared.program.DataOp.TheVariants as data_op
use Rattle.c_types.specs.declared.program.DataPath.{DataPath}
use Rattle.c_types.specs.declared.program.DataRhs.{DataRhs}
use Rattle.c_types.specs.declared.program.DataRhs.TheVariants as data_rhs
use Rattle.c_types.specs.declared.program.Dest.{Dest}
use Rattle.c_types.specs.declared.program.Dest.TheVariants as dest
use Rattle.c_types.specs.declared.program.Func.{Func}
use Rattle.c_types.specs.declared.program.PtrOp.{PtrOp}
use Rattle.c_types.specs.declared.program.PtrOp.TheVariants as ptr_op
use Rattle.c_types.specs.declared.program.PtrRhs.{PtrRhs}
use Rattle.c_types.specs.declared.program.PtrRhs.TheVariants as ptr_rhs
use Rattle.c_types.specs.declared.program.Stmt.{Stmt}
use Rattle.c_types.specs.declared.program.Stmt.TheVariants.{Do, Branch, While, DoWhile, For, Group, Call as Calling}
use Rattle.c_types.specs.declared.program.VarRef.{VarRef}
use Rattle.c_typing.specs.Functions.{called_number, function_at, params_in}
use Rattle.c_typing.specs.Globals.{Globals, globals_of, param_kind, params_of, result_at, struct_names}
use Rattle.c_typing.specs.Meanings.{variable, meaning_of_path, meaning_of_operand, place_of_operand}
use Rattle.c_typing.specs.Profile.{errors, is_main}
use Rattle.c_typing.specs.Scopes.{Var, Scope, empty_scope, innermost, or_zero, opened, declared, kind_of, next_ref}
use Rattle.c_typing.specs.Scopes.{declarators_of, past_declare, past_part, past_stmt, begun, result_of, past_result}
use Rattle.c_typing.specs.Scopes.{param_name, past_head, past_item, past_items}
use Rattle.c_typing.specs.Rules.{is_pointer}
use Rattle.c_typing.specs.Texts.{Text, has}
use Rattle.c_typing.specs.declared.meaning.Kind.{Kind}
use Rattle.c_typing.specs.declared.meaning.Kind.TheVariants as kind
use Rattle.c_typing.specs.declared.meaning.Meaning.{Meaning}
use Rattle.c_typing.specs.declared.meaning.Meaning.TheVariants as meaning
use Rattle.c_typing.specs.declared.meaning.Member.{Member}
use Rattle.c_typing.specs.declared.meaning.StructDef.{StructDef}

-- Assignments

abbrev pub ptr_rhs_of : Meaning → PtrRhs
ptr_rhs_of (meaning.Pointer p to) = ptr_rhs.Path p
ptr_rhs_of (meaning.Datum d) = ptr_rhs.Null
ptr_rhs_of (meaning.Known k) = ptr_rhs.Null
ptr_rhs_of meaning.Zero = ptr_rhs.Null
ptr_rhs_of meaning.Null = ptr_rhs.Null
ptr_rhs_of meaning.Call = ptr_rhs.Null
ptr_rhs_of meaning.Broken = ptr_rhs.Null

-- a call as a right side is a choice
abbrev pub data_rhs_of : Meaning → DataRhs
data_rhs_of (meaning.Pointer p to) = data_rhs.Known 0
data_rhs_of (meaning.Datum d) = data_rhs.Path d
data_rhs_of (meaning.Known k) = data_rhs.Known k
data_rhs_of meaning.Zero = data_rhs.Known 0
data_rhs_of meaning.Null = data_rhs.Known 0
data_rhs_of meaning.Call = data_rhs.Choice
data_rhs_of meaning.Broken = data_rhs.Known 0

-- what is assigned to this target
abbrev pub assigned : Meaning → PtrRhs → DataRhs → Act
assigned (meaning.Pointer p to) ptr datum = SetPtr p ptr
assigned (meaning.Datum d) ptr datum = SetData d datum
assigned (meaning.Known k) ptr datum = Halt
assigned meaning.Zero ptr datum = Halt
assigned meaning.Null ptr datum = Halt
assigned meaning.Call ptr datum = Halt
assigned meaning.Broken ptr datum = Halt

-- the struct to which a target points
abbrev pub target_struct : Meaning → ℕ
target_struct (meaning.Pointer p to) = or_zero to
target_struct (meaning.Datum d) = 0
target_struct (meaning.Known k) = 0
target_struct meaning.Zero = 0
target_struct meaning.Null = 0
target_struct meaning.Call = 0
target_struct meaning.Broken = 0

-- Operands of comparisons, and atoms

abbrev pub ptr_op_of : Meaning → PtrOp
ptr_op_of (meaning.Pointer p to) = ptr_op.Path p
ptr_op_of (meaning.Datum d) = ptr_op.Null
ptr_op_of (meaning.Known k) = ptr_op.Null
ptr_op_of meaning.Zero = ptr_op.Null
ptr_op_of meaning.Null = ptr_op.Null
ptr_op_of meaning.Call = ptr_op.Null
ptr_op_of meaning.Broken = ptr_op.Null

abbrev pub data_op_of : Meaning → DataOp
data_op_of (meaning.Pointer p to) = data_op.Known 0
data_op_of (meaning.Datum d) = data_op.Path d
data_op_of (meaning.Known k) = data_op.Known k
data_op_of meaning.Zero = data_op.Known 0
data_op_of meaning.Null = data_op.Known 0
data_op_of meaning.Call = data_op.Known 0
data_op_of meaning.Broken = data_op.Known 0

-- The left operand says what is compared, and if it is 0 the right one does: pointers, or data. 0 with 0 is a
-- comparison of data.
abbrev pub compares_pointers : Meaning → Meaning → Bool
compares_pointers (meaning.Pointer p to) r = true
compares_pointers (meaning.Datum d) r = false
compares_pointers (meaning.Known k) r = false
compares_pointers meaning.Zero r = is_pointer r
compares_pointers meaning.Null r = true
compares_pointers meaning.Call r = false
compares_pointers meaning.Broken r = false

abbrev pub comparison : Bool → Meaning → Meaning → Atom
comparison equal l r = cond (compares_pointers l r) (atom.Ptr (ptr_op_of l) (ptr_op_of r) equal)
    (atom.Data (data_op_of l) (data_op_of r) equal)

-- What stands alone as a condition: a pointer is true if it is not null, a datum if it is not 0; constants are
-- literals, and NULL is a false one.
abbrev pub truth : Meaning → Atom
truth (meaning.Pointer p to) = atom.Ptr (ptr_op.Path p) ptr_op.Null false
truth (meaning.Datum d) = atom.Data (data_op.Path d) (data_op.Known 0) false
truth (meaning.Known k) = atom.Known (not (nat_eq k 0))
truth meaning.Zero = atom.Known false
truth meaning.Null = atom.Known false
truth meaning.Call = atom.Choice
truth meaning.Broken = atom.Known false

-- `&&` and `||` of their parts. Each has one in a text; of none `&&` is true and `||` is false.
abbrev pub all_of : List Cond → Cond
all_of [] = formula.Atom (atom.Known true) 0
all_of (c ∷ cs) = formula.All (c ∷ cs)

abbrev pub any_of : List Cond → Cond
any_of [] = formula.Atom (atom.Known false) 0
any_of (c ∷ cs) = formula.Any (c ∷ cs)

-- `return` looks at a datum; a constant is nothing to look at
abbrev pub returned : Meaning → Option DataPath
returned (meaning.Pointer p to) = None
returned (meaning.Datum d) = Some d
returned (meaning.Known k) = None
returned meaning.Zero = None
returned meaning.Null = None
returned meaning.Call = None
returned meaning.Broken = None

abbrev pub freed : Meaning → Act
freed (meaning.Pointer p to) = Free p
freed (meaning.Datum d) = Halt
freed (meaning.Known k) = Halt
freed meaning.Zero = Halt
freed meaning.Null = Halt
freed meaning.Call = Halt
freed meaning.Broken = Halt

-- `__VERIFIER_error` and `reach_error` are errors, `exit` and `abort` end the run
abbrev pub call_act : Text → Act
call_act x = cond (has x errors) Error Halt

-- The numbers of a block's variables, in order

abbrev pub ptr_before : Kind → ℕ → List ℕ
ptr_before (kind.Points to) n = n ∷ []
ptr_before kind.Datum n = []

abbrev pub datum_before : Kind → ℕ → List ℕ
datum_before (kind.Points to) n = []
datum_before kind.Datum n = n ∷ []

abbrev pub ptrs_of : List Var → List ℕ
ptrs_of [] = []
ptrs_of (v ∷ vs) = ptrs_of vs ++ ptr_before v.kind v.number

abbrev pub datums_of : List Var → List ℕ
datums_of [] = []
datums_of (v ∷ vs) = datums_of vs ++ datum_before v.kind v.number

-- what this statement is, with the variables of the innermost block that is open after it
abbrev pub grouped : List Stmt → Scope → ℕ → Stmt
grouped body scope line = Group body (ptrs_of (innermost scope.blocks)) (datums_of (innermost scope.blocks)) line

-- Calls

-- what is given to a parameter, or returned as a result, of this kind
abbrev pub arg_of : Kind → Meaning → Arg
arg_of (kind.Points to) m = arg.Ptr (ptr_op_of m)
arg_of kind.Datum m = arg.Data (data_op_of m)

-- what the result of a call is assigned to
abbrev pub dest_of : Meaning → Option Dest
dest_of (meaning.Pointer p to) = Some (dest.Ptr p)
dest_of (meaning.Datum d) = Some (dest.Data d)
dest_of (meaning.Known k) = None
dest_of meaning.Zero = None
dest_of meaning.Null = None
dest_of meaning.Call = None
dest_of meaning.Broken = None

abbrev pub call_in : Operand-F Operand Call → Option Call
call_in (operand.Path p) = None
call_in (operand.Call c) = Some c
call_in (operand.Number n) = None
call_in (operand.Null at) = None
call_in (operand.True at) = None
call_in (operand.False at) = None

-- the call that a right side is, if it is one
abbrev pub right_call : Rhs → Option Call
right_call (rhs.Operand o) = call_in (out-Operand o)
right_call (rhs.Malloc cast at size) = None

-- the variable that the next declarator of this kind declares
abbrev pub next_variable : Scope → Kind → Meaning
next_variable scope (kind.Points to) = variable (kind.Points to) (length scope.vars)
next_variable scope kind.Datum = variable kind.Datum (length scope.data_vars)

module _ (g : Globals) where
  abbrev pub assignment : Scope → Meaning → Rhs → Act
  assignment scope target (rhs.Operand o) =
      assigned target (ptr_rhs_of (meaning_of_operand g scope o)) (data_rhs_of (meaning_of_operand g scope o))
  assignment scope target (rhs.Malloc cast at size) =
      assigned target (ptr_rhs.New (target_struct target)) (data_rhs.Known 0)

  -- an argument for each parameter, in order
  abbrev pub args_of : Scope → List Kind → List Operand → List Arg
  args_of scope [] os = []
  args_of scope (k ∷ ks) [] = []
  args_of scope (k ∷ ks) (o ∷ os) = arg_of k (meaning_of_operand g scope o) ∷ args_of scope ks os

  -- a call of the function of the file of this number, and where there is none this act
  abbrev pub call_stmt : Scope → Option ℕ → List Operand → Option Dest → Act → ℕ → Stmt
  call_stmt scope None os to act line = Do act line
  call_stmt scope (Some f) os to act line = Calling f (args_of scope (params_in (function_at g (Some f))) os) to line

  -- what is assigned may be the result of a call
  abbrev pub stored : Scope → Option Call → Option Dest → Act → ℕ → Stmt
  stored scope None to act line = Do act line
  stored scope (Some c) to act line =
      call_stmt scope (called_number g (out-Call c).name.text) (out-Call c).operands to act line

  abbrev pub assign_stmt : Scope → Meaning → Rhs → ℕ → Stmt
  assign_stmt scope target r line = stored scope (right_call r) (dest_of target) (assignment scope target r) line

  module _ (scope : Scope) where
    abbrev pub simple_stmts : Simple → List Stmt
    simple_stmts (simple.Assign to from) =
        assign_stmt scope (meaning_of_path g scope to) from to.head.at.line ∷ []
    simple_stmts (simple.Call c) =
        call_stmt scope (called_number g (out-Call c).name.text) (out-Call c).operands None
        (call_act (out-Call c).name.text) (out-Call c).name.at.line ∷ []
    simple_stmts (simple.Free at p) = Do (freed (meaning_of_path g scope p)) at.line ∷ []

    -- Conditions: brackets are nothing

    abbrev pub test_step : Test-F Cond Cond Cond Cond → Cond
    test_step (test.Compare left equal right) =
        formula.Atom (comparison equal (meaning_of_operand g scope left) (meaning_of_operand g scope right))
        (place_of_operand left).line
    test_step (test.Unary u) = u

    abbrev pub unary_step : Unary-F Cond Cond Cond Cond → Cond
    unary_step (test.Not at u) = formula.Not u
    unary_step (test.Bracket at c) = c
    unary_step (test.Operand o) = formula.Atom (truth (meaning_of_operand g scope o)) (place_of_operand o).line

    abbrev pub and_step : And-F Cond Cond Cond Cond → Cond
    and_step a = all_of a.tests

    abbrev pub cond_step : tree.Cond-F Cond Cond Cond Cond → Cond
    cond_step c = any_of c.ands

    abbrev pub test_of : Test → Cond
    test_of = fold-Test Cond Cond Cond Cond test_step unary_step and_step cond_step

    abbrev pub unary_of : Unary → Cond
    unary_of = fold-Unary Cond Cond Cond Cond test_step unary_step and_step cond_step

    abbrev pub and_of : And → Cond
    and_of = fold-And Cond Cond Cond Cond test_step unary_step and_step cond_step

    abbrev pub cond_of : tree.Cond → Cond
    cond_of = tree.fold-Cond Cond Cond Cond Cond test_step unary_step and_step cond_step

    -- a condition that is missing is true
    abbrev pub maybe_cond : ℕ → Option tree.Cond → Cond
    maybe_cond line None = formula.Atom (atom.Known true) line
    maybe_cond line (Some c) = cond_of c

    abbrev pub maybe_simple : Option Simple → List Stmt
    maybe_simple None = []
    maybe_simple (Some s) = simple_stmts s

    abbrev pub returned_operand : Option Operand → Option DataPath
    returned_operand None = None
    returned_operand (Some o) = returned (meaning_of_operand g scope o)

    -- the value that a function returns, whose result is of this kind
    abbrev pub returned_value : Option Kind → Option Operand → Option Arg
    returned_value None o = None
    returned_value (Some k) None = None
    returned_value (Some k) (Some o) = Some (arg_of k (meaning_of_operand g scope o))

    -- a `return` in the function of this number, or in `main`
    abbrev pub return_act : Option ℕ → Option Operand → Act
    return_act None o = Return (returned_operand o)
    return_act (Some f) o = Leave f (returned_value (result_at g f) o)

  -- Declarations: what has an initialiser is assigned, on the line of its name

  abbrev pub initialised : Scope → Meaning → ℕ → Option Rhs → List Stmt
  initialised scope target line None = []
  initialised scope target line (Some r) = assign_stmt scope target r line ∷ []

  abbrev pub declarators_stmts : Kind → List Declarator → Scope → List Stmt
  declarators_stmts k [] scope = []
  declarators_stmts k (d ∷ ds) scope =
      initialised (declared scope d.name.text k) (next_variable scope k) d.name.at.line d.from
      ++ declarators_stmts k ds (declared scope d.name.text k)

  abbrev pub declare_stmts : Declare → Scope → List Stmt
  declare_stmts d = declarators_stmts (kind_of g d) (declarators_of d)

  -- Statements, given what is in scope

  abbrev pub Stmts : Type 0
  Stmts = Scope → List Stmt

  abbrev pub part_step : part.Part-F (part.Part × Stmts) (stmts.Stmt × Stmts) (Block × Stmts) → Stmts
  part_step (stmt.Declare d) scope = declare_stmts d scope
  part_step (stmt.Stmt s) scope = s.1 scope

  abbrev pub each_stmts : List (part.Part × Stmts) → Stmts
  each_stmts [] scope = []
  each_stmts (p ∷ ps) scope = p.1 scope ++ each_stmts ps (past_part g p.0 scope)

  abbrev pub past_all : List (part.Part × Stmts) → Scope → Scope
  past_all [] scope = scope
  past_all (p ∷ ps) scope = past_all ps (past_part g p.0 scope)

  -- a block, whose variables die on the line of its closing brace
  abbrev pub block_step : Block-F (part.Part × Stmts) (stmts.Stmt × Stmts) (Block × Stmts) → Stmts
  block_step b scope = grouped (each_stmts b.parts (opened scope)) (past_all b.parts (opened scope)) b.close.line ∷ []

  abbrev pub else_stmts : Option (stmts.Stmt × Stmts) → Stmts
  else_stmts None scope = []
  else_stmts (Some s) scope = s.1 scope

  abbrev pub loop_of : Place → Option tree.Cond → Option Simple → (stmts.Stmt × Stmts) → Scope → Stmt
  loop_of at c next body scope = For (maybe_cond scope at.line c) (maybe_simple scope next) (body.1 scope)

  -- A `for` that declares is a block of its own, whose variables die on its line. What stands first otherwise stands
  -- before the loop.
  abbrev pub for_stmts : First → Place → Option tree.Cond → Option Simple → (stmts.Stmt × Stmts) → Stmts
  for_stmts (first.Declare d) at c next body scope =
      grouped (declare_stmts d (opened scope) ++ loop_of at c next body (past_declare g d (opened scope)) ∷ [])
      (past_declare g d (opened scope)) at.line ∷ []
  for_stmts (first.Simple s) at c next body scope = simple_stmts (opened scope) s
      ++ loop_of at c next body (opened scope) ∷ []
  for_stmts first.Nothing at c next body scope = loop_of at c next body (opened scope) ∷ []

  abbrev pub stmt_step : stmts.Stmt-F (part.Part × Stmts) (stmts.Stmt × Stmts) (Block × Stmts) → Stmts
  stmt_step (stmt.Empty at) scope = []
  stmt_step (stmt.Block b) scope = b.1 scope
  stmt_step (stmt.Simple s) scope = simple_stmts scope s
  stmt_step (stmt.If at c then_ other) scope =
      Branch (cond_of scope c) (then_.1 scope) (else_stmts other (past_stmt g then_.0 scope)) ∷ []
  stmt_step (stmt.While at c body) scope = While (cond_of scope c) (body.1 scope) ∷ []
  stmt_step (stmt.Do at body c) scope = DoWhile (cond_of scope c) (body.1 scope) ∷ []
  stmt_step (stmt.For at f c next body) scope = for_stmts f at c next body scope
  stmt_step (stmt.Return at o) scope = Do (return_act scope scope.home o) at.line ∷ []
  stmt_step (stmt.Break at) scope = Do Break at.line ∷ []
  stmt_step (stmt.Continue at) scope = Do Continue at.line ∷ []
  stmt_step (stmt.Assert at c) scope = Branch (cond_of scope c) [] (Do Error at.line ∷ []) ∷ []

  abbrev pub part_stmts : part.Part → Stmts
  part_stmts = part.para-Part Stmts Stmts Stmts part_step stmt_step block_step

  abbrev pub stmt_stmts : stmts.Stmt → Stmts
  stmt_stmts = stmts.para-Stmt Stmts Stmts Stmts part_step stmt_step block_step

  abbrev pub block_stmts : Block → Stmts
  block_stmts = para-Block Stmts Stmts Stmts part_step stmt_step block_step

  abbrev pub parts_stmts : List part.Part → Stmts
  parts_stmts [] scope = []
  parts_stmts (p ∷ ps) scope = part_stmts p scope ++ parts_stmts ps (past_part g p scope)

  abbrev pub other_stmts : Option stmts.Stmt → Stmts
  other_stmts None scope = []
  other_stmts (Some s) scope = stmt_stmts s scope

-- Structs

abbrev pub field_kind_of : Kind → FieldKind
field_kind_of (kind.Points to) = field_kind.Pointer (or_zero to)
field_kind_of kind.Datum = field_kind.Datum

abbrev pub field_of : Member → FieldDef
field_of m = record { name = m.name; kind = field_kind_of m.kind }

abbrev pub shape_of : StructDef → Shape
shape_of s = record { name = s.name; fields = map field_of s.fields }

-- Functions

abbrev pub result_ref : Option Kind → Scope → Option VarRef
result_ref None scope = None
result_ref (Some k) scope = Some (next_ref k scope)

module _ (g : Globals) where
  -- the variables of parameters
  abbrev pub param_refs : List Param → Scope → List VarRef
  param_refs [] scope = []
  param_refs (p ∷ ps) scope = next_ref (param_kind (struct_names g) p) scope
      ∷ param_refs ps (declared scope (param_name p).text (param_kind (struct_names g) p))

  -- the statements of a body
  abbrev pub body_stmts : Head → Block → Scope → List Stmt
  body_stmts head body scope = block_stmts g body (past_head g head scope)

  abbrev pub func_of : Head → Block → Scope → Func
  func_of head body scope = record {
    name = head.name.text;
    params = param_refs (params_of head.params) (opened (past_result g head scope));
    locals = body_declares (body_stmts head body scope);
    result = result_ref (result_of g head) (begun g head scope);
    body = body_stmts head body scope;
  }

  -- the functions besides `main`
  abbrev pub funcs_in : List Item → Scope → List Func
  funcs_in [] scope = []
  funcs_in (item.Struct at name fields ∷ is) scope = funcs_in is scope
  funcs_in (item.Enum at name values ∷ is) scope = funcs_in is scope
  funcs_in (item.Proto outer head ∷ is) scope = funcs_in is scope
  funcs_in (item.Function head body ∷ is) scope =
      cond (is_main head) [] (func_of head body scope ∷ []) ++ funcs_in is (past_item g (item.Function head body) scope)
  funcs_in (item.Declare d ∷ is) scope = funcs_in is scope

  -- the body of the first `main`
  abbrev pub main_in : List Item → Scope → List Stmt
  main_in [] scope = []
  main_in (item.Struct at name fields ∷ is) scope = main_in is scope
  main_in (item.Enum at name values ∷ is) scope = main_in is scope
  main_in (item.Proto outer head ∷ is) scope = main_in is scope
  main_in (item.Function head body ∷ is) scope =
      cond (is_main head) (body_stmts head body scope) (main_in is (past_item g (item.Function head body) scope))
  main_in (item.Declare d ∷ is) scope = main_in is scope

  -- the variables of all functions are the program's
  abbrev pub program_in : List Item → Program
  program_in items = record {
    shapes = record { structs = map shape_of g.structs };
    vars = (past_items g items empty_scope).vars;
    data_vars = (past_items g items empty_scope).data_vars;
    funcs = funcs_in items empty_scope;
    body = main_in items empty_scope;
  }

unfoldable pub program_of : whole.Unit → Program
program_of u = program_in (globals_of u.items) u.items
