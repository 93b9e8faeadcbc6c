-- Rows on the programs of files with functions.
use Rattle.std.proofs.Common.{◌≡◌, ℕ, false, List, [], ◌∷◌, Some, None, codes, refl}
use Rattle.c_ast.specs.declared.conditions.Test.TheVariants as test
use Rattle.c_ast.specs.declared.conditions.Unary.TheVariants as unary
use Rattle.c_ast.specs.declared.items.Item.TheVariants as item
use Rattle.c_ast.specs.declared.items.Param.TheVariants as param
use Rattle.c_ast.specs.declared.items.Params.TheVariants as params
use Rattle.c_ast.specs.declared.items.ReturnType.TheVariants as gives
use Rattle.c_ast.specs.declared.operands.Operand.TheVariants as operand
use Rattle.c_ast.specs.declared.simples.Rhs.TheVariants as rhs
use Rattle.c_ast.specs.declared.simples.Simple.TheVariants as simple
use Rattle.c_ast.specs.declared.statements.Data.TheVariants as data'
use Rattle.c_ast.specs.declared.statements.Declare.TheVariants as declare
use Rattle.c_ast.specs.declared.statements.First.TheVariants as first
use Rattle.c_ast.specs.declared.statements.Part.TheVariants as part'
use Rattle.c_ast.specs.declared.statements.Stmt.TheVariants as stmt
use Rattle.c_types.proofs.Layers.{declares-Do, declares-Call, declares-Group}
use Rattle.c_typing.specs.Globals.{Globals}
use Rattle.c_typing.specs.declared.meaning.Kind.TheVariants.{Points, Datum}
use Rattle.c_typing.proofs.ConditionLayers.{condition_layers}
use Rattle.c_typing.proofs.ProgramLayers.{program_layers}
use Rattle.c_typing.proofs.ScopeLayers.{scope_layers}
use Rattle.c_typing.proofs.Rows.Forms.{at, name, var, arrow, path, call, number, condition, conjunction, plain, begun}
use Rattle.c_typing.proofs.Rows.Forms.{block, head, unit, file, here}
use Rattle.c_types.specs.declared.program.Act.TheVariants.{SetData, Halt, Return, Leave}
use Rattle.c_types.specs.declared.program.Arg.TheVariants as arg
use Rattle.c_types.specs.declared.program.Atom.TheVariants as atom
use Rattle.c_types.specs.declared.program.Cond.TheVariants.{Any, All}
use Rattle.c_types.specs.declared.program.Cond.TheVariants as formula
use Rattle.c_types.specs.declared.program.DataOp.TheVariants as data_op
use Rattle.c_types.specs.declared.program.DataPath.TheVariants.{Var, Field}
use Rattle.c_types.specs.declared.program.DataRhs.TheVariants as data_rhs
use Rattle.c_types.specs.declared.program.Dest.TheVariants as dest
use Rattle.c_types.specs.declared.program.PtrOp.TheVariants as ptr_op
use Rattle.c_types.specs.declared.program.Stmt.TheVariants.{Do, For, Group, Call}
use Rattle.c_types.specs.declared.program.VarRef.TheVariants as ref
use Rattle.c_typing.specs.Programs.{program_of, stmt_stmts, func_of}
use Rattle.c_types.specs.declared.program.Path.{Path}

-- a file with int f(int a, struct node *p), void g(void), struct item *h(struct item *q) and main
abbrev own : Globals
own = record file {
  functions =
      record { name = codes "f"; result = Some Datum; params = Datum ∷ Points (Some 0) ∷ [] }
      ∷ record { name = codes "g"; result = None; params = [] }
      ∷ record { name = codes "h"; result = Some (Points (Some 1)); params = Points (Some 1) ∷ [] } ∷ [];
  main = Some (record { name = codes "main"; result = Some Datum; params = [] });
  calls = [] ∷ [] ∷ [] ∷ [] ∷ [];
}

-- the pointer variable of this number, and fields that lead on
abbrev ptr : ℕ → List ℕ → Path
ptr x fields = record { var = x; fields = fields }

-- Calls: the line is that of the statement or of the declared name

-- f(x, p->next);
statement_call : stmt_stmts own (stmt.Simple (simple.Call (call (codes "f") 200 ((operand.Path (var (codes "x") 202))
    ∷ (operand.Path (path (codes "p") 204 (arrow (codes "next") 205 ∷ []))) ∷ [])))) here
    ≡ Call 0 (arg.Data (data_op.Path (Var 0)) ∷ arg.Ptr (ptr_op.Path (ptr 0 (0 ∷ []))) ∷ []) None 200 ∷ []
statement_call = simp (condition_layers, program_layers) refl

-- g();
call_of_nothing : stmt_stmts own (stmt.Simple (simple.Call (call (codes "g") 200 []))) here ≡ Call 1 [] None 200 ∷ []
call_of_nothing = simp (condition_layers, program_layers) refl

-- f(RED, NULL);
constants_given : stmt_stmts own (stmt.Simple (simple.Call (call (codes "f") 200 ((operand.Path (var (codes "RED")
    202)) ∷ (operand.Null (at 204)) ∷ [])))) here
    ≡ Call 0 (arg.Data (data_op.Known 0) ∷ arg.Ptr ptr_op.Null ∷ []) None 200 ∷ []
constants_given = simp (condition_layers, program_layers) refl

-- f(0, 0);
zeros_given : stmt_stmts own (stmt.Simple (simple.Call (call (codes "f") 200 ((number (codes "0") 202) ∷ (number
    (codes "0") 204) ∷ [])))) here ≡ Call 0 (arg.Data (data_op.Known 0) ∷ arg.Ptr ptr_op.Null ∷ []) None 200 ∷ []
zeros_given = simp (condition_layers, program_layers) refl

-- p->key = f(true, p);
datum_assigned : stmt_stmts own (stmt.Simple (simple.Assign (path (codes "p") 200 (arrow (codes "key") 201 ∷ []))
    (rhs.Operand (operand.Call (call (codes "f") 204 ((operand.True (at 206)) ∷ (operand.Path (var (codes "p") 208)) ∷
    [])))))) here ≡ Call 0 (arg.Data (data_op.Known 1) ∷ arg.Ptr (ptr_op.Path (ptr 0 [])) ∷ [])
    (Some (dest.Data (Field (ptr 0 []) 0))) 200 ∷ []
datum_assigned = simp (condition_layers, program_layers) refl

-- q->twin = h(r);
pointer_assigned : stmt_stmts own (stmt.Simple (simple.Assign (path (codes "q") 200 (arrow (codes "twin") 201 ∷ []))
    (rhs.Operand (operand.Call (call (codes "h") 204 ((operand.Path (var (codes "r") 206)) ∷ [])))))) here
    ≡ Call 2 (arg.Ptr (ptr_op.Path (ptr 2 [])) ∷ []) (Some (dest.Ptr (ptr 1 (1 ∷ [])))) 200 ∷ []
pointer_assigned = simp (condition_layers, program_layers) refl

-- x = f(15, NULL);
variable_assigned : stmt_stmts own (stmt.Simple (simple.Assign (var (codes "x") 200) (rhs.Operand (operand.Call (call
    (codes "f") 202 ((number (codes "15") 204) ∷ (operand.Null (at 206)) ∷ [])))))) here
    ≡ Call 0 (arg.Data (data_op.Known 15) ∷ arg.Ptr ptr_op.Null ∷ []) (Some (dest.Data (Var 0))) 200 ∷ []
variable_assigned = simp (condition_layers, program_layers) refl

-- g(1);: they are let go, in a file that is refused
operands_that_are_too_many : stmt_stmts own (stmt.Simple (simple.Call (call (codes "g") 200 ((number (codes "1") 202)
    ∷ [])))) here ≡ Call 1 [] None 200 ∷ []
operands_that_are_too_many = simp (condition_layers, program_layers) refl

-- { abort(); x = __VERIFIER_nondet_bool(); }
given_functions_stay : stmt_stmts own (stmt.Block (block 200 (part'.Stmt (stmt.Simple (simple.Call (call (codes
    "abort") 201 []))) ∷ part'.Stmt (stmt.Simple (simple.Assign (var (codes "x") 205) (rhs.Operand (operand.Call (call
    (codes "__VERIFIER_nondet_bool") 207 []))))) ∷ []) 211)) here
    ≡ Group (Do Halt 201 ∷ Do (SetData (Var 0) data_rhs.Choice) 205 ∷ []) [] [] 211 ∷ []
given_functions_stay = simp (condition_layers, program_layers, scope_layers) refl

-- { int z = f(z, NULL); struct item *s = h(s); }: a variable may be given to its own initialiser
initialisers : stmt_stmts own (stmt.Block (block 200 (part'.Declare (declare.Datums (data'.Int (at 201)) (begun (codes
    "z") 202 (rhs.Operand (operand.Call (call (codes "f") 204 ((operand.Path (var (codes "z") 206)) ∷ (operand.Null
    (at 208)) ∷ [])))) ∷ [])) ∷ part'.Declare (declare.Pointers (at 211) (name (codes "item") 212) (begun (codes "s")
    214 (rhs.Operand (operand.Call (call (codes "h") 216 ((operand.Path (var (codes "s") 218)) ∷ [])))) ∷ [])) ∷ [])
    221)) here ≡ Group
    (Call 0 (arg.Data (data_op.Path (Var 2)) ∷ arg.Ptr ptr_op.Null ∷ []) (Some (dest.Data (Var 2))) 202
    ∷ Call 2 (arg.Ptr (ptr_op.Path (ptr 3 [])) ∷ []) (Some (dest.Ptr (ptr 3 []))) 214 ∷ []) (3 ∷ []) (2 ∷ []) 221 ∷ []
initialisers = simp (condition_layers, program_layers, scope_layers) refl

-- for (x = f(1, p); x; g()) ;
calls_in_the_head_of_a_for : stmt_stmts own (stmt.For (at 200) (first.Simple (simple.Assign (var (codes "x") 202)
    (rhs.Operand (operand.Call (call (codes "f") 204 ((number (codes "1") 206) ∷ (operand.Path (var (codes "p") 208))
    ∷ [])))))) (Some (condition (conjunction (test.Unary (unary.Operand (operand.Path (var (codes "x") 211))) ∷ []) ∷
    []))) (Some (simple.Call (call (codes "g") 213 []))) (stmt.Empty (at 217))) here
    ≡ Call 0 (arg.Data (data_op.Known 1) ∷ arg.Ptr (ptr_op.Path (ptr 0 [])) ∷ []) (Some (dest.Data (Var 0))) 202
    ∷ For (Any (All (formula.Atom (atom.Data (data_op.Path (Var 0)) (data_op.Known 0) false) 211 ∷ []) ∷ []))
    (Call 1 [] None 213 ∷ []) [] ∷ []
calls_in_the_head_of_a_for = simp (condition_layers, program_layers, scope_layers) refl

-- `return` in a function leaves it, with what its result is to be

-- return x;
datum_returned : stmt_stmts own (stmt.Return (at 200) (Some (operand.Path (var (codes "x") 201)))) (record here {
  home
      = Some 0;
}) ≡ Do (Leave 0 (Some (arg.Data (data_op.Path (Var 0))))) 200 ∷ []
datum_returned = simp (condition_layers, program_layers) refl

-- return 0;
zero_returned_as_a_datum : stmt_stmts own (stmt.Return (at 200) (Some (number (codes "0") 201))) (record here {
  home =
      Some 0;
}) ≡ Do (Leave 0 (Some (arg.Data (data_op.Known 0)))) 200 ∷ []
zero_returned_as_a_datum = simp (condition_layers, program_layers) refl

-- return 0;
zero_returned_as_a_pointer : stmt_stmts own (stmt.Return (at 200) (Some (number (codes "0") 201))) (record here {
  home
      = Some 2;
}) ≡ Do (Leave 2 (Some (arg.Ptr ptr_op.Null))) 200 ∷ []
zero_returned_as_a_pointer = simp (condition_layers, program_layers) refl

-- return q->twin;
pointer_returned : stmt_stmts own (stmt.Return (at 200) (Some (operand.Path (path (codes "q") 201 (arrow (codes
    "twin") 202 ∷ []))))) (record here { home = Some 2 })
    ≡ Do (Leave 2 (Some (arg.Ptr (ptr_op.Path (ptr 1 (1 ∷ [])))))) 200 ∷ []
pointer_returned = simp (condition_layers, program_layers) refl

-- return;
nothing_returned : stmt_stmts own (stmt.Return (at 200) None) (record here { home = Some 1 })
    ≡ Do (Leave 1 None) 200 ∷ []
nothing_returned = simp (condition_layers, program_layers) refl

-- return x;
returned_from_main : stmt_stmts own (stmt.Return (at 200) (Some (operand.Path (var (codes "x") 201)))) here
    ≡ Do (Return (Some (Var 0))) 200 ∷ []
returned_from_main = simp (condition_layers, program_layers) refl

-- A function: its result is numbered before its parameters, and these before its local variables

-- int f(int a, struct node *s) { int b; return a; }
function_of_data : func_of own (head (gives.Data (data'.Int (at 200))) (name (codes "f") 201) (Some (params.List
    (param.Datum (data'.Int (at 203)) (name (codes "a") 204) ∷ param.Pointer (at 206) (name (codes "node") 207) (name
    (codes "s") 209) ∷ [])))) (block 211 (part'.Declare (declare.Datums (data'.Int (at 212)) (plain (codes "b") 213 ∷
    [])) ∷ part'.Stmt (stmt.Return (at 215) (Some (operand.Path (var (codes "a") 216)))) ∷ []) 218) here ≡ record {
      name = codes "f";
      params = ref.Data 3 ∷ ref.Ptr 3 ∷ [];
      locals = ref.Data 4 ∷ [];
      result = Some (ref.Data 2);
      body = Group (Do (Leave 0 (Some (arg.Data (data_op.Path (Var 3))))) 215 ∷ []) [] (4 ∷ []) 218 ∷ [];
    }
function_of_data =
    simp (declares-Do, declares-Call, declares-Group, condition_layers, program_layers, scope_layers) refl

-- void g(void) { struct node *s; { int b; f(b, s); } }
function_of_nothing : func_of own (head (gives.Void (at 200)) (name (codes "g") 201) (Some (params.Void (at 203))))
    (block 205 (part'.Declare (declare.Pointers (at 206) (name (codes "node") 207) (plain (codes "s") 209 ∷ [])) ∷
    part'.Stmt (stmt.Block (block 211 (part'.Declare (declare.Datums (data'.Int (at 212)) (plain (codes "b") 213 ∷
    [])) ∷ part'.Stmt (stmt.Simple (simple.Call (call (codes "f") 215 ((operand.Path (var (codes "b") 217)) ∷
    (operand.Path (var (codes "s") 219)) ∷ [])))) ∷ []) 222)) ∷ []) 223) here ≡ record {
      name = codes "g";
      params = [];
      locals = ref.Ptr 3 ∷ ref.Data 2 ∷ [];
      result = None;
      body = Group
          (Group (Call 0 (arg.Data (data_op.Path (Var 2)) ∷ arg.Ptr (ptr_op.Path (ptr 3 [])) ∷ []) None 215 ∷ []) []
          (2 ∷ []) 222 ∷ []) (3 ∷ []) [] 223 ∷ [];
    }
function_of_nothing =
    simp (declares-Do, declares-Call, declares-Group, condition_layers, program_layers, scope_layers) refl

-- struct item *h(struct item *s) { return s; }
function_of_a_pointer : func_of own (head (gives.Pointer (at 200) (name (codes "item") 201)) (name (codes "h") 203)
    (Some (params.List (param.Pointer (at 205) (name (codes "item") 206) (name (codes "s") 208) ∷ [])))) (block 210
    (part'.Stmt (stmt.Return (at 211) (Some (operand.Path (var (codes "s") 212)))) ∷ []) 214) here ≡ record {
      name = codes "h";
      params = ref.Ptr 4 ∷ [];
      locals = [];
      result = Some (ref.Ptr 3);
      body = Group (Do (Leave 2 (Some (arg.Ptr (ptr_op.Path (ptr 4 []))))) 211 ∷ []) [] [] 214 ∷ [];
    }
function_of_a_pointer =
    simp (declares-Do, declares-Call, declares-Group, condition_layers, program_layers, scope_layers) refl

-- int main(int a) { }
main_has_no_result : func_of own (head (gives.Data (data'.Int (at 200))) (name (codes "main") 201) (Some (params.List
    (param.Datum (data'.Int (at 203)) (name (codes "a") 204) ∷ [])))) (block 206 [] 207) here ≡ record {
      name = codes "main";
      params = ref.Data 2 ∷ [];
      locals = [];
      result = None;
      body = Group [] [] [] 207 ∷ [];
    }
main_has_no_result =
    simp (declares-Do, declares-Call, declares-Group, condition_layers, program_layers, scope_layers) refl

-- A program: functions besides `main` in order, the variables of all, and the body of `main`

-- int main(void) { int x; } void g(int a) { } void h(void) { int b; }
main_stands_first : program_of (unit (item.Function (head (gives.Data (data'.Int (at 200))) (name (codes "main") 201)
    (Some (params.Void (at 203)))) (block 205 (part'.Declare (declare.Datums (data'.Int (at 206)) (plain (codes "x")
    207 ∷ [])) ∷ []) 209) ∷ item.Function (head (gives.Void (at 210)) (name (codes "g") 211) (Some (params.List
    (param.Datum (data'.Int (at 213)) (name (codes "a") 214) ∷ [])))) (block 216 [] 217) ∷ item.Function (head
    (gives.Void (at 218)) (name (codes "h") 219) (Some (params.Void (at 221)))) (block 223 (part'.Declare
    (declare.Datums (data'.Int (at 224)) (plain (codes "b") 225 ∷ [])) ∷ []) 227) ∷ []) 228) ≡ record {
      shapes = record { structs = [] };
      vars = [];
      data_vars = codes "x" ∷ codes "a" ∷ codes "b" ∷ [];
      funcs =
          record {
            name = codes "g";
            params = ref.Data 1 ∷ [];
            locals = [];
            result = None;
            body = Group [] [] [] 217 ∷ [];
          }
          ∷ record {
            name = codes "h";
            params = [];
            locals = ref.Data 2 ∷ [];
            result = None;
            body = Group [] [] (2 ∷ []) 227 ∷ [];
          } ∷ [];
      body = Group [] [] (0 ∷ []) 209 ∷ [];
    }
unfolding program_of
main_stands_first = simp (declares-Group, program_layers, scope_layers) refl
