-- Rows on translation: what each statement is in a program, in the file and scope of the rows on assignments. The lines
-- of tokens are their numbers.
use Rattle.std.proofs.Common.{◌≡◌, true, false, List, [], ◌∷◌, Some, None, codes, refl}
use Rattle.c_ast.specs.declared.conditions.Test.TheVariants as test
use Rattle.c_ast.specs.declared.conditions.Unary.TheVariants as unary
use Rattle.c_ast.specs.declared.items.Field.TheVariants as field
use Rattle.c_ast.specs.declared.items.Item.TheVariants as item
use Rattle.c_ast.specs.declared.items.ReturnType.TheVariants as gives
use Rattle.c_ast.specs.declared.operands.Operand.TheVariants as operand
use Rattle.c_ast.specs.declared.simples.Rhs.TheVariants as rhs
use Rattle.c_ast.specs.declared.simples.Simple.TheVariants as simple
use Rattle.c_ast.specs.declared.simples.Size.TheVariants as size
use Rattle.c_ast.specs.declared.statements.Data.TheVariants as data'
use Rattle.c_ast.specs.declared.statements.Declare.TheVariants as declare
use Rattle.c_ast.specs.declared.statements.First.TheVariants as first
use Rattle.c_ast.specs.declared.statements.Part.TheVariants as part'
use Rattle.c_ast.specs.declared.statements.Stmt.TheVariants as stmt
use Rattle.c_types.proofs.Layers.{declares-Group}
use Rattle.c_typing.proofs.Layers.{layers}
use Rattle.c_typing.proofs.Rows.Forms.{at, name, var, arrow, path, call, number, condition, conjunction, plain, begun}
use Rattle.c_typing.proofs.Rows.Forms.{block, head, unit, file, here}
use Rattle.std.proofs.Common.{ℕ}
use Rattle.fore_base.specs.declared.shape.FieldKind.TheVariants as field_kind
use Rattle.c_ast.specs.declared.conditions.Cond as tree
use Rattle.c_ast.specs.declared.statements.Stmt as tree'
use Rattle.c_types.specs.declared.program.Act.TheVariants.{SetPtr, SetData, Free, Error, Halt, Return, Break, Continue}
use Rattle.c_types.specs.declared.program.Atom.TheVariants as atom
use Rattle.c_types.specs.declared.program.Cond.{Cond}
use Rattle.c_types.specs.declared.program.Cond.TheVariants.{Atom, Not, All, Any}
use Rattle.c_types.specs.declared.program.DataOp.TheVariants as data_op
use Rattle.c_types.specs.declared.program.DataPath.TheVariants.{Var, Field}
use Rattle.c_types.specs.declared.program.DataRhs.TheVariants as data_rhs
use Rattle.c_types.specs.declared.program.Path.{Path}
use Rattle.c_types.specs.declared.program.PtrOp.TheVariants as ptr_op
use Rattle.c_types.specs.declared.program.PtrRhs.TheVariants as ptr_rhs
use Rattle.c_types.specs.declared.program.Stmt.{Stmt}
use Rattle.c_types.specs.declared.program.Stmt.TheVariants.{Do, Branch, While, DoWhile, For, Group}
use Rattle.c_types.specs.declared.program.VarRef.TheVariants as ref
use Rattle.c_typing.specs.Programs.{stmt_stmts, cond_of, program_of}

abbrev becomes : tree'.Stmt → List Stmt
becomes s = stmt_stmts file s here

abbrev means : tree.Cond → Cond
means c = cond_of file here c

-- the pointer variable of this number, and fields that lead on
abbrev ptr : ℕ → List ℕ → Path
ptr x fields = record { var = x; fields = fields }

-- a condition of one atom
abbrev single : Cond → Cond
single c = Any (All (c ∷ []) ∷ [])

-- Assignments: the line is that of the first token

-- p = q->head;
pointer :
    becomes
    (stmt.Simple
    (simple.Assign (var (codes "p") 200)
    (rhs.Operand (operand.Path (path (codes "q") 202 (arrow (codes "head") 203 ∷ []))))))
    ≡ Do (SetPtr (ptr 0 []) (ptr_rhs.Path (ptr 1 (0 ∷ [])))) 200 ∷ []
pointer = simp layers refl

-- q->twin->head->next = p;: the first arrow first
pointer_field :
    becomes
    (stmt.Simple
    (simple.Assign
    (path (codes "q") 200 (arrow (codes "twin") 201 ∷ arrow (codes "head") 203 ∷ arrow (codes "next") 205 ∷ []))
    (rhs.Operand (operand.Path (var (codes "p") 208)))))
    ≡ Do (SetPtr (ptr 1 (1 ∷ 0 ∷ 0 ∷ [])) (ptr_rhs.Path (ptr 0 []))) 200 ∷ []
pointer_field = simp layers refl

-- r->twin = NULL;
null_pointer :
    becomes
    (stmt.Simple
    (simple.Assign (path (codes "r") 200 (arrow (codes "twin") 201 ∷ [])) (rhs.Operand (operand.Null (at 204)))))
    ≡ Do (SetPtr (ptr 2 (1 ∷ [])) ptr_rhs.Null) 200 ∷ []
null_pointer = simp layers refl

-- r = 0;
zero_pointer : becomes (stmt.Simple (simple.Assign (var (codes "r") 200) (rhs.Operand (number (codes "0") 202))))
    ≡ Do (SetPtr (ptr 2 []) ptr_rhs.Null) 200 ∷ []
zero_pointer = simp layers refl

-- q->head = malloc(sizeof(struct node));
new_node :
    becomes
    (stmt.Simple
    (simple.Assign (path (codes "q") 200 (arrow (codes "head") 201 ∷ []))
    (rhs.Malloc None (at 204) (size.Struct (at 206) (name (codes "node") 209)))))
    ≡ Do (SetPtr (ptr 1 (0 ∷ [])) (ptr_rhs.New 0)) 200 ∷ []
new_node = simp layers refl

-- r = (struct item *) malloc(sizeof *q);
new_item :
    becomes
    (stmt.Simple
    (simple.Assign (var (codes "r") 200)
    (rhs.Malloc (Some (record { at = at 202; name = name (codes "item") 204 })) (at 207)
    (size.Bare (at 209) (at 210) (var (codes "q") 211))))) ≡ Do (SetPtr (ptr 2 []) (ptr_rhs.New 1)) 200 ∷ []
new_item = simp layers refl

-- y = x;
datum : becomes (stmt.Simple (simple.Assign (var (codes "y") 200) (rhs.Operand (operand.Path (var (codes "x") 202)))))
    ≡ Do (SetData (Var 1) (data_rhs.Path (Var 0))) 200 ∷ []
datum = simp layers refl

-- q->twin->mark = p->next->key;
datum_field :
    becomes
    (stmt.Simple
    (simple.Assign (path (codes "q") 200 (arrow (codes "twin") 201 ∷ arrow (codes "mark") 203 ∷ []))
    (rhs.Operand (operand.Path (path (codes "p") 206 (arrow (codes "next") 207 ∷ arrow (codes "key") 209 ∷ []))))))
    ≡ Do (SetData (Field (ptr 1 (1 ∷ [])) 0) (data_rhs.Path (Field (ptr 0 (0 ∷ [])) 0))) 200 ∷ []
datum_field = simp layers refl

-- p->key = 15;
known :
    becomes
    (stmt.Simple
    (simple.Assign (path (codes "p") 200 (arrow (codes "key") 201 ∷ [])) (rhs.Operand (number (codes "15") 204))))
    ≡ Do (SetData (Field (ptr 0 []) 0) (data_rhs.Known 15)) 200 ∷ []
known = simp layers refl

-- x = 0;
zero_datum : becomes (stmt.Simple (simple.Assign (var (codes "x") 200) (rhs.Operand (number (codes "0") 202))))
    ≡ Do (SetData (Var 0) (data_rhs.Known 0)) 200 ∷ []
zero_datum = simp layers refl

-- x = true;
true_is_one : becomes (stmt.Simple (simple.Assign (var (codes "x") 200) (rhs.Operand (operand.True (at 202)))))
    ≡ Do (SetData (Var 0) (data_rhs.Known 1)) 200 ∷ []
true_is_one = simp layers refl

-- x = false;
false_is_zero : becomes (stmt.Simple (simple.Assign (var (codes "x") 200) (rhs.Operand (operand.False (at 202)))))
    ≡ Do (SetData (Var 0) (data_rhs.Known 0)) 200 ∷ []
false_is_zero = simp layers refl

-- x = RED;
first_enumerator : becomes
    (stmt.Simple (simple.Assign (var (codes "x") 200) (rhs.Operand (operand.Path (var (codes "RED") 202)))))
    ≡ Do (SetData (Var 0) (data_rhs.Known 0)) 200 ∷ []
first_enumerator = simp layers refl

-- x = BLUE;
second_enumerator : becomes
    (stmt.Simple (simple.Assign (var (codes "x") 200) (rhs.Operand (operand.Path (var (codes "BLUE") 202)))))
    ≡ Do (SetData (Var 0) (data_rhs.Known 1)) 200 ∷ []
second_enumerator = simp layers refl

-- p->key = __VERIFIER_nondet_bool();
choice :
    becomes
    (stmt.Simple
    (simple.Assign (path (codes "p") 200 (arrow (codes "key") 201 ∷ []))
    (rhs.Operand (operand.Call (call (codes "__VERIFIER_nondet_bool") 204 [])))))
    ≡ Do (SetData (Field (ptr 0 []) 0) data_rhs.Choice) 200 ∷ []
choice = simp layers refl

-- Calls, `free` and jumps

-- free(q->twin);
free_of_a_path : becomes (stmt.Simple (simple.Free (at 200) (path (codes "q") 202 (arrow (codes "twin") 203 ∷ []))))
    ≡ Do (Free (ptr 1 (1 ∷ []))) 200 ∷ []
free_of_a_path = simp layers refl

-- exit(3);
exit_halts : becomes (stmt.Simple (simple.Call (call (codes "exit") 200 ((number (codes "3") 202) ∷ [])))) ≡ Do Halt 200
    ∷ []
exit_halts = simp layers refl

-- abort();
abort_halts : becomes (stmt.Simple (simple.Call (call (codes "abort") 200 []))) ≡ Do Halt 200 ∷ []
abort_halts = simp layers refl

-- __VERIFIER_error();
verifier_error : becomes (stmt.Simple (simple.Call (call (codes "__VERIFIER_error") 200 []))) ≡ Do Error 200 ∷ []
verifier_error = simp layers refl

-- reach_error();
reached_error : becomes (stmt.Simple (simple.Call (call (codes "reach_error") 200 []))) ≡ Do Error 200 ∷ []
reached_error = simp layers refl

-- return;
return_nothing : becomes (stmt.Return (at 200) None) ≡ Do (Return None) 200 ∷ []
return_nothing = simp layers refl

-- return 3;
return_constant : becomes (stmt.Return (at 200) (Some (number (codes "3") 201))) ≡ Do (Return None) 200 ∷ []
return_constant = simp layers refl

-- return 0;
return_zero : becomes (stmt.Return (at 200) (Some (number (codes "0") 201))) ≡ Do (Return None) 200 ∷ []
return_zero = simp layers refl

-- return RED;
return_enumerator : becomes (stmt.Return (at 200) (Some (operand.Path (var (codes "RED") 201)))) ≡ Do (Return None) 200
    ∷ []
return_enumerator = simp layers refl

-- return q->mark;
return_datum :
    becomes (stmt.Return (at 200) (Some (operand.Path (path (codes "q") 201 (arrow (codes "mark") 202 ∷ [])))))
    ≡ Do (Return (Some (Field (ptr 1 []) 0))) 200 ∷ []
return_datum = simp layers refl

-- ;
empty : becomes (stmt.Empty (at 200)) ≡ []
empty = simp layers refl

-- Conditions: a test is an atom with the line of its first token, in `&&` in `||`; brackets are nothing

-- q->head
truth_of_a_pointer : means
    (condition
    (conjunction (test.Unary (unary.Operand (operand.Path (path (codes "q") 200 (arrow (codes "head") 201 ∷ [])))) ∷ [])
    ∷ [])) ≡ single (Atom (atom.Ptr (ptr_op.Path (ptr 1 (0 ∷ []))) ptr_op.Null false) 200)
truth_of_a_pointer = simp layers refl

-- p->key
truth_of_a_datum : means
    (condition
    (conjunction (test.Unary (unary.Operand (operand.Path (path (codes "p") 200 (arrow (codes "key") 201 ∷ [])))) ∷ [])
    ∷ [])) ≡ single (Atom (atom.Data (data_op.Path (Field (ptr 0 []) 0)) (data_op.Known 0) false) 200)
truth_of_a_datum = simp layers refl

-- 7
number_is_true : means (condition (conjunction (test.Unary (unary.Operand (number (codes "7") 200)) ∷ []) ∷ []))
    ≡ single (Atom (atom.Known true) 200)
number_is_true = simp layers refl

-- 0
zero_is_false : means (condition (conjunction (test.Unary (unary.Operand (number (codes "0") 200)) ∷ []) ∷ []))
    ≡ single (Atom (atom.Known false) 200)
zero_is_false = simp layers refl

-- NULL
null_is_false : means (condition (conjunction (test.Unary (unary.Operand (operand.Null (at 200))) ∷ []) ∷ []))
    ≡ single (Atom (atom.Known false) 200)
null_is_false = simp layers refl

-- true
word_true : means (condition (conjunction (test.Unary (unary.Operand (operand.True (at 200))) ∷ []) ∷ []))
    ≡ single (Atom (atom.Known true) 200)
word_true = simp layers refl

-- false
word_false : means (condition (conjunction (test.Unary (unary.Operand (operand.False (at 200))) ∷ []) ∷ []))
    ≡ single (Atom (atom.Known false) 200)
word_false = simp layers refl

-- RED
first_enumerator_is_false :
    means (condition (conjunction (test.Unary (unary.Operand (operand.Path (var (codes "RED") 200))) ∷ []) ∷ []))
    ≡ single (Atom (atom.Known false) 200)
first_enumerator_is_false = simp layers refl

-- BLUE
second_enumerator_is_true :
    means (condition (conjunction (test.Unary (unary.Operand (operand.Path (var (codes "BLUE") 200))) ∷ []) ∷ []))
    ≡ single (Atom (atom.Known true) 200)
second_enumerator_is_true = simp layers refl

-- __VERIFIER_nondet_int()
choice_of_int :
    means
    (condition
    (conjunction (test.Unary (unary.Operand (operand.Call (call (codes "__VERIFIER_nondet_int") 200 []))) ∷ []) ∷ []))
    ≡ single (Atom atom.Choice 200)
choice_of_int = simp layers refl

-- __VERIFIER_nondet_bool()
choice_of_bool :
    means
    (condition
    (conjunction (test.Unary (unary.Operand (operand.Call (call (codes "__VERIFIER_nondet_bool") 200 []))) ∷ []) ∷ []))
    ≡ single (Atom atom.Choice 200)
choice_of_bool = simp layers refl

-- p == q->head
equal_pointers :
    means
    (condition
    (conjunction
    (test.Compare (operand.Path (var (codes "p") 200)) true
    (operand.Path (path (codes "q") 202 (arrow (codes "head") 203 ∷ []))) ∷ []) ∷ []))
    ≡ single (Atom (atom.Ptr (ptr_op.Path (ptr 0 [])) (ptr_op.Path (ptr 1 (0 ∷ []))) true) 200)
equal_pointers = simp layers refl

-- p != NULL
unequal_pointers : means
    (condition (conjunction (test.Compare (operand.Path (var (codes "p") 200)) false (operand.Null (at 202)) ∷ [])
    ∷ [])) ≡ single (Atom (atom.Ptr (ptr_op.Path (ptr 0 [])) ptr_op.Null false) 200)
unequal_pointers = simp layers refl

-- p == 0
pointer_and_zero : means
    (condition (conjunction (test.Compare (operand.Path (var (codes "p") 200)) true (number (codes "0") 202) ∷ [])
    ∷ [])) ≡ single (Atom (atom.Ptr (ptr_op.Path (ptr 0 [])) ptr_op.Null true) 200)
pointer_and_zero = simp layers refl

-- 0 == p
zero_and_pointer : means
    (condition (conjunction (test.Compare (number (codes "0") 200) true (operand.Path (var (codes "p") 202)) ∷ [])
    ∷ [])) ≡ single (Atom (atom.Ptr ptr_op.Null (ptr_op.Path (ptr 0 [])) true) 200)
zero_and_pointer = simp layers refl

-- 0 == NULL
zero_and_null :
    means (condition (conjunction (test.Compare (number (codes "0") 200) true (operand.Null (at 202)) ∷ []) ∷ []))
    ≡ single (Atom (atom.Ptr ptr_op.Null ptr_op.Null true) 200)
zero_and_null = simp layers refl

-- NULL != 0
null_and_zero :
    means (condition (conjunction (test.Compare (operand.Null (at 200)) false (number (codes "0") 202) ∷ []) ∷ []))
    ≡ single (Atom (atom.Ptr ptr_op.Null ptr_op.Null false) 200)
null_and_zero = simp layers refl

-- 0 == 0
zero_and_zero :
    means (condition (conjunction (test.Compare (number (codes "0") 200) true (number (codes "0") 202) ∷ []) ∷ []))
    ≡ single (Atom (atom.Data (data_op.Known 0) (data_op.Known 0) true) 200)
zero_and_zero = simp layers refl

-- 0 == BLUE
zero_and_enumerator : means
    (condition (conjunction (test.Compare (number (codes "0") 200) true (operand.Path (var (codes "BLUE") 202)) ∷ [])
    ∷ [])) ≡ single (Atom (atom.Data (data_op.Known 0) (data_op.Known 1) true) 200)
zero_and_enumerator = simp layers refl

-- 0 != x
zero_and_datum :
    means
    (condition (conjunction (test.Compare (number (codes "0") 200) false (operand.Path (var (codes "x") 202)) ∷ [])
    ∷ [])) ≡ single (Atom (atom.Data (data_op.Known 0) (data_op.Path (Var 0)) false) 200)
zero_and_datum = simp layers refl

-- x == 2
datum_and_number : means
    (condition (conjunction (test.Compare (operand.Path (var (codes "x") 200)) true (number (codes "2") 202) ∷ [])
    ∷ [])) ≡ single (Atom (atom.Data (data_op.Path (Var 0)) (data_op.Known 2) true) 200)
datum_and_number = simp layers refl

-- x && !p || (1 || !0)
ands_and_ors :
    means
    (condition
    (conjunction (test.Unary (unary.Operand (operand.Path (var (codes "x") 200)))
    ∷ test.Unary (unary.Not (at 202) (unary.Operand (operand.Path (var (codes "p") 203)))) ∷ [])
    ∷ conjunction
    (test.Unary
    (unary.Bracket (at 205)
    (condition (conjunction (test.Unary (unary.Operand (number (codes "1") 206)) ∷ [])
    ∷ conjunction (test.Unary (unary.Not (at 208) (unary.Operand (number (codes "0") 209))) ∷ []) ∷ []))) ∷ []) ∷ []))
    ≡ Any
    (All (Atom (atom.Data (data_op.Path (Var 0)) (data_op.Known 0) false) 200
    ∷ Not (Atom (atom.Ptr (ptr_op.Path (ptr 0 [])) ptr_op.Null false) 203) ∷ [])
    ∷ All (Any (All (Atom (atom.Known true) 206 ∷ []) ∷ All (Not (Atom (atom.Known false) 209) ∷ []) ∷ []) ∷ []) ∷ [])
ands_and_ors = simp layers refl

-- !(x)
not_of_brackets :
    means
    (condition
    (conjunction
    (test.Unary
    (unary.Not (at 200)
    (unary.Bracket (at 201)
    (condition (conjunction (test.Unary (unary.Operand (operand.Path (var (codes "x") 202))) ∷ []) ∷ [])))) ∷ []) ∷ []))
    ≡ single (Not (single (Atom (atom.Data (data_op.Path (Var 0)) (data_op.Known 0) false) 202)))
not_of_brackets = simp layers refl

-- Statements with parts

-- if (1) abort();
branch :
    becomes
    (stmt.If (at 200) (condition (conjunction (test.Unary (unary.Operand (number (codes "1") 202)) ∷ []) ∷ []))
    (stmt.Simple (simple.Call (call (codes "abort") 204 []))) None)
    ≡ Branch (single (Atom (atom.Known true) 202)) (Do Halt 204 ∷ []) [] ∷ []
branch = simp layers refl

-- if (1) abort(); else reach_error();
branches :
    becomes
    (stmt.If (at 200) (condition (conjunction (test.Unary (unary.Operand (number (codes "1") 202)) ∷ []) ∷ []))
    (stmt.Simple (simple.Call (call (codes "abort") 204 [])))
    (Some (stmt.Simple (simple.Call (call (codes "reach_error") 209 [])))))
    ≡ Branch (single (Atom (atom.Known true) 202)) (Do Halt 204 ∷ []) (Do Error 209 ∷ []) ∷ []
branches = simp layers refl

-- if (1) { abort(); }
block_in_a_branch : becomes
    (stmt.If (at 200) (condition (conjunction (test.Unary (unary.Operand (number (codes "1") 202)) ∷ []) ∷ []))
    (stmt.Block (block 204 (part'.Stmt (stmt.Simple (simple.Call (call (codes "abort") 205 []))) ∷ []) 209)) None)
    ≡ Branch (single (Atom (atom.Known true) 202)) (Group (Do Halt 205 ∷ []) [] [] 209 ∷ []) [] ∷ []
block_in_a_branch = simp layers refl

-- while (1) break;
while_loop :
    becomes
    (stmt.While (at 200) (condition (conjunction (test.Unary (unary.Operand (number (codes "1") 202)) ∷ []) ∷ []))
    (stmt.Break (at 204))) ≡ While (single (Atom (atom.Known true) 202)) (Do Break 204 ∷ []) ∷ []
while_loop = simp layers refl

-- do continue; while (1);
do_loop :
    becomes
    (stmt.Do (at 200) (stmt.Continue (at 201))
    (condition (conjunction (test.Unary (unary.Operand (number (codes "1") 205)) ∷ []) ∷ [])))
    ≡ DoWhile (single (Atom (atom.Known true) 205)) (Do Continue 201 ∷ []) ∷ []
do_loop = simp layers refl

-- for (;;) ;: a missing condition is true, on the line of `for`
bare_for : becomes (stmt.For (at 200) first.Nothing None None (stmt.Empty (at 205)))
    ≡ For (Atom (atom.Known true) 200) [] [] ∷ []
bare_for = simp layers refl

-- for (p = q->head; 1; p = p->next) free(p);: what stands first stands before the loop
for_of_simples : becomes
    (stmt.For (at 200)
    (first.Simple
    (simple.Assign (var (codes "p") 202)
    (rhs.Operand (operand.Path (path (codes "q") 204 (arrow (codes "head") 205 ∷ []))))))
    (Some (condition (conjunction (test.Unary (unary.Operand (number (codes "1") 208)) ∷ []) ∷ [])))
    (Some
    (simple.Assign (var (codes "p") 210)
    (rhs.Operand (operand.Path (path (codes "p") 212 (arrow (codes "next") 213 ∷ []))))))
    (stmt.Simple (simple.Free (at 216) (var (codes "p") 218))))
    ≡ Do (SetPtr (ptr 0 []) (ptr_rhs.Path (ptr 1 (0 ∷ [])))) 202
    ∷ For (single (Atom (atom.Known true) 208)) (Do (SetPtr (ptr 0 []) (ptr_rhs.Path (ptr 0 (0 ∷ [])))) 210 ∷ [])
    (Do (Free (ptr 0 [])) 216 ∷ []) ∷ []
for_of_simples = simp layers refl

-- for (int z = 1, w; z; w = z) ;: a group that closes on the line of `for`
for_that_declares : becomes
    (stmt.For (at 200)
    (first.Declare
    (declare.Datums (data'.Int (at 202))
    (begun (codes "z") 203 (rhs.Operand (number (codes "1") 205)) ∷ plain (codes "w") 207 ∷ [])))
    (Some (condition (conjunction (test.Unary (unary.Operand (operand.Path (var (codes "z") 209))) ∷ []) ∷ [])))
    (Some (simple.Assign (var (codes "w") 211) (rhs.Operand (operand.Path (var (codes "z") 213)))))
    (stmt.Empty (at 215))) ≡ Group
    (Do (SetData (Var 2) (data_rhs.Known 1)) 203
    ∷ For (single (Atom (atom.Data (data_op.Path (Var 2)) (data_op.Known 0) false) 209))
    (Do (SetData (Var 3) (data_rhs.Path (Var 2))) 211 ∷ []) [] ∷ []) [] (2 ∷ 3 ∷ []) 200 ∷ []
for_that_declares = simp layers refl

-- assert(1);
assertion :
    becomes
    (stmt.Assert (at 200) (condition (conjunction (test.Unary (unary.Operand (number (codes "1") 202)) ∷ []) ∷ [])))
    ≡ Branch (single (Atom (atom.Known true) 202)) [] (Do Error 200 ∷ []) ∷ []
assertion = simp layers refl

-- Blocks: variables are numbered through the file, pointers and data apart, and die on the line of the brace

-- { }
empty_block : becomes (stmt.Block (block 200 [] 201)) ≡ Group [] [] [] 201 ∷ []
empty_block = simp layers refl

-- { int z; struct node *v, *w = p; int u = z; }
declarations :
    becomes
    (stmt.Block
    (block 200 (part'.Declare (declare.Datums (data'.Int (at 201)) (plain (codes "z") 202 ∷ []))
    ∷ part'.Declare
    (declare.Pointers (at 204) (name (codes "node") 205)
    (plain (codes "v") 207 ∷ begun (codes "w") 210 (rhs.Operand (operand.Path (var (codes "p") 212))) ∷ []))
    ∷ part'.Declare
    (declare.Datums (data'.Int (at 214))
    (begun (codes "u") 215 (rhs.Operand (operand.Path (var (codes "z") 217))) ∷ [])) ∷ []) 219))
    ≡ Group (Do (SetPtr (ptr 4 []) (ptr_rhs.Path (ptr 0 []))) 210 ∷ Do (SetData (Var 3) (data_rhs.Path (Var 2))) 215
    ∷ []) (3 ∷ 4 ∷ []) (2 ∷ 3 ∷ []) 219 ∷ []
declarations = simp layers refl

-- { { int z; z = 1; } int w; { int z; z = 2; } w = 3; }: closed blocks count
blocks :
    becomes
    (stmt.Block
    (block 200
    (part'.Stmt
    (stmt.Block
    (block 201 (part'.Declare (declare.Datums (data'.Int (at 202)) (plain (codes "z") 203 ∷ []))
    ∷ part'.Stmt (stmt.Simple (simple.Assign (var (codes "z") 205) (rhs.Operand (number (codes "1") 207)))) ∷ []) 209))
    ∷ part'.Declare (declare.Datums (data'.Int (at 210)) (plain (codes "w") 211 ∷ []))
    ∷ part'.Stmt
    (stmt.Block
    (block 213 (part'.Declare (declare.Datums (data'.Int (at 214)) (plain (codes "z") 215 ∷ []))
    ∷ part'.Stmt (stmt.Simple (simple.Assign (var (codes "z") 217) (rhs.Operand (number (codes "2") 219)))) ∷ []) 221))
    ∷ part'.Stmt (stmt.Simple (simple.Assign (var (codes "w") 222) (rhs.Operand (number (codes "3") 224)))) ∷ []) 226))
    ≡ Group (Group (Do (SetData (Var 2) (data_rhs.Known 1)) 205 ∷ []) [] (2 ∷ []) 209
    ∷ Group (Do (SetData (Var 4) (data_rhs.Known 2)) 217 ∷ []) [] (4 ∷ []) 221
    ∷ Do (SetData (Var 3) (data_rhs.Known 3)) 222 ∷ []) [] (3 ∷ []) 226 ∷ []
blocks = simp layers refl

-- { if (1) { int a; } else { int b; } while (1) { int c; } int d = 9; }
numbers_after_branches :
    becomes
    (stmt.Block
    (block 200
    (part'.Stmt
    (stmt.If (at 201) (condition (conjunction (test.Unary (unary.Operand (number (codes "1") 203)) ∷ []) ∷ []))
    (stmt.Block (block 205 (part'.Declare (declare.Datums (data'.Int (at 206)) (plain (codes "a") 207 ∷ [])) ∷ []) 209))
    (Some
    (stmt.Block
    (block 211 (part'.Declare (declare.Datums (data'.Int (at 212)) (plain (codes "b") 213 ∷ [])) ∷ []) 215))))
    ∷ part'.Stmt
    (stmt.While (at 216) (condition (conjunction (test.Unary (unary.Operand (number (codes "1") 218)) ∷ []) ∷ []))
    (stmt.Block
    (block 220 (part'.Declare (declare.Datums (data'.Int (at 221)) (plain (codes "c") 222 ∷ [])) ∷ []) 224)))
    ∷ part'.Declare
    (declare.Datums (data'.Int (at 225)) (begun (codes "d") 226 (rhs.Operand (number (codes "9") 228)) ∷ [])) ∷ [])
    230))
    ≡ Group
    (Branch (single (Atom (atom.Known true) 203)) (Group [] [] (2 ∷ []) 209 ∷ []) (Group [] [] (3 ∷ []) 215 ∷ [])
    ∷ While (single (Atom (atom.Known true) 218)) (Group [] [] (4 ∷ []) 224 ∷ [])
    ∷ Do (SetData (Var 5) (data_rhs.Known 9)) 226 ∷ []) [] (5 ∷ []) 230 ∷ []
numbers_after_branches = simp layers refl

-- { for (int i; 1; ) { int j; } do { int k; } while (1); int d = 9; }
numbers_after_a_for : becomes
    (stmt.Block
    (block 200
    (part'.Stmt
    (stmt.For (at 201) (first.Declare (declare.Datums (data'.Int (at 203)) (plain (codes "i") 204 ∷ [])))
    (Some (condition (conjunction (test.Unary (unary.Operand (number (codes "1") 206)) ∷ []) ∷ []))) None
    (stmt.Block
    (block 209 (part'.Declare (declare.Datums (data'.Int (at 210)) (plain (codes "j") 211 ∷ [])) ∷ []) 213)))
    ∷ part'.Stmt
    (stmt.Do (at 214)
    (stmt.Block (block 215 (part'.Declare (declare.Datums (data'.Int (at 216)) (plain (codes "k") 217 ∷ [])) ∷ []) 219))
    (condition (conjunction (test.Unary (unary.Operand (number (codes "1") 222)) ∷ []) ∷ [])))
    ∷ part'.Declare
    (declare.Datums (data'.Int (at 225)) (begun (codes "d") 226 (rhs.Operand (number (codes "9") 228)) ∷ [])) ∷ [])
    230))
    ≡ Group (Group (For (single (Atom (atom.Known true) 206)) [] (Group [] [] (3 ∷ []) 213 ∷ []) ∷ []) [] (2 ∷ []) 201
    ∷ DoWhile (single (Atom (atom.Known true) 222)) (Group [] [] (4 ∷ []) 219 ∷ [])
    ∷ Do (SetData (Var 5) (data_rhs.Known 9)) 226 ∷ []) [] (5 ∷ []) 230 ∷ []
numbers_after_a_for = simp layers refl

-- { struct node *p = p; }: the inner variable
own_initialiser : becomes
    (stmt.Block
    (block 200
    (part'.Declare
    (declare.Pointers (at 201) (name (codes "node") 202)
    (begun (codes "p") 204 (rhs.Operand (operand.Path (var (codes "p") 206))) ∷ [])) ∷ []) 208))
    ≡ Group (Do (SetPtr (ptr 3 []) (ptr_rhs.Path (ptr 3 []))) 204 ∷ []) (3 ∷ []) [] 208 ∷ []
own_initialiser = simp layers refl

-- { int RED = 1; if (RED == BLUE) ; }
hidden_enumerator : becomes
    (stmt.Block
    (block 200
    (part'.Declare
    (declare.Datums (data'.Int (at 201)) (begun (codes "RED") 202 (rhs.Operand (number (codes "1") 204)) ∷ []))
    ∷ part'.Stmt
    (stmt.If (at 206)
    (condition
    (conjunction (test.Compare (operand.Path (var (codes "RED") 208)) true (operand.Path (var (codes "BLUE") 210)) ∷ [])
    ∷ [])) (stmt.Empty (at 212)) None) ∷ []) 213))
    ≡ Group (Do (SetData (Var 2) (data_rhs.Known 1)) 202
    ∷ Branch (single (Atom (atom.Data (data_op.Path (Var 2)) (data_op.Known 1) true) 208)) [] [] ∷ []) [] (2 ∷ []) 213
    ∷ []
hidden_enumerator = simp layers refl

-- Whole files

-- int main() { }
smallest_file : program_of
    (unit (item.Function (head (gives.Data (data'.Int (at 200))) (name (codes "main") 201) None) (block 204 [] 205)
    ∷ []) 206) ≡ record {
      shapes = record { structs = [] };
      vars = [];
      data_vars = [];
      funcs = [];
      body = Group [] [] [] 205 ∷ [];
    }
unfolding program_of
smallest_file = simp layers refl

-- struct node { struct item *top; int key; struct node *next; }; int main() { struct node *l = NULL; while
-- (__VERIFIER_nondet_int()) { struct node *n = malloc(sizeof *n); n->next = l; l = n; } return 0; } struct item { int
-- a, b; struct node *of; };
list_of_nodes : program_of
    (unit
    (item.Struct (at 200) (name (codes "node") 201)
    (Some (field.Pointers (at 203) (name (codes "item") 204) ((name (codes "top") 206) ∷ [])
    ∷ field.Datums (data'.Int (at 208)) ((name (codes "key") 209) ∷ [])
    ∷ field.Pointers (at 211) (name (codes "node") 212) ((name (codes "next") 214) ∷ []) ∷ []))
    ∷ item.Function (head (gives.Data (data'.Int (at 218))) (name (codes "main") 219) None)
    (block 222
    (part'.Declare
    (declare.Pointers (at 223) (name (codes "node") 224)
    (begun (codes "l") 226 (rhs.Operand (operand.Null (at 228))) ∷ []))
    ∷ part'.Stmt
    (stmt.While (at 230)
    (condition
    (conjunction (test.Unary (unary.Operand (operand.Call (call (codes "__VERIFIER_nondet_int") 232 []))) ∷ []) ∷ []))
    (stmt.Block
    (block 236
    (part'.Declare
    (declare.Pointers (at 237) (name (codes "node") 238)
    (begun (codes "n") 240 (rhs.Malloc None (at 242) (size.Bare (at 244) (at 245) (var (codes "n") 246))) ∷ []))
    ∷ part'.Stmt
    (stmt.Simple
    (simple.Assign (path (codes "n") 249 (arrow (codes "next") 250 ∷ []))
    (rhs.Operand (operand.Path (var (codes "l") 253)))))
    ∷ part'.Stmt (stmt.Simple (simple.Assign (var (codes "l") 255) (rhs.Operand (operand.Path (var (codes "n") 257)))))
    ∷ []) 259))) ∷ part'.Stmt (stmt.Return (at 260) (Some (number (codes "0") 261))) ∷ []) 263)
    ∷ item.Struct (at 264) (name (codes "item") 265)
    (Some (field.Datums (data'.Int (at 267)) ((name (codes "a") 268) ∷ (name (codes "b") 270) ∷ [])
    ∷ field.Pointers (at 272) (name (codes "node") 273) ((name (codes "of") 275) ∷ []) ∷ [])) ∷ []) 279) ≡ record {
      shapes = record {
        structs =
            record {
              name = codes "node";
              fields = record { name = codes "top"; kind = field_kind.Pointer 1 }
                  ∷ record { name = codes "key"; kind = field_kind.Datum }
                  ∷ record { name = codes "next"; kind = field_kind.Pointer 0 } ∷ [];
            }
            ∷ record {
              name = codes "item";
              fields = record { name = codes "a"; kind = field_kind.Datum }
                  ∷ record { name = codes "b"; kind = field_kind.Datum }
                  ∷ record { name = codes "of"; kind = field_kind.Pointer 0 } ∷ [];
            } ∷ [];
      };
      vars = record { name = codes "l"; shape = 0 } ∷ record { name = codes "n"; shape = 0 } ∷ [];
      data_vars = [];
      funcs = [];
      body =
          Group (Do (SetPtr (ptr 0 []) ptr_rhs.Null) 226
          ∷ While (single (Atom atom.Choice 232))
          (Group (Do (SetPtr (ptr 1 []) (ptr_rhs.New 0)) 240
          ∷ Do (SetPtr (ptr 1 (1 ∷ [])) (ptr_rhs.Path (ptr 0 []))) 249
          ∷ Do (SetPtr (ptr 0 []) (ptr_rhs.Path (ptr 1 []))) 255 ∷ []) (1 ∷ []) [] 259 ∷ []) ∷ Do (Return None) 260
          ∷ [])
          (0 ∷ []) [] 263 ∷ [];
    }
unfolding program_of
list_of_nodes = simp layers refl

-- void f() { int a; } int main() { int x = 3; } int main() { }: the program is the first main, also where a rule is
-- broken
first_main :
    program_of
    (unit
    (item.Function (head (gives.Void (at 200)) (name (codes "f") 201) None)
    (block 204 (part'.Declare (declare.Datums (data'.Int (at 205)) (plain (codes "a") 206 ∷ [])) ∷ []) 208)
    ∷ item.Function (head (gives.Data (data'.Int (at 209))) (name (codes "main") 210) None)
    (block 213
    (part'.Declare
    (declare.Datums (data'.Int (at 214)) (begun (codes "x") 215 (rhs.Operand (number (codes "3") 217)) ∷ [])) ∷ []) 219)
    ∷ item.Function (head (gives.Data (data'.Int (at 220))) (name (codes "main") 221) None) (block 224 [] 225) ∷ [])
    226) ≡ record {
      shapes = record { structs = [] };
      vars = [];
      data_vars = codes "a" ∷ codes "x" ∷ [];
      funcs =
          record {
            name = codes "f";
            params = [];
            locals = ref.Data 0 ∷ [];
            result = None;
            body = Group [] [] (0 ∷ []) 208 ∷ [];
          } ∷ [];
      body = Group (Do (SetData (Var 1) (data_rhs.Known 3)) 215 ∷ []) [] (1 ∷ []) 219 ∷ [];
    }
unfolding program_of
first_main = simp (declares-Group, layers) refl
