-- Rows on conditions, calls and `return`, in the file and scope of the rows on assignments.
use Rattle.std.proofs.Common.{◌≡◌, true, false, [], ◌∷◌, Some, None, codes, refl}
use Rattle.c_ast.specs.declared.conditions.Test.TheVariants as test
use Rattle.c_ast.specs.declared.conditions.Unary.TheVariants as unary
use Rattle.c_ast.specs.declared.operands.Operand.TheVariants as operand
use Rattle.c_ast.specs.declared.simples.Rhs.TheVariants as rhs
use Rattle.c_ast.specs.declared.simples.Simple.TheVariants as simple
use Rattle.c_ast.specs.declared.statements.Data.TheVariants as data'
use Rattle.c_ast.specs.declared.statements.Declare.TheVariants as declare
use Rattle.c_ast.specs.declared.statements.Part.TheVariants as part'
use Rattle.c_ast.specs.declared.statements.Stmt.TheVariants as stmt
use Rattle.c_typing.specs.declared.fault.TypeFault.TheVariants.{Rule}
use Rattle.c_typing.proofs.Layers.{layers}
use Rattle.c_typing.proofs.Rows.Forms.{at, var, arrow, path, call, number, condition, conjunction, plain, block, breaks}

-- Comparisons: the left operand says what is wanted

-- if (p == q->head) ;
pointers :
    breaks
    (stmt.If (at 200)
    (condition
    (conjunction
    (test.Compare (operand.Path (var (codes "p") 202)) true
    (operand.Path (path (codes "q") 204 (arrow (codes "head") 205 ∷ []))) ∷ []) ∷ [])) (stmt.Empty (at 208)) None) ≡ []
pointers = simp layers refl

-- if (p == q) ;
pointers_to_different_structs :
    breaks
    (stmt.If (at 200)
    (condition
    (conjunction (test.Compare (operand.Path (var (codes "p") 202)) true (operand.Path (var (codes "q") 204)) ∷ [])
    ∷ [])) (stmt.Empty (at 206)) None) ≡ Rule 6 (at 204) ∷ []
pointers_to_different_structs = simp layers refl

-- if (p != x) ;
pointer_and_data : breaks
    (stmt.If (at 200)
    (condition
    (conjunction (test.Compare (operand.Path (var (codes "p") 202)) false (operand.Path (var (codes "x") 204)) ∷ [])
    ∷ [])) (stmt.Empty (at 206)) None) ≡ Rule 7 (at 204) ∷ []
pointer_and_data = simp layers refl

-- if (p == 1) ;
pointer_and_one : breaks
    (stmt.If (at 200)
    (condition (conjunction (test.Compare (operand.Path (var (codes "p") 202)) true (number (codes "1") 204) ∷ [])
    ∷ [])) (stmt.Empty (at 206)) None) ≡ Rule 7 (at 204) ∷ []
pointer_and_one = simp layers refl

-- if (p == true) ;
pointer_and_true : breaks
    (stmt.If (at 200)
    (condition (conjunction (test.Compare (operand.Path (var (codes "p") 202)) true (operand.True (at 204)) ∷ []) ∷ []))
    (stmt.Empty (at 206)) None) ≡ Rule 7 (at 204) ∷ []
pointer_and_true = simp layers refl

-- if (p == RED) ;
pointer_and_enumerator :
    breaks
    (stmt.If (at 200)
    (condition
    (conjunction (test.Compare (operand.Path (var (codes "p") 202)) true (operand.Path (var (codes "RED") 204)) ∷ [])
    ∷ [])) (stmt.Empty (at 206)) None) ≡ Rule 7 (at 204) ∷ []
pointer_and_enumerator = simp layers refl

-- if (p == 0) ;
pointer_and_zero : breaks
    (stmt.If (at 200)
    (condition (conjunction (test.Compare (operand.Path (var (codes "p") 202)) true (number (codes "0") 204) ∷ [])
    ∷ [])) (stmt.Empty (at 206)) None) ≡ []
pointer_and_zero = simp layers refl

-- if (p == NULL) ;
pointer_and_null : breaks
    (stmt.If (at 200)
    (condition (conjunction (test.Compare (operand.Path (var (codes "p") 202)) true (operand.Null (at 204)) ∷ []) ∷ []))
    (stmt.Empty (at 206)) None) ≡ []
pointer_and_null = simp layers refl

-- if (x == q->mark) ;
data_and_data :
    breaks
    (stmt.If (at 200)
    (condition
    (conjunction
    (test.Compare (operand.Path (var (codes "x") 202)) true
    (operand.Path (path (codes "q") 204 (arrow (codes "mark") 205 ∷ []))) ∷ []) ∷ [])) (stmt.Empty (at 208)) None) ≡ []
data_and_data = simp layers refl

-- if (x == p) ;
data_and_pointer : breaks
    (stmt.If (at 200)
    (condition
    (conjunction (test.Compare (operand.Path (var (codes "x") 202)) true (operand.Path (var (codes "p") 204)) ∷ [])
    ∷ [])) (stmt.Empty (at 206)) None) ≡ Rule 8 (at 204) ∷ []
data_and_pointer = simp layers refl

-- if (x != NULL) ;
data_and_null :
    breaks
    (stmt.If (at 200)
    (condition (conjunction (test.Compare (operand.Path (var (codes "x") 202)) false (operand.Null (at 204)) ∷ [])
    ∷ [])) (stmt.Empty (at 206)) None) ≡ Rule 8 (at 204) ∷ []
data_and_null = simp layers refl

-- if (x == 0) ;
data_and_zero :
    breaks
    (stmt.If (at 200)
    (condition (conjunction (test.Compare (operand.Path (var (codes "x") 202)) true (number (codes "0") 204) ∷ [])
    ∷ [])) (stmt.Empty (at 206)) None) ≡ []
data_and_zero = simp layers refl

-- if (0 == p) ;
zero_and_pointer : breaks
    (stmt.If (at 200)
    (condition (conjunction (test.Compare (number (codes "0") 202) true (operand.Path (var (codes "p") 204)) ∷ [])
    ∷ [])) (stmt.Empty (at 206)) None) ≡ []
zero_and_pointer = simp layers refl

-- if (0 == x) ;
zero_and_data :
    breaks
    (stmt.If (at 200)
    (condition (conjunction (test.Compare (number (codes "0") 202) true (operand.Path (var (codes "x") 204)) ∷ [])
    ∷ [])) (stmt.Empty (at 206)) None) ≡ []
zero_and_data = simp layers refl

-- if (0 == NULL) ;
zero_and_null :
    breaks
    (stmt.If (at 200)
    (condition (conjunction (test.Compare (number (codes "0") 202) true (operand.Null (at 204)) ∷ []) ∷ []))
    (stmt.Empty (at 206)) None) ≡ []
zero_and_null = simp layers refl

-- if (0 == 0) ;
zero_and_zero :
    breaks
    (stmt.If (at 200)
    (condition (conjunction (test.Compare (number (codes "0") 202) true (number (codes "0") 204) ∷ []) ∷ []))
    (stmt.Empty (at 206)) None) ≡ []
zero_and_zero = simp layers refl

-- if (0 == RED) ;
zero_and_enumerator : breaks
    (stmt.If (at 200)
    (condition (conjunction (test.Compare (number (codes "0") 202) true (operand.Path (var (codes "RED") 204)) ∷ [])
    ∷ [])) (stmt.Empty (at 206)) None) ≡ []
zero_and_enumerator = simp layers refl

-- if (NULL == q) ;
null_and_pointer : breaks
    (stmt.If (at 200)
    (condition (conjunction (test.Compare (operand.Null (at 202)) true (operand.Path (var (codes "q") 204)) ∷ []) ∷ []))
    (stmt.Empty (at 206)) None) ≡ []
null_and_pointer = simp layers refl

-- if (NULL == NULL) ;
null_and_null :
    breaks
    (stmt.If (at 200)
    (condition (conjunction (test.Compare (operand.Null (at 202)) true (operand.Null (at 204)) ∷ []) ∷ []))
    (stmt.Empty (at 206)) None) ≡ []
null_and_null = simp layers refl

-- if (NULL == 0) ;
null_and_zero :
    breaks
    (stmt.If (at 200)
    (condition (conjunction (test.Compare (operand.Null (at 202)) true (number (codes "0") 204) ∷ []) ∷ []))
    (stmt.Empty (at 206)) None) ≡ []
null_and_zero = simp layers refl

-- if (NULL == x) ;
null_and_data :
    breaks
    (stmt.If (at 200)
    (condition (conjunction (test.Compare (operand.Null (at 202)) true (operand.Path (var (codes "x") 204)) ∷ []) ∷ []))
    (stmt.Empty (at 206)) None) ≡ Rule 7 (at 204) ∷ []
null_and_data = simp layers refl

-- if (NULL != 1) ;
null_and_one :
    breaks
    (stmt.If (at 200)
    (condition (conjunction (test.Compare (operand.Null (at 202)) false (number (codes "1") 204) ∷ []) ∷ []))
    (stmt.Empty (at 206)) None) ≡ Rule 7 (at 204) ∷ []
null_and_one = simp layers refl

-- if (1 == p) ;
one_and_pointer : breaks
    (stmt.If (at 200)
    (condition (conjunction (test.Compare (number (codes "1") 202) true (operand.Path (var (codes "p") 204)) ∷ [])
    ∷ [])) (stmt.Empty (at 206)) None) ≡ Rule 8 (at 204) ∷ []
one_and_pointer = simp layers refl

-- if (RED == NULL) ;
enumerator_and_null : breaks
    (stmt.If (at 200)
    (condition (conjunction (test.Compare (operand.Path (var (codes "RED") 202)) true (operand.Null (at 204)) ∷ [])
    ∷ [])) (stmt.Empty (at 206)) None) ≡ Rule 8 (at 204) ∷ []
enumerator_and_null = simp layers refl

-- if (RED == x) ;
enumerator_and_data : breaks
    (stmt.If (at 200)
    (condition
    (conjunction (test.Compare (operand.Path (var (codes "RED") 202)) true (operand.Path (var (codes "x") 204)) ∷ [])
    ∷ [])) (stmt.Empty (at 206)) None) ≡ []
enumerator_and_data = simp layers refl

-- if (z == p) ;: it wants nothing
no_name_at_the_left : breaks
    (stmt.If (at 200)
    (condition
    (conjunction (test.Compare (operand.Path (var (codes "z") 202)) true (operand.Path (var (codes "p") 204)) ∷ [])
    ∷ [])) (stmt.Empty (at 206)) None) ≡ Rule 3 (at 202) ∷ []
no_name_at_the_left = simp layers refl

-- if (x == z) ;
no_name_at_the_right : breaks
    (stmt.If (at 200)
    (condition
    (conjunction (test.Compare (operand.Path (var (codes "x") 202)) true (operand.Path (var (codes "z") 204)) ∷ [])
    ∷ [])) (stmt.Empty (at 206)) None) ≡ Rule 3 (at 204) ∷ []
no_name_at_the_right = simp layers refl

-- if (x == __VERIFIER_nondet_int()) ;
call_at_the_right : breaks
    (stmt.If (at 200)
    (condition
    (conjunction
    (test.Compare (operand.Path (var (codes "x") 202)) true (operand.Call (call (codes "__VERIFIER_nondet_int") 204 []))
    ∷ []) ∷ [])) (stmt.Empty (at 208)) None) ≡ Rule 15 (at 204) ∷ []
call_at_the_right = simp layers refl

-- if (__VERIFIER_nondet_bool() == p) ;
call_at_the_left : breaks
    (stmt.If (at 200)
    (condition
    (conjunction
    (test.Compare (operand.Call (call (codes "__VERIFIER_nondet_bool") 202 [])) true
    (operand.Path (var (codes "p") 206)) ∷ []) ∷ [])) (stmt.Empty (at 208)) None) ≡ Rule 15 (at 202) ∷ []
call_at_the_left = simp layers refl

-- Truths: anything but a call that gives no choice

-- if (p) ;
truth_of_a_pointer : breaks
    (stmt.If (at 200)
    (condition (conjunction (test.Unary (unary.Operand (operand.Path (var (codes "p") 202))) ∷ []) ∷ []))
    (stmt.Empty (at 204)) None) ≡ []
truth_of_a_pointer = simp layers refl

-- while (x) ;
truth_of_data :
    breaks
    (stmt.While (at 200)
    (condition (conjunction (test.Unary (unary.Operand (operand.Path (var (codes "x") 202))) ∷ []) ∷ []))
    (stmt.Empty (at 204))) ≡ []
truth_of_data = simp layers refl

-- if (q->twin->mark) ;
truth_of_a_field : breaks
    (stmt.If (at 200)
    (condition
    (conjunction
    (test.Unary
    (unary.Operand (operand.Path (path (codes "q") 202 (arrow (codes "twin") 203 ∷ arrow (codes "mark") 205 ∷ []))))
    ∷ []) ∷ [])) (stmt.Empty (at 208)) None) ≡ []
truth_of_a_field = simp layers refl

-- if (NULL || 0 || 7 || true || RED) ;
truth_of_literals : breaks
    (stmt.If (at 200)
    (condition (conjunction (test.Unary (unary.Operand (operand.Null (at 202))) ∷ [])
    ∷ conjunction (test.Unary (unary.Operand (number (codes "0") 204)) ∷ [])
    ∷ conjunction (test.Unary (unary.Operand (number (codes "7") 206)) ∷ [])
    ∷ conjunction (test.Unary (unary.Operand (operand.True (at 208))) ∷ [])
    ∷ conjunction (test.Unary (unary.Operand (operand.Path (var (codes "RED") 210))) ∷ []) ∷ [])) (stmt.Empty (at 212))
    None) ≡ []
truth_of_literals = simp layers refl

-- if (z) ;
truth_of_no_name : breaks
    (stmt.If (at 200)
    (condition (conjunction (test.Unary (unary.Operand (operand.Path (var (codes "z") 202))) ∷ []) ∷ []))
    (stmt.Empty (at 204)) None) ≡ Rule 3 (at 202) ∷ []
truth_of_no_name = simp layers refl

-- if (RED->next) ;
truth_of_an_enumerator_with_an_arrow :
    breaks
    (stmt.If (at 200)
    (condition
    (conjunction (test.Unary (unary.Operand (operand.Path (path (codes "RED") 202 (arrow (codes "next") 203 ∷ []))))
    ∷ []) ∷ [])) (stmt.Empty (at 206)) None) ≡ Rule 3 (at 202) ∷ []
truth_of_an_enumerator_with_an_arrow = simp layers refl

-- if (!x->next) ;
arrow_on_data_in_a_truth :
    breaks
    (stmt.If (at 200)
    (condition
    (conjunction
    (test.Unary
    (unary.Not (at 202) (unary.Operand (operand.Path (path (codes "x") 203 (arrow (codes "next") 204 ∷ []))))) ∷ [])
    ∷ [])) (stmt.Empty (at 207)) None) ≡ Rule 9 (at 204) ∷ []
arrow_on_data_in_a_truth = simp layers refl

-- if (__VERIFIER_nondet_int() && !__VERIFIER_nondet_bool()) ;
choices :
    breaks
    (stmt.If (at 200)
    (condition
    (conjunction (test.Unary (unary.Operand (operand.Call (call (codes "__VERIFIER_nondet_int") 202 [])))
    ∷ test.Unary (unary.Not (at 206) (unary.Operand (operand.Call (call (codes "__VERIFIER_nondet_bool") 207 []))))
    ∷ []) ∷ [])) (stmt.Empty (at 211)) None) ≡ []
choices = simp layers refl

-- do ; while ((__VERIFIER_nondet_int()) || x == 1);
choice_in_brackets : breaks
    (stmt.Do (at 200) (stmt.Empty (at 201))
    (condition
    (conjunction
    (test.Unary
    (unary.Bracket (at 204)
    (condition
    (conjunction (test.Unary (unary.Operand (operand.Call (call (codes "__VERIFIER_nondet_int") 205 []))) ∷ []) ∷ [])))
    ∷ []) ∷ conjunction (test.Compare (operand.Path (var (codes "x") 210)) true (number (codes "1") 212) ∷ []) ∷ [])))
    ≡ []
choice_in_brackets = simp layers refl

-- if (__VERIFIER_nondet_int(1)) ;
choice_with_an_operand :
    breaks
    (stmt.If (at 200)
    (condition
    (conjunction
    (test.Unary
    (unary.Operand (operand.Call (call (codes "__VERIFIER_nondet_int") 202 ((number (codes "1") 204) ∷ [])))) ∷ [])
    ∷ [])) (stmt.Empty (at 207)) None) ≡ Rule 15 (at 202) ∷ []
choice_with_an_operand = simp layers refl

-- if (f()) ;
other_call_as_a_condition :
    breaks
    (stmt.If (at 200)
    (condition (conjunction (test.Unary (unary.Operand (operand.Call (call (codes "f") 202 []))) ∷ []) ∷ []))
    (stmt.Empty (at 206)) None) ≡ Rule 15 (at 202) ∷ []
other_call_as_a_condition = simp layers refl

-- if (!reach_error()) ;
error_as_a_condition : breaks
    (stmt.If (at 200)
    (condition
    (conjunction (test.Unary (unary.Not (at 202) (unary.Operand (operand.Call (call (codes "reach_error") 203 []))))
    ∷ []) ∷ [])) (stmt.Empty (at 207)) None) ≡ Rule 15 (at 203) ∷ []
error_as_a_condition = simp layers refl

-- if (a && (b || !c) || x == p) ;
all_parts_are_looked_at :
    breaks
    (stmt.If (at 200)
    (condition
    (conjunction (test.Unary (unary.Operand (operand.Path (var (codes "a") 202)))
    ∷ test.Unary
    (unary.Bracket (at 204)
    (condition (conjunction (test.Unary (unary.Operand (operand.Path (var (codes "b") 205))) ∷ [])
    ∷ conjunction (test.Unary (unary.Not (at 207) (unary.Operand (operand.Path (var (codes "c") 208)))) ∷ []) ∷ [])))
    ∷ [])
    ∷ conjunction (test.Compare (operand.Path (var (codes "x") 211)) true (operand.Path (var (codes "p") 213)) ∷ [])
    ∷ [])) (stmt.Empty (at 215)) None) ≡ Rule 3 (at 202) ∷ Rule 3 (at 205) ∷ Rule 3 (at 208) ∷ Rule 8 (at 213) ∷ []
all_parts_are_looked_at = simp layers refl

-- assert(p != 1);
assertion :
    breaks
    (stmt.Assert (at 200)
    (condition (conjunction (test.Compare (operand.Path (var (codes "p") 202)) false (number (codes "1") 204) ∷ [])
    ∷ []))) ≡ Rule 7 (at 204) ∷ []
assertion = simp layers refl

-- Calls as statements (T15)

-- abort();
abort : breaks (stmt.Simple (simple.Call (call (codes "abort") 200 []))) ≡ []
abort = simp layers refl

-- { __VERIFIER_error(); reach_error(); }
errors :
    breaks
    (stmt.Block
    (block 200 (part'.Stmt (stmt.Simple (simple.Call (call (codes "__VERIFIER_error") 201 [])))
    ∷ part'.Stmt (stmt.Simple (simple.Call (call (codes "reach_error") 205 []))) ∷ []) 209)) ≡ []
errors = simp layers refl

-- abort(1);
abort_with_an_operand : breaks (stmt.Simple (simple.Call (call (codes "abort") 200 ((number (codes "1") 202) ∷ []))))
    ≡ Rule 15 (at 200) ∷ []
abort_with_an_operand = simp layers refl

-- reach_error(p);
error_with_an_operand : breaks
    (stmt.Simple (simple.Call (call (codes "reach_error") 200 ((operand.Path (var (codes "p") 202)) ∷ []))))
    ≡ Rule 15 (at 200) ∷ []
error_with_an_operand = simp layers refl

-- exit(3);
exit_with_a_number : breaks (stmt.Simple (simple.Call (call (codes "exit") 200 ((number (codes "3") 202) ∷ [])))) ≡ []
exit_with_a_number = simp layers refl

-- exit(0);
exit_with_zero : breaks (stmt.Simple (simple.Call (call (codes "exit") 200 ((number (codes "0") 202) ∷ [])))) ≡ []
exit_with_zero = simp layers refl

-- exit(true);
exit_with_true : breaks (stmt.Simple (simple.Call (call (codes "exit") 200 ((operand.True (at 202)) ∷ [])))) ≡ []
exit_with_true = simp layers refl

-- exit(RED);
exit_with_an_enumerator :
    breaks (stmt.Simple (simple.Call (call (codes "exit") 200 ((operand.Path (var (codes "RED") 202)) ∷ [])))) ≡ []
exit_with_an_enumerator = simp layers refl

-- exit();
exit_without_operand : breaks (stmt.Simple (simple.Call (call (codes "exit") 200 []))) ≡ Rule 15 (at 200) ∷ []
exit_without_operand = simp layers refl

-- exit(1, 1);
exit_with_two :
    breaks
    (stmt.Simple (simple.Call (call (codes "exit") 200 ((number (codes "1") 202) ∷ (number (codes "1") 204) ∷ []))))
    ≡ Rule 15 (at 200) ∷ []
exit_with_two = simp layers refl

-- exit(NULL);
exit_with_null : breaks (stmt.Simple (simple.Call (call (codes "exit") 200 ((operand.Null (at 202)) ∷ []))))
    ≡ Rule 15 (at 200) ∷ []
exit_with_null = simp layers refl

-- exit(x);
exit_with_a_variable : breaks
    (stmt.Simple (simple.Call (call (codes "exit") 200 ((operand.Path (var (codes "x") 202)) ∷ [])))) ≡ Rule 15 (at 200)
    ∷ []
exit_with_a_variable = simp layers refl

-- exit(p);
exit_with_a_pointer : breaks
    (stmt.Simple (simple.Call (call (codes "exit") 200 ((operand.Path (var (codes "p") 202)) ∷ [])))) ≡ Rule 15 (at 200)
    ∷ []
exit_with_a_pointer = simp layers refl

-- exit(f());
exit_with_a_call : breaks
    (stmt.Simple (simple.Call (call (codes "exit") 200 ((operand.Call (call (codes "f") 202 [])) ∷ []))))
    ≡ Rule 15 (at 200) ∷ []
exit_with_a_call = simp layers refl

-- exit(z);: its operands are not asked
exit_with_no_name : breaks
    (stmt.Simple (simple.Call (call (codes "exit") 200 ((operand.Path (var (codes "z") 202)) ∷ [])))) ≡ Rule 15 (at 200)
    ∷ []
exit_with_no_name = simp layers refl

-- { int RED; exit(RED); }
exit_with_a_hidden_enumerator :
    breaks
    (stmt.Block
    (block 200 (part'.Declare (declare.Datums (data'.Int (at 201)) (plain (codes "RED") 202 ∷ []))
    ∷ part'.Stmt (stmt.Simple (simple.Call (call (codes "exit") 204 ((operand.Path (var (codes "RED") 206)) ∷ []))))
    ∷ []) 209)) ≡ Rule 15 (at 204) ∷ []
exit_with_a_hidden_enumerator = simp layers refl

-- __VERIFIER_nondet_int();
choice_as_a_statement : breaks (stmt.Simple (simple.Call (call (codes "__VERIFIER_nondet_int") 200 [])))
    ≡ Rule 15 (at 200) ∷ []
choice_as_a_statement = simp layers refl

-- f(p, x);
other_call :
    breaks
    (stmt.Simple
    (simple.Call
    (call (codes "f") 200 ((operand.Path (var (codes "p") 202)) ∷ (operand.Path (var (codes "x") 204)) ∷ []))))
    ≡ Rule 15 (at 200) ∷ []
other_call = simp layers refl

-- calloc(1);
malloc_is_no_call : breaks (stmt.Simple (simple.Call (call (codes "calloc") 200 ((number (codes "1") 202) ∷ []))))
    ≡ Rule 15 (at 200) ∷ []
malloc_is_no_call = simp layers refl

-- Calls as right sides

-- x = __VERIFIER_nondet_int();
other_choice_to_data : breaks
    (stmt.Simple
    (simple.Assign (var (codes "x") 200) (rhs.Operand (operand.Call (call (codes "__VERIFIER_nondet_int") 202 [])))))
    ≡ Rule 15 (at 202) ∷ []
other_choice_to_data = simp layers refl

-- p = __VERIFIER_nondet_int();: and not T7
other_choice_to_a_pointer :
    breaks
    (stmt.Simple
    (simple.Assign (var (codes "p") 200) (rhs.Operand (operand.Call (call (codes "__VERIFIER_nondet_int") 202 [])))))
    ≡ Rule 15 (at 202) ∷ []
other_choice_to_a_pointer = simp layers refl

-- x = __VERIFIER_nondet_bool(0);
choice_with_an_operand_to_data :
    breaks
    (stmt.Simple
    (simple.Assign (var (codes "x") 200)
    (rhs.Operand (operand.Call (call (codes "__VERIFIER_nondet_bool") 202 ((number (codes "0") 204) ∷ []))))))
    ≡ Rule 15 (at 202) ∷ []
choice_with_an_operand_to_data = simp layers refl

-- z = __VERIFIER_nondet_bool();
call_to_no_target : breaks
    (stmt.Simple
    (simple.Assign (var (codes "z") 200) (rhs.Operand (operand.Call (call (codes "__VERIFIER_nondet_bool") 202 [])))))
    ≡ Rule 3 (at 200) ∷ []
call_to_no_target = simp layers refl

-- { int abort; abort(); }
variable_hides_no_function :
    breaks
    (stmt.Block
    (block 200 (part'.Declare (declare.Datums (data'.Int (at 201)) (plain (codes "abort") 202 ∷ []))
    ∷ part'.Stmt (stmt.Simple (simple.Call (call (codes "abort") 204 []))) ∷ []) 208)) ≡ []
variable_hides_no_function = simp layers refl

-- `return` wants data or nothing

-- return;
return_nothing : breaks (stmt.Return (at 200) None) ≡ []
return_nothing = simp layers refl

-- return 0;
return_zero : breaks (stmt.Return (at 200) (Some (number (codes "0") 201))) ≡ []
return_zero = simp layers refl

-- return q->mark;
return_data : breaks (stmt.Return (at 200) (Some (operand.Path (path (codes "q") 201 (arrow (codes "mark") 202 ∷ [])))))
    ≡ []
return_data = simp layers refl

-- return RED;
return_an_enumerator : breaks (stmt.Return (at 200) (Some (operand.Path (var (codes "RED") 201)))) ≡ []
return_an_enumerator = simp layers refl

-- return NULL;
return_null : breaks (stmt.Return (at 200) (Some (operand.Null (at 201)))) ≡ Rule 8 (at 201) ∷ []
return_null = simp layers refl

-- return p;
return_a_pointer : breaks (stmt.Return (at 200) (Some (operand.Path (var (codes "p") 201)))) ≡ Rule 8 (at 201) ∷ []
return_a_pointer = simp layers refl

-- return __VERIFIER_nondet_bool();
return_a_call : breaks (stmt.Return (at 200) (Some (operand.Call (call (codes "__VERIFIER_nondet_bool") 201 []))))
    ≡ Rule 15 (at 201) ∷ []
return_a_call = simp layers refl

-- return z;
return_no_name : breaks (stmt.Return (at 200) (Some (operand.Path (var (codes "z") 201)))) ≡ Rule 3 (at 201) ∷ []
return_no_name = simp layers refl

-- return x->key;
return_an_arrow_on_data :
    breaks (stmt.Return (at 200) (Some (operand.Path (path (codes "x") 201 (arrow (codes "key") 202 ∷ [])))))
    ≡ Rule 9 (at 202) ∷ []
return_an_arrow_on_data = simp layers refl
