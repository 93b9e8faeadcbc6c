-- Rows on scopes and loops, in the file and scope of the rows on assignments.
use Rattle.std.proofs.Common.{◌≡◌, true, [], ◌∷◌, Some, None, codes, refl}
use Rattle.c_ast.specs.declared.conditions.Test.TheVariants as test
use Rattle.c_ast.specs.declared.conditions.Unary.TheVariants as unary
use Rattle.c_ast.specs.declared.operands.Operand.TheVariants as operand
use Rattle.c_ast.specs.declared.simples.Rhs.TheVariants as rhs
use Rattle.c_ast.specs.declared.simples.Simple.TheVariants as simple
use Rattle.c_ast.specs.declared.simples.Size.TheVariants as size
use Rattle.c_ast.specs.declared.statements.Data.TheVariants as data'
use Rattle.c_ast.specs.declared.statements.Declare.TheVariants as declare
use Rattle.c_ast.specs.declared.statements.First.TheVariants as first
use Rattle.c_ast.specs.declared.statements.Part.TheVariants as part'
use Rattle.c_ast.specs.declared.statements.Stmt.TheVariants as stmt
use Rattle.c_typing.specs.declared.fault.TypeFault.TheVariants.{Rule}
use Rattle.c_typing.proofs.Layers.{layers}
use Rattle.c_typing.proofs.Rows.Forms.{at, name, var, arrow, path, call, number, condition, conjunction, plain, begun}
use Rattle.c_typing.proofs.Rows.Forms.{block, breaks}

-- A variable is in scope from its own declarator to the end of its block

-- { z = 1; int z; }
before_its_declarator : breaks
    (stmt.Block
    (block 200 (part'.Stmt (stmt.Simple (simple.Assign (var (codes "z") 201) (rhs.Operand (number (codes "1") 203))))
    ∷ part'.Declare (declare.Datums (data'.Int (at 205)) (plain (codes "z") 206 ∷ [])) ∷ []) 208)) ≡ Rule 3 (at 201)
    ∷ []
before_its_declarator = simp layers refl

-- { int z; z = 1; }
after_its_declarator : breaks
    (stmt.Block
    (block 200 (part'.Declare (declare.Datums (data'.Int (at 201)) (plain (codes "z") 202 ∷ []))
    ∷ part'.Stmt (stmt.Simple (simple.Assign (var (codes "z") 204) (rhs.Operand (number (codes "1") 206)))) ∷ []) 208))
    ≡ []
after_its_declarator = simp layers refl

-- { int z; { z = 1; } }
in_an_inner_block : breaks
    (stmt.Block
    (block 200 (part'.Declare (declare.Datums (data'.Int (at 201)) (plain (codes "z") 202 ∷ []))
    ∷ part'.Stmt
    (stmt.Block
    (block 204 (part'.Stmt (stmt.Simple (simple.Assign (var (codes "z") 205) (rhs.Operand (number (codes "1") 207))))
    ∷ []) 209)) ∷ []) 210)) ≡ []
in_an_inner_block = simp layers refl

-- { { int z; } z = 1; }
after_its_block : breaks
    (stmt.Block
    (block 200
    (part'.Stmt
    (stmt.Block (block 201 (part'.Declare (declare.Datums (data'.Int (at 202)) (plain (codes "z") 203 ∷ [])) ∷ []) 205))
    ∷ part'.Stmt (stmt.Simple (simple.Assign (var (codes "z") 206) (rhs.Operand (number (codes "1") 208)))) ∷ []) 210))
    ≡ Rule 3 (at 206) ∷ []
after_its_block = simp layers refl

-- { if (x) { int z; } else z = 1; }
after_its_branch : breaks
    (stmt.Block
    (block 200
    (part'.Stmt
    (stmt.If (at 201)
    (condition (conjunction (test.Unary (unary.Operand (operand.Path (var (codes "x") 203))) ∷ []) ∷ []))
    (stmt.Block (block 205 (part'.Declare (declare.Datums (data'.Int (at 206)) (plain (codes "z") 207 ∷ [])) ∷ []) 209))
    (Some (stmt.Simple (simple.Assign (var (codes "z") 211) (rhs.Operand (number (codes "1") 213)))))) ∷ []) 215))
    ≡ Rule 3 (at 211) ∷ []
after_its_branch = simp layers refl

-- { int z = z; }
in_its_own_initialiser :
    breaks
    (stmt.Block
    (block 200
    (part'.Declare
    (declare.Datums (data'.Int (at 201))
    (begun (codes "z") 202 (rhs.Operand (operand.Path (var (codes "z") 204))) ∷ [])) ∷ []) 206)) ≡ []
in_its_own_initialiser = simp layers refl

-- { int y = z, z = y; }
in_the_initialiser_before :
    breaks
    (stmt.Block
    (block 200
    (part'.Declare
    (declare.Datums (data'.Int (at 201))
    (begun (codes "y") 202 (rhs.Operand (operand.Path (var (codes "z") 204)))
    ∷ begun (codes "z") 206 (rhs.Operand (operand.Path (var (codes "y") 208))) ∷ [])) ∷ []) 210)) ≡ Rule 3 (at 204) ∷ []
in_the_initialiser_before = simp layers refl

-- { int z = 1, w = z; }
in_the_initialiser_after :
    breaks
    (stmt.Block
    (block 200
    (part'.Declare
    (declare.Datums (data'.Int (at 201))
    (begun (codes "z") 202 (rhs.Operand (number (codes "1") 204))
    ∷ begun (codes "w") 206 (rhs.Operand (operand.Path (var (codes "z") 208))) ∷ [])) ∷ []) 210)) ≡ []
in_the_initialiser_after = simp layers refl

-- { struct node *z = malloc(sizeof *z); }
its_own_size :
    breaks
    (stmt.Block
    (block 200
    (part'.Declare
    (declare.Pointers (at 201) (name (codes "node") 202)
    (begun (codes "z") 204 (rhs.Malloc None (at 206) (size.Bare (at 208) (at 209) (var (codes "z") 210))) ∷ [])) ∷ [])
    213)) ≡ []
its_own_size = simp layers refl

-- { struct node *x; x = 1; x = p; }: x is a pointer here
inner_hides_outer : breaks
    (stmt.Block
    (block 200 (part'.Declare (declare.Pointers (at 201) (name (codes "node") 202) (plain (codes "x") 204 ∷ []))
    ∷ part'.Stmt (stmt.Simple (simple.Assign (var (codes "x") 206) (rhs.Operand (number (codes "1") 208))))
    ∷ part'.Stmt (stmt.Simple (simple.Assign (var (codes "x") 210) (rhs.Operand (operand.Path (var (codes "p") 212)))))
    ∷ []) 214)) ≡ Rule 7 (at 208) ∷ []
inner_hides_outer = simp layers refl

-- { { struct node *x; } x = 1; x = p; }
outer_is_back :
    breaks
    (stmt.Block
    (block 200
    (part'.Stmt
    (stmt.Block
    (block 201 (part'.Declare (declare.Pointers (at 202) (name (codes "node") 203) (plain (codes "x") 205 ∷ [])) ∷ [])
    207)) ∷ part'.Stmt (stmt.Simple (simple.Assign (var (codes "x") 208) (rhs.Operand (number (codes "1") 210))))
    ∷ part'.Stmt (stmt.Simple (simple.Assign (var (codes "x") 212) (rhs.Operand (operand.Path (var (codes "p") 214)))))
    ∷ []) 216)) ≡ Rule 8 (at 214) ∷ []
outer_is_back = simp layers refl

-- { struct node *RED; RED = p; p = RED->next; }
variable_hides_enumerator :
    breaks
    (stmt.Block
    (block 200 (part'.Declare (declare.Pointers (at 201) (name (codes "node") 202) (plain (codes "RED") 204 ∷ []))
    ∷ part'.Stmt
    (stmt.Simple (simple.Assign (var (codes "RED") 206) (rhs.Operand (operand.Path (var (codes "p") 208)))))
    ∷ part'.Stmt
    (stmt.Simple
    (simple.Assign (var (codes "p") 210)
    (rhs.Operand (operand.Path (path (codes "RED") 212 (arrow (codes "next") 213 ∷ [])))))) ∷ []) 216)) ≡ []
variable_hides_enumerator = simp layers refl

-- { struct node *x = x; }
initialiser_sees_the_inner_one :
    breaks
    (stmt.Block
    (block 200
    (part'.Declare
    (declare.Pointers (at 201) (name (codes "node") 202)
    (begun (codes "x") 204 (rhs.Operand (operand.Path (var (codes "x") 206))) ∷ [])) ∷ []) 208)) ≡ []
initialiser_sees_the_inner_one = simp layers refl

-- Two of one name in one block (T5); the first counts

-- { int z; int z; }
two_of_one_name : breaks
    (stmt.Block
    (block 200 (part'.Declare (declare.Datums (data'.Int (at 201)) (plain (codes "z") 202 ∷ []))
    ∷ part'.Declare (declare.Datums (data'.Int (at 204)) (plain (codes "z") 205 ∷ [])) ∷ []) 207)) ≡ Rule 5 (at 205)
    ∷ []
two_of_one_name = simp layers refl

-- { int z, z; }
two_in_one_declaration :
    breaks
    (stmt.Block
    (block 200 (part'.Declare (declare.Datums (data'.Int (at 201)) (plain (codes "z") 202 ∷ plain (codes "z") 204 ∷ []))
    ∷ []) 206)) ≡ Rule 5 (at 204) ∷ []
two_in_one_declaration = simp layers refl

-- { int z; struct node *z; z = 1; z = p; }
two_of_different_kinds :
    breaks
    (stmt.Block
    (block 200 (part'.Declare (declare.Datums (data'.Int (at 201)) (plain (codes "z") 202 ∷ []))
    ∷ part'.Declare (declare.Pointers (at 204) (name (codes "node") 205) (plain (codes "z") 207 ∷ []))
    ∷ part'.Stmt (stmt.Simple (simple.Assign (var (codes "z") 209) (rhs.Operand (number (codes "1") 211))))
    ∷ part'.Stmt (stmt.Simple (simple.Assign (var (codes "z") 213) (rhs.Operand (operand.Path (var (codes "p") 215)))))
    ∷ []) 217)) ≡ Rule 5 (at 207) ∷ Rule 8 (at 215) ∷ []
two_of_different_kinds = simp layers refl

-- { int z; { int z; } }
one_in_an_inner_block : breaks
    (stmt.Block
    (block 200 (part'.Declare (declare.Datums (data'.Int (at 201)) (plain (codes "z") 202 ∷ []))
    ∷ part'.Stmt
    (stmt.Block (block 204 (part'.Declare (declare.Datums (data'.Int (at 205)) (plain (codes "z") 206 ∷ [])) ∷ []) 208))
    ∷ []) 209)) ≡ []
one_in_an_inner_block = simp layers refl

-- { int z; int z; int z; }
three_of_one_name : breaks
    (stmt.Block
    (block 200 (part'.Declare (declare.Datums (data'.Int (at 201)) (plain (codes "z") 202 ∷ []))
    ∷ part'.Declare (declare.Datums (data'.Int (at 204)) (plain (codes "z") 205 ∷ []))
    ∷ part'.Declare (declare.Datums (data'.Int (at 207)) (plain (codes "z") 208 ∷ [])) ∷ []) 210)) ≡ Rule 5 (at 205)
    ∷ Rule 5 (at 208) ∷ []
three_of_one_name = simp layers refl

-- { int RED; RED = 1; }
same_as_an_enumerator : breaks
    (stmt.Block
    (block 200 (part'.Declare (declare.Datums (data'.Int (at 201)) (plain (codes "RED") 202 ∷ []))
    ∷ part'.Stmt (stmt.Simple (simple.Assign (var (codes "RED") 204) (rhs.Operand (number (codes "1") 206)))) ∷ [])
    208)) ≡ []
same_as_an_enumerator = simp layers refl

-- A `for` is a block of its own

-- for (int z = 0; z; z = 1) z = x;
for_declares :
    breaks
    (stmt.For (at 200)
    (first.Declare
    (declare.Datums (data'.Int (at 202)) (begun (codes "z") 203 (rhs.Operand (number (codes "0") 205)) ∷ [])))
    (Some (condition (conjunction (test.Unary (unary.Operand (operand.Path (var (codes "z") 207))) ∷ []) ∷ [])))
    (Some (simple.Assign (var (codes "z") 209) (rhs.Operand (number (codes "1") 211))))
    (stmt.Simple (simple.Assign (var (codes "z") 213) (rhs.Operand (operand.Path (var (codes "x") 215)))))) ≡ []
for_declares = simp layers refl

-- { for (int z = 0; ; ) ; z = 1; }
for_variable_after_it : breaks
    (stmt.Block
    (block 200
    (part'.Stmt
    (stmt.For (at 201)
    (first.Declare
    (declare.Datums (data'.Int (at 203)) (begun (codes "z") 204 (rhs.Operand (number (codes "0") 206)) ∷ []))) None None
    (stmt.Empty (at 210))) ∷ part'.Stmt
    (stmt.Simple (simple.Assign (var (codes "z") 211) (rhs.Operand (number (codes "1") 213)))) ∷ []) 215))
    ≡ Rule 3 (at 211) ∷ []
for_variable_after_it = simp layers refl

-- for (int z, z; ; ) ;
two_in_one_for :
    breaks
    (stmt.For (at 200)
    (first.Declare (declare.Datums (data'.Int (at 202)) (plain (codes "z") 203 ∷ plain (codes "z") 205 ∷ []))) None None
    (stmt.Empty (at 209))) ≡ Rule 5 (at 205) ∷ []
two_in_one_for = simp layers refl

-- for (int z; ; ) { int z; }
for_and_its_block : breaks
    (stmt.For (at 200) (first.Declare (declare.Datums (data'.Int (at 202)) (plain (codes "z") 203 ∷ []))) None None
    (stmt.Block
    (block 207 (part'.Declare (declare.Datums (data'.Int (at 208)) (plain (codes "z") 209 ∷ [])) ∷ []) 211))) ≡ []
for_and_its_block = simp layers refl

-- for (struct node *x = p; x; x = x->next) x->key = 1;
for_hides :
    breaks
    (stmt.For (at 200)
    (first.Declare
    (declare.Pointers (at 202) (name (codes "node") 203)
    (begun (codes "x") 205 (rhs.Operand (operand.Path (var (codes "p") 207))) ∷ [])))
    (Some (condition (conjunction (test.Unary (unary.Operand (operand.Path (var (codes "x") 209))) ∷ []) ∷ [])))
    (Some
    (simple.Assign (var (codes "x") 211)
    (rhs.Operand (operand.Path (path (codes "x") 213 (arrow (codes "next") 214 ∷ []))))))
    (stmt.Simple
    (simple.Assign (path (codes "x") 217 (arrow (codes "key") 218 ∷ [])) (rhs.Operand (number (codes "1") 221))))) ≡ []
for_hides = simp layers refl

-- { int z; for (int z; ; ) ; z = 2; }
for_and_the_block_round_it :
    breaks
    (stmt.Block
    (block 200 (part'.Declare (declare.Datums (data'.Int (at 201)) (plain (codes "z") 202 ∷ []))
    ∷ part'.Stmt
    (stmt.For (at 204) (first.Declare (declare.Datums (data'.Int (at 206)) (plain (codes "z") 207 ∷ []))) None None
    (stmt.Empty (at 211))) ∷ part'.Stmt
    (stmt.Simple (simple.Assign (var (codes "z") 212) (rhs.Operand (number (codes "2") 214)))) ∷ []) 216)) ≡ []
for_and_the_block_round_it = simp layers refl

-- for (p = x; x == p; q = p) r = x;
for_parts :
    breaks
    (stmt.For (at 200)
    (first.Simple (simple.Assign (var (codes "p") 202) (rhs.Operand (operand.Path (var (codes "x") 204)))))
    (Some
    (condition
    (conjunction (test.Compare (operand.Path (var (codes "x") 206)) true (operand.Path (var (codes "p") 208)) ∷ [])
    ∷ []))) (Some (simple.Assign (var (codes "q") 210) (rhs.Operand (operand.Path (var (codes "p") 212)))))
    (stmt.Simple (simple.Assign (var (codes "r") 214) (rhs.Operand (operand.Path (var (codes "x") 216))))))
    ≡ Rule 7 (at 204) ∷ Rule 8 (at 208) ∷ Rule 6 (at 212) ∷ Rule 7 (at 216) ∷ []
for_parts = simp layers refl

-- for (abort(); ; f()) ;
for_with_a_call : breaks
    (stmt.For (at 200) (first.Simple (simple.Call (call (codes "abort") 202 []))) None
    (Some (simple.Call (call (codes "f") 207 []))) (stmt.Empty (at 211))) ≡ Rule 15 (at 207) ∷ []
for_with_a_call = simp layers refl

-- Types in declarations (T1, T4), and initialisers

-- { struct none *z; }
no_struct :
    breaks
    (stmt.Block
    (block 200 (part'.Declare (declare.Pointers (at 201) (name (codes "none") 202) (plain (codes "z") 204 ∷ [])) ∷ [])
    206)) ≡ Rule 1 (at 202) ∷ []
no_struct = simp layers refl

-- { struct none *z = p; z->any = 1; }
no_struct_breaks_nothing_more :
    breaks
    (stmt.Block
    (block 200
    (part'.Declare
    (declare.Pointers (at 201) (name (codes "none") 202)
    (begun (codes "z") 204 (rhs.Operand (operand.Path (var (codes "p") 206))) ∷ []))
    ∷ part'.Stmt
    (stmt.Simple
    (simple.Assign (path (codes "z") 208 (arrow (codes "any") 209 ∷ [])) (rhs.Operand (number (codes "1") 212)))) ∷ [])
    214)) ≡ Rule 1 (at 202) ∷ []
no_struct_breaks_nothing_more = simp layers refl

-- { enum none z = RED; }
no_enumeration :
    breaks
    (stmt.Block
    (block 200
    (part'.Declare
    (declare.Datums (data'.Enum (at 201) (name (codes "none") 202))
    (begun (codes "z") 203 (rhs.Operand (operand.Path (var (codes "RED") 205))) ∷ [])) ∷ []) 207)) ≡ Rule 4 (at 202)
    ∷ []
no_enumeration = simp layers refl

-- { enum color z = RED; z = 5; }
enumeration :
    breaks
    (stmt.Block
    (block 200
    (part'.Declare
    (declare.Datums (data'.Enum (at 201) (name (codes "color") 202))
    (begun (codes "z") 203 (rhs.Operand (operand.Path (var (codes "RED") 205))) ∷ []))
    ∷ part'.Stmt (stmt.Simple (simple.Assign (var (codes "z") 207) (rhs.Operand (number (codes "5") 209)))) ∷ []) 211))
    ≡ []
enumeration = simp layers refl

-- { struct node *z = 1; }
data_to_a_pointer : breaks
    (stmt.Block
    (block 200
    (part'.Declare
    (declare.Pointers (at 201) (name (codes "node") 202)
    (begun (codes "z") 204 (rhs.Operand (number (codes "1") 206)) ∷ [])) ∷ []) 208)) ≡ Rule 7 (at 206) ∷ []
data_to_a_pointer = simp layers refl

-- { int z = p; }
pointer_to_data : breaks
    (stmt.Block
    (block 200
    (part'.Declare
    (declare.Datums (data'.Int (at 201))
    (begun (codes "z") 202 (rhs.Operand (operand.Path (var (codes "p") 204))) ∷ [])) ∷ []) 206)) ≡ Rule 8 (at 204) ∷ []
pointer_to_data = simp layers refl

-- { int z = __VERIFIER_nondet_bool(); }
choice_starts_data : breaks
    (stmt.Block
    (block 200
    (part'.Declare
    (declare.Datums (data'.Int (at 201))
    (begun (codes "z") 202 (rhs.Operand (operand.Call (call (codes "__VERIFIER_nondet_bool") 204 []))) ∷ [])) ∷ [])
    208)) ≡ []
choice_starts_data = simp layers refl

-- { struct node *z = __VERIFIER_nondet_bool(); }
choice_starts_a_pointer :
    breaks
    (stmt.Block
    (block 200
    (part'.Declare
    (declare.Pointers (at 201) (name (codes "node") 202)
    (begun (codes "z") 204 (rhs.Operand (operand.Call (call (codes "__VERIFIER_nondet_bool") 206 []))) ∷ [])) ∷ [])
    210)) ≡ Rule 7 (at 206) ∷ []
choice_starts_a_pointer = simp layers refl

-- { struct node *z = q, *w = z; }
pointer_to_another_struct :
    breaks
    (stmt.Block
    (block 200
    (part'.Declare
    (declare.Pointers (at 201) (name (codes "node") 202)
    (begun (codes "z") 204 (rhs.Operand (operand.Path (var (codes "q") 206)))
    ∷ begun (codes "w") 209 (rhs.Operand (operand.Path (var (codes "z") 211))) ∷ [])) ∷ []) 213)) ≡ Rule 6 (at 206) ∷ []
pointer_to_another_struct = simp layers refl

-- `break` and `continue` (T11)

-- break;
break_alone : breaks (stmt.Break (at 200)) ≡ Rule 11 (at 200) ∷ []
break_alone = simp layers refl

-- { continue; }
continue_in_a_block : breaks (stmt.Block (block 200 (part'.Stmt (stmt.Continue (at 201)) ∷ []) 203)) ≡ Rule 11 (at 201)
    ∷ []
continue_in_a_block = simp layers refl

-- while (x) break;
break_in_while :
    breaks
    (stmt.While (at 200)
    (condition (conjunction (test.Unary (unary.Operand (operand.Path (var (codes "x") 202))) ∷ []) ∷ []))
    (stmt.Break (at 204))) ≡ []
break_in_while = simp layers refl

-- do { if (x) continue; } while (x);
continue_in_do :
    breaks
    (stmt.Do (at 200)
    (stmt.Block
    (block 201
    (part'.Stmt
    (stmt.If (at 202)
    (condition (conjunction (test.Unary (unary.Operand (operand.Path (var (codes "x") 204))) ∷ []) ∷ []))
    (stmt.Continue (at 206)) None) ∷ []) 208))
    (condition (conjunction (test.Unary (unary.Operand (operand.Path (var (codes "x") 211))) ∷ []) ∷ []))) ≡ []
continue_in_do = simp layers refl

-- for (;;) { { break; } }
break_in_for :
    breaks
    (stmt.For (at 200) first.Nothing None None
    (stmt.Block (block 205 (part'.Stmt (stmt.Block (block 206 (part'.Stmt (stmt.Break (at 207)) ∷ []) 209)) ∷ []) 210)))
    ≡ []
break_in_for = simp layers refl

-- { while (x) ; break; }
break_after_a_loop : breaks
    (stmt.Block
    (block 200
    (part'.Stmt
    (stmt.While (at 201)
    (condition (conjunction (test.Unary (unary.Operand (operand.Path (var (codes "x") 203))) ∷ []) ∷ []))
    (stmt.Empty (at 205))) ∷ part'.Stmt (stmt.Break (at 206)) ∷ []) 208)) ≡ Rule 11 (at 206) ∷ []
break_after_a_loop = simp layers refl

-- if (x) break; else continue;
break_in_a_branch : breaks
    (stmt.If (at 200)
    (condition (conjunction (test.Unary (unary.Operand (operand.Path (var (codes "x") 202))) ∷ []) ∷ []))
    (stmt.Break (at 204)) (Some (stmt.Continue (at 207)))) ≡ Rule 11 (at 204) ∷ Rule 11 (at 207) ∷ []
break_in_a_branch = simp layers refl

-- while (x) { do break; while (x); continue; }
break_in_a_loop_in_a_loop :
    breaks
    (stmt.While (at 200)
    (condition (conjunction (test.Unary (unary.Operand (operand.Path (var (codes "x") 202))) ∷ []) ∷ []))
    (stmt.Block
    (block 204
    (part'.Stmt
    (stmt.Do (at 205) (stmt.Break (at 206))
    (condition (conjunction (test.Unary (unary.Operand (operand.Path (var (codes "x") 210))) ∷ []) ∷ [])))
    ∷ part'.Stmt (stmt.Continue (at 213)) ∷ []) 215))) ≡ []
break_in_a_loop_in_a_loop = simp layers refl
