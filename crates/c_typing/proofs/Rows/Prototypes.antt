-- Rows on definitions of functions and on prototypes.
use Rattle.std.proofs.Common.{◌≡◌, [], ◌∷◌, Some, None, codes, refl}
use Rattle.c_ast.specs.declared.items.Field.TheVariants as field
use Rattle.c_ast.specs.declared.items.Item.TheVariants as item
use Rattle.c_ast.specs.declared.items.Param.TheVariants as param
use Rattle.c_ast.specs.declared.items.Params.TheVariants as params
use Rattle.c_ast.specs.declared.items.ReturnType.TheVariants as gives
use Rattle.c_ast.specs.declared.operands.Operand.TheVariants as operand
use Rattle.c_ast.specs.declared.simples.Rhs.TheVariants as rhs
use Rattle.c_ast.specs.declared.simples.Simple.TheVariants as simple
use Rattle.c_ast.specs.declared.statements.Data.TheVariants as data'
use Rattle.c_ast.specs.declared.statements.Declare.TheVariants as declare
use Rattle.c_ast.specs.declared.statements.Part.TheVariants as part'
use Rattle.c_ast.specs.declared.statements.Stmt.TheVariants as stmt
use Rattle.c_typing.specs.Typing.{breaches, overweight, site_breaches}
use Rattle.c_typing.specs.declared.fault.TypeFault.TheVariants.{Rule}
use Rattle.c_typing.proofs.Layers.{layers}
use Rattle.c_typing.proofs.Rows.Forms.{at, name, var, call, number, begun}
use Rattle.c_typing.proofs.Rows.Forms.{block, head, unit}

-- Two functions of one name (T5)

-- void f(void) { } void f(void) { } int main(void) { return 0; }
two_of_one_name : breaches (unit (item.Function (head (gives.Void (at 200)) (name (codes "f") 201) (Some (params.Void
    (at 203)))) (block 205 [] 206) ∷ item.Function (head (gives.Void (at 207)) (name (codes "f") 208) (Some
    (params.Void (at 210)))) (block 212 [] 213) ∷ item.Function (head (gives.Data (data'.Int (at 214))) (name (codes
    "main") 215) (Some (params.Void (at 217)))) (block 219 (part'.Stmt (stmt.Return (at 220) (Some (number (codes "0")
    221))) ∷ []) 223) ∷ []) 224) ≡ Rule 5 (at 208) ∷ []
unfolding breaches site_breaches
two_of_one_name = simp layers refl

-- void f(void) { } int f(int a) { return a; } int main(void) { return 0; }: its `return` is that of the first
two_of_one_name_that_differ : breaches (unit (item.Function (head (gives.Void (at 200)) (name (codes "f") 201) (Some
    (params.Void (at 203)))) (block 205 [] 206) ∷ item.Function (head (gives.Data (data'.Int (at 207))) (name (codes
    "f") 208) (Some (params.List (param.Datum (data'.Int (at 210)) (name (codes "a") 211) ∷ [])))) (block 213
    (part'.Stmt (stmt.Return (at 214) (Some (operand.Path (var (codes "a") 215)))) ∷ []) 217) ∷ item.Function (head
    (gives.Data (data'.Int (at 218))) (name (codes "main") 219) (Some (params.Void (at 221)))) (block 223 (part'.Stmt
    (stmt.Return (at 224) (Some (number (codes "0") 225))) ∷ []) 227) ∷ []) 228) ≡ Rule 5 (at 208) ∷ Rule 16 (at 214)
    ∷ []
unfolding breaches site_breaches
two_of_one_name_that_differ = simp layers refl

-- int main(void) { return 0; } int main(void) { return 0; }
two_mains : breaches (unit (item.Function (head (gives.Data (data'.Int (at 200))) (name (codes "main") 201) (Some
    (params.Void (at 203)))) (block 205 (part'.Stmt (stmt.Return (at 206) (Some (number (codes "0") 207))) ∷ []) 209)
    ∷ item.Function (head (gives.Data (data'.Int (at 210))) (name (codes "main") 211) (Some (params.Void (at 213))))
    (block 215 (part'.Stmt (stmt.Return (at 216) (Some (number (codes "0") 217))) ∷ []) 219) ∷ []) 220) ≡ Rule 5 (at
    211) ∷ []
unfolding breaches site_breaches
two_mains = simp layers refl

-- int main(void) { return 0; } int main(void) { return 0; } void main(int a) { }
three_mains : breaches (unit (item.Function (head (gives.Data (data'.Int (at 200))) (name (codes "main") 201) (Some
    (params.Void (at 203)))) (block 205 (part'.Stmt (stmt.Return (at 206) (Some (number (codes "0") 207))) ∷ []) 209)
    ∷ item.Function (head (gives.Data (data'.Int (at 210))) (name (codes "main") 211) (Some (params.Void (at 213))))
    (block 215 (part'.Stmt (stmt.Return (at 216) (Some (number (codes "0") 217))) ∷ []) 219) ∷ item.Function (head
    (gives.Void (at 220)) (name (codes "main") 221) (Some (params.List (param.Datum (data'.Int (at 223)) (name (codes
    "a") 224) ∷ [])))) (block 226 [] 227) ∷ []) 228) ≡ Rule 5 (at 211) ∷ Rule 5 (at 221) ∷ Rule 15 (at 221) ∷ []
unfolding breaches site_breaches
three_mains = simp layers refl

-- struct node { struct node *next; int key; }; int f(void) { return 1; } struct node *f(void) { return NULL; } int
-- main(void) { int x = f(); return 0; }: also for what it returns
first_result_counts : breaches (unit (item.Struct (at 200) (name (codes "node") 201) (Some (field.Pointers (at 203)
    (name (codes "node") 204) ((name (codes "next") 206) ∷ []) ∷ field.Datums (data'.Int (at 208)) ((name (codes
    "key") 209) ∷ []) ∷ [])) ∷ item.Function (head (gives.Data (data'.Int (at 213))) (name (codes "f") 214) (Some
    (params.Void (at 216)))) (block 218 (part'.Stmt (stmt.Return (at 219) (Some (number (codes "1") 220))) ∷ []) 222)
    ∷ item.Function (head (gives.Pointer (at 223) (name (codes "node") 224)) (name (codes "f") 226) (Some (params.Void
    (at 228)))) (block 230 (part'.Stmt (stmt.Return (at 231) (Some (operand.Null (at 232)))) ∷ []) 234) ∷
    item.Function (head (gives.Data (data'.Int (at 235))) (name (codes "main") 236) (Some (params.Void (at 238))))
    (block 240 (part'.Declare (declare.Datums (data'.Int (at 241)) (begun (codes "x") 242 (rhs.Operand (operand.Call
    (call (codes "f") 244 []))) ∷ [])) ∷ part'.Stmt (stmt.Return (at 248) (Some (number (codes "0") 249))) ∷ []) 251)
    ∷ []) 252) ≡ Rule 5 (at 226) ∷ Rule 8 (at 232) ∷ []
unfolding breaches site_breaches
first_result_counts = simp layers refl

-- Definitions of given functions (T15)

-- void abort(void) { } int main(void) { return 0; }
abort_defined : breaches (unit (item.Function (head (gives.Void (at 200)) (name (codes "abort") 201) (Some
    (params.Void (at 203)))) (block 205 [] 206) ∷ item.Function (head (gives.Data (data'.Int (at 207))) (name (codes
    "main") 208) (Some (params.Void (at 210)))) (block 212 (part'.Stmt (stmt.Return (at 213) (Some (number (codes "0")
    214))) ∷ []) 216) ∷ []) 217) ≡ Rule 15 (at 201) ∷ []
unfolding breaches site_breaches
abort_defined = simp layers refl

-- int exit(int a) { return a; } int main(void) { return 0; }
exit_defined : breaches (unit (item.Function (head (gives.Data (data'.Int (at 200))) (name (codes "exit") 201) (Some
    (params.List (param.Datum (data'.Int (at 203)) (name (codes "a") 204) ∷ [])))) (block 206 (part'.Stmt (stmt.Return
    (at 207) (Some (operand.Path (var (codes "a") 208)))) ∷ []) 210) ∷ item.Function (head (gives.Data (data'.Int (at
    211))) (name (codes "main") 212) (Some (params.Void (at 214)))) (block 216 (part'.Stmt (stmt.Return (at 217) (Some
    (number (codes "0") 218))) ∷ []) 220) ∷ []) 221) ≡ Rule 15 (at 201) ∷ []
unfolding breaches site_breaches
exit_defined = simp layers refl

-- int __VERIFIER_nondet_int(void) { return 0; } int main(void) { return 0; }
int_choice_defined : breaches (unit (item.Function (head (gives.Data (data'.Int (at 200))) (name (codes
    "__VERIFIER_nondet_int") 201) (Some (params.Void (at 203)))) (block 205 (part'.Stmt (stmt.Return (at 206) (Some
    (number (codes "0") 207))) ∷ []) 209) ∷ item.Function (head (gives.Data (data'.Int (at 210))) (name (codes "main")
    211) (Some (params.Void (at 213)))) (block 215 (part'.Stmt (stmt.Return (at 216) (Some (number (codes "0") 217)))
    ∷ []) 219) ∷ []) 220) ≡ Rule 15 (at 201) ∷ []
unfolding breaches site_breaches
int_choice_defined = simp layers refl

-- int __VERIFIER_nondet_bool(void) { return 0; } int main(void) { return 0; }
bool_choice_defined : breaches (unit (item.Function (head (gives.Data (data'.Int (at 200))) (name (codes
    "__VERIFIER_nondet_bool") 201) (Some (params.Void (at 203)))) (block 205 (part'.Stmt (stmt.Return (at 206) (Some
    (number (codes "0") 207))) ∷ []) 209) ∷ item.Function (head (gives.Data (data'.Int (at 210))) (name (codes "main")
    211) (Some (params.Void (at 213)))) (block 215 (part'.Stmt (stmt.Return (at 216) (Some (number (codes "0") 217)))
    ∷ []) 219) ∷ []) 220) ≡ Rule 15 (at 201) ∷ []
unfolding breaches site_breaches
bool_choice_defined = simp layers refl

-- void __VERIFIER_error(void) { } int main(void) { return 0; }
error_defined : breaches (unit (item.Function (head (gives.Void (at 200)) (name (codes "__VERIFIER_error") 201) (Some
    (params.Void (at 203)))) (block 205 [] 206) ∷ item.Function (head (gives.Data (data'.Int (at 207))) (name (codes
    "main") 208) (Some (params.Void (at 210)))) (block 212 (part'.Stmt (stmt.Return (at 213) (Some (number (codes "0")
    214))) ∷ []) 216) ∷ []) 217) ≡ Rule 15 (at 201) ∷ []
unfolding breaches site_breaches
error_defined = simp layers refl

-- void reach_error() { } int main(void) { return 0; }
reach_error_defined : breaches (unit (item.Function (head (gives.Void (at 200)) (name (codes "reach_error") 201) None)
    (block 204 [] 205) ∷ item.Function (head (gives.Data (data'.Int (at 206))) (name (codes "main") 207) (Some
    (params.Void (at 209)))) (block 211 (part'.Stmt (stmt.Return (at 212) (Some (number (codes "0") 213))) ∷ []) 215)
    ∷ []) 216) ≡ Rule 15 (at 201) ∷ []
unfolding breaches site_breaches
reach_error_defined = simp layers refl

-- void abort(int a) { } int main(void) { abort(); abort(1); return 0; }
given_stays_given : breaches (unit (item.Function (head (gives.Void (at 200)) (name (codes "abort") 201) (Some
    (params.List (param.Datum (data'.Int (at 203)) (name (codes "a") 204) ∷ [])))) (block 206 [] 207) ∷ item.Function
    (head (gives.Data (data'.Int (at 208))) (name (codes "main") 209) (Some (params.Void (at 211)))) (block 213
    (part'.Stmt (stmt.Simple (simple.Call (call (codes "abort") 214 []))) ∷ part'.Stmt (stmt.Simple (simple.Call (call
    (codes "abort") 218 ((number (codes "1") 220) ∷ [])))) ∷ part'.Stmt (stmt.Return (at 223) (Some (number (codes
    "0") 224))) ∷ []) 226) ∷ []) 227) ≡ Rule 15 (at 201) ∷ Rule 15 (at 218) ∷ []
unfolding breaches site_breaches
given_stays_given = simp layers refl

-- void abort(void); void abort(void) { } int main(void) { return 0; }
given_by_its_own_prototype : breaches (unit (item.Proto None (head (gives.Void (at 200)) (name (codes "abort") 201)
    (Some (params.Void (at 203)))) ∷ item.Function (head (gives.Void (at 206)) (name (codes "abort") 207) (Some
    (params.Void (at 209)))) (block 211 [] 212) ∷ item.Function (head (gives.Data (data'.Int (at 213))) (name (codes
    "main") 214) (Some (params.Void (at 216)))) (block 218 (part'.Stmt (stmt.Return (at 219) (Some (number (codes "0")
    220))) ∷ []) 222) ∷ []) 223) ≡ Rule 15 (at 207) ∷ []
unfolding breaches site_breaches
given_by_its_own_prototype = simp layers refl

-- int exit(int a); int exit(int a) { return a; } int main(void) { return 0; }
given_by_a_prototype_of_its_definition : breaches (unit (item.Proto None (head (gives.Data (data'.Int (at 200))) (name
    (codes "exit") 201) (Some (params.List (param.Datum (data'.Int (at 203)) (name (codes "a") 204) ∷ [])))) ∷
    item.Function (head (gives.Data (data'.Int (at 207))) (name (codes "exit") 208) (Some (params.List (param.Datum
    (data'.Int (at 210)) (name (codes "a") 211) ∷ [])))) (block 213 (part'.Stmt (stmt.Return (at 214) (Some
    (operand.Path (var (codes "a") 215)))) ∷ []) 217) ∷ item.Function (head (gives.Data (data'.Int (at 218))) (name
    (codes "main") 219) (Some (params.Void (at 221)))) (block 223 (part'.Stmt (stmt.Return (at 224) (Some (number
    (codes "0") 225))) ∷ []) 227) ∷ []) 228) ≡ Rule 15 (at 201) ∷ Rule 15 (at 208) ∷ []
unfolding breaches site_breaches
given_by_a_prototype_of_its_definition = simp layers refl

-- void aborts(void) { } int exit0(void) { return 0; } void reach(void) { } int main(void) { return 0; }
other_names : breaches (unit (item.Function (head (gives.Void (at 200)) (name (codes "aborts") 201) (Some (params.Void
    (at 203)))) (block 205 [] 206) ∷ item.Function (head (gives.Data (data'.Int (at 207))) (name (codes "exit0") 208)
    (Some (params.Void (at 210)))) (block 212 (part'.Stmt (stmt.Return (at 213) (Some (number (codes "0") 214))) ∷ [])
    216) ∷ item.Function (head (gives.Void (at 217)) (name (codes "reach") 218) (Some (params.Void (at 220)))) (block
    222 [] 223) ∷ item.Function (head (gives.Data (data'.Int (at 224))) (name (codes "main") 225) (Some (params.Void
    (at 227)))) (block 229 (part'.Stmt (stmt.Return (at 230) (Some (number (codes "0") 231))) ∷ []) 233) ∷ []) 234) ≡
    []
unfolding breaches site_breaches overweight
other_names = simp layers refl

-- The head of main (T15)

-- int main(int a) { return 0; }
main_of_a_parameter : breaches (unit (item.Function (head (gives.Data (data'.Int (at 200))) (name (codes "main") 201)
    (Some (params.List (param.Datum (data'.Int (at 203)) (name (codes "a") 204) ∷ [])))) (block 206 (part'.Stmt
    (stmt.Return (at 207) (Some (number (codes "0") 208))) ∷ []) 210) ∷ []) 211) ≡ Rule 15 (at 201) ∷ []
unfolding breaches site_breaches
main_of_a_parameter = simp layers refl

-- void main(void) { }
main_of_nothing : breaches (unit (item.Function (head (gives.Void (at 200)) (name (codes "main") 201) (Some
    (params.Void (at 203)))) (block 205 [] 206) ∷ []) 207) ≡ Rule 15 (at 201) ∷ []
unfolding breaches site_breaches
main_of_nothing = simp layers refl

-- Prototypes are like definitions (T15)

-- int f(void); int main(void) { return 0; }
without_definition : breaches (unit (item.Proto None (head (gives.Data (data'.Int (at 200))) (name (codes "f") 201)
    (Some (params.Void (at 203)))) ∷ item.Function (head (gives.Data (data'.Int (at 206))) (name (codes "main") 207)
    (Some (params.Void (at 209)))) (block 211 (part'.Stmt (stmt.Return (at 212) (Some (number (codes "0") 213))) ∷ [])
    215) ∷ []) 216) ≡ Rule 15 (at 201) ∷ []
unfolding breaches site_breaches
without_definition = simp layers refl

-- int f(void); int f(void) { return 0; } int main(void) { return 0; }
before_its_definition : breaches (unit (item.Proto None (head (gives.Data (data'.Int (at 200))) (name (codes "f") 201)
    (Some (params.Void (at 203)))) ∷ item.Function (head (gives.Data (data'.Int (at 206))) (name (codes "f") 207)
    (Some (params.Void (at 209)))) (block 211 (part'.Stmt (stmt.Return (at 212) (Some (number (codes "0") 213))) ∷ [])
    215) ∷ item.Function (head (gives.Data (data'.Int (at 216))) (name (codes "main") 217) (Some (params.Void (at
    219)))) (block 221 (part'.Stmt (stmt.Return (at 222) (Some (number (codes "0") 223))) ∷ []) 225) ∷ []) 226) ≡ []
unfolding breaches site_breaches overweight
before_its_definition = simp layers refl

-- int f(void) { return 0; } extern int f(); int f(void); int main(void) { return 0; }
after_its_definition : breaches (unit (item.Function (head (gives.Data (data'.Int (at 200))) (name (codes "f") 201)
    (Some (params.Void (at 203)))) (block 205 (part'.Stmt (stmt.Return (at 206) (Some (number (codes "0") 207))) ∷ [])
    209) ∷ item.Proto (Some (at 210)) (head (gives.Data (data'.Int (at 211))) (name (codes "f") 212) None) ∷
    item.Proto None (head (gives.Data (data'.Int (at 216))) (name (codes "f") 217) (Some (params.Void (at 219)))) ∷
    item.Function (head (gives.Data (data'.Int (at 222))) (name (codes "main") 223) (Some (params.Void (at 225))))
    (block 227 (part'.Stmt (stmt.Return (at 228) (Some (number (codes "0") 229))) ∷ []) 231) ∷ []) 232) ≡ []
unfolding breaches site_breaches overweight
after_its_definition = simp layers refl

-- void f(void); int f(void) { return 0; } int main(void) { return 0; }
another_result : breaches (unit (item.Proto None (head (gives.Void (at 200)) (name (codes "f") 201) (Some (params.Void
    (at 203)))) ∷ item.Function (head (gives.Data (data'.Int (at 206))) (name (codes "f") 207) (Some (params.Void (at
    209)))) (block 211 (part'.Stmt (stmt.Return (at 212) (Some (number (codes "0") 213))) ∷ []) 215) ∷ item.Function
    (head (gives.Data (data'.Int (at 216))) (name (codes "main") 217) (Some (params.Void (at 219)))) (block 221
    (part'.Stmt (stmt.Return (at 222) (Some (number (codes "0") 223))) ∷ []) 225) ∷ []) 226) ≡ Rule 15 (at 201) ∷ []
unfolding breaches site_breaches
another_result = simp layers refl

-- int f(void); void f(void) { } int main(void) { return 0; }
another_result_of_void : breaches (unit (item.Proto None (head (gives.Data (data'.Int (at 200))) (name (codes "f")
    201) (Some (params.Void (at 203)))) ∷ item.Function (head (gives.Void (at 206)) (name (codes "f") 207) (Some
    (params.Void (at 209)))) (block 211 [] 212) ∷ item.Function (head (gives.Data (data'.Int (at 213))) (name (codes
    "main") 214) (Some (params.Void (at 216)))) (block 218 (part'.Stmt (stmt.Return (at 219) (Some (number (codes "0")
    220))) ∷ []) 222) ∷ []) 223) ≡ Rule 15 (at 201) ∷ []
unfolding breaches site_breaches
another_result_of_void = simp layers refl

-- struct node { struct node *next; int key; }; struct node *f(void); int f(void) { return 0; } int main(void) {
-- return 0; }
pointer_for_data_as_result : breaches (unit (item.Struct (at 200) (name (codes "node") 201) (Some (field.Pointers (at
    203) (name (codes "node") 204) ((name (codes "next") 206) ∷ []) ∷ field.Datums (data'.Int (at 208)) ((name (codes
    "key") 209) ∷ []) ∷ [])) ∷ item.Proto None (head (gives.Pointer (at 213) (name (codes "node") 214)) (name (codes
    "f") 216) (Some (params.Void (at 218)))) ∷ item.Function (head (gives.Data (data'.Int (at 221))) (name (codes "f")
    222) (Some (params.Void (at 224)))) (block 226 (part'.Stmt (stmt.Return (at 227) (Some (number (codes "0") 228)))
    ∷ []) 230) ∷ item.Function (head (gives.Data (data'.Int (at 231))) (name (codes "main") 232) (Some (params.Void
    (at 234)))) (block 236 (part'.Stmt (stmt.Return (at 237) (Some (number (codes "0") 238))) ∷ []) 240) ∷ []) 241) ≡
    Rule 15 (at 216) ∷ []
unfolding breaches site_breaches
pointer_for_data_as_result = simp layers refl

-- struct node { struct node *next; int key; }; struct item { int mark; }; struct item *f(void); struct node *f(void)
-- { return 0; } int main(void) { return 0; }
another_struct_as_result : breaches (unit (item.Struct (at 200) (name (codes "node") 201) (Some (field.Pointers (at
    203) (name (codes "node") 204) ((name (codes "next") 206) ∷ []) ∷ field.Datums (data'.Int (at 208)) ((name (codes
    "key") 209) ∷ []) ∷ [])) ∷ item.Struct (at 213) (name (codes "item") 214) (Some (field.Datums (data'.Int (at 216))
    ((name (codes "mark") 217) ∷ []) ∷ [])) ∷ item.Proto None (head (gives.Pointer (at 221) (name (codes "item") 222))
    (name (codes "f") 224) (Some (params.Void (at 226)))) ∷ item.Function (head (gives.Pointer (at 229) (name (codes
    "node") 230)) (name (codes "f") 232) (Some (params.Void (at 234)))) (block 236 (part'.Stmt (stmt.Return (at 237)
    (Some (number (codes "0") 238))) ∷ []) 240) ∷ item.Function (head (gives.Data (data'.Int (at 241))) (name (codes
    "main") 242) (Some (params.Void (at 244)))) (block 246 (part'.Stmt (stmt.Return (at 247) (Some (number (codes "0")
    248))) ∷ []) 250) ∷ []) 251) ≡ Rule 15 (at 224) ∷ []
unfolding breaches site_breaches
another_struct_as_result = simp layers refl

-- struct node { struct node *next; int key; }; struct item { int mark; }; struct item *f(void); struct item *f(void)
-- { return 0; } int main(void) { return 0; }
same_struct_as_result : breaches (unit (item.Struct (at 200) (name (codes "node") 201) (Some (field.Pointers (at 203)
    (name (codes "node") 204) ((name (codes "next") 206) ∷ []) ∷ field.Datums (data'.Int (at 208)) ((name (codes
    "key") 209) ∷ []) ∷ [])) ∷ item.Struct (at 213) (name (codes "item") 214) (Some (field.Datums (data'.Int (at 216))
    ((name (codes "mark") 217) ∷ []) ∷ [])) ∷ item.Proto None (head (gives.Pointer (at 221) (name (codes "item") 222))
    (name (codes "f") 224) (Some (params.Void (at 226)))) ∷ item.Function (head (gives.Pointer (at 229) (name (codes
    "item") 230)) (name (codes "f") 232) (Some (params.Void (at 234)))) (block 236 (part'.Stmt (stmt.Return (at 237)
    (Some (number (codes "0") 238))) ∷ []) 240) ∷ item.Function (head (gives.Data (data'.Int (at 241))) (name (codes
    "main") 242) (Some (params.Void (at 244)))) (block 246 (part'.Stmt (stmt.Return (at 247) (Some (number (codes "0")
    248))) ∷ []) 250) ∷ []) 251) ≡ []
unfolding breaches site_breaches overweight
same_struct_as_result = simp layers refl

-- int f(int a); enum e f(enum e a) { return 0; } enum e { A }; enum g { B }; enum g f(enum g a); int main(void) {
-- return 0; }
enumeration_for_int : breaches (unit (item.Proto None (head (gives.Data (data'.Int (at 200))) (name (codes "f") 201)
    (Some (params.List (param.Datum (data'.Int (at 203)) (name (codes "a") 204) ∷ [])))) ∷ item.Function (head
    (gives.Data (data'.Enum (at 207) (name (codes "e") 208))) (name (codes "f") 209) (Some (params.List (param.Datum
    (data'.Enum (at 211) (name (codes "e") 212)) (name (codes "a") 213) ∷ [])))) (block 215 (part'.Stmt (stmt.Return
    (at 216) (Some (number (codes "0") 217))) ∷ []) 219) ∷ item.Enum (at 220) (name (codes "e") 221) ((name (codes
    "A") 223) ∷ []) ∷ item.Enum (at 226) (name (codes "g") 227) ((name (codes "B") 229) ∷ []) ∷ item.Proto None (head
    (gives.Data (data'.Enum (at 232) (name (codes "g") 233))) (name (codes "f") 234) (Some (params.List (param.Datum
    (data'.Enum (at 236) (name (codes "g") 237)) (name (codes "a") 238) ∷ [])))) ∷ item.Function (head (gives.Data
    (data'.Int (at 241))) (name (codes "main") 242) (Some (params.Void (at 244)))) (block 246 (part'.Stmt (stmt.Return
    (at 247) (Some (number (codes "0") 248))) ∷ []) 250) ∷ []) 251) ≡ []
unfolding breaches site_breaches overweight
enumeration_for_int = simp layers refl

-- int f(int a, int b); int f(int a) { return 0; } int main(void) { return 0; }
a_parameter_more : breaches (unit (item.Proto None (head (gives.Data (data'.Int (at 200))) (name (codes "f") 201)
    (Some (params.List (param.Datum (data'.Int (at 203)) (name (codes "a") 204) ∷ param.Datum (data'.Int (at 206))
    (name (codes "b") 207) ∷ [])))) ∷ item.Function (head (gives.Data (data'.Int (at 210))) (name (codes "f") 211)
    (Some (params.List (param.Datum (data'.Int (at 213)) (name (codes "a") 214) ∷ [])))) (block 216 (part'.Stmt
    (stmt.Return (at 217) (Some (number (codes "0") 218))) ∷ []) 220) ∷ item.Function (head (gives.Data (data'.Int (at
    221))) (name (codes "main") 222) (Some (params.Void (at 224)))) (block 226 (part'.Stmt (stmt.Return (at 227) (Some
    (number (codes "0") 228))) ∷ []) 230) ∷ []) 231) ≡ Rule 15 (at 201) ∷ []
unfolding breaches site_breaches
a_parameter_more = simp layers refl

-- int f(void); int f(int a) { return 0; } int main(void) { return 0; }
a_parameter_less : breaches (unit (item.Proto None (head (gives.Data (data'.Int (at 200))) (name (codes "f") 201)
    (Some (params.Void (at 203)))) ∷ item.Function (head (gives.Data (data'.Int (at 206))) (name (codes "f") 207)
    (Some (params.List (param.Datum (data'.Int (at 209)) (name (codes "a") 210) ∷ [])))) (block 212 (part'.Stmt
    (stmt.Return (at 213) (Some (number (codes "0") 214))) ∷ []) 216) ∷ item.Function (head (gives.Data (data'.Int (at
    217))) (name (codes "main") 218) (Some (params.Void (at 220)))) (block 222 (part'.Stmt (stmt.Return (at 223) (Some
    (number (codes "0") 224))) ∷ []) 226) ∷ []) 227) ≡ Rule 15 (at 201) ∷ []
unfolding breaches site_breaches
a_parameter_less = simp layers refl

-- int f(int b, int a); int f(int a, int b) { return a; } int main(void) { return 0; }
other_names_of_parameters : breaches (unit (item.Proto None (head (gives.Data (data'.Int (at 200))) (name (codes "f")
    201) (Some (params.List (param.Datum (data'.Int (at 203)) (name (codes "b") 204) ∷ param.Datum (data'.Int (at
    206)) (name (codes "a") 207) ∷ [])))) ∷ item.Function (head (gives.Data (data'.Int (at 210))) (name (codes "f")
    211) (Some (params.List (param.Datum (data'.Int (at 213)) (name (codes "a") 214) ∷ param.Datum (data'.Int (at
    216)) (name (codes "b") 217) ∷ [])))) (block 219 (part'.Stmt (stmt.Return (at 220) (Some (operand.Path (var (codes
    "a") 221)))) ∷ []) 223) ∷ item.Function (head (gives.Data (data'.Int (at 224))) (name (codes "main") 225) (Some
    (params.Void (at 227)))) (block 229 (part'.Stmt (stmt.Return (at 230) (Some (number (codes "0") 231))) ∷ []) 233)
    ∷ []) 234) ≡ []
unfolding breaches site_breaches overweight
other_names_of_parameters = simp layers refl

-- struct node { struct node *next; int key; }; int f(struct node *a); int f(int a) { return 0; } int main(void) {
-- return 0; }
data_for_a_pointer : breaches (unit (item.Struct (at 200) (name (codes "node") 201) (Some (field.Pointers (at 203)
    (name (codes "node") 204) ((name (codes "next") 206) ∷ []) ∷ field.Datums (data'.Int (at 208)) ((name (codes
    "key") 209) ∷ []) ∷ [])) ∷ item.Proto None (head (gives.Data (data'.Int (at 213))) (name (codes "f") 214) (Some
    (params.List (param.Pointer (at 216) (name (codes "node") 217) (name (codes "a") 219) ∷ [])))) ∷ item.Function
    (head (gives.Data (data'.Int (at 222))) (name (codes "f") 223) (Some (params.List (param.Datum (data'.Int (at
    225)) (name (codes "a") 226) ∷ [])))) (block 228 (part'.Stmt (stmt.Return (at 229) (Some (number (codes "0")
    230))) ∷ []) 232) ∷ item.Function (head (gives.Data (data'.Int (at 233))) (name (codes "main") 234) (Some
    (params.Void (at 236)))) (block 238 (part'.Stmt (stmt.Return (at 239) (Some (number (codes "0") 240))) ∷ []) 242)
    ∷ []) 243) ≡ Rule 15 (at 214) ∷ []
unfolding breaches site_breaches
data_for_a_pointer = simp layers refl

-- struct node { struct node *next; int key; }; int f(int a); int f(struct node *a) { return 0; } int main(void) {
-- return 0; }
pointer_for_data : breaches (unit (item.Struct (at 200) (name (codes "node") 201) (Some (field.Pointers (at 203) (name
    (codes "node") 204) ((name (codes "next") 206) ∷ []) ∷ field.Datums (data'.Int (at 208)) ((name (codes "key") 209)
    ∷ []) ∷ [])) ∷ item.Proto None (head (gives.Data (data'.Int (at 213))) (name (codes "f") 214) (Some (params.List
    (param.Datum (data'.Int (at 216)) (name (codes "a") 217) ∷ [])))) ∷ item.Function (head (gives.Data (data'.Int (at
    220))) (name (codes "f") 221) (Some (params.List (param.Pointer (at 223) (name (codes "node") 224) (name (codes
    "a") 226) ∷ [])))) (block 228 (part'.Stmt (stmt.Return (at 229) (Some (number (codes "0") 230))) ∷ []) 232) ∷
    item.Function (head (gives.Data (data'.Int (at 233))) (name (codes "main") 234) (Some (params.Void (at 236))))
    (block 238 (part'.Stmt (stmt.Return (at 239) (Some (number (codes "0") 240))) ∷ []) 242) ∷ []) 243) ≡ Rule 15 (at
    214) ∷ []
unfolding breaches site_breaches
pointer_for_data = simp layers refl

-- struct node { struct node *next; int key; }; struct item { int mark; }; int f(struct item *a); int f(struct node
-- *a) { return 0; } int main(void) { return 0; }
another_struct : breaches (unit (item.Struct (at 200) (name (codes "node") 201) (Some (field.Pointers (at 203) (name
    (codes "node") 204) ((name (codes "next") 206) ∷ []) ∷ field.Datums (data'.Int (at 208)) ((name (codes "key") 209)
    ∷ []) ∷ [])) ∷ item.Struct (at 213) (name (codes "item") 214) (Some (field.Datums (data'.Int (at 216)) ((name
    (codes "mark") 217) ∷ []) ∷ [])) ∷ item.Proto None (head (gives.Data (data'.Int (at 221))) (name (codes "f") 222)
    (Some (params.List (param.Pointer (at 224) (name (codes "item") 225) (name (codes "a") 227) ∷ [])))) ∷
    item.Function (head (gives.Data (data'.Int (at 230))) (name (codes "f") 231) (Some (params.List (param.Pointer (at
    233) (name (codes "node") 234) (name (codes "a") 236) ∷ [])))) (block 238 (part'.Stmt (stmt.Return (at 239) (Some
    (number (codes "0") 240))) ∷ []) 242) ∷ item.Function (head (gives.Data (data'.Int (at 243))) (name (codes "main")
    244) (Some (params.Void (at 246)))) (block 248 (part'.Stmt (stmt.Return (at 249) (Some (number (codes "0") 250)))
    ∷ []) 252) ∷ []) 253) ≡ Rule 15 (at 222) ∷ []
unfolding breaches site_breaches
another_struct = simp layers refl

-- struct node { struct node *next; int key; }; struct item { int mark; }; int f(int a, struct item *b); int f(int a,
-- struct node *b) { return 0; } int main(void) { return 0; }
second_of_two_differs : breaches (unit (item.Struct (at 200) (name (codes "node") 201) (Some (field.Pointers (at 203)
    (name (codes "node") 204) ((name (codes "next") 206) ∷ []) ∷ field.Datums (data'.Int (at 208)) ((name (codes
    "key") 209) ∷ []) ∷ [])) ∷ item.Struct (at 213) (name (codes "item") 214) (Some (field.Datums (data'.Int (at 216))
    ((name (codes "mark") 217) ∷ []) ∷ [])) ∷ item.Proto None (head (gives.Data (data'.Int (at 221))) (name (codes
    "f") 222) (Some (params.List (param.Datum (data'.Int (at 224)) (name (codes "a") 225) ∷ param.Pointer (at 227)
    (name (codes "item") 228) (name (codes "b") 230) ∷ [])))) ∷ item.Function (head (gives.Data (data'.Int (at 233)))
    (name (codes "f") 234) (Some (params.List (param.Datum (data'.Int (at 236)) (name (codes "a") 237) ∷ param.Pointer
    (at 239) (name (codes "node") 240) (name (codes "b") 242) ∷ [])))) (block 244 (part'.Stmt (stmt.Return (at 245)
    (Some (number (codes "0") 246))) ∷ []) 248) ∷ item.Function (head (gives.Data (data'.Int (at 249))) (name (codes
    "main") 250) (Some (params.Void (at 252)))) (block 254 (part'.Stmt (stmt.Return (at 255) (Some (number (codes "0")
    256))) ∷ []) 258) ∷ []) 259) ≡ Rule 15 (at 222) ∷ []
unfolding breaches site_breaches
second_of_two_differs = simp layers refl

-- struct node { struct node *next; int key; }; struct item { int mark; }; int f(struct node *a, struct item *b); int
-- f(struct node *c, struct item *d) { return 0; } int main(void) { return 0; }
same_structs : breaches (unit (item.Struct (at 200) (name (codes "node") 201) (Some (field.Pointers (at 203) (name
    (codes "node") 204) ((name (codes "next") 206) ∷ []) ∷ field.Datums (data'.Int (at 208)) ((name (codes "key") 209)
    ∷ []) ∷ [])) ∷ item.Struct (at 213) (name (codes "item") 214) (Some (field.Datums (data'.Int (at 216)) ((name
    (codes "mark") 217) ∷ []) ∷ [])) ∷ item.Proto None (head (gives.Data (data'.Int (at 221))) (name (codes "f") 222)
    (Some (params.List (param.Pointer (at 224) (name (codes "node") 225) (name (codes "a") 227) ∷ param.Pointer (at
    229) (name (codes "item") 230) (name (codes "b") 232) ∷ [])))) ∷ item.Function (head (gives.Data (data'.Int (at
    235))) (name (codes "f") 236) (Some (params.List (param.Pointer (at 238) (name (codes "node") 239) (name (codes
    "c") 241) ∷ param.Pointer (at 243) (name (codes "item") 244) (name (codes "d") 246) ∷ [])))) (block 248
    (part'.Stmt (stmt.Return (at 249) (Some (number (codes "0") 250))) ∷ []) 252) ∷ item.Function (head (gives.Data
    (data'.Int (at 253))) (name (codes "main") 254) (Some (params.Void (at 256)))) (block 258 (part'.Stmt (stmt.Return
    (at 259) (Some (number (codes "0") 260))) ∷ []) 262) ∷ []) 263) ≡ []
unfolding breaches site_breaches overweight
same_structs = simp layers refl

-- struct node { struct node *next; int key; }; int f(struct none *a); int f(struct node *a) { return 0; } int
-- main(void) { return 0; }
undefined_struct_agrees : breaches (unit (item.Struct (at 200) (name (codes "node") 201) (Some (field.Pointers (at
    203) (name (codes "node") 204) ((name (codes "next") 206) ∷ []) ∷ field.Datums (data'.Int (at 208)) ((name (codes
    "key") 209) ∷ []) ∷ [])) ∷ item.Proto None (head (gives.Data (data'.Int (at 213))) (name (codes "f") 214) (Some
    (params.List (param.Pointer (at 216) (name (codes "none") 217) (name (codes "a") 219) ∷ [])))) ∷ item.Function
    (head (gives.Data (data'.Int (at 222))) (name (codes "f") 223) (Some (params.List (param.Pointer (at 225) (name
    (codes "node") 226) (name (codes "a") 228) ∷ [])))) (block 230 (part'.Stmt (stmt.Return (at 231) (Some (number
    (codes "0") 232))) ∷ []) 234) ∷ item.Function (head (gives.Data (data'.Int (at 235))) (name (codes "main") 236)
    (Some (params.Void (at 238)))) (block 240 (part'.Stmt (stmt.Return (at 241) (Some (number (codes "0") 242))) ∷ [])
    244) ∷ []) 245) ≡ Rule 1 (at 217) ∷ []
unfolding breaches site_breaches
undefined_struct_agrees = simp layers refl

-- int f(struct none *a); int f(int a) { return 0; } int main(void) { return 0; }
undefined_struct_is_no_datum : breaches (unit (item.Proto None (head (gives.Data (data'.Int (at 200))) (name (codes
    "f") 201) (Some (params.List (param.Pointer (at 203) (name (codes "none") 204) (name (codes "a") 206) ∷ [])))) ∷
    item.Function (head (gives.Data (data'.Int (at 209))) (name (codes "f") 210) (Some (params.List (param.Datum
    (data'.Int (at 212)) (name (codes "a") 213) ∷ [])))) (block 215 (part'.Stmt (stmt.Return (at 216) (Some (number
    (codes "0") 217))) ∷ []) 219) ∷ item.Function (head (gives.Data (data'.Int (at 220))) (name (codes "main") 221)
    (Some (params.Void (at 223)))) (block 225 (part'.Stmt (stmt.Return (at 226) (Some (number (codes "0") 227))) ∷ [])
    229) ∷ []) 230) ≡ Rule 15 (at 201) ∷ Rule 1 (at 204) ∷ []
unfolding breaches site_breaches
undefined_struct_is_no_datum = simp layers refl

-- struct node { struct node *next; int key; }; struct none *f(void); struct node *f(void) { return 0; } int
-- main(void) { return 0; }
undefined_result_agrees : breaches (unit (item.Struct (at 200) (name (codes "node") 201) (Some (field.Pointers (at
    203) (name (codes "node") 204) ((name (codes "next") 206) ∷ []) ∷ field.Datums (data'.Int (at 208)) ((name (codes
    "key") 209) ∷ []) ∷ [])) ∷ item.Proto None (head (gives.Pointer (at 213) (name (codes "none") 214)) (name (codes
    "f") 216) (Some (params.Void (at 218)))) ∷ item.Function (head (gives.Pointer (at 221) (name (codes "node") 222))
    (name (codes "f") 224) (Some (params.Void (at 226)))) (block 228 (part'.Stmt (stmt.Return (at 229) (Some (number
    (codes "0") 230))) ∷ []) 232) ∷ item.Function (head (gives.Data (data'.Int (at 233))) (name (codes "main") 234)
    (Some (params.Void (at 236)))) (block 238 (part'.Stmt (stmt.Return (at 239) (Some (number (codes "0") 240))) ∷ [])
    242) ∷ []) 243) ≡ Rule 1 (at 214) ∷ []
unfolding breaches site_breaches
undefined_result_agrees = simp layers refl

-- struct none *f(void); int main(void) { return 0; }
undefined_result_before_it : breaches (unit (item.Proto None (head (gives.Pointer (at 200) (name (codes "none") 201))
    (name (codes "f") 203) (Some (params.Void (at 205)))) ∷ item.Function (head (gives.Data (data'.Int (at 208)))
    (name (codes "main") 209) (Some (params.Void (at 211)))) (block 213 (part'.Stmt (stmt.Return (at 214) (Some
    (number (codes "0") 215))) ∷ []) 217) ∷ []) 218) ≡ Rule 1 (at 201) ∷ Rule 15 (at 203) ∷ []
unfolding breaches site_breaches
undefined_result_before_it = simp layers refl

-- int f(struct none *a); int main(void) { return 0; }
undefined_parameter_behind_it : breaches (unit (item.Proto None (head (gives.Data (data'.Int (at 200))) (name (codes
    "f") 201) (Some (params.List (param.Pointer (at 203) (name (codes "none") 204) (name (codes "a") 206) ∷ [])))) ∷
    item.Function (head (gives.Data (data'.Int (at 209))) (name (codes "main") 210) (Some (params.Void (at 212))))
    (block 214 (part'.Stmt (stmt.Return (at 215) (Some (number (codes "0") 216))) ∷ []) 218) ∷ []) 219) ≡ Rule 15 (at
    201) ∷ Rule 1 (at 204) ∷ []
unfolding breaches site_breaches
undefined_parameter_behind_it = simp layers refl

-- int main(void); int main() { return 0; } int main();
prototype_of_main : breaches (unit (item.Proto None (head (gives.Data (data'.Int (at 200))) (name (codes "main") 201)
    (Some (params.Void (at 203)))) ∷ item.Function (head (gives.Data (data'.Int (at 206))) (name (codes "main") 207)
    None) (block 210 (part'.Stmt (stmt.Return (at 211) (Some (number (codes "0") 212))) ∷ []) 214) ∷ item.Proto None
    (head (gives.Data (data'.Int (at 215))) (name (codes "main") 216) None) ∷ []) 220) ≡ []
unfolding breaches site_breaches overweight
prototype_of_main = simp layers refl

-- enum e { A }; enum e main(void); int main(void) { return 0; }
prototype_of_main_by_an_enumeration : breaches (unit (item.Enum (at 200) (name (codes "e") 201) ((name (codes "A")
    203) ∷ []) ∷ item.Proto None (head (gives.Data (data'.Enum (at 206) (name (codes "e") 207))) (name (codes "main")
    208) (Some (params.Void (at 210)))) ∷ item.Function (head (gives.Data (data'.Int (at 213))) (name (codes "main")
    214) (Some (params.Void (at 216)))) (block 218 (part'.Stmt (stmt.Return (at 219) (Some (number (codes "0") 220)))
    ∷ []) 222) ∷ []) 223) ≡ []
unfolding breaches site_breaches overweight
prototype_of_main_by_an_enumeration = simp layers refl

-- int main(int a); int main(void) { return 0; }
prototype_of_main_with_a_parameter : breaches (unit (item.Proto None (head (gives.Data (data'.Int (at 200))) (name
    (codes "main") 201) (Some (params.List (param.Datum (data'.Int (at 203)) (name (codes "a") 204) ∷ [])))) ∷
    item.Function (head (gives.Data (data'.Int (at 207))) (name (codes "main") 208) (Some (params.Void (at 210))))
    (block 212 (part'.Stmt (stmt.Return (at 213) (Some (number (codes "0") 214))) ∷ []) 216) ∷ []) 217) ≡ Rule 15 (at
    201) ∷ []
unfolding breaches site_breaches
prototype_of_main_with_a_parameter = simp layers refl

-- void main(void); int main(void) { return 0; }
prototype_of_main_of_nothing : breaches (unit (item.Proto None (head (gives.Void (at 200)) (name (codes "main") 201)
    (Some (params.Void (at 203)))) ∷ item.Function (head (gives.Data (data'.Int (at 206))) (name (codes "main") 207)
    (Some (params.Void (at 209)))) (block 211 (part'.Stmt (stmt.Return (at 212) (Some (number (codes "0") 213))) ∷ [])
    215) ∷ []) 216) ≡ Rule 15 (at 201) ∷ []
unfolding breaches site_breaches
prototype_of_main_of_nothing = simp layers refl

-- int main(int a); int main(int a) { return 0; }: it agrees
prototype_of_a_main_with_a_parameter : breaches (unit (item.Proto None (head (gives.Data (data'.Int (at 200))) (name
    (codes "main") 201) (Some (params.List (param.Datum (data'.Int (at 203)) (name (codes "a") 204) ∷ [])))) ∷
    item.Function (head (gives.Data (data'.Int (at 207))) (name (codes "main") 208) (Some (params.List (param.Datum
    (data'.Int (at 210)) (name (codes "a") 211) ∷ [])))) (block 213 (part'.Stmt (stmt.Return (at 214) (Some (number
    (codes "0") 215))) ∷ []) 217) ∷ []) 218) ≡ Rule 15 (at 208) ∷ []
unfolding breaches site_breaches
prototype_of_a_main_with_a_parameter = simp layers refl

-- int f(void); void f(void) { } int f(void) { return 0; } int main(void) { return 0; }
of_two_definitions_the_first : breaches (unit (item.Proto None (head (gives.Data (data'.Int (at 200))) (name (codes
    "f") 201) (Some (params.Void (at 203)))) ∷ item.Function (head (gives.Void (at 206)) (name (codes "f") 207) (Some
    (params.Void (at 209)))) (block 211 [] 212) ∷ item.Function (head (gives.Data (data'.Int (at 213))) (name (codes
    "f") 214) (Some (params.Void (at 216)))) (block 218 (part'.Stmt (stmt.Return (at 219) (Some (number (codes "0")
    220))) ∷ []) 222) ∷ item.Function (head (gives.Data (data'.Int (at 223))) (name (codes "main") 224) (Some
    (params.Void (at 226)))) (block 228 (part'.Stmt (stmt.Return (at 229) (Some (number (codes "0") 230))) ∷ []) 232)
    ∷ []) 233) ≡ Rule 15 (at 201) ∷ Rule 5 (at 214) ∷ Rule 16 (at 219) ∷ []
unfolding breaches site_breaches
of_two_definitions_the_first = simp layers refl

-- int f(int a, int a); int f(int a, int b) { return 0; } int main(void) { return 0; }
one_name_twice : breaches (unit (item.Proto None (head (gives.Data (data'.Int (at 200))) (name (codes "f") 201) (Some
    (params.List (param.Datum (data'.Int (at 203)) (name (codes "a") 204) ∷ param.Datum (data'.Int (at 206)) (name
    (codes "a") 207) ∷ [])))) ∷ item.Function (head (gives.Data (data'.Int (at 210))) (name (codes "f") 211) (Some
    (params.List (param.Datum (data'.Int (at 213)) (name (codes "a") 214) ∷ param.Datum (data'.Int (at 216)) (name
    (codes "b") 217) ∷ [])))) (block 219 (part'.Stmt (stmt.Return (at 220) (Some (number (codes "0") 221))) ∷ []) 223)
    ∷ item.Function (head (gives.Data (data'.Int (at 224))) (name (codes "main") 225) (Some (params.Void (at 227))))
    (block 229 (part'.Stmt (stmt.Return (at 230) (Some (number (codes "0") 231))) ∷ []) 233) ∷ []) 234) ≡ Rule 5 (at
    207) ∷ []
unfolding breaches site_breaches
one_name_twice = simp layers refl
