-- Rows on whole files.
use Rattle.std.proofs.Common.{◌≡◌, [], ◌∷◌, Some, None, codes, refl}
use Rattle.c_ast.specs.declared.items.Field.TheVariants as field
use Rattle.c_ast.specs.declared.items.Item.TheVariants as item
use Rattle.c_ast.specs.declared.items.Param.TheVariants as param
use Rattle.c_ast.specs.declared.items.Params.TheVariants as params
use Rattle.c_ast.specs.declared.items.ReturnType.TheVariants as gives
use Rattle.c_ast.specs.declared.operands.Operand.TheVariants as operand
use Rattle.c_ast.specs.declared.simples.Rhs.TheVariants as rhs
use Rattle.c_ast.specs.declared.simples.Simple.TheVariants as simple
use Rattle.c_ast.specs.declared.statements.Data.TheVariants as data'
use Rattle.c_ast.specs.declared.statements.Declare.TheVariants as declare
use Rattle.c_ast.specs.declared.statements.Part.TheVariants as part'
use Rattle.c_ast.specs.declared.statements.Stmt.TheVariants as stmt
use Rattle.c_typing.specs.Typing.{breaches, site_breaches, overweight}
use Rattle.c_typing.specs.declared.fault.TypeFault.TheVariants.{Rule}
use Rattle.c_typing.proofs.Layers.{layers}
use Rattle.c_typing.proofs.Rows.Forms.{at, name, var, arrow, path, call, number, plain, begun, block, head, unit}

-- main (T12, T13, T15)

-- int main() { }
smallest :
    breaches
    (unit (item.Function (head (gives.Data (data'.Int (at 200))) (name (codes "main") 201) None) (block 204 [] 205)
    ∷ []) 206) ≡ []
unfolding breaches site_breaches overweight
smallest = simp layers refl

-- int main(void) { return 0; }
without_parameters : breaches
    (unit
    (item.Function (head (gives.Data (data'.Int (at 200))) (name (codes "main") 201) (Some (params.Void (at 203))))
    (block 205 (part'.Stmt (stmt.Return (at 206) (Some (number (codes "0") 207))) ∷ []) 209) ∷ []) 210) ≡ []
unfolding breaches site_breaches overweight
without_parameters = simp layers refl

--
nothing_at_all : breaches (unit [] 200) ≡ Rule 12 (at 200) ∷ []
unfolding breaches site_breaches
nothing_at_all = refl

-- int main(void);
prototype_is_no_main : breaches
    (unit
    (item.Proto None (head (gives.Data (data'.Int (at 200))) (name (codes "main") 201) (Some (params.Void (at 203))))
    ∷ []) 206) ≡ Rule 15 (at 201) ∷ Rule 12 (at 206) ∷ []
unfolding breaches site_breaches
prototype_is_no_main = refl

-- void f(void) { x = y; f(); }
other_function : breaches
    (unit
    (item.Function (head (gives.Void (at 200)) (name (codes "f") 201) (Some (params.Void (at 203))))
    (block 205
    (part'.Stmt (stmt.Simple (simple.Assign (var (codes "x") 206) (rhs.Operand (operand.Path (var (codes "y") 208)))))
    ∷ part'.Stmt (stmt.Simple (simple.Call (call (codes "f") 210 []))) ∷ []) 214) ∷ []) 215) ≡ Rule 3 (at 206)
    ∷ Rule 3 (at 208) ∷ Rule 13 (at 210) ∷ Rule 12 (at 215) ∷ []
unfolding breaches site_breaches
other_function = simp layers refl

-- int main(void) { } int main(void) { x = 1; }
second_main :
    breaches
    (unit
    (item.Function (head (gives.Data (data'.Int (at 200))) (name (codes "main") 201) (Some (params.Void (at 203))))
    (block 205 [] 206) ∷ item.Function
    (head (gives.Data (data'.Int (at 207))) (name (codes "main") 208) (Some (params.Void (at 210))))
    (block 212 (part'.Stmt (stmt.Simple (simple.Assign (var (codes "x") 213) (rhs.Operand (number (codes "1") 215))))
    ∷ []) 217) ∷ []) 218) ≡ Rule 5 (at 208) ∷ Rule 3 (at 213) ∷ []
unfolding breaches site_breaches
second_main = simp layers refl

-- int main(void) { } void main(int a) { }: its head is not asked
second_main_of_another_head :
    breaches
    (unit
    (item.Function (head (gives.Data (data'.Int (at 200))) (name (codes "main") 201) (Some (params.Void (at 203))))
    (block 205 [] 206) ∷ item.Function
    (head (gives.Void (at 207)) (name (codes "main") 208)
    (Some (params.List (param.Datum (data'.Int (at 210)) (name (codes "a") 211) ∷ [])))) (block 213 [] 214) ∷ []) 215)
    ≡ Rule 5 (at 208) ∷ Rule 15 (at 208) ∷ []
unfolding breaches site_breaches
second_main_of_another_head = simp layers refl

-- void main(void) { }
main_of_another_result :
    breaches
    (unit
    (item.Function (head (gives.Void (at 200)) (name (codes "main") 201) (Some (params.Void (at 203))))
    (block 205 [] 206) ∷ []) 207) ≡ Rule 15 (at 201) ∷ []
unfolding breaches site_breaches
main_of_another_result = simp layers refl

-- enum e { A }; enum e main(void) { }
main_of_an_enumeration :
    breaches
    (unit (item.Enum (at 200) (name (codes "e") 201) ((name (codes "A") 203) ∷ [])
    ∷ item.Function
    (head (gives.Data (data'.Enum (at 206) (name (codes "e") 207))) (name (codes "main") 208)
    (Some (params.Void (at 210)))) (block 212 [] 213) ∷ []) 214) ≡ Rule 15 (at 208) ∷ []
unfolding breaches site_breaches
main_of_an_enumeration = simp layers refl

-- struct s { int a; }; struct s *main(void) { }
main_of_a_pointer : breaches
    (unit
    (item.Struct (at 200) (name (codes "s") 201)
    (Some (field.Datums (data'.Int (at 203)) ((name (codes "a") 204) ∷ []) ∷ []))
    ∷ item.Function
    (head (gives.Pointer (at 208) (name (codes "s") 209)) (name (codes "main") 211) (Some (params.Void (at 213))))
    (block 215 [] 216) ∷ []) 217) ≡ Rule 15 (at 211) ∷ []
unfolding breaches site_breaches
main_of_a_pointer = simp layers refl

-- int main(int a) { a = 1; }: its body is looked at, with the parameter
main_with_a_parameter : breaches
    (unit
    (item.Function
    (head (gives.Data (data'.Int (at 200))) (name (codes "main") 201)
    (Some (params.List (param.Datum (data'.Int (at 203)) (name (codes "a") 204) ∷ []))))
    (block 206 (part'.Stmt (stmt.Simple (simple.Assign (var (codes "a") 207) (rhs.Operand (number (codes "1") 209))))
    ∷ []) 211) ∷ []) 212) ≡ Rule 15 (at 201) ∷ []
unfolding breaches site_breaches
main_with_a_parameter = simp layers refl

-- int f(void) { } int main(void) { }
function_before_main : breaches
    (unit
    (item.Function (head (gives.Data (data'.Int (at 200))) (name (codes "f") 201) (Some (params.Void (at 203))))
    (block 205 [] 206) ∷ item.Function
    (head (gives.Data (data'.Int (at 207))) (name (codes "main") 208) (Some (params.Void (at 210)))) (block 212 [] 213)
    ∷ []) 214) ≡ []
unfolding breaches site_breaches overweight
function_before_main = simp layers refl

-- int main(void) { } void f(void) { }
function_after_main : breaches
    (unit
    (item.Function (head (gives.Data (data'.Int (at 200))) (name (codes "main") 201) (Some (params.Void (at 203))))
    (block 205 [] 206) ∷ item.Function (head (gives.Void (at 207)) (name (codes "f") 208) (Some (params.Void (at 210))))
    (block 212 [] 213) ∷ []) 214) ≡ []
unfolding breaches site_breaches overweight
function_after_main = simp layers refl

-- int main(void) { } void f(void) { } int main(void) { x = 1; }
function_between_mains :
    breaches
    (unit
    (item.Function (head (gives.Data (data'.Int (at 200))) (name (codes "main") 201) (Some (params.Void (at 203))))
    (block 205 [] 206) ∷ item.Function (head (gives.Void (at 207)) (name (codes "f") 208) (Some (params.Void (at 210))))
    (block 212 [] 213) ∷ item.Function
    (head (gives.Data (data'.Int (at 214))) (name (codes "main") 215) (Some (params.Void (at 217))))
    (block 219 (part'.Stmt (stmt.Simple (simple.Assign (var (codes "x") 220) (rhs.Operand (number (codes "1") 222))))
    ∷ []) 224) ∷ []) 225) ≡ Rule 5 (at 215) ∷ Rule 3 (at 220) ∷ []
unfolding breaches site_breaches
function_between_mains = simp layers refl

-- Prototypes (T15)

-- int __VERIFIER_nondet_int(void); int __VERIFIER_nondet_bool(); void __VERIFIER_error(void); void reach_error(); void
-- abort(void); int main() { }
allowed :
    breaches
    (unit
    (item.Proto None
    (head (gives.Data (data'.Int (at 200))) (name (codes "__VERIFIER_nondet_int") 201) (Some (params.Void (at 203))))
    ∷ item.Proto None (head (gives.Data (data'.Int (at 206))) (name (codes "__VERIFIER_nondet_bool") 207) None)
    ∷ item.Proto None (head (gives.Void (at 211)) (name (codes "__VERIFIER_error") 212) (Some (params.Void (at 214))))
    ∷ item.Proto None (head (gives.Void (at 217)) (name (codes "reach_error") 218) None)
    ∷ item.Proto None (head (gives.Void (at 222)) (name (codes "abort") 223) (Some (params.Void (at 225))))
    ∷ item.Function (head (gives.Data (data'.Int (at 228))) (name (codes "main") 229) None) (block 232 [] 233) ∷ [])
    234) ≡ []
unfolding breaches site_breaches overweight
allowed = simp layers refl

-- extern void abort(void); extern void abort(); int main() { }
extern_and_twice : breaches
    (unit
    (item.Proto (Some (at 200)) (head (gives.Void (at 201)) (name (codes "abort") 202) (Some (params.Void (at 204))))
    ∷ item.Proto (Some (at 207)) (head (gives.Void (at 208)) (name (codes "abort") 209) None)
    ∷ item.Function (head (gives.Data (data'.Int (at 213))) (name (codes "main") 214) None) (block 217 [] 218) ∷ [])
    219) ≡ []
unfolding breaches site_breaches overweight
extern_and_twice = simp layers refl

-- void __VERIFIER_nondet_int(void); int main() { }
choice_of_another_result :
    breaches
    (unit
    (item.Proto None
    (head (gives.Void (at 200)) (name (codes "__VERIFIER_nondet_int") 201) (Some (params.Void (at 203))))
    ∷ item.Function (head (gives.Data (data'.Int (at 206))) (name (codes "main") 207) None) (block 210 [] 211) ∷ [])
    212) ≡ Rule 15 (at 201) ∷ []
unfolding breaches site_breaches
choice_of_another_result = simp layers refl

-- int reach_error(void); int main() { }
error_of_another_result :
    breaches
    (unit
    (item.Proto None
    (head (gives.Data (data'.Int (at 200))) (name (codes "reach_error") 201) (Some (params.Void (at 203))))
    ∷ item.Function (head (gives.Data (data'.Int (at 206))) (name (codes "main") 207) None) (block 210 [] 211) ∷ [])
    212) ≡ Rule 15 (at 201) ∷ []
unfolding breaches site_breaches
error_of_another_result = simp layers refl

-- enum e { A }; enum e __VERIFIER_nondet_bool(void); int main() { }
choice_of_an_enumeration :
    breaches
    (unit (item.Enum (at 200) (name (codes "e") 201) ((name (codes "A") 203) ∷ [])
    ∷ item.Proto None
    (head (gives.Data (data'.Enum (at 206) (name (codes "e") 207))) (name (codes "__VERIFIER_nondet_bool") 208)
    (Some (params.Void (at 210))))
    ∷ item.Function (head (gives.Data (data'.Int (at 213))) (name (codes "main") 214) None) (block 217 [] 218) ∷ [])
    219) ≡ Rule 15 (at 208) ∷ []
unfolding breaches site_breaches
choice_of_an_enumeration = simp layers refl

-- int __VERIFIER_nondet_int(int a); int main() { }
choice_with_a_parameter :
    breaches
    (unit
    (item.Proto None
    (head (gives.Data (data'.Int (at 200))) (name (codes "__VERIFIER_nondet_int") 201)
    (Some (params.List (param.Datum (data'.Int (at 203)) (name (codes "a") 204) ∷ []))))
    ∷ item.Function (head (gives.Data (data'.Int (at 207))) (name (codes "main") 208) None) (block 211 [] 212) ∷ [])
    213) ≡ Rule 15 (at 201) ∷ []
unfolding breaches site_breaches
choice_with_a_parameter = simp layers refl

-- int f(void); int main() { }
other_prototype : breaches
    (unit (item.Proto None (head (gives.Data (data'.Int (at 200))) (name (codes "f") 201) (Some (params.Void (at 203))))
    ∷ item.Function (head (gives.Data (data'.Int (at 206))) (name (codes "main") 207) None) (block 210 [] 211) ∷ [])
    212) ≡ Rule 15 (at 201) ∷ []
unfolding breaches site_breaches
other_prototype = simp layers refl

-- void exit(int status); int main() { }
exit_is_no_prototype : breaches
    (unit
    (item.Proto None
    (head (gives.Void (at 200)) (name (codes "exit") 201)
    (Some (params.List (param.Datum (data'.Int (at 203)) (name (codes "status") 204) ∷ []))))
    ∷ item.Function (head (gives.Data (data'.Int (at 207))) (name (codes "main") 208) None) (block 211 [] 212) ∷ [])
    213) ≡ Rule 15 (at 201) ∷ []
unfolding breaches site_breaches
exit_is_no_prototype = simp layers refl

-- Heads are asked for their types (T1, T4)

-- struct s *f(void); int main() { }
struct_of_a_result : breaches
    (unit
    (item.Proto None
    (head (gives.Pointer (at 200) (name (codes "s") 201)) (name (codes "f") 203) (Some (params.Void (at 205))))
    ∷ item.Function (head (gives.Data (data'.Int (at 208))) (name (codes "main") 209) None) (block 212 [] 213) ∷ [])
    214) ≡ Rule 1 (at 201) ∷ Rule 15 (at 203) ∷ []
unfolding breaches site_breaches
struct_of_a_result = simp layers refl

-- enum e f(void) { } int main() { }
enumeration_of_a_result :
    breaches
    (unit
    (item.Function
    (head (gives.Data (data'.Enum (at 200) (name (codes "e") 201))) (name (codes "f") 202)
    (Some (params.Void (at 204)))) (block 206 [] 207)
    ∷ item.Function (head (gives.Data (data'.Int (at 208))) (name (codes "main") 209) None) (block 212 [] 213) ∷ [])
    214) ≡ Rule 4 (at 201) ∷ []
unfolding breaches site_breaches
enumeration_of_a_result = simp layers refl

-- int f(struct s *a, enum e b, int c); int main() { }
structs_of_parameters : breaches
    (unit
    (item.Proto None
    (head (gives.Data (data'.Int (at 200))) (name (codes "f") 201)
    (Some
    (params.List (param.Pointer (at 203) (name (codes "s") 204) (name (codes "a") 206)
    ∷ param.Datum (data'.Enum (at 208) (name (codes "e") 209)) (name (codes "b") 210)
    ∷ param.Datum (data'.Int (at 212)) (name (codes "c") 213) ∷ []))))
    ∷ item.Function (head (gives.Data (data'.Int (at 216))) (name (codes "main") 217) None) (block 220 [] 221) ∷ [])
    222) ≡ Rule 15 (at 201) ∷ Rule 1 (at 204) ∷ Rule 4 (at 209) ∷ []
unfolding breaches site_breaches
structs_of_parameters = simp layers refl

-- Structs

-- int main() { struct s *p; p->f = p; } struct s { struct s *f; };
used_before :
    breaches
    (unit
    (item.Function (head (gives.Data (data'.Int (at 200))) (name (codes "main") 201) None)
    (block 204 (part'.Declare (declare.Pointers (at 205) (name (codes "s") 206) (plain (codes "p") 208 ∷ []))
    ∷ part'.Stmt
    (stmt.Simple
    (simple.Assign (path (codes "p") 210 (arrow (codes "f") 211 ∷ []))
    (rhs.Operand (operand.Path (var (codes "p") 214))))) ∷ []) 216)
    ∷ item.Struct (at 217) (name (codes "s") 218)
    (Some (field.Pointers (at 220) (name (codes "s") 221) ((name (codes "f") 223) ∷ []) ∷ [])) ∷ []) 227) ≡ []
unfolding breaches site_breaches overweight
used_before = simp layers refl

-- struct s { struct s *f; struct t *g; }; struct t { int a; }; int main() { }
used_in_itself : breaches
    (unit
    (item.Struct (at 200) (name (codes "s") 201)
    (Some (field.Pointers (at 203) (name (codes "s") 204) ((name (codes "f") 206) ∷ [])
    ∷ field.Pointers (at 208) (name (codes "t") 209) ((name (codes "g") 211) ∷ []) ∷ []))
    ∷ item.Struct (at 215) (name (codes "t") 216)
    (Some (field.Datums (data'.Int (at 218)) ((name (codes "a") 219) ∷ []) ∷ []))
    ∷ item.Function (head (gives.Data (data'.Int (at 223))) (name (codes "main") 224) None) (block 227 [] 228) ∷ [])
    229) ≡ []
unfolding breaches site_breaches overweight
used_in_itself = simp layers refl

-- struct s { struct t *g; }; int main() { }
not_defined :
    breaches
    (unit
    (item.Struct (at 200) (name (codes "s") 201)
    (Some (field.Pointers (at 203) (name (codes "t") 204) ((name (codes "g") 206) ∷ []) ∷ []))
    ∷ item.Function (head (gives.Data (data'.Int (at 210))) (name (codes "main") 211) None) (block 214 [] 215) ∷ [])
    216) ≡ Rule 1 (at 204) ∷ []
unfolding breaches site_breaches
not_defined = simp layers refl

-- struct s; int main() { }
named_only :
    breaches
    (unit (item.Struct (at 200) (name (codes "s") 201) None
    ∷ item.Function (head (gives.Data (data'.Int (at 203))) (name (codes "main") 204) None) (block 207 [] 208) ∷ [])
    209) ≡ Rule 1 (at 201) ∷ []
unfolding breaches site_breaches
named_only = simp layers refl

-- struct s; struct s { int a; }; struct s; int main() { }
named_and_defined : breaches
    (unit (item.Struct (at 200) (name (codes "s") 201) None
    ∷ item.Struct (at 203) (name (codes "s") 204)
    (Some (field.Datums (data'.Int (at 206)) ((name (codes "a") 207) ∷ []) ∷ []))
    ∷ item.Struct (at 211) (name (codes "s") 212) None
    ∷ item.Function (head (gives.Data (data'.Int (at 214))) (name (codes "main") 215) None) (block 218 [] 219) ∷ [])
    220) ≡ []
unfolding breaches site_breaches overweight
named_and_defined = simp layers refl

-- struct s { int a; }; struct s { struct s *a; }; int main() { struct s *p; p->a = 1; p->a = p; }: the first counts
defined_twice : breaches
    (unit
    (item.Struct (at 200) (name (codes "s") 201)
    (Some (field.Datums (data'.Int (at 203)) ((name (codes "a") 204) ∷ []) ∷ []))
    ∷ item.Struct (at 208) (name (codes "s") 209)
    (Some (field.Pointers (at 211) (name (codes "s") 212) ((name (codes "a") 214) ∷ []) ∷ []))
    ∷ item.Function (head (gives.Data (data'.Int (at 218))) (name (codes "main") 219) None)
    (block 222 (part'.Declare (declare.Pointers (at 223) (name (codes "s") 224) (plain (codes "p") 226 ∷ []))
    ∷ part'.Stmt
    (stmt.Simple
    (simple.Assign (path (codes "p") 228 (arrow (codes "a") 229 ∷ [])) (rhs.Operand (number (codes "1") 232))))
    ∷ part'.Stmt
    (stmt.Simple
    (simple.Assign (path (codes "p") 234 (arrow (codes "a") 235 ∷ []))
    (rhs.Operand (operand.Path (var (codes "p") 238))))) ∷ []) 240) ∷ []) 241) ≡ Rule 5 (at 209) ∷ Rule 8 (at 238) ∷ []
unfolding breaches site_breaches
defined_twice = simp layers refl

-- struct s { int a; struct s *a; }; int main() { struct s *p; p->a = 1; }
two_fields_of_one_name :
    breaches
    (unit
    (item.Struct (at 200) (name (codes "s") 201)
    (Some (field.Datums (data'.Int (at 203)) ((name (codes "a") 204) ∷ [])
    ∷ field.Pointers (at 206) (name (codes "s") 207) ((name (codes "a") 209) ∷ []) ∷ []))
    ∷ item.Function (head (gives.Data (data'.Int (at 213))) (name (codes "main") 214) None)
    (block 217 (part'.Declare (declare.Pointers (at 218) (name (codes "s") 219) (plain (codes "p") 221 ∷ []))
    ∷ part'.Stmt
    (stmt.Simple
    (simple.Assign (path (codes "p") 223 (arrow (codes "a") 224 ∷ [])) (rhs.Operand (number (codes "1") 227)))) ∷ [])
    229) ∷ []) 230) ≡ Rule 5 (at 209) ∷ []
unfolding breaches site_breaches
two_fields_of_one_name = simp layers refl

-- struct s { int a; }; struct t { int a, b, b; }; int main() { }
fields_of_two_structs : breaches
    (unit
    (item.Struct (at 200) (name (codes "s") 201)
    (Some (field.Datums (data'.Int (at 203)) ((name (codes "a") 204) ∷ []) ∷ []))
    ∷ item.Struct (at 208) (name (codes "t") 209)
    (Some
    (field.Datums (data'.Int (at 211)) ((name (codes "a") 212) ∷ (name (codes "b") 214) ∷ (name (codes "b") 216) ∷ [])
    ∷ [])) ∷ item.Function (head (gives.Data (data'.Int (at 220))) (name (codes "main") 221) None) (block 224 [] 225)
    ∷ []) 226) ≡ Rule 5 (at 216) ∷ []
unfolding breaches site_breaches
fields_of_two_structs = simp layers refl

-- struct s { enum e a; }; int main() { }
field_of_no_enumeration :
    breaches
    (unit
    (item.Struct (at 200) (name (codes "s") 201)
    (Some (field.Datums (data'.Enum (at 203) (name (codes "e") 204)) ((name (codes "a") 205) ∷ []) ∷ []))
    ∷ item.Function (head (gives.Data (data'.Int (at 209))) (name (codes "main") 210) None) (block 213 [] 214) ∷ [])
    215) ≡ Rule 4 (at 204) ∷ []
unfolding breaches site_breaches
field_of_no_enumeration = simp layers refl

-- Enumerations

-- int main() { enum e x = B; } enum e { A, B, };
defined_after : breaches
    (unit
    (item.Function (head (gives.Data (data'.Int (at 200))) (name (codes "main") 201) None)
    (block 204
    (part'.Declare
    (declare.Datums (data'.Enum (at 205) (name (codes "e") 206))
    (begun (codes "x") 207 (rhs.Operand (operand.Path (var (codes "B") 209))) ∷ [])) ∷ []) 211)
    ∷ item.Enum (at 212) (name (codes "e") 213) ((name (codes "A") 215) ∷ (name (codes "B") 217) ∷ []) ∷ []) 221) ≡ []
unfolding breaches site_breaches overweight
defined_after = simp layers refl

-- enum e { A }; enum e { B }; int main() { }
two_of_one_name : breaches
    (unit (item.Enum (at 200) (name (codes "e") 201) ((name (codes "A") 203) ∷ [])
    ∷ item.Enum (at 206) (name (codes "e") 207) ((name (codes "B") 209) ∷ [])
    ∷ item.Function (head (gives.Data (data'.Int (at 212))) (name (codes "main") 213) None) (block 216 [] 217) ∷ [])
    218) ≡ Rule 5 (at 207) ∷ []
unfolding breaches site_breaches
two_of_one_name = simp layers refl

-- enum e { A, A }; int main() { }
two_enumerators : breaches
    (unit (item.Enum (at 200) (name (codes "e") 201) ((name (codes "A") 203) ∷ (name (codes "A") 205) ∷ [])
    ∷ item.Function (head (gives.Data (data'.Int (at 208))) (name (codes "main") 209) None) (block 212 [] 213) ∷ [])
    214) ≡ Rule 5 (at 205) ∷ []
unfolding breaches site_breaches
two_enumerators = simp layers refl

-- enum e { A }; enum f { B, A }; int main() { }
two_enumerators_in_the_file :
    breaches
    (unit (item.Enum (at 200) (name (codes "e") 201) ((name (codes "A") 203) ∷ [])
    ∷ item.Enum (at 206) (name (codes "f") 207) ((name (codes "B") 209) ∷ (name (codes "A") 211) ∷ [])
    ∷ item.Function (head (gives.Data (data'.Int (at 214))) (name (codes "main") 215) None) (block 218 [] 219) ∷ [])
    220) ≡ Rule 5 (at 211) ∷ []
unfolding breaches site_breaches
two_enumerators_in_the_file = simp layers refl

-- struct a { int a; }; enum a { a }; int main() { int a; a = 1; { struct a *a; a->a = 1; } }
each_kind_by_itself : breaches
    (unit
    (item.Struct (at 200) (name (codes "a") 201)
    (Some (field.Datums (data'.Int (at 203)) ((name (codes "a") 204) ∷ []) ∷ []))
    ∷ item.Enum (at 208) (name (codes "a") 209) ((name (codes "a") 211) ∷ [])
    ∷ item.Function (head (gives.Data (data'.Int (at 214))) (name (codes "main") 215) None)
    (block 218 (part'.Declare (declare.Datums (data'.Int (at 219)) (plain (codes "a") 220 ∷ []))
    ∷ part'.Stmt (stmt.Simple (simple.Assign (var (codes "a") 222) (rhs.Operand (number (codes "1") 224))))
    ∷ part'.Stmt
    (stmt.Block
    (block 226 (part'.Declare (declare.Pointers (at 227) (name (codes "a") 228) (plain (codes "a") 230 ∷ []))
    ∷ part'.Stmt
    (stmt.Simple
    (simple.Assign (path (codes "a") 232 (arrow (codes "a") 233 ∷ [])) (rhs.Operand (number (codes "1") 236)))) ∷ [])
    238)) ∷ []) 239) ∷ []) 240) ≡ []
unfolding breaches site_breaches overweight
each_kind_by_itself = simp layers refl

-- Global variables (T14)

-- int x, y; int main() { x = 1; }
global :
    breaches
    (unit (item.Declare (declare.Datums (data'.Int (at 200)) (plain (codes "x") 201 ∷ plain (codes "y") 203 ∷ []))
    ∷ item.Function (head (gives.Data (data'.Int (at 205))) (name (codes "main") 206) None)
    (block 209 (part'.Stmt (stmt.Simple (simple.Assign (var (codes "x") 210) (rhs.Operand (number (codes "1") 212))))
    ∷ []) 214) ∷ []) 215) ≡ Rule 14 (at 201) ∷ Rule 3 (at 210) ∷ []
unfolding breaches site_breaches
global = simp layers refl

-- struct s *p = x; int main() { }: its initialiser is not asked
global_pointer : breaches
    (unit
    (item.Declare
    (declare.Pointers (at 200) (name (codes "s") 201)
    (begun (codes "p") 203 (rhs.Operand (operand.Path (var (codes "x") 205))) ∷ []))
    ∷ item.Function (head (gives.Data (data'.Int (at 207))) (name (codes "main") 208) None) (block 211 [] 212) ∷ [])
    213) ≡ Rule 1 (at 201) ∷ Rule 14 (at 203) ∷ []
unfolding breaches site_breaches
global_pointer = simp layers refl

-- enum e x; int main() { }
global_of_no_enumeration :
    breaches
    (unit (item.Declare (declare.Datums (data'.Enum (at 200) (name (codes "e") 201)) (plain (codes "x") 202 ∷ []))
    ∷ item.Function (head (gives.Data (data'.Int (at 204))) (name (codes "main") 205) None) (block 208 [] 209) ∷ [])
    210) ≡ Rule 4 (at 201) ∷ Rule 14 (at 202) ∷ []
unfolding breaches site_breaches
global_of_no_enumeration = simp layers refl

-- enum e { A }; int x; int x; int main() { }
global_named_as_before :
    breaches
    (unit (item.Enum (at 200) (name (codes "e") 201) ((name (codes "A") 203) ∷ [])
    ∷ item.Declare (declare.Datums (data'.Int (at 206)) (plain (codes "x") 207 ∷ []))
    ∷ item.Declare (declare.Datums (data'.Int (at 209)) (plain (codes "x") 210 ∷ []))
    ∷ item.Function (head (gives.Data (data'.Int (at 212))) (name (codes "main") 213) None) (block 216 [] 217) ∷ [])
    218) ≡ Rule 14 (at 207) ∷ Rule 14 (at 210) ∷ []
unfolding breaches site_breaches
global_named_as_before = simp layers refl
