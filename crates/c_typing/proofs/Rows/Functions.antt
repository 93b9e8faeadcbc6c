-- Rows on functions: their parameters, results and bodies.
use Rattle.std.proofs.Common.{◌≡◌, ℕ, zero, suc, true, false, List, [], ◌∷◌, Some, None, codes, refl}
use Rattle.c_ast.specs.declared.conditions.Test.TheVariants as test
use Rattle.c_ast.specs.declared.conditions.Unary.TheVariants as unary
use Rattle.c_ast.specs.declared.items.Field.TheVariants as field
use Rattle.c_ast.specs.declared.items.Item.{Item}
use Rattle.c_ast.specs.declared.items.Item.TheVariants as item
use Rattle.c_ast.specs.declared.items.Param.TheVariants as param
use Rattle.c_ast.specs.declared.items.Params.TheVariants as params
use Rattle.c_ast.specs.declared.items.ReturnType.TheVariants as gives
use Rattle.c_ast.specs.declared.operands.Operand.TheVariants as operand
use Rattle.c_ast.specs.declared.simples.Rhs.TheVariants as rhs
use Rattle.c_ast.specs.declared.simples.Simple.TheVariants as simple
use Rattle.c_ast.specs.declared.statements.Data.TheVariants as data'
use Rattle.c_ast.specs.declared.statements.Declare.TheVariants as declare
use Rattle.c_ast.specs.declared.statements.Part.TheVariants as part'
use Rattle.c_ast.specs.declared.statements.Stmt.TheVariants as stmt
use Rattle.c_types.specs.declared.program.VarRef.TheVariants as ref
use Rattle.c_typing.specs.Globals.{Globals, globals_of}
use Rattle.c_typing.specs.ItemSites.{nothing_seen, item_sites, all_seen}
use Rattle.c_typing.specs.Scopes.{empty_scope, is_declared, past_head, past_item}
use Rattle.c_typing.specs.Sites.{Function, Functions, Defines, Counts}
use Rattle.c_typing.specs.Typing.{breaches, breaches_of, site_breaches, overweight}
use Rattle.c_typing.specs.declared.fault.TypeFault.{TypeFault}
use Rattle.c_typing.specs.declared.fault.TypeFault.TheVariants.{Rule, Limit}
use Rattle.c_typing.specs.declared.meaning.Kind.TheVariants.{Points, Datum}
use Rattle.c_typing.proofs.Layers.{layers}
use Rattle.c_typing.proofs.Rows.Forms.{at, name, var, call, number, condition, conjunction, plain, block, head, unit}
use Rattle.c_typing.proofs.Rows.Forms.{file}

-- Parameters are variables of their function

-- void f(int a) { a = b; } int main(void) { }
body_of_a_function : breaches (unit (item.Function (head (gives.Void (at 200)) (name (codes "f") 201) (Some
    (params.List (param.Datum (data'.Int (at 203)) (name (codes "a") 204) ∷ [])))) (block 206 (part'.Stmt
    (stmt.Simple (simple.Assign (var (codes "a") 207) (rhs.Operand (operand.Path (var (codes "b") 209)))))
    ∷ []) 211) ∷ item.Function (head (gives.Data (data'.Int (at 212))) (name (codes "main") 213) (Some (params.Void
    (at 215)))) (block 217 [] 218) ∷ []) 219) ≡ Rule 3 (at 209) ∷ []
unfolding breaches site_breaches
body_of_a_function = simp layers refl

-- int f(int a, int a) { } int main(void) { }
parameter_twice : breaches (unit (item.Function (head (gives.Data (data'.Int (at 200))) (name (codes "f") 201) (Some
    (params.List (param.Datum (data'.Int (at 203)) (name (codes "a") 204) ∷ param.Datum (data'.Int (at 206)) (name
    (codes "a") 207) ∷ [])))) (block 209 [] 210) ∷ item.Function (head (gives.Data (data'.Int (at 211))) (name
    (codes "main") 212) (Some (params.Void (at 214)))) (block 216 [] 217) ∷ []) 218) ≡ Rule 5
    (at 207) ∷ []
unfolding breaches site_breaches
parameter_twice = simp layers refl

-- struct node { int key; }; struct item { int mark; }; void f(int a, struct node *a) { } int main(void) { }
parameters_of_two_kinds : breaches (unit (item.Struct (at 200) (name (codes "node") 201) (Some (field.Datums
    (data'.Int (at 203)) ((name (codes "key") 204) ∷ []) ∷ [])) ∷ item.Struct (at 208) (name (codes "item") 209)
    (Some (field.Datums (data'.Int (at 211)) ((name (codes "mark") 212) ∷ []) ∷ [])) ∷ item.Function (head
    (gives.Void (at 216)) (name (codes "f") 217) (Some (params.List (param.Datum (data'.Int (at 219)) (name
    (codes "a") 220) ∷ param.Pointer (at 222) (name (codes "node") 223) (name (codes "a") 225) ∷ []))))
    (block 227 [] 228) ∷ item.Function (head (gives.Data (data'.Int (at 229))) (name (codes "main") 230) (Some
    (params.Void (at 232)))) (block 234 [] 235) ∷ []) 236) ≡ Rule 5 (at 225) ∷ []
unfolding breaches site_breaches
parameters_of_two_kinds = simp layers refl

-- void f(struct none *a, enum none b) { } int main(void) { }
parameter_of_no_type : breaches (unit (item.Function (head (gives.Void (at 200)) (name (codes "f") 201) (Some
    (params.List (param.Pointer (at 203) (name (codes "none") 204) (name (codes "a") 206) ∷ param.Datum (data'.Enum
    (at 208) (name (codes "none") 209)) (name (codes "b") 210) ∷ [])))) (block 212 [] 213) ∷ item.Function (head
    (gives.Data (data'.Int (at 214))) (name (codes "main") 215) (Some (params.Void (at 217)))) (block 219 [] 220)
    ∷ []) 221) ≡ Rule 1 (at 204) ∷ Rule 4 (at 209) ∷ []
unfolding breaches site_breaches
parameter_of_no_type = simp layers refl

-- int f(int a) { int a; { int a; } return a; } int main(void) { }: the body is a block of its own
parameter_hidden : breaches (unit (item.Function (head (gives.Data (data'.Int (at 200))) (name (codes "f") 201)
    (Some (params.List (param.Datum (data'.Int (at 203)) (name (codes "a") 204) ∷ [])))) (block 206 (part'.Declare
    (declare.Datums (data'.Int (at 207)) (plain (codes "a") 208 ∷ [])) ∷ part'.Stmt (stmt.Block (block 210
    (part'.Declare (declare.Datums (data'.Int (at 211)) (plain (codes "a") 212 ∷ [])) ∷ []) 214)) ∷ part'.Stmt
    (stmt.Return (at 215) (Some (operand.Path (var (codes "a") 216)))) ∷ []) 218) ∷ item.Function (head (gives.Data
    (data'.Int (at 219))) (name (codes "main") 220) (Some (params.Void (at 222)))) (block 224 [] 225) ∷ []) 226)
    ≡ []
unfolding breaches site_breaches overweight
parameter_hidden = simp layers refl

-- void f(int a) { } void g(int b) { a = b; } int main(void) { b = 1; }
own_parameters_alone : breaches (unit (item.Function (head (gives.Void (at 200)) (name (codes "f") 201) (Some
    (params.List (param.Datum (data'.Int (at 203)) (name (codes "a") 204) ∷ [])))) (block 206 [] 207)
    ∷ item.Function (head (gives.Void (at 208)) (name (codes "g") 209) (Some (params.List (param.Datum (data'.Int
    (at 211)) (name (codes "b") 212) ∷ [])))) (block 214 (part'.Stmt (stmt.Simple (simple.Assign (var
    (codes "a") 215) (rhs.Operand (operand.Path (var (codes "b") 217))))) ∷ []) 219) ∷ item.Function (head
    (gives.Data (data'.Int (at 220))) (name (codes "main") 221) (Some (params.Void (at 223)))) (block 225
    (part'.Stmt (stmt.Simple (simple.Assign (var (codes "b") 226) (rhs.Operand (number (codes "1") 228))))
    ∷ []) 230) ∷ []) 231) ≡ Rule 3 (at 215) ∷ Rule 3 (at 226) ∷ []
unfolding breaches site_breaches
own_parameters_alone = simp layers refl

-- int main(void) { int x; } void f(void) { x = 1; }
nothing_of_main : breaches (unit (item.Function (head (gives.Data (data'.Int (at 200))) (name (codes "main") 201)
    (Some (params.Void (at 203)))) (block 205 (part'.Declare (declare.Datums (data'.Int (at 206)) (plain
    (codes "x") 207 ∷ [])) ∷ []) 209) ∷ item.Function (head (gives.Void (at 210)) (name (codes "f") 211) (Some
    (params.Void (at 213)))) (block 215 (part'.Stmt (stmt.Simple (simple.Assign (var (codes "x") 216) (rhs.Operand
    (number (codes "1") 218)))) ∷ []) 220) ∷ []) 221) ≡ Rule 3 (at 216) ∷ []
unfolding breaches site_breaches
nothing_of_main = simp layers refl

-- struct node { int key; }; struct item { int mark; }; void f(struct node *p, struct item *q) { p = q; } int
-- main(void) { }
parameter_and_structs : breaches (unit (item.Struct (at 200) (name (codes "node") 201) (Some (field.Datums
    (data'.Int (at 203)) ((name (codes "key") 204) ∷ []) ∷ [])) ∷ item.Struct (at 208) (name (codes "item") 209)
    (Some (field.Datums (data'.Int (at 211)) ((name (codes "mark") 212) ∷ []) ∷ [])) ∷ item.Function (head
    (gives.Void (at 216)) (name (codes "f") 217) (Some (params.List (param.Pointer (at 219) (name
    (codes "node") 220) (name (codes "p") 222) ∷ param.Pointer (at 224) (name (codes "item") 225) (name
    (codes "q") 227) ∷ [])))) (block 229 (part'.Stmt (stmt.Simple (simple.Assign (var (codes "p") 230) (rhs.Operand
    (operand.Path (var (codes "q") 232))))) ∷ []) 234) ∷ item.Function (head (gives.Data (data'.Int (at 235))) (name
    (codes "main") 236) (Some (params.Void (at 238)))) (block 240 [] 241) ∷ []) 242) ≡ Rule 6
    (at 232) ∷ []
unfolding breaches site_breaches
parameter_and_structs = simp layers refl

-- int main(int a, int b) { a = b; b = c; }
parameter_of_main : breaches (unit (item.Function (head (gives.Data (data'.Int (at 200))) (name (codes "main") 201)
    (Some (params.List (param.Datum (data'.Int (at 203)) (name (codes "a") 204) ∷ param.Datum (data'.Int (at 206))
    (name (codes "b") 207) ∷ [])))) (block 209 (part'.Stmt (stmt.Simple (simple.Assign (var (codes "a") 210)
    (rhs.Operand (operand.Path (var (codes "b") 212))))) ∷ part'.Stmt (stmt.Simple (simple.Assign (var
    (codes "b") 214) (rhs.Operand (operand.Path (var (codes "c") 216))))) ∷ []) 218) ∷ []) 219) ≡ Rule 15 (at 201)
    ∷ Rule 3 (at 216) ∷ []
unfolding breaches site_breaches
parameter_of_main = simp layers refl

-- Parameters of prototypes are no variables, and have names (T5)

-- void f(int a, struct none *b, int a, enum none c); int main(void) { }
prototype_of_one_name_twice : breaches (unit (item.Proto None (head (gives.Void (at 200)) (name (codes "f") 201)
    (Some (params.List (param.Datum (data'.Int (at 203)) (name (codes "a") 204) ∷ param.Pointer (at 206) (name
    (codes "none") 207) (name (codes "b") 209) ∷ param.Datum (data'.Int (at 211)) (name (codes "a") 212)
    ∷ param.Datum (data'.Enum (at 214) (name (codes "none") 215)) (name (codes "c") 216) ∷ [])))) ∷ item.Function
    (head (gives.Data (data'.Int (at 219))) (name (codes "main") 220) (Some (params.Void (at 222))))
    (block 224 [] 225) ∷ []) 226) ≡ Rule 15 (at 201) ∷ Rule 1 (at 207) ∷ Rule 5 (at 212) ∷ Rule 4 (at 215) ∷ []
unfolding breaches site_breaches
prototype_of_one_name_twice = simp layers refl

-- void f(int a); void g(int a); int main(void) { a = 1; }
prototypes_of_one_name : breaches (unit (item.Proto None (head (gives.Void (at 200)) (name (codes "f") 201) (Some
    (params.List (param.Datum (data'.Int (at 203)) (name (codes "a") 204) ∷ [])))) ∷ item.Proto None (head
    (gives.Void (at 207)) (name (codes "g") 208) (Some (params.List (param.Datum (data'.Int (at 210)) (name
    (codes "a") 211) ∷ [])))) ∷ item.Function (head (gives.Data (data'.Int (at 214))) (name (codes "main") 215)
    (Some (params.Void (at 217)))) (block 219 (part'.Stmt (stmt.Simple (simple.Assign (var (codes "a") 220)
    (rhs.Operand (number (codes "1") 222)))) ∷ []) 224) ∷ []) 225) ≡ Rule 15 (at 201) ∷ Rule 15 (at 208) ∷ Rule 3
    (at 220) ∷ []
unfolding breaches site_breaches
prototypes_of_one_name = simp layers refl

-- `return` gives what the function around gives (T16, T6 to T8)

-- void f(void) { return 0; } int main(void) { }
value_of_void : breaches (unit (item.Function (head (gives.Void (at 200)) (name (codes "f") 201) (Some (params.Void
    (at 203)))) (block 205 (part'.Stmt (stmt.Return (at 206) (Some (number (codes "0") 207))) ∷ []) 209)
    ∷ item.Function (head (gives.Data (data'.Int (at 210))) (name (codes "main") 211) (Some (params.Void (at 213))))
    (block 215 [] 216) ∷ []) 217) ≡ Rule 16 (at 206) ∷ []
unfolding breaches site_breaches
value_of_void = simp layers refl

-- int f(void) { return; } int main(void) { }
no_value_of_data : breaches (unit (item.Function (head (gives.Data (data'.Int (at 200))) (name (codes "f") 201)
    (Some (params.Void (at 203)))) (block 205 (part'.Stmt (stmt.Return (at 206) None) ∷ []) 208) ∷ item.Function
    (head (gives.Data (data'.Int (at 209))) (name (codes "main") 210) (Some (params.Void (at 212))))
    (block 214 [] 215) ∷ []) 216) ≡ Rule 16 (at 206) ∷ []
unfolding breaches site_breaches
no_value_of_data = simp layers refl

-- struct node { int key; }; struct item { int mark; }; struct node *f(void) { return; } int main(void) { }
no_value_of_a_pointer : breaches (unit (item.Struct (at 200) (name (codes "node") 201) (Some (field.Datums
    (data'.Int (at 203)) ((name (codes "key") 204) ∷ []) ∷ [])) ∷ item.Struct (at 208) (name (codes "item") 209)
    (Some (field.Datums (data'.Int (at 211)) ((name (codes "mark") 212) ∷ []) ∷ [])) ∷ item.Function (head
    (gives.Pointer (at 216) (name (codes "node") 217)) (name (codes "f") 219) (Some (params.Void (at 221))))
    (block 223 (part'.Stmt (stmt.Return (at 224) None) ∷ []) 226) ∷ item.Function (head (gives.Data (data'.Int
    (at 227))) (name (codes "main") 228) (Some (params.Void (at 230)))) (block 232 [] 233) ∷ []) 234)
    ≡ Rule 16 (at 224) ∷ []
unfolding breaches site_breaches
no_value_of_a_pointer = simp layers refl

-- void f(void) { return x; } int main(void) { }
value_of_void_that_is_broken : breaches (unit (item.Function (head (gives.Void (at 200)) (name (codes "f") 201)
    (Some (params.Void (at 203)))) (block 205 (part'.Stmt (stmt.Return (at 206) (Some (operand.Path (var
    (codes "x") 207)))) ∷ []) 209) ∷ item.Function (head (gives.Data (data'.Int (at 210))) (name (codes "main") 211)
    (Some (params.Void (at 213)))) (block 215 [] 216) ∷ []) 217) ≡ Rule 16 (at 206) ∷ Rule 3
    (at 207) ∷ []
unfolding breaches site_breaches
value_of_void_that_is_broken = simp layers refl

-- void f(void) { return; } int main(void) { }
nothing_of_void : breaches (unit (item.Function (head (gives.Void (at 200)) (name (codes "f") 201) (Some
    (params.Void (at 203)))) (block 205 (part'.Stmt (stmt.Return (at 206) None) ∷ []) 208) ∷ item.Function (head
    (gives.Data (data'.Int (at 209))) (name (codes "main") 210) (Some (params.Void (at 212)))) (block 214 [] 215)
    ∷ []) 216) ≡ []
unfolding breaches site_breaches overweight
nothing_of_void = simp layers refl

-- int main(void) { return; }
nothing_of_main_function : breaches (unit (item.Function (head (gives.Data (data'.Int (at 200))) (name
    (codes "main") 201) (Some (params.Void (at 203)))) (block 205 (part'.Stmt (stmt.Return (at 206) None) ∷ []) 208)
    ∷ []) 209) ≡ []
unfolding breaches site_breaches overweight
nothing_of_main_function = simp layers refl

-- int f(void) { } int main(void) { }
no_return : breaches (unit (item.Function (head (gives.Data (data'.Int (at 200))) (name (codes "f") 201) (Some
    (params.Void (at 203)))) (block 205 [] 206) ∷ item.Function (head (gives.Data (data'.Int (at 207))) (name
    (codes "main") 208) (Some (params.Void (at 210)))) (block 212 [] 213) ∷ []) 214) ≡ []
unfolding breaches site_breaches overweight
no_return = simp layers refl

-- struct node { int key; }; struct item { int mark; }; struct node *f(void) { return 1; } int main(void) { }
datum_of_a_pointer : breaches (unit (item.Struct (at 200) (name (codes "node") 201) (Some (field.Datums (data'.Int
    (at 203)) ((name (codes "key") 204) ∷ []) ∷ [])) ∷ item.Struct (at 208) (name (codes "item") 209) (Some
    (field.Datums (data'.Int (at 211)) ((name (codes "mark") 212) ∷ []) ∷ [])) ∷ item.Function (head (gives.Pointer
    (at 216) (name (codes "node") 217)) (name (codes "f") 219) (Some (params.Void (at 221)))) (block 223 (part'.Stmt
    (stmt.Return (at 224) (Some (number (codes "1") 225))) ∷ []) 227) ∷ item.Function (head (gives.Data (data'.Int
    (at 228))) (name (codes "main") 229) (Some (params.Void (at 231)))) (block 233 [] 234) ∷ []) 235)
    ≡ Rule 7 (at 225) ∷ []
unfolding breaches site_breaches
datum_of_a_pointer = simp layers refl

-- struct node { int key; }; struct item { int mark; }; struct node *f(void) { return 0; } int main(void) { }
zero_of_a_pointer : breaches (unit (item.Struct (at 200) (name (codes "node") 201) (Some (field.Datums (data'.Int
    (at 203)) ((name (codes "key") 204) ∷ []) ∷ [])) ∷ item.Struct (at 208) (name (codes "item") 209) (Some
    (field.Datums (data'.Int (at 211)) ((name (codes "mark") 212) ∷ []) ∷ [])) ∷ item.Function (head (gives.Pointer
    (at 216) (name (codes "node") 217)) (name (codes "f") 219) (Some (params.Void (at 221)))) (block 223 (part'.Stmt
    (stmt.Return (at 224) (Some (number (codes "0") 225))) ∷ []) 227) ∷ item.Function (head (gives.Data (data'.Int
    (at 228))) (name (codes "main") 229) (Some (params.Void (at 231)))) (block 233 [] 234) ∷ []) 235) ≡ []
unfolding breaches site_breaches overweight
zero_of_a_pointer = simp layers refl

-- int f(void) { return NULL; } int main(void) { }
null_of_data : breaches (unit (item.Function (head (gives.Data (data'.Int (at 200))) (name (codes "f") 201) (Some
    (params.Void (at 203)))) (block 205 (part'.Stmt (stmt.Return (at 206) (Some (operand.Null (at 207)))) ∷ []) 209)
    ∷ item.Function (head (gives.Data (data'.Int (at 210))) (name (codes "main") 211) (Some (params.Void (at 213))))
    (block 215 [] 216) ∷ []) 217) ≡ Rule 8 (at 207) ∷ []
unfolding breaches site_breaches
null_of_data = simp layers refl

-- enum e { A }; enum e f(void) { if (A == 0) return A; return 0; } int main(void) { }
zero_of_an_enumeration : breaches (unit (item.Enum (at 200) (name (codes "e") 201) ((name (codes "A") 203) ∷ [])
    ∷ item.Function (head (gives.Data (data'.Enum (at 206) (name (codes "e") 207))) (name (codes "f") 208) (Some
    (params.Void (at 210)))) (block 212 (part'.Stmt (stmt.If (at 213) (condition (conjunction (test.Compare
    (operand.Path (var (codes "A") 215)) true (number (codes "0") 217) ∷ []) ∷ [])) (stmt.Return (at 219) (Some
    (operand.Path (var (codes "A") 220)))) None) ∷ part'.Stmt (stmt.Return (at 222) (Some (number (codes "0") 223)))
    ∷ []) 225) ∷ item.Function (head (gives.Data (data'.Int (at 226))) (name (codes "main") 227) (Some (params.Void
    (at 229)))) (block 231 [] 232) ∷ []) 233) ≡ []
unfolding breaches site_breaches overweight
zero_of_an_enumeration = simp layers refl

-- struct node { int key; }; struct item { int mark; }; struct node *f(struct node *p) { return p; } int main(void) {
-- }
pointer_of_a_pointer : breaches (unit (item.Struct (at 200) (name (codes "node") 201) (Some (field.Datums (data'.Int
    (at 203)) ((name (codes "key") 204) ∷ []) ∷ [])) ∷ item.Struct (at 208) (name (codes "item") 209) (Some
    (field.Datums (data'.Int (at 211)) ((name (codes "mark") 212) ∷ []) ∷ [])) ∷ item.Function (head (gives.Pointer
    (at 216) (name (codes "node") 217)) (name (codes "f") 219) (Some (params.List (param.Pointer (at 221) (name
    (codes "node") 222) (name (codes "p") 224) ∷ [])))) (block 226 (part'.Stmt (stmt.Return (at 227) (Some
    (operand.Path (var (codes "p") 228)))) ∷ []) 230) ∷ item.Function (head (gives.Data (data'.Int (at 231))) (name
    (codes "main") 232) (Some (params.Void (at 234)))) (block 236 [] 237) ∷ []) 238) ≡ []
unfolding breaches site_breaches overweight
pointer_of_a_pointer = simp layers refl

-- struct node { int key; }; struct item { int mark; }; struct node *f(struct item *p) { return p; } int main(void) {
-- }
other_pointer_of_a_pointer : breaches (unit (item.Struct (at 200) (name (codes "node") 201) (Some (field.Datums
    (data'.Int (at 203)) ((name (codes "key") 204) ∷ []) ∷ [])) ∷ item.Struct (at 208) (name (codes "item") 209)
    (Some (field.Datums (data'.Int (at 211)) ((name (codes "mark") 212) ∷ []) ∷ [])) ∷ item.Function (head
    (gives.Pointer (at 216) (name (codes "node") 217)) (name (codes "f") 219) (Some (params.List (param.Pointer
    (at 221) (name (codes "item") 222) (name (codes "p") 224) ∷ [])))) (block 226 (part'.Stmt (stmt.Return (at 227)
    (Some (operand.Path (var (codes "p") 228)))) ∷ []) 230) ∷ item.Function (head (gives.Data (data'.Int (at 231)))
    (name (codes "main") 232) (Some (params.Void (at 234)))) (block 236 [] 237) ∷ []) 238) ≡ Rule 6 (at 228) ∷ []
unfolding breaches site_breaches
other_pointer_of_a_pointer = simp layers refl

-- struct node { int key; }; struct item { int mark; }; struct none *f(struct item *p) { return p; } int main(void) {
-- }: asked no further
pointer_of_an_undefined_struct : breaches (unit (item.Struct (at 200) (name (codes "node") 201) (Some (field.Datums
    (data'.Int (at 203)) ((name (codes "key") 204) ∷ []) ∷ [])) ∷ item.Struct (at 208) (name (codes "item") 209)
    (Some (field.Datums (data'.Int (at 211)) ((name (codes "mark") 212) ∷ []) ∷ [])) ∷ item.Function (head
    (gives.Pointer (at 216) (name (codes "none") 217)) (name (codes "f") 219) (Some (params.List (param.Pointer
    (at 221) (name (codes "item") 222) (name (codes "p") 224) ∷ [])))) (block 226 (part'.Stmt (stmt.Return (at 227)
    (Some (operand.Path (var (codes "p") 228)))) ∷ []) 230) ∷ item.Function (head (gives.Data (data'.Int (at 231)))
    (name (codes "main") 232) (Some (params.Void (at 234)))) (block 236 [] 237) ∷ []) 238)
    ≡ Rule 1 (at 217) ∷ []
unfolding breaches site_breaches
pointer_of_an_undefined_struct = simp layers refl

-- struct node { int key; }; struct item { int mark; }; int main(void) { struct node *p; return p; }
pointer_of_main : breaches (unit (item.Struct (at 200) (name (codes "node") 201) (Some (field.Datums (data'.Int
    (at 203)) ((name (codes "key") 204) ∷ []) ∷ [])) ∷ item.Struct (at 208) (name (codes "item") 209) (Some
    (field.Datums (data'.Int (at 211)) ((name (codes "mark") 212) ∷ []) ∷ [])) ∷ item.Function (head (gives.Data
    (data'.Int (at 216))) (name (codes "main") 217) (Some (params.Void (at 219)))) (block 221 (part'.Declare
    (declare.Pointers (at 222) (name (codes "node") 223) (plain (codes "p") 225 ∷ [])) ∷ part'.Stmt (stmt.Return
    (at 227) (Some (operand.Path (var (codes "p") 228)))) ∷ []) 230) ∷ []) 231) ≡ Rule 8 (at 228) ∷ []
unfolding breaches site_breaches
pointer_of_main = simp layers refl

-- int f(void) { return abort(); } int main(void) { }
call_that_is_returned : breaches (unit (item.Function (head (gives.Data (data'.Int (at 200))) (name (codes "f") 201)
    (Some (params.Void (at 203)))) (block 205 (part'.Stmt (stmt.Return (at 206) (Some (operand.Call (call
    (codes "abort") 207 [])))) ∷ []) 211) ∷ item.Function (head (gives.Data (data'.Int (at 212))) (name
    (codes "main") 213) (Some (params.Void (at 215)))) (block 217 [] 218) ∷ []) 219) ≡ Rule 15
    (at 207) ∷ []
unfolding breaches site_breaches
call_that_is_returned = simp layers refl

-- void f(void) { return; } int g(void) { return; } int main(void) { }
return_of_a_later_function : breaches (unit (item.Function (head (gives.Void (at 200)) (name (codes "f") 201) (Some
    (params.Void (at 203)))) (block 205 (part'.Stmt (stmt.Return (at 206) None) ∷ []) 208) ∷ item.Function (head
    (gives.Data (data'.Int (at 209))) (name (codes "g") 210) (Some (params.Void (at 212)))) (block 214 (part'.Stmt
    (stmt.Return (at 215) None) ∷ []) 217) ∷ item.Function (head (gives.Data (data'.Int (at 218))) (name
    (codes "main") 219) (Some (params.Void (at 221)))) (block 223 [] 224) ∷ []) 225) ≡ Rule 16 (at 215) ∷ []
unfolding breaches site_breaches
return_of_a_later_function = simp layers refl

-- Loops end with their function (T11)

-- void f(void) { break; } int main(void) { while (1) { } continue; }
break_of_another_function : breaches (unit (item.Function (head (gives.Void (at 200)) (name (codes "f") 201) (Some
    (params.Void (at 203)))) (block 205 (part'.Stmt (stmt.Break (at 206)) ∷ []) 208) ∷ item.Function (head
    (gives.Data (data'.Int (at 209))) (name (codes "main") 210) (Some (params.Void (at 212)))) (block 214
    (part'.Stmt (stmt.While (at 215) (condition (conjunction (test.Unary (unary.Operand (number (codes "1") 217))
    ∷ []) ∷ [])) (stmt.Block (block 219 [] 220))) ∷ part'.Stmt (stmt.Continue (at 221)) ∷ []) 223) ∷ []) 224)
    ≡ Rule 11 (at 206) ∷ Rule 11 (at 221) ∷ []
unfolding breaches site_breaches
break_of_another_function = simp layers refl

-- void f(int a) { while (a) { break; } } int main(void) { }
break_within : breaches (unit (item.Function (head (gives.Void (at 200)) (name (codes "f") 201) (Some (params.List
    (param.Datum (data'.Int (at 203)) (name (codes "a") 204) ∷ [])))) (block 206 (part'.Stmt (stmt.While (at 207)
    (condition (conjunction (test.Unary (unary.Operand (operand.Path (var (codes "a") 209))) ∷ []) ∷ []))
    (stmt.Block (block 211 (part'.Stmt (stmt.Break (at 212)) ∷ []) 214))) ∷ []) 215) ∷ item.Function (head
    (gives.Data (data'.Int (at 216))) (name (codes "main") 217) (Some (params.Void (at 219)))) (block 221 [] 222)
    ∷ []) 223) ≡ []
unfolding breaches site_breaches overweight
break_within = simp layers refl

-- What was declared so far is handed on from one function to the next

-- of int f(struct node *p, int a) { struct item *q; } void g(int a) { { int b; } }
abbrev first : Item
first = item.Function (head (gives.Data (data'.Int (at 200))) (name (codes "f") 201) (Some
    (params.List (param.Pointer (at 203) (name (codes "node") 204) (name (codes "p") 206) ∷ param.Datum (data'.Int
    (at 208)) (name (codes "a") 209) ∷ [])))) (block 211 (part'.Declare (declare.Pointers (at 212) (name
    (codes "item") 213) (plain (codes "q") 215 ∷ [])) ∷ []) 217)

abbrev second : Item
second = item.Function (head (gives.Void (at 218)) (name (codes "g") 219) (Some (params.List
    (param.Datum (data'.Int (at 221)) (name (codes "a") 222) ∷ [])))) (block 224 (part'.Stmt (stmt.Block (block 225
    (part'.Declare (declare.Datums (data'.Int (at 226)) (plain (codes "b") 227 ∷ [])) ∷ []) 229)) ∷ []) 230)

-- the result, the parameters and the local variables of one function after those of another
variables_in_order : past_item file second (past_item file first empty_scope) ≡ record {
  home = None;
  blocks = [];
  vars = record { name = codes "p"; shape = 0 } ∷ record { name = codes "q"; shape = 1 } ∷ [];
  data_vars = codes "f()" ∷ codes "a" ∷ codes "a" ∷ codes "b" ∷ [];
}
variables_in_order = simp layers refl

abbrev two : Globals
two = globals_of (first ∷ second ∷ [])

-- where the body of `g` begins: its parameter is in scope
body_of_the_second : past_head two (head (gives.Void (at 218)) (name (codes "g") 219) (Some (params.List
    (param.Datum (data'.Int (at 221)) (name (codes "a") 222) ∷ [])))) (past_item two first empty_scope) ≡ record {
      home = Some 1;
      blocks = (record { name = codes "a"; kind = Datum; number = 2 } ∷ []) ∷ [];
      vars = record { name = codes "p"; shape = 0 } ∷ record { name = codes "q"; shape = 0 } ∷ [];
      data_vars = codes "f()" ∷ codes "a" ∷ codes "a" ∷ [];
    }
body_of_the_second = simp layers refl

-- where the body of `f` begins: its result is in scope nowhere
body_of_the_first : past_head file (head (gives.Data (data'.Int (at 200))) (name (codes "f") 201) (Some (params.List
    (param.Pointer (at 203) (name (codes "node") 204) (name (codes "p") 206) ∷ param.Datum (data'.Int (at 208))
    (name (codes "a") 209) ∷ [])))) empty_scope ≡ record {
      home = None;
      blocks = (record { name = codes "a"; kind = Datum; number = 1 }
          ∷ record { name = codes "p"; kind = Points (Some 0); number = 0 } ∷ []) ∷ [];
      vars = record { name = codes "p"; shape = 0 } ∷ [];
      data_vars = codes "f()" ∷ codes "a" ∷ [];
    }
body_of_the_first = refl

-- `main` has no number and no result variable
body_of_main : past_head two (head (gives.Data (data'.Int (at 200))) (name (codes "main") 201) (Some (params.List
    (param.Datum (data'.Int (at 203)) (name (codes "a") 204) ∷ [])))) empty_scope ≡ record {
      home = None;
      blocks = (record { name = codes "a"; kind = Datum; number = 0 } ∷ []) ∷ [];
      vars = [];
      data_vars = codes "a" ∷ [];
    }
body_of_main = refl

-- which variables were declared: pointers and data apart
pointer_declared : is_declared (past_item two first empty_scope) (ref.Ptr 1) ≡ true
pointer_declared = simp layers refl

pointer_not_declared : is_declared (past_item two first empty_scope) (ref.Ptr 2) ≡ false
pointer_not_declared = simp layers refl

datum_declared : is_declared (past_item two first empty_scope) (ref.Data 1) ≡ true
datum_declared = simp layers refl

datum_not_declared : is_declared (past_item two first empty_scope) (ref.Data 2) ≡ false
datum_not_declared = simp layers refl

-- Limits

abbrev texts : ℕ → List (List ℕ)
texts zero = []
texts (suc n) = [] ∷ texts n

-- what a function breaks after so many variables
abbrev breaks_after : ℕ → Item → List TypeFault
breaks_after n i =
    breaches_of file
    (item_sites file nothing_seen i (record { home = None; blocks = []; vars = []; data_vars = texts n }))

-- int f(int a) { int b; }
variables_64 : breaks_after 61 (item.Function (head (gives.Data (data'.Int (at 200))) (name (codes "f") 201) (Some
    (params.List (param.Datum (data'.Int (at 203)) (name (codes "a") 204) ∷ [])))) (block 206 (part'.Declare
    (declare.Datums (data'.Int (at 207)) (plain (codes "b") 208 ∷ [])) ∷ []) 210)) ≡ []
variables_64 = simp layers refl

-- int f(int a) { int b; }
variable_65 : breaks_after 62 (item.Function (head (gives.Data (data'.Int (at 200))) (name (codes "f") 201) (Some
    (params.List (param.Datum (data'.Int (at 203)) (name (codes "a") 204) ∷ [])))) (block 206 (part'.Declare
    (declare.Datums (data'.Int (at 207)) (plain (codes "b") 208 ∷ [])) ∷ []) 210)) ≡ Limit 4
    (at 208) ∷ []
variable_65 = simp layers refl

-- int f(int a) { int b; }
parameter_65 : breaks_after 63 (item.Function (head (gives.Data (data'.Int (at 200))) (name (codes "f") 201) (Some
    (params.List (param.Datum (data'.Int (at 203)) (name (codes "a") 204) ∷ [])))) (block 206 (part'.Declare
    (declare.Datums (data'.Int (at 207)) (plain (codes "b") 208 ∷ [])) ∷ []) 210)) ≡ Limit 4
    (at 204) ∷ []
parameter_65 = simp layers refl

-- int f(int a) { int b; }
result_65 : breaks_after 64 (item.Function (head (gives.Data (data'.Int (at 200))) (name (codes "f") 201) (Some
    (params.List (param.Datum (data'.Int (at 203)) (name (codes "a") 204) ∷ [])))) (block 206 (part'.Declare
    (declare.Datums (data'.Int (at 207)) (plain (codes "b") 208 ∷ [])) ∷ []) 210)) ≡ Limit 4
    (at 201) ∷ []
result_65 = simp layers refl

-- void f(int a) { }
parameter_64 : breaks_after 63 (item.Function (head (gives.Void (at 200)) (name (codes "f") 201) (Some (params.List
    (param.Datum (data'.Int (at 203)) (name (codes "a") 204) ∷ [])))) (block 206 [] 207)) ≡ []
parameter_64 = simp layers refl

-- int main(void) { }
main_is_no_variable : breaks_after 64 (item.Function (head (gives.Data (data'.Int (at 200))) (name
    (codes "main") 201) (Some (params.Void (at 203)))) (block 205 [] 206)) ≡ []
main_is_no_variable = simp layers refl

-- int main(void) { int b; }
variable_of_main_65 : breaks_after 64 (item.Function (head (gives.Data (data'.Int (at 200))) (name
    (codes "main") 201) (Some (params.Void (at 203)))) (block 205 (part'.Declare (declare.Datums (data'.Int
    (at 206)) (plain (codes "b") 207 ∷ [])) ∷ []) 209)) ≡ Limit 4 (at 207) ∷ []
variable_of_main_65 = simp layers refl

-- what a function breaks after so many others
abbrev breaks_behind : ℕ → Item → List TypeFault
breaks_behind n i =
    breaches_of file (item_sites file (record nothing_seen { functions = texts n }) i empty_scope)

-- void f(void) { }
function_64 : breaks_behind 63 (item.Function (head (gives.Void (at 200)) (name (codes "f") 201) (Some (params.Void
    (at 203)))) (block 205 [] 206)) ≡ []
function_64 = simp layers refl

-- void f(void) { }
function_65 : breaks_behind 64 (item.Function (head (gives.Void (at 200)) (name (codes "f") 201) (Some (params.Void
    (at 203)))) (block 205 [] 206)) ≡ Limit 10 (at 201) ∷ []
function_65 = simp layers refl

-- void f(void) { }
function_66 : breaks_behind 65 (item.Function (head (gives.Void (at 200)) (name (codes "f") 201) (Some (params.Void
    (at 203)))) (block 205 [] 206)) ≡ []
function_66 = simp layers refl

-- int main(void) { }
main_65 : breaks_behind 64 (item.Function (head (gives.Data (data'.Int (at 200))) (name (codes "main") 201) (Some
    (params.Void (at 203)))) (block 205 [] 206)) ≡ Limit 10 (at 201) ∷ []
main_65 = simp layers refl

-- void f(void) { ; ; }: the statements of each body are counted by themselves
body_counts : item_sites file nothing_seen (item.Function (head (gives.Void (at 200)) (name (codes "f") 201) (Some
    (params.Void (at 203)))) (block 205 (part'.Stmt (stmt.Empty (at 206)) ∷ part'.Stmt (stmt.Empty (at 207))
    ∷ []) 208)) empty_scope ≡ Defines Function (name (codes "f") 201) [] 0 ∷ Functions (head (gives.Void
    (at 200)) (name (codes "f") 201) (Some (params.Void (at 203)))) ∷ Counts (at 206 ∷ at 207 ∷ []) ∷ []
body_counts = simp layers refl

-- the names of functions are kept as often as they come, and `main` is one
functions_seen : (all_seen nothing_seen (item.Function (head (gives.Void (at 200)) (name (codes "f") 201) (Some
    (params.Void (at 203)))) (block 205 [] 206) ∷ item.Function (head (gives.Void (at 207)) (name (codes "f") 208)
    (Some (params.List (param.Datum (data'.Int (at 210)) (name (codes "a") 211) ∷ [])))) (block 213 [] 214)
    ∷ item.Function (head (gives.Data (data'.Int (at 215))) (name (codes "main") 216) (Some (params.Void (at 218))))
    (block 220 [] 221) ∷ [])).functions ≡ codes "f" ∷ codes "f" ∷ codes "main" ∷ []
functions_seen = refl
