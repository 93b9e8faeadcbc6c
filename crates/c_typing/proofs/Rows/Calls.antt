-- Rows on calls of functions of the file: recursion, what is right, arguments and results.
use Rattle.std.proofs.Common.{◌≡◌, true, false, [], ◌∷◌, Some, None, codes, refl}
use Rattle.c_ast.specs.declared.conditions.Test.TheVariants as test
use Rattle.c_ast.specs.declared.conditions.Unary.TheVariants as unary
use Rattle.c_ast.specs.declared.items.Field.TheVariants as field
use Rattle.c_ast.specs.declared.items.Item.TheVariants as item
use Rattle.c_ast.specs.declared.items.Param.TheVariants as param
use Rattle.c_ast.specs.declared.items.Params.TheVariants as params
use Rattle.c_ast.specs.declared.items.ReturnType.TheVariants as gives
use Rattle.c_ast.specs.declared.operands.Operand.TheVariants as operand
use Rattle.c_ast.specs.declared.simples.Rhs.TheVariants as rhs
use Rattle.c_ast.specs.declared.simples.Simple.TheVariants as simple
use Rattle.c_ast.specs.declared.statements.Data.TheVariants as data'
use Rattle.c_ast.specs.declared.statements.Declare.TheVariants as declare
use Rattle.c_ast.specs.declared.statements.First.TheVariants as first
use Rattle.c_ast.specs.declared.statements.Part.TheVariants as part'
use Rattle.c_ast.specs.declared.statements.Stmt.TheVariants as stmt
use Rattle.c_typing.specs.Typing.{breaches, overweight, site_breaches}
use Rattle.c_typing.specs.declared.fault.TypeFault.TheVariants.{Rule}
use Rattle.c_typing.proofs.Layers.{layers}
use Rattle.c_typing.proofs.Rows.Forms.{at, name, var, arrow, path, call, number, condition, conjunction, plain, begun}
use Rattle.c_typing.proofs.Rows.Forms.{block, head, unit}

-- Recursion (T13)

-- int main(void) { main(); return 0; }
main_in_itself : breaches (unit (item.Function (head (gives.Data (data'.Int (at 200))) (name (codes "main") 201) (Some
    (params.Void (at 203)))) (block 205 (part'.Stmt (stmt.Simple (simple.Call (call (codes "main") 206 []))) ∷
    part'.Stmt (stmt.Return (at 210) (Some (number (codes "0") 211))) ∷ []) 213) ∷ []) 214) ≡ Rule 13 (at 206) ∷ Rule
    15 (at 206) ∷ []
unfolding breaches site_breaches
main_in_itself = simp layers refl

-- void f(void) { f(); } int main(void) { return 0; }
itself : breaches (unit (item.Function (head (gives.Void (at 200)) (name (codes "f") 201) (Some (params.Void (at
    203)))) (block 205 (part'.Stmt (stmt.Simple (simple.Call (call (codes "f") 206 []))) ∷ []) 210) ∷ item.Function
    (head (gives.Data (data'.Int (at 211))) (name (codes "main") 212) (Some (params.Void (at 214)))) (block 216
    (part'.Stmt (stmt.Return (at 217) (Some (number (codes "0") 218))) ∷ []) 220) ∷ []) 221) ≡ Rule 13 (at 206) ∷ []
unfolding breaches site_breaches
itself = simp layers refl

-- void f(void) { g(); } void g(void) { f(); } int main(void) { return 0; }
back_through_another : breaches (unit (item.Function (head (gives.Void (at 200)) (name (codes "f") 201) (Some
    (params.Void (at 203)))) (block 205 (part'.Stmt (stmt.Simple (simple.Call (call (codes "g") 206 []))) ∷ []) 210) ∷
    item.Function (head (gives.Void (at 211)) (name (codes "g") 212) (Some (params.Void (at 214)))) (block 216
    (part'.Stmt (stmt.Simple (simple.Call (call (codes "f") 217 []))) ∷ []) 221) ∷ item.Function (head (gives.Data
    (data'.Int (at 222))) (name (codes "main") 223) (Some (params.Void (at 225)))) (block 227 (part'.Stmt (stmt.Return
    (at 228) (Some (number (codes "0") 229))) ∷ []) 231) ∷ []) 232) ≡ Rule 13 (at 206) ∷ Rule 13 (at 217) ∷ []
unfolding breaches site_breaches
back_through_another = simp layers refl

-- void f(void) { g(); } void g(void) { h(); } void h(void) { f(); } int main(void) { return 0; }
through_two : breaches (unit (item.Function (head (gives.Void (at 200)) (name (codes "f") 201) (Some (params.Void (at
    203)))) (block 205 (part'.Stmt (stmt.Simple (simple.Call (call (codes "g") 206 []))) ∷ []) 210) ∷ item.Function
    (head (gives.Void (at 211)) (name (codes "g") 212) (Some (params.Void (at 214)))) (block 216 (part'.Stmt
    (stmt.Simple (simple.Call (call (codes "h") 217 []))) ∷ []) 221) ∷ item.Function (head (gives.Void (at 222)) (name
    (codes "h") 223) (Some (params.Void (at 225)))) (block 227 (part'.Stmt (stmt.Simple (simple.Call (call (codes "f")
    228 []))) ∷ []) 232) ∷ item.Function (head (gives.Data (data'.Int (at 233))) (name (codes "main") 234) (Some
    (params.Void (at 236)))) (block 238 (part'.Stmt (stmt.Return (at 239) (Some (number (codes "0") 240))) ∷ []) 242)
    ∷ []) 243) ≡ Rule 13 (at 206) ∷ Rule 13 (at 217) ∷ Rule 13 (at 228) ∷ []
unfolding breaches site_breaches
through_two = simp layers refl

-- void f(void) { g(); } void g(void) { h(); } void h(void) { g(); } int main(void) { return 0; }: no call of `f`
-- leads to `f`
beside_a_circle : breaches (unit (item.Function (head (gives.Void (at 200)) (name (codes "f") 201) (Some (params.Void
    (at 203)))) (block 205 (part'.Stmt (stmt.Simple (simple.Call (call (codes "g") 206 []))) ∷ []) 210) ∷
    item.Function (head (gives.Void (at 211)) (name (codes "g") 212) (Some (params.Void (at 214)))) (block 216
    (part'.Stmt (stmt.Simple (simple.Call (call (codes "h") 217 []))) ∷ []) 221) ∷ item.Function (head (gives.Void (at
    222)) (name (codes "h") 223) (Some (params.Void (at 225)))) (block 227 (part'.Stmt (stmt.Simple (simple.Call (call
    (codes "g") 228 []))) ∷ []) 232) ∷ item.Function (head (gives.Data (data'.Int (at 233))) (name (codes "main") 234)
    (Some (params.Void (at 236)))) (block 238 (part'.Stmt (stmt.Return (at 239) (Some (number (codes "0") 240))) ∷ [])
    242) ∷ []) 243) ≡ Rule 13 (at 217) ∷ Rule 13 (at 228) ∷ []
unfolding breaches site_breaches
beside_a_circle = simp layers refl

-- void f(void) { main(); } int main(void) { f(); return 0; }
main_through_another : breaches (unit (item.Function (head (gives.Void (at 200)) (name (codes "f") 201) (Some
    (params.Void (at 203)))) (block 205 (part'.Stmt (stmt.Simple (simple.Call (call (codes "main") 206 []))) ∷ [])
    210) ∷ item.Function (head (gives.Data (data'.Int (at 211))) (name (codes "main") 212) (Some (params.Void (at
    214)))) (block 216 (part'.Stmt (stmt.Simple (simple.Call (call (codes "f") 217 []))) ∷ part'.Stmt (stmt.Return (at
    221) (Some (number (codes "0") 222))) ∷ []) 224) ∷ []) 225) ≡ Rule 13 (at 206) ∷ Rule 15 (at 206) ∷ Rule 13 (at
    217) ∷ []
unfolding breaches site_breaches
main_through_another = simp layers refl

-- int f(void) { if (f()) ; return 0; } int main(void) { return 0; }
itself_in_a_condition : breaches (unit (item.Function (head (gives.Data (data'.Int (at 200))) (name (codes "f") 201)
    (Some (params.Void (at 203)))) (block 205 (part'.Stmt (stmt.If (at 206) (condition (conjunction (test.Unary
    (unary.Operand (operand.Call (call (codes "f") 208 []))) ∷ []) ∷ [])) (stmt.Empty (at 212)) None) ∷ part'.Stmt
    (stmt.Return (at 213) (Some (number (codes "0") 214))) ∷ []) 216) ∷ item.Function (head (gives.Data (data'.Int (at
    217))) (name (codes "main") 218) (Some (params.Void (at 220)))) (block 222 (part'.Stmt (stmt.Return (at 223) (Some
    (number (codes "0") 224))) ∷ []) 226) ∷ []) 227) ≡ Rule 13 (at 208) ∷ Rule 15 (at 208) ∷ []
unfolding breaches site_breaches
itself_in_a_condition = simp layers refl

-- int f(int a) { while (a == f()) ; return 0; } int main(void) { return 0; }
itself_in_a_comparison : breaches (unit (item.Function (head (gives.Data (data'.Int (at 200))) (name (codes "f") 201)
    (Some (params.List (param.Datum (data'.Int (at 203)) (name (codes "a") 204) ∷ [])))) (block 206 (part'.Stmt
    (stmt.While (at 207) (condition (conjunction (test.Compare (operand.Path (var (codes "a") 209)) true (operand.Call
    (call (codes "f") 211 [])) ∷ []) ∷ [])) (stmt.Empty (at 215))) ∷ part'.Stmt (stmt.Return (at 216) (Some (number
    (codes "0") 217))) ∷ []) 219) ∷ item.Function (head (gives.Data (data'.Int (at 220))) (name (codes "main") 221)
    (Some (params.Void (at 223)))) (block 225 (part'.Stmt (stmt.Return (at 226) (Some (number (codes "0") 227))) ∷ [])
    229) ∷ []) 230) ≡ Rule 13 (at 211) ∷ Rule 15 (at 211) ∷ Rule 17 (at 211) ∷ []
unfolding breaches site_breaches
itself_in_a_comparison = simp layers refl

-- void g(int a) { } int f(void) { g(f()); return 0; } int main(void) { return 0; }
itself_given_to_another : breaches (unit (item.Function (head (gives.Void (at 200)) (name (codes "g") 201) (Some
    (params.List (param.Datum (data'.Int (at 203)) (name (codes "a") 204) ∷ [])))) (block 206 [] 207) ∷ item.Function
    (head (gives.Data (data'.Int (at 208))) (name (codes "f") 209) (Some (params.Void (at 211)))) (block 213
    (part'.Stmt (stmt.Simple (simple.Call (call (codes "g") 214 ((operand.Call (call (codes "f") 216 [])) ∷ [])))) ∷
    part'.Stmt (stmt.Return (at 221) (Some (number (codes "0") 222))) ∷ []) 224) ∷ item.Function (head (gives.Data
    (data'.Int (at 225))) (name (codes "main") 226) (Some (params.Void (at 228)))) (block 230 (part'.Stmt (stmt.Return
    (at 231) (Some (number (codes "0") 232))) ∷ []) 234) ∷ []) 235) ≡ Rule 15 (at 214) ∷ Rule 13 (at 216) ∷ Rule 15
    (at 216) ∷ []
unfolding breaches site_breaches
itself_given_to_another = simp layers refl

-- int f(void) { int x = g(); return x; } int g(void) { return 2; } int main(void) { return 0; }
later_function : breaches (unit (item.Function (head (gives.Data (data'.Int (at 200))) (name (codes "f") 201) (Some
    (params.Void (at 203)))) (block 205 (part'.Declare (declare.Datums (data'.Int (at 206)) (begun (codes "x") 207
    (rhs.Operand (operand.Call (call (codes "g") 209 []))) ∷ [])) ∷ part'.Stmt (stmt.Return (at 213) (Some
    (operand.Path (var (codes "x") 214)))) ∷ []) 216) ∷ item.Function (head (gives.Data (data'.Int (at 217))) (name
    (codes "g") 218) (Some (params.Void (at 220)))) (block 222 (part'.Stmt (stmt.Return (at 223) (Some (number (codes
    "2") 224))) ∷ []) 226) ∷ item.Function (head (gives.Data (data'.Int (at 227))) (name (codes "main") 228) (Some
    (params.Void (at 230)))) (block 232 (part'.Stmt (stmt.Return (at 233) (Some (number (codes "0") 234))) ∷ []) 236)
    ∷ []) 237) ≡ []
unfolding breaches site_breaches overweight
later_function = simp layers refl

-- void f(void) { } int main(void) { f(); f(); return 0; }
called_twice : breaches (unit (item.Function (head (gives.Void (at 200)) (name (codes "f") 201) (Some (params.Void (at
    203)))) (block 205 [] 206) ∷ item.Function (head (gives.Data (data'.Int (at 207))) (name (codes "main") 208) (Some
    (params.Void (at 210)))) (block 212 (part'.Stmt (stmt.Simple (simple.Call (call (codes "f") 213 []))) ∷ part'.Stmt
    (stmt.Simple (simple.Call (call (codes "f") 217 []))) ∷ part'.Stmt (stmt.Return (at 221) (Some (number (codes "0")
    222))) ∷ []) 224) ∷ []) 225) ≡ []
unfolding breaches site_breaches overweight
called_twice = simp layers refl

-- int f(void) { return g(); } void g(void) { f(); } int main(void) { return 0; }: by its name alone
refused_calls_count : breaches (unit (item.Function (head (gives.Data (data'.Int (at 200))) (name (codes "f") 201)
    (Some (params.Void (at 203)))) (block 205 (part'.Stmt (stmt.Return (at 206) (Some (operand.Call (call (codes "g")
    207 [])))) ∷ []) 211) ∷ item.Function (head (gives.Void (at 212)) (name (codes "g") 213) (Some (params.Void (at
    215)))) (block 217 (part'.Stmt (stmt.Simple (simple.Call (call (codes "f") 218 []))) ∷ []) 222) ∷ item.Function
    (head (gives.Data (data'.Int (at 223))) (name (codes "main") 224) (Some (params.Void (at 226)))) (block 228
    (part'.Stmt (stmt.Return (at 229) (Some (number (codes "0") 230))) ∷ []) 232) ∷ []) 233) ≡ Rule 13 (at 207) ∷ Rule
    15 (at 207) ∷ Rule 13 (at 218) ∷ []
unfolding breaches site_breaches
refused_calls_count = simp layers refl

-- void f(void) { abort(); } void abort(void) { f(); } int main(void) { return 0; }: a call counts by its name
given_function_of_the_file : breaches (unit (item.Function (head (gives.Void (at 200)) (name (codes "f") 201) (Some
    (params.Void (at 203)))) (block 205 (part'.Stmt (stmt.Simple (simple.Call (call (codes "abort") 206 []))) ∷ [])
    210) ∷ item.Function (head (gives.Void (at 211)) (name (codes "abort") 212) (Some (params.Void (at 214)))) (block
    216 (part'.Stmt (stmt.Simple (simple.Call (call (codes "f") 217 []))) ∷ []) 221) ∷ item.Function (head (gives.Data
    (data'.Int (at 222))) (name (codes "main") 223) (Some (params.Void (at 225)))) (block 227 (part'.Stmt (stmt.Return
    (at 228) (Some (number (codes "0") 229))) ∷ []) 231) ∷ []) 232) ≡ Rule 13 (at 206) ∷ Rule 15 (at 212) ∷ Rule 13
    (at 217) ∷ []
unfolding breaches site_breaches
given_function_of_the_file = simp layers refl

-- void f(void) { } void f(void) { g(); } void g(void) { f(); } int main(void) { return 0; }: the first definition
-- counts, which calls nothing
second_body_counts_not : breaches (unit (item.Function (head (gives.Void (at 200)) (name (codes "f") 201) (Some
    (params.Void (at 203)))) (block 205 [] 206) ∷ item.Function (head (gives.Void (at 207)) (name (codes "f") 208)
    (Some (params.Void (at 210)))) (block 212 (part'.Stmt (stmt.Simple (simple.Call (call (codes "g") 213 []))) ∷ [])
    217) ∷ item.Function (head (gives.Void (at 218)) (name (codes "g") 219) (Some (params.Void (at 221)))) (block 223
    (part'.Stmt (stmt.Simple (simple.Call (call (codes "f") 224 []))) ∷ []) 228) ∷ item.Function (head (gives.Data
    (data'.Int (at 229))) (name (codes "main") 230) (Some (params.Void (at 232)))) (block 234 (part'.Stmt (stmt.Return
    (at 235) (Some (number (codes "0") 236))) ∷ []) 238) ∷ []) 239) ≡ Rule 5 (at 208) ∷ Rule 13 (at 213) ∷ []
unfolding breaches site_breaches
second_body_counts_not = simp layers refl

-- Which calls are right (T15)

-- void f(void) { main(); } int main(void) { return 0; }
main_called : breaches (unit (item.Function (head (gives.Void (at 200)) (name (codes "f") 201) (Some (params.Void (at
    203)))) (block 205 (part'.Stmt (stmt.Simple (simple.Call (call (codes "main") 206 []))) ∷ []) 210) ∷ item.Function
    (head (gives.Data (data'.Int (at 211))) (name (codes "main") 212) (Some (params.Void (at 214)))) (block 216
    (part'.Stmt (stmt.Return (at 217) (Some (number (codes "0") 218))) ∷ []) 220) ∷ []) 221) ≡ Rule 15 (at 206) ∷ []
unfolding breaches site_breaches
main_called = simp layers refl

-- int main(void) { f(); return 0; }
no_function : breaches (unit (item.Function (head (gives.Data (data'.Int (at 200))) (name (codes "main") 201) (Some
    (params.Void (at 203)))) (block 205 (part'.Stmt (stmt.Simple (simple.Call (call (codes "f") 206 []))) ∷ part'.Stmt
    (stmt.Return (at 210) (Some (number (codes "0") 211))) ∷ []) 213) ∷ []) 214) ≡ Rule 15 (at 206) ∷ []
unfolding breaches site_breaches
no_function = simp layers refl

-- int f(int a) { return a; } int main(void) { int x = f(f(1)); return 0; }
call_given_to_a_call : breaches (unit (item.Function (head (gives.Data (data'.Int (at 200))) (name (codes "f") 201)
    (Some (params.List (param.Datum (data'.Int (at 203)) (name (codes "a") 204) ∷ [])))) (block 206 (part'.Stmt
    (stmt.Return (at 207) (Some (operand.Path (var (codes "a") 208)))) ∷ []) 210) ∷ item.Function (head (gives.Data
    (data'.Int (at 211))) (name (codes "main") 212) (Some (params.Void (at 214)))) (block 216 (part'.Declare
    (declare.Datums (data'.Int (at 217)) (begun (codes "x") 218 (rhs.Operand (operand.Call (call (codes "f") 220
    ((operand.Call (call (codes "f") 222 ((number (codes "1") 224) ∷ []))) ∷ [])))) ∷ [])) ∷ part'.Stmt (stmt.Return
    (at 228) (Some (number (codes "0") 229))) ∷ []) 231) ∷ []) 232) ≡ Rule 15 (at 220) ∷ Rule 15 (at 222) ∷ []
unfolding breaches site_breaches
call_given_to_a_call = simp layers refl

-- int f(void) { return 1; } int main(void) { if (f()) ; return 0; }
alone_as_a_condition : breaches (unit (item.Function (head (gives.Data (data'.Int (at 200))) (name (codes "f") 201)
    (Some (params.Void (at 203)))) (block 205 (part'.Stmt (stmt.Return (at 206) (Some (number (codes "1") 207))) ∷ [])
    209) ∷ item.Function (head (gives.Data (data'.Int (at 210))) (name (codes "main") 211) (Some (params.Void (at
    213)))) (block 215 (part'.Stmt (stmt.If (at 216) (condition (conjunction (test.Unary (unary.Operand (operand.Call
    (call (codes "f") 218 []))) ∷ []) ∷ [])) (stmt.Empty (at 222)) None) ∷ part'.Stmt (stmt.Return (at 223) (Some
    (number (codes "0") 224))) ∷ []) 226) ∷ []) 227) ≡ Rule 15 (at 218) ∷ []
unfolding breaches site_breaches
alone_as_a_condition = simp layers refl

-- int f(void) { return 1; } int main(void) { int x; if (x == f()) ; return 0; }
in_a_comparison : breaches (unit (item.Function (head (gives.Data (data'.Int (at 200))) (name (codes "f") 201) (Some
    (params.Void (at 203)))) (block 205 (part'.Stmt (stmt.Return (at 206) (Some (number (codes "1") 207))) ∷ []) 209)
    ∷ item.Function (head (gives.Data (data'.Int (at 210))) (name (codes "main") 211) (Some (params.Void (at 213))))
    (block 215 (part'.Declare (declare.Datums (data'.Int (at 216)) (plain (codes "x") 217 ∷ [])) ∷ part'.Stmt (stmt.If
    (at 219) (condition (conjunction (test.Compare (operand.Path (var (codes "x") 221)) true (operand.Call (call
    (codes "f") 223 [])) ∷ []) ∷ [])) (stmt.Empty (at 227)) None) ∷ part'.Stmt (stmt.Return (at 228) (Some (number
    (codes "0") 229))) ∷ []) 231) ∷ []) 232) ≡ Rule 15 (at 223) ∷ []
unfolding breaches site_breaches
in_a_comparison = simp layers refl

-- int f(void) { return 1; } int main(void) { int x; if (f() != x) ; return 0; }
on_the_left : breaches (unit (item.Function (head (gives.Data (data'.Int (at 200))) (name (codes "f") 201) (Some
    (params.Void (at 203)))) (block 205 (part'.Stmt (stmt.Return (at 206) (Some (number (codes "1") 207))) ∷ []) 209)
    ∷ item.Function (head (gives.Data (data'.Int (at 210))) (name (codes "main") 211) (Some (params.Void (at 213))))
    (block 215 (part'.Declare (declare.Datums (data'.Int (at 216)) (plain (codes "x") 217 ∷ [])) ∷ part'.Stmt (stmt.If
    (at 219) (condition (conjunction (test.Compare (operand.Call (call (codes "f") 221 [])) false (operand.Path (var
    (codes "x") 225)) ∷ []) ∷ [])) (stmt.Empty (at 227)) None) ∷ part'.Stmt (stmt.Return (at 228) (Some (number (codes
    "0") 229))) ∷ []) 231) ∷ []) 232) ≡ Rule 15 (at 221) ∷ []
unfolding breaches site_breaches
on_the_left = simp layers refl

-- int f(void) { return 1; } int main(void) { return f(); }
returned : breaches (unit (item.Function (head (gives.Data (data'.Int (at 200))) (name (codes "f") 201) (Some
    (params.Void (at 203)))) (block 205 (part'.Stmt (stmt.Return (at 206) (Some (number (codes "1") 207))) ∷ []) 209)
    ∷ item.Function (head (gives.Data (data'.Int (at 210))) (name (codes "main") 211) (Some (params.Void (at 213))))
    (block 215 (part'.Stmt (stmt.Return (at 216) (Some (operand.Call (call (codes "f") 217 [])))) ∷ []) 221) ∷ [])
    222) ≡ Rule 15 (at 217) ∷ []
unfolding breaches site_breaches
returned = simp layers refl

-- int f(void) { return 1; } int main(void) { while (!f()) ; return 0; }
negated : breaches (unit (item.Function (head (gives.Data (data'.Int (at 200))) (name (codes "f") 201) (Some
    (params.Void (at 203)))) (block 205 (part'.Stmt (stmt.Return (at 206) (Some (number (codes "1") 207))) ∷ []) 209)
    ∷ item.Function (head (gives.Data (data'.Int (at 210))) (name (codes "main") 211) (Some (params.Void (at 213))))
    (block 215 (part'.Stmt (stmt.While (at 216) (condition (conjunction (test.Unary (unary.Not (at 218) (unary.Operand
    (operand.Call (call (codes "f") 219 [])))) ∷ []) ∷ [])) (stmt.Empty (at 223))) ∷ part'.Stmt (stmt.Return (at 224)
    (Some (number (codes "0") 225))) ∷ []) 227) ∷ []) 228) ≡ Rule 15 (at 219) ∷ []
unfolding breaches site_breaches
negated = simp layers refl

-- int f(int a) { return a; } int main(void) { f(1); return 0; }
as_a_statement : breaches (unit (item.Function (head (gives.Data (data'.Int (at 200))) (name (codes "f") 201) (Some
    (params.List (param.Datum (data'.Int (at 203)) (name (codes "a") 204) ∷ [])))) (block 206 (part'.Stmt (stmt.Return
    (at 207) (Some (operand.Path (var (codes "a") 208)))) ∷ []) 210) ∷ item.Function (head (gives.Data (data'.Int (at
    211))) (name (codes "main") 212) (Some (params.Void (at 214)))) (block 216 (part'.Stmt (stmt.Simple (simple.Call
    (call (codes "f") 217 ((number (codes "1") 219) ∷ [])))) ∷ part'.Stmt (stmt.Return (at 222) (Some (number (codes
    "0") 223))) ∷ []) 225) ∷ []) 226) ≡ []
unfolding breaches site_breaches overweight
as_a_statement = simp layers refl

-- int f(int a) { return a; } int main(void) { int x; for (x = f(1); x; f(x)) ; return 0; }
in_the_head_of_a_for : breaches (unit (item.Function (head (gives.Data (data'.Int (at 200))) (name (codes "f") 201)
    (Some (params.List (param.Datum (data'.Int (at 203)) (name (codes "a") 204) ∷ [])))) (block 206 (part'.Stmt
    (stmt.Return (at 207) (Some (operand.Path (var (codes "a") 208)))) ∷ []) 210) ∷ item.Function (head (gives.Data
    (data'.Int (at 211))) (name (codes "main") 212) (Some (params.Void (at 214)))) (block 216 (part'.Declare
    (declare.Datums (data'.Int (at 217)) (plain (codes "x") 218 ∷ [])) ∷ part'.Stmt (stmt.For (at 220) (first.Simple
    (simple.Assign (var (codes "x") 222) (rhs.Operand (operand.Call (call (codes "f") 224 ((number (codes "1") 226) ∷
    [])))))) (Some (condition (conjunction (test.Unary (unary.Operand (operand.Path (var (codes "x") 229))) ∷ []) ∷
    []))) (Some (simple.Call (call (codes "f") 231 ((operand.Path (var (codes "x") 233)) ∷ [])))) (stmt.Empty (at
    236))) ∷ part'.Stmt (stmt.Return (at 237) (Some (number (codes "0") 238))) ∷ []) 240) ∷ []) 241) ≡ []
unfolding breaches site_breaches overweight
in_the_head_of_a_for = simp layers refl

-- int f(int a) { return a; } int main(void) { int f; f = f(1); return 0; }
a_variable_hides_none : breaches (unit (item.Function (head (gives.Data (data'.Int (at 200))) (name (codes "f") 201)
    (Some (params.List (param.Datum (data'.Int (at 203)) (name (codes "a") 204) ∷ [])))) (block 206 (part'.Stmt
    (stmt.Return (at 207) (Some (operand.Path (var (codes "a") 208)))) ∷ []) 210) ∷ item.Function (head (gives.Data
    (data'.Int (at 211))) (name (codes "main") 212) (Some (params.Void (at 214)))) (block 216 (part'.Declare
    (declare.Datums (data'.Int (at 217)) (plain (codes "f") 218 ∷ [])) ∷ part'.Stmt (stmt.Simple (simple.Assign (var
    (codes "f") 220) (rhs.Operand (operand.Call (call (codes "f") 222 ((number (codes "1") 224) ∷ [])))))) ∷
    part'.Stmt (stmt.Return (at 227) (Some (number (codes "0") 228))) ∷ []) 230) ∷ []) 231) ≡ []
unfolding breaches site_breaches overweight
a_variable_hides_none = simp layers refl

-- int f(int f) { return f; } int main(void) { int x = f(1); return 0; }
name_of_a_parameter : breaches (unit (item.Function (head (gives.Data (data'.Int (at 200))) (name (codes "f") 201)
    (Some (params.List (param.Datum (data'.Int (at 203)) (name (codes "f") 204) ∷ [])))) (block 206 (part'.Stmt
    (stmt.Return (at 207) (Some (operand.Path (var (codes "f") 208)))) ∷ []) 210) ∷ item.Function (head (gives.Data
    (data'.Int (at 211))) (name (codes "main") 212) (Some (params.Void (at 214)))) (block 216 (part'.Declare
    (declare.Datums (data'.Int (at 217)) (begun (codes "x") 218 (rhs.Operand (operand.Call (call (codes "f") 220
    ((number (codes "1") 222) ∷ [])))) ∷ [])) ∷ part'.Stmt (stmt.Return (at 225) (Some (number (codes "0") 226))) ∷
    []) 228) ∷ []) 229) ≡ []
unfolding breaches site_breaches overweight
name_of_a_parameter = simp layers refl

-- struct node { struct node *next; int key; }; enum key { next }; int next(void) { return next; } int node(void) {
-- return 0; } int key(void) { return 1; } int main(void) { int x = next(); x = node(); x = key(); return 0; }
name_of_a_struct_and_an_enumerator : breaches (unit (item.Struct (at 200) (name (codes "node") 201) (Some
    (field.Pointers (at 203) (name (codes "node") 204) ((name (codes "next") 206) ∷ []) ∷ field.Datums (data'.Int (at
    208)) ((name (codes "key") 209) ∷ []) ∷ [])) ∷ item.Enum (at 213) (name (codes "key") 214) ((name (codes "next")
    216) ∷ []) ∷ item.Function (head (gives.Data (data'.Int (at 219))) (name (codes "next") 220) (Some (params.Void
    (at 222)))) (block 224 (part'.Stmt (stmt.Return (at 225) (Some (operand.Path (var (codes "next") 226)))) ∷ [])
    228) ∷ item.Function (head (gives.Data (data'.Int (at 229))) (name (codes "node") 230) (Some (params.Void (at
    232)))) (block 234 (part'.Stmt (stmt.Return (at 235) (Some (number (codes "0") 236))) ∷ []) 238) ∷ item.Function
    (head (gives.Data (data'.Int (at 239))) (name (codes "key") 240) (Some (params.Void (at 242)))) (block 244
    (part'.Stmt (stmt.Return (at 245) (Some (number (codes "1") 246))) ∷ []) 248) ∷ item.Function (head (gives.Data
    (data'.Int (at 249))) (name (codes "main") 250) (Some (params.Void (at 252)))) (block 254 (part'.Declare
    (declare.Datums (data'.Int (at 255)) (begun (codes "x") 256 (rhs.Operand (operand.Call (call (codes "next") 258
    []))) ∷ [])) ∷ part'.Stmt (stmt.Simple (simple.Assign (var (codes "x") 262) (rhs.Operand (operand.Call (call
    (codes "node") 264 []))))) ∷ part'.Stmt (stmt.Simple (simple.Assign (var (codes "x") 268) (rhs.Operand
    (operand.Call (call (codes "key") 270 []))))) ∷ part'.Stmt (stmt.Return (at 274) (Some (number (codes "0") 275)))
    ∷ []) 277) ∷ []) 278) ≡ []
unfolding breaches site_breaches overweight
name_of_a_struct_and_an_enumerator = simp layers refl

-- int f(void) { return 1; } int main(void) { int x = f; return 0; }
no_operand : breaches (unit (item.Function (head (gives.Data (data'.Int (at 200))) (name (codes "f") 201) (Some
    (params.Void (at 203)))) (block 205 (part'.Stmt (stmt.Return (at 206) (Some (number (codes "1") 207))) ∷ []) 209)
    ∷ item.Function (head (gives.Data (data'.Int (at 210))) (name (codes "main") 211) (Some (params.Void (at 213))))
    (block 215 (part'.Declare (declare.Datums (data'.Int (at 216)) (begun (codes "x") 217 (rhs.Operand (operand.Path
    (var (codes "f") 219))) ∷ [])) ∷ part'.Stmt (stmt.Return (at 221) (Some (number (codes "0") 222))) ∷ []) 224) ∷
    []) 225) ≡ Rule 3 (at 219) ∷ []
unfolding breaches site_breaches
no_operand = simp layers refl

-- int main(void) { int x = __VERIFIER_nondet_int(); x = __VERIFIER_nondet_bool(); return 0; }
choice_to_int : breaches (unit (item.Function (head (gives.Data (data'.Int (at 200))) (name (codes "main") 201) (Some
    (params.Void (at 203)))) (block 205 (part'.Declare (declare.Datums (data'.Int (at 206)) (begun (codes "x") 207
    (rhs.Operand (operand.Call (call (codes "__VERIFIER_nondet_int") 209 []))) ∷ [])) ∷ part'.Stmt (stmt.Simple
    (simple.Assign (var (codes "x") 213) (rhs.Operand (operand.Call (call (codes "__VERIFIER_nondet_bool") 215 [])))))
    ∷ part'.Stmt (stmt.Return (at 219) (Some (number (codes "0") 220))) ∷ []) 222) ∷ []) 223) ≡ Rule 15 (at 209) ∷ []
unfolding breaches site_breaches
choice_to_int = simp layers refl

-- How many operands, and whether there is a result (T17)

-- void f(int a) { } int main(void) { f(); return 0; }
too_few : breaches (unit (item.Function (head (gives.Void (at 200)) (name (codes "f") 201) (Some (params.List
    (param.Datum (data'.Int (at 203)) (name (codes "a") 204) ∷ [])))) (block 206 [] 207) ∷ item.Function (head
    (gives.Data (data'.Int (at 208))) (name (codes "main") 209) (Some (params.Void (at 211)))) (block 213 (part'.Stmt
    (stmt.Simple (simple.Call (call (codes "f") 214 []))) ∷ part'.Stmt (stmt.Return (at 218) (Some (number (codes "0")
    219))) ∷ []) 221) ∷ []) 222) ≡ Rule 17 (at 214) ∷ []
unfolding breaches site_breaches
too_few = simp layers refl

-- void f(int a) { } int main(void) { f(1, x); return 0; }: what is too much is not asked
too_many : breaches (unit (item.Function (head (gives.Void (at 200)) (name (codes "f") 201) (Some (params.List
    (param.Datum (data'.Int (at 203)) (name (codes "a") 204) ∷ [])))) (block 206 [] 207) ∷ item.Function (head
    (gives.Data (data'.Int (at 208))) (name (codes "main") 209) (Some (params.Void (at 211)))) (block 213 (part'.Stmt
    (stmt.Simple (simple.Call (call (codes "f") 214 ((number (codes "1") 216) ∷ (operand.Path (var (codes "x") 218)) ∷
    [])))) ∷ part'.Stmt (stmt.Return (at 221) (Some (number (codes "0") 222))) ∷ []) 224) ∷ []) 225) ≡ Rule 17 (at
    214) ∷ []
unfolding breaches site_breaches
too_many = simp layers refl

-- void f(void) { } int main(void) { f(1); return 0; }
none_wanted : breaches (unit (item.Function (head (gives.Void (at 200)) (name (codes "f") 201) (Some (params.Void (at
    203)))) (block 205 [] 206) ∷ item.Function (head (gives.Data (data'.Int (at 207))) (name (codes "main") 208) (Some
    (params.Void (at 210)))) (block 212 (part'.Stmt (stmt.Simple (simple.Call (call (codes "f") 213 ((number (codes
    "1") 215) ∷ [])))) ∷ part'.Stmt (stmt.Return (at 218) (Some (number (codes "0") 219))) ∷ []) 221) ∷ []) 222) ≡
    Rule 17 (at 213) ∷ []
unfolding breaches site_breaches
none_wanted = simp layers refl

-- void f(int a, int b) { } int main(void) { f(1, 2); return 0; }
as_many : breaches (unit (item.Function (head (gives.Void (at 200)) (name (codes "f") 201) (Some (params.List
    (param.Datum (data'.Int (at 203)) (name (codes "a") 204) ∷ param.Datum (data'.Int (at 206)) (name (codes "b") 207)
    ∷ [])))) (block 209 [] 210) ∷ item.Function (head (gives.Data (data'.Int (at 211))) (name (codes "main") 212)
    (Some (params.Void (at 214)))) (block 216 (part'.Stmt (stmt.Simple (simple.Call (call (codes "f") 217 ((number
    (codes "1") 219) ∷ (number (codes "2") 221) ∷ [])))) ∷ part'.Stmt (stmt.Return (at 224) (Some (number (codes "0")
    225))) ∷ []) 227) ∷ []) 228) ≡ []
unfolding breaches site_breaches overweight
as_many = simp layers refl

-- void f(void) { } int main(void) { int a = f(); return 0; }
result_of_void : breaches (unit (item.Function (head (gives.Void (at 200)) (name (codes "f") 201) (Some (params.Void
    (at 203)))) (block 205 [] 206) ∷ item.Function (head (gives.Data (data'.Int (at 207))) (name (codes "main") 208)
    (Some (params.Void (at 210)))) (block 212 (part'.Declare (declare.Datums (data'.Int (at 213)) (begun (codes "a")
    214 (rhs.Operand (operand.Call (call (codes "f") 216 []))) ∷ [])) ∷ part'.Stmt (stmt.Return (at 220) (Some (number
    (codes "0") 221))) ∷ []) 223) ∷ []) 224) ≡ Rule 17 (at 216) ∷ []
unfolding breaches site_breaches
result_of_void = simp layers refl

-- void f(void) { } int main(void) { int a; a = f(); return 0; }
result_of_void_assigned : breaches (unit (item.Function (head (gives.Void (at 200)) (name (codes "f") 201) (Some
    (params.Void (at 203)))) (block 205 [] 206) ∷ item.Function (head (gives.Data (data'.Int (at 207))) (name (codes
    "main") 208) (Some (params.Void (at 210)))) (block 212 (part'.Declare (declare.Datums (data'.Int (at 213)) (plain
    (codes "a") 214 ∷ [])) ∷ part'.Stmt (stmt.Simple (simple.Assign (var (codes "a") 216) (rhs.Operand (operand.Call
    (call (codes "f") 218 []))))) ∷ part'.Stmt (stmt.Return (at 222) (Some (number (codes "0") 223))) ∷ []) 225) ∷ [])
    226) ≡ Rule 17 (at 218) ∷ []
unfolding breaches site_breaches
result_of_void_assigned = simp layers refl

-- struct node { struct node *next; int key; }; void f(void) { } int main(void) { struct node *p = f(); return 0; }
result_of_void_to_a_pointer : breaches (unit (item.Struct (at 200) (name (codes "node") 201) (Some (field.Pointers (at
    203) (name (codes "node") 204) ((name (codes "next") 206) ∷ []) ∷ field.Datums (data'.Int (at 208)) ((name (codes
    "key") 209) ∷ []) ∷ [])) ∷ item.Function (head (gives.Void (at 213)) (name (codes "f") 214) (Some (params.Void (at
    216)))) (block 218 [] 219) ∷ item.Function (head (gives.Data (data'.Int (at 220))) (name (codes "main") 221) (Some
    (params.Void (at 223)))) (block 225 (part'.Declare (declare.Pointers (at 226) (name (codes "node") 227) (begun
    (codes "p") 229 (rhs.Operand (operand.Call (call (codes "f") 231 []))) ∷ [])) ∷ part'.Stmt (stmt.Return (at 235)
    (Some (number (codes "0") 236))) ∷ []) 238) ∷ []) 239) ≡ Rule 17 (at 231) ∷ []
unfolding breaches site_breaches
result_of_void_to_a_pointer = simp layers refl

-- int main(void) { abort(1); return 0; }
given_functions_are_not_counted : breaches (unit (item.Function (head (gives.Data (data'.Int (at 200))) (name (codes
    "main") 201) (Some (params.Void (at 203)))) (block 205 (part'.Stmt (stmt.Simple (simple.Call (call (codes "abort")
    206 ((number (codes "1") 208) ∷ [])))) ∷ part'.Stmt (stmt.Return (at 211) (Some (number (codes "0") 212))) ∷ [])
    214) ∷ []) 215) ≡ Rule 15 (at 206) ∷ []
unfolding breaches site_breaches
given_functions_are_not_counted = simp layers refl

-- Results are of the kind of what they are assigned to (T6 to T8), which comes before T13, T15 and T17

-- struct node { struct node *next; int key; }; int f(void) { return 0; } int main(void) { struct node *p = f(1);
-- return 0; }
datum_to_a_pointer : breaches (unit (item.Struct (at 200) (name (codes "node") 201) (Some (field.Pointers (at 203)
    (name (codes "node") 204) ((name (codes "next") 206) ∷ []) ∷ field.Datums (data'.Int (at 208)) ((name (codes
    "key") 209) ∷ []) ∷ [])) ∷ item.Function (head (gives.Data (data'.Int (at 213))) (name (codes "f") 214) (Some
    (params.Void (at 216)))) (block 218 (part'.Stmt (stmt.Return (at 219) (Some (number (codes "0") 220))) ∷ []) 222)
    ∷ item.Function (head (gives.Data (data'.Int (at 223))) (name (codes "main") 224) (Some (params.Void (at 226))))
    (block 228 (part'.Declare (declare.Pointers (at 229) (name (codes "node") 230) (begun (codes "p") 232 (rhs.Operand
    (operand.Call (call (codes "f") 234 ((number (codes "1") 236) ∷ [])))) ∷ [])) ∷ part'.Stmt (stmt.Return (at 239)
    (Some (number (codes "0") 240))) ∷ []) 242) ∷ []) 243) ≡ Rule 7 (at 234) ∷ Rule 17 (at 234) ∷ []
unfolding breaches site_breaches
datum_to_a_pointer = simp layers refl

-- struct node { struct node *next; int key; }; struct node *f(void) { int a = f(); return 0; } int main(void) {
-- return 0; }
pointer_to_a_datum : breaches (unit (item.Struct (at 200) (name (codes "node") 201) (Some (field.Pointers (at 203)
    (name (codes "node") 204) ((name (codes "next") 206) ∷ []) ∷ field.Datums (data'.Int (at 208)) ((name (codes
    "key") 209) ∷ []) ∷ [])) ∷ item.Function (head (gives.Pointer (at 213) (name (codes "node") 214)) (name (codes
    "f") 216) (Some (params.Void (at 218)))) (block 220 (part'.Declare (declare.Datums (data'.Int (at 221)) (begun
    (codes "a") 222 (rhs.Operand (operand.Call (call (codes "f") 224 []))) ∷ [])) ∷ part'.Stmt (stmt.Return (at 228)
    (Some (number (codes "0") 229))) ∷ []) 231) ∷ item.Function (head (gives.Data (data'.Int (at 232))) (name (codes
    "main") 233) (Some (params.Void (at 235)))) (block 237 (part'.Stmt (stmt.Return (at 238) (Some (number (codes "0")
    239))) ∷ []) 241) ∷ []) 242) ≡ Rule 8 (at 224) ∷ Rule 13 (at 224) ∷ []
unfolding breaches site_breaches
pointer_to_a_datum = simp layers refl

-- struct node { struct node *next; int key; }; struct item { int mark; }; struct item *f(void) { return 0; } int
-- main(void) { struct node *p = f(); return 0; }
pointer_to_another : breaches (unit (item.Struct (at 200) (name (codes "node") 201) (Some (field.Pointers (at 203)
    (name (codes "node") 204) ((name (codes "next") 206) ∷ []) ∷ field.Datums (data'.Int (at 208)) ((name (codes
    "key") 209) ∷ []) ∷ [])) ∷ item.Struct (at 213) (name (codes "item") 214) (Some (field.Datums (data'.Int (at 216))
    ((name (codes "mark") 217) ∷ []) ∷ [])) ∷ item.Function (head (gives.Pointer (at 221) (name (codes "item") 222))
    (name (codes "f") 224) (Some (params.Void (at 226)))) (block 228 (part'.Stmt (stmt.Return (at 229) (Some (number
    (codes "0") 230))) ∷ []) 232) ∷ item.Function (head (gives.Data (data'.Int (at 233))) (name (codes "main") 234)
    (Some (params.Void (at 236)))) (block 238 (part'.Declare (declare.Pointers (at 239) (name (codes "node") 240)
    (begun (codes "p") 242 (rhs.Operand (operand.Call (call (codes "f") 244 []))) ∷ [])) ∷ part'.Stmt (stmt.Return (at
    248) (Some (number (codes "0") 249))) ∷ []) 251) ∷ []) 252) ≡ Rule 6 (at 244) ∷ []
unfolding breaches site_breaches
pointer_to_another = simp layers refl

-- struct node { struct node *next; int key; }; struct item { int mark; }; struct item *f(void) { return 0; } int
-- main(void) { struct item *p = f(); return 0; }
pointer_to_the_same : breaches (unit (item.Struct (at 200) (name (codes "node") 201) (Some (field.Pointers (at 203)
    (name (codes "node") 204) ((name (codes "next") 206) ∷ []) ∷ field.Datums (data'.Int (at 208)) ((name (codes
    "key") 209) ∷ []) ∷ [])) ∷ item.Struct (at 213) (name (codes "item") 214) (Some (field.Datums (data'.Int (at 216))
    ((name (codes "mark") 217) ∷ []) ∷ [])) ∷ item.Function (head (gives.Pointer (at 221) (name (codes "item") 222))
    (name (codes "f") 224) (Some (params.Void (at 226)))) (block 228 (part'.Stmt (stmt.Return (at 229) (Some (number
    (codes "0") 230))) ∷ []) 232) ∷ item.Function (head (gives.Data (data'.Int (at 233))) (name (codes "main") 234)
    (Some (params.Void (at 236)))) (block 238 (part'.Declare (declare.Pointers (at 239) (name (codes "item") 240)
    (begun (codes "p") 242 (rhs.Operand (operand.Call (call (codes "f") 244 []))) ∷ [])) ∷ part'.Stmt (stmt.Return (at
    248) (Some (number (codes "0") 249))) ∷ []) 251) ∷ []) 252) ≡ []
unfolding breaches site_breaches overweight
pointer_to_the_same = simp layers refl

-- struct node { struct node *next; int key; }; struct node *f(void) { return 0; } int main(void) { struct node *p =
-- NULL; p->next = f(); p->key = f(); return 0; }
pointer_to_a_field : breaches (unit (item.Struct (at 200) (name (codes "node") 201) (Some (field.Pointers (at 203)
    (name (codes "node") 204) ((name (codes "next") 206) ∷ []) ∷ field.Datums (data'.Int (at 208)) ((name (codes
    "key") 209) ∷ []) ∷ [])) ∷ item.Function (head (gives.Pointer (at 213) (name (codes "node") 214)) (name (codes
    "f") 216) (Some (params.Void (at 218)))) (block 220 (part'.Stmt (stmt.Return (at 221) (Some (number (codes "0")
    222))) ∷ []) 224) ∷ item.Function (head (gives.Data (data'.Int (at 225))) (name (codes "main") 226) (Some
    (params.Void (at 228)))) (block 230 (part'.Declare (declare.Pointers (at 231) (name (codes "node") 232) (begun
    (codes "p") 234 (rhs.Operand (operand.Null (at 236))) ∷ [])) ∷ part'.Stmt (stmt.Simple (simple.Assign (path (codes
    "p") 238 (arrow (codes "next") 239 ∷ [])) (rhs.Operand (operand.Call (call (codes "f") 242 []))))) ∷ part'.Stmt
    (stmt.Simple (simple.Assign (path (codes "p") 246 (arrow (codes "key") 247 ∷ [])) (rhs.Operand (operand.Call (call
    (codes "f") 250 []))))) ∷ part'.Stmt (stmt.Return (at 254) (Some (number (codes "0") 255))) ∷ []) 257) ∷ []) 258)
    ≡ Rule 8 (at 250) ∷ []
unfolding breaches site_breaches
pointer_to_a_field = simp layers refl

-- struct node { struct node *next; int key; }; int f(void) { return 0; } int main(void) { struct node *p = NULL;
-- p->key = f(); p->next = f(); return 0; }
datum_to_a_field : breaches (unit (item.Struct (at 200) (name (codes "node") 201) (Some (field.Pointers (at 203) (name
    (codes "node") 204) ((name (codes "next") 206) ∷ []) ∷ field.Datums (data'.Int (at 208)) ((name (codes "key") 209)
    ∷ []) ∷ [])) ∷ item.Function (head (gives.Data (data'.Int (at 213))) (name (codes "f") 214) (Some (params.Void (at
    216)))) (block 218 (part'.Stmt (stmt.Return (at 219) (Some (number (codes "0") 220))) ∷ []) 222) ∷ item.Function
    (head (gives.Data (data'.Int (at 223))) (name (codes "main") 224) (Some (params.Void (at 226)))) (block 228
    (part'.Declare (declare.Pointers (at 229) (name (codes "node") 230) (begun (codes "p") 232 (rhs.Operand
    (operand.Null (at 234))) ∷ [])) ∷ part'.Stmt (stmt.Simple (simple.Assign (path (codes "p") 236 (arrow (codes
    "key") 237 ∷ [])) (rhs.Operand (operand.Call (call (codes "f") 240 []))))) ∷ part'.Stmt (stmt.Simple
    (simple.Assign (path (codes "p") 244 (arrow (codes "next") 245 ∷ [])) (rhs.Operand (operand.Call (call (codes "f")
    248 []))))) ∷ part'.Stmt (stmt.Return (at 252) (Some (number (codes "0") 253))) ∷ []) 255) ∷ []) 256) ≡ Rule 7 (at
    248) ∷ []
unfolding breaches site_breaches
datum_to_a_field = simp layers refl

-- struct node { struct node *next; int key; }; struct node *f(void) { return 0; } int main(void) { struct none *p =
-- f(); return 0; }
pointer_to_nothing_known : breaches (unit (item.Struct (at 200) (name (codes "node") 201) (Some (field.Pointers (at
    203) (name (codes "node") 204) ((name (codes "next") 206) ∷ []) ∷ field.Datums (data'.Int (at 208)) ((name (codes
    "key") 209) ∷ []) ∷ [])) ∷ item.Function (head (gives.Pointer (at 213) (name (codes "node") 214)) (name (codes
    "f") 216) (Some (params.Void (at 218)))) (block 220 (part'.Stmt (stmt.Return (at 221) (Some (number (codes "0")
    222))) ∷ []) 224) ∷ item.Function (head (gives.Data (data'.Int (at 225))) (name (codes "main") 226) (Some
    (params.Void (at 228)))) (block 230 (part'.Declare (declare.Pointers (at 231) (name (codes "none") 232) (begun
    (codes "p") 234 (rhs.Operand (operand.Call (call (codes "f") 236 []))) ∷ [])) ∷ part'.Stmt (stmt.Return (at 240)
    (Some (number (codes "0") 241))) ∷ []) 243) ∷ []) 244) ≡ Rule 1 (at 232) ∷ []
unfolding breaches site_breaches
pointer_to_nothing_known = simp layers refl

-- struct node { struct node *next; int key; }; struct node *f(void) { return 0; } int main(void) { f(); return 0; }
result_let_go : breaches (unit (item.Struct (at 200) (name (codes "node") 201) (Some (field.Pointers (at 203) (name
    (codes "node") 204) ((name (codes "next") 206) ∷ []) ∷ field.Datums (data'.Int (at 208)) ((name (codes "key") 209)
    ∷ []) ∷ [])) ∷ item.Function (head (gives.Pointer (at 213) (name (codes "node") 214)) (name (codes "f") 216) (Some
    (params.Void (at 218)))) (block 220 (part'.Stmt (stmt.Return (at 221) (Some (number (codes "0") 222))) ∷ []) 224)
    ∷ item.Function (head (gives.Data (data'.Int (at 225))) (name (codes "main") 226) (Some (params.Void (at 228))))
    (block 230 (part'.Stmt (stmt.Simple (simple.Call (call (codes "f") 231 []))) ∷ part'.Stmt (stmt.Return (at 235)
    (Some (number (codes "0") 236))) ∷ []) 238) ∷ []) 239) ≡ []
unfolding breaches site_breaches overweight
result_let_go = simp layers refl

-- struct node { struct node *next; int key; }; int f(int a) { return a; } int main(void) { struct node *p = f(f(1));
-- return 0; }
call_with_a_call_to_a_pointer : breaches (unit (item.Struct (at 200) (name (codes "node") 201) (Some (field.Pointers
    (at 203) (name (codes "node") 204) ((name (codes "next") 206) ∷ []) ∷ field.Datums (data'.Int (at 208)) ((name
    (codes "key") 209) ∷ []) ∷ [])) ∷ item.Function (head (gives.Data (data'.Int (at 213))) (name (codes "f") 214)
    (Some (params.List (param.Datum (data'.Int (at 216)) (name (codes "a") 217) ∷ [])))) (block 219 (part'.Stmt
    (stmt.Return (at 220) (Some (operand.Path (var (codes "a") 221)))) ∷ []) 223) ∷ item.Function (head (gives.Data
    (data'.Int (at 224))) (name (codes "main") 225) (Some (params.Void (at 227)))) (block 229 (part'.Declare
    (declare.Pointers (at 230) (name (codes "node") 231) (begun (codes "p") 233 (rhs.Operand (operand.Call (call
    (codes "f") 235 ((operand.Call (call (codes "f") 237 ((number (codes "1") 239) ∷ []))) ∷ [])))) ∷ [])) ∷
    part'.Stmt (stmt.Return (at 243) (Some (number (codes "0") 244))) ∷ []) 246) ∷ []) 247) ≡ Rule 7 (at 235) ∷ Rule
    15 (at 235) ∷ Rule 15 (at 237) ∷ []
unfolding breaches site_breaches
call_with_a_call_to_a_pointer = simp layers refl

-- Arguments are of the kinds of parameters (T6 to T8)

-- struct node { struct node *next; int key; }; void f(struct node *p) { } int main(void) { f(1); return 0; }
datum_for_a_pointer : breaches (unit (item.Struct (at 200) (name (codes "node") 201) (Some (field.Pointers (at 203)
    (name (codes "node") 204) ((name (codes "next") 206) ∷ []) ∷ field.Datums (data'.Int (at 208)) ((name (codes
    "key") 209) ∷ []) ∷ [])) ∷ item.Function (head (gives.Void (at 213)) (name (codes "f") 214) (Some (params.List
    (param.Pointer (at 216) (name (codes "node") 217) (name (codes "p") 219) ∷ [])))) (block 221 [] 222) ∷
    item.Function (head (gives.Data (data'.Int (at 223))) (name (codes "main") 224) (Some (params.Void (at 226))))
    (block 228 (part'.Stmt (stmt.Simple (simple.Call (call (codes "f") 229 ((number (codes "1") 231) ∷ [])))) ∷
    part'.Stmt (stmt.Return (at 234) (Some (number (codes "0") 235))) ∷ []) 237) ∷ []) 238) ≡ Rule 7 (at 231) ∷ []
unfolding breaches site_breaches
datum_for_a_pointer = simp layers refl

-- void f(int a) { } int main(void) { f(NULL); return 0; }
null_for_a_datum : breaches (unit (item.Function (head (gives.Void (at 200)) (name (codes "f") 201) (Some (params.List
    (param.Datum (data'.Int (at 203)) (name (codes "a") 204) ∷ [])))) (block 206 [] 207) ∷ item.Function (head
    (gives.Data (data'.Int (at 208))) (name (codes "main") 209) (Some (params.Void (at 211)))) (block 213 (part'.Stmt
    (stmt.Simple (simple.Call (call (codes "f") 214 ((operand.Null (at 216)) ∷ [])))) ∷ part'.Stmt (stmt.Return (at
    219) (Some (number (codes "0") 220))) ∷ []) 222) ∷ []) 223) ≡ Rule 8 (at 216) ∷ []
unfolding breaches site_breaches
null_for_a_datum = simp layers refl

-- struct node { struct node *next; int key; }; void f(struct node *p, int a) { } int main(void) { f(0, 0); return 0;
-- }
zero_for_both : breaches (unit (item.Struct (at 200) (name (codes "node") 201) (Some (field.Pointers (at 203) (name
    (codes "node") 204) ((name (codes "next") 206) ∷ []) ∷ field.Datums (data'.Int (at 208)) ((name (codes "key") 209)
    ∷ []) ∷ [])) ∷ item.Function (head (gives.Void (at 213)) (name (codes "f") 214) (Some (params.List (param.Pointer
    (at 216) (name (codes "node") 217) (name (codes "p") 219) ∷ param.Datum (data'.Int (at 221)) (name (codes "a")
    222) ∷ [])))) (block 224 [] 225) ∷ item.Function (head (gives.Data (data'.Int (at 226))) (name (codes "main") 227)
    (Some (params.Void (at 229)))) (block 231 (part'.Stmt (stmt.Simple (simple.Call (call (codes "f") 232 ((number
    (codes "0") 234) ∷ (number (codes "0") 236) ∷ [])))) ∷ part'.Stmt (stmt.Return (at 239) (Some (number (codes "0")
    240))) ∷ []) 242) ∷ []) 243) ≡ []
unfolding breaches site_breaches overweight
zero_for_both = simp layers refl

-- struct node { struct node *next; int key; }; void f(struct node *p) { } int main(void) { f(NULL); return 0; }
null_for_a_pointer : breaches (unit (item.Struct (at 200) (name (codes "node") 201) (Some (field.Pointers (at 203)
    (name (codes "node") 204) ((name (codes "next") 206) ∷ []) ∷ field.Datums (data'.Int (at 208)) ((name (codes
    "key") 209) ∷ []) ∷ [])) ∷ item.Function (head (gives.Void (at 213)) (name (codes "f") 214) (Some (params.List
    (param.Pointer (at 216) (name (codes "node") 217) (name (codes "p") 219) ∷ [])))) (block 221 [] 222) ∷
    item.Function (head (gives.Data (data'.Int (at 223))) (name (codes "main") 224) (Some (params.Void (at 226))))
    (block 228 (part'.Stmt (stmt.Simple (simple.Call (call (codes "f") 229 ((operand.Null (at 231)) ∷ [])))) ∷
    part'.Stmt (stmt.Return (at 234) (Some (number (codes "0") 235))) ∷ []) 237) ∷ []) 238) ≡ []
unfolding breaches site_breaches overweight
null_for_a_pointer = simp layers refl

-- struct node { struct node *next; int key; }; struct item { int mark; }; void f(struct node *p) { } int main(void) {
-- struct item *q = NULL; f(q); return 0; }
another_struct : breaches (unit (item.Struct (at 200) (name (codes "node") 201) (Some (field.Pointers (at 203) (name
    (codes "node") 204) ((name (codes "next") 206) ∷ []) ∷ field.Datums (data'.Int (at 208)) ((name (codes "key") 209)
    ∷ []) ∷ [])) ∷ item.Struct (at 213) (name (codes "item") 214) (Some (field.Datums (data'.Int (at 216)) ((name
    (codes "mark") 217) ∷ []) ∷ [])) ∷ item.Function (head (gives.Void (at 221)) (name (codes "f") 222) (Some
    (params.List (param.Pointer (at 224) (name (codes "node") 225) (name (codes "p") 227) ∷ [])))) (block 229 [] 230)
    ∷ item.Function (head (gives.Data (data'.Int (at 231))) (name (codes "main") 232) (Some (params.Void (at 234))))
    (block 236 (part'.Declare (declare.Pointers (at 237) (name (codes "item") 238) (begun (codes "q") 240 (rhs.Operand
    (operand.Null (at 242))) ∷ [])) ∷ part'.Stmt (stmt.Simple (simple.Call (call (codes "f") 244 ((operand.Path (var
    (codes "q") 246)) ∷ [])))) ∷ part'.Stmt (stmt.Return (at 249) (Some (number (codes "0") 250))) ∷ []) 252) ∷ [])
    253) ≡ Rule 6 (at 246) ∷ []
unfolding breaches site_breaches
another_struct = simp layers refl

-- struct node { struct node *next; int key; }; struct item { int mark; }; void f(struct item *p) { } int main(void) {
-- struct item *q = NULL; f(q); return 0; }
the_same_struct : breaches (unit (item.Struct (at 200) (name (codes "node") 201) (Some (field.Pointers (at 203) (name
    (codes "node") 204) ((name (codes "next") 206) ∷ []) ∷ field.Datums (data'.Int (at 208)) ((name (codes "key") 209)
    ∷ []) ∷ [])) ∷ item.Struct (at 213) (name (codes "item") 214) (Some (field.Datums (data'.Int (at 216)) ((name
    (codes "mark") 217) ∷ []) ∷ [])) ∷ item.Function (head (gives.Void (at 221)) (name (codes "f") 222) (Some
    (params.List (param.Pointer (at 224) (name (codes "item") 225) (name (codes "p") 227) ∷ [])))) (block 229 [] 230)
    ∷ item.Function (head (gives.Data (data'.Int (at 231))) (name (codes "main") 232) (Some (params.Void (at 234))))
    (block 236 (part'.Declare (declare.Pointers (at 237) (name (codes "item") 238) (begun (codes "q") 240 (rhs.Operand
    (operand.Null (at 242))) ∷ [])) ∷ part'.Stmt (stmt.Simple (simple.Call (call (codes "f") 244 ((operand.Path (var
    (codes "q") 246)) ∷ [])))) ∷ part'.Stmt (stmt.Return (at 249) (Some (number (codes "0") 250))) ∷ []) 252) ∷ [])
    253) ≡ []
unfolding breaches site_breaches overweight
the_same_struct = simp layers refl

-- struct node { struct node *next; int key; }; int f(int a, int b) { return b; } int main(void) { struct node *p =
-- NULL; int x = f(p->key, p); return 0; }
pointer_for_a_datum : breaches (unit (item.Struct (at 200) (name (codes "node") 201) (Some (field.Pointers (at 203)
    (name (codes "node") 204) ((name (codes "next") 206) ∷ []) ∷ field.Datums (data'.Int (at 208)) ((name (codes
    "key") 209) ∷ []) ∷ [])) ∷ item.Function (head (gives.Data (data'.Int (at 213))) (name (codes "f") 214) (Some
    (params.List (param.Datum (data'.Int (at 216)) (name (codes "a") 217) ∷ param.Datum (data'.Int (at 219)) (name
    (codes "b") 220) ∷ [])))) (block 222 (part'.Stmt (stmt.Return (at 223) (Some (operand.Path (var (codes "b")
    224)))) ∷ []) 226) ∷ item.Function (head (gives.Data (data'.Int (at 227))) (name (codes "main") 228) (Some
    (params.Void (at 230)))) (block 232 (part'.Declare (declare.Pointers (at 233) (name (codes "node") 234) (begun
    (codes "p") 236 (rhs.Operand (operand.Null (at 238))) ∷ [])) ∷ part'.Declare (declare.Datums (data'.Int (at 240))
    (begun (codes "x") 241 (rhs.Operand (operand.Call (call (codes "f") 243 ((operand.Path (path (codes "p") 245
    (arrow (codes "key") 246 ∷ []))) ∷ (operand.Path (var (codes "p") 249)) ∷ [])))) ∷ [])) ∷ part'.Stmt (stmt.Return
    (at 252) (Some (number (codes "0") 253))) ∷ []) 255) ∷ []) 256) ≡ Rule 8 (at 249) ∷ []
unfolding breaches site_breaches
pointer_for_a_datum = simp layers refl

-- enum e { A }; void f(int a, enum e b) { } int main(void) { f(A, true); return 0; }
enumerator_for_a_datum : breaches (unit (item.Enum (at 200) (name (codes "e") 201) ((name (codes "A") 203) ∷ []) ∷
    item.Function (head (gives.Void (at 206)) (name (codes "f") 207) (Some (params.List (param.Datum (data'.Int (at
    209)) (name (codes "a") 210) ∷ param.Datum (data'.Enum (at 212) (name (codes "e") 213)) (name (codes "b") 214) ∷
    [])))) (block 216 [] 217) ∷ item.Function (head (gives.Data (data'.Int (at 218))) (name (codes "main") 219) (Some
    (params.Void (at 221)))) (block 223 (part'.Stmt (stmt.Simple (simple.Call (call (codes "f") 224 ((operand.Path
    (var (codes "A") 226)) ∷ (operand.True (at 228)) ∷ [])))) ∷ part'.Stmt (stmt.Return (at 231) (Some (number (codes
    "0") 232))) ∷ []) 234) ∷ []) 235) ≡ []
unfolding breaches site_breaches overweight
enumerator_for_a_datum = simp layers refl

-- struct node { struct node *next; int key; }; void f(int a, struct node *p) { } int main(void) { struct node *q =
-- NULL; f(q, 1); return 0; }
each_for_its_own : breaches (unit (item.Struct (at 200) (name (codes "node") 201) (Some (field.Pointers (at 203) (name
    (codes "node") 204) ((name (codes "next") 206) ∷ []) ∷ field.Datums (data'.Int (at 208)) ((name (codes "key") 209)
    ∷ []) ∷ [])) ∷ item.Function (head (gives.Void (at 213)) (name (codes "f") 214) (Some (params.List (param.Datum
    (data'.Int (at 216)) (name (codes "a") 217) ∷ param.Pointer (at 219) (name (codes "node") 220) (name (codes "p")
    222) ∷ [])))) (block 224 [] 225) ∷ item.Function (head (gives.Data (data'.Int (at 226))) (name (codes "main") 227)
    (Some (params.Void (at 229)))) (block 231 (part'.Declare (declare.Pointers (at 232) (name (codes "node") 233)
    (begun (codes "q") 235 (rhs.Operand (operand.Null (at 237))) ∷ [])) ∷ part'.Stmt (stmt.Simple (simple.Call (call
    (codes "f") 239 ((operand.Path (var (codes "q") 241)) ∷ (number (codes "1") 243) ∷ [])))) ∷ part'.Stmt
    (stmt.Return (at 246) (Some (number (codes "0") 247))) ∷ []) 249) ∷ []) 250) ≡ Rule 8 (at 241) ∷ Rule 7 (at 243) ∷
    []
unfolding breaches site_breaches
each_for_its_own = simp layers refl

-- void f(int a) { } int main(void) { f(x); return 0; }
no_variable_given : breaches (unit (item.Function (head (gives.Void (at 200)) (name (codes "f") 201) (Some
    (params.List (param.Datum (data'.Int (at 203)) (name (codes "a") 204) ∷ [])))) (block 206 [] 207) ∷ item.Function
    (head (gives.Data (data'.Int (at 208))) (name (codes "main") 209) (Some (params.Void (at 211)))) (block 213
    (part'.Stmt (stmt.Simple (simple.Call (call (codes "f") 214 ((operand.Path (var (codes "x") 216)) ∷ [])))) ∷
    part'.Stmt (stmt.Return (at 219) (Some (number (codes "0") 220))) ∷ []) 222) ∷ []) 223) ≡ Rule 3 (at 216) ∷ []
unfolding breaches site_breaches
no_variable_given = simp layers refl

-- struct node { struct node *next; int key; }; void f(int a) { } int main(void) { struct node *p = NULL; f(p->last);
-- return 0; }
no_field_given : breaches (unit (item.Struct (at 200) (name (codes "node") 201) (Some (field.Pointers (at 203) (name
    (codes "node") 204) ((name (codes "next") 206) ∷ []) ∷ field.Datums (data'.Int (at 208)) ((name (codes "key") 209)
    ∷ []) ∷ [])) ∷ item.Function (head (gives.Void (at 213)) (name (codes "f") 214) (Some (params.List (param.Datum
    (data'.Int (at 216)) (name (codes "a") 217) ∷ [])))) (block 219 [] 220) ∷ item.Function (head (gives.Data
    (data'.Int (at 221))) (name (codes "main") 222) (Some (params.Void (at 224)))) (block 226 (part'.Declare
    (declare.Pointers (at 227) (name (codes "node") 228) (begun (codes "p") 230 (rhs.Operand (operand.Null (at 232)))
    ∷ [])) ∷ part'.Stmt (stmt.Simple (simple.Call (call (codes "f") 234 ((operand.Path (path (codes "p") 236 (arrow
    (codes "last") 237 ∷ []))) ∷ [])))) ∷ part'.Stmt (stmt.Return (at 241) (Some (number (codes "0") 242))) ∷ []) 244)
    ∷ []) 245) ≡ Rule 2 (at 238) ∷ []
unfolding breaches site_breaches
no_field_given = simp layers refl

-- int f(int a) { return a; } int main(void) { int x = f(x); return 0; }
own_initialiser : breaches (unit (item.Function (head (gives.Data (data'.Int (at 200))) (name (codes "f") 201) (Some
    (params.List (param.Datum (data'.Int (at 203)) (name (codes "a") 204) ∷ [])))) (block 206 (part'.Stmt (stmt.Return
    (at 207) (Some (operand.Path (var (codes "a") 208)))) ∷ []) 210) ∷ item.Function (head (gives.Data (data'.Int (at
    211))) (name (codes "main") 212) (Some (params.Void (at 214)))) (block 216 (part'.Declare (declare.Datums
    (data'.Int (at 217)) (begun (codes "x") 218 (rhs.Operand (operand.Call (call (codes "f") 220 ((operand.Path (var
    (codes "x") 222)) ∷ [])))) ∷ [])) ∷ part'.Stmt (stmt.Return (at 225) (Some (number (codes "0") 226))) ∷ []) 228) ∷
    []) 229) ≡ []
unfolding breaches site_breaches overweight
own_initialiser = simp layers refl

-- int f(int a) { return a; } int main(void) { if (f(x)) ; return 0; }
not_asked_where_the_call_is_no_value : breaches (unit (item.Function (head (gives.Data (data'.Int (at 200))) (name
    (codes "f") 201) (Some (params.List (param.Datum (data'.Int (at 203)) (name (codes "a") 204) ∷ [])))) (block 206
    (part'.Stmt (stmt.Return (at 207) (Some (operand.Path (var (codes "a") 208)))) ∷ []) 210) ∷ item.Function (head
    (gives.Data (data'.Int (at 211))) (name (codes "main") 212) (Some (params.Void (at 214)))) (block 216 (part'.Stmt
    (stmt.If (at 217) (condition (conjunction (test.Unary (unary.Operand (operand.Call (call (codes "f") 219
    ((operand.Path (var (codes "x") 221)) ∷ [])))) ∷ []) ∷ [])) (stmt.Empty (at 224)) None) ∷ part'.Stmt (stmt.Return
    (at 225) (Some (number (codes "0") 226))) ∷ []) 228) ∷ []) 229) ≡ Rule 15 (at 219) ∷ []
unfolding breaches site_breaches
not_asked_where_the_call_is_no_value = simp layers refl

-- int main(void) { abort(x); int y = __VERIFIER_nondet_bool(x); return 0; }
not_asked_of_given_functions : breaches (unit (item.Function (head (gives.Data (data'.Int (at 200))) (name (codes
    "main") 201) (Some (params.Void (at 203)))) (block 205 (part'.Stmt (stmt.Simple (simple.Call (call (codes "abort")
    206 ((operand.Path (var (codes "x") 208)) ∷ [])))) ∷ part'.Declare (declare.Datums (data'.Int (at 211)) (begun
    (codes "y") 212 (rhs.Operand (operand.Call (call (codes "__VERIFIER_nondet_bool") 214 ((operand.Path (var (codes
    "x") 216)) ∷ [])))) ∷ [])) ∷ part'.Stmt (stmt.Return (at 219) (Some (number (codes "0") 220))) ∷ []) 222) ∷ [])
    223) ≡ Rule 15 (at 206) ∷ Rule 15 (at 214) ∷ []
unfolding breaches site_breaches
not_asked_of_given_functions = simp layers refl

-- Bodies are by themselves (T3, T11)

-- void f(void) { break; } int main(void) { while (1) { f(); } return 0; }
loop_of_the_caller : breaches (unit (item.Function (head (gives.Void (at 200)) (name (codes "f") 201) (Some
    (params.Void (at 203)))) (block 205 (part'.Stmt (stmt.Break (at 206)) ∷ []) 208) ∷ item.Function (head (gives.Data
    (data'.Int (at 209))) (name (codes "main") 210) (Some (params.Void (at 212)))) (block 214 (part'.Stmt (stmt.While
    (at 215) (condition (conjunction (test.Unary (unary.Operand (number (codes "1") 217)) ∷ []) ∷ [])) (stmt.Block
    (block 219 (part'.Stmt (stmt.Simple (simple.Call (call (codes "f") 220 []))) ∷ []) 224))) ∷ part'.Stmt
    (stmt.Return (at 225) (Some (number (codes "0") 226))) ∷ []) 228) ∷ []) 229) ≡ Rule 11 (at 206) ∷ []
unfolding breaches site_breaches
loop_of_the_caller = simp layers refl

-- int f(void) { return x; } int main(void) { int x = f(); return 0; }
variable_of_the_caller : breaches (unit (item.Function (head (gives.Data (data'.Int (at 200))) (name (codes "f") 201)
    (Some (params.Void (at 203)))) (block 205 (part'.Stmt (stmt.Return (at 206) (Some (operand.Path (var (codes "x")
    207)))) ∷ []) 209) ∷ item.Function (head (gives.Data (data'.Int (at 210))) (name (codes "main") 211) (Some
    (params.Void (at 213)))) (block 215 (part'.Declare (declare.Datums (data'.Int (at 216)) (begun (codes "x") 217
    (rhs.Operand (operand.Call (call (codes "f") 219 []))) ∷ [])) ∷ part'.Stmt (stmt.Return (at 223) (Some (number
    (codes "0") 224))) ∷ []) 226) ∷ []) 227) ≡ Rule 3 (at 207) ∷ []
unfolding breaches site_breaches
variable_of_the_caller = simp layers refl
