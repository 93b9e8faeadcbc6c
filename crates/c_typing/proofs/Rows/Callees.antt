-- Rows on which functions are called, and what they weigh.
use Rattle.std.proofs.Common.{◌≡◌, true, false, List, [], ◌∷◌, Some, None, codes, refl}
use Rattle.c_ast.specs.declared.conditions.Test.TheVariants as test
use Rattle.c_ast.specs.declared.conditions.Unary.TheVariants as unary
use Rattle.c_ast.specs.declared.items.Item.{Item}
use Rattle.c_ast.specs.declared.items.Item.TheVariants as item
use Rattle.c_ast.specs.declared.items.Param.TheVariants as param
use Rattle.c_ast.specs.declared.items.Params.TheVariants as params
use Rattle.c_ast.specs.declared.items.ReturnType.TheVariants as gives
use Rattle.c_ast.specs.declared.operands.Operand.TheVariants as operand
use Rattle.c_ast.specs.declared.simples.Rhs.TheVariants as rhs
use Rattle.c_ast.specs.declared.simples.Simple.TheVariants as simple
use Rattle.c_ast.specs.declared.simples.Size.TheVariants as size
use Rattle.c_ast.specs.declared.statements.Data.TheVariants as data'
use Rattle.c_ast.specs.declared.statements.Declare.TheVariants as declare
use Rattle.c_ast.specs.declared.statements.First.TheVariants as first
use Rattle.c_ast.specs.declared.statements.Part.TheVariants as part'
use Rattle.c_ast.specs.declared.statements.Stmt.TheVariants as stmt
use Rattle.c_typing.specs.Callees.{stmt_callees}
use Rattle.c_typing.specs.Globals.{calls_of, names_of_calls}
use Rattle.c_typing.specs.Weights.{statements_of, main_weight}
use Rattle.c_typing.proofs.Layers.{layers}
use Rattle.c_typing.proofs.Rows.Forms.{at, name, var, arrow, path, call, number, condition, conjunction, plain, begun}
use Rattle.c_typing.proofs.Rows.Forms.{block, head}

-- { ; x = y; x = y->g; free(f); break; continue; return; return x; int z; int w = x; }: a name is no call
none : stmt_callees (stmt.Block (block 200 (part'.Stmt (stmt.Empty (at 201)) ∷ part'.Stmt (stmt.Simple
    (simple.Assign (var (codes "x") 202) (rhs.Operand (operand.Path (var (codes "y") 204))))) ∷ part'.Stmt
    (stmt.Simple (simple.Assign (var (codes "x") 206) (rhs.Operand (operand.Path (path (codes "y") 208 ((arrow
    (codes "g") 209) ∷ [])))))) ∷ part'.Stmt (stmt.Simple (simple.Free (at 212) (var (codes "f") 214))) ∷ part'.Stmt
    (stmt.Break (at 217)) ∷ part'.Stmt (stmt.Continue (at 219)) ∷ part'.Stmt (stmt.Return (at 221) None)
    ∷ part'.Stmt (stmt.Return (at 223) (Some (operand.Path (var (codes "x") 224)))) ∷ part'.Declare (declare.Datums
    (data'.Int (at 226)) (plain (codes "z") 227 ∷ [])) ∷ part'.Declare (declare.Datums (data'.Int (at 229)) (begun
    (codes "w") 230 (rhs.Operand (operand.Path (var (codes "x") 232))) ∷ [])) ∷ []) 234)) ≡ []
none = simp layers refl

-- { f(); g(1, x, NULL, true, false); abort(); }
of_statements : stmt_callees (stmt.Block (block 200 (part'.Stmt (stmt.Simple (simple.Call (call
    (codes "f") 201 []))) ∷ part'.Stmt (stmt.Simple (simple.Call (call (codes "g") 205 ((number (codes "1") 207) ∷
    (operand.Path (var (codes "x") 209)) ∷ (operand.Null (at 211)) ∷ (operand.True (at 213)) ∷ (operand.False
    (at 215)) ∷ [])))) ∷ part'.Stmt (stmt.Simple (simple.Call (call (codes "abort") 218 []))) ∷ []) 222))
    ≡ codes "f" ∷ codes "g" ∷ codes "abort" ∷ []
of_statements = simp layers refl

-- f(g(), x, h(k(1)), m());
given_calls : stmt_callees (stmt.Simple (simple.Call (call (codes "f") 200 ((operand.Call (call (codes "g") 202 []))
    ∷ (operand.Path (var (codes "x") 206)) ∷ (operand.Call (call (codes "h") 208 ((operand.Call (call
    (codes "k") 210 ((number (codes "1") 212) ∷ []))) ∷ []))) ∷ (operand.Call (call (codes "m") 216 [])) ∷ []))))
    ≡ codes "f" ∷ codes "g" ∷ codes "h" ∷ codes "k" ∷ codes "m" ∷ []
given_calls = simp layers refl

-- { x = f(g()); int y = h(), z, w = k(); { struct node *p = m(), *q = n(); } }
of_right_sides : stmt_callees (stmt.Block (block 200 (part'.Stmt (stmt.Simple (simple.Assign (var (codes "x") 201)
    (rhs.Operand (operand.Call (call (codes "f") 203 ((operand.Call (call (codes "g") 205 [])) ∷ []))))))
    ∷ part'.Declare (declare.Datums (data'.Int (at 210)) (begun (codes "y") 211 (rhs.Operand (operand.Call (call
    (codes "h") 213 []))) ∷ plain (codes "z") 217 ∷ begun (codes "w") 219 (rhs.Operand (operand.Call (call
    (codes "k") 221 []))) ∷ [])) ∷ part'.Stmt (stmt.Block (block 225 (part'.Declare (declare.Pointers (at 226) (name
    (codes "node") 227) (begun (codes "p") 229 (rhs.Operand (operand.Call (call (codes "m") 231 []))) ∷ begun
    (codes "q") 236 (rhs.Operand (operand.Call (call (codes "n") 238 []))) ∷ [])) ∷ []) 242)) ∷ []) 243))
    ≡ codes "f" ∷ codes "g" ∷ codes "h" ∷ codes "k" ∷ codes "m" ∷ codes "n" ∷ []
of_right_sides = simp layers refl

-- if (f() == g() && !(h()) || k() != NULL) { m(); } else if (n()) ; else o();
of_conditions : stmt_callees (stmt.If (at 200) (condition (conjunction (test.Compare (operand.Call (call
    (codes "f") 202 [])) true (operand.Call (call (codes "g") 206 [])) ∷ test.Unary (unary.Not (at 210)
    (unary.Bracket (at 211) (condition (conjunction (test.Unary (unary.Operand (operand.Call (call
    (codes "h") 212 []))) ∷ []) ∷ [])))) ∷ []) ∷ conjunction (test.Compare (operand.Call (call
    (codes "k") 217 [])) false (operand.Null (at 221)) ∷ []) ∷ [])) (stmt.Block (block 223 (part'.Stmt (stmt.Simple
    (simple.Call (call (codes "m") 224 []))) ∷ []) 228)) (Some (stmt.If (at 230) (condition (conjunction (test.Unary
    (unary.Operand (operand.Call (call (codes "n") 232 []))) ∷ []) ∷ [])) (stmt.Empty (at 236)) (Some (stmt.Simple
    (simple.Call (call (codes "o") 238 []))))))) ≡ codes "f" ∷ codes "g" ∷ codes "h" ∷ codes "k" ∷ codes "m"
    ∷ codes "n" ∷ codes "o" ∷ []
of_conditions = simp layers refl

-- { while (f()) g(); do h(); while (k()); for (x = m(); n(); x = o()) p(); for (int i = q(); i; r()) { s(); } for
-- (;;) t(); }
of_loops : stmt_callees (stmt.Block (block 200 (part'.Stmt (stmt.While (at 201) (condition (conjunction (test.Unary
    (unary.Operand (operand.Call (call (codes "f") 203 []))) ∷ []) ∷ [])) (stmt.Simple (simple.Call (call
    (codes "g") 207 [])))) ∷ part'.Stmt (stmt.Do (at 211) (stmt.Simple (simple.Call (call (codes "h") 212 [])))
    (condition (conjunction (test.Unary (unary.Operand (operand.Call (call (codes "k") 218 []))) ∷ []) ∷ [])))
    ∷ part'.Stmt (stmt.For (at 223) (first.Simple (simple.Assign (var (codes "x") 225) (rhs.Operand (operand.Call
    (call (codes "m") 227 []))))) (Some (condition (conjunction (test.Unary (unary.Operand (operand.Call (call
    (codes "n") 231 []))) ∷ []) ∷ []))) (Some (simple.Assign (var (codes "x") 235) (rhs.Operand (operand.Call (call
    (codes "o") 237 []))))) (stmt.Simple (simple.Call (call (codes "p") 241 [])))) ∷ part'.Stmt (stmt.For (at 245)
    (first.Declare (declare.Datums (data'.Int (at 247)) (begun (codes "i") 248 (rhs.Operand (operand.Call (call
    (codes "q") 250 []))) ∷ []))) (Some (condition (conjunction (test.Unary (unary.Operand (operand.Path (var
    (codes "i") 254))) ∷ []) ∷ []))) (Some (simple.Call (call (codes "r") 256 []))) (stmt.Block (block 260
    (part'.Stmt (stmt.Simple (simple.Call (call (codes "s") 261 []))) ∷ []) 265))) ∷ part'.Stmt (stmt.For
    (at 266) first.Nothing None None (stmt.Simple (simple.Call (call (codes "t") 271 [])))) ∷ []) 275)) ≡ codes "f"
    ∷ codes "g" ∷ codes "h" ∷ codes "k" ∷ codes "m" ∷ codes "n" ∷ codes "o" ∷ codes "p" ∷ codes "q" ∷ codes "r"
    ∷ codes "s" ∷ codes "t" ∷ []
of_loops = simp layers refl

-- { return f(g()); assert(h()); }
of_ends : stmt_callees (stmt.Block (block 200 (part'.Stmt (stmt.Return (at 201) (Some (operand.Call (call
    (codes "f") 202 ((operand.Call (call (codes "g") 204 [])) ∷ []))))) ∷ part'.Stmt (stmt.Assert (at 209)
    (condition (conjunction (test.Unary (unary.Operand (operand.Call (call (codes "h") 211 []))) ∷ []) ∷ [])))
    ∷ []) 216)) ≡ codes "f" ∷ codes "g" ∷ codes "h" ∷ []
of_ends = simp layers refl

-- a `malloc` is no call
allocated : stmt_callees (stmt.Simple (simple.Assign (var (codes "x") 200) (rhs.Malloc None (at 202) (size.Struct
    (at 204) (name (codes "s") 206))))) ≡ []
allocated = simp layers refl

-- Calls of a file

-- int f(void) { g(); return g(); } void f(int a) { f(); } int main(int b) { f(f(1)); } void g(void) { main();
-- abort(); h(); m(); } int main(void) { g(); } void m(void); The first function of each name counts, and a prototype
-- is none.
abbrev several : List Item
several = item.Function (head (gives.Data (data'.Int (at 200))) (name (codes "f") 201)
    (Some (params.Void (at 203)))) (block 205 (part'.Stmt (stmt.Simple (simple.Call (call (codes "g") 206 [])))
    ∷ part'.Stmt (stmt.Return (at 210) (Some (operand.Call (call (codes "g") 211 [])))) ∷ []) 215) ∷ item.Function
    (head (gives.Void (at 216)) (name (codes "f") 217) (Some (params.List (param.Datum (data'.Int (at 219)) (name
    (codes "a") 220) ∷ [])))) (block 222 (part'.Stmt (stmt.Simple (simple.Call (call (codes "f") 223 [])))
    ∷ []) 227) ∷ item.Function (head (gives.Data (data'.Int (at 228))) (name (codes "main") 229) (Some (params.List
    (param.Datum (data'.Int (at 231)) (name (codes "b") 232) ∷ [])))) (block 234 (part'.Stmt (stmt.Simple
    (simple.Call (call (codes "f") 235 ((operand.Call (call (codes "f") 237 ((number (codes "1") 239) ∷ [])))
    ∷ [])))) ∷ []) 243) ∷ item.Function (head (gives.Void (at 244)) (name (codes "g") 245) (Some (params.Void
    (at 247)))) (block 249 (part'.Stmt (stmt.Simple (simple.Call (call (codes "main") 250 []))) ∷ part'.Stmt
    (stmt.Simple (simple.Call (call (codes "abort") 254 []))) ∷ part'.Stmt (stmt.Simple (simple.Call (call
    (codes "h") 258 []))) ∷ part'.Stmt (stmt.Simple (simple.Call (call (codes "m") 262 []))) ∷ []) 266)
    ∷ item.Function (head (gives.Data (data'.Int (at 267))) (name (codes "main") 268) (Some (params.Void (at 270))))
    (block 272 (part'.Stmt (stmt.Simple (simple.Call (call (codes "g") 273 []))) ∷ []) 277) ∷ item.Proto None (head
    (gives.Void (at 278)) (name (codes "m") 279) (Some (params.Void (at 281)))) ∷ []

numbered : names_of_calls several ≡ codes "f" ∷ codes "g" ∷ codes "main" ∷ []
numbered = refl

-- f calls g twice, g calls main, and main calls f twice
called : calls_of several ≡ (1 ∷ 1 ∷ []) ∷ (2 ∷ []) ∷ (0 ∷ 0 ∷ []) ∷ []
called = simp layers refl

counted : statements_of several ≡ 2 ∷ 4 ∷ 1 ∷ []
counted = simp layers refl

-- void f(void) { f(); } There is no main, and nothing is called by it.
without_main : calls_of (item.Function (head (gives.Void (at 200)) (name (codes "f") 201) (Some (params.Void
    (at 203)))) (block 205 (part'.Stmt (stmt.Simple (simple.Call (call (codes "f") 206 []))) ∷ []) 210) ∷ []) ≡ (0
    ∷ []) ∷ [] ∷ []
without_main = simp layers refl

-- void a(void) { return; } void b(void) { a(); a(); } void c(void) { b(); b(); } int main(void) { c(); return 0; }
-- They weigh 1, 4 and 10, and main 12.
weighed : main_weight (item.Function (head (gives.Void (at 200)) (name (codes "a") 201) (Some (params.Void
    (at 203)))) (block 205 (part'.Stmt (stmt.Return (at 206) None) ∷ []) 208) ∷ item.Function (head (gives.Void
    (at 209)) (name (codes "b") 210) (Some (params.Void (at 212)))) (block 214 (part'.Stmt (stmt.Simple (simple.Call
    (call (codes "a") 215 []))) ∷ part'.Stmt (stmt.Simple (simple.Call (call (codes "a") 219 []))) ∷ []) 223)
    ∷ item.Function (head (gives.Void (at 224)) (name (codes "c") 225) (Some (params.Void (at 227)))) (block 229
    (part'.Stmt (stmt.Simple (simple.Call (call (codes "b") 230 []))) ∷ part'.Stmt (stmt.Simple (simple.Call (call
    (codes "b") 234 []))) ∷ []) 238) ∷ item.Function (head (gives.Data (data'.Int (at 239))) (name
    (codes "main") 240) (Some (params.Void (at 242)))) (block 244 (part'.Stmt (stmt.Simple (simple.Call (call
    (codes "c") 245 []))) ∷ part'.Stmt (stmt.Return (at 249) (Some (number (codes "0") 250))) ∷ []) 252) ∷ []) ≡ 12
weighed = simp layers refl

-- int f(void) { return 0; } int main(void) { int x = f(), y = f(); for (x = f(); x; y = f()) ; if (x) { ; } } There
-- are six statements of main, and four calls: a declaration of two calls is one statement, and calls in the head of a
-- `for` are none.
weighed_in_heads : main_weight (item.Function (head (gives.Data (data'.Int (at 200))) (name (codes "f") 201) (Some
    (params.Void (at 203)))) (block 205 (part'.Stmt (stmt.Return (at 206) (Some (number (codes "0") 207)))
    ∷ []) 209) ∷ item.Function (head (gives.Data (data'.Int (at 210))) (name (codes "main") 211) (Some (params.Void
    (at 213)))) (block 215 (part'.Declare (declare.Datums (data'.Int (at 216)) (begun (codes "x") 217 (rhs.Operand
    (operand.Call (call (codes "f") 219 []))) ∷ begun (codes "y") 223 (rhs.Operand (operand.Call (call
    (codes "f") 225 []))) ∷ [])) ∷ part'.Stmt (stmt.For (at 229) (first.Simple (simple.Assign (var (codes "x") 231)
    (rhs.Operand (operand.Call (call (codes "f") 233 []))))) (Some (condition (conjunction (test.Unary
    (unary.Operand (operand.Path (var (codes "x") 237))) ∷ []) ∷ []))) (Some (simple.Assign (var (codes "y") 239)
    (rhs.Operand (operand.Call (call (codes "f") 241 []))))) (stmt.Empty (at 245))) ∷ part'.Stmt (stmt.If (at 246)
    (condition (conjunction (test.Unary (unary.Operand (operand.Path (var (codes "x") 248))) ∷ []) ∷ []))
    (stmt.Block (block 250 (part'.Stmt (stmt.Empty (at 251)) ∷ []) 252)) None) ∷ []) 253) ∷ []) ≡ 10
weighed_in_heads = simp layers refl
