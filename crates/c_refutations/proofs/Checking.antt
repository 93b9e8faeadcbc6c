-- What wrong bodies of the checker would answer, refused by the words of their contracts. Each token has a number,
-- which is its offset, its line and its column.
use Rattle.std.proofs.Common.{◌≡◌, ap, subst, refl, ℕ, false, true≢false, List, [], ◌∷◌, length, inl, inr, Some}
use Rattle.std.proofs.Common.{None, codes, arith}
use Rattle.fore_base.specs.Lists.{IsIn, Every}
use Rattle.c_ast.specs.declared.items.Item.TheVariants as item
use Rattle.c_ast.specs.declared.items.Param.TheVariants as param
use Rattle.c_ast.specs.declared.items.Params.TheVariants as params
use Rattle.c_ast.specs.declared.items.ReturnType.TheVariants as gives
use Rattle.c_ast.specs.declared.items.Unit as whole
use Rattle.c_ast.specs.declared.simples.Rhs.TheVariants as rhs
use Rattle.c_ast.specs.declared.simples.Simple.TheVariants as simple
use Rattle.c_ast.specs.declared.statements.Data.TheVariants as data'
use Rattle.c_ast.specs.declared.statements.Part.TheVariants as part'
use Rattle.c_ast.specs.declared.statements.Stmt.TheVariants as stmt
use Rattle.c_calls.specs.Calls.{leads_within}
use Rattle.c_typing.specs.Orders.{before}
use Rattle.c_typing.specs.Scopes.{declared_so_far, empty_scope, past_item}
use Rattle.c_typing.specs.Typing.{IsFirstFault, breaches, or_else, overweight, site_breaches}
use Rattle.c_typing.specs.declared.fault.TypeFault.{TypeFault}
use Rattle.c_typing.specs.declared.fault.TypeFault.TheVariants.{Rule, Limit}
use Rattle.c_typing.proofs.Layers.{layers}
use Rattle.c_typing.proofs.Rows.Forms.{at, name, var, number, block, head, unit, file}

-- int f(int a);
-- The parameter of the prototype, declared as that of a function: it is among the data of the program.
parameter_of_a_prototype :
    record { home = None; blocks = []; vars = []; data_vars = codes "a" ∷ [] }
    ≡ past_item file
    (item.Proto None
    (head (gives.Data (data'.Int (at 200))) (name (codes "f") 201)
    (Some (params.List (param.Datum (data'.Int (at 203)) (name (codes "a") 204) ∷ []))))) empty_scope → ⊥
parameter_of_a_prototype e = omega (arith, ap declared_so_far e)

-- void a(void) { } void b(void) { a(); a(); } int main(void) { b(); return 0; }
abbrev stairs : List (List ℕ)
stairs = [] ∷ (0 ∷ 0 ∷ []) ∷ (1 ∷ []) ∷ []

-- Whether `main`, of the number 2, leads to `a`, of the number 0, by calls that are followed the other way: no, since
-- `a` calls nothing.
calls_the_other_way : false ≡ leads_within stairs (length stairs) 2 0 → ⊥
calls_the_other_way e = cc e

-- A file breaks a rule at 7. The answer of a body that weighs `main`, whose name is at 1, all the same, and finds it
-- too heavy: the limit, which is the earlier.
weighed_though_broken : (u : whole.Unit) → site_breaches u ≡ Rule 15 (at 7) ∷ []
    → IsFirstFault u (Limit 9 (at 1)) → ⊥
unfolding breaches
weighed_though_broken u broken first =
    elim (subst (λ (es : List TypeFault). IsIn (Limit 9 (at 1)) (or_else es (overweight u))) broken first.0)
    [ inl e ↦ (let q : Limit 9 (at 1) ≡ Rule 15 (at 7) = e in cc) | inr i ↦ i ]

-- int main(void) { } int main(void) { x = 1; }
-- A tree may have any places: here that of `x` is before all others.
abbrev two_mains : whole.Unit
two_mains = unit
    (item.Function (head (gives.Data (data'.Int (at 200))) (name (codes "main") 201) (Some (params.Void (at 203))))
    (block 205 [] 206)
    ∷ item.Function (head (gives.Data (data'.Int (at 207))) (name (codes "main") 208) (Some (params.Void (at 210))))
    (block 212
    (part'.Stmt (stmt.Simple (simple.Assign (var (codes "x") 1) (rhs.Operand (number (codes "1") 215)))) ∷ []) 217)
    ∷ []) 218

its_faults : breaches two_mains ≡ Rule 5 (at 208) ∷ Rule 3 (at 1) ∷ []
unfolding breaches site_breaches
its_faults = simp layers refl

-- The answer of a body that passes over that of the second `main`: the second `main`.
body_passed_over : IsFirstFault two_mains (Rule 5 (at 208)) → ⊥
body_passed_over first =
    let every = subst (λ (es : List TypeFault). Every (λ f. before f (Rule 5 (at 208)) ≡ false) es) its_faults first.1
    in true≢false every.1.0
