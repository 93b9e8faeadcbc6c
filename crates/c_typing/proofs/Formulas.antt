-- Induction over conditions and their parts: a fact for each kind of tree, given the facts for its parts.
use Rattle.std.proofs.Common.{Bool, List, [], ◌∷◌, map, sym, subst}
use Rattle.fore_base.specs.Lists.{Every}
use Rattle.fore_base.specs.declared.place.Place.{Place}
use Rattle.c_ast.specs.declared.conditions.And.{And, roll-And}
use Rattle.c_ast.specs.declared.conditions.Cond.{Cond, roll-Cond, ind-Cond}
use Rattle.c_ast.specs.declared.conditions.Test.{Test, Test-F, roll-Test, map-Test}
use Rattle.c_ast.specs.declared.conditions.Test.TheOpen as layer
use Rattle.c_ast.specs.declared.conditions.Test.TheVariants as test
use Rattle.c_ast.specs.declared.conditions.Unary.{Unary, Unary-F, roll-Unary, map-Unary}
use Rattle.c_ast.specs.declared.conditions.Unary.TheVariants as unary
use Rattle.c_ast.specs.declared.operands.Operand.{Operand}

pub record CondCases (T : Test → Type 0) (U : Unary → Type 0) (A : And → Type 0) (C : Cond → Type 0) : Type 0 where
  pub of_Compare : (l : Operand) (e : Bool) (r : Operand) → T (test.Compare l e r)
  pub of_Unary : (u : Unary) → U u → T (test.Unary u)
  pub of_Not : (at : Place) (u : Unary) → U u → U (unary.Not at u)
  pub of_Bracket : (at : Place) (c : Cond) → C c → U (unary.Bracket at c)
  pub of_Operand : (o : Operand) → U (unary.Operand o)
  pub of_tests : (tests : List Test) → Every T tests → A (roll-And (record { tests = tests }))
  pub of_ands : (ands : List And) → Every A ands → C (roll-Cond (record { ands = ands }))

module _ (T : Test → Type 0) (U : Unary → Type 0) (A : And → Type 0) (C : Cond → Type 0) (cases : CondCases T U A C)
  where
    abbrev TestHeld : Type 0
    TestHeld = (t : Test) × T t

    abbrev UnaryHeld : Type 0
    UnaryHeld = (u : Unary) × U u

    abbrev AndHeld : Type 0
    AndHeld = (a : And) × A a

    abbrev CondHeld : Type 0
    CondHeld = (c : Cond) × C c

    tests_held : (ts : List TestHeld) → Every T (map (λ e. e.0) ts)
    tests_held [] = tt
    tests_held (t ∷ ts) = (t.1, tests_held ts)

    ands_held : (xs : List AndHeld) → Every A (map (λ e. e.0) xs)
    ands_held [] = tt
    ands_held (x ∷ xs) = (x.1, ands_held xs)

    test_layer : (y : Test-F TestHeld UnaryHeld AndHeld CondHeld)
        → T
        (roll-Test
        (map-Test TestHeld UnaryHeld AndHeld CondHeld Test Unary And Cond (λ e. e.0) (λ e. e.0) (λ e. e.0) (λ e. e.0)
        y))
    test_layer (layer.Compare l e r) = subst T (sym (test.rolls-Compare l e r)) (cases.of_Compare l e r)
    test_layer (layer.Unary u) = subst T (sym (test.rolls-Unary u.0)) (cases.of_Unary u.0 u.1)

    unary_layer : (y : Unary-F TestHeld UnaryHeld AndHeld CondHeld)
        → U
        (roll-Unary
        (map-Unary TestHeld UnaryHeld AndHeld CondHeld Test Unary And Cond (λ e. e.0) (λ e. e.0) (λ e. e.0) (λ e. e.0)
        y))
    unary_layer (layer.Not at u) = subst U (sym (unary.rolls-Not at u.0)) (cases.of_Not at u.0 u.1)
    unary_layer (layer.Bracket at c) = subst U (sym (unary.rolls-Bracket at c.0)) (cases.of_Bracket at c.0 c.1)
    unary_layer (layer.Operand o) = subst U (sym (unary.rolls-Operand o)) (cases.of_Operand o)

    pub cond_holds : (c : Cond) → C c
    cond_holds = ind-Cond T U A C
        (λ x y is. subst (λ z. T (roll-Test z)) is (test_layer y))
        (λ x y is. subst (λ z. U (roll-Unary z)) is (unary_layer y))
        (λ x y is. subst (λ z. A (roll-And z)) is (cases.of_tests (map (λ e. e.0) y.tests) (tests_held y.tests)))
        (λ x y is. subst (λ z. C (roll-Cond z)) is (cases.of_ands (map (λ e. e.0) y.ands) (ands_held y.ands)))
