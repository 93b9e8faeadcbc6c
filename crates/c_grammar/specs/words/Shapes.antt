-- What the parser's functions read: rules, with the signs that can continue them.
use Rattle.fore_base.specs.declared.place.Place.{Place}
use Rattle.std.specs.Prelude.{◌≡◌, ◌⊎◌, ℕ, true, false, Bool, List, [], ◌∷◌}
use Rattle.c_ast.specs.declared.conditions.And.{And}
use Rattle.c_ast.specs.declared.conditions.Cond.{Cond}
use Rattle.c_ast.specs.declared.conditions.Test.{Test}
use Rattle.c_ast.specs.declared.conditions.Unary.{Unary}
use Rattle.c_ast.specs.declared.operands.Arrow.{Arrow}
use Rattle.c_ast.specs.declared.operands.Name.{Name}
use Rattle.c_ast.specs.declared.operands.Operand.{Operand}
use Rattle.c_ast.specs.declared.operands.Path.{Path}
use Rattle.c_lexer.specs.declared.token.Token.{Token}
use Rattle.c_grammar.specs.Grammar.{Rule, Many, empty, ◌or◌}
use Rattle.c_grammar.specs.Signs.{sign_of, sign_at}
use Rattle.c_grammar.specs.words.Sets.{Signs, begins_nested, no_sign, test_goes_on, and_goes_on, cond_goes_on, arrows}
use Rattle.c_grammar.specs.words.Sets.{operand_goes_on, operands_go_on, arguments_go_on}
use Rattle.c_grammar.specs.Syntax as syntax
use Rattle.c_grammar.specs.declared.signs.Sign.TheVariants as sign
use Rattle.c_grammar.specs.declared.fault.SyntaxFault.{SyntaxFault}
use Rattle.c_grammar.specs.declared.fault.SyntaxFault.TheVariants.{Syntax, Deep}
use Rattle.c_grammar.specs.Hopeless.{place_at}

pub record Shape (X : Type 0) : Type 1 where
  pub rule : Rule X
  pub cont : Signs
  pub bars : Signs
  pub heads : Signs

-- a rule that nothing continues; one that these signs can continue; and one that they may not follow
abbrev pub plain_shape : {X : Type 0} → Rule X → Shape X
plain_shape A = record { rule = A; cont = no_sign; bars = no_sign; heads = no_sign }

abbrev pub continued_shape : {X : Type 0} → Signs → Rule X → Shape X
continued_shape cont A = record { rule = A; cont = cont; bars = no_sign; heads = no_sign }

abbrev pub barred_shape : {X : Type 0} → Signs → Rule X → Shape X
barred_shape bars A = record { rule = A; cont = no_sign; bars = bars; heads = no_sign }

-- a name is one token
abbrev pub IsName : List Token → List Token → Name → Type 0
IsName ts rest x = (t : Token) × (ts ≡ t ∷ rest) × (sign_of t ≡ sign.Id) × (x ≡ syntax.name_of t)

abbrev pub a_name : Shape Name
a_name = plain_shape (λ n. syntax.name)

abbrev pub an_arrow : Shape Arrow
an_arrow = plain_shape (λ n. syntax.arrow)

abbrev pub some_arrows : Shape (List Arrow)
some_arrows = continued_shape arrows (λ n. Many syntax.arrow)

abbrev pub a_path : Shape Path
a_path = continued_shape arrows (λ n. syntax.path)

-- operands of a call
abbrev pub an_argument : Shape Operand
an_argument = continued_shape operand_goes_on syntax.argument

abbrev pub next_argument : Shape Operand
next_argument = continued_shape operand_goes_on (λ n. syntax.behind sign.Comma (syntax.argument n))

abbrev pub more_arguments : Shape (List Operand)
more_arguments =
    continued_shape operands_go_on (λ n. Many (syntax.behind sign.Comma (syntax.argument n)))

abbrev pub some_arguments : Shape (List Operand)
some_arguments = continued_shape arguments_go_on (λ n. syntax.series sign.Comma (syntax.argument n) or empty [])

abbrev pub all_arguments : Shape (List Operand)
all_arguments = plain_shape (λ n. syntax.arguments (syntax.argument n))

abbrev pub an_operand : Shape Operand
an_operand = continued_shape operand_goes_on syntax.operand

abbrev pub a_literal : Shape Operand
a_literal = plain_shape (λ n. syntax.literal_part)

-- conditions
abbrev pub a_comparison : Shape Test
a_comparison = continued_shape test_goes_on (λ n. syntax.compared_part (syntax.operand n))

abbrev pub two_sides : Shape Bool
two_sides = plain_shape (λ n. syntax.sides)

abbrev pub an_inner_unary : Shape Unary
an_inner_unary = continued_shape operand_goes_on syntax.inner_unary

-- a level that begins with one of these signs may not be opened here: none stands here, or none is left
abbrev pub StaysOut : Signs → ℕ → Place → List Token → SyntaxFault → Type 0
StaysOut begins n end ts e = ((e ≡ Syntax (place_at end ts)) × (begins (sign_at ts) ≡ false))
    ⊎ ((e ≡ Deep (place_at end ts)) × (n ≡ 0) × (begins (sign_at ts) ≡ true))

abbrev pub a_unary : Shape Unary
a_unary = record { rule = syntax.unary; cont = operand_goes_on; bars = no_sign; heads = begins_nested }

abbrev pub a_test : Shape Test
a_test =
    record {
      rule = λ n. syntax.test_with (syntax.operand n) (syntax.unary n);
      cont = test_goes_on;
      bars = no_sign;
      heads = begins_nested;
    }

abbrev pub next_test : Shape Test
next_test =
    continued_shape test_goes_on (λ n. syntax.behind sign.And (syntax.test_with (syntax.operand n) (syntax.unary n)))

abbrev pub some_tests : Shape (List Test)
some_tests =
    record {
      rule = λ n. syntax.series sign.And (syntax.test_with (syntax.operand n) (syntax.unary n));
      cont = and_goes_on;
      bars = no_sign;
      heads = begins_nested;
    }

abbrev pub next_and : Shape And
next_and =
    continued_shape and_goes_on (λ n. syntax.behind sign.Or (syntax.and_with (syntax.operand n) (syntax.unary n)))

abbrev pub some_ands : Shape (List And)
some_ands =
    record {
      rule = λ n. syntax.series sign.Or (syntax.and_with (syntax.operand n) (syntax.unary n));
      cont = cond_goes_on;
      bars = no_sign;
      heads = begins_nested;
    }

abbrev pub a_cond : Shape Cond
a_cond = record { rule = syntax.cond; cont = cond_goes_on; bars = no_sign; heads = begins_nested }
