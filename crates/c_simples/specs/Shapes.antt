-- What the functions of statements and items read: rules, with the signs that can continue them.
use Rattle.std.specs.Prelude.{List, Option}
use Rattle.std.proofs.Common.{inl, inr}
use Rattle.fore_base.specs.declared.place.Place.{Place}
use Rattle.c_ast.specs.declared.operands.Arrow.{Arrow}
use Rattle.c_ast.specs.declared.operands.Name.{Name}
use Rattle.c_ast.specs.declared.operands.Operand.{Operand}
use Rattle.c_ast.specs.declared.operands.Path.{Path}
use Rattle.c_ast.specs.declared.simples.Cast.{Cast}
use Rattle.c_ast.specs.declared.simples.Rhs.{Rhs}
use Rattle.c_ast.specs.declared.simples.Rhs.TheVariants as rhs'
use Rattle.c_ast.specs.declared.simples.Simple.{Simple}
use Rattle.c_ast.specs.declared.simples.Size.{Size}
use Rattle.c_ast.specs.declared.simples.Size.TheVariants as size'
use Rattle.c_lexer.specs.declared.token.Token.{Token}
use Rattle.c_grammar.specs.Grammar.{token, ◌then◌, Many, Made}
use Rattle.c_grammar.specs.Syntax as s
use Rattle.c_grammar.specs.declared.signs.Sign.TheVariants as sign
use Rattle.c_grammar.specs.words.Parted.{Inside, inside_part, Sized, sized_part, size_of, After, after_part}
use Rattle.c_grammar.specs.words.Parted.{simple_word}
use Rattle.c_grammar.specs.words.Sets.{arrows, opens, operand_goes_on}
use Rattle.c_grammar.specs.words.Shapes.{Shape, plain_shape, continued_shape}

abbrev pub read_closed_path : Shape Path
read_closed_path = plain_shape (λ n. s.bracketed s.path)

-- a star, and a path behind it
abbrev pub read_starred : Shape (Place × Path)
read_starred = continued_shape arrows (λ n. s.at sign.Star then s.path)

abbrev pub read_struct_size : Place → Shape Size
read_struct_size at =
    plain_shape (λ n. Made (λ (x : Name). size'.Struct at x) (s.behind sign.Struct s.name))

abbrev pub read_size_inside : Place → Shape Size
read_size_inside at = continued_shape arrows (λ n. Made (λ (i : Inside). size_of (at, inl i)) inside_part)

abbrev pub read_closed_size_inside : Place → Shape Size
read_closed_size_inside at = plain_shape (λ n. Made (λ (i : Inside). size_of (at, inl i)) (s.bracketed inside_part))

abbrev pub read_sized : Place → Shape Size
read_sized at = continued_shape arrows (λ n. Made (λ (v : Sized). size_of (at, v)) sized_part)

abbrev pub read_size : Shape Size
read_size = continued_shape arrows (λ n. s.size)

abbrev pub read_closed_size : Shape Size
read_closed_size = plain_shape (λ n. s.bracketed s.size)

abbrev pub read_cast : Shape Cast
read_cast = plain_shape (λ n. s.cast)

abbrev pub read_maybe_cast : Shape (Option Cast)
read_maybe_cast = continued_shape opens (λ n. s.optional s.cast)

abbrev pub read_malloc : Shape Rhs
read_malloc = plain_shape (λ n. Made s.malloc_of (s.optional s.cast then s.at sign.Malloc then s.bracketed s.size))

abbrev pub read_operand_rhs : Shape Rhs
read_operand_rhs = continued_shape operand_goes_on (λ n. Made rhs'.Operand (s.operand n))

abbrev pub read_rhs : Shape Rhs
read_rhs = continued_shape operand_goes_on s.rhs

abbrev pub read_called_simple : Name → Shape Simple
read_called_simple name =
    plain_shape (λ n. Made (λ (os : List Operand). simple_word (name, inl os)) (s.arguments (s.argument n)))

abbrev pub read_assigned : Name → Shape Simple
read_assigned name =
    continued_shape operand_goes_on (λ n. Made (λ (q : List Arrow × (Token × Rhs)). simple_word (name, inr q))
    (Many s.arrow then token sign.Assign then s.rhs n))

abbrev pub read_after_name : Name → Shape Simple
read_after_name name =
    continued_shape operand_goes_on (λ n. Made (λ (a : After). simple_word (name, a)) (after_part (s.arguments
    (s.argument n)) (s.rhs n)))

abbrev pub read_word_simple : Shape Simple
read_word_simple =
    continued_shape operand_goes_on (λ n. Made simple_word (s.name then after_part (s.arguments (s.argument n))
    (s.rhs n)))

abbrev pub read_free : Shape Simple
read_free = plain_shape (λ n. Made s.free_of (s.at sign.Free then s.bracketed s.path))

abbrev pub read_simple : Shape Simple
read_simple = continued_shape operand_goes_on s.simple
