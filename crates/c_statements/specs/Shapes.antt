-- What the functions of statements and items read: rules, with the signs that can continue them.
use Rattle.std.specs.Prelude.{Bool, true, false, List, Option}
use Rattle.fore_base.specs.declared.place.Place.{Place}
use Rattle.c_ast.specs.declared.conditions.Cond.{Cond}
use Rattle.c_ast.specs.declared.operands.Name.{Name}
use Rattle.c_ast.specs.declared.operands.Operand.{Operand}
use Rattle.c_ast.specs.declared.simples.Rhs.{Rhs}
use Rattle.c_ast.specs.declared.simples.Simple.{Simple}
use Rattle.c_ast.specs.declared.statements.Block.{Block}
use Rattle.c_ast.specs.declared.statements.Data.{Data}
use Rattle.c_ast.specs.declared.statements.Data.TheVariants as data'
use Rattle.c_ast.specs.declared.statements.Declarator.{Declarator}
use Rattle.c_ast.specs.declared.statements.Declare.{Declare}
use Rattle.c_ast.specs.declared.statements.First.{First}
use Rattle.c_ast.specs.declared.statements.First.TheVariants as first'
use Rattle.c_ast.specs.declared.statements.Part as part
use Rattle.c_ast.specs.declared.statements.Part.TheVariants as part'
use Rattle.c_ast.specs.declared.statements.Stmt.{Stmt}
use Rattle.c_ast.specs.declared.statements.Stmt.TheVariants as stmt'
use Rattle.c_lexer.specs.declared.token.Token.{Token}
use Rattle.c_grammar.specs.Grammar.{Rule, token, empty, ◌then◌, ◌or◌, Many, Made}
use Rattle.c_grammar.specs.Signs.{or_on}
use Rattle.c_grammar.specs.Syntax as s
use Rattle.c_grammar.specs.declared.signs.Sign.{Sign}
use Rattle.c_grammar.specs.declared.signs.Sign.TheVariants as sign
use Rattle.c_grammar.specs.words.Parted.{declarator_goes_on, declarators_go_on, begins_part, begins_level}
use Rattle.c_grammar.specs.words.Parted.{simple_goes_on, maybe_cond_goes_on, for_head, star_declarator}
use Rattle.c_grammar.specs.words.Sets.{no_sign, elses, operand_goes_on, begins_nested}
use Rattle.c_grammar.specs.words.Sets.{begins_operand}
use Rattle.c_grammar.specs.words.Shapes.{Shape, plain_shape, continued_shape, barred_shape}

-- a word, and a name behind it
abbrev pub read_named : Sign → Shape (Place × Name)
read_named word = plain_shape (λ n. s.at word then s.name)

abbrev pub read_int_data : Shape Data
read_int_data = plain_shape (λ n. Made data'.Int (s.at sign.Int))

abbrev pub read_enum_data : Shape Data
read_enum_data = plain_shape (λ n. Made s.enum_of (s.at sign.Enum then s.name))

abbrev pub read_data : Shape Data
read_data = plain_shape (λ n. s.data_part)

abbrev pub read_initial : Shape Rhs
read_initial = continued_shape operand_goes_on (λ n. s.behind sign.Assign (s.rhs n))

abbrev pub read_maybe_from : Shape (Option Rhs)
read_maybe_from = continued_shape declarator_goes_on (λ n. s.optional (s.behind sign.Assign (s.rhs n)))

abbrev pub read_declarator : Shape Declarator
read_declarator = continued_shape declarator_goes_on s.declarator

-- a declarator with what it starts with, behind a star where pointers are declared
abbrev pub init_declarator : Bool → Rule Declarator
init_declarator true = star_declarator
init_declarator false = s.declarator

abbrev pub read_init_declarator : Bool → Shape Declarator
read_init_declarator starred = continued_shape declarator_goes_on (init_declarator starred)

abbrev pub read_next_declarator : Bool → Shape Declarator
read_next_declarator starred =
    continued_shape declarator_goes_on (λ n. s.behind sign.Comma (init_declarator starred n))

abbrev pub read_more_declarators : Bool → Shape (List Declarator)
read_more_declarators starred =
    continued_shape declarators_go_on (λ n. Many (s.behind sign.Comma (init_declarator starred n)))

abbrev pub read_declarators : Bool → Shape (List Declarator)
read_declarators starred = continued_shape declarators_go_on (λ n. s.series sign.Comma (init_declarator starred n))

abbrev pub read_pointer_declare : Shape Declare
read_pointer_declare =
    plain_shape (λ n. Made s.pointers_of (s.at sign.Struct then s.name then s.series sign.Comma (star_declarator n) then
    token sign.Semicolon))

abbrev pub read_datum_declare : Shape Declare
read_datum_declare =
    plain_shape (λ n. Made s.datums_of (s.data_part then s.series sign.Comma (s.declarator n)
    then token sign.Semicolon))

abbrev pub read_declare : Shape Declare
read_declare = plain_shape s.declare

abbrev pub read_empty : Shape Stmt
read_empty = plain_shape (λ n. Made stmt'.Empty (s.at sign.Semicolon))

abbrev pub read_simple_stmt : Shape Stmt
read_simple_stmt = plain_shape (λ n. Made s.simple_of (s.simple n then token sign.Semicolon))

abbrev pub read_maybe_operand : Shape (Option Operand)
read_maybe_operand = continued_shape (λ x. or_on (operand_goes_on x) (begins_operand x)) (λ n. s.optional (s.operand n))

abbrev pub read_return_stmt : Shape Stmt
read_return_stmt =
    plain_shape (λ n. Made s.return_of (s.at sign.Return then s.optional (s.operand n) then token sign.Semicolon))

-- a word, and a semicolon behind it
abbrev pub read_ended : Sign → Shape Place
read_ended word = plain_shape (λ n. Made s.first (s.at word then token sign.Semicolon))

abbrev pub read_assert_stmt : Shape Stmt
read_assert_stmt =
    plain_shape (λ n. Made s.assert_of (s.at sign.Assert then s.bracketed (s.cond n) then token sign.Semicolon))

abbrev pub read_flat : Shape Stmt
read_flat = plain_shape s.flat_stmt

abbrev pub read_first_declare : Shape First
read_first_declare = plain_shape (λ n. Made first'.Declare (s.declare n))

abbrev pub read_maybe_first : Shape First
read_maybe_first = continued_shape simple_goes_on (λ n. Made first'.Simple (s.simple n) or empty first'.Nothing)

abbrev pub read_first_simple : Shape First
read_first_simple =
    plain_shape (λ n. Made s.first ((Made first'.Simple (s.simple n) or empty first'.Nothing)
    then token sign.Semicolon))

abbrev pub read_first : Shape First
read_first = plain_shape (λ n. s.first_part (s.declare n) (s.simple n))

abbrev pub read_maybe_cond : Shape (Option Cond)
read_maybe_cond = record
    { rule = λ n. s.optional (s.cond n); cont = maybe_cond_goes_on; bars = no_sign; heads = begins_nested }

abbrev pub read_maybe_simple : Shape (Option Simple)
read_maybe_simple = continued_shape simple_goes_on (λ n. s.optional (s.simple n))

abbrev pub read_stmt : Shape Stmt
read_stmt = record { rule = s.stmt; cont = no_sign; bars = elses; heads = begins_level }

-- a word, and a condition in brackets behind it
abbrev pub read_tested : Sign → Shape (Place × Cond)
read_tested word = plain_shape (λ n. s.at word then s.bracketed (s.cond n))

abbrev pub read_for_head : Shape (Place × First × Option Cond × Option Simple)
read_for_head = plain_shape for_head

abbrev pub read_do_tail : Shape Cond
read_do_tail =
    plain_shape (λ n. Made (λ (q : Token × (Cond × Token)). q.1.0) (token sign.While then s.bracketed (s.cond n)
    then token sign.Semicolon))

abbrev pub read_part : Shape part.Part
read_part =
    record {
      rule = λ n. Made part'.Declare (s.declare n) or Made part'.Stmt (s.stmt n);
      cont = no_sign;
      bars = elses;
      heads = begins_level;
    }

abbrev pub read_parts : Shape (List part.Part)
read_parts =
    record {
      rule = λ n. Many (Made part'.Declare (s.declare n) or Made part'.Stmt (s.stmt n));
      cont = begins_part;
      bars = elses;
      heads = begins_level;
    }

abbrev pub read_block : Shape Block
read_block = barred_shape elses s.inner_block

abbrev pub read_other : Shape (Option Stmt)
read_other = barred_shape elses (λ n. s.other_part (s.stmt n))

abbrev pub read_if_stmt : Shape Stmt
read_if_stmt =
    barred_shape elses (λ n. Made s.if_of (s.at sign.If then s.bracketed (s.cond n) then s.stmt n then s.other_part
    (s.stmt n)))

abbrev pub read_while_stmt : Shape Stmt
read_while_stmt = barred_shape elses (λ n. Made s.while_of (s.at sign.While then s.bracketed (s.cond n) then s.stmt n))

abbrev pub read_do_stmt : Shape Stmt
read_do_stmt =
    barred_shape elses (λ n. Made s.do_of (s.at sign.Do then s.stmt n then token sign.While then s.bracketed (s.cond n)
    then token sign.Semicolon))

abbrev pub read_for_stmt : Shape Stmt
read_for_stmt =
    barred_shape elses (λ n. Made s.for_of (s.at sign.For then token sign.Open then s.first_part (s.declare n)
    (s.simple n) then s.optional (s.cond n) then token sign.Semicolon then s.optional (s.simple n) then token sign.Close
    then s.stmt n))

abbrev pub read_nested : Shape Stmt
read_nested = barred_shape elses (λ n. s.nested_stmt (s.declare n) (s.simple n) (s.cond n) (s.stmt n))

abbrev pub read_block_stmt : Shape Stmt
read_block_stmt = barred_shape elses (λ n. Made stmt'.Block (s.inner_block n))
