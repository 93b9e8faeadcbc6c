-- What the functions of statements and items read: rules, with the signs that can continue them.
use Rattle.c_ast.specs.declared.conditions.Cond.{Cond}
use Rattle.c_grammar.specs.Syntax as s
use Rattle.c_grammar.specs.words.Shapes.{Shape, plain_shape}

abbrev pub read_closed_cond : Shape Cond
read_closed_cond = plain_shape (λ n. s.bracketed (s.cond n))
