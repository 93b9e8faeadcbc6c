-- What stands first in the head of a `for` ends with a semicolon, and so with no name.
use Rattle.std.proofs.Common.{refl}
use Rattle.c_ast.specs.declared.statements.First.TheVariants as first'
use Rattle.c_grammar.specs.Syntax as s
use Rattle.c_grammar.specs.Syntax.{first, first_part, declare, simple}
use Rattle.c_grammar.specs.declared.signs.Sign.TheVariants as sign
use Rattle.c_grammar.proofs.Endings.{Ends, ends_one, ends_made, ends_either, ends_pair}
use Rattle.c_grammar.proofs.Goods.{good_at, good_name}
use Rattle.c_grammar.proofs.Statements.{good_data, good_pointers, good_datums, good_maybe_first}

ends_declare : Ends declare
ends_declare = ends_either
    (ends_made s.pointers_of
    (ends_pair (good_at sign.Struct) (ends_pair good_name (ends_pair good_pointers (ends_one sign.Semicolon refl)))))
    (ends_made s.datums_of (ends_pair good_data (ends_pair good_datums (ends_one sign.Semicolon refl))))

pub ends_first : Ends (λ n. first_part (declare n) (simple n))
ends_first = ends_either (ends_made first'.Declare ends_declare)
    (ends_made first (ends_pair good_maybe_first (ends_one sign.Semicolon refl)))
