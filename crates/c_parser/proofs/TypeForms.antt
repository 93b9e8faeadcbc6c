-- The types that a function can return, and the two forms of parameters, by their first token.
use Rattle.std.proofs.Common.{ℕ, false, List, [], ◌∷◌, refl}
use Rattle.c_ast.specs.declared.items.ReturnType.{ReturnType}
use Rattle.c_ast.specs.declared.items.ReturnType.TheVariants as return'
use Rattle.c_lexer.specs.declared.token.Token.{Token}
use Rattle.c_grammar.specs.Grammar.{Rule}
use Rattle.c_grammar.specs.Items as i
use Rattle.c_grammar.specs.Signs.{sign_at}
use Rattle.c_grammar.specs.declared.signs.Sign.TheVariants as sign
use Rattle.c_grammar.specs.words.Parted.{begins_data}
use Rattle.c_grammar.specs.words.Sets.{Signs, among, no_sign}
use Rattle.c_parser.specs.inner.Shapes.{read_datum_param, read_pointer_param, read_rtype}
use Rattle.c_grammar.proofs.Carrying.{Carries}
use Rattle.c_grammar.proofs.Goods.{good_one, good_at, good_name}
use Rattle.c_grammar.proofs.Parts.{good_made}
use Rattle.c_grammar.proofs.Rules.{Good}
use Rattle.c_grammar.proofs.Statements.{good_data}
use Rattle.c_grammar.proofs.Steps.{good_chain}
use Rattle.c_statements.proofs.Alternatives.{Alternatives, Picks, picked}
use Rattle.c_statements.proofs.Alternatives.Alternatives.{last, before}

abbrev pub structs : Signs
structs = among (sign.Struct ∷ [])

-- the types, as the grammar has them one after another
abbrev pub types : Alternatives ReturnType no_sign
types =
    before (good_made (good_at sign.Void) return'.Void)
    (before (good_made good_data return'.Data)
    (last
    (good_made (good_chain (good_at sign.Struct) (good_chain good_name (good_one sign.Star) refl) refl)
    i.return_pointer_of)))

-- what the type reads that the next token begins, is read as a type
pub at_type : {A : Rule ReturnType} {n : ℕ} {ts : List Token} → Picks (sign_at ts) A types
    → Carries A no_sign no_sign read_rtype.rule no_sign no_sign n ts
at_type p = picked refl types refl p

pub good_pointer_param : Good read_pointer_param.rule structs no_sign no_sign false
good_pointer_param = good_made
    (good_chain (good_at sign.Struct)
    (good_chain good_name (good_chain (good_one sign.Star) good_name refl) refl) refl) i.pointer_param_of

pub good_datum_param : Good read_datum_param.rule begins_data no_sign no_sign false
good_datum_param = good_made (good_chain good_data good_name refl) i.datum_param_of
