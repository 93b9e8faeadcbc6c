-- The two forms of data and of declarations, by their first token.
use Rattle.std.proofs.Common.{false, [], ◌∷◌, refl}
use Rattle.c_ast.specs.declared.statements.Data.TheVariants as data'
use Rattle.c_grammar.specs.Syntax as s
use Rattle.c_grammar.specs.declared.signs.Sign.TheVariants as sign
use Rattle.c_grammar.specs.words.Parted.{begins_data}
use Rattle.c_grammar.specs.words.Sets.{among, no_sign}
use Rattle.c_statements.specs.Shapes.{read_datum_declare, read_enum_data, read_int_data, read_pointer_declare}
use Rattle.c_grammar.proofs.Goods.{good_one, good_at, good_name}
use Rattle.c_grammar.proofs.Parts.{good_made}
use Rattle.c_grammar.proofs.Rules.{Good}
use Rattle.c_grammar.proofs.Statements.{good_data, good_datums, good_pointers}
use Rattle.c_grammar.proofs.Steps.{good_chain}

pub good_int_data : Good read_int_data.rule (among (sign.Int ∷ [])) no_sign no_sign false
good_int_data = good_made (good_at sign.Int) data'.Int

pub good_enum_data : Good read_enum_data.rule (among (sign.Enum ∷ [])) no_sign no_sign false
good_enum_data = good_made (good_chain (good_at sign.Enum) good_name refl) s.enum_of

pub good_pointer_declare : Good read_pointer_declare.rule (among (sign.Struct ∷ [])) no_sign no_sign false
good_pointer_declare = good_made
    (good_chain (good_at sign.Struct)
    (good_chain good_name (good_chain good_pointers (good_one sign.Semicolon) refl) refl) refl) s.pointers_of

pub good_datum_declare : Good read_datum_declare.rule begins_data no_sign no_sign false
good_datum_declare =
    good_made (good_chain good_data (good_chain good_datums (good_one sign.Semicolon) refl) refl) s.datums_of
