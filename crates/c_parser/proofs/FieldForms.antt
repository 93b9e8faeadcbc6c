-- The names of fields, each behind a star or none, and the two forms of fields, by their first token.
use Rattle.std.proofs.Common.{ℕ, Bool, true, false, [], ◌∷◌, refl}
use Rattle.c_grammar.specs.Items as i
use Rattle.c_grammar.specs.declared.signs.Sign.TheVariants as sign
use Rattle.c_grammar.specs.words.Faults.{Alive}
use Rattle.c_grammar.specs.words.Parted.{begins_data}
use Rattle.c_grammar.specs.words.Sets.{Signs, among, no_sign, commas}
use Rattle.c_parser.specs.inner.Shapes.{field_name, read_datum_field, read_names, read_next_name, read_pointer_field}
use Rattle.c_grammar.proofs.Goods.{named, good_one, good_at, good_name, good_next}
use Rattle.c_grammar.proofs.Items.{good_names, good_star_name, good_star_names}
use Rattle.c_grammar.proofs.Leasts.{least_name}
use Rattle.c_grammar.proofs.Parts.{good_made}
use Rattle.c_grammar.proofs.Rules.{Good}
use Rattle.c_grammar.proofs.Series.{least_behind, least_series}
use Rattle.c_grammar.proofs.Statements.{good_data}
use Rattle.c_grammar.proofs.Steps.{good_chain}

abbrev pub begins_name : Signs
begins_name = among (sign.Id ∷ (sign.Star ∷ []))

pub good_field_name : (starred : Bool) → Good (field_name starred) begins_name no_sign no_sign false
good_field_name true = named _ _ _ good_star_name refl refl refl
good_field_name false = named _ _ _ good_name refl refl refl

pub good_next_name : (starred : Bool) → Good (read_next_name starred).rule commas no_sign no_sign false
good_next_name starred = good_next sign.Comma (good_field_name starred)

-- each reads something
pub least_field_name : (starred : Bool) (n : ℕ) → Alive (field_name starred) no_sign n []
least_field_name true n = least_behind sign.Star refl good_name n (least_name n)
least_field_name false n = least_name n

pub least_names : (starred : Bool) (n : ℕ) → Alive (read_names starred).rule no_sign n []
least_names starred n = least_series sign.Comma (good_field_name starred) refl n (least_field_name starred n)

abbrev pub structs : Signs
structs = among (sign.Struct ∷ [])

pub good_pointer_field : Good read_pointer_field.rule structs no_sign no_sign false
good_pointer_field = good_made
    (good_chain (good_at sign.Struct)
    (good_chain good_name (good_chain good_star_names (good_one sign.Semicolon) refl) refl) refl) i.pointer_fields_of

pub good_datum_field : Good read_datum_field.rule begins_data no_sign no_sign false
good_datum_field =
    good_made (good_chain good_data (good_chain good_names (good_one sign.Semicolon) refl) refl) i.datum_fields_of
