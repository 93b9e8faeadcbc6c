-- The rules of items are good: those that begin alike are read up to where they part.
use Rattle.std.proofs.Common.{true, false, [], ◌∷◌, Some, refl, inl, inr}
use Rattle.c_ast.specs.declared.items.Params.TheVariants as params'
use Rattle.c_ast.specs.declared.items.ReturnType.TheVariants as return'
use Rattle.c_ast.specs.declared.statements.Declarator.{Declarator}
use Rattle.c_grammar.specs.Grammar.{Rule, token, ◌then◌, Many}
use Rattle.c_grammar.specs.Items as i
use Rattle.c_grammar.specs.Items.{some, field, star_name, braced_fields, enum_body, rtype, param, params, closed_params}
use Rattle.c_grammar.specs.Items.{head, head_of}
use Rattle.c_grammar.specs.Syntax.{at, name, middle, joined, optional, series, block}
use Rattle.c_grammar.specs.words.Sets.{Signs, among, no_sign, names, opens, commas, elses, begins_declare}
use Rattle.c_grammar.specs.declared.signs.Sign.TheVariants as sign
use Rattle.c_grammar.proofs.Decide.{apart_of}
use Rattle.c_grammar.proofs.Enumerators.{good_written}
use Rattle.c_grammar.proofs.Goods.{named, good_one, good_at, good_name, good_next, good_more, good_series}
use Rattle.c_grammar.proofs.Goods.{good_optional}
use Rattle.c_grammar.proofs.Parts.{good_made, good_level}
use Rattle.c_grammar.proofs.Repeats.{good_many}
use Rattle.c_grammar.proofs.Rules.{Good}
use Rattle.c_grammar.proofs.Statements.{good_data, good_declarator, good_maybe_from, good_star_declarator}
use Rattle.c_grammar.proofs.Statements.{good_inner_block}
use Rattle.c_grammar.proofs.Steps.{good_pair, good_chain, good_or}
use Rattle.c_grammar.specs.words.Parted.{declarator_goes_on, stars, braces, begins_params}
use Rattle.c_grammar.specs.words.Parted.{params_go_on, begins_rtype, no_block, ending, begins_ending, called, data_rest}
use Rattle.c_grammar.specs.words.Parted.{pointer_rest, declared_with, rest_with, begins_rest, begins_declared}
use Rattle.c_grammar.specs.words.Parted.{extern_of, void_of, int_of, enum_rest, enum_item_of, struct_rest}
use Rattle.c_grammar.specs.words.Parted.{struct_item_of, parted_item, begins_item, begins_struct_rest}

-- fields
pub good_star_name : Good (λ n. star_name) stars no_sign no_sign false
good_star_name = good_next sign.Star good_name

pub good_star_names : Good (λ n. series sign.Comma star_name) stars commas no_sign false
good_star_names = good_series sign.Comma good_star_name refl refl

pub good_names : Good (λ n. series sign.Comma name) names commas no_sign false
good_names = good_series sign.Comma good_name refl refl

pub good_field : Good (λ n. field) begins_declare no_sign no_sign false
good_field = named _ _ _
    (good_or
    (good_made
    (good_chain (good_at sign.Struct)
    (good_chain good_name (good_chain good_star_names (good_one sign.Semicolon) refl) refl) refl) i.pointer_fields_of)
    (good_made (good_chain good_data (good_chain good_names (good_one sign.Semicolon) refl) refl) i.datum_fields_of)
    refl refl) refl refl refl

pub good_more_fields : Good (λ n. Many field) begins_declare begins_declare no_sign true
good_more_fields = good_many good_field (apart_of no_sign begins_declare refl) (apart_of no_sign begins_declare refl)

pub good_some_fields : Good (λ n. some field) begins_declare begins_declare no_sign false
good_some_fields = named _ _ _ (good_made (good_pair good_field good_more_fields refl) joined) refl refl refl

pub good_braced : Good (λ n. braced_fields) braces no_sign no_sign false
good_braced = good_made
    (good_chain (good_one sign.OpenBrace) (good_chain good_some_fields (good_one sign.CloseBrace) refl) refl) middle

pub good_maybe_braced : Good (λ n. optional braced_fields) braces braces no_sign true
good_maybe_braced = good_optional good_braced refl

-- enumerations
pub good_enum_body : Good (λ n. enum_body) braces no_sign no_sign false
good_enum_body =
    good_chain (good_one sign.OpenBrace)
    (good_chain good_name (good_chain good_written (good_one sign.Semicolon) refl) refl) refl

pub good_param : Good (λ n. param) begins_declare no_sign no_sign false
good_param = named _ _ _
    (good_or
    (good_made
    (good_chain (good_at sign.Struct) (good_chain good_name (good_chain (good_one sign.Star) good_name refl) refl) refl)
    i.pointer_param_of) (good_made (good_chain good_data good_name refl) i.datum_param_of) refl refl) refl refl refl

pub good_all_params : Good (λ n. series sign.Comma param) begins_declare commas no_sign false
good_all_params = good_series sign.Comma good_param refl refl

pub good_params : Good (λ n. params) begins_params commas no_sign false
good_params = named _ _ _
    (good_or (good_made (good_at sign.Void) params'.Void) (good_made good_all_params params'.List) refl refl) refl refl
    refl

pub good_maybe_params : Good (λ n. optional params) begins_params params_go_on no_sign true
good_maybe_params = good_optional good_params refl

pub good_closed_params : Good (λ n. closed_params) opens no_sign no_sign false
good_closed_params = good_made
    (good_chain (good_one sign.Open) (good_pair good_maybe_params (good_one sign.Close) refl) refl) middle

pub good_rtype : Good (λ n. rtype) begins_rtype no_sign no_sign false
good_rtype = named _ _ _
    (good_or (good_made (good_at sign.Void) return'.Void)
    (good_or (good_made good_data return'.Data)
    (good_made (good_chain (good_at sign.Struct) (good_chain good_name (good_one sign.Star) refl) refl)
    i.return_pointer_of) refl refl) refl refl) refl refl refl

pub good_head : Good (λ n. head) begins_rtype no_sign no_sign false
good_head = good_made (good_chain good_rtype (good_chain good_name good_closed_params refl) refl) head_of

pub good_block : Good block braces no_sign elses false
good_block = good_level good_inner_block

pub good_ending : Good ending begins_ending no_sign elses false
good_ending = named _ _ _
    (good_or (good_made (good_one sign.Semicolon) no_block) (good_made good_block Some) refl refl) refl refl refl

pub good_called : Good called opens no_sign elses false
good_called = good_chain good_closed_params good_ending refl

-- what stands after the first name of a declaration, whose declarators are read by this rule
module _ {A : Rule Declarator} {fa : Signs} (ga : Good A fa declarator_goes_on no_sign false) where
  pub good_declared_with : Good (declared_with A) begins_declared no_sign no_sign false
  good_declared_with = named _ _ _
      (good_pair good_maybe_from (good_pair (good_more sign.Comma ga refl) (good_one sign.Semicolon) refl) refl) refl
      refl refl

  pub good_rest_with : Good (rest_with A) begins_rest no_sign elses false
  good_rest_with = named _ _ _
      (good_or (good_made good_called inl) (good_made good_declared_with inr) refl refl) refl refl refl

pub good_data_rest : Good data_rest begins_rest no_sign elses false
good_data_rest = good_rest_with good_declarator

pub good_pointer_rest : Good pointer_rest begins_rest no_sign elses false
good_pointer_rest = good_rest_with good_star_declarator

pub good_extern_item : Good (λ n. at sign.Extern then head then token sign.Semicolon) (among (sign.Extern ∷ [])) no_sign
    no_sign false
good_extern_item = good_chain (good_at sign.Extern) (good_chain good_head (good_one sign.Semicolon) refl) refl

pub good_void_item : Good (λ n. at sign.Void then name then called n) (among (sign.Void ∷ [])) no_sign elses false
good_void_item = good_chain (good_at sign.Void) (good_chain good_name good_called refl) refl

pub good_named_data : Good (λ n. name then data_rest n) names no_sign elses false
good_named_data = good_chain good_name good_data_rest refl

pub good_int_item : Good (λ n. at sign.Int then name then data_rest n) (among (sign.Int ∷ [])) no_sign elses false
good_int_item = good_chain (good_at sign.Int) good_named_data refl

pub good_enum_rest : Good enum_rest (among (sign.OpenBrace ∷ (sign.Id ∷ []))) no_sign elses false
good_enum_rest = named _ _ _
    (good_or (good_made good_enum_body inl) (good_made good_named_data inr) refl refl) refl refl refl

pub good_enum_item : Good (λ n. at sign.Enum then name then enum_rest n) (among (sign.Enum ∷ [])) no_sign elses false
good_enum_item = good_chain (good_at sign.Enum) (good_chain good_name good_enum_rest refl) refl

pub good_struct_end : Good (λ n. optional braced_fields then token sign.Semicolon) begins_ending no_sign no_sign false
good_struct_end = named _ _ _ (good_pair good_maybe_braced (good_one sign.Semicolon) refl) refl refl refl

pub good_star_rest : Good (λ n. token sign.Star then name then pointer_rest n) stars no_sign elses false
good_star_rest = good_chain (good_one sign.Star) (good_chain good_name good_pointer_rest refl) refl

pub good_struct_rest : Good struct_rest begins_struct_rest no_sign elses false
good_struct_rest = named _ _ _
    (good_or (good_made good_struct_end inl) (good_made good_star_rest inr) refl refl) refl refl refl

pub good_struct_item : Good (λ n. at sign.Struct then name then struct_rest n) (among (sign.Struct ∷ [])) no_sign elses
    false
good_struct_item = good_chain (good_at sign.Struct) (good_chain good_name good_struct_rest refl) refl

pub good_parted : Good parted_item begins_item no_sign elses false
good_parted = named _ _ _
    (good_or (good_made good_extern_item extern_of)
    (good_or (good_made good_void_item void_of)
    (good_or (good_made good_int_item int_of) (good_or (good_made good_enum_item enum_item_of)
    (good_made good_struct_item struct_item_of) refl refl) refl refl) refl refl) refl refl) refl refl refl
