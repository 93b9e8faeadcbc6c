-- What the functions of items read: rules, with the signs that can continue them.
use Rattle.std.specs.Prelude.{Bool, true, false, List, Option, ◌∷◌}
use Rattle.std.proofs.Common.{inl, inr}
use Rattle.fore_base.specs.declared.place.Place.{Place}
use Rattle.c_ast.specs.declared.items.Field.{Field}
use Rattle.c_ast.specs.declared.items.Head.{Head}
use Rattle.c_ast.specs.declared.items.Item.{Item}
use Rattle.c_ast.specs.declared.items.Item.TheVariants as item'
use Rattle.c_ast.specs.declared.items.Param.{Param}
use Rattle.c_ast.specs.declared.items.Params.{Params}
use Rattle.c_ast.specs.declared.items.ReturnType.{ReturnType}
use Rattle.c_ast.specs.declared.items.ReturnType.TheVariants as return'
use Rattle.c_ast.specs.declared.operands.Name.{Name}
use Rattle.c_ast.specs.declared.statements.Block.{Block}
use Rattle.c_ast.specs.declared.statements.Declarator.{Declarator}
use Rattle.c_ast.specs.declared.statements.Declare.{Declare}
use Rattle.c_ast.specs.declared.statements.Declare.TheVariants as declare'
use Rattle.c_lexer.specs.declared.token.Token.{Token}
use Rattle.c_grammar.specs.Grammar.{Rule, token, ◌then◌, ◌or◌, Made}
use Rattle.c_grammar.specs.Items as i
use Rattle.c_grammar.specs.Syntax as s
use Rattle.c_grammar.specs.declared.signs.Sign.TheVariants as sign
use Rattle.c_grammar.specs.words.Parted.{braces, params_go_on, ending}
use Rattle.c_grammar.specs.words.Parted.{Called, called, Declared, declared_with, Rest, data_rest, pointer_rest}
use Rattle.c_grammar.specs.words.Parted.{head_item, extern_of, void_of, int_of, EnumRest, enum_rest, enum_item_of}
use Rattle.c_grammar.specs.words.Parted.{StructRest, struct_rest, struct_item_of, begins_item}
use Rattle.c_grammar.specs.words.Sets.{no_sign, commas, elses}
use Rattle.c_grammar.specs.words.Sets.{begins_declare}
use Rattle.c_grammar.specs.words.Shapes.{Shape, plain_shape, continued_shape, barred_shape}
use Rattle.c_statements.specs.Shapes.{init_declarator}
use Rattle.c_parser.specs.declared.globals.Base.{Base}
use Rattle.c_parser.specs.declared.globals.Base.TheVariants.{Datum, Pointer}

-- the name of a field, behind a star where it is a pointer
abbrev pub field_name : Bool → Rule Name
field_name true = λ n. i.star_name
field_name false = λ n. s.name

abbrev pub read_field_name : Bool → Shape Name
read_field_name starred = plain_shape (field_name starred)

abbrev pub read_next_name : Bool → Shape Name
read_next_name starred = plain_shape (λ n. s.behind sign.Comma (field_name starred n))

abbrev pub read_names : Bool → Shape (List Name)
read_names starred = continued_shape commas (λ n. s.series sign.Comma (field_name starred n))

abbrev pub read_pointer_field : Shape Field
read_pointer_field =
    plain_shape (λ n. Made i.pointer_fields_of (s.at sign.Struct then s.name then s.series sign.Comma i.star_name
    then token sign.Semicolon))

abbrev pub read_datum_field : Shape Field
read_datum_field =
    plain_shape (λ n. Made i.datum_fields_of (s.data_part then s.series sign.Comma s.name then token sign.Semicolon))

abbrev pub read_field : Shape Field
read_field = plain_shape (λ n. i.field)

abbrev pub read_some_fields : Shape (List Field)
read_some_fields = continued_shape begins_declare (λ n. i.some i.field)

abbrev pub read_braced : Shape (List Field)
read_braced = plain_shape (λ n. i.braced_fields)

abbrev pub read_maybe_braced : Shape (Option (List Field))
read_maybe_braced = continued_shape braces (λ n. s.optional i.braced_fields)

abbrev pub read_pointer_param : Shape Param
read_pointer_param =
    plain_shape (λ n. Made i.pointer_param_of (s.at sign.Struct then s.name then token sign.Star then s.name))

abbrev pub read_datum_param : Shape Param
read_datum_param = plain_shape (λ n. Made i.datum_param_of (s.data_part then s.name))

abbrev pub read_param : Shape Param
read_param = plain_shape (λ n. i.param)

abbrev pub read_next_param : Shape Param
read_next_param = plain_shape (λ n. s.behind sign.Comma i.param)

abbrev pub read_all_params : Shape (List Param)
read_all_params = continued_shape commas (λ n. s.series sign.Comma i.param)

abbrev pub read_params : Shape Params
read_params = continued_shape commas (λ n. i.params)

abbrev pub read_maybe_params : Shape (Option Params)
read_maybe_params = continued_shape params_go_on (λ n. s.optional i.params)

abbrev pub read_closed_params : Shape (Option Params)
read_closed_params = plain_shape (λ n. i.closed_params)

abbrev pub read_rtype : Shape ReturnType
read_rtype = plain_shape (λ n. i.rtype)

abbrev pub read_head : Shape Head
read_head = plain_shape (λ n. i.head)

abbrev pub read_ending : Shape (Option Block)
read_ending = barred_shape elses ending

abbrev pub read_called : ReturnType → Name → Shape Item
read_called gives name = barred_shape elses (λ n. Made (λ (q : Called). head_item gives name q) (called n))

-- the type that stands before a name
abbrev pub is_pointer : Base → Bool
is_pointer (Datum d) = false
is_pointer (Pointer p t) = true

abbrev pub gives_of : Base → ReturnType
gives_of (Datum d) = return'.Data d
gives_of (Pointer p t) = return'.Pointer p t

abbrev pub declare_of : Base → List Declarator → Declare
declare_of (Datum d) vars = declare'.Datums d vars
declare_of (Pointer p t) vars = declare'.Pointers p t vars

-- what stands after the type and the name, with the item that the whole makes of it
abbrev pub base_declared : Base → Rule Declared
base_declared base = declared_with (init_declarator (is_pointer base))

abbrev pub item_of : Base → Name → Rest → Item
item_of base v q = elim q [
  | inl c ↦ head_item (gives_of base) v c
  | inr r ↦ item'.Declare
      (declare_of base (s.declarator_of (v, r.0) ∷ r.1.0))
]

abbrev pub read_declared_names : Base → Name → Shape Item
read_declared_names base name =
    plain_shape (λ n. Made (λ (r : Declared). item_of base name (inr r)) (base_declared base n))

abbrev pub read_rest_of : Base → Name → Shape Item
read_rest_of base name =
    barred_shape elses (λ n. Made (λ (q : Rest). item_of base name q) (Made inl (called n) or Made inr
    (base_declared base n)))

abbrev pub read_more_names : Shape (List Name)
read_more_names = plain_shape (λ n. Made s.first i.more_names)

abbrev pub read_enum_body : Place → Name → Shape Item
read_enum_body at shape = plain_shape (λ n. Made (λ (q : i.Enumerated). i.enum_of (at, (shape, q))) i.enum_body)

abbrev pub read_enum_named : Place → Name → Shape Item
read_enum_named at shape =
    barred_shape elses (λ n. Made (λ (q : Name × Rest). enum_item_of (at, (shape, inr q))) (s.name then data_rest n))

abbrev pub read_enum_rest_of : Place → Name → Shape Item
read_enum_rest_of at shape =
    barred_shape elses (λ n. Made (λ (q : EnumRest). enum_item_of (at, (shape, q))) (enum_rest n))

abbrev pub read_struct_end : Place → Name → Shape Item
read_struct_end at shape =
    plain_shape (λ n. Made (λ (q : Option (List Field) × Token). i.struct_of (at, (shape, q)))
    (s.optional i.braced_fields then token sign.Semicolon))

abbrev pub read_star_rest : Place → Name → Shape Item
read_star_rest at shape =
    barred_shape elses (λ n. Made (λ (q : Token × (Name × Rest)). struct_item_of (at, (shape, inr q))) (token sign.Star
    then s.name then pointer_rest n))

abbrev pub read_struct_rest_of : Place → Name → Shape Item
read_struct_rest_of at shape =
    barred_shape elses (λ n. Made (λ (q : StructRest). struct_item_of (at, (shape, q))) (struct_rest n))

abbrev pub read_extern_item : Shape Item
read_extern_item = plain_shape (λ n. Made extern_of (s.at sign.Extern then i.head then token sign.Semicolon))

abbrev pub read_void_item : Shape Item
read_void_item = barred_shape elses (λ n. Made void_of (s.at sign.Void then s.name then called n))

abbrev pub read_int_item : Shape Item
read_int_item = barred_shape elses (λ n. Made int_of (s.at sign.Int then s.name then data_rest n))

abbrev pub read_enum_item : Shape Item
read_enum_item = barred_shape elses (λ n. Made enum_item_of (s.at sign.Enum then s.name then enum_rest n))

abbrev pub read_struct_item : Shape Item
read_struct_item = barred_shape elses (λ n. Made struct_item_of (s.at sign.Struct then s.name then struct_rest n))

abbrev pub read_item : Shape Item
read_item = barred_shape elses i.item

abbrev pub read_all_items : Shape (List Item)
read_all_items = record { rule = i.unit; cont = begins_item; bars = elses; heads = no_sign }
