-- The items of a text, rule by rule (ISO/IEC 9899:2011, 6.7 and 6.9, cut down), and whole texts.
use Rattle.std.specs.Prelude.{List, ◌∷◌, Option}
use Rattle.fore_base.specs.declared.place.Place.{Place}
use Rattle.c_ast.specs.declared.items.Field.{Field}
use Rattle.c_ast.specs.declared.items.Field.TheVariants as field'
use Rattle.c_ast.specs.declared.items.Head.{Head}
use Rattle.c_ast.specs.declared.items.Item.{Item}
use Rattle.c_ast.specs.declared.items.Item.TheVariants as item'
use Rattle.c_ast.specs.declared.items.Param.{Param}
use Rattle.c_ast.specs.declared.items.Param.TheVariants as param'
use Rattle.c_ast.specs.declared.items.Params.{Params}
use Rattle.c_ast.specs.declared.items.Params.TheVariants as params'
use Rattle.c_ast.specs.declared.items.ReturnType.{ReturnType}
use Rattle.c_ast.specs.declared.items.ReturnType.TheVariants as return'
use Rattle.c_ast.specs.declared.operands.Name.{Name}
use Rattle.c_ast.specs.declared.statements.Block.{Block}
use Rattle.c_ast.specs.declared.statements.Data.{Data}
use Rattle.c_lexer.specs.declared.token.Token.{Token}
use Rattle.c_grammar.specs.Grammar.{Part, Rule, token, ◌then◌, ◌or◌, Many, Made}
use Rattle.c_grammar.specs.Syntax.{at, name, behind, middle, joined, optional, series, bracketed, data_part, declare}
use Rattle.c_grammar.specs.Syntax.{block}
use Rattle.c_grammar.specs.declared.signs.Sign.TheVariants as sign

-- one or more
abbrev pub some : {X : Type 0} → Part X → Part (List X)
some A = Made joined (A then Many A)

-- field = "struct" id "*" id { "," "*" id } ";" | data id { "," id } ";"
abbrev pub star_name : Part Name
star_name = behind sign.Star name

abbrev pub pointer_fields_of : Place × (Name × (List Name × Token)) → Field
pointer_fields_of p = field'.Pointers p.0 p.1.0 p.1.1.0

abbrev pub datum_fields_of : Data × (List Name × Token) → Field
datum_fields_of p = field'.Datums p.0 p.1.0

abbrev pub field : Part Field
field = Made pointer_fields_of (at sign.Struct then name then series sign.Comma star_name then token sign.Semicolon)
    or Made datum_fields_of (data_part then series sign.Comma name then token sign.Semicolon)

-- structdef = "struct" id [ "{" field { field } "}" ] ";"
abbrev pub braced_fields : Part (List Field)
braced_fields = Made middle (token sign.OpenBrace then some field then token sign.CloseBrace)

abbrev pub struct_of : Place × (Name × (Option (List Field) × Token)) → Item
struct_of p = item'.Struct p.0 p.1.0 p.1.1.0

abbrev pub structdef : Part Item
structdef = Made struct_of (at sign.Struct then name then optional braced_fields then token sign.Semicolon)

-- enumdef = "enum" id "{" id { "," id } [ "," ] "}" ";"
abbrev pub more_names : Part (List Name × (Option Token × Token))
more_names = Many (behind sign.Comma name) then optional (token sign.Comma) then token sign.CloseBrace

abbrev pub Enumerated : Type 0
Enumerated = Token × (Name × ((List Name × (Option Token × Token)) × Token))

abbrev pub enum_body : Part Enumerated
enum_body = token sign.OpenBrace then name then more_names then token sign.Semicolon

abbrev pub enum_of : Place × (Name × Enumerated) → Item
enum_of p = item'.Enum p.0 p.1.0 (p.1.1.1.0 ∷ p.1.1.1.1.0.0)

abbrev pub enumdef : Part Item
enumdef = Made enum_of (at sign.Enum then name then enum_body)

-- rtype = "void" | data | "struct" id "*"
abbrev pub return_pointer_of : Place × (Name × Token) → ReturnType
return_pointer_of p = return'.Pointer p.0 p.1.0

abbrev pub rtype : Part ReturnType
rtype = Made return'.Void (at sign.Void) or Made return'.Data data_part or Made return_pointer_of
    (at sign.Struct then name then token sign.Star)

-- param = "struct" id "*" id | data id
abbrev pub pointer_param_of : Place × (Name × (Token × Name)) → Param
pointer_param_of p = param'.Pointer p.0 p.1.0 p.1.1.1

abbrev pub datum_param_of : Data × Name → Param
datum_param_of p = param'.Datum p.0 p.1

abbrev pub param : Part Param
param = Made pointer_param_of (at sign.Struct then name then token sign.Star then name) or Made datum_param_of
    (data_part then name)

-- params = "void" | param { "," param }
abbrev pub params : Part Params
params = Made params'.Void (at sign.Void) or Made params'.List (series sign.Comma param)

abbrev pub closed_params : Part (Option Params)
closed_params = bracketed (optional params)

-- what a prototype and a function begin with: rtype id "(" [ params ] ")"
abbrev pub head_of : ReturnType × (Name × Option Params) → Head
head_of p = record { gives = p.0; name = p.1.0; params = p.1.1 }

abbrev pub head : Part Head
head = Made head_of (rtype then name then closed_params)

-- proto = [ "extern" ] rtype id "(" [ params ] ")" ";"
abbrev pub proto_of : Option Place × (Head × Token) → Item
proto_of p = item'.Proto p.0 p.1.0

abbrev pub proto : Part Item
proto = Made proto_of (optional (at sign.Extern) then head then token sign.Semicolon)

-- function = rtype id "(" [ params ] ")" block
abbrev pub function_of : Head × Block → Item
function_of p = item'.Function p.0 p.1

abbrev pub function : Rule Item
function n = Made function_of (head then block n)

-- item = structdef | enumdef | proto | function | declare
abbrev pub item : Rule Item
item n = structdef or enumdef or proto or function n or Made item'.Declare (declare n)

-- unit = { item }
abbrev pub unit : Rule (List Item)
unit n = Many (item n)
