-- The places of a file where a rule may be broken, in the order of the text.
use Rattle.std.specs.Prelude.{ℕ, suc, Bool, false, ◌||◌, List, [], ◌∷◌, ◌++◌, map, length, Option}
use Rattle.std.specs.Prelude.{Some, None}
use Rattle.c_ast.specs.declared.items.Field.{Field}
use Rattle.c_ast.specs.declared.items.Field.TheVariants as field
use Rattle.c_ast.specs.declared.items.Head.{Head}
use Rattle.c_ast.specs.declared.items.Item.{Item}
use Rattle.c_ast.specs.declared.items.Item.TheVariants as item
use Rattle.c_ast.specs.declared.items.Param.{Param}
use Rattle.c_ast.specs.declared.items.Param.TheVariants as param
use Rattle.c_ast.specs.declared.items.ReturnType.{ReturnType}
use Rattle.c_ast.specs.declared.items.ReturnType.TheVariants as gives
use Rattle.c_ast.specs.declared.items.Unit as whole
use Rattle.c_ast.specs.declared.operands.Name.{Name}
use Rattle.c_ast.specs.declared.statements.Block.{Block}
use Rattle.c_ast.specs.declared.statements.Declarator.{Declarator}
use Rattle.c_typing.specs.BodySites.{data_sites, type_sites, block_sites, block_places}
use Rattle.c_typing.specs.Globals.{Globals, text_of, struct_names, is_main, param_kind, params_of}
use Rattle.c_typing.specs.Scopes.{Scope, empty_scope, innermost, var_name, declared_so_far, opened, declared}
use Rattle.c_typing.specs.Scopes.{declarators_of, begun, result_of, past_result, param_name, past_head, past_item}
use Rattle.c_typing.specs.Sites.{Family, Struct, Enum, Value, Member, Variable, Function, Parameter, Site, UsesStruct}
use Rattle.c_typing.specs.Sites.{Defines, Counts, Declares, Functions, Globally, Ends, Overflows}
use Rattle.c_typing.specs.Texts.{Text}
use Rattle.c_typing.specs.declared.meaning.Kind.{Kind}

-- what the items so far define: the names of structs with braces, of enumerations, of enumerators and of functions,
-- each as often as it comes, and whether one is main
pub record Seen : Type 0 where
  pub structs : List Text
  pub enums : List Text
  pub values : List Text
  pub functions : List Text
  pub main : Bool

abbrev pub nothing_seen : Seen
nothing_seen = record { structs = []; enums = []; values = []; functions = []; main = false }

-- after a struct with these fields, if any
abbrev pub structs_seen : List Text → Name → Option (List Field) → List Text
structs_seen seen name None = seen
structs_seen seen name (Some fields) = seen ++ name.text ∷ []

abbrev pub seen_after : Seen → Item → Seen
seen_after s (item.Struct at name fields) =
    record {
      structs = structs_seen s.structs name fields;
      enums = s.enums;
      values = s.values;
      functions = s.functions;
      main = s.main;
    }
seen_after s (item.Enum at name values) =
    record {
      structs = s.structs;
      enums = s.enums ++ name.text ∷ [];
      values = s.values ++ map text_of values;
      functions = s.functions;
      main = s.main;
    }
seen_after s (item.Proto outer head) = s
seen_after s (item.Function head body) =
    record {
      structs = s.structs;
      enums = s.enums;
      values = s.values;
      functions = s.functions ++ head.name.text ∷ [];
      main = s.main || is_main head;
    }
seen_after s (item.Declare d) = s

-- Definitions: names of one family, one after the other, each counted with those before it; none may repeat an earlier
-- one
abbrev pub defined_sites : Family → List Text → ℕ → List Name → List Site
defined_sites family earlier count [] = []
defined_sites family earlier count (n ∷ ns) =
    Defines family n earlier count ∷ defined_sites family (earlier ++ n.text ∷ []) (suc count) ns

abbrev pub field_type_sites : Field → List Site
field_type_sites (field.Pointers at name fields) = UsesStruct name ∷ []
field_type_sites (field.Datums base fields) = data_sites base

abbrev pub names_of : Field → List Name
names_of (field.Pointers at name fields) = fields
names_of (field.Datums base fields) = fields

abbrev pub fields_sites : List Text → List Field → List Site
fields_sites earlier [] = []
fields_sites earlier (f ∷ fs) = (field_type_sites f ++ defined_sites Member earlier (length earlier) (names_of f))
    ++ fields_sites (earlier ++ map text_of (names_of f)) fs

-- a struct without braces is named only
abbrev pub struct_sites : Seen → Name → Option (List Field) → List Site
struct_sites s name None = UsesStruct name ∷ []
struct_sites s name (Some fields) = Defines Struct name s.structs (length s.structs) ∷ fields_sites [] fields

-- Heads of functions and prototypes

abbrev pub gives_sites : ReturnType → List Site
gives_sites (gives.Void at) = []
gives_sites (gives.Data d) = data_sites d
gives_sites (gives.Pointer at name) = UsesStruct name ∷ []

abbrev pub param_sites : Param → List Site
param_sites (param.Pointer at shape name) = UsesStruct shape ∷ []
param_sites (param.Datum base name) = data_sites base

-- parameters of a prototype: none may repeat one before it
abbrev pub proto_params_sites : List Text → List Param → List Site
proto_params_sites earlier [] = []
proto_params_sites earlier (p ∷ ps) = (param_sites p ++ Defines Parameter (param_name p) earlier 0 ∷ [])
    ++ proto_params_sites (earlier ++ (param_name p).text ∷ []) ps

-- the name comes between the type and the parameters
abbrev pub proto_sites : Head → List Site
proto_sites h = gives_sites h.gives ++ Declares h ∷ proto_params_sites [] (params_of h.params)

-- the name of a definition, after others
abbrev pub named_sites : Seen → Head → List Site
named_sites s h = Defines Function h.name s.functions (length s.functions) ∷ Functions h ∷ []

-- a result is declared at the name of its function
abbrev pub result_sites : Option Kind → Name → Scope → List Site
result_sites None name scope = []
result_sites (Some k) name scope = Defines Variable name [] (declared_so_far scope) ∷ []

module _ (g : Globals) where
  -- parameters of a definition: each is a variable
  abbrev pub own_param_sites : Param → Scope → List Site
  own_param_sites p scope =
      param_sites p
      ++ Defines Variable (param_name p) (map var_name (innermost scope.blocks)) (declared_so_far scope) ∷ []

  abbrev pub own_params_sites : List Param → Scope → List Site
  own_params_sites [] scope = []
  own_params_sites (p ∷ ps) scope = own_param_sites p scope
      ++ own_params_sites ps (declared scope (param_name p).text (param_kind (struct_names g) p))

  abbrev pub head_sites : Seen → Head → Scope → List Site
  head_sites s h scope =
      gives_sites h.gives ++ named_sites s h ++ result_sites (result_of g h) h.name (begun g h scope)
      ++ own_params_sites (params_of h.params) (opened (past_result g h scope))

  -- a body, outside loops, and its statements
  abbrev pub body_sites : Block → Scope → List Site
  body_sites b scope = block_sites g b false scope ++ Counts (block_places b).within ∷ []

  abbrev pub global_sites : List Declarator → List Site
  global_sites [] = []
  global_sites (d ∷ ds) = Globally d.name ∷ []

  abbrev pub item_sites : Seen → Item → Scope → List Site
  item_sites s (item.Struct at name fields) scope = struct_sites s name fields
  -- enumerators: none may repeat one of the file, and those of one enumeration are counted
  item_sites s (item.Enum at name values) scope =
      Defines Enum name s.enums (length s.enums) ∷ defined_sites Value s.values 0 values
  item_sites s (item.Proto outer head) scope = proto_sites head
  item_sites s (item.Function head body) scope = head_sites s head scope ++ body_sites body (past_head g head scope)
  item_sites s (item.Declare d) scope = type_sites d ++ global_sites (declarators_of d)

  -- what the items so far define and declare is handed on
  abbrev pub items_sites : Seen → List Item → Scope → List Site
  items_sites s [] scope = []
  items_sites s (i ∷ is) scope = item_sites s i scope ++ items_sites (seen_after s i) is (past_item g i scope)

abbrev pub all_seen : Seen → List Item → Seen
all_seen s [] = s
all_seen s (i ∷ is) = all_seen (seen_after s i) is

-- all places of a file
abbrev pub unit_sites : Globals → whole.Unit → List Site
unit_sites g u = items_sites g nothing_seen u.items empty_scope ++ Ends (all_seen nothing_seen u.items).main u.end
    ∷ Overflows u.over ∷ []
