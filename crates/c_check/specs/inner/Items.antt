-- The places of a file where a rule may be broken, where of the names that were defined before each is kept once, with
-- how many there were.
use Rattle.std.specs.Prelude.{ℕ, ◌+◌, Bool, false, ◌||◌, cond, nat_eq, List, [], ◌∷◌, ◌++◌, length, Option, Some, None}
use Rattle.fore_base.specs.declared.limits.TheConstants.{ENUMERATORS, FIELDS, STRUCTS, VARIABLES}
use Rattle.fore_base.specs.declared.place.Place.{Place}
use Rattle.c_ast.specs.declared.items.Field.{Field}
use Rattle.c_ast.specs.declared.items.Head.{Head}
use Rattle.c_ast.specs.declared.items.Item.{Item}
use Rattle.c_ast.specs.declared.items.Item.TheVariants as item
use Rattle.c_ast.specs.declared.items.Param.{Param}
use Rattle.c_ast.specs.declared.operands.Name.{Name}
use Rattle.c_ast.specs.declared.statements.Block.{Block}
use Rattle.c_typing.specs.BodySites.{type_sites}
use Rattle.c_typing.specs.Globals.{Globals, is_main, params_of}
use Rattle.c_typing.specs.ItemSites.{body_sites, field_type_sites, gives_sites, global_sites, names_of}
use Rattle.c_typing.specs.ItemSites.{own_params_sites, param_sites, result_sites}
use Rattle.c_typing.specs.Scopes.{Scope, begun, declarators_of, opened, param_name, past_head, past_item, past_result}
use Rattle.c_typing.specs.Scopes.{result_of}
use Rattle.c_typing.specs.Sites.{Site, UsesStruct}
use Rattle.c_typing.specs.declared.meaning.Family.{Family}
use Rattle.c_typing.specs.declared.meaning.Family.TheVariants.{Struct, Enum, Value, Member, Variable}
use Rattle.c_typing.specs.declared.meaning.Family.TheVariants.{Function, Parameter}
use Rattle.c_typing.specs.Sites.{Declares, Defines, Functions}
use Rattle.c_typing.specs.Texts.{Text, has}
use Rattle.c_typing.specs.declared.fault.TypeFault.{TypeFault}
use Rattle.c_typing.specs.declared.fault.TypeFault.TheVariants.{Limit}
use Rattle.c_typing.specs.declared.limits.TheConstants.{FUNCTIONS}
use Rattle.c_check.specs.declared.definitions.Seen.{Seen}
use Rattle.c_expressions.specs.Meeting.{noted_when}

-- the first fault so far, after a name at this place before which so many of its family were counted: the family's
-- limit may be passed there
abbrev pub counted : Family → ℕ → Place → Option TypeFault → Option TypeFault
counted Struct count at found = noted_when (nat_eq count STRUCTS) (Limit 2 at) found
counted Member count at found = noted_when (nat_eq count FIELDS) (Limit 3 at) found
counted Variable count at found = noted_when (nat_eq count VARIABLES) (Limit 4 at) found
counted Value count at found = noted_when (nat_eq count ENUMERATORS) (Limit 5 at) found
counted Function count at found = noted_when (nat_eq count FUNCTIONS) (Limit 10 at) found
counted Enum count at found = found
counted Parameter count at found = found

-- one name more, if it is not there
abbrev pub with_name : List Text → Text → List Text
with_name names x = cond (has x names) names (names ++ x ∷ [])

abbrev pub with_names : List Text → List Name → List Text
with_names names [] = names
with_names names (n ∷ ns) = with_names (with_name names n.text) ns

-- names of one family, one after the other
abbrev pub kept_name_sites : Family → List Text → ℕ → List Name → List Site
kept_name_sites family names count [] = []
kept_name_sites family names count (n ∷ ns) =
    Defines family n names count ∷ kept_name_sites family (with_name names n.text) (count + 1) ns

abbrev pub kept_fields_sites : List Text → ℕ → List Field → List Site
kept_fields_sites names count [] = []
kept_fields_sites names count (f ∷ fs) =
    (field_type_sites f ++ kept_name_sites Member names count (names_of f))
    ++ kept_fields_sites (with_names names (names_of f)) (count + length (names_of f)) fs

-- parameters of a prototype
abbrev pub kept_params_sites : List Text → List Param → List Site
kept_params_sites names [] = []
kept_params_sites names (p ∷ ps) = (param_sites p ++ Defines Parameter (param_name p) names 0 ∷ [])
    ++ kept_params_sites (with_name names (param_name p).text) ps

abbrev pub kept_proto_sites : Head → List Site
kept_proto_sites h = gives_sites h.gives ++ Declares h ∷ kept_params_sites [] (params_of h.params)

abbrev pub kept_struct_sites : Seen → Name → Option (List Field) → List Site
kept_struct_sites s name None = UsesStruct name ∷ []
kept_struct_sites s name (Some fields) = Defines Struct name s.structs s.count ∷ kept_fields_sites [] 0 fields

abbrev pub kept_structs : Seen → Name → Option (List Field) → Seen
kept_structs s name None = s
kept_structs s name (Some fields) =
    record {
      structs = with_name s.structs name.text;
      count = s.count + 1;
      enums = s.enums;
      values = s.values;
      functions = s.functions;
      function_count = s.function_count;
    }

abbrev pub kept_enums : Seen → Name → List Name → Seen
kept_enums s name values =
    record {
      structs = s.structs;
      count = s.count;
      enums = with_name s.enums name.text;
      values = with_names s.values values;
      functions = s.functions;
      function_count = s.function_count;
    }

abbrev pub kept_function : Seen → Head → Seen
kept_function s h =
    record {
      structs = s.structs;
      count = s.count;
      enums = s.enums;
      values = s.values;
      functions = with_name s.functions h.name.text;
      function_count = s.function_count + 1;
    }

-- what is kept after an item
abbrev pub kept_after : Seen → Item → Seen
kept_after s (item.Struct at name fields) = kept_structs s name fields
kept_after s (item.Enum at name values) = kept_enums s name values
kept_after s (item.Proto outer head) = s
kept_after s (item.Function head body) = kept_function s head
kept_after s (item.Declare d) = s

-- whether the item is a function of the name `main`
abbrev pub is_main_item : Item → Bool
is_main_item (item.Struct at name fields) = false
is_main_item (item.Enum at name values) = false
is_main_item (item.Proto outer head) = false
is_main_item (item.Function head body) = is_main head
is_main_item (item.Declare d) = false

-- the name of a function that is defined after these and so many others
abbrev pub kept_named_sites : List Text → ℕ → Head → List Site
kept_named_sites names count h = Defines Function h.name names count ∷ Functions h ∷ []

module _ (g : Globals) where
  abbrev pub kept_head_sites : List Text → ℕ → Head → Scope → List Site
  kept_head_sites names count h scope =
      gives_sites h.gives ++ kept_named_sites names count h ++ result_sites (result_of g h) h.name (begun g h scope)
      ++ own_params_sites g (params_of h.params) (opened (past_result g h scope))

  abbrev pub kept_function_sites : List Text → ℕ → Head → Block → Scope → List Site
  kept_function_sites names count head body scope = kept_head_sites names count head scope
      ++ body_sites g body (past_head g head scope)

  abbrev pub kept_item_sites : Seen → Item → Scope → List Site
  kept_item_sites s (item.Struct at name fields) scope = kept_struct_sites s name fields
  kept_item_sites s (item.Enum at name values) scope =
      Defines Enum name s.enums 0 ∷ kept_name_sites Value s.values 0 values
  kept_item_sites s (item.Proto outer head) scope = kept_proto_sites head
  kept_item_sites s (item.Function head body) scope =
      kept_function_sites s.functions s.function_count head body scope
  kept_item_sites s (item.Declare d) scope = type_sites d ++ global_sites g (declarators_of d)

  abbrev pub kept_items_sites : Seen → List Item → Scope → List Site
  kept_items_sites s [] scope = []
  kept_items_sites s (i ∷ is) scope =
      kept_item_sites s i scope ++ kept_items_sites (kept_after s i) is (past_item g i scope)

abbrev pub any_main : List Item → Bool
any_main [] = false
any_main (i ∷ is) = is_main_item i || any_main is

abbrev pub nothing_kept : Seen
nothing_kept =
    record { structs = []; count = 0; enums = []; values = []; functions = []; function_count = 0 }
