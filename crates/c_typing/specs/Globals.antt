-- What the items of a file define: structs, enumerations, enumerators and functions. They are known in the whole file.
-- Of two definitions of one name the first counts.
use Rattle.std.specs.Prelude.{ℕ, zero, suc, Bool, false, not, cond, nat_eq, nat_le, List, [], ◌∷◌, ◌++◌, map, codes}
use Rattle.std.specs.Prelude.{Option, Some, None, slice_get}
use Rattle.fore_base.specs.declared.limits.TheConstants.{DATUM}
use Rattle.c_ast.specs.declared.items.Field.{Field}
use Rattle.c_ast.specs.declared.items.Field.TheVariants as field
use Rattle.c_ast.specs.declared.items.Head.{Head}
use Rattle.c_ast.specs.declared.items.Item.{Item}
use Rattle.c_ast.specs.declared.items.Item.TheVariants as item
use Rattle.c_ast.specs.declared.items.Param.{Param}
use Rattle.c_ast.specs.declared.items.Param.TheVariants as param
use Rattle.c_ast.specs.declared.items.Params.{Params}
use Rattle.c_ast.specs.declared.items.Params.TheVariants as params
use Rattle.c_ast.specs.declared.items.ReturnType.{ReturnType}
use Rattle.c_ast.specs.declared.items.ReturnType.TheVariants as gives
use Rattle.c_ast.specs.declared.operands.Name.{Name}
use Rattle.c_ast.specs.declared.statements.Block.{Block}
use Rattle.c_typing.specs.Callees.{block_callees}
use Rattle.c_typing.specs.Texts.{Text, same, number_of, firsts, each_of}
use Rattle.c_typing.specs.declared.meaning.Enumerator.{Enumerator}
use Rattle.c_typing.specs.declared.meaning.FieldUse.{FieldUse}
use Rattle.c_typing.specs.declared.meaning.FieldUse.TheVariants as use_of
use Rattle.c_typing.specs.declared.meaning.FunctionDef.{FunctionDef}
use Rattle.c_typing.specs.declared.meaning.Kind.{Kind}
use Rattle.c_typing.specs.declared.meaning.Kind.TheVariants.{Points, Datum}
use Rattle.c_typing.specs.declared.meaning.Member.{Member}
use Rattle.c_typing.specs.declared.meaning.StructDef.{StructDef}

-- The structs in order of their definitions, the names of the enumerations, the enumerators, the functions besides
-- `main` in order of their definitions, and `main`, if there is one. And the calls of the file: for each function, and
-- for `main` after them, those that its body calls.
pub record Globals : Type 0 where
  pub structs : List StructDef
  pub enums : List Text
  pub values : List Enumerator
  pub functions : List FunctionDef
  pub main : Option FunctionDef
  pub calls : List (List ℕ)

abbrev pub text_of : Name → Text
text_of n = n.text

-- Structs (ISO/IEC 9899:2011, 6.7.2.1). Without braces nothing is defined.

abbrev pub Definition : Type 0
Definition = Name × List Field

abbrev pub defined_name : Definition → Text
defined_name d = d.0.text

abbrev pub maybe_defined : Name → Option (List Field) → List Definition
maybe_defined name None = []
maybe_defined name (Some fields) = (name, fields) ∷ []

abbrev pub structs_in : Item → List Definition
structs_in (item.Struct at name fields) = maybe_defined name fields
structs_in (item.Enum at name values) = []
structs_in (item.Proto outer head) = []
structs_in (item.Function head body) = []
structs_in (item.Declare d) = []

abbrev pub struct_definitions : List Item → List Definition
struct_definitions items = firsts defined_name [] (each_of structs_in items)

abbrev pub pointer_member : Option ℕ → Name → Member
pointer_member to name = record { name = name.text; kind = Points to }

abbrev pub datum_member : Name → Member
datum_member name = record { name = name.text; kind = Datum }

-- the fields of one line, given the names of all structs
abbrev pub members_in : List Text → Field → List Member
members_in names (field.Pointers at shape fields) = map (pointer_member (number_of shape.text names)) fields
members_in names (field.Datums base fields) = map datum_member fields

abbrev pub struct_of : List Text → Definition → StructDef
struct_of names d = record { name = d.0.text; fields = each_of (members_in names) d.1 }

abbrev pub structs_of : List Item → List StructDef
structs_of items = map (struct_of (map defined_name (struct_definitions items))) (struct_definitions items)

-- Enumerations (6.7.2.2)

abbrev pub enums_in : Item → List Text
enums_in (item.Struct at name fields) = []
enums_in (item.Enum at name values) = name.text ∷ []
enums_in (item.Proto outer head) = []
enums_in (item.Function head body) = []
enums_in (item.Declare d) = []

abbrev pub itself : Text → Text
itself x = x

abbrev pub enums_of : List Item → List Text
enums_of items = firsts itself [] (each_of enums_in items)

-- a datum of this number; 0 where there is none
abbrev pub datum_of : ℕ → ℕ
datum_of n = cond (nat_le n DATUM) n 0

-- enumerators have the values n, n + 1 and so on
abbrev pub values_from : ℕ → List Name → List Enumerator
values_from n [] = []
values_from n (x ∷ xs) = record { name = x.text; value = datum_of n } ∷ values_from (suc n) xs

abbrev pub values_in : Item → List Enumerator
values_in (item.Struct at name fields) = []
values_in (item.Enum at name values) = values_from 0 values
values_in (item.Proto outer head) = []
values_in (item.Function head body) = []
values_in (item.Declare d) = []

abbrev pub value_name : Enumerator → Text
value_name v = v.name

abbrev pub values_of : List Item → List Enumerator
values_of items = firsts value_name [] (each_of values_in items)

-- Functions (6.9.1). What their heads say is told by numbers of structs, given the names of all structs.

abbrev pub is_main : Head → Bool
is_main h = same h.name.text (codes "main")

-- what a function returns: nothing, or a value of this kind
abbrev pub result_kind : List Text → ReturnType → Option Kind
result_kind names (gives.Void at) = None
result_kind names (gives.Data d) = Some Datum
result_kind names (gives.Pointer at name) = Some (Points (number_of name.text names))

abbrev pub param_kind : List Text → Param → Kind
param_kind names (param.Pointer at shape name) = Points (number_of shape.text names)
param_kind names (param.Datum base name) = Datum

abbrev pub listed : Params → List Param
listed (params.Void at) = []
listed (params.List ps) = ps

-- `()` and `(void)` both have no parameters
abbrev pub params_of : Option Params → List Param
params_of None = []
params_of (Some ps) = listed ps

abbrev pub function_of : List Text → Head → FunctionDef
function_of names h = record {
  name = h.name.text;
  result = result_kind names h.gives;
  params = map (param_kind names) (params_of h.params);
}

abbrev pub head_name : Head → Text
head_name h = h.name.text

abbrev pub functions_in : Item → List Head
functions_in (item.Struct at name fields) = []
functions_in (item.Enum at name values) = []
functions_in (item.Proto outer head) = []
functions_in (item.Function head body) = cond (is_main head) [] (head ∷ [])
functions_in (item.Declare d) = []

-- the heads of the functions, of each name the first, without `main`
abbrev pub function_heads : List Item → List Head
function_heads items = firsts head_name [] (each_of functions_in items)

abbrev pub functions_of : List Item → List FunctionDef
functions_of items = map (function_of (map defined_name (struct_definitions items))) (function_heads items)

-- the head of the first `main`
abbrev pub main_head : List Item → Option Head
main_head [] = None
main_head (item.Struct at name fields ∷ is) = main_head is
main_head (item.Enum at name values ∷ is) = main_head is
main_head (item.Proto outer head ∷ is) = main_head is
main_head (item.Function head body ∷ is) = cond (is_main head) (Some head) (main_head is)
main_head (item.Declare d ∷ is) = main_head is

abbrev pub maybe_function_of : List Text → Option Head → Option FunctionDef
maybe_function_of names None = None
maybe_function_of names (Some h) = Some (function_of names h)

abbrev pub main_of : List Item → Option FunctionDef
main_of items = maybe_function_of (map defined_name (struct_definitions items)) (main_head items)

-- Calls of a file: functions by their numbers, and `main` after them

abbrev pub names_of_calls : List Item → List Text
names_of_calls items = map head_name (function_heads items) ++ codes "main" ∷ []

-- the body of the first function of this name
abbrev pub body_named : Text → List Item → Option Block
body_named x [] = None
body_named x (item.Struct at name fields ∷ is) = body_named x is
body_named x (item.Enum at name values ∷ is) = body_named x is
body_named x (item.Proto outer head ∷ is) = body_named x is
body_named x (item.Function head body ∷ is) = cond (same x head.name.text) (Some body) (body_named x is)
body_named x (item.Declare d ∷ is) = body_named x is

abbrev pub maybe_number : Option ℕ → List ℕ
maybe_number None = []
maybe_number (Some n) = n ∷ []

-- the numbers of those that are among these names
abbrev pub numbers_among : List Text → List Text → List ℕ
numbers_among names xs = each_of (λ x. maybe_number (number_of x names)) xs

abbrev pub body_callees : Option Block → List Text
body_callees None = []
body_callees (Some b) = block_callees b

-- for each function, and for `main`, the functions that its body calls
abbrev pub calls_of : List Item → List (List ℕ)
calls_of items =
    map (λ x. numbers_among (names_of_calls items) (body_callees (body_named x items))) (names_of_calls items)

abbrev pub globals_of : List Item → Globals
globals_of items = record {
  structs = structs_of items;
  enums = enums_of items;
  values = values_of items;
  functions = functions_of items;
  main = main_of items;
  calls = calls_of items;
}

-- What a name means

abbrev pub struct_name : StructDef → Text
struct_name s = s.name

abbrev pub struct_names : Globals → List Text
struct_names g = map struct_name g.structs

-- two structs that are defined, and are not the same
abbrev pub differ : Option ℕ → Option ℕ → Bool
differ None t = false
differ (Some s) None = false
differ (Some s) (Some t) = not (nat_eq s t)

-- the number of the struct of this name
abbrev pub struct_number : Globals → Text → Option ℕ
struct_number g x = number_of x (struct_names g)

abbrev pub function_name : FunctionDef → Text
function_name f = f.name

-- the number of the function of this name; `main` has none
abbrev pub function_number : Globals → Text → Option ℕ
function_number g x = number_of x (map function_name g.functions)

abbrev pub maybe_result : Option FunctionDef → Option Kind
maybe_result None = None
maybe_result (Some f) = f.result

-- what the function of this number returns: nothing, or a value of this kind
abbrev pub result_at : Globals → ℕ → Option Kind
result_at g n = maybe_result (slice_get g.functions n)

abbrev pub value_in : Text → List Enumerator → Option ℕ
value_in x [] = None
value_in x (v ∷ vs) = cond (same x v.name) (Some v.value) (value_in x vs)

-- the value of the enumerator of this name
abbrev pub value_of : Globals → Text → Option ℕ
value_of g x = value_in x g.values

-- the fields of the struct of this number
abbrev pub fields_of : List StructDef → ℕ → List Member
fields_of [] n = []
fields_of (s ∷ ss) zero = s.fields
fields_of (s ∷ ss) (suc n) = fields_of ss n

abbrev pub use_as : Kind → ℕ → ℕ → FieldUse
use_as (Points to) ptrs datums = use_of.Pointer ptrs to
use_as Datum ptrs datums = use_of.Datum datums

abbrev pub one_pointer_more : Kind → ℕ → ℕ
one_pointer_more (Points to) n = suc n
one_pointer_more Datum n = n

abbrev pub one_datum_more : Kind → ℕ → ℕ
one_datum_more (Points to) n = n
one_datum_more Datum n = suc n

-- the field of this name, after so many pointers and so many data
abbrev pub use_in : Text → ℕ → ℕ → List Member → Option FieldUse
use_in x ptrs datums [] = None
use_in x ptrs datums (m ∷ ms) =
    cond (same x m.name) (Some (use_as m.kind ptrs datums))
    (use_in x (one_pointer_more m.kind ptrs) (one_datum_more m.kind datums) ms)

-- the field of this name of the struct of this number; pointers and data are numbered apart
abbrev pub field_use : Globals → ℕ → Text → Option FieldUse
field_use g shape x = use_in x 0 0 (fields_of g.structs shape)
