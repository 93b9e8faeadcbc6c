-- Rows on what the items of a file define.
use Rattle.std.proofs.Common.{◌≡◌, List, [], ◌∷◌, Some, None, codes, refl, map}
use Rattle.c_ast.specs.declared.items.Field.TheVariants as field
use Rattle.c_ast.specs.declared.items.Item.{Item}
use Rattle.c_ast.specs.declared.items.Item.TheVariants as item
use Rattle.c_ast.specs.declared.items.Param.TheVariants as param
use Rattle.c_ast.specs.declared.items.Params.TheVariants as params
use Rattle.c_ast.specs.declared.items.ReturnType.TheVariants as gives
use Rattle.c_ast.specs.declared.statements.Data.TheVariants as data'
use Rattle.c_typing.specs.Globals.{globals_of, struct_number, value_of, field_use, function_number}
use Rattle.c_typing.specs.declared.meaning.FieldUse.TheVariants as use_of
use Rattle.c_typing.specs.declared.meaning.Kind.TheVariants.{Points, Datum}
use Rattle.c_typing.proofs.Rows.Forms.{at, name, block, head, file}

-- struct none; struct node { struct node *next; int key; }; struct item { struct node *head; struct item *twin; struct
-- none *lost; int mark; }; enum color { RED, BLUE };
file_of_the_rows : globals_of
    (item.Struct (at 200) (name (codes "none") 201) None
    ∷ item.Struct (at 203) (name (codes "node") 204)
    (Some (field.Pointers (at 206) (name (codes "node") 207) ((name (codes "next") 209) ∷ [])
    ∷ field.Datums (data'.Int (at 211)) ((name (codes "key") 212) ∷ []) ∷ []))
    ∷ item.Struct (at 216) (name (codes "item") 217)
    (Some (field.Pointers (at 219) (name (codes "node") 220) ((name (codes "head") 222) ∷ [])
    ∷ field.Pointers (at 224) (name (codes "item") 225) ((name (codes "twin") 227) ∷ [])
    ∷ field.Pointers (at 229) (name (codes "none") 230) ((name (codes "lost") 232) ∷ [])
    ∷ field.Datums (data'.Int (at 234)) ((name (codes "mark") 235) ∷ []) ∷ []))
    ∷ item.Enum (at 239) (name (codes "color") 240) ((name (codes "RED") 242) ∷ (name (codes "BLUE") 244) ∷ []) ∷ [])
    ≡ file
file_of_the_rows = refl

-- struct a { int x; struct b *y; int x; struct a *z; }; struct b { int w; }; struct a { int q; struct a *y; }; enum e {
-- A, B, A }; enum e { B, C };
abbrev repeated : List Item
repeated = item.Struct (at 200) (name (codes "a") 201)
    (Some (field.Datums (data'.Int (at 203)) ((name (codes "x") 204) ∷ [])
    ∷ field.Pointers (at 206) (name (codes "b") 207) ((name (codes "y") 209) ∷ [])
    ∷ field.Datums (data'.Int (at 211)) ((name (codes "x") 212) ∷ [])
    ∷ field.Pointers (at 214) (name (codes "a") 215) ((name (codes "z") 217) ∷ []) ∷ []))
    ∷ item.Struct (at 221) (name (codes "b") 222)
    (Some (field.Datums (data'.Int (at 224)) ((name (codes "w") 225) ∷ []) ∷ []))
    ∷ item.Struct (at 229) (name (codes "a") 230)
    (Some (field.Datums (data'.Int (at 232)) ((name (codes "q") 233) ∷ [])
    ∷ field.Pointers (at 235) (name (codes "a") 236) ((name (codes "y") 238) ∷ []) ∷ []))
    ∷ item.Enum (at 242) (name (codes "e") 243)
    ((name (codes "A") 245) ∷ (name (codes "B") 247) ∷ (name (codes "A") 249) ∷ [])
    ∷ item.Enum (at 252) (name (codes "e") 253) ((name (codes "B") 255) ∷ (name (codes "C") 257) ∷ []) ∷ []

-- Of two definitions of one name the first counts.
first_struct : struct_number (globals_of repeated) (codes "a") ≡ Some 0
first_struct = refl

second_struct : struct_number (globals_of repeated) (codes "b") ≡ Some 1
second_struct = refl

no_struct : struct_number (globals_of repeated) (codes "e") ≡ None
no_struct = refl

first_field : field_use (globals_of repeated) 0 (codes "x") ≡ Some (use_of.Datum 0)
first_field = refl

pointer_field : field_use (globals_of repeated) 0 (codes "y") ≡ Some (use_of.Pointer 0 (Some 1))
pointer_field = refl

last_pointer_field : field_use (globals_of repeated) 0 (codes "z") ≡ Some (use_of.Pointer 1 (Some 0))
last_pointer_field = refl

field_of_the_second_definition : field_use (globals_of repeated) 0 (codes "q") ≡ None
field_of_the_second_definition = refl

field_of_no_struct : field_use (globals_of repeated) 2 (codes "q") ≡ None
field_of_no_struct = refl

first_value : value_of (globals_of repeated) (codes "A") ≡ Some 0
first_value = refl

second_value : value_of (globals_of repeated) (codes "B") ≡ Some 1
second_value = refl

value_of_the_second_definition : value_of (globals_of repeated) (codes "C") ≡ Some 1
value_of_the_second_definition = refl

no_value : value_of (globals_of repeated) (codes "e") ≡ None
no_value = refl

-- each name once
structs_once : map (λ d. d.name) (globals_of repeated).structs ≡ codes "a" ∷ codes "b" ∷ []
structs_once = refl

enums_once : (globals_of repeated).enums ≡ codes "e" ∷ []
enums_once = refl

values_once : map (λ v. v.name) (globals_of repeated).values ≡ codes "A" ∷ codes "B" ∷ codes "C" ∷ []
values_once = refl

-- enum e { A0, .., A16 };: a datum is at most 15
abbrev many : List Item
many = item.Enum (at 200) (name (codes "e") 201)
    ((name (codes "A0") 203) ∷ (name (codes "A1") 205) ∷ (name (codes "A2") 207) ∷ (name (codes "A3") 209)
    ∷ (name (codes "A4") 211) ∷ (name (codes "A5") 213) ∷ (name (codes "A6") 215) ∷ (name (codes "A7") 217)
    ∷ (name (codes "A8") 219) ∷ (name (codes "A9") 221) ∷ (name (codes "A10") 223) ∷ (name (codes "A11") 225)
    ∷ (name (codes "A12") 227) ∷ (name (codes "A13") 229) ∷ (name (codes "A14") 231) ∷ (name (codes "A15") 233)
    ∷ (name (codes "A16") 235) ∷ []) ∷ []

greatest_value : value_of (globals_of many) (codes "A15") ≡ Some 15
greatest_value = refl

value_too_great : value_of (globals_of many) (codes "A16") ≡ Some 0
value_too_great = refl

-- void f(void) { } int g(int a, struct node *b, enum e c) { } int main(int a) { } struct node *h(struct none *d) { }
-- int f(int a) { } enum e k() { } struct none *m(void); struct node { int key; };
-- A prototype defines nothing, `main` is left out, and the struct may come later.
abbrev several : List Item
several =
    item.Function (head (gives.Void (at 200)) (name (codes "f") 201) (Some (params.Void (at 203)))) (block 205 [] 206)
    ∷ item.Function
    (head (gives.Data (data'.Int (at 207))) (name (codes "g") 208)
    (Some
    (params.List
    (param.Datum (data'.Int (at 210)) (name (codes "a") 211)
    ∷ param.Pointer (at 213) (name (codes "node") 214) (name (codes "b") 216)
    ∷ param.Datum (data'.Enum (at 218) (name (codes "e") 219)) (name (codes "c") 220) ∷ [])))) (block 222 [] 223)
    ∷ item.Function
    (head (gives.Data (data'.Int (at 224))) (name (codes "main") 225)
    (Some (params.List (param.Datum (data'.Int (at 227)) (name (codes "a") 228) ∷ [])))) (block 230 [] 231)
    ∷ item.Function
    (head (gives.Pointer (at 232) (name (codes "node") 233)) (name (codes "h") 235)
    (Some (params.List (param.Pointer (at 237) (name (codes "none") 238) (name (codes "d") 240) ∷ []))))
    (block 242 [] 243)
    ∷ item.Function
    (head (gives.Data (data'.Int (at 244))) (name (codes "f") 245)
    (Some (params.List (param.Datum (data'.Int (at 247)) (name (codes "a") 248) ∷ [])))) (block 250 [] 251)
    ∷ item.Function (head (gives.Data (data'.Enum (at 252) (name (codes "e") 253))) (name (codes "k") 254) None)
    (block 257 [] 258)
    ∷ item.Proto None
    (head (gives.Pointer (at 259) (name (codes "none") 260)) (name (codes "m") 262) (Some (params.Void (at 264))))
    ∷ item.Struct (at 267) (name (codes "node") 268)
    (Some (field.Datums (data'.Int (at 270)) ((name (codes "key") 271) ∷ []) ∷ [])) ∷ []

functions_of_the_rows : (globals_of several).functions
    ≡ record { name = codes "f"; result = None; params = [] }
    ∷ record { name = codes "g"; result = Some Datum; params = Datum ∷ Points (Some 0) ∷ Datum ∷ [] }
    ∷ record { name = codes "h"; result = Some (Points (Some 0)); params = Points None ∷ [] }
    ∷ record { name = codes "k"; result = Some Datum; params = [] } ∷ []
functions_of_the_rows = refl

first_function : function_number (globals_of several) (codes "f") ≡ Some 0
first_function = refl

last_function : function_number (globals_of several) (codes "k") ≡ Some 3
last_function = refl

no_number_of_main : function_number (globals_of several) (codes "main") ≡ None
no_number_of_main = refl

no_number_of_a_prototype : function_number (globals_of several) (codes "m") ≡ None
no_number_of_a_prototype = refl
