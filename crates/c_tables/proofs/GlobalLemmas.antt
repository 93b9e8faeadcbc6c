-- What the items define, from its parts.
use Rattle.std.proofs.Common.{◌≡◌, ℕ, List, Option, map, refl, ap, ◌∙◌}
use Rattle.c_ast.specs.declared.items.Item.{Item}
use Rattle.c_typing.specs.Globals.{Globals, calls_of, defined_name, enums_of, function_heads, function_of, globals_of}
use Rattle.c_typing.specs.Globals.{main_head, maybe_function_of, struct_definitions, struct_name, structs_of, values_of}
use Rattle.c_typing.specs.Texts.{Text}
use Rattle.c_typing.proofs.Firsts.{names_of_structs}
use Rattle.c_typing.specs.declared.meaning.FunctionDef.{FunctionDef}
use Rattle.c_defined.specs.Defined.{Defined}

abbrev pub globals : Defined → List FunctionDef → Option FunctionDef → List (List ℕ) → Globals
globals d functions main calls = record {
  structs = d.structs;
  enums = d.enums;
  values = d.values;
  functions = functions;
  main = main;
  calls = calls;
}

pub from_parts : (items : List Item) (d : Defined) (names : List Text) (functions : List FunctionDef)
    (main : Option FunctionDef) (calls : List (List ℕ)) →
    d.structs ≡ structs_of items → d.enums ≡ enums_of items → d.values ≡ values_of items →
    names ≡ map struct_name d.structs →
    functions ≡ map (function_of names) (function_heads items) →
    main ≡ maybe_function_of names (main_head items) →
    calls ≡ calls_of items →
    globals d functions main calls ≡ globals_of items
from_parts items d names functions main calls structs enums values named heads head called =
    let own : names ≡ map defined_name (struct_definitions items) =
    named ∙ ap (map struct_name) structs
    ∙ names_of_structs (map defined_name (struct_definitions items)) (struct_definitions items) in
    let all : functions ≡ map (function_of (map defined_name (struct_definitions items))) (function_heads items) =
    heads ∙ ap (λ (ns : List Text). map (function_of ns) (function_heads items)) own in
    let one : main ≡ maybe_function_of (map defined_name (struct_definitions items)) (main_head items) =
    head ∙ ap (λ (ns : List Text). maybe_function_of ns (main_head items)) own in
    rw (structs, enums, values, all, one, called) refl
