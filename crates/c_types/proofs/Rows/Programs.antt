-- Rows on typing: whole programs, with their structs and variables.
use Rattle.std.proofs.Common.{◌≡◌, true, false, List, [], ◌∷◌, refl}
use Rattle.fore_base.specs.declared.shape.Shape.{Shape}
use Rattle.c_types.specs.declared.program.VarDef.{VarDef}
use Rattle.c_types.specs.declared.program.Stmt.{Stmt}
use Rattle.c_types.specs.Program.{Program, is_typed}
use Rattle.c_types.proofs.Layers.{typed_layers}
use Rattle.c_types.proofs.Rows.Forms.{pointer_to, datum, halt}
use Rattle.c_types.proofs.Rows.Typing.{both, variable, program, wrong}

abbrev of : List Shape → List VarDef → List Stmt → Program
of shapes vars body =
    record { shapes = record { structs = shapes }; vars = vars; data_vars = []; funcs = []; body = body }

empty_program : is_typed (of [] [] []) ≡ true
unfolding is_typed
empty_program = refl

field_of_no_struct : is_typed (of (record { name = []; fields = (pointer_to 0 ∷ pointer_to 1 ∷ []) } ∷ []) [] [])
    ≡ false
unfolding is_typed
field_of_no_struct = refl

field_of_the_other_struct :
    is_typed
    (of (record { name = []; fields = (pointer_to 1 ∷ []) } ∷ record { name = []; fields = (datum ∷ []) } ∷ []) [] [])
    ≡ true
unfolding is_typed
field_of_the_other_struct = refl

second_struct_wrong : is_typed
    (of (record { name = []; fields = [] } ∷ record { name = []; fields = (pointer_to 2 ∷ []) } ∷ []) [] []) ≡ false
unfolding is_typed
second_struct_wrong = refl

variable_of_no_struct : is_typed (of [] (variable 0 ∷ []) []) ≡ false
unfolding is_typed
variable_of_no_struct = refl

second_variable_wrong : is_typed (of both (variable 1 ∷ variable 2 ∷ []) []) ≡ false
unfolding is_typed
second_variable_wrong = refl

second_statement_wrong : is_typed (program (halt 1 ∷ wrong ∷ [])) ≡ false
unfolding is_typed
second_statement_wrong = simp typed_layers refl
