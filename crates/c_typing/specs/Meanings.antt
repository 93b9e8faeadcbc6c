-- What paths and operands are.
use Rattle.std.specs.Prelude.{ℕ, zero, suc, List, [], ◌∷◌, ◌++◌, codes, Option, Some, None}
use Rattle.fore_base.specs.declared.place.Place.{Place}
use Rattle.c_ast.specs.declared.operands.Arrow.{Arrow}
use Rattle.c_ast.specs.declared.operands.Call.{Call, out-Call}
use Rattle.c_ast.specs.declared.operands.Operand.{Operand, Operand-F, out-Operand}
use Rattle.c_ast.specs.declared.operands.Operand.TheOpen as operand
use Rattle.c_ast.specs.declared.operands.Path.{Path}
use Rattle.c_types.specs.declared.program.DataPath.TheVariants.{Var as DataVar, Field as DataField}
use Rattle.c_types.specs.declared.program.Path as program
use Rattle.c_typing.specs.Globals.{Globals, value_of, field_use}
use Rattle.c_typing.specs.Scopes.{Var, Scope, look_up, or_zero}
use Rattle.c_typing.specs.Texts.{Text, number_of}
use Rattle.c_typing.specs.declared.meaning.FieldUse.{FieldUse}
use Rattle.c_typing.specs.declared.meaning.FieldUse.TheVariants as use_of
use Rattle.c_typing.specs.declared.meaning.Kind.{Kind}
use Rattle.c_typing.specs.declared.meaning.Kind.TheVariants.{Points, Datum as DatumKind}
use Rattle.c_typing.specs.declared.meaning.Meaning.{Meaning}
use Rattle.c_typing.specs.declared.meaning.Meaning.TheVariants.{Pointer, Datum, Known, Zero, Null, Call as CallThere}
use Rattle.c_typing.specs.declared.meaning.Meaning.TheVariants.{Broken}

-- the variable of this kind and number
abbrev pub variable : Kind → ℕ → Meaning
variable (Points to) number = Pointer (record { var = number; fields = [] }) to
variable DatumKind number = Datum (DataVar number)

abbrev pub value_meaning : Option ℕ → Meaning
value_meaning None = Broken
value_meaning (Some k) = Known k

abbrev pub name_meaning : Option Var → Option ℕ → Meaning
name_meaning (Some v) value = variable v.kind v.number
name_meaning None value = value_meaning value

-- a name is the innermost variable in scope, else the enumerator
abbrev pub meaning_of_name : Globals → Scope → Text → Meaning
meaning_of_name g scope x = name_meaning (look_up scope x) (value_of g x)

-- the pointer that one more pointer field leads to
abbrev pub longer : program.Path → ℕ → program.Path
longer p field = record { var = p.var; fields = p.fields ++ field ∷ [] }

abbrev pub field_meaning : program.Path → Option FieldUse → Meaning
field_meaning p None = Broken
field_meaning p (Some (use_of.Pointer number to)) = Pointer (longer p number) to
field_meaning p (Some (use_of.Datum number)) = Datum (DataField p number)

-- what one arrow leads to
abbrev pub followed : Globals → Meaning → Text → Meaning
followed g (Pointer p (Some shape)) x = field_meaning p (field_use g shape x)
followed g (Pointer p None) x = Broken
followed g (Datum d) x = Broken
followed g (Known k) x = Broken
followed g Zero x = Broken
followed g Null x = Broken
followed g CallThere x = Broken
followed g Broken x = Broken

-- what arrows lead to, one after the other
abbrev pub all_followed : Globals → Meaning → List Arrow → Meaning
all_followed g m [] = m
all_followed g m (a ∷ rest) = all_followed g (followed g m a.field.text) rest

abbrev pub meaning_of_path : Globals → Scope → Path → Meaning
meaning_of_path g scope p = all_followed g (meaning_of_name g scope p.head.text) p.arrows

-- the numbers that may be written, 0 to 15
abbrev pub numerals : List Text
numerals =
    codes "0" ∷ codes "1" ∷ codes "2" ∷ codes "3" ∷ codes "4" ∷ codes "5" ∷ codes "6" ∷ codes "7" ∷ codes "8"
    ∷ codes "9" ∷ codes "10" ∷ codes "11"
    ∷ codes "12" ∷ codes "13" ∷ codes "14" ∷ codes "15" ∷ []

-- the number that is written so
abbrev pub numeral : Text → ℕ
numeral x = or_zero (number_of x numerals)

-- 0 is a datum and a null pointer
abbrev pub number_meaning : ℕ → Meaning
number_meaning zero = Zero
number_meaning (suc k) = Known (suc k)

-- `true` is 1 and `false` is 0, both data
abbrev pub operand_meaning : Globals → Scope → Operand-F Operand Call → Meaning
operand_meaning g scope (operand.Path p) = meaning_of_path g scope p
operand_meaning g scope (operand.Call c) = CallThere
operand_meaning g scope (operand.Number n) = number_meaning (numeral n.text)
operand_meaning g scope (operand.Null at) = Null
operand_meaning g scope (operand.True at) = Known 1
operand_meaning g scope (operand.False at) = Known 0

abbrev pub meaning_of_operand : Globals → Scope → Operand → Meaning
meaning_of_operand g scope o = operand_meaning g scope (out-Operand o)

-- the place of its first token
abbrev pub operand_place : Operand-F Operand Call → Place
operand_place (operand.Path p) = p.head.at
operand_place (operand.Call c) = (out-Call c).name.at
operand_place (operand.Number n) = n.at
operand_place (operand.Null at) = at
operand_place (operand.True at) = at
operand_place (operand.False at) = at

abbrev pub place_of_operand : Operand → Place
place_of_operand o = operand_place (out-Operand o)
