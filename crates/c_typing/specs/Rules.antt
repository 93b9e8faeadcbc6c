-- The rules: for each, the places at which a site breaks it. `g` is what the file defines.
use Rattle.std.specs.Prelude.{ℕ, Bool, true, false, not, ◌&&◌, ◌||◌, nat_eq, List, [], ◌∷◌, Option, Some, None, is_some}
use Rattle.std.specs.Prelude.{is_none, slice_get}
use Rattle.fore_base.specs.declared.limits.TheConstants.{STRUCTS, FIELDS, VARIABLES, ENUMERATORS, STATEMENTS}
use Rattle.fore_base.specs.declared.place.Place.{Place}
use Rattle.c_typing.specs.Functions.{called, is_called, is_counted, is_right_prototype, recurs}
use Rattle.c_typing.specs.Globals.{Globals, struct_number, value_of, field_use, is_main, result_at}
pub use Rattle.c_typing.specs.Globals.{differ}
use Rattle.c_typing.specs.Profile.{given, is_allowed, is_main_head}
use Rattle.c_typing.specs.Scopes.{look_up}
use Rattle.c_typing.specs.Sites.{Struct, Value, Member, Variable, Function, Site, UsesStruct, UsesEnum, Defines, Begins}
use Rattle.c_typing.specs.Sites.{Follows, Measures, Stands, Chooses, Gives, Allocates, Casts, Sizes, Calls, Jumps}
use Rattle.c_typing.specs.Sites.{Returns, Counts, Declares, Functions, Globally, Ends, Overflows, struct_at}
use Rattle.c_typing.specs.Texts.{has}
use Rattle.c_typing.specs.declared.limits.TheConstants.{FUNCTIONS}
use Rattle.c_typing.specs.declared.meaning.Kind.{Kind}
use Rattle.c_typing.specs.declared.meaning.Kind.TheVariants.{Points, Datum as DatumKind}
use Rattle.c_typing.specs.declared.meaning.Meaning.{Meaning}
use Rattle.c_typing.specs.declared.meaning.Meaning.TheVariants as meaning
use Rattle.c_typing.specs.declared.meaning.Want.{Want}
use Rattle.c_typing.specs.declared.meaning.Want.TheVariants.{Pointer as APointer, Datum as ADatum, Either}

-- this place, where the test holds
abbrev pub when : Bool → Place → List Place
when true at = at ∷ []
when false at = []

abbrev pub maybe_place : Option Place → List Place
maybe_place None = []
maybe_place (Some at) = at ∷ []

-- the struct to which a pointer is wanted
abbrev pub wanted_struct : Want → Option ℕ
wanted_struct (APointer to) = to
wanted_struct ADatum = None
wanted_struct Either = None

abbrev pub wants_pointer : Want → Bool
wants_pointer (APointer to) = true
wants_pointer ADatum = false
wants_pointer Either = false

abbrev pub wants_datum : Want → Bool
wants_datum (APointer to) = false
wants_datum ADatum = true
wants_datum Either = false

-- data, and no pointer: 0 is both
abbrev pub is_datum : Meaning → Bool
is_datum (meaning.Pointer p to) = false
is_datum (meaning.Datum d) = true
is_datum (meaning.Known k) = true
is_datum meaning.Zero = false
is_datum meaning.Null = false
is_datum meaning.Call = false
is_datum meaning.Broken = false

-- a pointer or NULL, and no datum
abbrev pub is_pointer : Meaning → Bool
is_pointer (meaning.Pointer p to) = true
is_pointer (meaning.Datum d) = false
is_pointer (meaning.Known k) = false
is_pointer meaning.Zero = false
is_pointer meaning.Null = true
is_pointer meaning.Call = false
is_pointer meaning.Broken = false

abbrev pub lacks_field : Globals → Meaning → List ℕ → Bool
lacks_field g (meaning.Pointer p (Some shape)) x = not (is_some (field_use g shape x))
lacks_field g _ x = false

-- the struct to which the result of a function points
abbrev pub result_struct : Option Kind → Option ℕ
result_struct None = None
result_struct (Some (Points to)) = to
result_struct (Some DatumKind) = None

abbrev pub gives_datum : Option Kind → Bool
gives_datum None = false
gives_datum (Some (Points to)) = false
gives_datum (Some DatumKind) = true

abbrev pub gives_pointer : Option Kind → Bool
gives_pointer None = false
gives_pointer (Some (Points to)) = true
gives_pointer (Some DatumKind) = false

-- a function returns a value exactly where it has a result; `main` may leave it out
abbrev pub may_return : Globals → Option ℕ → Bool → Bool
may_return g None operand = true
may_return g (Some f) true = is_some (result_at g f)
may_return g (Some f) false = not (is_some (result_at g f))

module _ (g : Globals) where
  -- T1: a struct that is not defined, at its name
  abbrev pub t1 : Site → List Place
  t1 (UsesStruct name) = when (not (is_some (struct_number g name.text))) name.at
  t1 _ = []

  -- T2: a field that the struct does not have, at the field's name
  abbrev pub t2 : Site → List Place
  t2 (Follows m a) = when (lacks_field g m a.field.text) a.field.at
  t2 _ = []

  -- T3: a name that is neither a variable in scope nor an enumerator; an enumerator as the head of an arrow or as a
  -- target; at the name
  abbrev pub t3 : Site → List Place
  t3 (Begins scope to_be_variable name) =
      when (not (is_some (look_up scope name.text) || (not to_be_variable && is_some (value_of g name.text)))) name.at
  t3 _ = []

  -- T4: an enumeration that is not defined, at its name
  abbrev pub t4 : Site → List Place
  t4 (UsesEnum name) = when (not (has name.text g.enums)) name.at
  t4 _ = []

  -- T5: a second struct, enumeration, enumerator or function of one name, a second field of one struct, a second
  -- variable of one block, a second parameter of one function, at the second name
  abbrev pub t5 : Site → List Place
  t5 (Defines family name earlier count) = when (has name.text earlier) name.at
  t5 _ = []

  -- T6: pointers to different structs in an assignment or comparison, at the right operand, an argument being assigned
  -- to its parameter and a call being what its function returns; or a cast to another struct than the target's, at the
  -- struct's name in the cast
  abbrev pub t6 : Site → List Place
  t6 (Stands want at m) = when (differ (wanted_struct want) (struct_at m)) at
  t6 (Gives want at result) = when (differ (wanted_struct want) (result_struct result)) at
  t6 (Casts want name) = when (differ (wanted_struct want) (struct_number g name.text)) name.at
  t6 _ = []

  -- T7: data where a pointer is wanted, at the operand
  abbrev pub t7 : Site → List Place
  t7 (Stands want at m) = when (wants_pointer want && is_datum m) at
  t7 (Chooses want at) = when (wants_pointer want) at
  t7 (Gives want at result) = when (wants_pointer want && gives_datum result) at
  t7 _ = []

  -- T8: a pointer, NULL or `malloc` where data is wanted, at the operand or the word `malloc`
  abbrev pub t8 : Site → List Place
  t8 (Stands want at m) = when (wants_datum want && is_pointer m) at
  t8 (Allocates want at) = when (wants_datum want) at
  t8 (Gives want at result) = when (wants_datum want && gives_pointer result) at
  t8 _ = []

  -- T9: an arrow or `sizeof *` on data, at the arrow or the `*`
  abbrev pub t9 : Site → List Place
  t9 (Follows (meaning.Datum d) a) = a.at ∷ []
  t9 (Measures star m) = when (is_datum m) star
  t9 _ = []

  -- T10: the size of another struct than the target's, at the word `sizeof`
  abbrev pub t10 : Site → List Place
  t10 (Sizes want at shape) = when (differ (wanted_struct want) shape) at
  t10 _ = []

  -- T11: `break` or `continue` outside a loop, at the word
  abbrev pub t11 : Site → List Place
  t11 (Jumps loop at) = when (not loop) at
  t11 _ = []

  -- T12: no main, at the end of the file
  abbrev pub t12 : Site → List Place
  t12 (Ends main at) = when (not main) at
  t12 _ = []

  -- T13: a call of the function around, or of one that leads to it by calls, at the called name
  abbrev pub t13 : Site → List Place
  t13 (Calls scope spot name operands) = when (recurs g scope.home name.text) name.at
  t13 _ = []

  -- T14: a global variable, at its first name
  abbrev pub t14 : Site → List Place
  t14 (Globally name) = name.at ∷ []
  t14 _ = []

  -- T15: a call, prototype or head of main that is not of the profile, or a definition of a given function, at its name
  abbrev pub t15 : Site → List Place
  t15 (Calls scope spot name operands) =
      when (not (is_allowed g scope spot name.text operands || is_called g spot name.text operands)) name.at
  t15 (Declares h) = when (not (is_right_prototype g h)) h.name.at
  t15 (Functions h) = when (has h.name.text given || (is_main h && not (is_main_head h))) h.name.at
  t15 _ = []

  -- T16: a `return` with an operand in a function without a result, or without one in another function than main that
  -- has a result, at the word
  abbrev pub t16 : Site → List Place
  t16 (Returns home operand at) = when (not (may_return g home operand)) at
  t16 _ = []

  -- T17: a call with another number of arguments than parameters, or of a function without a result as a right side, at
  -- the called name
  abbrev pub t17 : Site → List Place
  t17 (Calls scope spot name operands) = when (not (is_counted (called g name.text) operands)) name.at
  t17 (Gives want at result) = when (is_none result) at
  t17 _ = []

  -- K2: the first struct above the limit, at its name
  abbrev pub k2 : Site → List Place
  k2 (Defines Struct name earlier count) = when (nat_eq count STRUCTS) name.at
  k2 _ = []

  -- K3: the first field of a struct above the limit, at its name
  abbrev pub k3 : Site → List Place
  k3 (Defines Member name earlier count) = when (nat_eq count FIELDS) name.at
  k3 _ = []

  -- K4: the first variable above the limit, at its name
  abbrev pub k4 : Site → List Place
  k4 (Defines Variable name earlier count) = when (nat_eq count VARIABLES) name.at
  k4 _ = []

  -- K5: the first enumerator of an enumeration above the limit, at its name
  abbrev pub k5 : Site → List Place
  k5 (Defines Value name earlier count) = when (nat_eq count ENUMERATORS) name.at
  k5 _ = []

  -- K7: the first statement or declaration above the limit, at its first token
  abbrev pub k7 : Site → List Place
  k7 (Counts places) = maybe_place (slice_get places STATEMENTS)
  k7 _ = []

  -- K8: the first token above the limit
  abbrev pub k8 : Site → List Place
  k8 (Overflows over) = maybe_place over
  k8 _ = []

  -- K10: the first definition of a function above the limit, at its name
  abbrev pub k10 : Site → List Place
  k10 (Defines Function name earlier count) = when (nat_eq count FUNCTIONS) name.at
  k10 _ = []
