-- The places of a file where a rule may be broken, each with what is known there; and those of paths, operands, right
-- sides and conditions, about in the order of the text.
use Rattle.std.specs.Prelude.{ℕ, Bool, true, false, not, List, [], ◌∷◌, ◌++◌, Option, Some, None}
use Rattle.fore_base.specs.declared.place.Place.{Place}
use Rattle.c_ast.specs.declared.conditions.And.{And, fold-And, And-F}
use Rattle.c_ast.specs.declared.conditions.Cond.{Cond, fold-Cond, Cond-F}
use Rattle.c_ast.specs.declared.conditions.Test.{Test, fold-Test, Test-F}
use Rattle.c_ast.specs.declared.conditions.Test.TheOpen as test
use Rattle.c_ast.specs.declared.conditions.Unary.{Unary, fold-Unary, Unary-F}
use Rattle.c_ast.specs.declared.items.Head.{Head}
use Rattle.c_ast.specs.declared.operands.Arrow.{Arrow}
use Rattle.c_ast.specs.declared.operands.Call.{Call, out-Call}
use Rattle.c_ast.specs.declared.operands.Name.{Name}
use Rattle.c_ast.specs.declared.operands.Operand.{Operand, Operand-F, out-Operand}
use Rattle.c_ast.specs.declared.operands.Operand.TheOpen as operand
use Rattle.c_ast.specs.declared.operands.Path.{Path}
use Rattle.c_ast.specs.declared.simples.Cast.{Cast}
use Rattle.c_ast.specs.declared.simples.Rhs.{Rhs}
use Rattle.c_ast.specs.declared.simples.Rhs.TheVariants as rhs
use Rattle.c_ast.specs.declared.simples.Simple.{Simple}
use Rattle.c_ast.specs.declared.simples.Simple.TheVariants as simple
use Rattle.c_ast.specs.declared.simples.Size.{Size}
use Rattle.c_ast.specs.declared.simples.Size.TheVariants as size
use Rattle.c_typing.specs.Functions.{called, params_in}
use Rattle.c_typing.specs.Globals.{Globals, struct_number, result_at}
use Rattle.c_typing.specs.Meanings.{meaning_of_name, meaning_of_path, meaning_of_operand, place_of_operand, followed}
use Rattle.c_typing.specs.Profile.{is_allowed}
use Rattle.c_typing.specs.Scopes.{Scope}
use Rattle.c_typing.specs.Texts.{Text, is_empty, joined}
pub use Rattle.c_typing.specs.declared.meaning.Family.{Family}
pub use Rattle.c_typing.specs.declared.meaning.Family.TheVariants.{Struct, Enum, Value, Member, Variable, Function}
pub use Rattle.c_typing.specs.declared.meaning.Family.TheVariants.{Parameter}
use Rattle.c_typing.specs.declared.meaning.FunctionDef.{FunctionDef}
use Rattle.c_typing.specs.declared.meaning.Kind.{Kind}
use Rattle.c_typing.specs.declared.meaning.Kind.TheVariants.{Points, Datum as DatumKind}
use Rattle.c_typing.specs.declared.meaning.Meaning.{Meaning}
use Rattle.c_typing.specs.declared.meaning.Meaning.TheVariants as meaning
use Rattle.c_typing.specs.declared.meaning.Want.{Want}
use Rattle.c_typing.specs.declared.meaning.Want.TheVariants.{Pointer as APointer, Datum as ADatum, Either}
use Rattle.c_typing.specs.declared.meaning.Spot.{Spot}
use Rattle.c_typing.specs.declared.meaning.Spot.TheVariants.{Statement, Condition, Right, Elsewhere}

pub data Site : Type 0 where
  -- a struct is named
  UsesStruct : Name → Site
  -- an enumeration is named
  UsesEnum : Name → Site
  -- a name is defined: with the names that it may not repeat, and how many are counted before it
  Defines : Family → Name → List Text → ℕ → Site
  -- the name with which a path begins, and whether it has to be a variable
  Begins : Scope → Bool → Name → Site
  -- an arrow follows what this is
  Follows : Meaning → Arrow → Site
  -- the `*` of a `sizeof`, before what this is
  Measures : Place → Meaning → Site
  -- an operand at this place, where something is wanted
  Stands : Want → Place → Meaning → Site
  -- a right side that is a choice
  Chooses : Want → Place → Site
  -- a right side that is a call of a function of the file, and what this gives
  Gives : Want → Place → Option Kind → Site
  -- a `malloc`
  Allocates : Want → Place → Site
  -- the struct in the cast of a `malloc`
  Casts : Want → Name → Site
  -- the `sizeof` of the struct of this number
  Sizes : Want → Place → Option ℕ → Site
  -- a call, with the function around in the scope
  Calls : Scope → Spot → Name → List Operand → Site
  -- a `break` or `continue`, and whether a loop is open
  Jumps : Bool → Place → Site
  -- a `return`: the function around, none being `main`, and whether it has an operand
  Returns : Option ℕ → Bool → Place → Site
  -- the statements and declarations in the block of a function, in order
  Counts : List Place → Site
  -- a prototype
  Declares : Head → Site
  -- a definition of a function
  Functions : Head → Site
  -- a global variable
  Globally : Name → Site
  -- the end of the file, and whether main is defined
  Ends : Bool → Place → Site
  -- the first token beyond the greatest number of tokens, if there is one
  Overflows : Option Place → Site

-- What is wanted

abbrev pub want_of_kind : Kind → Want
want_of_kind (Points to) = APointer to
want_of_kind DatumKind = ADatum

abbrev pub want_of_result : Option Kind → Want
want_of_result None = Either
want_of_result (Some k) = want_of_kind k

-- what `return` wants in the function of this number, or in `main`: a datum
abbrev pub want_of_return : Globals → Option ℕ → Want
want_of_return g None = ADatum
want_of_return g (Some f) = want_of_result (result_at g f)

-- what is wanted of the right side, by the target; of a target that breaks a rule nothing is
abbrev pub want_of_target : Meaning → Want
want_of_target (meaning.Pointer p to) = APointer to
want_of_target (meaning.Datum d) = ADatum
want_of_target (meaning.Known k) = Either
want_of_target meaning.Zero = Either
want_of_target meaning.Null = Either
want_of_target meaning.Call = Either
want_of_target meaning.Broken = Either

-- what is wanted of the right operand of a comparison, by the left one
abbrev pub want_of_left : Meaning → Want
want_of_left (meaning.Pointer p to) = APointer to
want_of_left (meaning.Datum d) = ADatum
want_of_left (meaning.Known k) = ADatum
want_of_left meaning.Zero = Either
want_of_left meaning.Null = APointer None
want_of_left meaning.Call = Either
want_of_left meaning.Broken = Either

-- the struct to which this points
abbrev pub struct_at : Meaning → Option ℕ
struct_at (meaning.Pointer p to) = to
struct_at (meaning.Datum d) = None
struct_at (meaning.Known k) = None
struct_at meaning.Zero = None
struct_at meaning.Null = None
struct_at meaning.Call = None
struct_at meaning.Broken = None

module _ (g : Globals) where
  -- Paths

  abbrev pub arrow_sites : Meaning → List Arrow → List Site
  arrow_sites m [] = []
  arrow_sites m (a ∷ rest) = Follows m a ∷ arrow_sites (followed g m a.field.text) rest

  module _ (scope : Scope) where
    abbrev pub path_sites : Bool → Path → List Site
    path_sites to_be_variable p = Begins scope to_be_variable p.head
        ∷ arrow_sites (meaning_of_name g scope p.head.text) p.arrows

    -- a path that is read; the head of an arrow is a variable
    abbrev pub read_sites : Path → List Site
    read_sites p = path_sites (not (is_empty p.arrows)) p

    -- a target
    abbrev pub target_sites : Path → List Site
    target_sites p = path_sites true p

    -- Operands

    abbrev pub call_sites : Spot → Call → List Site
    call_sites spot c = Calls scope spot (out-Call c).name (out-Call c).operands ∷ []

    abbrev pub operand_step : Spot → Operand-F Operand Call → List Site
    operand_step spot (operand.Path p) = read_sites p
    operand_step spot (operand.Call c) = call_sites spot c
    operand_step spot (operand.Number n) = []
    operand_step spot (operand.Null at) = []
    operand_step spot (operand.True at) = []
    operand_step spot (operand.False at) = []

    abbrev pub operand_sites : Spot → Operand → List Site
    operand_sites spot o = operand_step spot (out-Operand o)

    abbrev pub stands : Want → Operand → Site
    stands want o = Stands want (place_of_operand o) (meaning_of_operand g scope o)

    -- an operand where something is wanted
    abbrev pub wanted_sites : Spot → Want → Operand → List Site
    wanted_sites spot want o = operand_sites spot o ++ stands want o ∷ []

    -- what is given to parameters of these kinds; none of the operands is to be a call
    abbrev pub arguments_sites : List Kind → List Operand → List Site
    arguments_sites [] os = []
    arguments_sites (k ∷ ks) [] = []
    arguments_sites (k ∷ ks) (o ∷ os) = wanted_sites Elsewhere (want_of_kind k) o ++ arguments_sites ks os

    -- what is given to a function of the file
    abbrev pub argument_sites : Call → List Site
    argument_sites c = arguments_sites (params_in (called g (out-Call c).name.text)) (out-Call c).operands

    -- Right sides

    abbrev pub choice_at : Want → Place → Bool → List Site
    choice_at want at true = Chooses want at ∷ []
    choice_at want at false = []

    abbrev pub result_at_call : Want → Place → Option FunctionDef → List Site
    result_at_call want at None = []
    result_at_call want at (Some f) = Gives want at f.result ∷ []

    -- a call gives a choice, or the result of a function of the file
    abbrev pub value_sites : Want → Call → List Site
    value_sites want c =
        choice_at want (out-Call c).name.at (is_allowed g scope Right (out-Call c).name.text (out-Call c).operands)
        ++ result_at_call want (out-Call c).name.at (called g (out-Call c).name.text)

    abbrev pub right_step : Want → Operand → Operand-F Operand Call → List Site
    right_step want o (operand.Path p) = wanted_sites Right want o
    right_step want o (operand.Call c) = value_sites want c ++ call_sites Right c ++ argument_sites c
    right_step want o (operand.Number n) = wanted_sites Right want o
    right_step want o (operand.Null at) = wanted_sites Right want o
    right_step want o (operand.True at) = wanted_sites Right want o
    right_step want o (operand.False at) = wanted_sites Right want o

    abbrev pub right_sites : Want → Operand → List Site
    right_sites want o = right_step want o (out-Operand o)

    abbrev pub cast_sites : Want → Option Cast → List Site
    cast_sites want None = []
    cast_sites want (Some c) = UsesStruct c.name ∷ Casts want c.name ∷ []

    abbrev pub starred_sites : Want → Place → Place → Path → List Site
    starred_sites want at star p =
        read_sites p ++ Measures star (meaning_of_path g scope p)
        ∷ Sizes want at (struct_at (meaning_of_path g scope p)) ∷ []

    abbrev pub size_sites : Want → Size → List Site
    size_sites want (size.Struct at name) = Sizes want at (struct_number g name.text) ∷ UsesStruct name ∷ []
    size_sites want (size.Bracketed at star p) = starred_sites want at star p
    size_sites want (size.Bare at star p) = starred_sites want at star p

    abbrev pub rhs_sites : Want → Rhs → List Site
    rhs_sites want (rhs.Operand o) = right_sites want o
    rhs_sites want (rhs.Malloc cast at size) = cast_sites want cast ++ Allocates want at ∷ size_sites want size

    -- Statements without parts

    abbrev pub simple_sites : Simple → List Site
    simple_sites (simple.Assign to from) =
        target_sites to ++ rhs_sites (want_of_target (meaning_of_path g scope to)) from
    simple_sites (simple.Call c) = call_sites Statement c ++ argument_sites c
    simple_sites (simple.Free at p) = read_sites p ++ Stands (APointer None) p.head.at (meaning_of_path g scope p) ∷ []

    -- Conditions: anything but a call that gives no choice may stand alone

    abbrev pub compare_sites : Operand → Operand → List Site
    compare_sites left right = operand_sites Elsewhere left
        ++ wanted_sites Elsewhere (want_of_left (meaning_of_operand g scope left)) right

    abbrev pub test_step : Test-F (List Site) (List Site) (List Site) (List Site) → List Site
    test_step (test.Compare left equal right) = compare_sites left right
    test_step (test.Unary u) = u

    abbrev pub unary_step : Unary-F (List Site) (List Site) (List Site) (List Site) → List Site
    unary_step (test.Not at u) = u
    unary_step (test.Bracket at c) = c
    unary_step (test.Operand o) = operand_sites Condition o

    abbrev pub and_step : And-F (List Site) (List Site) (List Site) (List Site) → List Site
    and_step a = joined a.tests

    abbrev pub cond_step : Cond-F (List Site) (List Site) (List Site) (List Site) → List Site
    cond_step c = joined c.ands

    abbrev pub test_sites : Test → List Site
    test_sites = fold-Test (List Site) (List Site) (List Site) (List Site) test_step unary_step and_step cond_step

    abbrev pub unary_sites : Unary → List Site
    unary_sites = fold-Unary (List Site) (List Site) (List Site) (List Site) test_step unary_step and_step cond_step

    abbrev pub and_sites : And → List Site
    and_sites = fold-And (List Site) (List Site) (List Site) (List Site) test_step unary_step and_step cond_step

    abbrev pub cond_sites : Cond → List Site
    cond_sites = fold-Cond (List Site) (List Site) (List Site) (List Site) test_step unary_step and_step cond_step
