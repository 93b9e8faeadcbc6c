-- The places of a body where a rule may be broken, in the order of the text, and the places of its statements.
use Rattle.std.specs.Prelude.{Bool, true, List, [], ◌∷◌, ◌++◌, map, Option, Some, None, is_some}
use Rattle.fore_base.specs.declared.place.Place.{Place}
use Rattle.c_ast.specs.declared.conditions.Cond.{Cond}
use Rattle.c_ast.specs.declared.operands.Call.{out-Call}
use Rattle.c_ast.specs.declared.simples.Simple.{Simple}
use Rattle.c_ast.specs.declared.simples.Simple.TheVariants as simple
use Rattle.c_ast.specs.declared.statements.Block.{Block, para-Block, fold-Block, Block-F}
use Rattle.c_ast.specs.declared.statements.Data.{Data}
use Rattle.c_ast.specs.declared.statements.Data.TheVariants as data'
use Rattle.c_ast.specs.declared.statements.Declarator.{Declarator}
use Rattle.c_ast.specs.declared.statements.Declare.{Declare}
use Rattle.c_ast.specs.declared.statements.Declare.TheVariants as declare
use Rattle.c_ast.specs.declared.statements.First.{First}
use Rattle.c_ast.specs.declared.statements.First.TheVariants as first
use Rattle.c_ast.specs.declared.statements.Part as part
use Rattle.c_ast.specs.declared.statements.Part.TheOpen as stmt
use Rattle.c_ast.specs.declared.statements.Stmt.{Stmt, para-Stmt, fold-Stmt, Stmt-F}
use Rattle.c_typing.specs.Globals.{Globals}
use Rattle.c_typing.specs.Scopes.{Scope, innermost, var_name, declared_so_far, opened, declared, kind_of}
use Rattle.c_typing.specs.Scopes.{declarators_of, past_first, past_part, past_stmt}
use Rattle.c_typing.specs.Sites.{Site, UsesStruct, UsesEnum, Defines, Returns, Jumps, Variable, want_of_kind}
use Rattle.c_typing.specs.Sites.{want_of_return, wanted_sites, rhs_sites, simple_sites, cond_sites}
use Rattle.c_typing.specs.Texts.{joined}
use Rattle.c_typing.specs.declared.meaning.Kind.{Kind}
use Rattle.c_typing.specs.declared.meaning.Spot.TheVariants.{Elsewhere}

-- the sites of what may be missing
abbrev pub maybe_sites : {X : Type 0} → (X → List Site) → Option X → List Site
maybe_sites f None = []
maybe_sites f (Some x) = f x

-- `int` or the name of an enumeration
abbrev pub data_sites : Data → List Site
data_sites (data'.Int at) = []
data_sites (data'.Enum at name) = UsesEnum name ∷ []

-- the type in a declaration
abbrev pub type_sites : Declare → List Site
type_sites (declare.Pointers at name vars) = UsesStruct name ∷ []
type_sites (declare.Datums base vars) = data_sites base

module _ (g : Globals) where
  -- Declarations. A variable is in scope from its own declarator on, also in its own initialiser.

  abbrev pub declarator_sites : Kind → Scope → Declarator → List Site
  declarator_sites kind scope d =
      Defines Variable d.name (map var_name (innermost scope.blocks)) (declared_so_far scope)
      ∷ maybe_sites (rhs_sites g (declared scope d.name.text kind) (want_of_kind kind)) d.from

  abbrev pub declarators_sites : Kind → List Declarator → Scope → List Site
  declarators_sites kind [] scope = []
  declarators_sites kind (d ∷ ds) scope = declarator_sites kind scope d
      ++ declarators_sites kind ds (declared scope d.name.text kind)

  abbrev pub declare_sites : Declare → Scope → List Site
  declare_sites d scope = type_sites d ++ declarators_sites (kind_of g d) (declarators_of d) scope

  abbrev pub first_sites : First → Scope → List Site
  first_sites (first.Declare d) scope = declare_sites d scope
  first_sites (first.Simple s) scope = simple_sites g scope s
  first_sites first.Nothing scope = []

  -- Statements, given whether a loop is open and what is in scope

  abbrev pub Sites : Type 0
  Sites = Bool → Scope → List Site

  abbrev pub part_step : part.Part-F (part.Part × Sites) (Stmt × Sites) (Block × Sites) → Sites
  part_step (stmt.Declare d) loop scope = declare_sites d scope
  part_step (stmt.Stmt s) loop scope = s.1 loop scope

  -- parts of a block, each in the scope that those before it leave
  abbrev pub each_sites : List (part.Part × Sites) → Sites
  each_sites [] loop scope = []
  each_sites (p ∷ ps) loop scope = p.1 loop scope ++ each_sites ps loop (past_part g p.0 scope)

  abbrev pub block_step : Block-F (part.Part × Sites) (Stmt × Sites) (Block × Sites) → Sites
  block_step b loop scope = each_sites b.parts loop (opened scope)

  abbrev pub else_sites : Option (Stmt × Sites) → Sites
  else_sites None loop scope = []
  else_sites (Some s) loop scope = s.1 loop scope

  -- the parts of a `for` after what stands first in its head
  abbrev pub rest_sites : Option Cond → Option Simple → (Stmt × Sites) → Scope → List Site
  rest_sites c next body scope = maybe_sites (cond_sites g scope) c ++ maybe_sites (simple_sites g scope) next
      ++ body.1 true scope

  -- `return` wants what the function around gives
  abbrev pub stmt_step : Stmt-F (part.Part × Sites) (Stmt × Sites) (Block × Sites) → Sites
  stmt_step (stmt.Empty at) loop scope = []
  stmt_step (stmt.Block b) loop scope = b.1 loop scope
  stmt_step (stmt.Simple s) loop scope = simple_sites g scope s
  stmt_step (stmt.If at c then_ other) loop scope =
      cond_sites g scope c ++ then_.1 loop scope ++ else_sites other loop (past_stmt g then_.0 scope)
  stmt_step (stmt.While at c body) loop scope = cond_sites g scope c ++ body.1 true scope
  stmt_step (stmt.Do at body c) loop scope = body.1 true scope ++ cond_sites g scope c
  stmt_step (stmt.For at f c next body) loop scope =
      first_sites f (opened scope) ++ rest_sites c next body (past_first g f (opened scope))
  stmt_step (stmt.Return at o) loop scope =
      Returns scope.home (is_some o) at ∷ maybe_sites (wanted_sites g scope Elsewhere (want_of_return g scope.home)) o
  stmt_step (stmt.Break at) loop scope = Jumps loop at ∷ []
  stmt_step (stmt.Continue at) loop scope = Jumps loop at ∷ []
  stmt_step (stmt.Assert at c) loop scope = cond_sites g scope c

  abbrev pub part_sites : part.Part → Sites
  part_sites = part.para-Part Sites Sites Sites part_step stmt_step block_step

  abbrev pub stmt_sites : Stmt → Sites
  stmt_sites = para-Stmt Sites Sites Sites part_step stmt_step block_step

  abbrev pub block_sites : Block → Sites
  block_sites = para-Block Sites Sites Sites part_step stmt_step block_step

  abbrev pub parts_sites : List part.Part → Sites
  parts_sites [] loop scope = []
  parts_sites (p ∷ ps) loop scope = part_sites p loop scope ++ parts_sites ps loop (past_part g p scope)

  abbrev pub other_sites : Option Stmt → Sites
  other_sites None loop scope = []
  other_sites (Some s) loop scope = stmt_sites s loop scope

-- Where statements and declarations begin, outer ones first. A declaration in the head of a `for` counts; what else
-- stands there does not.

abbrev pub data_place : Data → Place
data_place (data'.Int at) = at
data_place (data'.Enum at name) = at

abbrev pub declare_place : Declare → Place
declare_place (declare.Pointers at name vars) = at
declare_place (declare.Datums base vars) = data_place base

abbrev pub simple_place : Simple → Place
simple_place (simple.Assign to from) = to.head.at
simple_place (simple.Call c) = (out-Call c).name.at
simple_place (simple.Free at path) = at

abbrev pub first_places : First → List Place
first_places (first.Declare d) = declare_place d ∷ []
first_places (first.Simple s) = []
first_places first.Nothing = []

abbrev pub else_places : Option (List Place) → List Place
else_places None = []
else_places (Some places) = places

-- a block that is a statement, and what is in it
pub record BlockPlaces : Type 0 where
  pub at : Place
  pub within : List Place

abbrev pub part_places_step : part.Part-F (List Place) (List Place) BlockPlaces → List Place
part_places_step (stmt.Declare d) = declare_place d ∷ []
part_places_step (stmt.Stmt s) = s

abbrev pub block_places_step : Block-F (List Place) (List Place) BlockPlaces → BlockPlaces
block_places_step b = record { at = b.at; within = joined b.parts }

abbrev pub stmt_places_step : Stmt-F (List Place) (List Place) BlockPlaces → List Place
stmt_places_step (stmt.Empty at) = at ∷ []
stmt_places_step (stmt.Block b) = b.at ∷ b.within
stmt_places_step (stmt.Simple s) = simple_place s ∷ []
stmt_places_step (stmt.If at c then_ other) = at ∷ then_ ++ else_places other
stmt_places_step (stmt.While at c body) = at ∷ body
stmt_places_step (stmt.Do at body c) = at ∷ body
stmt_places_step (stmt.For at f c next body) = at ∷ first_places f ++ body
stmt_places_step (stmt.Return at o) = at ∷ []
stmt_places_step (stmt.Break at) = at ∷ []
stmt_places_step (stmt.Continue at) = at ∷ []
stmt_places_step (stmt.Assert at c) = at ∷ []

abbrev pub part_places : part.Part → List Place
part_places = part.fold-Part (List Place) (List Place) BlockPlaces part_places_step stmt_places_step block_places_step

abbrev pub stmt_places : Stmt → List Place
stmt_places = fold-Stmt (List Place) (List Place) BlockPlaces part_places_step stmt_places_step block_places_step

abbrev pub block_places : Block → BlockPlaces
block_places = fold-Block (List Place) (List Place) BlockPlaces part_places_step stmt_places_step block_places_step

abbrev pub other_places : Option Stmt → List Place
other_places None = []
other_places (Some s) = stmt_places s
