-- The sites of assignments, of `free` and of `return`.
use Rattle.std.specs.Prelude.{List, [], ◌∷◌, ◌++◌, Option, None, is_some}
use Rattle.fore_base.specs.declared.place.Place.{Place}
use Rattle.c_ast.specs.declared.operands.Operand.{Operand}
use Rattle.c_ast.specs.declared.operands.Path.{Path}
use Rattle.c_ast.specs.declared.simples.Rhs.{Rhs}
use Rattle.c_typing.specs.BodySites.{maybe_sites}
use Rattle.c_typing.specs.Globals.{Globals}
use Rattle.c_typing.specs.Meanings.{meaning_of_path}
use Rattle.c_typing.specs.Scopes.{Scope}
use Rattle.c_typing.specs.declared.meaning.Want.TheVariants.{Pointer}
use Rattle.c_typing.specs.declared.meaning.Spot.TheVariants.{Elsewhere}
use Rattle.c_typing.specs.Sites.{Site, Returns, Stands, read_sites, rhs_sites, target_sites, wanted_sites}
use Rattle.c_typing.specs.Sites.{want_of_return, want_of_target}

abbrev pub assign_sites : Globals → Scope → Path → Rhs → List Site
assign_sites g scope to from =
    target_sites g scope to ++ rhs_sites g scope (want_of_target (meaning_of_path g scope to)) from

abbrev pub free_sites : Globals → Scope → Path → List Site
free_sites g scope p = read_sites g scope p ++ Stands (Pointer None) p.head.at (meaning_of_path g scope p) ∷ []

abbrev pub return_sites : Globals → Scope → Place → Option Operand → List Site
return_sites g scope at o =
    Returns scope.home (is_some o) at ∷ maybe_sites (wanted_sites g scope Elsewhere (want_of_return g scope.home)) o
