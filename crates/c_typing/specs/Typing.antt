-- What a checker promises: the first fault of a file that breaks a rule, or else its program.
use Rattle.std.specs.Prelude.{◌≡◌, ℕ, false, nat_lt, List, [], ◌∷◌, map, Option, Some, None}
use Rattle.fore_base.specs.Lists.{IsIn, Every}
use Rattle.fore_base.specs.declared.place.Place.{Place}
use Rattle.c_ast.specs.declared.items.Head.{Head}
use Rattle.c_ast.specs.declared.items.Unit as whole
use Rattle.c_types.specs.Program.{Program}
use Rattle.c_typing.specs.Globals.{Globals, globals_of, main_head}
use Rattle.c_typing.specs.ItemSites.{unit_sites}
use Rattle.c_typing.specs.Orders.{before}
use Rattle.c_typing.specs.Programs.{program_of}
use Rattle.c_typing.specs.Rules.{when, t1, t2, t3, t4, t5, t6, t7, t8, t9, t10, t11, t12, t13, t14, t15, t16, t17, k2}
use Rattle.c_typing.specs.Rules.{k3, k4}
use Rattle.c_typing.specs.Rules.{k5, k7, k8, k10}
use Rattle.c_typing.specs.Sites.{Site}
use Rattle.c_typing.specs.Texts.{each_of, joined}
use Rattle.c_typing.specs.Weights.{main_weight}
use Rattle.c_typing.specs.declared.fault.TypeFault.{TypeFault}
use Rattle.c_typing.specs.declared.fault.TypeFault.TheVariants.{Rule, Limit}
use Rattle.c_typing.specs.declared.limits.TheConstants.{WEIGHT}

-- all that is broken at one site
abbrev pub breaches_at : Globals → Site → List TypeFault
breaches_at g s = joined
    (map (Rule 1) (t1 g s) ∷ map (Rule 2) (t2 g s) ∷ map (Rule 3) (t3 g s) ∷ map (Rule 4) (t4 g s)
    ∷ map (Rule 5) (t5 g s)
    ∷ map (Rule 6) (t6 g s) ∷ map (Rule 7) (t7 g s) ∷ map (Rule 8) (t8 g s) ∷ map (Rule 9) (t9 g s)
    ∷ map (Rule 10) (t10 g s)
    ∷ map (Rule 11) (t11 g s) ∷ map (Rule 12) (t12 g s) ∷ map (Rule 13) (t13 g s) ∷ map (Rule 14) (t14 g s)
    ∷ map (Rule 15) (t15 g s) ∷ map (Rule 16) (t16 g s) ∷ map (Rule 17) (t17 g s)
    ∷ map (Limit 2) (k2 g s) ∷ map (Limit 3) (k3 g s) ∷ map (Limit 4) (k4 g s) ∷ map (Limit 5) (k5 g s)
    ∷ map (Limit 7) (k7 g s)
    ∷ map (Limit 8) (k8 g s) ∷ map (Limit 10) (k10 g s) ∷ [])

-- all that is broken at these sites
abbrev pub breaches_of : Globals → List Site → List TypeFault
breaches_of g = each_of (breaches_at g)

-- all that a file breaks at its sites
unfoldable pub site_breaches : whole.Unit → List TypeFault
site_breaches u = breaches_of (globals_of u.items) (unit_sites (globals_of u.items) u)

-- K9: the first `main` weighs more than it may, at its name
abbrev pub k9 : ℕ → Option Head → List Place
k9 weight None = []
k9 weight (Some h) = when (nat_lt WEIGHT weight) h.name.at

unfoldable pub overweight : whole.Unit → List TypeFault
overweight u = map (Limit 9) (k9 (main_weight u.items) (main_head u.items))

-- the first list, or the second where it has nothing
abbrev pub or_else : {X : Type 0} → List X → List X → List X
or_else [] ys = ys
or_else (x ∷ xs) ys = x ∷ xs

-- All that a file breaks. Its weight is asked only where nothing else is broken.
unfoldable pub breaches : whole.Unit → List TypeFault
breaches u = or_else (site_breaches u) (overweight u)

-- the file breaks this rule, or passes this limit, at this place
abbrev pub Breaks : whole.Unit → TypeFault → Type 0
Breaks u e = IsIn e (breaches u)

-- e is one of the faults, and none comes before it
abbrev pub IsFirst : TypeFault → List TypeFault → Type 0
IsFirst e es = IsIn e es × Every (λ f. before f e ≡ false) es

-- what is reported of the file
abbrev pub IsFirstFault : whole.Unit → TypeFault → Type 0
IsFirstFault u e = IsFirst e (breaches u)

-- the file breaks no rule, and this is its program
abbrev pub TypedOf : whole.Unit → Program → Type 0
TypedOf u p = (breaches u ≡ []) × (p ≡ program_of u)
