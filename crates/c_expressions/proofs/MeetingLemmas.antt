-- The first fault so far, over lists of places, and what each kind of place adds.
use Rattle.std.proofs.Common.{◌≡◌, ℕ, Bool, true, false, not, ◌&&◌, ◌||◌, nat_eq, List, [], ◌∷◌, ◌++◌, Option, Some}
use Rattle.std.proofs.Common.{refl, sym, ap, ◌∙◌}
use Rattle.std.specs.Prelude.{is_none, is_some, slice_get}
use Rattle.fore_base.specs.declared.limits.TheConstants.{VARIABLES, STATEMENTS}
use Rattle.fore_base.specs.declared.place.Place.{Place}
use Rattle.c_ast.specs.declared.operands.Arrow.{Arrow}
use Rattle.c_ast.specs.declared.operands.Name.{Name}
use Rattle.c_ast.specs.declared.operands.Operand.{Operand}
use Rattle.c_typing.specs.Functions.{recurs}
use Rattle.c_typing.specs.Globals.{Globals, struct_number, value_of}
use Rattle.c_typing.specs.Profile.{is_allowed}
use Rattle.c_typing.specs.Rules.{differ, wanted_struct, wants_pointer, wants_datum, is_datum, is_pointer, lacks_field}
use Rattle.c_typing.specs.Rules.{gives_datum, gives_pointer, may_return, result_struct}
use Rattle.c_typing.specs.Scopes.{Scope, look_up}
use Rattle.c_typing.specs.Sites.{Site, UsesStruct, UsesEnum, Defines, Begins, Follows, Measures, Stands}
use Rattle.c_typing.specs.declared.meaning.Family.TheVariants.{Variable}
use Rattle.c_typing.specs.Sites.{Chooses, Gives, Allocates, Casts, Sizes, Calls, Jumps, Returns, Counts, struct_at}
use Rattle.c_typing.specs.Texts.{Text, has}
use Rattle.c_typing.specs.Typing.{breaches_at, breaches_of}
use Rattle.c_typing.proofs.Breaching as breaching
use Rattle.c_typing.proofs.Breaching.{fault_when, fault_at}
use Rattle.c_typing.specs.declared.fault.TypeFault.{TypeFault}
use Rattle.c_typing.specs.declared.fault.TypeFault.TheVariants.{Rule, Limit}
use Rattle.c_typing.specs.declared.meaning.Kind.{Kind}
use Rattle.c_typing.specs.declared.meaning.Meaning.{Meaning}
use Rattle.c_typing.specs.declared.meaning.Spot.{Spot}
use Rattle.c_typing.specs.declared.meaning.Want.{Want}
use Rattle.c_typing.specs.declared.meaning.Meaning.TheVariants as meaning
use Rattle.c_expressions.specs.First.{first_from}
use Rattle.c_expressions.specs.Meeting.{noted, met, noted_when}
use Rattle.c_expressions.specs.inner.DataPaths.{is_data_path}
use Rattle.c_expressions.specs.inner.Noting.{call_noted}
use Rattle.c_expressions.proofs.FirstLemmas.{first_from-append}

pub met-nil : (g : Globals) (found : Option TypeFault) → met g found [] ≡ found
unfolding met
met-nil g found = refl

pub met-cons : (g : Globals) (found : Option TypeFault) (s : Site) (ss : List Site) → met g found (s ∷ ss)
    ≡ met g (noted g found s) ss
unfolding met
met-cons g found s ss = refl

pub met-one : (g : Globals) (found : Option TypeFault) (s : Site) → met g found (s ∷ []) ≡ noted g found s
unfolding met
met-one g found s = refl

pub met-append : (g : Globals) (found : Option TypeFault) (xs ys : List Site) → met g found (xs ++ ys)
    ≡ met g (met g found xs) ys
unfolding met
met-append g found [] ys = refl
met-append g found (x ∷ xs) ys = met-append g (noted g found x) xs ys

pub met-breaches : (g : Globals) (found : Option TypeFault) (ss : List Site)
    → met g found ss ≡ first_from found (breaches_of g ss)
unfolding met noted
met-breaches g found [] = refl
met-breaches g found (s ∷ ss) = met-breaches g (first_from found (breaches_at g s)) ss
    ∙ sym (first_from-append found (breaches_at g s) (breaches_of g ss))

pub ruleset meeting = (met-nil, met-one, met-cons, met-append)

-- What each kind of place adds

from_fault : (b : Bool) (e : TypeFault) (found : Option TypeFault) → first_from found (fault_when b e)
    ≡ noted_when b e found
from_fault true e found = refl
from_fault false e found = refl

pub one : (g : Globals) (found : Option TypeFault) (s : Site) (b : Bool) (e : TypeFault) → breaches_at g s
    ≡ fault_when b e → noted g found s ≡ noted_when b e found
unfolding noted
one g found s b e is = ap (first_from found) is ∙ from_fault b e found

pub two : (g : Globals) (found : Option TypeFault) (s : Site) (b c : Bool) (e f : TypeFault) → breaches_at g s
    ≡ fault_when b e ++ fault_when c f → noted g found s ≡ noted_when c f (noted_when b e found)
unfolding noted
two g found s b c e f is =
    ap (first_from found) is ∙ first_from-append found (fault_when b e) (fault_when c f)
    ∙ ap (λ o. first_from o (fault_when c f)) (from_fault b e found) ∙ from_fault c f (noted_when b e found)

first_three : (found : Option TypeFault) (b c d : Bool) (e f h : TypeFault)
    → first_from found (fault_when b e ++ fault_when c f ++ fault_when d h)
    ≡ noted_when d h (noted_when c f (noted_when b e found))
first_three found b c d e f h =
    first_from-append found (fault_when b e ++ fault_when c f) (fault_when d h)
    ∙ ap (λ o. first_from o (fault_when d h)) (first_from-append found (fault_when b e) (fault_when c f)
    ∙ ap (λ o. first_from o (fault_when c f)) (from_fault b e found) ∙ from_fault c f (noted_when b e found))
    ∙ from_fault d h (noted_when c f (noted_when b e found))

three : (g : Globals) (found : Option TypeFault) (s : Site) (b c d : Bool) (e f h : TypeFault) → breaches_at g s
    ≡ fault_when b e ++ fault_when c f ++ fault_when d h →
    noted g found s ≡ noted_when d h (noted_when c f (noted_when b e found))
unfolding noted
three g found s b c d e f h is = ap (first_from found) is ∙ first_three found b c d e f h

four : (g : Globals) (found : Option TypeFault) (s : Site) (b c d a : Bool) (e f h i : TypeFault) → breaches_at g s
    ≡ fault_when b e ++ fault_when c f ++ fault_when d h ++ fault_when a i →
    noted g found s ≡ noted_when a i (noted_when d h (noted_when c f (noted_when b e found)))
unfolding noted
four g found s b c d a e f h i is =
    ap (first_from found) is
    ∙ first_from-append found (fault_when b e ++ fault_when c f ++ fault_when d h) (fault_when a i)
    ∙ ap (λ o. first_from o (fault_when a i)) (first_three found b c d e f h)
    ∙ from_fault a i (noted_when d h (noted_when c f (noted_when b e found)))

pub none : (g : Globals) (found : Option TypeFault) (s : Site) → breaches_at g s ≡ [] → noted g found s ≡ found
unfolding noted
none g found s is = ap (first_from found) is

module _ (g : Globals) (found : Option TypeFault) where
  pub noted-UsesStruct : (n : Name) → noted g found (UsesStruct n)
      ≡ noted_when (not (is_some (struct_number g n.text))) (Rule 1 n.at) found
  noted-UsesStruct n = one g found _ _ _ (breaching.at-UsesStruct g n)

  pub noted-UsesEnum : (n : Name) → noted g found (UsesEnum n)
      ≡ noted_when (not (has n.text g.enums)) (Rule 4 n.at) found
  noted-UsesEnum n = one g found _ _ _ (breaching.at-UsesEnum g n)

  pub noted-Variable : (n : Name) (earlier : List Text) (count : ℕ) →
      noted g found (Defines Variable n earlier count)
      ≡ noted_when (nat_eq count VARIABLES) (Limit 4 n.at) (noted_when (has n.text earlier) (Rule 5 n.at) found)
  noted-Variable n earlier count = two g found _ _ _ _ _ (breaching.at-Variable g n earlier count)

  pub noted-Begins : (scope : Scope) (must : Bool) (n : Name) →
      noted g found (Begins scope must n)
      ≡ noted_when (not (is_some (look_up scope n.text) || (not must && is_some (value_of g n.text)))) (Rule 3 n.at)
      found
  noted-Begins scope must n = one g found _ _ _ (breaching.at-Begins g scope must n)

  pub noted-Follows : (m : Meaning) (a : Arrow) →
      noted g found (Follows m a)
      ≡ noted_when (is_data_path m) (Rule 9 a.at)
      (noted_when (lacks_field g m a.field.text) (Rule 2 a.field.at) found)
  noted-Follows (meaning.Pointer p (Some shape)) a = one g found _ _ _ (breaching.at-Follows-Pointer g p shape a)
  noted-Follows (meaning.Datum d) a = one g found _ true (Rule 9 a.at) (breaching.at-Follows-Datum g d a)
  noted-Follows _ a = none g found _ refl

  pub noted-Measures : (star : Place) (m : Meaning) → noted g found (Measures star m)
      ≡ noted_when (is_datum m) (Rule 9 star) found
  noted-Measures star m = one g found _ _ _ (breaching.at-Measures g star m)

  pub noted-Stands : (want : Want) (at : Place) (m : Meaning) →
      noted g found (Stands want at m)
      ≡ noted_when (wants_datum want && is_pointer m) (Rule 8 at)
      (noted_when (wants_pointer want && is_datum m) (Rule 7 at)
      (noted_when (differ (wanted_struct want) (struct_at m)) (Rule 6 at) found))
  noted-Stands want at m = three g found _ _ _ _ _ _ _ (breaching.at-Stands g want at m)

  pub noted-Chooses : (want : Want) (at : Place) → noted g found (Chooses want at)
      ≡ noted_when (wants_pointer want) (Rule 7 at) found
  noted-Chooses want at = one g found _ _ _ (breaching.at-Chooses g want at)

  pub noted-Allocates : (want : Want) (at : Place) → noted g found (Allocates want at)
      ≡ noted_when (wants_datum want) (Rule 8 at) found
  noted-Allocates want at = one g found _ _ _ (breaching.at-Allocates g want at)

  pub noted-Casts : (want : Want) (n : Name) → noted g found (Casts want n)
      ≡ noted_when (differ (wanted_struct want) (struct_number g n.text)) (Rule 6 n.at) found
  noted-Casts want n = one g found _ _ _ (breaching.at-Casts g want n)

  pub noted-Sizes : (want : Want) (at : Place) (shape : Option ℕ) → noted g found (Sizes want at shape)
      ≡ noted_when (differ (wanted_struct want) shape) (Rule 10 at) found
  noted-Sizes want at shape = one g found _ _ _ (breaching.at-Sizes g want at shape)

  pub noted-Calls : (scope : Scope) (spot : Spot) (n : Name) (os : List Operand) →
      noted g found (Calls scope spot n os)
      ≡ call_noted g (recurs g scope.home n.text) (is_allowed g scope spot n.text os) spot n os found
  noted-Calls scope spot n os = three g found _ _ _ _ _ _ _ (breaching.at-Calls g scope spot n os)

  pub noted-Gives : (want : Want) (at : Place) (result : Option Kind) →
      noted g found (Gives want at result)
      ≡ noted_when (is_none result) (Rule 17 at)
      (noted_when (wants_datum want && gives_pointer result) (Rule 8 at)
      (noted_when (wants_pointer want && gives_datum result) (Rule 7 at)
      (noted_when (differ (wanted_struct want) (result_struct result)) (Rule 6 at) found)))
  noted-Gives want at result = four g found _ _ _ _ _ _ _ _ _ (breaching.at-Gives g want at result)

  pub noted-Jumps : (loop : Bool) (at : Place) → noted g found (Jumps loop at)
      ≡ noted_when (not loop) (Rule 11 at) found
  noted-Jumps loop at = one g found _ _ _ (breaching.at-Jumps g loop at)

  pub noted-Returns : (home : Option ℕ) (operand : Bool) (at : Place) → noted g found (Returns home operand at)
      ≡ noted_when (not (may_return g home operand)) (Rule 16 at) found
  noted-Returns home operand at = one g found _ _ _ (breaching.at-Returns g home operand at)

  pub noted-Counts : (places : List Place) → noted g found (Counts places)
      ≡ first_from found (fault_at (Limit 7) (slice_get places STATEMENTS))
  unfolding noted
  noted-Counts places = ap (first_from found) (breaching.at-Counts g places)

pub ruleset sites = (
  noted-UsesStruct,
  noted-UsesEnum,
  noted-Variable,
  noted-Begins,
  noted-Follows,
  noted-Measures,
  noted-Stands,
  noted-Chooses,
  noted-Gives,
  noted-Allocates,
  noted-Casts,
  noted-Sizes,
  noted-Calls,
  noted-Jumps,
  noted-Returns,
  noted-Counts,
)
