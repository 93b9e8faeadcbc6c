-- What each kind of site breaks, and what lists of sites break.
use Rattle.std.proofs.Common.{◌≡◌, ℕ, Bool, true, false, not, ◌&&◌, ◌||◌, nat_eq, List, [], ◌∷◌, ◌++◌, Option, Some}
use Rattle.std.proofs.Common.{None, is_none, is_some, map, slice_get, refl, sym, ap, ◌∙◌}
use Rattle.std.proofs.lemmas.List.{append_assoc}
use Rattle.fore_base.specs.declared.limits.TheConstants.{STRUCTS, FIELDS, VARIABLES, ENUMERATORS, STATEMENTS}
use Rattle.fore_base.specs.declared.place.Place.{Place}
use Rattle.c_ast.specs.declared.items.Head.{Head}
use Rattle.c_ast.specs.declared.operands.Arrow.{Arrow}
use Rattle.c_ast.specs.declared.operands.Name.{Name}
use Rattle.c_ast.specs.declared.operands.Operand.{Operand}
use Rattle.c_types.specs.declared.program.DataPath.{DataPath}
use Rattle.c_types.specs.declared.program.Path.{Path}
use Rattle.c_typing.specs.Functions.{called, is_called, is_counted, is_right_prototype, recurs}
use Rattle.c_typing.specs.Globals.{Globals, struct_number, value_of, field_use}
use Rattle.c_typing.specs.Profile.{given, is_allowed, is_main, is_main_head}
use Rattle.c_typing.specs.Rules.{when, maybe_place, differ, wanted_struct, wants_pointer, wants_datum, is_datum}
use Rattle.c_typing.specs.Rules.{is_pointer, may_return, result_struct, gives_datum, gives_pointer}
use Rattle.c_typing.specs.Scopes.{Scope, look_up}
use Rattle.c_typing.specs.Sites as site
use Rattle.c_typing.specs.Sites.{Site, struct_at}
use Rattle.c_typing.specs.Texts.{Text, has}
use Rattle.c_typing.specs.Typing.{breaches_at, breaches_of}
use Rattle.c_typing.specs.declared.fault.TypeFault.{TypeFault}
use Rattle.c_typing.specs.declared.fault.TypeFault.TheVariants.{Rule, Limit}
use Rattle.c_typing.specs.declared.limits.TheConstants.{FUNCTIONS}
use Rattle.c_typing.specs.declared.meaning.Kind.{Kind}
use Rattle.c_typing.specs.declared.meaning.Meaning.{Meaning}
use Rattle.c_typing.specs.declared.meaning.Meaning.TheVariants as meaning
use Rattle.c_typing.specs.declared.meaning.Want.{Want}
use Rattle.c_typing.specs.declared.meaning.Spot.{Spot}

-- this fault, where the test holds
abbrev pub fault_when : Bool → TypeFault → List TypeFault
fault_when true e = e ∷ []
fault_when false e = []

-- a fault at this place, if there is one
abbrev pub fault_at : (Place → TypeFault) → Option Place → List TypeFault
fault_at f None = []
fault_at f (Some at) = f at ∷ []

one : (f : Place → TypeFault) (b : Bool) (at : Place) → map f (when b at) ++ [] ≡ fault_when b (f at)
one f true at = refl
one f false at = refl

two : (f h : Place → TypeFault) (b c : Bool) (at : Place) → map f (when b at) ++ (map h (when c at) ++ [])
    ≡ fault_when b (f at) ++ fault_when c (h at)
two f h true true at = refl
two f h true false at = refl
two f h false true at = refl
two f h false false at = refl

three : (f h k : Place → TypeFault) (b c d : Bool) (at : Place) → map f (when b at)
    ++ (map h (when c at) ++ (map k (when d at) ++ [])) ≡ fault_when b (f at) ++ fault_when c (h at)
    ++ fault_when d (k at)
three f h k true true true at = refl
three f h k true true false at = refl
three f h k true false true at = refl
three f h k true false false at = refl
three f h k false true true at = refl
three f h k false true false at = refl
three f h k false false true at = refl
three f h k false false false at = refl

four : (f h k l : Place → TypeFault) (b c d e : Bool) (at : Place) → map f (when b at)
    ++ (map h (when c at) ++ (map k (when d at) ++ (map l (when e at) ++ []))) ≡ fault_when b (f at)
    ++ fault_when c (h at) ++ fault_when d (k at) ++ fault_when e (l at)
four f h k l true c d e at = ap (λ es. f at ∷ es) (three h k l c d e at)
four f h k l false c d e at = three h k l c d e at

maybe : (f : Place → TypeFault) (at : Option Place) → map f (maybe_place at) ++ [] ≡ fault_at f at
maybe f None = refl
maybe f (Some at) = refl

module _ (g : Globals) where
  pub breaches-append : (xs ys : List Site) → breaches_of g (xs ++ ys) ≡ breaches_of g xs ++ breaches_of g ys
  breaches-append [] ys = refl
  breaches-append (x ∷ xs) ys = ap (λ k. breaches_at g x ++ k) (breaches-append xs ys)
      ∙ sym (append_assoc (breaches_at g x) (breaches_of g xs) (breaches_of g ys))

  pub at-UsesStruct : (n : Name) → breaches_at g (site.UsesStruct n)
      ≡ fault_when (not (is_some (struct_number g n.text))) (Rule 1 n.at)
  at-UsesStruct n = one (Rule 1) _ n.at

  pub at-UsesEnum : (n : Name) → breaches_at g (site.UsesEnum n) ≡ fault_when (not (has n.text g.enums)) (Rule 4 n.at)
  at-UsesEnum n = one (Rule 4) _ n.at

  pub at-Struct : (n : Name) (earlier : List Text) (count : ℕ)
      → breaches_at g (site.Defines site.Struct n earlier count) ≡ fault_when (has n.text earlier) (Rule 5 n.at)
      ++ fault_when (nat_eq count STRUCTS) (Limit 2 n.at)
  at-Struct n earlier count = two (Rule 5) (Limit 2) _ _ n.at

  pub at-Member : (n : Name) (earlier : List Text) (count : ℕ)
      → breaches_at g (site.Defines site.Member n earlier count) ≡ fault_when (has n.text earlier) (Rule 5 n.at)
      ++ fault_when (nat_eq count FIELDS) (Limit 3 n.at)
  at-Member n earlier count = two (Rule 5) (Limit 3) _ _ n.at

  pub at-Variable : (n : Name) (earlier : List Text) (count : ℕ)
      → breaches_at g (site.Defines site.Variable n earlier count) ≡ fault_when (has n.text earlier) (Rule 5 n.at)
      ++ fault_when (nat_eq count VARIABLES) (Limit 4 n.at)
  at-Variable n earlier count = two (Rule 5) (Limit 4) _ _ n.at

  pub at-Value : (n : Name) (earlier : List Text) (count : ℕ) → breaches_at g (site.Defines site.Value n earlier count)
      ≡ fault_when (has n.text earlier) (Rule 5 n.at) ++ fault_when (nat_eq count ENUMERATORS) (Limit 5 n.at)
  at-Value n earlier count = two (Rule 5) (Limit 5) _ _ n.at

  pub at-Enum : (n : Name) (earlier : List Text) (count : ℕ) → breaches_at g (site.Defines site.Enum n earlier count)
      ≡ fault_when (has n.text earlier) (Rule 5 n.at)
  at-Enum n earlier count = one (Rule 5) _ n.at

  pub at-Function : (n : Name) (earlier : List Text) (count : ℕ)
      → breaches_at g (site.Defines site.Function n earlier count) ≡ fault_when (has n.text earlier) (Rule 5 n.at)
      ++ fault_when (nat_eq count FUNCTIONS) (Limit 10 n.at)
  at-Function n earlier count = two (Rule 5) (Limit 10) _ _ n.at

  pub at-Parameter : (n : Name) (earlier : List Text) (count : ℕ)
      → breaches_at g (site.Defines site.Parameter n earlier count) ≡ fault_when (has n.text earlier) (Rule 5 n.at)
  at-Parameter n earlier count = one (Rule 5) _ n.at

  pub at-Begins : (scope : Scope) (b : Bool) (n : Name) → breaches_at g (site.Begins scope b n)
      ≡ fault_when (not (is_some (look_up scope n.text) || (not b && is_some (value_of g n.text)))) (Rule 3 n.at)
  at-Begins scope b n = one (Rule 3) _ n.at

  pub at-Follows-Pointer : (p : Path) (shape : ℕ) (a : Arrow)
      → breaches_at g (site.Follows (meaning.Pointer p (Some shape)) a)
      ≡ fault_when (not (is_some (field_use g shape a.field.text))) (Rule 2 a.field.at)
  at-Follows-Pointer p shape a = one (Rule 2) _ a.field.at

  pub at-Follows-Undefined : (p : Path) (a : Arrow) → breaches_at g (site.Follows (meaning.Pointer p None) a) ≡ []
  at-Follows-Undefined p a = refl

  pub at-Follows-Datum : (d : DataPath) (a : Arrow) → breaches_at g (site.Follows (meaning.Datum d) a) ≡ Rule 9 a.at
      ∷ []
  at-Follows-Datum d a = refl

  pub at-Follows-Known : (k : ℕ) (a : Arrow) → breaches_at g (site.Follows (meaning.Known k) a) ≡ []
  at-Follows-Known k a = refl

  pub at-Follows-Zero : (a : Arrow) → breaches_at g (site.Follows meaning.Zero a) ≡ []
  at-Follows-Zero a = refl

  pub at-Follows-Null : (a : Arrow) → breaches_at g (site.Follows meaning.Null a) ≡ []
  at-Follows-Null a = refl

  pub at-Follows-Call : (a : Arrow) → breaches_at g (site.Follows meaning.Call a) ≡ []
  at-Follows-Call a = refl

  pub at-Follows-Broken : (a : Arrow) → breaches_at g (site.Follows meaning.Broken a) ≡ []
  at-Follows-Broken a = refl

  pub at-Measures : (star : Place) (m : Meaning) → breaches_at g (site.Measures star m)
      ≡ fault_when (is_datum m) (Rule 9 star)
  at-Measures star m = one (Rule 9) _ star

  pub at-Stands : (w : Want) (at : Place) (m : Meaning) → breaches_at g (site.Stands w at m)
      ≡ fault_when (differ (wanted_struct w) (struct_at m)) (Rule 6 at)
      ++ fault_when (wants_pointer w && is_datum m) (Rule 7 at)
      ++ fault_when (wants_datum w && is_pointer m) (Rule 8 at)
  at-Stands w at m = three (Rule 6) (Rule 7) (Rule 8) _ _ _ at

  pub at-Chooses : (w : Want) (at : Place) → breaches_at g (site.Chooses w at)
      ≡ fault_when (wants_pointer w) (Rule 7 at)
  at-Chooses w at = one (Rule 7) _ at

  pub at-Gives : (w : Want) (at : Place) (result : Option Kind) → breaches_at g (site.Gives w at result)
      ≡ fault_when (differ (wanted_struct w) (result_struct result)) (Rule 6 at)
      ++ fault_when (wants_pointer w && gives_datum result) (Rule 7 at)
      ++ fault_when (wants_datum w && gives_pointer result) (Rule 8 at) ++ fault_when (is_none result) (Rule 17 at)
  at-Gives w at result = four (Rule 6) (Rule 7) (Rule 8) (Rule 17) _ _ _ _ at

  pub at-Allocates : (w : Want) (at : Place) → breaches_at g (site.Allocates w at)
      ≡ fault_when (wants_datum w) (Rule 8 at)
  at-Allocates w at = one (Rule 8) _ at

  pub at-Casts : (w : Want) (n : Name) → breaches_at g (site.Casts w n)
      ≡ fault_when (differ (wanted_struct w) (struct_number g n.text)) (Rule 6 n.at)
  at-Casts w n = one (Rule 6) _ n.at

  pub at-Sizes : (w : Want) (at : Place) (shape : Option ℕ) → breaches_at g (site.Sizes w at shape)
      ≡ fault_when (differ (wanted_struct w) shape) (Rule 10 at)
  at-Sizes w at shape = one (Rule 10) _ at

  pub at-Calls : (scope : Scope) (spot : Spot) (n : Name) (os : List Operand)
      → breaches_at g (site.Calls scope spot n os) ≡ fault_when (recurs g scope.home n.text) (Rule 13 n.at)
      ++ fault_when (not (is_allowed g scope spot n.text os || is_called g spot n.text os)) (Rule 15 n.at)
      ++ fault_when (not (is_counted (called g n.text) os)) (Rule 17 n.at)
  at-Calls scope spot n os = three (Rule 13) (Rule 15) (Rule 17) _ _ _ n.at

  pub at-Jumps : (b : Bool) (at : Place) → breaches_at g (site.Jumps b at) ≡ fault_when (not b) (Rule 11 at)
  at-Jumps b at = one (Rule 11) _ at

  pub at-Returns : (home : Option ℕ) (operand : Bool) (at : Place) → breaches_at g (site.Returns home operand at)
      ≡ fault_when (not (may_return g home operand)) (Rule 16 at)
  at-Returns home operand at = one (Rule 16) _ at

  pub at-Counts : (places : List Place) → breaches_at g (site.Counts places)
      ≡ fault_at (Limit 7) (slice_get places STATEMENTS)
  at-Counts places = maybe (Limit 7) _

  pub at-Declares : (h : Head) → breaches_at g (site.Declares h)
      ≡ fault_when (not (is_right_prototype g h)) (Rule 15 h.name.at)
  at-Declares h = one (Rule 15) _ h.name.at

  pub at-Functions : (h : Head) → breaches_at g (site.Functions h)
      ≡ fault_when (has h.name.text given || (is_main h && not (is_main_head h))) (Rule 15 h.name.at)
  at-Functions h = one (Rule 15) _ h.name.at

  pub at-Globally : (n : Name) → breaches_at g (site.Globally n) ≡ Rule 14 n.at ∷ []
  at-Globally n = refl

  pub at-Ends : (b : Bool) (at : Place) → breaches_at g (site.Ends b at) ≡ fault_when (not b) (Rule 12 at)
  at-Ends b at = one (Rule 12) _ at

  pub at-Overflows : (over : Option Place) → breaches_at g (site.Overflows over) ≡ fault_at (Limit 8) over
  at-Overflows over = maybe (Limit 8) over

pub ruleset breaching = (
  breaches-append,
  at-UsesStruct,
  at-UsesEnum,
  at-Struct,
  at-Member,
  at-Variable,
  at-Value,
  at-Enum,
  at-Function,
  at-Parameter,
  at-Begins,
  at-Follows-Pointer,
  at-Follows-Undefined,
  at-Follows-Datum,
  at-Follows-Known,
  at-Follows-Zero,
  at-Follows-Null,
  at-Follows-Call,
  at-Follows-Broken,
  at-Measures,
  at-Stands,
  at-Chooses,
  at-Gives,
  at-Allocates,
  at-Casts,
  at-Sizes,
  at-Calls,
  at-Jumps,
  at-Returns,
  at-Counts,
  at-Declares,
  at-Functions,
  at-Globally,
  at-Ends,
  at-Overflows,
)
