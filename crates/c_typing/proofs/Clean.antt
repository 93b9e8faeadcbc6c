-- What is known at sites where nothing is broken.
use Rattle.std.proofs.Common.{◌≡◌, ℕ, Bool, true, false, not, ◌&&◌, ◌||◌, List, [], ◌∷◌, ◌++◌, Option, is_some, is_none}
use Rattle.std.proofs.Common.{refl, sym, ap, ◌∙◌}
use Rattle.std.proofs.lemmas.Bool.{not-false, or_parts}
use Rattle.fore_base.specs.declared.place.Place.{Place}
use Rattle.c_ast.specs.declared.items.Head.{Head}
use Rattle.c_ast.specs.declared.operands.Name.{Name}
use Rattle.c_ast.specs.declared.operands.Operand.{Operand}
use Rattle.c_typing.specs.Functions.{called, is_called, is_counted, recurs}
use Rattle.c_typing.specs.Globals.{Globals, struct_number, is_main}
use Rattle.c_typing.specs.Profile.{given, is_allowed, is_main_head}
use Rattle.c_typing.specs.Rules.{differ, wanted_struct, wants_pointer, wants_datum, result_struct, gives_datum}
use Rattle.c_typing.specs.Rules.{gives_pointer, may_return}
use Rattle.c_typing.specs.Scopes.{Scope}
use Rattle.c_typing.specs.Sites as site
use Rattle.c_typing.specs.Sites.{Site, struct_at}
use Rattle.c_typing.specs.Texts.{Text, has}
use Rattle.c_typing.specs.Typing.{breaches_at, breaches_of}
use Rattle.c_typing.specs.declared.fault.TypeFault.{TypeFault}
use Rattle.c_typing.specs.declared.fault.TypeFault.TheVariants.{Rule}
use Rattle.c_typing.specs.declared.meaning.Kind.{Kind}
use Rattle.c_typing.specs.declared.meaning.Meaning.{Meaning}
use Rattle.c_typing.specs.declared.meaning.Spot.{Spot}
use Rattle.c_typing.specs.declared.meaning.Want.{Want}
use Rattle.c_typing.proofs.Breaching.{fault_when, breaches-append, at-UsesStruct, at-Stands, at-Jumps, at-Functions}
use Rattle.c_typing.proofs.Breaching.{at-Calls, at-Gives, at-Returns, at-Variable, at-Function}

-- nothing is broken at these sites
abbrev pub IsClean : Globals → List Site → Type 0
IsClean g ss = breaches_of g ss ≡ []

empty_parts : {X : Type 0} (xs ys : List X) → xs ++ ys ≡ [] → (xs ≡ []) × (ys ≡ [])
empty_parts [] ys e = (refl, e)
empty_parts (x ∷ xs) ys e = cc

never : (b : Bool) (e : TypeFault) → fault_when b e ≡ [] → b ≡ false
never true e is = cc
never false e is = refl

module _ (g : Globals) where
  -- two lists of sites, and a site before others
  pub clean_parts : (xs ys : List Site) → IsClean g (xs ++ ys) → IsClean g xs × IsClean g ys
  clean_parts xs ys c = empty_parts (breaches_of g xs) (breaches_of g ys) (sym (breaches-append g xs ys) ∙ c)

  pub clean_first : (s : Site) (ss : List Site) → IsClean g (s ∷ ss) → (breaches_at g s ≡ []) × IsClean g ss
  clean_first s ss c = empty_parts (breaches_at g s) (breaches_of g ss) c

  -- a struct that is named is defined
  pub struct_there : (n : Name) → breaches_at g (site.UsesStruct n) ≡ [] → is_some (struct_number g n.text) ≡ true
  struct_there n c = not-false (is_some (struct_number g n.text)) (never _ (Rule 1 n.at) (sym (at-UsesStruct g n) ∙ c))

  -- a pointer where one is wanted points to the same struct
  pub no_other : (w : Want) (at : Place) (m : Meaning) → breaches_at g (site.Stands w at m) ≡ []
      → differ (wanted_struct w) (struct_at m) ≡ false
  no_other w at m c = never _ (Rule 6 at) (empty_parts _ _ (empty_parts _ _ (sym (at-Stands g w at m) ∙ c)).0).0

  -- a jump stands in a loop
  pub in_loop : (b : Bool) (at : Place) → breaches_at g (site.Jumps b at) ≡ [] → b ≡ true
  in_loop b at c = not-false b (never _ (Rule 11 at) (sym (at-Jumps g b at) ∙ c))

  -- the head of `main` is right
  pub main_right : (h : Head) → breaches_at g (site.Functions h) ≡ [] → is_main h ≡ true → is_main_head h ≡ true
  main_right h c main =
      let parts : (has h.name.text given ≡ false) × ((is_main h && not (is_main_head h)) ≡ false) =
      or_parts (has h.name.text given) (is_main h && not (is_main_head h))
      (never _ (Rule 15 h.name.at) (sym (at-Functions g h) ∙ c)) in
      not-false (is_main_head h) (ap (λ b. b && not (is_main_head h)) (sym main) ∙ parts.1)

  -- a function that is called does not lead back, and is given as many operands as it has parameters
  pub call_right : (scope : Scope) (spot : Spot) (n : Name) (os : List Operand)
      → breaches_at g (site.Calls scope spot n os) ≡ [] → (recurs g scope.home n.text ≡ false)
      × (is_counted (called g n.text) os ≡ true)
  call_right scope spot n os c =
      let parts : (fault_when (recurs g scope.home n.text) (Rule 13 n.at)
      ++ fault_when (not (is_allowed g scope spot n.text os || is_called g spot n.text os)) (Rule 15 n.at) ≡ [])
      × (fault_when (not (is_counted (called g n.text) os)) (Rule 17 n.at) ≡ []) =
      empty_parts _ _ (sym (at-Calls g scope spot n os) ∙ c) in (
        never _ (Rule 13 n.at) (empty_parts _ _ parts.0).0,
        not-false (is_counted (called g n.text) os) (never _ (Rule 17 n.at) parts.1),
      )

  -- a result where something is wanted
  abbrev pub IsGiven : Want → Option Kind → Type 0
  IsGiven w result = ((differ (wanted_struct w) (result_struct result) ≡ false)
      × ((wants_pointer w && gives_datum result) ≡ false))
      × (((wants_datum w && gives_pointer result) ≡ false) × (is_none result ≡ false))

  pub result_right : (w : Want) (at : Place) (result : Option Kind) → breaches_at g (site.Gives w at result) ≡ []
      → IsGiven w result
  result_right w at result c =
      let last : (((fault_when (differ (wanted_struct w) (result_struct result)) (Rule 6 at)
      ++ fault_when (wants_pointer w && gives_datum result) (Rule 7 at))
      ++ fault_when (wants_datum w && gives_pointer result) (Rule 8 at)) ≡ [])
      × (fault_when (is_none result) (Rule 17 at) ≡ []) = empty_parts _ _ (sym (at-Gives g w at result) ∙ c) in
      let three : ((fault_when (differ (wanted_struct w) (result_struct result)) (Rule 6 at)
      ++ fault_when (wants_pointer w && gives_datum result) (Rule 7 at)) ≡ [])
      × (fault_when (wants_datum w && gives_pointer result) (Rule 8 at) ≡ []) = empty_parts _ _ last.0 in
      let two : (fault_when (differ (wanted_struct w) (result_struct result)) (Rule 6 at) ≡ [])
      × (fault_when (wants_pointer w && gives_datum result) (Rule 7 at) ≡ []) = empty_parts _ _ three.0 in (
        (never _ (Rule 6 at) two.0, never _ (Rule 7 at) two.1),
        (never _ (Rule 8 at) three.1, never _ (Rule 17 at) last.1),
      )

  -- a `return` has an operand where it wants one
  pub return_right : (home : Option ℕ) (operand : Bool) (at : Place)
      → breaches_at g (site.Returns home operand at) ≡ [] → may_return g home operand ≡ true
  return_right home operand at c =
      not-false (may_return g home operand) (never _ (Rule 16 at) (sym (at-Returns g home operand at) ∙ c))

  -- a name that is defined is new
  pub new_variable : (n : Name) (earlier : List Text) (count : ℕ)
      → breaches_at g (site.Defines site.Variable n earlier count) ≡ [] → has n.text earlier ≡ false
  new_variable n earlier count c =
      never _ (Rule 5 n.at) (empty_parts _ _ (sym (at-Variable g n earlier count) ∙ c)).0

  pub new_function : (n : Name) (earlier : List Text) (count : ℕ)
      → breaches_at g (site.Defines site.Function n earlier count) ≡ [] → has n.text earlier ≡ false
  new_function n earlier count c =
      never _ (Rule 5 n.at) (empty_parts _ _ (sym (at-Function g n earlier count) ∙ c)).0
