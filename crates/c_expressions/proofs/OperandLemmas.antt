-- Arrows, and what is given to parameters, one after the other.
use Rattle.std.proofs.Common.{◌≡◌, ℕ, zero, suc, ◌<◌, ◌≤◌, ◌+◌, List, [], ◌∷◌, Option, Some, None, length, drop}
use Rattle.std.proofs.Common.{add-one, get_or, slice_get, refl, sym, ap, ◌∙◌}
use Rattle.std.proofs.lemmas.List.{drop_all, get_or_default}
use Rattle.fore_base.proofs.ListLemmas.{drop_item}
use Rattle.c_ast.specs.declared.operands.Arrow.{Arrow}
use Rattle.c_ast.specs.declared.operands.Operand.{Operand}
use Rattle.c_typing.specs.Globals.{Globals}
use Rattle.c_typing.specs.Meanings.{followed}
use Rattle.c_typing.specs.Scopes.{Scope}
use Rattle.c_typing.specs.Sites.{Follows, arrow_sites, arguments_sites, wanted_sites, want_of_kind}
use Rattle.c_typing.specs.declared.fault.TypeFault.{TypeFault}
use Rattle.c_typing.specs.declared.meaning.Kind.{Kind}
use Rattle.c_typing.specs.declared.meaning.Meaning.{Meaning}
use Rattle.c_typing.specs.declared.meaning.Spot.TheVariants.{Elsewhere}
use Rattle.c_expressions.specs.Meeting.{noted, met}
use Rattle.c_expressions.proofs.MeetingLemmas.{met-nil, met-cons, met-append}

pub arrows_step : (g : Globals) (found : Option TypeFault) (m : Meaning) (arrows : List Arrow) (i : ℕ) (a : Arrow)
    → i < length arrows → a ≡ get_or arrows i a →
    met g found (arrow_sites g m (drop i arrows))
    ≡ met g (noted g found (Follows m a)) (arrow_sites g (followed g m a.field.text) (drop (i + 1) arrows))
arrows_step g found m arrows i a within is =
    ap (λ xs. met g found (arrow_sites g m xs)) (drop_item arrows i a within is)
    ∙ met-cons g found (Follows m a) (arrow_sites g (followed g m a.field.text) (drop (i + 1) arrows))

pub arrows_end : (g : Globals) (found : Option TypeFault) (m : Meaning) (arrows : List Arrow) (i : ℕ)
    → length arrows ≤ i → met g found (arrow_sites g m (drop i arrows)) ≡ found
arrows_end g found m arrows i past = ap (λ xs. met g found (arrow_sites g m xs)) (drop_all i arrows past)
    ∙ met-nil g found

-- what is given to parameters, one after the other

drop_next : {X : Type 0} (xs : List X) (i : ℕ) (x : X) → slice_get xs i ≡ Some x → drop i xs ≡ x ∷ drop (suc i) xs
drop_next [] i x h = cc
drop_next (y ∷ ys) zero x h = cc
drop_next (y ∷ ys) (suc i) x h = drop_next ys i x h

pub drop_got : {X : Type 0} (xs : List X) (i : ℕ) (x : X) → slice_get xs i ≡ Some x → drop i xs ≡ x ∷ drop (i + 1) xs
drop_got xs i x h = rw add-one (drop_next xs i x h)

pub drop_past : {X : Type 0} (xs : List X) (i : ℕ) → slice_get xs i ≡ None → drop i xs ≡ []
drop_past [] zero h = refl
drop_past [] (suc i) h = refl
drop_past (y ∷ ys) zero h = cc
drop_past (y ∷ ys) (suc i) h = drop_past ys i h

module _ (g : Globals) (scope : Scope) (found : Option TypeFault) (ks : List Kind) (os : List Operand) (i : ℕ) where
  -- one argument more, where what it breaks was added
  pub arguments_step : (d : Kind) (o : Operand) (next : Option TypeFault) → i < length ks → slice_get os i ≡ Some o
      → next ≡ met g found (wanted_sites g scope Elsewhere (want_of_kind (get_or ks i d)) o) →
      met g next (arguments_sites g scope (drop (i + 1) ks) (drop (i + 1) os))
      ≡ met g found (arguments_sites g scope (drop i ks) (drop i os))
  arguments_step d o next within got is =
      let k = get_or ks i d in
      let rest = arguments_sites g scope (drop (i + 1) ks) (drop (i + 1) os) in
      ap (λ f. met g f rest) is
      ∙ sym
      (ap (λ ls. met g found (arguments_sites g scope ls (drop i os)))
      (drop_item ks i k within (get_or_default ks i d k within))
      ∙ ap (λ ps. met g found (arguments_sites g scope (k ∷ drop (i + 1) ks) ps)) (drop_got os i o got)
      ∙ met-append g found (wanted_sites g scope Elsewhere (want_of_kind k) o) rest)

  no_operands : (ls : List Kind) → arguments_sites g scope ls [] ≡ []
  no_operands [] = refl
  no_operands (l ∷ ls) = refl

  -- where no operand is left, or no parameter
  pub arguments_none : slice_get os i ≡ None → met g found (arguments_sites g scope (drop i ks) (drop i os)) ≡ found
  arguments_none none =
      ap (λ ps. met g found (arguments_sites g scope (drop i ks) ps)) (drop_past os i none)
      ∙ ap (met g found) (no_operands (drop i ks)) ∙ met-nil g found

  pub arguments_end : length ks ≤ i → met g found (arguments_sites g scope (drop i ks) (drop i os)) ≡ found
  arguments_end past = ap (λ ls. met g found (arguments_sites g scope ls (drop i os))) (drop_all i ks past)
      ∙ met-nil g found
