-- What every kind of statement needs: the first fault over the sites of its parts, one part after the other.
use Rattle.std.proofs.Common.{◌≡◌, ℕ, ◌+◌, ◌<◌, ◌≤◌, Bool, List, ◌++◌, Option, Result, OnOk, length, drop, get_or, refl}
use Rattle.std.proofs.Common.{sym, ap, subst, ◌∙◌}
use Rattle.std.proofs.lemmas.List.{drop_all}
use Rattle.fore_base.proofs.ListLemmas.{drop_item}
use Rattle.c_ast.specs.declared.statements.Part.{Part}
use Rattle.c_typing.specs.BodySites.{part_sites, parts_sites}
use Rattle.c_typing.specs.Globals.{Globals}
use Rattle.c_typing.specs.Scopes.{Scope, past_part}
use Rattle.c_typing.specs.Sites.{Site}
use Rattle.c_typing.specs.declared.fault.TypeFault.{TypeFault}
use Rattle.c_expressions.specs.Meeting.{met}
use Rattle.c_bodies.proofs.Swapping.{met-swap}
use Rattle.c_expressions.proofs.MeetingLemmas.{met-nil, met-append}

module _ (g : Globals) (f0 : Option TypeFault) where
  -- the sites of a statement are those of its one part
  pub whole : {X E : Type 0} (r : Result X E) (f1 : Option TypeFault) (xs all : List Site) → all ≡ xs
      → OnOk r (f1 ≡ met g f0 xs) → OnOk r (f1 ≡ met g f0 all)
  whole r f1 xs all is h = subst (λ ss. OnOk r (f1 ≡ met g f0 ss)) (sym is) h

  pub after_one : (f1 f2 : Option TypeFault) (xs ys : List Site) → f1 ≡ met g f0 xs → f2 ≡ met g f1 ys
      → f2 ≡ met g f0 (xs ++ ys)
  after_one f1 f2 xs ys h k = k ∙ ap (λ f. met g f ys) h ∙ sym (met-append g f0 xs ys)

  pub after_two : (f1 f2 f3 : Option TypeFault) (xs ys zs : List Site) → f1 ≡ met g f0 xs → f2 ≡ met g f1 ys
      → f3 ≡ met g f2 zs → f3 ≡ met g f0 (xs ++ ys ++ zs)
  after_two f1 f2 f3 xs ys zs h k l =
      l ∙ ap (λ f. met g f zs) (after_one f1 f2 xs ys h k) ∙ sym (met-append g f0 (xs ++ ys) zs)

  -- two parts, one after the other
  pub both : {X E : Type 0} (r : Result X E) (f1 f2 : Option TypeFault) (xs ys all : List Site) → all ≡ xs ++ ys
      → f1 ≡ met g f0 xs → OnOk r (f2 ≡ met g f1 ys) → OnOk r (f2 ≡ met g f0 all)
  both r f1 f2 xs ys all is h k =
      whole r f2 (xs ++ ys) all is
      (subst (λ (f : Option TypeFault). OnOk r (f2 ≡ f)) (ap (λ f. met g f ys) h ∙ sym (met-append g f0 xs ys)) k)

  -- two parts, met the other way round
  pub both_turned : {X E : Type 0} (r : Result X E) (f1 f2 : Option TypeFault) (xs ys all : List Site) → all ≡ ys ++ xs
      → f1 ≡ met g f0 xs → OnOk r (f2 ≡ met g f1 ys) → OnOk r (f2 ≡ met g f0 all)
  both_turned r f1 f2 xs ys all is h k =
      subst (λ (f : Option TypeFault). OnOk r (f2 ≡ f)) (met-swap g f0 xs ys ∙ ap (λ ss. met g f0 ss) (sym is))
      (both r f1 f2 xs ys (xs ++ ys) refl h k)

  -- three parts
  pub all_three : {X E : Type 0} (r : Result X E) (f1 f2 f3 : Option TypeFault) (xs ys zs all : List Site)
      → all ≡ xs ++ ys ++ zs → f1 ≡ met g f0 xs → f2 ≡ met g f1 ys →
      OnOk r (f3 ≡ met g f2 zs) → OnOk r (f3 ≡ met g f0 all)
  all_three r f1 f2 f3 xs ys zs all is h k l =
      both r f2 f3 (xs ++ ys) zs all is (after_one f1 f2 xs ys h k) l

-- Parts of a block, one after the other

module _ (g : Globals) (parts : List Part) (i : ℕ) (p : Part) (within : i < length parts) (is : p ≡ get_or parts i p)
  where
    pub parts_step : (found : Option TypeFault) (loop : Bool) (scope : Scope) →
        met g found (parts_sites g (drop i parts) loop scope)
        ≡ met g (met g found (part_sites g p loop scope))
        (parts_sites g (drop (i + 1) parts) loop (past_part g p scope))
    parts_step found loop scope =
        ap (λ ps. met g found (parts_sites g ps loop scope)) (drop_item parts i p within is)
        ∙ met-append g found (part_sites g p loop scope) (parts_sites g (drop (i + 1) parts) loop (past_part g p scope))

module _ (g : Globals) (parts : List Part) (i : ℕ) (past : length parts ≤ i) where
  pub parts_end : (found : Option TypeFault) (loop : Bool) (scope : Scope)
      → met g found (parts_sites g (drop i parts) loop scope) ≡ found
  parts_end found loop scope = ap (λ ps. met g found (parts_sites g ps loop scope)) (drop_all i parts past)
      ∙ met-nil g found
