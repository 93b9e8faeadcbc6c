-- The order in which places are met does not matter.
use Rattle.std.proofs.Common.{◌≡◌, inl, inr, false, List, [], ◌∷◌, ◌++◌, Option, Some, None, refl, sym, ap, ◌∙◌, subst}
use Rattle.fore_base.specs.Lists.{IsIn, Every}
use Rattle.fore_base.proofs.ListLemmas.{in_left, in_right, in_append}
use Rattle.c_typing.specs.Globals.{Globals}
use Rattle.c_typing.specs.Orders.{before}
use Rattle.c_typing.specs.Sites.{Site}
use Rattle.c_typing.specs.Typing.{breaches_of, IsFirst}
use Rattle.c_typing.proofs.Breaching.{breaches-append}
use Rattle.c_typing.proofs.TypingLaws.{one_first}
use Rattle.c_typing.specs.declared.fault.TypeFault.{TypeFault}
use Rattle.c_expressions.specs.First.{first_from}
use Rattle.c_expressions.specs.Meeting.{met}
use Rattle.c_bodies.proofs.FirstFaults.{found_first, found_none}
use Rattle.c_expressions.proofs.MeetingLemmas.{met-breaches}

-- the items of one list are items of another
Within : List TypeFault → List TypeFault → Type 0
Within xs ys = (e : TypeFault) → IsIn e xs → IsIn e ys

every_among : (P : TypeFault → Type 0) (xs : List TypeFault) → ((e : TypeFault) → IsIn e xs → P e) → Every P xs
every_among P [] h = tt
every_among P (x ∷ xs) h = (h x (inl refl), every_among P xs (λ e i. h e (inr i)))

of_every : (P : TypeFault → Type 0) (xs : List TypeFault) (e : TypeFault) → Every P xs → IsIn e xs → P e
of_every P [] e all i = absurd i
of_every P (x ∷ xs) e all (inl is) = subst P (sym is) all.0
of_every P (x ∷ xs) e all (inr later) = of_every P xs e all.1 later

first_of_same : (xs ys : List TypeFault) (e : TypeFault) → Within xs ys → Within ys xs → IsFirst e xs → IsFirst e ys
unfolding Within
first_of_same xs ys e there back first = (
  there e first.0,
  every_among (λ f. before f e ≡ false) ys
      (λ f i. of_every (λ f. before f e ≡ false) xs f first.1 (back f i)),
)

nothing_within : (ys : List TypeFault) → Within ys [] → ys ≡ []
unfolding Within
nothing_within [] h = refl
nothing_within (y ∷ ys) h = absurd (h y (inl refl))

same_first : (xs ys : List TypeFault) → Within xs ys → Within ys xs → first_from None xs ≡ first_from None ys
unfolding Within
same_first xs ys there back = by (first_from None xs) (first_from None ys) refl refl
  where
    empty : (zs ws : List TypeFault) → Within ws zs → first_from None zs ≡ None → first_from None ws ≡ None
    empty zs ws h is = ap (first_from None)
        (nothing_within ws (subst (λ (us : List TypeFault). Within ws us) (found_none zs is) h))

    by : (o p : Option TypeFault) → first_from None xs ≡ o → first_from None ys ≡ p → o ≡ p
    by None p is ys_is = sym (empty xs ys back is) ∙ ys_is
    by (Some d) None is ys_is = sym is ∙ empty ys xs there ys_is
    by (Some d) (Some e) is ys_is =
        ap Some (one_first ys d e (first_of_same xs ys d there back (found_first xs d is)) (found_first ys e ys_is))

turned_within : (found : Option TypeFault) (xs ys : List TypeFault) → first_from found (xs ++ ys)
    ≡ first_from found (ys ++ xs)
unfolding Within
turned_within found xs ys = by found
  where
    across : (us vs : List TypeFault) (e : TypeFault) → IsIn e (us ++ vs) → IsIn e (vs ++ us)
    across us vs e i = elim (in_append e us vs i) [ inl l ↦ in_right e vs us l | inr r ↦ in_left e vs us r ]

    behind : (d : TypeFault) (us vs : List TypeFault) (e : TypeFault) → IsIn e (d ∷ (us ++ vs))
        → IsIn e (d ∷ (vs ++ us))
    behind d us vs e (inl is) = inl is
    behind d us vs e (inr i) = inr (across us vs e i)

    by : (o : Option TypeFault) → first_from o (xs ++ ys) ≡ first_from o (ys ++ xs)
    by None = same_first (xs ++ ys) (ys ++ xs) (across xs ys) (across ys xs)
    by (Some d) = same_first (d ∷ (xs ++ ys)) (d ∷ (ys ++ xs)) (behind d xs ys) (behind d ys xs)

pub met-swap : (g : Globals) (found : Option TypeFault) (xs ys : List Site) → met g found (xs ++ ys)
    ≡ met g found (ys ++ xs)
met-swap g found xs ys =
    met-breaches g found (xs ++ ys)
    ∙ ap (first_from found) (breaches-append g xs ys)
    ∙ turned_within found (breaches_of g xs) (breaches_of g ys)
    ∙ sym (ap (first_from found) (breaches-append g ys xs))
    ∙ sym (met-breaches g found (ys ++ xs))
