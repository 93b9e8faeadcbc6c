-- The first fault so far, in the end, is the first fault.
use Rattle.std.proofs.Common.{◌≡◌, inl, inr, Bool, true, false, true≢false, cond, List, [], ◌∷◌, Some, None, refl, sym}
use Rattle.std.proofs.Common.{◌∙◌, subst}
use Rattle.fore_base.specs.Lists.{IsIn}
use Rattle.c_typing.specs.Orders.{before}
use Rattle.c_typing.specs.Typing.{IsFirst}
use Rattle.c_typing.proofs.TypingLaws.{first_there, level_faults, one_first}
use Rattle.c_typing.specs.declared.fault.TypeFault.{TypeFault}
use Rattle.c_expressions.specs.First.{earlier_of, first_from}

-- the first of a list with two in front is the first with the earlier of these in front
kept : (d x : TypeFault) (xs : List TypeFault) (f : TypeFault) → IsFirst f (d ∷ x ∷ xs)
    → IsFirst f (cond (before x d) x d ∷ xs)
kept d x xs f p = by (before x d) refl
  where
    by : (b : Bool) → before x d ≡ b → IsFirst f (cond b x d ∷ xs)
    by true i = (placed p.0, p.1.1)
      where
        placed : IsIn f (d ∷ x ∷ xs) → IsIn f (x ∷ xs)
        placed (inl is) = absurd (true≢false (sym i ∙ subst (λ (c : TypeFault). before x c ≡ false) is p.1.1.0))
        placed (inr later) = later
    by false i = (placed p.0, (p.1.0, p.1.1.1))
      where
        placed : IsIn f (d ∷ x ∷ xs) → IsIn f (d ∷ xs)
        placed (inl is) = inl is
        placed (inr (inl is)) = inl
            (is ∙ sym (level_faults d x (subst (λ (c : TypeFault). before d c ≡ false) is p.1.0) i))
        placed (inr (inr later)) = inr later

only : (d f : TypeFault) → IsFirst f (d ∷ []) → IsFirst d (d ∷ [])
only d f p = subst (λ (c : TypeFault). IsFirst c (d ∷ [])) (is p.0) p
  where
    is : IsIn f (d ∷ []) → f ≡ d
    is (inl e) = e
    is (inr h) = absurd h

found_among : (es : List TypeFault) (d e : TypeFault) → first_from (Some d) es ≡ Some e → IsFirst e (d ∷ es)
found_among [] d e h =
    let is : d ≡ e = cc in
    let f : (f : TypeFault) × IsFirst f (d ∷ []) = first_there d [] in
    subst (λ (c : TypeFault). IsFirst c (d ∷ [])) is (only d f.0 f.1)
found_among (x ∷ xs) d e h =
    let least : IsFirst e (earlier_of (Some d) x ∷ xs) = found_among xs (earlier_of (Some d) x) e h in
    let f : (f : TypeFault) × IsFirst f (d ∷ x ∷ xs) = first_there d (x ∷ xs) in
    subst (λ (c : TypeFault). IsFirst c (d ∷ x ∷ xs))
    (one_first (earlier_of (Some d) x ∷ xs) f.0 e (kept d x xs f.0 f.1) least) f.1

pub found_first : (es : List TypeFault) (e : TypeFault) → first_from None es ≡ Some e → IsFirst e es
found_first [] e h = cc
found_first (x ∷ xs) e h = found_among xs x e h

found_some : (es : List TypeFault) (d : TypeFault) → first_from (Some d) es ≡ None → ⊥
found_some [] d h = cc
found_some (x ∷ xs) d h = found_some xs (earlier_of (Some d) x) h

pub found_none : (es : List TypeFault) → first_from None es ≡ None → es ≡ []
found_none [] h = refl
found_none (x ∷ xs) h = absurd (found_some xs x h)
