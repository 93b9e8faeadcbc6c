-- Lists in which each item stands once.
use Rattle.std.proofs.Common.{◌≡◌, ◌⊎◌, ◌↔◌, inl, inr, ℕ, ◌<◌, ◌+◌, List, [], ◌∷◌, ◌++◌, length, get_or, take, sym}
use Rattle.std.proofs.Common.{subst}
use Rattle.fore_base.specs.Lists.{IsIn}
use Rattle.fore_base.proofs.ListLemmas.{in_left, in_last, in_push, take_item}

-- an item that is there adds nothing
pub same_still : (xs : List ℕ) (x : ℕ) → IsIn x xs → (q : ℕ) → IsIn q xs ↔ (IsIn q xs ⊎ (q ≡ x))
same_still xs x i q = (λ j. inl j, λ h. elim h [ inl j ↦ j | inr e ↦ subst (λ (y : ℕ). IsIn y xs) (sym e) i ])

-- one that is added is there
pub same_push : (xs : List ℕ) (x : ℕ) → (q : ℕ) → IsIn q (xs ++ x ∷ []) ↔ (IsIn q xs ⊎ (q ≡ x))
same_push xs x q = (
  in_push x q xs,
  λ h. elim h
      [ inl j ↦ in_left q xs (x ∷ []) j | inr e ↦ subst (λ (y : ℕ). IsIn y (xs ++ x ∷ [])) (sym e) (in_last x xs) ],
)

-- one more of the items is done
pub same_taken : (done new xs : List ℕ) (i x : ℕ) → i < length xs → x ≡ get_or xs i x
    → ((q : ℕ) → IsIn q done ↔ IsIn q (take i xs)) → ((q : ℕ) → IsIn q new ↔ (IsIn q done ⊎ (q ≡ x))) → (q : ℕ)
    → IsIn q new ↔ IsIn q (take (i + 1) xs)
same_taken done new xs i x l e h k q =
    let t = take_item xs i x l e in (
      λ j. subst (IsIn q) (sym t)
          ((same_push (take i xs) x q).1 (elim ((k q).0 j) [ inl d ↦ inl ((h q).0 d) | inr d ↦ inr d ])),
      λ j.
          (k q).1
          (elim ((same_push (take i xs) x q).0 (subst (IsIn q) t j)) [ inl d ↦ inl ((h q).1 d) | inr d ↦ inr d ]),
    )
