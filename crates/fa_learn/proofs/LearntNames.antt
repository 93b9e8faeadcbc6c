-- The names of learnt boxes: they are words and differ, so one of the first of them is not in a table.
use Rattle.std.proofs.Common.{◌≡◌, ◌⊎◌, ◌<◌, ◌≤◌, ◌+◌, ◌^◌, ◌%◌, inl, inr, ℕ, zero, suc, List, [], ◌∷◌, ◌++◌, length}
use Rattle.std.proofs.Common.{refl, sym, ap, subst, ◌∙◌, arith}
use Rattle.std.proofs.lemmas.Bool.{cases_lt}
use Rattle.std.proofs.lemmas.Fmt.{decimal_by_steps, decimal_injective}
use Rattle.std.specs.Prelude.{codes, decimal}
use Rattle.fore_base.specs.Lists.{IsIn, Every, IsDistinct}
use Rattle.fore_base.proofs.ListLemmas.{every_append, every_push}
use Rattle.fa_core.specs.Words.{IsDigit, IsWord, IsWordByte}
use Rattle.fa_learn.specs.Learning.{learnt_name}

-- Lists of different items are no longer than what has them all.

module _ {X : Type 0} where
  -- the list without the first of its items that is this one
  abbrev without : (x : X) (ys : List X) → IsIn x ys → List X
  without x [] h = absurd h
  without x (y ∷ ys) (inl e) = ys
  without x (y ∷ ys) (inr h) = y ∷ without x ys h

  length_without : (x : X) (ys : List X) (h : IsIn x ys) → suc (length (without x ys h)) ≡ length ys
  length_without x [] h = absurd h
  length_without x (y ∷ ys) (inl e) = refl
  length_without x (y ∷ ys) (inr h) = ap suc (length_without x ys h)

  in_without : (x : X) (ys : List X) (h : IsIn x ys) (z : X) → IsIn z ys → (z ≡ x) ⊎ IsIn z (without x ys h)
  in_without x [] h z i = absurd h
  in_without x (y ∷ ys) (inl e) z (inl d) = inl (d ∙ sym e)
  in_without x (y ∷ ys) (inl e) z (inr i) = inr i
  in_without x (y ∷ ys) (inr h) z (inl d) = inr (inl d)
  in_without x (y ∷ ys) (inr h) z (inr i) = elim (in_without x ys h z i) [ inl d ↦ inl d | inr k ↦ inr (inr k) ]

  no_longer : (xs ys : List X) → IsDistinct xs → ((x : X) → IsIn x xs → IsIn x ys) → length xs ≤ length ys
  no_longer [] ys d f = omega arith
  no_longer (x ∷ xs) ys d f =
      let h = f x (inl refl) in
      let k = no_longer xs (without x ys h) d.1
      (λ z i. elim (in_without x ys h z (f z (inr i)))
      [ inl e ↦ absurd (d.0 (subst (λ (w : X). IsIn w xs) e i)) | inr m ↦ m ]) in
      let l = length_without x ys h in omega (arith, k, l)

-- Words.

cancel : (xs ys zs : List ℕ) → xs ++ ys ≡ xs ++ zs → ys ≡ zs
cancel [] ys zs e = e
cancel (x ∷ xs) ys zs e = cancel xs ys zs (ap rest e)
  where
    rest : List ℕ → List ℕ
    rest [] = []
    rest (w ∷ ws) = ws

digit_in : (n : ℕ) → n < 10 → IsDigit (48 + n)
digit_in n l = (omega arith, omega (arith, l))

digits : (n : ℕ) → n < 2 ^ 64 → Every IsWordByte (decimal n)
digits n l = decimal_by_steps (λ n ds. Every IsWordByte ds) (λ n l. (inr (digit_in n l), tt))
    (λ n ds l h. every_push IsWordByte ds (48 + n % 10) h (inr (digit_in (n % 10) (omega arith)))) n l

pub learnt_word : (n : ℕ) → n < 2 ^ 64 → IsWord (learnt_name n)
learnt_word n l = (
  inl (omega arith, omega arith),
  every_append IsWordByte (101 ∷ 97 ∷ 114 ∷ 110 ∷ []) (decimal n) (
    inl (inl (omega arith, omega arith)),
    (
      inl (inl (omega arith, omega arith)),
      (inl (inl (omega arith, omega arith)), (inl (inl (omega arith, omega arith)), tt)),
    ),
  ) (digits n l),
)

pub one_name : (m n : ℕ) → m < 2 ^ 64 → n < 2 ^ 64 → learnt_name m ≡ learnt_name n → m ≡ n
one_name m n k l e = decimal_injective m n k l (cancel (codes "learn") (decimal m) (decimal n) e)

-- Numbers of names.

abbrev first_names : ℕ → List (List ℕ)
first_names zero = []
first_names (suc n) = learnt_name n ∷ first_names n

long_names : (n : ℕ) → length (first_names n) ≡ n
long_names zero = refl
long_names (suc n) = ap suc (long_names n)

in_names : (x : List ℕ) (n : ℕ) → IsIn x (first_names n) → (k : ℕ) × (k < n) × (x ≡ learnt_name k)
in_names x zero h = absurd h
in_names x (suc n) (inl e) = (n, omega arith, e)
in_names x (suc n) (inr h) = let w = in_names x n h in let l = w.1 in (w.0, omega (arith, l), w.2)

names_differ : (n : ℕ) → n < 64 → IsDistinct (first_names n)
names_differ zero l = tt
names_differ (suc n) l = (
  (λ h. (let w = in_names (learnt_name n) n h in
      let m = w.1 in
      let e = one_name n w.0 (omega (arith, l)) (omega (arith, l, m)) w.2 in
      omega (arith, m, e))),
  names_differ n (omega (arith, l)),
)

-- where each name below a number is in a list, the number is at most the length of the list
pub few_names : (names : List (List ℕ)) (n : ℕ) → length names ≤ 32 → ((k : ℕ) → k < n → IsIn (learnt_name k) names)
    → n ≤ 32
few_names names n few all = elim (cases_lt 32 n) [
  | inl l ↦ (let k = no_longer (first_names 33) names (names_differ 33 (omega arith))
      (λ x h. (let w = in_names x 33 h in
      let m = w.1 in
      subst (λ (z : List ℕ). IsIn z names) (sym w.2) (all w.0 (omega (arith, l, m))))) in
      let e = long_names 33 in absurd (omega (arith, k, e, few)))
  | inr l ↦ omega (arith, l)
]
