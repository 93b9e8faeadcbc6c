-- Chains of calls that are no longer than there are functions: a longer one comes twice to one function.
use Rattle.std.proofs.Common.{◌≡◌, ◌⊎◌, inl, inr, ℕ, zero, suc, ◌<◌, ◌≤◌, ◌+◌, ◌||◌, Bool, true, false, true≢false}
use Rattle.std.proofs.Common.{not}
use Rattle.std.proofs.Common.{List, [], ◌∷◌, map, length, eqb, refl, sym, subst, arith}
use Rattle.std.specs.List.{list_any, AllByRecursion}
use Rattle.std.specs.List as stds
use Rattle.std.proofs.lemmas.Bool.{and_parts, and_from, or_cases, or_right, or_left, eqb-true, eq-eqb, cases_eq}
use Rattle.std.proofs.lemmas.Bool.{cases_lt}
use Rattle.std.proofs.lemmas.Map.Steps.{length-le_from_distinct_below}
use Rattle.fore_base.specs.Lists.{IsIn, Every, IsDistinct, sum_of}
use Rattle.fore_base.proofs.ListLemmas.{in_any, any_in, every_in, every_weaker}
use Rattle.c_calls.proofs.Places.{caller_within}
use Rattle.c_calls.specs.Calls.{called_by, Leads, at_once, through, NoneRecurs, leads_within, none_recurs}
use Rattle.c_calls.specs.Calls.{none_recurs_below}
use Rattle.c_calls.specs.Weights.{Weighs, Weigh, weighs, none, more, weight_within, weight_of}

-- Different numbers below n are at most n.

unlike_each : (x : ℕ) (xs : List ℕ) → (IsIn x xs → ⊥) → AllByRecursion (λ y. eqb x y ≡ false) xs
unlike_each x [] d = tt
unlike_each x (y ∷ ys) d = (unlike (eqb x y) refl, unlike_each x ys (λ i. d (inr i)))
  where
    unlike : (b : Bool) → eqb x y ≡ b → eqb x y ≡ false
    unlike true e = absurd (d (inl (eqb-true x y e)))
    unlike false e = e

apart : (xs : List ℕ) → IsDistinct xs → stds.IsDistinct eqb xs
unfolding stds.IsDistinct
apart [] d = tt
apart (x ∷ xs) d = (unlike_each x xs d.0, apart xs d.1)

any_turned : (q : ℕ) (xs : List ℕ) → list_any (eqb q) xs ≡ true → IsIn q xs
any_turned q xs e = let w = any_in (eqb q) xs e in subst (λ (n : ℕ). IsIn n xs) (sym (eqb-true q w.0 w.2)) w.1

pub few_below : (xs : List ℕ) (n : ℕ) → IsDistinct xs → Every (λ x. x < n) xs → length xs ≤ n
few_below xs n d b = length-le_from_distinct_below xs n (apart xs d)
    (λ q e. every_in (λ x. x < n) xs q b (any_turned q xs e))

is_in_or_not : (x : ℕ) (xs : List ℕ) → IsIn x xs ⊎ (IsIn x xs → ⊥)
is_in_or_not x [] = inr (λ i. i)
is_in_or_not x (y ∷ ys) = elim (cases_eq x y) [
  | inl e ↦ inl (inl e)
  | inr d ↦ elim (is_in_or_not x ys) [
    | inl i ↦ inl (inr i)
    | inr n ↦ inr (λ i. elim i [ inl e ↦ d e | inr j ↦ n j ])
  ]
]

module _ (calls : List (List ℕ)) where
  -- What leads within some calls, leads; and within more calls too.

  pub within_leads : (n f g : ℕ) → leads_within calls n f g ≡ true → Leads calls f g
  within_leads zero f g e = absurd (true≢false (sym e))
  within_leads (suc n) f g e =
      let w = any_in (λ h. eqb h g || leads_within calls n h g) (called_by calls f) e in
      elim (or_cases (eqb w.0 g) (leads_within calls n w.0 g) w.2) [
        | inl same ↦ at_once (subst (λ (h : ℕ). IsIn h (called_by calls f)) (eqb-true w.0 g same) w.1)
        | inr later ↦ through w.0 w.1 (within_leads n w.0 g later)
      ]

  within_at_once : (n f g : ℕ) → IsIn g (called_by calls f) → leads_within calls (suc n) f g ≡ true
  within_at_once n f g i = in_any (λ h. eqb h g || leads_within calls n h g) (called_by calls f) g i
      (or_left (eqb g g) (leads_within calls n g g) (eq-eqb g g refl))

  within_through : (n f h g : ℕ) → IsIn h (called_by calls f) → leads_within calls n h g ≡ true
      → leads_within calls (suc n) f g ≡ true
  within_through n f h g i e = in_any (λ k. eqb k g || leads_within calls n k g) (called_by calls f) h i
      (or_right (eqb h g) (leads_within calls n h g) e)

  within_more : (n m f g : ℕ) → n ≤ m → leads_within calls n f g ≡ true → leads_within calls m f g ≡ true
  within_more zero m f g l e = absurd (true≢false (sym e))
  within_more (suc n) zero f g l e = absurd (omega (arith, l))
  within_more (suc n) (suc m) f g l e =
      let w = any_in (λ h. eqb h g || leads_within calls n h g) (called_by calls f) e in
      elim (or_cases (eqb w.0 g) (leads_within calls n w.0 g) w.2) [
        | inl same ↦ within_at_once m f g (subst (λ (h : ℕ). IsIn h (called_by calls f)) (eqb-true w.0 g same) w.1)
        | inr later ↦ within_through m f w.0 g w.1 (within_more n m w.0 g (omega (arith, l)) later)
      ]

  -- Chains of calls: the functions that call, one after the other, from f on, until g is called.

  data Chain : ℕ → ℕ → List ℕ → Type 0 where
    last : {f g : ℕ} → IsIn g (called_by calls f) → Chain f g (f ∷ [])
    on : {f g h : ℕ} {xs : List ℕ} → IsIn h (called_by calls f) → Chain h g xs → Chain f g (f ∷ xs)

  chain_within : (f g : ℕ) (xs : List ℕ) → Chain f g xs → leads_within calls (length xs) f g ≡ true
  chain_within f g [] c = elim c [ ]
  chain_within f g (x ∷ []) (last i) = within_at_once 0 f g i
  chain_within f g (x ∷ xs) (on {h = h} i c) = within_through (length xs) f h g i (chain_within h g xs c)

  chain_below : (f g : ℕ) (xs : List ℕ) → Chain f g xs → Every (λ x. x < length calls) xs
  chain_below f g [] c = elim c [ ]
  chain_below f g (x ∷ []) (last i) = (caller_within calls f g i, tt)
  chain_below f g (x ∷ xs) (on {h = h} i c) = (caller_within calls f h i, chain_below h g xs c)

  -- a chain in which no function stands twice
  record Short (f g : ℕ) : Type 0 where
    names : List ℕ
    chain : Chain f g names
    distinct : IsDistinct names

  -- what is left of a chain from one of its functions on
  cut : (f g x : ℕ) (xs : List ℕ) → Chain f g xs → IsDistinct xs → IsIn x xs → Short x g
  cut f g x [] c d i = elim c [ ]
  cut f g x (y ∷ []) (last i) d (inl e) =
      subst (λ (n : ℕ). Short n g) (sym e) (record { names = y ∷ []; chain = last i; distinct = d })
  cut f g x (y ∷ []) (last i) d (inr n) = absurd n
  cut f g x (y ∷ ys) (on i c) d (inl e) =
      subst (λ (n : ℕ). Short n g) (sym e) (record { names = y ∷ ys; chain = on i c; distinct = d })
  cut f g x (y ∷ ys) (on {h = h} i c) d (inr k) = cut h g x ys c d.1 k

  short : (f g : ℕ) → Leads calls f g → Short f g
  short f g (at_once i) = record { names = f ∷ []; chain = last i; distinct = (λ n. n, tt) }
  short f g (through h i l) = let s = short h g l in longer s (is_in_or_not f s.names)
    where
      longer : (s : Short h g) → (IsIn f s.names ⊎ (IsIn f s.names → ⊥)) → Short f g
      longer s (inl k) = cut h g f s.names s.chain s.distinct k
      longer s (inr n) = record { names = f ∷ s.names; chain = on i s.chain; distinct = (n, s.distinct) }

  pub leads_few : (f g : ℕ) → Leads calls f g → leads_within calls (length calls) f g ≡ true
  leads_few f g l =
      let s = short f g l in
      within_more (length s.names) (length calls) f g
      (few_below s.names (length calls) s.distinct (chain_below f g s.names s.chain))
      (chain_within f g s.names s.chain)

  -- Whether some function leads to itself.

  not_from : (b : Bool) → (b ≡ true → ⊥) → not b ≡ true
  not_from true h = absurd (h refl)
  not_from false h = refl

  not_to : (b : Bool) → not b ≡ true → b ≡ true → ⊥
  not_to true h e = true≢false (sym h)
  not_to false h e = true≢false (sym e)

  test_below : (k : ℕ) → none_recurs_below calls k ≡ true → (f : ℕ) → f < k → Leads calls f f → ⊥
  test_below zero e f l r = omega (arith, l)
  test_below (suc k) e f l r =
      let parts = and_parts (not (leads_within calls (length calls) k k)) (none_recurs_below calls k) e in
      elim (cases_lt f k) [
        | inl b ↦ test_below k parts.1 f b r
        | inr b ↦ (let s : f ≡ k = omega (arith, b, l) in
            not_to (leads_within calls (length calls) k k) parts.0
            (leads_few k k (subst (λ (n : ℕ). Leads calls n n) s r)))
      ]

  below_test : NoneRecurs calls → (k : ℕ) → none_recurs_below calls k ≡ true
  below_test h zero = refl
  below_test h (suc k) = and_from (not (leads_within calls (length calls) k k)) (none_recurs_below calls k)
      (not_from (leads_within calls (length calls) k k) (λ e. h k (within_leads (length calls) k k e)))
      (below_test h k)

  leads_from : (f g : ℕ) → Leads calls f g → f < length calls
  leads_from f g (at_once i) = caller_within calls f g i
  leads_from f g (through h i l) = caller_within calls f h i

  pub test_none : none_recurs calls ≡ true → NoneRecurs calls
  test_none e f r = test_below (length calls) e f (leads_from f f r) r

  pub none_test : NoneRecurs calls → none_recurs calls ≡ true
  none_test h = below_test h (length calls)

  -- Where no function leads to itself. `before` are functions that lead to f, none of them twice.

  -- a chain of n functions more may be followed
  pub record Room (n f : ℕ) (before : List ℕ) : Type 0 where
    pub long : length before + n ≡ length calls
    pub distinct : IsDistinct before
    pub leads : Every (λ x. (x < length calls) × Leads calls x f) before

  pub first_room : (f : ℕ) → Room (length calls) f []
  first_room f = record { long = omega arith; distinct = tt; leads = tt }

  module _ (free : NoneRecurs calls) where
    -- f is none of those before it
    fresh : (n f : ℕ) (before : List ℕ) → Room n f before → IsIn f before → ⊥
    fresh n f before r i = free f (every_in (λ x. (x < length calls) × Leads calls x f) before f r.leads i).1

    -- at the end of the room no function is left
    pub none_left : (f : ℕ) (before : List ℕ) → Room 0 f before → f < length calls → ⊥
    none_left f before r within =
        let few = few_below (f ∷ before) (length calls) (fresh 0 f before r, r.distinct) (
          within,
          every_weaker (λ x. (x < length calls) × Leads calls x f) (λ x. x < length calls) before (λ x p. p.0) r.leads,
        ) in
        let long = r.long in
        omega (arith, few, long)

    -- so nothing is called there
    calls_none : (f g : ℕ) (before : List ℕ) → Room 0 f before → IsIn g (called_by calls f) → ⊥
    calls_none f g before r i = none_left f before r (caller_within calls f g i)

    leads_on : (x f g : ℕ) → Leads calls x f → IsIn g (called_by calls f) → Leads calls x g
    leads_on x f g (at_once i) k = through f i (at_once k)
    leads_on x f g (through h i l) k = through h i (leads_on h f g l k)

    pub next_room : (n f g : ℕ) (before : List ℕ) → Room (suc n) f before → IsIn g (called_by calls f)
        → Room n g (f ∷ before)
    next_room n f g before r i = record {
      long = (let l = r.long in omega (arith, l));
      distinct = (fresh (suc n) f before r, r.distinct);
      leads = (
        (caller_within calls f g i, at_once i),
        every_weaker (λ x. (x < length calls) × Leads calls x f) (λ x. (x < length calls) × Leads calls x g) before
            (λ x p. (p.0, leads_on x f g p.1 i)) r.leads,
      );
    }

  -- Weights where no function leads to itself

  module _ (statements : List ℕ) (free : NoneRecurs calls) where
    sum_weighs : (w : ℕ → ℕ) (gs : List ℕ) → ((g : ℕ) → IsIn g gs → Weighs statements calls g (w g))
        → Weigh statements calls gs (sum_of (map w gs))
    sum_weighs w [] h = none refl
    sum_weighs w (g ∷ gs) h = more (h g (inl refl)) (sum_weighs w gs (λ k i. h k (inr i))) refl

    nothing_called : (gs : List ℕ) → ((g : ℕ) → IsIn g gs → ⊥) → Weigh statements calls gs 0
    nothing_called [] h = none refl
    nothing_called (g ∷ gs) h = absurd (h g (inl refl))

    weighs_within : (n f : ℕ) (before : List ℕ) → Room n f before
        → Weighs statements calls f (weight_within statements calls n f)
    weighs_within zero f before r =
        weighs (nothing_called (called_by calls f) (λ g i. calls_none free f g before r i)) (omega arith)
    weighs_within (suc n) f before r =
        weighs (sum_weighs (weight_within statements calls n) (called_by calls f)
        (λ g i. weighs_within n g (f ∷ before) (next_room free n f g before r i))) refl

    pub each_weighs : (f : ℕ) → Weighs statements calls f (weight_of statements calls f)
    each_weighs f = weighs_within (length calls) f [] (first_room f)
