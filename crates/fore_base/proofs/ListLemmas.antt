-- What lists of all kinds have in common: their items, facts of each item, places, and lists paired place by place.
use Rattle.std.proofs.Common.{◌≡◌, ◌⊎◌, inl, inr, ℕ, zero, suc, ◌<◌, ◌≤◌, ◌+◌, Bool, true, true≢false, List, [], ◌∷◌}
use Rattle.std.proofs.Common.{◌++◌, Some, length, map, get_or, set, take, drop, replicate, eqb, refl, sym, ap, subst}
use Rattle.std.proofs.Common.{◌∙◌, arith}
use Rattle.std.specs.List.{All, Contains, list_any, list_all, slice_get, remove}
use Rattle.std.proofs.lemmas.Bool.{and_parts, and_from, or_cases, or_right, eqb-true, eq-eqb}
use Rattle.std.proofs.lemmas.List.{take_more, drop_more}
use Rattle.fore_base.specs.Lists.{IsIn, Every, IsDistinct, Paired}

module _ {X : Type 0} where
  -- Items of lists that are put together

  pub in_left : (x : X) (xs ys : List X) → IsIn x xs → IsIn x (xs ++ ys)
  in_left x (z ∷ xs) ys (inl e) = inl e
  in_left x (z ∷ xs) ys (inr h) = inr (in_left x xs ys h)
  in_left x [] ys h = absurd h

  pub in_right : (x : X) (xs ys : List X) → IsIn x ys → IsIn x (xs ++ ys)
  in_right x [] ys h = h
  in_right x (z ∷ xs) ys h = inr (in_right x xs ys h)

  pub in_append : (x : X) (xs ys : List X) → IsIn x (xs ++ ys) → IsIn x xs ⊎ IsIn x ys
  in_append x [] ys h = inr h
  in_append x (z ∷ xs) ys (inl e) = inl (inl e)
  in_append x (z ∷ xs) ys (inr h) = elim (in_append x xs ys h) [ inl i ↦ inl (inr i) | inr i ↦ inr i ]

  -- the last item, and one that is there after it was added
  pub in_last : (x : X) (xs : List X) → IsIn x (xs ++ x ∷ [])
  in_last x xs = in_right x xs (x ∷ []) (inl refl)

  pub in_push : (x y : X) (xs : List X) → IsIn y (xs ++ x ∷ []) → IsIn y xs ⊎ (y ≡ x)
  in_push x y xs h = elim (in_append y xs (x ∷ []) h)
      [ inl i ↦ inl i | inr i ↦ (elim i [ inl e ↦ inr e | inr n ↦ absurd n ]) ]

  pub in_middle : (x : X) (xs ys : List X) → IsIn x (xs ++ x ∷ ys)
  in_middle x xs ys = in_right x xs (x ∷ ys) (inl refl)

  -- an item of a list of one
  pub only_item : (x y : X) (xs : List X) → xs ≡ y ∷ [] → IsIn x xs → x ≡ y
  only_item x y xs e i = elim (subst (IsIn x) e i) [ inl d ↦ d | inr n ↦ absurd n ]

  -- Fronts and rests

  pub in_drop : (n : ℕ) (x : X) (xs : List X) → IsIn x (drop n xs) → IsIn x xs
  in_drop zero x xs i = i
  in_drop (suc n) x [] i = i
  in_drop (suc n) x (y ∷ ys) i = inr (in_drop n x ys i)

  pub in_take : (n : ℕ) (x : X) (xs : List X) → IsIn x (take n xs) → IsIn x xs
  in_take zero x xs i = absurd i
  in_take (suc n) x [] i = i
  in_take (suc n) x (y ∷ ys) (inl e) = inl e
  in_take (suc n) x (y ∷ ys) (inr i) = inr (in_take n x ys i)

  -- an item of the rest is the first of it, or one of the rest behind that
  pub in_drop_here : (k : ℕ) (xs : List X) (x d : X) → k < length xs → IsIn x (drop k xs) → (x ≡ get_or xs k d)
      ⊎ IsIn x (drop (suc k) xs)
  in_drop_here k [] x d l i = absurd (omega (arith, l))
  in_drop_here zero (y ∷ ys) x d l i = i
  in_drop_here (suc k) (y ∷ ys) x d l i = in_drop_here k ys x d (omega (arith, l)) i

  -- nothing is left behind the end
  pub past_end : (k : ℕ) (xs : List X) (x : X) → length xs ≤ k → IsIn x (drop k xs) → ⊥
  past_end zero [] x l i = i
  past_end zero (y ∷ ys) x l i = absurd (omega (arith, l))
  past_end (suc k) [] x l i = i
  past_end (suc k) (y ∷ ys) x l i = past_end k ys x (omega (arith, l)) i

  -- one more item, read at place i
  pub take_item : (xs : List X) (i : ℕ) (x : X) → i < length xs → x ≡ get_or xs i x → take (i + 1) xs ≡ take i xs
      ++ x ∷ []
  take_item xs i x h e = take_more xs i x h ∙ ap (λ (y : X). take i xs ++ y ∷ []) (sym e)

  pub drop_item : (xs : List X) (i : ℕ) (x : X) → i < length xs → x ≡ get_or xs i x → drop i xs ≡ x ∷ drop (i + 1) xs
  drop_item xs i x h e = drop_more xs i x h ∙ ap (λ (y : X). y ∷ drop (i + 1) xs) (sym e)

  -- Facts of each item

  -- what each item meets, an item of the list meets
  pub every_in : (P : X → Type 0) (xs : List X) (x : X) → Every P xs → IsIn x xs → P x
  every_in P (y ∷ ys) x h (inl e) = let g = h.0 in rw e g
  every_in P (y ∷ ys) x h (inr i) = every_in P ys x h.1 i
  every_in P [] x h i = absurd i

  pub in_every : (P : X → Type 0) (xs : List X) → ((x : X) → IsIn x xs → P x) → Every P xs
  in_every P [] f = tt
  in_every P (x ∷ xs) f = (f x (inl refl), in_every P xs (λ y i. f y (inr i)))

  pub every_weaker : (P Q : X → Type 0) (xs : List X) → ((x : X) → P x → Q x) → Every P xs → Every Q xs
  every_weaker P Q [] f h = tt
  every_weaker P Q (x ∷ xs) f h = (f x h.0, every_weaker P Q xs f h.1)

  pub every_push : (P : X → Type 0) (xs : List X) (x : X) → Every P xs → P x → Every P (xs ++ x ∷ [])
  every_push P [] x h p = (p, tt)
  every_push P (y ∷ xs) x h p = (h.0, every_push P xs x h.1 p)

  pub every_append : (P : X → Type 0) (xs ys : List X) → Every P xs → Every P ys → Every P (xs ++ ys)
  every_append P [] ys h k = k
  every_append P (x ∷ xs) ys h k = (h.0, every_append P xs ys h.1 k)

  -- and the other way round
  pub every_parts : (P : X → Type 0) (xs ys : List X) → Every P (xs ++ ys) → Every P xs × Every P ys
  every_parts P [] ys h = (tt, h)
  every_parts P (x ∷ xs) ys h = let r = every_parts P xs ys h.1 in ((h.0, r.0), r.1)

  pub every_take : (P : X → Type 0) (n : ℕ) (xs : List X) → Every P xs → Every P (take n xs)
  every_take P zero xs h = tt
  every_take P (suc n) [] h = tt
  every_take P (suc n) (x ∷ xs) h = (h.0, every_take P n xs h.1)

  pub every_drop : (P : X → Type 0) (n : ℕ) (xs : List X) → Every P xs → Every P (drop n xs)
  every_drop P zero xs h = h
  every_drop P (suc n) [] h = tt
  every_drop P (suc n) (x ∷ xs) h = every_drop P n xs h.1

  pub every_set : (P : X → Type 0) (xs : List X) (i : ℕ) (x : X) → Every P xs → P x → Every P (set xs i x)
  every_set P [] i x h p = tt
  every_set P (y ∷ ys) zero x h p = (p, h.1)
  every_set P (y ∷ ys) (suc i) x h p = (h.0, every_set P ys i x h.1 p)

  pub every_copy : (P : X → Type 0) (n : ℕ) (x : X) → P x → Every P (replicate n x)
  every_copy P zero x p = tt
  every_copy P (suc n) x p = (p, every_copy P n x p)

  pub every_without : (P : X → Type 0) (xs : List X) (i : ℕ) → Every P xs → Every P (remove xs i)
  every_without P [] zero h = tt
  every_without P [] (suc i) h = tt
  every_without P (y ∷ xs) zero h = h.1
  every_without P (y ∷ xs) (suc i) h = (h.0, every_without P xs i h.1)

  -- Places

  -- the item at a place is an item of the list
  pub in_place : (xs : List X) (i : ℕ) (d : X) → i < length xs → IsIn (get_or xs i d) xs
  in_place [] i d h = absurd (omega arith)
  in_place (x ∷ xs) zero d h = inl refl
  in_place (x ∷ xs) (suc i) d h = inr (in_place xs i d (omega arith))

  pub in_at : (xs : List X) (i : ℕ) (x : X) → i < length xs → x ≡ get_or xs i x → IsIn x xs
  in_at xs i x l e = subst (λ (y : X). IsIn y xs) (sym e) (in_place xs i x l)

  pub in_from_place : (xs : List X) (i : ℕ) (x : X) → slice_get xs i ≡ Some x → IsIn x xs
  in_from_place [] i x e = absurd cc
  in_from_place (y ∷ xs) zero x e = inl cc
  in_from_place (y ∷ xs) (suc i) x e = inr (in_from_place xs i x e)

  -- each item has a place
  pub place_of : (xs : List X) (x : X) → IsIn x xs → (i : ℕ) × (slice_get xs i ≡ Some x)
  place_of [] x i = absurd i
  place_of (y ∷ xs) x (inl e) = (0, cc)
  place_of (y ∷ xs) x (inr i) = let w = place_of xs x i in (suc w.0, w.1)

  pub place_within : (xs : List X) (x d : X) → IsIn x xs → (i : ℕ) × (i < length xs) × (get_or xs i d ≡ x)
  place_within [] x d i = absurd i
  place_within (y ∷ xs) x d (inl e) = (0, omega arith, sym e)
  place_within (y ∷ xs) x d (inr i) = let w = place_within xs x d i in (suc w.0, (let l = w.1 in omega (arith, l)), w.2)

  -- one place has one item
  pub same_item : (xs : List X) (i : ℕ) (x y : X) → slice_get xs i ≡ Some x → slice_get xs i ≡ Some y → x ≡ y
  same_item xs i x y h k = cc

  -- what each item meets, the item at a place meets
  pub every_at : (P : X → Type 0) (xs : List X) (i : ℕ) (x : X) → Every P xs → i < length xs → x ≡ get_or xs i x → P x
  every_at P xs i x h l e = let g = every_in P xs (get_or xs i x) h (in_place xs i x l) in subst P (sym e) g

  pub every_get : (P : X → Type 0) (xs : List X) (i : ℕ) (d : X) → Every P xs → i < length xs → P (get_or xs i d)
  every_get P xs i d h l = every_in P xs (get_or xs i d) h (in_place xs i d l)

  -- what the item at each place meets, each item meets
  pub every_place : (P : X → Type 0) (xs : List X) (d : X) → ((i : ℕ) → i < length xs → P (get_or xs i d)) → Every P xs
  every_place P [] d f = tt
  every_place P (x ∷ xs) d f = (f 0 (omega arith), every_place P xs d (λ i l. f (suc i) (omega (arith, l))))

  -- Lists in which no item stands twice

  pub distinct_push : (xs : List X) (x : X) → IsDistinct xs → (IsIn x xs → ⊥) → IsDistinct (xs ++ x ∷ [])
  distinct_push [] x d absent = (λ h. h, tt)
  distinct_push (y ∷ ys) x d absent = (
    λ h. elim (in_push x y ys h) [ inl k ↦ d.0 k | inr e ↦ absent (inl (sym e)) ],
    distinct_push ys x d.1 (λ h. absent (inr h)),
  )

  -- an item that stands twice
  pub twice : (xs ys : List X) (x : X) → IsIn x xs → IsDistinct (xs ++ x ∷ ys) → ⊥
  twice [] ys x h d = h
  twice (z ∷ xs) ys x (inl e) d = d.0 (subst (λ (v : X). IsIn v (xs ++ x ∷ ys)) e (in_middle x xs ys))
  twice (z ∷ xs) ys x (inr h) d = twice xs ys x h d.1

  -- The words of std say the same by places

  pub every_all : (P : X → Type 0) (xs : List X) → Every P xs → All P xs
  every_all P xs h k d l = every_in P xs (get_or xs k d) h (in_place xs k d l)

  pub all_every : (P : X → Type 0) (xs : List X) → All P xs → Every P xs
  all_every P [] h = tt
  all_every P (x ∷ xs) h = every_place P (x ∷ xs) x (λ i l. h i x l)

  pub in_contains : (x : X) (xs : List X) → IsIn x xs → Contains xs x
  in_contains x xs i = place_within xs x x i

  pub contains_in : (x : X) (xs : List X) → Contains xs x → IsIn x xs
  contains_in x xs c = in_at xs c.0 x c.1 (sym c.2)

  -- Tests of each item

  -- where an item passes, some item does
  pub in_any : (p : X → Bool) (xs : List X) (x : X) → IsIn x xs → p x ≡ true → list_any p xs ≡ true
  in_any p [] x i e = absurd i
  in_any p (y ∷ ys) x (inl same) e = let here : p y ≡ true = ap p (sym same) ∙ e in rw here refl
  in_any p (y ∷ ys) x (inr i) e = or_right (p y) (list_any p ys) (in_any p ys x i e)

  pub any_in : (p : X → Bool) (xs : List X) → list_any p xs ≡ true → (x : X) × IsIn x xs × (p x ≡ true)
  any_in p [] e = absurd (true≢false (sym e))
  any_in p (y ∷ ys) e = elim (or_cases (p y) (list_any p ys) e) [
    | inl here ↦ (y, inl refl, here)
    | inr later ↦ (let w = any_in p ys later in (w.0, inr w.1, w.2))
  ]

  pub every_tests : (p : X → Bool) (xs : List X) → Every (λ x. p x ≡ true) xs → list_all p xs ≡ true
  every_tests p [] h = refl
  every_tests p (x ∷ xs) h = and_from (p x) (list_all p xs) h.0 (every_tests p xs h.1)

  pub tests_every : (p : X → Bool) (xs : List X) → list_all p xs ≡ true → Every (λ x. p x ≡ true) xs
  tests_every p [] e = tt
  tests_every p (x ∷ xs) e = let parts = and_parts (p x) (list_all p xs) e in (parts.0, tests_every p xs parts.1)

-- a list of numbers has this one
pub number_in : (n : ℕ) (ns : List ℕ) → list_any (λ m. eqb m n) ns ≡ true → IsIn n ns
number_in n ns e = let w = any_in (λ m. eqb m n) ns e in subst (λ m. IsIn m ns) (eqb-true w.0 n w.2) w.1

pub in_number : (n : ℕ) (ns : List ℕ) → IsIn n ns → list_any (λ m. eqb m n) ns ≡ true
in_number n ns i = in_any (λ m. eqb m n) ns n i (eq-eqb n n refl)

module _ {X Y : Type 0} (f : X → Y) where
  pub in_map : (x : X) (xs : List X) → IsIn x xs → IsIn (f x) (map f xs)
  in_map x (y ∷ xs) (inl e) = inl (ap f e)
  in_map x (y ∷ xs) (inr i) = inr (in_map x xs i)
  in_map x [] i = absurd i

  -- an item of the mapped list comes from one of the list
  pub in_mapped : (y : Y) (xs : List X) → IsIn y (map f xs) → (x : X) × IsIn x xs × (y ≡ f x)
  in_mapped y [] i = absurd i
  in_mapped y (x ∷ xs) (inl e) = (x, inl refl, e)
  in_mapped y (x ∷ xs) (inr i) = let m = in_mapped y xs i in (m.0, inr m.1, m.2)

  pub every_map : (P : Y → Type 0) (xs : List X) → Every (λ x. P (f x)) xs → Every P (map f xs)
  every_map P [] h = tt
  every_map P (x ∷ xs) h = (h.0, every_map P xs h.1)

  pub every_mapped : (P : Y → Type 0) (xs : List X) → Every P (map f xs) → Every (λ x. P (f x)) xs
  every_mapped P [] h = tt
  every_mapped P (x ∷ xs) h = (h.0, every_mapped P xs h.1)

module _ {X Y : Type 0} (R : X → Y → Type 0) where
  -- one more item behind both lists
  pub paired_push : (xs : List X) (ys : List Y) (x : X) (y : Y) → Paired R xs ys → R x y
      → Paired R (xs ++ x ∷ []) (ys ++ y ∷ [])
  paired_push [] [] x y h r = (r, tt)
  paired_push [] (b ∷ ys) x y h r = absurd h
  paired_push (a ∷ xs) [] x y h r = absurd h
  paired_push (a ∷ xs) (b ∷ ys) x y h r = (h.0, paired_push xs ys x y h.1 r)

  pub paired_long : (xs : List X) (ys : List Y) → Paired R xs ys → length xs ≡ length ys
  paired_long [] [] h = refl
  paired_long [] (y ∷ ys) h = absurd h
  paired_long (x ∷ xs) [] h = absurd h
  paired_long (x ∷ xs) (y ∷ ys) h = ap suc (paired_long xs ys h.1)

  pub paired_weaker : (S : X → Y → Type 0) (xs : List X) (ys : List Y) → ((x : X) (y : Y) → R x y → S x y)
      → Paired R xs ys → Paired S xs ys
  paired_weaker S [] [] f h = tt
  paired_weaker S [] (y ∷ ys) f h = absurd h
  paired_weaker S (x ∷ xs) [] f h = absurd h
  paired_weaker S (x ∷ xs) (y ∷ ys) f h = (f x y h.0, paired_weaker S xs ys f h.1)

  -- an item of the second list has a partner in the first one, and the other way round
  pub partner_of : (xs : List X) (ys : List Y) (y : Y) → Paired R xs ys → IsIn y ys → (x : X) × IsIn x xs × R x y
  partner_of [] [] y h i = absurd i
  partner_of [] (z ∷ ys) y h i = absurd h
  partner_of (x ∷ xs) [] y h i = absurd h
  partner_of (x ∷ xs) (z ∷ ys) y h (inl e) = (x, inl refl, subst (R x) (sym e) h.0)
  partner_of (x ∷ xs) (z ∷ ys) y h (inr i) = let p = partner_of xs ys y h.1 i in (p.0, inr p.1, p.2)

  pub partner_for : (xs : List X) (ys : List Y) (x : X) → Paired R xs ys → IsIn x xs → (y : Y) × IsIn y ys × R x y
  partner_for [] [] x h i = absurd i
  partner_for [] (y ∷ ys) x h i = absurd h
  partner_for (z ∷ xs) [] x h i = absurd h
  partner_for (z ∷ xs) (y ∷ ys) x h (inl e) = (y, inl refl, subst (λ (v : X). R v y) (sym e) h.0)
  partner_for (z ∷ xs) (y ∷ ys) x h (inr i) = let p = partner_for xs ys x h.1 i in (p.0, inr p.1, p.2)

-- lists that are related place by place, where the first one's items meet P and the second one's Q
pub paired_carried : {X Y : Type 0} (P : X → Type 0) (Q : Y → Type 0) (R S : X → Y → Type 0)
    → ((x : X) (y : Y) → P x → Q y → R x y → S x y) →
    (xs : List X) (ys : List Y) → Every P xs → Every Q ys → Paired R xs ys → Paired S xs ys
paired_carried P Q R S f [] [] l k h = tt
paired_carried P Q R S f [] (y ∷ ys) l k h = absurd h
paired_carried P Q R S f (x ∷ xs) [] l k h = absurd h
paired_carried P Q R S f (x ∷ xs) (y ∷ ys) l k h = (f x y l.0 k.0 h.0, paired_carried P Q R S f xs ys l.1 k.1 h.1)

-- each item is related to itself
pub paired_same : {X : Type 0} (R : X → X → Type 0) → ((x : X) → R x x) → (xs : List X) → Paired R xs xs
paired_same R f [] = tt
paired_same R f (x ∷ xs) = (f x, paired_same R f xs)
