-- Lists of the same items in another order, and what that leaves of cells.
use Rattle.std.proofs.Common.{◌≡◌, inl, inr, ℕ, zero, suc, ◌<◌, Bool, true, false, nat_eq, if◌then◌else◌, List, [], ◌∷◌}
use Rattle.std.proofs.Common.{◌++◌, map, length, slice_set, slice_index_or, swap, refl, sym, ◌∙◌, arith}
use Rattle.std.proofs.Common.{not-suc-le-zero, le_of_suc-le-suc, IsPermutation}
use Rattle.std.proofs.lemmas.Bool.{eqb-true}
use Rattle.std.proofs.lemmas.List.Sorted.{IsPermutation-keeps, IsPermutation-refl, IsPermutation-cons}
use Rattle.std.proofs.lemmas.List.Sorted.{IsPermutation-swap, IsPermutation-trans}
use Rattle.fore_base.specs.declared.store.CellRec.{CellRec}
use Rattle.fore_base.specs.Lists.{IsIn}
use Rattle.fore_base.specs.Stores.{dangle_in, without}
use Rattle.fore_base.specs.Heap.{HasCell, AllDiffer}

pub data Moved {X : Type 0} : List X → List X → Type 0 where
  none : Moved [] []
  keep : (x : X) {xs ys : List X} → Moved xs ys → Moved (x ∷ xs) (x ∷ ys)
  two : (x y : X) (xs : List X) → Moved (x ∷ y ∷ xs) (y ∷ x ∷ xs)
  chain : {xs ys zs : List X} → Moved xs ys → Moved ys zs → Moved xs zs

pub same : {X : Type 0} (xs : List X) → Moved xs xs
same [] = none
same (x ∷ xs) = keep x (same xs)

pub back : {X : Type 0} {xs ys : List X} → Moved xs ys → Moved ys xs
back none = none
back (keep x h) = keep x (back h)
back (two x y xs) = two y x xs
back (chain h k) = chain (back k) (back h)

-- Exchanges

lifted : {X : Type 0} (x : X) (xs : List X) (j : ℕ) (d : X) → j < length xs
    → Moved (x ∷ xs) (slice_index_or xs j d ∷ slice_set xs j x)
lifted x [] j d h = absurd (not-suc-le-zero h)
lifted x (y ∷ ys) zero d h = two x y ys
lifted x (y ∷ ys) (suc j) d h =
    chain (two x y ys)
    (chain (keep y (lifted x ys j d (le_of_suc-le-suc h))) (two y (slice_index_or ys j d) (slice_set ys j x)))

swapped : {X : Type 0} (xs : List X) (i j : ℕ) (d : X) → i < length xs → j < length xs
    → Moved xs (slice_set (slice_set xs i (slice_index_or xs j d)) j (slice_index_or xs i d))
swapped [] i j d h k = absurd (not-suc-le-zero h)
swapped (x ∷ xs) zero zero d h k = same (x ∷ xs)
swapped (x ∷ xs) zero (suc j) d h k = lifted x xs j d (le_of_suc-le-suc k)
swapped (x ∷ xs) (suc i) zero d h k = lifted x xs i d (le_of_suc-le-suc h)
swapped (x ∷ xs) (suc i) (suc j) d h k = keep x (swapped xs i j d (le_of_suc-le-suc h) (le_of_suc-le-suc k))

exchanged : {X : Type 0} (l : List X) (i j : ℕ) → i < length l → j < length l → Moved l (swap l i j)
exchanged [] i j h k = absurd (not-suc-le-zero h)
exchanged (d ∷ ys) i j h k = swapped (d ∷ ys) i j d h k

pub moved : {X : Type 0} (xs ys : List X) → IsPermutation xs ys → Moved xs ys
moved {X} xs ys p = IsPermutation-keeps xs (λ l. Moved xs l) (same xs) (λ l i j h k r. chain r (exchanged l i j h k)) ys
    p

pub permuted : {X : Type 0} {xs ys : List X} → Moved xs ys → IsPermutation xs ys
permuted none = IsPermutation-refl []
permuted (keep x {xs} {ys} h) = IsPermutation-cons x xs ys (permuted h)
permuted (two x y xs) = IsPermutation-swap (x ∷ y ∷ xs) (y ∷ x ∷ xs) 0 1 (omega arith) (omega arith) refl
permuted (chain {xs} {ys} {zs} h k) = IsPermutation-trans xs ys zs (permuted h) (permuted k)

-- Lists

pub moved_map : {X Y : Type 0} (f : X → Y) {xs ys : List X} → Moved xs ys → Moved (map f xs) (map f ys)
moved_map f none = none
moved_map f (keep x h) = keep (f x) (moved_map f h)
moved_map f (two x y xs) = two (f x) (f y) (map f xs)
moved_map f (chain h k) = chain (moved_map f h) (moved_map f k)

pub moved_in : {X : Type 0} (x : X) {xs ys : List X} → Moved xs ys → IsIn x xs → IsIn x ys
moved_in x none i = i
moved_in x (keep y h) (inl e) = inl e
moved_in x (keep y h) (inr i) = inr (moved_in x h i)
moved_in x (two y z xs) (inl e) = inr (inl e)
moved_in x (two y z xs) (inr (inl e)) = inl e
moved_in x (two y z xs) (inr (inr i)) = inr (inr i)
moved_in x (chain h k) i = moved_in x k (moved_in x h i)

pub moved_front : {X : Type 0} (zs : List X) {xs ys : List X} → Moved xs ys → Moved (xs ++ zs) (ys ++ zs)
moved_front zs none = same zs
moved_front zs (keep x h) = keep x (moved_front zs h)
moved_front zs (two x y xs) = two x y (xs ++ zs)
moved_front zs (chain h k) = chain (moved_front zs h) (moved_front zs k)

-- Cells

pub moved_has : (n : ℕ) {cs ds : List CellRec} → Moved cs ds → HasCell cs n → HasCell ds n
moved_has n none h = h
moved_has n (keep c m) (inl e) = inl e
moved_has n (keep c m) (inr h) = inr (moved_has n m h)
moved_has n (two c d cs) (inl e) = inr (inl e)
moved_has n (two c d cs) (inr (inl e)) = inl e
moved_has n (two c d cs) (inr (inr h)) = inr (inr h)
moved_has n (chain m k) h = moved_has n k (moved_has n m h)

pub moved_differ : {cs ds : List CellRec} → Moved cs ds → AllDiffer cs → AllDiffer ds
moved_differ none a = tt
moved_differ (keep c m) a = ((λ has. a.0 (moved_has c.number (back m) has)), moved_differ m a.1)
moved_differ (two c d cs) a = (other, ((λ has. a.0 (inr has)), a.1.1))
  where
    other : HasCell (c ∷ cs) d.number → ⊥
    other (inl e) = a.0 (inl (sym e))
    other (inr has) = a.1.0 has
moved_differ (chain m k) a = moved_differ k (moved_differ m a)

-- what is found at the cell of a number
abbrev pub find : {A : Type 0} → (CellRec → A) → A → List CellRec → ℕ → A
find g z [] n = z
find g z (c ∷ cs) n = if nat_eq c.number n then g c else find g z cs n

not_both : (c d : CellRec) (cs : List CellRec) (n : ℕ) → AllDiffer (c ∷ d ∷ cs) → nat_eq c.number n ≡ true
    → nat_eq d.number n ≡ true → ⊥
not_both c d cs n a x y = a.0 (inl (eqb-true d.number n y ∙ sym (eqb-true c.number n x)))

pub moved_find : {A : Type 0} (g : CellRec → A) (z : A) (n : ℕ) {cs ds : List CellRec} → Moved cs ds → AllDiffer cs
    → find g z cs n ≡ find g z ds n
moved_find g z n none a = refl
moved_find {A} g z n (keep c {xs} {ys} m) a = here (nat_eq c.number n) (moved_find g z n m a.1)
  where
    here : (b : Bool) → find g z xs n ≡ find g z ys n → (if b then g c else find g z xs n)
        ≡ (if b then g c else find g z ys n)
    here true e = refl
    here false e = e
moved_find {A} g z n (two c d cs) a = here (nat_eq c.number n) (nat_eq d.number n) refl refl
  where
    here : (x y : Bool) → nat_eq c.number n ≡ x → nat_eq d.number n ≡ y
        → (if x then g c else if y then g d else find g z cs n) ≡ (if y then g d else if x then g c else find g z cs n)
    here true true p q = absurd (not_both c d cs n a p q)
    here true false p q = refl
    here false true p q = refl
    here false false p q = refl
moved_find g z n (chain m k) a = moved_find g z n m a ∙ moved_find g z n k (moved_differ m a)

-- the cells with the one of a number changed
abbrev pub put : (CellRec → CellRec) → List CellRec → ℕ → List CellRec
put g [] n = []
put g (c ∷ cs) n = if nat_eq c.number n then g c ∷ cs else c ∷ put g cs n

pub moved_put : (g : CellRec → CellRec) (n : ℕ) {cs ds : List CellRec} → Moved cs ds → AllDiffer cs
    → Moved (put g cs n) (put g ds n)
moved_put g n none a = none
moved_put g n (keep c {xs} {ys} m) a = here (nat_eq c.number n) (moved_put g n m a.1)
  where
    here : (b : Bool) → Moved (put g xs n) (put g ys n)
        → Moved (if b then g c ∷ xs else c ∷ put g xs n) (if b then g c ∷ ys else c ∷ put g ys n)
    here true e = keep (g c) m
    here false e = keep c e
moved_put g n (two c d cs) a = here (nat_eq c.number n) (nat_eq d.number n) refl refl
  where
    here : (x y : Bool) → nat_eq c.number n ≡ x → nat_eq d.number n ≡ y
        → Moved (if x then g c ∷ d ∷ cs else c ∷ (if y then g d ∷ cs else d ∷ put g cs n))
        (if y then g d ∷ c ∷ cs else d ∷ (if x then g c ∷ cs else c ∷ put g cs n))
    here true true p q = absurd (not_both c d cs n a p q)
    here true false p q = two (g c) d cs
    here false true p q = two c (g d) cs
    here false false p q = two c d (put g cs n)
moved_put g n (chain m k) a = chain (moved_put g n m a) (moved_put g n k (moved_differ m a))

pub moved_without : (n : ℕ) {cs ds : List CellRec} → Moved cs ds → Moved (without n cs) (without n ds)
moved_without n none = none
moved_without n (keep c {xs} {ys} m) = here (nat_eq c.number n) (moved_without n m)
  where
    here : (b : Bool) → Moved (without n xs) (without n ys)
        → Moved (if b then without n xs else dangle_in n c ∷ without n xs)
        (if b then without n ys else dangle_in n c ∷ without n ys)
    here true e = e
    here false e = keep (dangle_in n c) e
moved_without n (two c d cs) = here (nat_eq c.number n) (nat_eq d.number n)
  where
    here : (x y : Bool) → Moved
        (if x then (if y then without n cs else dangle_in n d ∷ without n cs)
        else dangle_in n c ∷ (if y then without n cs else dangle_in n d ∷ without n cs))
        (if y then (if x then without n cs else dangle_in n c ∷ without n cs)
        else dangle_in n d ∷ (if x then without n cs else dangle_in n c ∷ without n cs))
    here true true = same (without n cs)
    here true false = same (dangle_in n d ∷ without n cs)
    here false true = same (dangle_in n c ∷ without n cs)
    here false false = two (dangle_in n c) (dangle_in n d) (without n cs)
moved_without n (chain m k) = chain (moved_without n m) (moved_without n k)
