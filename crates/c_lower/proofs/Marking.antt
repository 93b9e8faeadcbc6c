-- Entries of a list, set one after the other: an entry is set exactly if its place is one of those.
use Rattle.std.proofs.Common.{◌≡◌, ℕ, zero, suc, ◌+◌, ◌<◌, Bool, true, false, List, [], ◌∷◌, map, replicate, refl, sym}
use Rattle.std.proofs.Common.{ap, ◌∙◌, arith}
use Rattle.std.specs.Prelude.{slice_set, nat_eq, ◌||◌}
use Rattle.fore_base.specs.Stores.{set_each}
use Rattle.c_types.specs.Steps.{below}
use Rattle.c_cfg.specs.Lowering.{is_one_of}
use Rattle.c_lower.specs.inner.Numbering.{span}
use Rattle.c_lower.proofs.Numbers.{span_below}
use Rattle.c_cfg.proofs.Spans.{eq_yes, eq_no}

map_same : {A B : Type 0} (f g : A → B) → ((x : A) → f x ≡ g x) → (xs : List A) → map f xs ≡ map g xs
map_same f g h [] = refl
map_same f g h (x ∷ xs) = ap (λ y. y ∷ map f xs) (h x) ∙ ap (λ ys. g x ∷ ys) (map_same f g h xs)

or_false : (b : Bool) → (b || false) ≡ b
or_false true = refl
or_false false = refl

or_true : (b : Bool) → (b || true) ≡ true
or_true true = refl
or_true false = refl

or_assoc : (a b c : Bool) → ((a || b) || c) ≡ (a || (b || c))
or_assoc true b c = refl
or_assoc false b c = refl

-- a place below all of these
off : (p : ℕ → Bool) (m l n : ℕ) → m < l → map p (span l n) ≡ map (λ j. p j || nat_eq m j) (span l n)
off p m l zero h = refl
off p m l (suc n) h =
    ap (λ b. b ∷ map p (span (l + 1) n))
    (sym (or_false (p l)) ∙ ap (λ b. p l || b) (sym (eq_no m l (λ e. omega (arith, h, e)))))
    ∙ ap (λ bs. (p l || nat_eq m l) ∷ bs) (off p m (l + 1) n (omega (arith, h)))

one_set : (p : ℕ → Bool) (i k n : ℕ) → slice_set (map p (span i n)) k true
    ≡ map (λ j. p j || nat_eq (i + k) j) (span i n)
one_set p i zero zero = refl
one_set p i (suc k) zero = refl
one_set p i zero (suc n) =
    let z : i + 0 ≡ i = omega arith in
    ap (λ b. b ∷ map p (span (i + 1) n))
    (sym (or_true (p i)) ∙ ap (λ b. p i || b) (sym (ap (λ m. nat_eq m i) z ∙ eq_yes i)))
    ∙ ap (λ bs. (p i || nat_eq (i + 0) i) ∷ bs) (off p (i + 0) (i + 1) n (omega arith))
one_set p i (suc k) (suc n) =
    let s : i + 1 + k ≡ i + suc k = omega arith in
    ap (λ b. b ∷ slice_set (map p (span (i + 1) n)) k true)
    (sym (or_false (p i)) ∙ ap (λ b. p i || b) (sym (eq_no (i + suc k) i (λ e. omega (arith, e)))))
    ∙ ap (λ bs. (p i || nat_eq (i + suc k) i) ∷ bs)
    (one_set p (i + 1) k n ∙ ap (λ m. map (λ j. p j || nat_eq m j) (span (i + 1) n)) s)

each_set : (p : ℕ → Bool) (ks : List ℕ) (n : ℕ) → set_each (map p (span 0 n)) ks true
    ≡ map (λ j. p j || is_one_of ks j) (span 0 n)
each_set p [] n = map_same p (λ j. p j || is_one_of [] j) (λ j. sym (or_false (p j))) (span 0 n)
each_set p (k ∷ ks) n =
    let z : 0 + k ≡ k = omega arith in
    ap (λ bs. set_each bs ks true) (one_set p 0 k n ∙ ap (λ m. map (λ j. p j || nat_eq m j) (span 0 n)) z)
    ∙ each_set (λ j. p j || nat_eq k j) ks n
    ∙ map_same (λ j. (p j || nat_eq k j) || is_one_of ks j) (λ j. p j || is_one_of (k ∷ ks) j)
    (λ j. or_assoc (p j) (nat_eq k j) (is_one_of ks j)) (span 0 n)

none_set : (i n : ℕ) → replicate n false ≡ map (λ j. false) (span i n)
none_set i zero = refl
none_set i (suc n) = ap (λ bs. false ∷ bs) (none_set (i + 1) n)

pub entries_are : (ks : List ℕ) (n : ℕ) → set_each (replicate n false) ks true ≡ map (is_one_of ks) (below n)
entries_are ks n = ap (λ bs. set_each bs ks true) (none_set 0 n) ∙ each_set (λ j. false) ks n
    ∙ ap (map (is_one_of ks)) (span_below 0 0 n)
