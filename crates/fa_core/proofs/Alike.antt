-- References that give one signature where there is no box edge.
use Rattle.std.proofs.Common.{◌≡◌, inl, inr, ℕ, zero, suc, ◌≤◌, ◌+◌, Bool, true, false, true≢false, cond, ◌||◌, nat_eq}
use Rattle.std.proofs.Common.{nat_le, List, [], ◌∷◌, ◌++◌, map, refl, sym, ap, ap₂, ◌∙◌, arith, append-nil}
use Rattle.std.proofs.lemmas.Bool.{eqb-true, le-leb}
use Rattle.fa_core.specs.declared.signature.RefMark.{RefMark}
use Rattle.fa_core.specs.Rearranged.{often}
use Rattle.fa_core.specs.References.{to_two, AreAlike, plain_mark, plain_marks}
use Rattle.fa_core.specs.Ways.{has, once}
use Rattle.fa_core.proofs.Counts.{often_both}
use Rattle.fa_core.proofs.Numbers.{or_cases, has_once, once_flat}
use Rattle.fa_core.proofs.PlainWays.{map_same}

-- Counts up to two.

more_than_one : (n : ℕ) → nat_le 2 (suc (suc n)) ≡ true
more_than_one n = le-leb 2 (suc (suc n)) (omega arith)

many_to_two : (n : ℕ) → nat_le 2 n ≡ nat_le 2 (to_two n)
many_to_two zero = refl
many_to_two (suc zero) = refl
many_to_two (suc (suc n)) = more_than_one n

same_to_two : (m n : ℕ) → 1 ≤ m → 1 ≤ n → nat_le 2 m ≡ nat_le 2 n → to_two m ≡ to_two n
same_to_two zero n a b e = absurd (omega (arith, a))
same_to_two (suc m) zero a b e = absurd (omega (arith, b))
same_to_two (suc zero) (suc zero) a b e = refl
same_to_two (suc zero) (suc (suc n)) a b e = absurd (true≢false (sym (more_than_one n) ∙ sym e))
same_to_two (suc (suc m)) (suc zero) a b e = absurd (true≢false (sym (more_than_one m) ∙ e))
same_to_two (suc (suc m)) (suc (suc n)) a b e = refl

twice_to_two : (n : ℕ) → to_two (to_two n) ≡ to_two n
twice_to_two zero = refl
twice_to_two (suc zero) = refl
twice_to_two (suc (suc n)) = refl

suc_to_two : (n : ℕ) → to_two (suc (to_two n)) ≡ to_two (suc n)
suc_to_two zero = refl
suc_to_two (suc zero) = refl
suc_to_two (suc (suc n)) = refl

-- the count of two lists is that of both counts
pub both_to_two : (a b : ℕ) → to_two (to_two a + to_two b) ≡ to_two (a + b)
both_to_two zero b = let e : 0 + to_two b ≡ to_two b = omega arith in let g : 0 + b ≡ b = omega arith in ap to_two e
    ∙ twice_to_two b ∙ ap to_two (sym g)
both_to_two (suc zero) b = let e : 1 + to_two b ≡ suc (to_two b) = omega arith in
    let g : suc zero + b ≡ suc b = omega arith in ap to_two e ∙ suc_to_two b ∙ ap to_two (sym g)
both_to_two (suc (suc a)) b = let e : 2 + to_two b ≡ suc (suc (to_two b)) = omega arith in
    let g : suc (suc a) + b ≡ suc (suc (a + b)) = omega arith in ap to_two e ∙ ap to_two (sym g)

-- Counts of numbers that a list has.

has_often : (k : ℕ) (xs : List ℕ) → has k xs ≡ true → 1 ≤ often k xs
has_often k [] h = absurd (true≢false (sym h))
has_often k (x ∷ xs) h = here (nat_eq k x) h (has_often k xs)
  where
    here : (b : Bool) → (b || has k xs) ≡ true → (has k xs ≡ true → 1 ≤ often k xs)
        → 1 ≤ cond b (often k xs + 1) (often k xs)
    here true h f = omega arith
    here false h f = f h

no_often : (k : ℕ) (xs : List ℕ) → has k xs ≡ false → often k xs ≡ 0
no_often k [] h = refl
no_often k (x ∷ xs) h = here (nat_eq k x) h (no_often k xs)
  where
    here : (b : Bool) → (b || has k xs) ≡ false → (has k xs ≡ false → often k xs ≡ 0)
        → cond b (often k xs + 1) (often k xs) ≡ 0
    here true h f = absurd (true≢false h)
    here false h f = f h

-- Signatures and references.

-- references that are alike give one signature
pub alike_marks : (xs ys : List ℕ) → AreAlike xs ys → plain_marks xs ≡ plain_marks ys
alike_marks xs ys h =
    map_same (plain_mark xs) (plain_mark ys) (once xs)
    (λ r. ap (λ (b : Bool). record { root = r; many = b; provided = []; back = false; reach = [] })
    (many_to_two (often r xs) ∙ ap (λ (n : ℕ). nat_le 2 n) (h.times r) ∙ sym (many_to_two (often r ys))))
    ∙ ap (λ (z : List ℕ). map (plain_mark ys) z) h.order

abbrev mark_root : RefMark → ℕ
mark_root m = m.root

abbrev mark_many : RefMark → Bool
mark_many m = m.many

roots_again : (xs ks : List ℕ) → map mark_root (map (plain_mark xs) ks) ≡ ks
roots_again xs [] = refl
roots_again xs (k ∷ ks) = ap (λ (z : List ℕ). k ∷ z) (roots_again xs ks)

many_again : (xs ks : List ℕ) → map mark_many (map (plain_mark xs) ks) ≡ map (λ k. nat_le 2 (often k xs)) ks
many_again xs [] = refl
many_again xs (k ∷ ks) = ap (λ (z : List Bool). nat_le 2 (often k xs) ∷ z) (many_again xs ks)

abbrev first_or : Bool → List Bool → Bool
first_or d [] = d
first_or d (b ∷ bs) = b

abbrev others : List Bool → List Bool
others [] = []
others (b ∷ bs) = bs

same_at : (f g : ℕ → Bool) (ks : List ℕ) (k : ℕ) → map f ks ≡ map g ks → has k ks ≡ true → f k ≡ g k
same_at f g [] k e h = absurd (true≢false (sym h))
same_at f g (x ∷ ks) k e h = elim (or_cases (nat_eq k x) (has k ks) h) [
  | inl i ↦ (let w = eqb-true k x i in ap f w ∙ ap (first_or true) e ∙ ap g (sym w))
  | inr j ↦ same_at f g ks k (ap others e) j
]

-- references that give one signature are alike
pub marks_alike : (xs ys : List ℕ) → plain_marks xs ≡ plain_marks ys → AreAlike xs ys
marks_alike xs ys e = record { order = o; times = λ k. by k (has k xs) refl }
  where
    o : once xs ≡ once ys
    o = sym (roots_again xs (once xs)) ∙ ap (λ (z : List RefMark). map mark_root z) e ∙ roots_again ys (once ys)

    m : map (λ k. nat_le 2 (often k xs)) (once xs) ≡ map (λ k. nat_le 2 (often k ys)) (once xs)
    m = sym (many_again xs (once xs)) ∙ ap (λ (z : List RefMark). map mark_many z) e ∙ many_again ys (once ys)
        ∙ ap (λ (z : List ℕ). map (λ k. nat_le 2 (often k ys)) z) (sym o)

    -- both lists have the number, or neither
    both : (k : ℕ) → has k xs ≡ has k ys
    both k = sym (has_once k xs) ∙ ap (λ (z : List ℕ). has k z) o ∙ has_once k ys

    by : (k : ℕ) (b : Bool) → has k xs ≡ b → to_two (often k xs) ≡ to_two (often k ys)
    by k true h = same_to_two (often k xs) (often k ys) (has_often k xs h) (has_often k ys (sym (both k) ∙ h))
        (same_at (λ k. nat_le 2 (often k xs)) (λ k. nat_le 2 (often k ys)) (once xs) k m (has_once k xs ∙ h))
    by k false h = ap to_two (no_often k xs h ∙ sym (no_often k ys (sym (both k) ∙ h)))

-- Laws of references that are alike.

pub alike_same : (xs : List ℕ) → AreAlike xs xs
alike_same xs = record { order = refl; times = λ k. refl }

pub alike_back : (xs ys : List ℕ) → AreAlike xs ys → AreAlike ys xs
alike_back xs ys h = record { order = sym h.order; times = λ k. sym (h.times k) }

pub alike_on : (xs ys zs : List ℕ) → AreAlike xs ys → AreAlike ys zs → AreAlike xs zs
alike_on xs ys zs g h = record { order = g.order ∙ h.order; times = λ k. g.times k ∙ h.times k }

-- the order of first visit of two lists is that of both orders
once_both : (xs ys : List ℕ) → once (once xs ++ once ys) ≡ once (xs ++ ys)
once_both xs ys =
    let a : once ys ++ [] ≡ once ys = append-nil (once ys) in
    let b : ys ++ [] ≡ ys = append-nil ys in
    ap (λ (z : List ℕ). once (once xs ++ z)) (sym a) ∙ once_flat once (λ z. z) (xs ∷ ys ∷ []) (λ z. refl) []
    ∙ ap (λ (z : List ℕ). once (xs ++ z)) b

-- one list after the other
pub alike_both : (xs us ys ws : List ℕ) → AreAlike xs us → AreAlike ys ws → AreAlike (xs ++ ys) (us ++ ws)
alike_both xs us ys ws a b = record {
  order = sym (once_both xs ys) ∙ ap₂ (λ (x y : List ℕ). once (x ++ y)) a.order b.order ∙ once_both us ws;
  times = λ k. ap to_two (often_both k xs ys) ∙ sym (both_to_two (often k xs) (often k ys))
      ∙ ap₂ (λ (x y : ℕ). to_two (x + y)) (a.times k) (b.times k) ∙ both_to_two (often k us) (often k ws)
      ∙ ap to_two (sym (often_both k us ws));
}
