-- Two walks that meet the same cells place them in the same order.
use Rattle.std.proofs.Common.{◌≡◌, ◌⊎◌, inl, inr, ℕ, suc, ◌<◌, ◌≤◌, Bool, true, false, ◌||◌, cond, nat_eq, List, []}
use Rattle.std.proofs.Common.{◌∷◌, ◌++◌, map, refl, sym, ap, ap₂, subst, ◌∙◌, arith, lt_irrefl, not-suc-le-zero}
use Rattle.std.proofs.lemmas.Bool.{eqb-true, eq-eqb}
use Rattle.fa_core.specs.Canonical.{Walks, ended, old, new, again}
use Rattle.fa_core.specs.References.{AllBelow}
use Rattle.fa_core.specs.Ways.{has, once, once_from}
use Rattle.fa_core.proofs.Numbers.{bool_same}
use Rattle.fa_core.proofs.WaysOf.{map-append}

abbrev head_or : ℕ → List ℕ → ℕ
head_or d [] = d
head_or d (z ∷ zs) = z

abbrev tail_of : List ℕ → List ℕ
tail_of [] = []
tail_of (z ∷ zs) = zs

head_same : (x y : ℕ) (xs ys : List ℕ) → x ∷ xs ≡ y ∷ ys → x ≡ y
head_same x y xs ys e = ap (head_or x) e

tail_same : (x y : ℕ) (xs ys : List ℕ) → x ∷ xs ≡ y ∷ ys → xs ≡ ys
tail_same x y xs ys e = ap tail_of e

abbrev IsNil : List ℕ → Type 0
IsNil [] = Unit {0}
IsNil (z ∷ zs) = ⊥

nil_not : (y : ℕ) (ys : List ℕ) → [] ≡ y ∷ ys → ⊥
nil_not y ys e = subst IsNil e tt

-- nothing goes on: without box edges no way leads back
abbrev pub Never : ℕ → Type 0
Never k = ⊥

-- the placed roots are no fewer in the end
walk_rises : {refers : ℕ → List ℕ} {todo : List ℕ} {k n : ℕ} → Walks refers Never todo k n → k ≤ n
walk_rises ended = omega arith
walk_rises (old h w) = walk_rises w
walk_rises {k = k} {n = n} (new w) = let h : suc k ≤ n = walk_rises w in omega (arith, h)
walk_rises (again h e w) = absurd e

module _ (refers others : ℕ → List ℕ) (cell place : ℕ → ℕ) (n m : ℕ)
    (apart : (i j : ℕ) → i < n → j < n → cell i ≡ cell j → i ≡ j)
    (apart' : (i j : ℕ) → i < m → j < m → place i ≡ place j → i ≡ j)
    (follow : (i j : ℕ) → i < n → j < m → cell i ≡ place j → map cell (refers i) ≡ map place (others j)) where
  abbrev Placed : ℕ → Type 0
  Placed k = (i : ℕ) → i < k → cell i ≡ place i

  placed_more : (k : ℕ) → Placed k → cell k ≡ place k → Placed (suc k)
  placed_more k p e i h = here (eq_or_less i k h)
    where
      eq_or_less : (i k : ℕ) → i < suc k → (i ≡ k) ⊎ (i < k)
      eq_or_less i k h = grind arith

      here : (i ≡ k) ⊎ (i < k) → cell i ≡ place i
      here (inl z) = rw z e
      here (inr l) = p i l

  same_walk : {a b : ℕ} {k : ℕ} {todo rest : List ℕ} → Walks refers Never todo k a → Walks others Never rest k b
      → a ≡ n → b ≡ m → map cell todo ≡ map place rest → Placed k → (n ≡ m) × Placed n
  same_walk {a} ended ended g h e p = (sym g ∙ h, rw (sym g) p)
  same_walk ended (old {r = r} {todo = rest} l v) g h e p = absurd (nil_not (place r) (map place rest) e)
  same_walk {k = k} ended (new {todo = rest} v) g h e p = absurd (nil_not (place k) (map place rest) e)
  same_walk ended (again l x v) g h e p = absurd x
  same_walk (again l x w) v g h e p = absurd x
  same_walk (old {r = r} {todo = todo} l w) ended g h e p = absurd (nil_not (cell r) (map cell todo) (sym e))
  same_walk (old {r = r} {todo = todo} l w) (old {r = s} {todo = rest} l' v) g h e p = same_walk w v g h
      (tail_same (cell r) (place s) (map cell todo) (map place rest) e) p
  same_walk {k = k} (old {r = r} {todo = todo} l w) (new {todo = rest} v) g h e p =
      let u : suc k ≤ m = rw (sym h) (walk_rises v) in
      let z : r ≡ k = apart' r k (omega (arith, l, u)) (omega (arith, u))
      (sym (p r l) ∙ head_same (cell r) (place k) (map cell todo) (map place rest) e) in
      absurd (lt_irrefl k (rw z at l))
  same_walk (old l w) (again l' x v) g h e p = absurd x
  same_walk {k = k} (new {todo = todo} w) ended g h e p = absurd (nil_not (cell k) (map cell todo) (sym e))
  same_walk {k = k} (new {todo = todo} w) (old {r = s} {todo = rest} l v) g h e p =
      let u : suc k ≤ n = rw (sym g) (walk_rises w) in
      let z : s ≡ k = apart s k (omega (arith, l, u)) (omega (arith, u))
      (p s l ∙ sym (head_same (cell k) (place s) (map cell todo) (map place rest) e)) in
      absurd (lt_irrefl k (rw z at l))
  same_walk {k = k} (new {todo = todo} w) (new {todo = rest} v) g h e p =
      let u : suc k ≤ n = rw (sym g) (walk_rises w) in
      let u' : suc k ≤ m = rw (sym h) (walk_rises v) in
      let same = head_same (cell k) (place k) (map cell todo) (map place rest) e in
      same_walk w v g h (map-append cell (refers k) todo ∙ ap₂ (λ (x y : List ℕ). x ++ y)
      (follow k k (omega (arith, u)) (omega (arith, u')) same)
      (tail_same (cell k) (place k) (map cell todo) (map place rest) e)
      ∙ sym (map-append place (others k) rest)) (placed_more k p same)
  same_walk (new w) (again l x v) g h e p = absurd x

  -- two walks from the same cells place the same cells in the same order
  pub one_order : {todo rest : List ℕ} → Walks refers Never todo 0 n → Walks others Never rest 0 m
      → map cell todo ≡ map place rest → (n ≡ m) × Placed n
  one_order w v e = same_walk w v refl refl e (λ i h. absurd (not-suc-le-zero h))

-- Each root once, and each of its cells once.

module _ (cell : ℕ → ℕ) (n : ℕ) (apart : (i j : ℕ) → i < n → j < n → cell i ≡ cell j → i ≡ j) where
  same_has : (x : ℕ) (seen : List ℕ) → x < n → AllBelow n seen → has x seen ≡ has (cell x) (map cell seen)
  same_has x [] l h = refl
  same_has x (y ∷ seen) l h =
      ap₂ (λ (a b : Bool). a || b)
      (bool_same (nat_eq x y) (nat_eq (cell x) (cell y)) (λ e. eq-eqb (cell x) (cell y) (ap cell (eqb-true x y e)))
      (λ e. eq-eqb x y (apart x y l h.0 (eqb-true (cell x) (cell y) e))))
      (same_has x seen l h.1)

  once_from_mapped : (seen xs : List ℕ) → AllBelow n seen → AllBelow n xs
      → map cell (once_from seen xs) ≡ once_from (map cell seen) (map cell xs)
  once_from_mapped seen [] s h = refl
  once_from_mapped seen (x ∷ xs) s h =
      here (has x seen) (has (cell x) (map cell seen)) (same_has x seen h.0 s) (once_from_mapped seen xs s h.1)
      (once_from_mapped (x ∷ seen) xs (h.0, s) h.1)
    where
      here : (a b : Bool) → a ≡ b → map cell (once_from seen xs) ≡ once_from (map cell seen) (map cell xs)
          → map cell (once_from (x ∷ seen) xs) ≡ once_from (cell x ∷ map cell seen) (map cell xs)
          → map cell (cond a (once_from seen xs) (x ∷ once_from (x ∷ seen) xs))
          ≡ cond b (once_from (map cell seen) (map cell xs))
          (cell x ∷ once_from (cell x ∷ map cell seen) (map cell xs))
      here true true e p q = p
      here false false e p q = ap (λ (z : List ℕ). cell x ∷ z) q
      here true false e p q = absurd (subst (λ (u : Bool). cond u (Unit {0}) ⊥) e tt)
      here false true e p q = absurd (subst (λ (u : Bool). cond u ⊥ (Unit {0})) e tt)

  -- where the roots have cells of their own, the roots once give the cells once
  pub once_mapped : (xs : List ℕ) → AllBelow n xs → map cell (once xs) ≡ once (map cell xs)
  once_mapped xs h = once_from_mapped [] xs tt h
