-- The walk ends: each visit takes away from the visits that are left.
use Rattle.std.proofs.Common.{◌≡◌, ◌≢◌, ℕ, zero, suc, ◌<◌, ◌≤◌, ◌+◌, ◌-◌, take, get_or, append_assoc, Bool, true, false}
use Rattle.std.proofs.Common.{◌||◌, nat_eq, cond, length, List, [], ◌∷◌, ◌++◌, refl, sym, ap, subst, ◌∙◌}
use Rattle.std.proofs.Common.{reverse, slice_get, Some, not-suc-le-zero, le_of_suc-le-suc, arith}
use Rattle.std.proofs.lemmas.Bool.{eqb-true, eq-eqb}
use Rattle.std.proofs.lemmas.List.{length-append, reverse-append, take_more}
use Rattle.std.proofs.lemmas.Option.{none-some, same_Some, slice_get_within}
use Rattle.fore_base.specs.Lists.{IsIn, Every}
use Rattle.fore_base.proofs.ListLemmas.{every_in, in_from_place}
use Rattle.fa_core.specs.References.{AllBelow}
use Rattle.fa_core.specs.Ways.{has}
use Rattle.fa_core.proofs.Counts.{below_both}
use Rattle.fa_back.proofs.RootMarks.{has_in}
use Rattle.fa_order.specs.Placing.{PlacingOn, is_placed, place_now}
use Rattle.fa_order.specs.Visits.{IsVisit, was_placed, placed_now}
use Rattle.fa_order.specs.inner.Stacks.{nth_refs, unplaced, weight}

-- a stack from its top down, with one root more
pub reverse_last : (xs : List ℕ) (x : ℕ) → reverse (xs ++ x ∷ []) ≡ x ∷ reverse xs
reverse_last xs x = reverse-append xs (x ∷ [])

pub nth_got : (rss : List (List ℕ)) (r : ℕ) (rs : List ℕ) → slice_get rss r ≡ Some rs → rs ≡ nth_refs rss r
nth_got [] r rs e = absurd (none-some rs e)
nth_got (x ∷ rss) zero rs e = sym (same_Some x rs e)
nth_got (x ∷ rss) (suc r) rs e = nth_got rss r rs e

has_push : (n m : ℕ) (xs : List ℕ) → n ≢ m → has n (xs ++ m ∷ []) ≡ has n xs
has_push n m [] d = rw (differ (nat_eq n m) refl) refl
  where
    differ : (b : Bool) → nat_eq n m ≡ b → nat_eq n m ≡ false
    differ true v = absurd (d (eqb-true n m v))
    differ false v = v
has_push n m (x ∷ xs) d = ap (λ (z : Bool). nat_eq n x || z) (has_push n m xs d)

has_last : (n : ℕ) (xs : List ℕ) → has n (xs ++ n ∷ []) ≡ true
has_last n [] = rw (eq-eqb n n refl) refl
has_last n (x ∷ xs) = rw (has_last n xs) (or_true (nat_eq n x))
  where
    or_true : (b : Bool) → (b || true) ≡ true
    or_true true = refl
    or_true false = refl

-- a root below those that are counted makes no difference
unplaced_above : (rss : List (List ℕ)) (k m : ℕ) (placed : List ℕ) → m < k → unplaced rss k (placed ++ m ∷ [])
    ≡ unplaced rss k placed
unplaced_above [] k m placed l = refl
unplaced_above (rs ∷ rss) k m placed l =
    rw (has_push k m placed (λ e. omega (arith, e, l)), unplaced_above rss (suc k) m placed (omega (arith, l))) refl

unplaced_push : (rss : List (List ℕ)) (j k r : ℕ) (placed : List ℕ) → r ≡ k + j → j < length rss → has r placed ≡ false
    → unplaced rss k (placed ++ r ∷ []) + suc (length (nth_refs rss j)) ≡ unplaced rss k placed
unplaced_push [] j k r placed e l h = absurd (not-suc-le-zero l)
unplaced_push (rs ∷ rss) zero k r placed e l h =
    let z : r ≡ k = omega (arith, e) in
    let a : has k (placed ++ r ∷ []) ≡ true =
    subst (λ (v : ℕ). has v (placed ++ r ∷ []) ≡ true) z (has_last r placed) in
    let b : has k placed ≡ false = subst (λ (v : ℕ). has v placed ≡ false) z h in
    let c = unplaced_above rss (suc k) r placed (omega (arith, z)) in
    rw (a, b, c)
    (let g : 0 + unplaced rss (suc k) placed + suc (length rs) ≡ suc (length rs) + unplaced rss (suc k) placed =
    omega arith in g)
unplaced_push (rs ∷ rss) (suc j) k r placed e l h =
    let a : has k (placed ++ r ∷ []) ≡ has k placed = has_push k r placed (λ w. omega (arith, e, w)) in
    let b = unplaced_push rss j (suc k) r placed (omega (arith, e)) (le_of_suc-le-suc l) h in
    rw a (add (cond (has k placed) 0 (suc (length rs))) _ _ _ b)
  where
    add : (x u v w : ℕ) → u + v ≡ w → x + u + v ≡ x + w
    add x u v w e = omega (arith, e)

pub refs_below : (n : ℕ) (rss : List (List ℕ)) (r : ℕ) → Every (AllBelow n) rss → AllBelow n (nth_refs rss r)
refs_below n [] r h = tt
refs_below n (rs ∷ rss) zero h = h.0
refs_below n (rs ∷ rss) (suc r) h = refs_below n rss r h.1

-- What a visit does.

module _ (refers : List (List ℕ)) (r : ℕ) (todo placed : List ℕ) where
  -- it takes away from what is left, where the root was not placed
  pub visit_anew : {next now : List ℕ} → IsVisit refers r todo placed next now → (IsIn r placed → ⊥)
      → weight refers next now < weight refers todo placed
  visit_anew (was_placed i) o = absurd (o i)
  visit_anew (placed_now {rs = rs} o e) p =
      let a = unplaced_push refers r 0 r placed (omega arith) (slice_get_within refers r rs e) (new (has r placed) refl)
      in
      let b : length (rs ++ todo) ≡ length rs + length todo = length-append rs todo in
      let n : length rs ≡ length (nth_refs refers r) = ap length (nth_got refers r rs e) in
      let g : length (rs ++ todo) + unplaced refers 0 (placed ++ r ∷ []) < length todo + unplaced refers 0 placed =
      omega (arith, a, b, n) in g
    where
      new : (b : Bool) → has r placed ≡ b → has r placed ≡ false
      new true h = absurd (o (has_in r placed h))
      new false h = h

  -- and from what was left with the root
  pub visit_falls : {next now : List ℕ} → IsVisit refers r todo placed next now
      → weight refers next now < weight refers (r ∷ todo) placed
  visit_falls (was_placed i) =
      let g : length todo + unplaced refers 0 placed < suc (length todo) + unplaced refers 0 placed = omega arith in g
  visit_falls (placed_now {rs = rs} o e) =
      let l : length (rs ++ todo) + unplaced refers 0 (placed ++ r ∷ []) < length todo + unplaced refers 0 placed =
      visit_anew (placed_now o e) o in
      let g : length (rs ++ todo) + unplaced refers 0 (placed ++ r ∷ []) < suc (length todo) + unplaced refers 0 placed
      = omega (arith, l) in g

  -- the roots to be visited stay below n
  pub visit_below : {next now : List ℕ} (n : ℕ) → IsVisit refers r todo placed next now → Every (AllBelow n) refers
      → AllBelow n todo → AllBelow n next
  visit_below n (was_placed i) f h = h
  visit_below n (placed_now {rs = rs} o e) f h =
      below_both n rs todo (every_in (AllBelow n) refers rs f (in_from_place refers r rs e)) h

  -- the walk that goes on behind it is the walk with the visit
  pub visit_goes : {next now : List ℕ} (Leads Gives : ℕ → ℕ → ℕ → Type 0) → IsVisit refers r todo placed next now
      → (order : List ℕ) → PlacingOn (nth_refs refers) Leads Gives next now order
      → PlacingOn (nth_refs refers) Leads Gives (r ∷ todo) placed order
  visit_goes Leads Gives (was_placed i) order w = is_placed i w
  visit_goes Leads Gives (placed_now {rs = rs} o e) order w =
      place_now o
      (subst (λ (z : List ℕ). PlacingOn (nth_refs refers) Leads Gives (z ++ todo) (placed ++ r ∷ []) order)
      (nth_got refers r rs e) w)

-- the last of the first i items put before the rest
pub step_down : (xs : List ℕ) (i : ℕ) (rest : List ℕ) → 0 < i → i ≤ length xs → take (i - 1) xs
    ++ (get_or xs (i - 1) 0 ∷ rest) ≡ take i xs ++ rest
step_down xs i rest a b =
    let e : i - 1 + 1 ≡ i = omega (arith, a) in
    let l : i - 1 < length xs = omega (arith, a, b) in
    sym (append_assoc (take (i - 1) xs) (get_or xs (i - 1) 0 ∷ []) rest)
    ∙ ap (λ (z : List ℕ). z ++ rest) (sym (take_more xs (i - 1) 0 l)) ∙ ap (λ (z : ℕ). take z xs ++ rest) e
