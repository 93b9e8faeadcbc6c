-- What a round leaves: rows that still relate what simulates, and in the end a simulation.
use Rattle.std.proofs.Common.{◌≡◌, inl, inr, ℕ, zero, suc, ◌<◌, ◌≤◌, Bool, true, false, true≢false, List, [], ◌∷◌, ◌++◌}
use Rattle.std.proofs.Common.{length, get_or, replicate, refl, sym, ap, subst, ◌∙◌, arith}
use Rattle.std.proofs.Common.{◌+◌, take}
use Rattle.std.proofs.Math.Nat.{zero-add}
use Rattle.std.proofs.Math.Seq.{take-append_seam}
use Rattle.std.proofs.lemmas.Bool.{cases_lt}
use Rattle.std.proofs.lemmas.List.{get_or_push, get_or_append_left, get_or-replicate, length-append, length-replicate}
use Rattle.fore_base.specs.Lists.{IsIn, Every, Paired}
use Rattle.ta_core.specs.declared.auto.Rule.{Rule}
use Rattle.ta_core.specs.Auto.{IsRankedRule}
use Rattle.fore_base.specs.Marks.{MarksOf}
use Rattle.ta_core.specs.Simulations.{IsDownward, IsSimulated}
use Rattle.fore_base.proofs.ListLemmas.{every_in, in_every}
use Rattle.fore_base.proofs.MarkLemmas.{marked_below}
use Rattle.ta_sim.specs.inner.Matching.{group_at, AreByState, IsMatch, IsAnswered, Stays}
use Rattle.ta_sim.specs.inner.Refining.{Includes, Refines, AreMade, pair_count}
use Rattle.ta_sim.specs.Relations.{AreSquare, AreRowsOf, Relates}
use Rattle.ta_sim.proofs.Counting.{rows_fall}
use Rattle.ta_sim.proofs.Simulated.{simulated_downward}

-- there is a row where something is related
pub row_there : (rows : List (List Bool)) (p q : ℕ) → Relates rows p q → p < length rows
row_there [] p q h = absurd (true≢false (sym h))
row_there (row ∷ rows) zero q h = omega arith
row_there (row ∷ rows) (suc p) q h = let l = row_there rows p q h in omega (arith, l)

-- each row is as long as it is said of each place
every_row : (n : ℕ) (rows : List (List Bool)) → ((p : ℕ) → p < length rows → length (get_or rows p []) ≡ n)
    → Every (λ row. length row ≡ n) rows
every_row n [] f = tt
every_row n (row ∷ rows) f = (f 0 (omega arith), every_row n rows (λ p l. f (suc p) (omega (arith, l))))

row_long : (n : ℕ) (rows : List (List Bool)) (p : ℕ) → Every (λ row. length row ≡ n) rows → p < length rows
    → length (get_or rows p []) ≡ n
row_long n [] p h l = absurd (omega (arith, l))
row_long n (row ∷ rows) zero h l = h.0
row_long n (row ∷ rows) (suc p) h l = row_long n rows p h.1 (omega (arith, l))

-- what is related is in range
pub related_low : (n : ℕ) (rows : List (List Bool)) (p q : ℕ) → AreSquare n rows → Relates rows p q → q < n
related_low n rows p q s h =
    let l = row_there rows p q h in
    let b = marked_below (get_or rows p []) q h in
    let e = row_long n rows p s.1 l in
    omega (arith, b, e)

-- at first all are related
every_copy : (n m : ℕ) → Every (λ row. length row ≡ n) (replicate m (replicate n true))
every_copy n zero = tt
every_copy n (suc m) = (length-replicate n true, every_copy n m)

pub all_square : (n : ℕ) → AreSquare n (replicate n (replicate n true))
all_square n = (length-replicate n (replicate n true), every_copy n n)

pub all_include : (n : ℕ) (rules : List Rule) → Includes n rules (replicate n (replicate n true))
all_include n rules p q l k h =
    ap (λ (row : List Bool). get_or row q false) (get_or-replicate n p (replicate n true) [] l)
    ∙ get_or-replicate n q true false k

-- lists of states in range that simulate place by place are related
related_each : (n : ℕ) (rules : List Rule) (rows : List (List Bool)) → Includes n rules rows → (ps qs : List ℕ)
    → Every (λ q. q < n) ps → Every (λ q. q < n) qs → Paired (IsSimulated rules) ps qs → Paired (Relates rows) ps qs
related_each n rules rows f [] [] l k h = tt
related_each n rules rows f [] (q ∷ qs) l k h = absurd h
related_each n rules rows f (p ∷ ps) [] l k h = absurd h
related_each n rules rows f (p ∷ ps) (q ∷ qs) l k h = (f p q l.0 k.0 h.0, related_each n rules rows f ps qs l.1 k.1 h.1)

module _ (n : ℕ) (rules : List Rule) (groups : List (List Rule)) (rows : List (List Bool))
    (proper : Every (IsRankedRule n) rules) (by : AreByState rules n groups) (square : AreSquare n rows) where
  -- a pair stays where the one state simulates the other
  stays_simulated : Includes n rules rows → (p q : ℕ) → p < n → q < n → IsSimulated rules p q
      → Stays (IsMatch rows) groups rows p q
  stays_simulated f p q l k h =
      (f p q l k h, in_every (IsAnswered (IsMatch rows) (group_at groups q)) (group_at groups p) answer)
    where
      answer : (r : Rule) → IsIn r (group_at groups p) → IsAnswered (IsMatch rows) (group_at groups q) r
      answer r i =
          let w = by.only p r i in
          let m = simulated_downward rules r q w.0 (subst (λ (x : ℕ). IsSimulated rules x q) (sym w.1) h) in (
            m.0,
            subst (λ (x : ℕ). IsIn m.0 (group_at groups x)) m.2 (by.each m.0 m.1),
            (
              m.3,
              related_each n rules rows f r.children m.0.children (every_in (IsRankedRule n) rules r proper w.0).1
                  (every_in (IsRankedRule n) rules m.0 proper m.1).1 m.4,
            ),
          )

  module _ (next : List (List Bool)) (made : AreRowsOf n (Stays (IsMatch rows) groups rows) next) where
    pub next_includes : Includes n rules rows → Includes n rules next
    next_includes f p q l k h = made.each p q l k (stays_simulated f p q l k h)

    -- nothing was taken away: the rows are a simulation
    pub settled : rows ≡ next → IsDownward rules (Relates rows)
    settled e r q i h =
        let m = every_in (IsAnswered (IsMatch rows) (group_at groups q)) (group_at groups r.state) r
        (made.only r.state q (subst (λ (x : List (List Bool)). Relates x r.state q) e h)).2.1 (by.each r i)
        in
        let w = by.only q m.0 m.1 in
        (m.0, w.0, w.1, m.2.0, m.2.1)

-- rows that are not as before, each pair of which is one of them, have fewer
pub fewer : (n : ℕ) (P : ℕ → ℕ → Type 0) (rows next : List (List Bool)) → AreSquare n rows → AreRowsOf n P next
    → ((p q : ℕ) → P p q → Relates rows p q) → (rows ≡ next → ⊥) → pair_count next < pair_count rows
fewer n P rows next square made f d =
    elim (rows_fall n next rows (made.square.0 ∙ sym square.0) made.square.1 square.1
    (λ p q h. f p q (made.only p q h).2)) [ inl e ↦ absurd (d (sym e)) | inr l ↦ l ]

-- rows that are as before are settled, and others have fewer pairs
pub refines_from : (rules : List Rule) (old new : List (List Bool)) (changed : Bool)
    → (changed ≡ true → pair_count new < pair_count old)
    → (changed ≡ false → (new ≡ old) × IsDownward rules (Relates old)) → Refines rules old new changed
refines_from rules old new true f g = f refl
refines_from rules old new false f g = g refl

-- one more row
pub made_push : (n : ℕ) (P : ℕ → ℕ → Type 0) (rows : List (List Bool)) (row : List Bool) (p : ℕ) → length rows ≡ p
    → AreMade n P rows → MarksOf n (λ q. (q < n) × P p q) row → AreMade n P (rows ++ row ∷ [])
made_push n P rows row p e h m i l = elim (cases_lt i (length rows)) [
  | inl k ↦ subst (MarksOf n (λ q. (q < n) × P i q)) (sym (get_or_append_left rows (row ∷ []) [] i k)) (h i k)
  | inr k ↦ (let d = last k in
      subst (MarksOf n (λ q. (q < n) × P i q)) (sym (get_or_push rows row [] i (sym d)))
      (subst (λ (x : ℕ). MarksOf n (λ q. (q < n) × P x q) row) (sym e ∙ sym d) m))
]
  where
    last : length rows ≤ i → i ≡ length rows
    last k = let a = length-append rows (row ∷ []) in omega (arith, a, k, l)

-- all rows are made
pub rows_made : (n : ℕ) (P : ℕ → ℕ → Type 0) (rows : List (List Bool)) → length rows ≡ n → AreMade n P rows
    → AreRowsOf n P rows
rows_made n P rows e h = record {
  square = (e, every_row n rows (λ p l. (h p l).long));
  only = λ p q r. let l = row_there rows p q r in let w = (h p l).only q r in (rw (← e) l, w.0, w.1);
  each = λ p q l k r. (h p (rw e l)).each q (k, r);
}

-- Rows that are filled

-- rows that are as long as square ones are square
pub kept_square : (n : ℕ) (old new : List (List Bool)) → AreSquare n old → length new ≡ length old
    → ((k : ℕ) → k < length old → length (get_or new k []) ≡ length (get_or old k [])) → AreSquare n new
kept_square n old new s e f = (
  e ∙ s.0,
  every_row n new (λ p l. let k : p < length old = omega (arith, e, l) in f p k ∙ row_long n old p s.1 k),
)

pub rows_filled : (n : ℕ) (P : ℕ → ℕ → Type 0) (rows : List (List Bool)) → length rows ≡ n
    → ((k : ℕ) → k < length rows → MarksOf n (λ q. (q < n) × P (0 + k) q) (get_or rows k [])) → AreRowsOf n P rows
rows_filled n P rows e f = rows_made n P rows e
    (λ k l. subst (λ (x : ℕ). MarksOf n (λ q. (q < n) × P x q) (get_or rows k [])) (zero-add k) (f k l))

-- a vector that was lent out as a slice of its own length holds what came back
pub lent : (n : ℕ) (rows more : List (List Bool)) → length rows ≡ n → take n (rows ++ more) ≡ rows
lent n rows more e = subst (λ (x : ℕ). take x (rows ++ more) ≡ rows) e (take-append_seam rows more)
