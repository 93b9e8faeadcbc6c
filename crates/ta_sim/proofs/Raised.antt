-- What a round on the way up leaves: rows that still relate what simulates upward, and in the end a simulation.
use Rattle.std.proofs.Common.{◌≡◌, inl, inr, ℕ, zero, suc, ◌+◌, ◌<◌, Bool, true, false, List, [], ◌∷◌, ◌++◌, length}
use Rattle.std.proofs.Common.{get_or}
use Rattle.std.proofs.Common.{length-set, replicate, set, slice_get, Some, take, refl}
use Rattle.std.proofs.Common.{sym, ap, subst, ◌∙◌, arith}
use Rattle.std.proofs.lemmas.List.{length-replicate}
use Rattle.std.proofs.lemmas.Option.{none-some, same_Some}
use Rattle.fore_base.specs.Lists.{IsIn, Every, Paired, PairedBut}
use Rattle.fore_base.proofs.ListLemmas.{every_in, every_get, every_weaker, in_every, in_push, in_left, in_last}
use Rattle.fore_base.proofs.ListLemmas.{paired_long}
use Rattle.fore_base.proofs.ListLemmas.{take_item}
use Rattle.fore_base.proofs.MarkLemmas.{marked_new, marked_set, marked_still, unmarked_none}
use Rattle.fore_base.specs.Marks.{IsMarked, MarksOf}
use Rattle.ta_core.specs.Auto.{Automaton, IsRanked, IsRankedRule}
use Rattle.ta_core.specs.Simulations.{IsUpward, IsSimulatedUpward, KeepsRoots}
use Rattle.ta_core.specs.declared.auto.Rule.{Rule}
use Rattle.ta_sim.specs.declared.grouping.Use.{Use}
use Rattle.ta_sim.specs.inner.Matching.{group_at, IsAnswered, Stays}
use Rattle.ta_sim.specs.inner.Raising.{IsRaise, IncludesUpward, Raises}
use Rattle.ta_sim.specs.inner.Refining.{pair_count}
use Rattle.ta_sim.specs.inner.Using.{placed, AreByChild}
use Rattle.ta_sim.specs.Relations.{AreRowsOf, Relates}
use Rattle.ta_sim.proofs.Uses.{used_from, used_to, placed_child}

-- what some upward simulation relates is one
pub above_upward : (a : Automaton) (D : ℕ → ℕ → Type 0) → IsUpward a D (IsSimulatedUpward a D)
above_upward a D = (
  λ p q i h. h.1.0 p q i h.2,
  λ r i p q at j h. let m = h.1.1 r i p q at j h.2 in (m.0, m.1, m.2, m.3, (h.0, h.1, m.4)),
)

-- lists that are related place by place are paired, and the other way
module _ (R : ℕ → ℕ → Type 0) where
  paired_from : (ps qs : List ℕ) → length ps ≡ length qs
      → ((k : ℕ) → k < length ps → R (get_or ps k 0) (get_or qs k 0)) → Paired R ps qs
  paired_from [] [] e f = tt
  paired_from [] (q ∷ qs) e f = absurd (omega (arith, e))
  paired_from (p ∷ ps) [] e f = absurd (omega (arith, e))
  paired_from (p ∷ ps) (q ∷ qs) e f =
      (f 0 (omega arith), paired_from ps qs (omega (arith, e)) (λ k l. f (suc k) (omega (arith, l))))

  paired_at : (ps qs : List ℕ) (k : ℕ) → Paired R ps qs → k < length ps → R (get_or ps k 0) (get_or qs k 0)
  paired_at [] qs k h l = absurd (omega (arith, l))
  paired_at (p ∷ ps) [] k h l = absurd h
  paired_at (p ∷ ps) (q ∷ qs) zero h l = h.0
  paired_at (p ∷ ps) (q ∷ qs) (suc k) h l = paired_at ps qs k h.1 (omega (arith, l))

  but_long : (i p q : ℕ) (ps qs : List ℕ) → PairedBut R i p q ps qs → length ps ≡ length qs
  but_long i p q [] qs h = absurd h
  but_long i p q (x ∷ ps) [] h = absurd h
  but_long zero p q (x ∷ ps) (y ∷ qs) h = let e = paired_long R ps qs h.2 in rw e refl
  but_long (suc i) p q (x ∷ ps) (y ∷ qs) h = let e = but_long i p q ps qs h.1 in rw e refl

  but_each : (i p q k : ℕ) (ps qs : List ℕ) → PairedBut R i p q ps qs → k < length ps → (k ≡ i → ⊥)
      → R (get_or ps k 0) (get_or qs k 0)
  but_each i p q k [] qs h l d = absurd h
  but_each i p q k (x ∷ ps) [] h l d = absurd h
  but_each zero p q zero (x ∷ ps) (y ∷ qs) h l d = absurd (d refl)
  but_each zero p q (suc k) (x ∷ ps) (y ∷ qs) h l d = paired_at ps qs k h.2 (omega (arith, l))
  but_each (suc i) p q zero (x ∷ ps) (y ∷ qs) h l d = h.0
  but_each (suc i) p q (suc k) (x ∷ ps) (y ∷ qs) h l d =
      but_each i p q k ps qs h.1 (omega (arith, l)) (λ e. d (ap suc e))

  -- what stands at the place of the second list
  but_at : (i p q : ℕ) (ps qs : List ℕ) → PairedBut R i p q ps qs → slice_get qs i ≡ Some q
  but_at i p q [] qs h = absurd h
  but_at i p q (x ∷ ps) [] h = absurd h
  but_at zero p q (x ∷ ps) (y ∷ qs) h = ap Some h.1
  but_at (suc i) p q (x ∷ ps) (y ∷ qs) h = but_at i p q ps qs h.1

  but_from : (i p q : ℕ) (ps qs : List ℕ) → length ps ≡ length qs
      → ((k : ℕ) → k < length ps → (k ≡ i → ⊥) → R (get_or ps k 0) (get_or qs k 0)) → slice_get ps i ≡ Some p
      → slice_get qs i ≡ Some q → PairedBut R i p q ps qs
  but_from i p q [] qs e f a b = absurd (none-some p a)
  but_from i p q (x ∷ ps) [] e f a b = absurd (none-some q b)
  but_from zero p q (x ∷ ps) (y ∷ qs) e f a b = (
    same_Some x p a,
    same_Some y q b,
    paired_from ps qs (omega (arith, e)) (λ k l. f (suc k) (omega (arith, l)) (λ d. absurd (omega (arith, d)))),
  )
  but_from (suc i) p q (x ∷ ps) (y ∷ qs) e f a b = (
    f 0 (omega arith) (λ d. absurd (omega (arith, d))),
    but_from i p q ps qs (omega (arith, e))
        (λ k l d. f (suc k) (omega (arith, l)) (λ c. d (omega (arith, c)))) a b,
  )

-- the states of the rules are in range
pub states_low : (a : Automaton) → IsRanked a → Every (λ r. r.state < a.states) a.rules
states_low a h = every_weaker (IsRankedRule a.states) (λ r. r.state < a.states) a.rules (λ r k. k.0) h.1

module _ (a : Automaton) (uses : List (List Use)) (down rows : List (List Bool))
    (by : AreByChild a.rules a.states uses) where
  abbrev Raised : ℕ → ℕ → Type 0
  Raised = Stays (IsRaise down rows) uses rows

  -- a pair stays where some upward simulation relates the one state to the other
  stays_upward : (proper : Every (λ r. r.state < a.states) a.rules) → IncludesUpward a down rows → (p q : ℕ)
      → p < a.states → q < a.states → IsSimulatedUpward a (Relates down) p q → Raised p q
  stays_upward proper f p q l k h =
      (f p q l k h, in_every (IsAnswered (IsRaise down rows) (group_at uses q)) (group_at uses p) answer)
    where
      answer : (u : Use) → IsIn u (group_at uses p) → IsAnswered (IsRaise down rows) (group_at uses q) u
      answer u i =
          let w = by.only p u i in
          let v = used_from a.rules u w.0 in
          let m = (above_upward a (Relates down)).1 u.rule u.place p q v.0 (v.1 ∙ ap Some w.1) h in
          let at = but_at (Relates down) u.place p q u.rule.children m.0.children m.3 in
          let o = placed m.0 u.place in (
            o,
            subst (λ (x : ℕ). IsIn o (group_at uses x)) (placed_child m.0 u.place q at)
                (by.each o (used_to a.rules m.0 u.place q m.1 at)),
            (
              refl,
              f u.rule.state m.0.state (every_in (λ (r : Rule). r.state < a.states) a.rules u.rule proper v.0)
                  (every_in (λ (r : Rule). r.state < a.states) a.rules m.0 proper m.1) m.4,
              m.2,
              (
                but_long (Relates down) u.place p q u.rule.children m.0.children m.3,
                λ n b d. but_each (Relates down) u.place p q n u.rule.children m.0.children m.3 b d,
              ),
            ),
          )

  module _ (next : List (List Bool)) (made : AreRowsOf a.states Raised next) where
    pub raised_roots : KeepsRoots a (Relates rows) → KeepsRoots a (Relates next)
    raised_roots f p q i h = f p q i (made.only p q h).2.0

    pub raised_includes : Every (λ r. r.state < a.states) a.rules → IncludesUpward a down rows
        → IncludesUpward a down next
    raised_includes proper f p q l k h = made.each p q l k (stays_upward proper f p q l k h)

    -- nothing was taken away: the rows are an upward simulation
    pub raised_settled : KeepsRoots a (Relates rows) → rows ≡ next → IsUpward a (Relates down) (Relates rows)
    raised_settled roots e = (
      roots,
      λ r i p q j at h.
          let o = placed r i in
          let there = subst (λ (x : ℕ). IsIn o (group_at uses x)) (placed_child r i p at)
          (by.each o (used_to a.rules r i p j at))
          in
          let stays = (made.only p q (subst (λ (x : List (List Bool)). Relates x p q) e h)).2 in
          let m = every_in (IsAnswered (IsRaise down rows) (group_at uses q)) (group_at uses p) o stays.1 there in
          let w = by.only q m.0 m.1 in
          let v = used_from a.rules m.0 w.0 in
          let place : slice_get m.0.rule.children i ≡ Some q =
          subst (λ (x : ℕ). slice_get m.0.rule.children x ≡ Some q) m.2.0 (v.1 ∙ ap Some w.1) in (
            m.0.rule,
            v.0,
            m.2.2,
            but_from (Relates down) i p q r.children m.0.rule.children m.2.3.0 m.2.3.1 at place,
            m.2.1,
          ),
    )

-- rows that are as before are settled, and others have fewer pairs
pub raises_from : (a : Automaton) (down old new : List (List Bool)) (changed : Bool)
    → (changed ≡ true → pair_count new < pair_count old)
    → (changed ≡ false → (new ≡ old) × IsUpward a (Relates down) (Relates old)) → Raises a down old new changed
raises_from a down old new true f g = f refl
raises_from a down old new false f g = g refl

-- at first no root state has a mark
pub roots_none : (n : ℕ) → MarksOf n (λ q. IsIn q []) (replicate n false)
roots_none n = record { long = length-replicate n false; only = λ q h. unmarked_none n q h; each = λ q h. absurd h }

-- one more root state is marked
pub roots_more : (n : ℕ) (roots : List ℕ) (i : ℕ) (marks : List Bool) → Every (λ q. q < n) roots → i < length roots
    → MarksOf n (λ q. IsIn q (take i roots)) marks
    → MarksOf n (λ q. IsIn q (take (i + 1) roots)) (set marks (get_or roots i 0) true)
roots_more n roots i marks low l h =
    let root = get_or roots i 0 in
    let e = take_item roots i root l (same roots i l) in
    let k = every_get (λ (q : ℕ). q < n) roots i 0 low l in
    let long = h.long in
    subst (λ (qs : List ℕ). MarksOf n (λ q. IsIn q qs) (set marks root true)) (sym e) (record {
      long = length-set marks root true ∙ long;
      only = λ q m. elim (marked_new marks root q m) [
        | inl d ↦ subst (λ (x : ℕ). IsIn x (take i roots ++ root ∷ [])) (sym d) (in_last root (take i roots))
        | inr o ↦ in_left q (take i roots) (root ∷ []) (h.only q o)
      ];
      each = λ q m. elim (in_push root q (take i roots) m) [
        | inl o ↦ marked_still marks root q (h.each q o)
        | inr d ↦ subst (IsMarked (set marks root true)) (sym d) (marked_set marks root (omega (arith, k, long)))
      ];
    })
  where
    same : (qs : List ℕ) (j : ℕ) → j < length qs → get_or qs j 0 ≡ get_or qs j (get_or qs j 0)
    same [] j l = absurd (omega (arith, l))
    same (q ∷ qs) zero l = refl
    same (q ∷ qs) (suc j) l = same qs j (omega (arith, l))

-- rows by marks of the root states
pub root_rows : (a : Automaton) (marks : List Bool) (rows : List (List Bool))
    → MarksOf a.states (λ q. IsIn q a.roots) marks
    → AreRowsOf a.states (λ p q. IsMarked marks p → IsMarked marks q) rows
    → AreRowsOf a.states (λ p q. IsIn p a.roots → IsIn q a.roots) rows
root_rows a marks rows m h = record {
  square = h.square;
  only = λ p q r. (let w = h.only p q r in (w.0, w.1, λ i. m.only q (w.2 (m.each p i))));
  each = λ p q l k f. h.each p q l k (λ i. m.each q (f (m.only p i)));
}
