-- The marked states under their new numbers.
use Rattle.std.proofs.Common.{◌≡◌, ℕ, zero, suc, ◌<◌, ◌+◌, Bool, true, false, true≢false, cond, List, [], ◌∷◌, ◌++◌}
use Rattle.std.proofs.Common.{length, map, get_or, slice_index, refl, sym, ap, ◌∙◌, arith, append_assoc}
use Rattle.std.proofs.lemmas.List.{length-map}
use Rattle.fore_base.specs.Lists.{Every}
use Rattle.ta_core.specs.declared.auto.Rule.{Rule}
use Rattle.ta_core.specs.Auto.{Automaton, IsRankedRule}
use Rattle.fore_base.specs.Marks.{IsMarked, all_marked, marked_count}
use Rattle.ta_core.specs.Renumbered.{renumbered}
use Rattle.ta_core.specs.inner.Restricted.{rank, ranks, keeps, kept_states, kept_rules, restricted}
use Rattle.std.proofs.lemmas.Bool.{and_parts}
use Rattle.fore_base.proofs.MarkLemmas.{all_from, marked_below}

-- the marked state that has i marked ones below it
abbrev pub nth_marked : List Bool → ℕ → ℕ
nth_marked [] i = i
nth_marked (true ∷ bs) zero = 0
nth_marked (true ∷ bs) (suc i) = nth_marked bs i + 1
nth_marked (false ∷ bs) i = nth_marked bs i + 1

pub rank_below : (bs : List Bool) (q : ℕ) → IsMarked bs q → rank bs q < marked_count bs
rank_below [] q h = absurd (true≢false (sym h))
rank_below (true ∷ bs) zero h = omega arith
rank_below (false ∷ bs) zero h = absurd (true≢false (sym h))
rank_below (true ∷ bs) (suc q) h = let r = rank_below bs q h in omega (arith, r)
rank_below (false ∷ bs) (suc q) h = rank_below bs q h

pub nth_rank : (bs : List Bool) (q : ℕ) → IsMarked bs q → nth_marked bs (rank bs q) ≡ q
nth_rank [] q h = absurd (true≢false (sym h))
nth_rank (true ∷ bs) zero h = refl
nth_rank (false ∷ bs) zero h = absurd (true≢false (sym h))
nth_rank (true ∷ bs) (suc q) h = step (rank bs q) (nth_rank bs q h)
  where
    step : (i : ℕ) → nth_marked bs i ≡ q → nth_marked (true ∷ bs) (i + 1) ≡ suc q
    step i e = let a : i + 1 ≡ suc i = omega arith in let b : nth_marked bs i + 1 ≡ suc q = omega (arith, e) in rw a b
nth_rank (false ∷ bs) (suc q) h = let e = nth_rank bs q h in omega (arith, e)

plus_one : (n : ℕ) → n + 1 ≡ suc n
plus_one n = omega arith

pub nth_is_marked : (bs : List Bool) (i : ℕ) → i < marked_count bs → IsMarked bs (nth_marked bs i)
nth_is_marked [] i h = absurd (omega arith)
nth_is_marked (true ∷ bs) zero h = refl
nth_is_marked (true ∷ bs) (suc i) h = let m = nth_is_marked bs i (omega arith) in rw (plus_one (nth_marked bs i)) m
nth_is_marked (false ∷ bs) i h = let m = nth_is_marked bs i h in rw (plus_one (nth_marked bs i)) m

pub rank_nth : (bs : List Bool) (i : ℕ) → i < marked_count bs → rank bs (nth_marked bs i) ≡ i
rank_nth [] i h = absurd (omega arith)
rank_nth (true ∷ bs) zero h = refl
rank_nth (true ∷ bs) (suc i) h = let e = rank_nth bs i (omega arith) in
    rw (plus_one (nth_marked bs i)) (omega (arith, e))
rank_nth (false ∷ bs) i h = let e = rank_nth bs i h in rw (plus_one (nth_marked bs i)) e

-- the table has the new number of each state
pub ranks_at : (bs : List Bool) (n q : ℕ) → q < length bs → slice_index (ranks n bs) q ≡ n + rank bs q
ranks_at [] n q h = absurd (omega arith)
ranks_at (true ∷ bs) n zero h = omega arith
ranks_at (false ∷ bs) n zero h = omega arith
ranks_at (true ∷ bs) n (suc q) h = let e = ranks_at bs (n + 1) q (omega arith) in omega (arith, e)
ranks_at (false ∷ bs) n (suc q) h = ranks_at bs n q (omega arith)

-- f may be another function that gives the same on marked states
module _ (marks : List Bool) (f g : ℕ → ℕ) (same : (q : ℕ) → IsMarked marks q → f q ≡ g q) where
  map_same : (qs : List ℕ) → Every (IsMarked marks) qs → map f qs ≡ map g qs
  map_same [] h = refl
  map_same (q ∷ qs) h = let a = same q h.0 in let b = map_same qs h.1 in rw (a, b) refl

  pub kept_states_same : (qs : List ℕ) → kept_states marks f qs ≡ kept_states marks g qs
  kept_states_same [] = refl
  kept_states_same (q ∷ qs) = here (get_or marks q false) refl (kept_states_same qs)
    where
      here : (b : Bool) → get_or marks q false ≡ b → kept_states marks f qs ≡ kept_states marks g qs
          → cond b (f q ∷ kept_states marks f qs) (kept_states marks f qs)
          ≡ cond b (g q ∷ kept_states marks g qs) (kept_states marks g qs)
      here true e k = let a = same q e in rw (a, k) refl
      here false e k = k

  renumbered_same : (r : Rule) → keeps marks r ≡ true → renumbered f r ≡ renumbered g r
  renumbered_same r h =
      let a = same r.state (and_parts (get_or marks r.state false) (all_marked marks r.children) h).0 in
      let b = map_same r.children
      (all_from marks r.children (and_parts (get_or marks r.state false) (all_marked marks r.children) h).1) in
      rw (a, b) refl

  pub kept_rules_same : (rs : List Rule) → kept_rules marks f rs ≡ kept_rules marks g rs
  kept_rules_same [] = refl
  kept_rules_same (r ∷ rs) = here (keeps marks r) refl (kept_rules_same rs)
    where
      here : (b : Bool) → keeps marks r ≡ b → kept_rules marks f rs ≡ kept_rules marks g rs
          → cond b (renumbered f r ∷ kept_rules marks f rs) (kept_rules marks f rs)
          ≡ cond b (renumbered g r ∷ kept_rules marks g rs) (kept_rules marks g rs)
      here true e k = let a = renumbered_same r e in rw (a, k) refl
      here false e k = k

  pub restricted_same : (a : Automaton) → restricted marks f a ≡ restricted marks g a
  restricted_same a = let p = kept_states_same a.roots in let q = kept_rules_same a.rules in rw (p, q) refl

-- the table gives the ranks
pub table_rank : (marks : List Bool) (q : ℕ) → IsMarked marks q → slice_index (ranks 0 marks) q ≡ rank marks q
table_rank marks q h = let e = ranks_at marks 0 q (marked_below marks q h) in omega (arith, e)

-- one more rule is kept, or left out
module _ (marks : List Bool) (f : ℕ → ℕ) (kept : List Rule) (r : Rule) (rest all : List Rule) where
  pub kept_push : keeps marks r ≡ true → kept ++ kept_rules marks f (r ∷ rest) ≡ all → (kept ++ renumbered f r ∷ [])
      ++ kept_rules marks f rest ≡ all
  kept_push h e = append_assoc kept (renumbered f r ∷ []) (kept_rules marks f rest)
      ∙ ap (λ (b : Bool). kept ++ cond b (renumbered f r ∷ kept_rules marks f rest) (kept_rules marks f rest)) (sym h)
      ∙ e

  pub kept_skip : keeps marks r ≡ false → kept ++ kept_rules marks f (r ∷ rest) ≡ all → kept ++ kept_rules marks f rest
      ≡ all
  kept_skip h e = ap (λ (b : Bool). kept ++ cond b (renumbered f r ∷ kept_rules marks f rest) (kept_rules marks f rest))
      (sym h) ∙ e

-- what is kept is in range again
module _ (marks : List Bool) (f : ℕ → ℕ) (n : ℕ) (low : (q : ℕ) → IsMarked marks q → f q < n) where
  map_low : (qs : List ℕ) → Every (IsMarked marks) qs → Every (λ q. q < n) (map f qs)
  map_low [] h = tt
  map_low (q ∷ qs) h = (low q h.0, map_low qs h.1)

  pub kept_states_low : (qs : List ℕ) → Every (λ q. q < n) (kept_states marks f qs)
  kept_states_low [] = tt
  kept_states_low (q ∷ qs) = here (get_or marks q false) refl (kept_states_low qs)
    where
      here : (b : Bool) → get_or marks q false ≡ b → Every (λ q. q < n) (kept_states marks f qs)
          → Every (λ q. q < n) (cond b (f q ∷ kept_states marks f qs) (kept_states marks f qs))
      here true e k = (low q e, k)
      here false e k = k

  renumbered_proper : (m : ℕ) (r : Rule) → keeps marks r ≡ true → IsRankedRule m r → IsRankedRule n (renumbered f r)
  renumbered_proper m r h p = (
    low r.state (and_parts (get_or marks r.state false) (all_marked marks r.children) h).0,
    map_low r.children
        (all_from marks r.children (and_parts (get_or marks r.state false) (all_marked marks r.children) h).1),
    length-map r.children f ∙ p.2,
  )

  pub kept_rules_proper : (m : ℕ) (rs : List Rule) → Every (IsRankedRule m) rs
      → Every (IsRankedRule n) (kept_rules marks f rs)
  kept_rules_proper m [] h = tt
  kept_rules_proper m (r ∷ rs) h = here (keeps marks r) refl (kept_rules_proper m rs h.1)
    where
      here : (b : Bool) → keeps marks r ≡ b → Every (IsRankedRule n) (kept_rules marks f rs)
          → Every (IsRankedRule n) (cond b (renumbered f r ∷ kept_rules marks f rs) (kept_rules marks f rs))
      here true e k = (renumbered_proper m r e h.0, k)
      here false e k = k

-- by the table the states are kept under their ranks
pub table_states : (marks : List Bool) (table : List ℕ) (qs kept : List ℕ) → table ≡ ranks 0 marks
    → kept ≡ kept_states marks (λ q. slice_index table q) qs → kept ≡ kept_states marks (rank marks) qs
table_states marks table qs kept e k = (rw e at k)
    ∙ kept_states_same marks (λ q. slice_index (ranks 0 marks) q) (rank marks) (table_rank marks) qs

pub table_rules : (marks : List Bool) (table : List ℕ) (rs kept : List Rule) → table ≡ ranks 0 marks
    → kept ≡ kept_rules marks (λ q. slice_index table q) rs → kept ≡ kept_rules marks (rank marks) rs
table_rules marks table rs kept e k = (rw e at k)
    ∙ kept_rules_same marks (λ q. slice_index (ranks 0 marks) q) (rank marks) (table_rank marks) rs
