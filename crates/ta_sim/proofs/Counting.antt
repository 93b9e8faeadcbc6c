-- Rows of marks of which some are taken away.
use Rattle.std.proofs.Common.{◌≡◌, ◌⊎◌, inl, inr, ℕ, suc, ◌<◌, Bool, List, [], ◌∷◌, length, refl, sym, ap, ◌∙◌, arith}
use Rattle.fore_base.specs.Lists.{Every}
use Rattle.fore_base.specs.Marks.{marked_count}
use Rattle.fore_base.proofs.MarkLemmas.{marks_fall}
use Rattle.ta_sim.specs.inner.Refining.{pair_count}
use Rattle.ta_sim.specs.Relations.{Relates}

-- where each pair of the new rows is one of the old, they are equal or the new rows have fewer
pub rows_fall : (n : ℕ) (new old : List (List Bool)) → length new ≡ length old → Every (λ row. length row ≡ n) new
    → Every (λ row. length row ≡ n) old → ((p q : ℕ) → Relates new p q → Relates old p q) → (new ≡ old)
    ⊎ (pair_count new < pair_count old)
rows_fall n [] [] e h k f = inl refl
rows_fall n [] (c ∷ cs) e h k f = absurd (omega (arith, e))
rows_fall n (b ∷ bs) [] e h k f = absurd (omega (arith, e))
rows_fall n (b ∷ bs) (c ∷ cs) e h k f =
    here (marks_fall b c (h.0 ∙ sym k.0) (f 0)) (rows_fall n bs cs (omega (arith, e)) h.1 k.1 (λ p. f (suc p)))
  where
    here : ((b ≡ c) ⊎ (marked_count b < marked_count c)) → ((bs ≡ cs) ⊎ (pair_count bs < pair_count cs))
        → (b ∷ bs ≡ c ∷ cs) ⊎ (pair_count (b ∷ bs) < pair_count (c ∷ cs))
    here (inl i) (inl j) = inl (rw (i, j) refl)
    here (inl i) (inr j) = inr (let m = ap marked_count i in omega (arith, m, j))
    here (inr i) (inl j) = inr (let m = ap pair_count j in omega (arith, m, i))
    here (inr i) (inr j) = inr (omega (arith, i, j))
