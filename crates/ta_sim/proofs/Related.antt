-- Lists of states that rows relate place by place.
use Rattle.std.proofs.Common.{◌≡◌, ℕ, ◌<◌, ◌+◌, Bool, true, false, true≢false, ◌&&◌, List, [], ◌∷◌, length, get_or}
use Rattle.std.proofs.Common.{drop, refl, sym, ◌∙◌}
use Rattle.std.proofs.lemmas.List.{drop_more}
use Rattle.std.specs.Bool.{Decides}
use Rattle.fore_base.specs.Lists.{Paired}
use Rattle.std.proofs.lemmas.Bool.{and_parts}
use Rattle.ta_sim.specs.inner.Matching.{related_each}
use Rattle.ta_sim.specs.Relations.{entry, Relates}

module _ (rows : List (List Bool)) where
  related_from : (ps qs : List ℕ) → related_each rows ps qs ≡ true → Paired (Relates rows) ps qs
  related_from [] [] h = tt
  related_from [] (q ∷ qs) h = absurd (true≢false (sym h))
  related_from (p ∷ ps) [] h = absurd (true≢false (sym h))
  related_from (p ∷ ps) (q ∷ qs) h = let parts = and_parts (entry rows p q) (related_each rows ps qs) h in
      (parts.0, related_from ps qs parts.1)

  related_to : (ps qs : List ℕ) → Paired (Relates rows) ps qs → related_each rows ps qs ≡ true
  related_to [] [] h = refl
  related_to [] (q ∷ qs) h = absurd h
  related_to (p ∷ ps) [] h = absurd h
  related_to (p ∷ ps) (q ∷ qs) h = let a = h.0 in rw a (related_to ps qs h.1)

  pub related_decides : (ps qs : List ℕ) (b : Bool) → b ≡ related_each rows ps qs
      → Decides b (Paired (Relates rows) ps qs)
  related_decides ps qs b e = ((λ y. related_from ps qs (sym e ∙ y)), (λ h. e ∙ related_to ps qs h))

  -- lists of two lengths are not related
  related_long : (ps qs : List ℕ) → related_each rows ps qs ≡ true → length ps ≡ length qs
  related_long [] [] h = refl
  related_long [] (q ∷ qs) h = absurd (true≢false (sym h))
  related_long (p ∷ ps) [] h = absurd (true≢false (sym h))
  related_long (p ∷ ps) (q ∷ qs) h =
      let e = related_long ps qs (and_parts (entry rows p q) (related_each rows ps qs) h).1 in rw e refl

  pub related_differ : (ps qs : List ℕ) → (length ps ≡ length qs → ⊥) → false ≡ related_each rows ps qs
  related_differ ps qs d = here (related_each rows ps qs) (λ h. d (related_long ps qs h))
    where
      here : (b : Bool) → (b ≡ true → ⊥) → false ≡ b
      here true f = absurd (f refl)
      here false f = refl

  -- the test at place i decides, or the tests behind it
  pub related_step : (ps qs : List ℕ) (i : ℕ) → i < length ps → i < length qs
      → related_each rows (drop i ps) (drop i qs)
      ≡ (entry rows (get_or ps i 0) (get_or qs i 0) && related_each rows (drop (i + 1) ps) (drop (i + 1) qs))
  related_step ps qs i h k =
      let a = drop_more ps i 0 h in
      let b = drop_more qs i 0 k in
      rw (a, b) refl
