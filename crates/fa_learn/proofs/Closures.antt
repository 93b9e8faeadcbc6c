-- What is reached in an inside of two components, by their signatures.
use Rattle.std.proofs.Common.{◌≡◌, ◌<◌, ◌⊎◌, inl, inr, ℕ, zero, suc, false, List, [], ◌∷◌, refl, sym, ap, subst, ◌∙◌}
use Rattle.std.proofs.Common.{slice_get, arith, true≢false}
use Rattle.std.proofs.lemmas.Option.{none-some, same_Some}
use Rattle.fore_base.specs.Lists.{IsIn}
use Rattle.fa_core.specs.declared.signature.RefMark.{RefMark}
use Rattle.fa_core.specs.declared.signature.Signature.{Signature}
use Rattle.fa_back.specs.Reached.{SignReached, from_there, down_to, back_to, reach_to, IsMarkAt}

module _ (s0 s1 : Signature) where
  abbrev both : List Signature
  both = s0 ∷ s1 ∷ []

  -- where the first refers to the second, both are reached from the first
  pub all_reached : (m : RefMark) → IsIn m s0.refs → m.root ≡ 1 → (r : ℕ) → r < 2 → SignReached both (0 ∷ []) r
  all_reached m there root zero low = from_there (inl refl)
  all_reached m there root (suc zero) low = down_to 0 m (from_there (inl refl)) (s0, refl, there) root
  all_reached m there root (suc (suc r)) low = absurd (omega (arith, low))

  -- where the second refers to the first, the first is reached from it
  pub leads_up : (m : RefMark) → IsIn m s1.refs → m.root ≡ 0 → SignReached both (1 ∷ []) 0
  leads_up m there root = down_to 1 m (from_there (inl refl)) (s1, refl, there) root

  of_one : (j : ℕ) (m : RefMark) → IsMarkAt both j m → IsIn m s0.refs ⊎ IsIn m s1.refs
  of_one zero m (s, at, there) = inl (subst (λ (x : Signature). IsIn m x.refs) (sym (same_Some s0 s at)) there)
  of_one (suc zero) m (s, at, there) = inr (subst (λ (x : Signature). IsIn m x.refs) (sym (same_Some s1 s at)) there)
  of_one (suc (suc j)) m (s, at, there) = absurd (none-some s at)

  -- where the second refers to nothing, and no way back into the trees of the first leads to the first, the first is
  -- not reached from the second
  module _ (empty : s1.refs ≡ []) (low : (m : RefMark) → IsIn m s0.refs → m.back ≡ false)
      (near : (m : RefMark) → IsIn m s0.refs → (r : ℕ) → IsIn r m.reach → r ≡ 1) where
    none : (m : RefMark) → IsIn m s1.refs → ⊥
    none m there = subst (λ (ms : List RefMark). IsIn m ms) empty there

    stays_there : (r : ℕ) → SignReached both (1 ∷ []) r → r ≡ 1
    stays_there r (from_there (inl e)) = e
    stays_there r (from_there (inr nowhere)) = absurd nowhere
    stays_there r (down_to j m reached at root) = absurd (none m (at_second j (stays_there j reached) m at))
      where
        at_second : (j : ℕ) → j ≡ 1 → (m : RefMark) → IsMarkAt both j m → IsIn m s1.refs
        at_second j e m (s, at, there) =
            subst (λ (x : Signature). IsIn m x.refs)
            (sym (same_Some s1 s (sym (ap (λ (k : ℕ). slice_get both k) e) ∙ at))) there
    stays_there r (back_to m reached at back) = absurd (no_way (of_one r m at))
      where
        no_way : IsIn m s0.refs ⊎ IsIn m s1.refs → ⊥
        no_way (inl there) = true≢false (sym back ∙ low m there)
        no_way (inr there) = none m there
    stays_there r (reach_to j m reached at in_reach) = by_reach (of_one j m at)
      where
        by_reach : IsIn m s0.refs ⊎ IsIn m s1.refs → r ≡ 1
        by_reach (inl there) = near m there r in_reach
        by_reach (inr there) = absurd (none m there)

    pub leads_nowhere : SignReached both (1 ∷ []) 0 → ⊥
    leads_nowhere reached = absurd (omega (arith, stays_there 0 reached))
