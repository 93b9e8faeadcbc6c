-- Where the hops of the ways back by a mark lead.
use Rattle.std.proofs.Common.{◌≡◌, ◌⊎◌, inl, inr, ℕ, Bool, true, false, cond, [], ◌∷◌, map, refl, sym, subst}
use Rattle.fore_base.specs.Lists.{IsIn}
use Rattle.fore_base.proofs.ListLemmas.{in_left, in_right, in_append, in_map, in_mapped}
use Rattle.fa_core.specs.declared.signature.RefMark.{RefMark}
use Rattle.fa_back.specs.declared.hops.Hop.{Hop}
use Rattle.fa_back.specs.BackHops.{hop, own_hops, back_hops}

module _ (j : ℕ) (m : RefMark) where
  -- a hop leads to the root of the tree, or to one of the reach
  pub back_kinds : (x : Hop) → IsIn x (back_hops j m)
      → ((x ≡ hop m.root j) × (m.back ≡ true)) ⊎ ((k : ℕ) × IsIn k m.reach × (x ≡ hop m.root k))
  back_kinds x h = elim (in_append x (own_hops j m) (map (hop m.root) m.reach) h) [
    | inl k ↦ inl (own m.back refl k)
    | inr k ↦ inr (in_mapped (hop m.root) x m.reach k)
  ]
    where
      own : (b : Bool) → m.back ≡ b → IsIn x (cond b (hop m.root j ∷ []) []) → (x ≡ hop m.root j) × (m.back ≡ true)
      own true e (inl q) = (q, e)
      own true e (inr z) = absurd z
      own false e z = absurd z

  -- where the way leads back, a hop leads to the root of the tree
  pub own_there : m.back ≡ true → IsIn (hop m.root j) (back_hops j m)
  own_there e = in_left (hop m.root j) (own_hops j m) (map (hop m.root) m.reach)
      (subst (λ (b : Bool). IsIn (hop m.root j) (cond b (hop m.root j ∷ []) [])) (sym e) (inl refl))

  -- and one to each root of the reach
  pub reach_there : (k : ℕ) → IsIn k m.reach → IsIn (hop m.root k) (back_hops j m)
  reach_there k i = in_right (hop m.root k) (own_hops j m) (map (hop m.root) m.reach) (in_map (hop m.root) k m.reach i)
