-- Lists that share a number, and whether a root refers to the inner roots of a part.
use Rattle.std.proofs.Common.{◌≡◌, ◌↔◌, ◌<◌, ◌+◌, inl, inr, ℕ, Bool, true, false, not, nat_lt, true≢false, List, []}
use Rattle.std.proofs.Common.{◌∷◌}
use Rattle.std.proofs.Common.{refl, sym, ◌∙◌, subst, arith}
use Rattle.std.proofs.lemmas.Bool.{ltb-true, ltb-false}
use Rattle.fore_base.specs.Lists.{Every, IsIn}
use Rattle.fore_base.proofs.ListLemmas.{every_in}
use Rattle.ta_core.specs.declared.tree.Tree.{Tree}
use Rattle.fa_back.proofs.RootMarks.{has_in, in_has}
use Rattle.fa_core.specs.Folding.{Ports, left_refs}
use Rattle.fa_core.specs.Ways.{has}
use Rattle.fa_part.specs.inner.Found.{RefersInside}

-- lists that are not apart share a number
shared : (xs ys : List ℕ) → (Every (λ k. IsIn k ys → ⊥) xs → ⊥) → (k : ℕ) × IsIn k xs × IsIn k ys
shared [] ys n = absurd (n tt)
shared (x ∷ xs) ys n = here (has x ys) refl (shared xs ys)
  where
    here : (b : Bool) → has x ys ≡ b → ((Every (λ k. IsIn k ys → ⊥) xs → ⊥) → (k : ℕ) × IsIn k xs × IsIn k ys)
        → (k : ℕ) × IsIn k (x ∷ xs) × IsIn k ys
    here true e go = (x, inl refl, has_in x ys e)
    here false e go =
        let m = go (λ h. n ((λ i. true≢false (sym (in_has x ys i) ∙ e)), h)) in (m.0, inr m.1, m.2)

module _ (ts : List Tree) (ps : Ports) (inner refs : List ℕ) (r : ℕ) where
  -- by the references of the root
  pub inside_decided : (b : Bool) → (IsIn r inner → ⊥) → ((b ≡ true) ↔ Every (λ k. IsIn k inner → ⊥) refs)
      → ((k : ℕ) → IsIn k refs ↔ IsIn k (left_refs ts ps r)) → (not b ≡ true) ↔ RefersInside ts ps inner r
  inside_decided true out apart same = (
    (λ t. absurd (true≢false (sym t))),
    (λ h. absurd (every_in (λ k. IsIn k inner → ⊥) refs h.1.0 (apart.0 refl) ((same h.1.0).1 h.1.2) h.1.1)),
  )
  inside_decided false out apart same = (
    (λ t. let m = shared refs inner (λ h. true≢false (sym (apart.1 h))) in (out, (m.0, m.2, (same m.0).0 m.1))),
    (λ h. refl),
  )

-- what holds below n and of n holds below the next number
pub up_to : (P : ℕ → Type 0) (n : ℕ) → ((r : ℕ) → r < n → P r) → P n → (r : ℕ) → r < n + 1 → P r
up_to P n h k r l = here (nat_lt r n) refl
  where
    here : (b : Bool) → nat_lt r n ≡ b → P r
    here true e = h r (ltb-true r n e)
    here false e = let m = ltb-false r n e in let s : n ≡ r = omega (arith, l, m) in subst P s k
