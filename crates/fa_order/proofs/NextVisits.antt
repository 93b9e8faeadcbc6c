-- Which root is visited next, and what is left of the walk then.
use Rattle.std.proofs.Common.{inl, inr, ℕ, ◌<◌, List, ◌∷◌, length, sym, subst, ◌∙◌, Some, None}
use Rattle.fore_base.specs.Lists.{IsIn}
use Rattle.fa_core.specs.References.{AllBelow}
use Rattle.fa_core.specs.declared.signature.Signature.{Signature}
use Rattle.fa_order.specs.Placing.{PlacingOn, all_placed, stuck, goes_on}
use Rattle.fa_order.specs.inner.Backs.{GivesBy, IsNext, LeadsBy}
use Rattle.fa_order.specs.inner.Stacks.{nth_refs, weight}

module _ (ss : List Signature) (refers : List (List ℕ)) (placed before after : List ℕ) where
  abbrev On : List ℕ → List ℕ → List ℕ → Type 0
  On = PlacingOn (nth_refs refers) (LeadsBy ss) (GivesBy ss)

  pub next_goes : (r : ℕ) → IsNext ss refers placed before after (Some r) → (order : List ℕ)
      → On (r ∷ after) placed order
      → On before placed order
  next_goes r (inl e) order w = subst (λ (z : List ℕ). On z placed order) (sym e) w
  next_goes r (inr h) order w =
      subst (λ (z : List ℕ). On z placed order) (sym h.0)
      (goes_on h.2.fresh h.2.goes (subst (λ (z : List ℕ). On (r ∷ z) placed order) h.1 w))

  pub next_ends : IsNext ss refers placed before after None → On before placed placed
  next_ends h = subst (λ (z : List ℕ). On z placed placed) (sym h.0)
      (elim h.1 [ inl n ↦ all_placed n | inr n ↦ stuck n ])

  pub next_falls : (r m : ℕ) → IsNext ss refers placed before after (Some r) → m < weight refers (r ∷ after) placed
      → ((IsIn r placed → ⊥) → m < weight refers after placed) → m < weight refers before placed
  next_falls r m (inl e) f g = subst (λ (z : List ℕ). m < weight refers z placed) (sym e) f
  next_falls r m (inr h) f g = subst (λ (z : List ℕ). m < weight refers z placed) (h.1 ∙ sym h.0) (g h.2.fresh)

  pub next_below : (r : ℕ) → IsNext ss refers placed before after (Some r) → AllBelow (length refers) before
      → AllBelow (length refers) (r ∷ after)
  next_below r (inl e) b = subst (AllBelow (length refers)) e b
  next_below r (inr h) b = (h.2.low, subst (AllBelow (length refers)) (h.0 ∙ sym h.1) b)
