-- Whether a way back leads to a root is decided.
use Rattle.std.proofs.Common.{◌≡◌, ◌⊎◌, inl, inr, ℕ, Bool, true, false, true≢false, nat_eq, List, [], ◌∷◌, refl, sym}
use Rattle.std.proofs.Common.{subst, ◌∙◌, Option, Some, None, slice_get}
use Rattle.std.proofs.lemmas.Bool.{eqb-true, eq-eqb}
use Rattle.std.proofs.lemmas.Option.{none-some, same_Some}
use Rattle.fore_base.specs.Lists.{IsIn}
use Rattle.ta_core.specs.declared.tree.Tree.{Tree}
use Rattle.fa_core.specs.declared.faces.BoxFace.{BoxFace}
use Rattle.fa_core.specs.Canonical.{LeadsBack}
use Rattle.fa_core.specs.Ways.{Way, ways, leads_back, led_to}
use Rattle.fa_core.proofs.Counts.{in_or_out}

module _ (bs : List BoxFace) (i j r : ℕ) where
  abbrev WayLeads : Way → Type 0
  WayLeads w = (w.root ≡ i) × (((r ≡ j) × (leads_back bs w.steps ≡ true)) ⊎ IsIn r (led_to bs w.steps))

  same_or : (a b : ℕ) → (a ≡ b) ⊎ (a ≡ b → ⊥)
  same_or a b = here (nat_eq a b) refl
    where
      here : (x : Bool) → nat_eq a b ≡ x → (a ≡ b) ⊎ (a ≡ b → ⊥)
      here true e = inl (eqb-true a b e)
      here false e = inr (λ z. true≢false (sym (eq-eqb a b z) ∙ e))

  true_or : (b : Bool) → (b ≡ true) ⊎ (b ≡ true → ⊥)
  true_or true = inl refl
  true_or false = inr (λ e. true≢false (sym e))

  way_decided : (w : Way) → WayLeads w ⊎ (WayLeads w → ⊥)
  way_decided w = elim (same_or w.root i) [
    | inr n ↦ inr (λ h. n h.0)
    | inl e ↦ elim (in_or_out r (led_to bs w.steps)) [
      | inl l ↦ inl (e, inr l)
      | inr o ↦ elim (same_or r j) [
        | inr n ↦ inr (λ h. elim h.1 [ inl x ↦ n x.0 | inr x ↦ o x ])
        | inl d ↦ elim (true_or (leads_back bs w.steps)) [
          | inl t ↦ inl (e, inl (d, t))
          | inr f ↦ inr (λ h. elim h.1 [ inl x ↦ f x.1 | inr x ↦ o x ])
        ]
      ]
    ]
  ]

  abbrev SomeLeads : List Way → Type 0
  SomeLeads ws = (w : Way) × IsIn w ws × WayLeads w

  ways_decided : (ws : List Way) → SomeLeads ws ⊎ (SomeLeads ws → ⊥)
  ways_decided [] = inr (λ h. h.1)
  ways_decided (w ∷ ws) = elim (way_decided w) [
    | inl h ↦ inl (w, inl refl, h)
    | inr n ↦ elim (ways_decided ws) [
      | inl k ↦ inl (k.0, inr k.1, k.2)
      | inr m ↦ inr (λ h. elim h.1 [ inl e ↦ n (subst WayLeads e h.2) | inr x ↦ m (h.0, x, h.2) ])
    ]
  ]

  pub leads_decided : (ts : List Tree) → LeadsBack bs ts i j r ⊎ (LeadsBack bs ts i j r → ⊥)
  leads_decided ts = here (slice_get ts j) refl
    where
      here : (o : Option Tree) → slice_get ts j ≡ o → LeadsBack bs ts i j r ⊎ (LeadsBack bs ts i j r → ⊥)
      here None e = inr (λ h. none-some h.0 (sym e ∙ h.1))
      here (Some t) e = elim (ways_decided (ways t)) [
        | inl h ↦ inl (t, e, (h.0, h.1, h.2.0, h.2.1))
        | inr n ↦ inr (λ h. n (let s : h.0 ≡ t = sym (same_Some t h.0 (sym e ∙ h.1))
            in (h.2.0, subst (λ (z : Tree). IsIn h.2.0 (ways z)) s h.2.1, (h.2.2, h.2.3))))
      ]
