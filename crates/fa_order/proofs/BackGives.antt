-- A way back into a tree gives a field, where each box that leads back gives its output something.
use Rattle.std.proofs.Common.{◌≡◌, ◌⊎◌, inl, inr, ℕ, Bool, true, false, true≢false, cond, ◌&&◌, nat_eq, List, [], ◌∷◌}
use Rattle.std.proofs.Common.{flat_map, refl, sym, ap, subst, ◌∙◌, Option, Some, None, slice_get}
use Rattle.std.proofs.lemmas.Bool.{eq-eqb}
use Rattle.fore_base.specs.Lists.{IsIn, Every}
use Rattle.fore_base.proofs.ListLemmas.{in_left, in_right, every_in, in_from_place}
use Rattle.ta_core.specs.declared.symbol.Slot.{Slot}
use Rattle.ta_core.specs.declared.symbol.Slot.TheVariants.{Field, Link, Hook}
use Rattle.ta_core.specs.declared.tree.Tree.{Tree}
use Rattle.fa_core.specs.declared.faces.BoxFace.{BoxFace}
use Rattle.fa_core.specs.Canonical.{LeadsBack, provides}
use Rattle.fa_core.specs.Faces.{IsGiving}
use Rattle.fa_core.specs.Ways.{Step, Way, ways, is_back, all_back, leads_back, led_to, given, given_by, fields_out}
use Rattle.fa_core.specs.Ways.{leads_through, to_root}

module _ (bs : List BoxFace) (giving : Every IsGiving bs) where
  face_gives : (o : Option BoxFace) → ((x : BoxFace) → o ≡ Some x → IsIn x bs) → leads_through o ≡ true
      → fields_out o ≡ [] → ⊥
  face_gives None i h e = true≢false (sym h)
  face_gives (Some x) i h e = every_in IsGiving bs x giving (i x refl) h e

  slot_gives : (s : Slot) → is_back bs s ≡ true → given_by bs s ≡ [] → ⊥
  slot_gives (Field f) h e = true≢false (sym h)
  slot_gives (Link b) h e = face_gives (slice_get bs b) (λ x a. in_from_place bs b x a) h e
  slot_gives (Hook b) h e = true≢false (sym h)

  both_true : (a b : Bool) → (a && b) ≡ true → (a ≡ true) × (b ≡ true)
  both_true true true h = (refl, refl)
  both_true true false h = absurd (true≢false (sym h))
  both_true false b h = absurd (true≢false (sym h))

  all_gives : (s : Step) (ss : List Step) → all_back bs (s ∷ ss) ≡ true → given bs (s ∷ ss) ≡ [] → ⊥
  all_gives s [] h e = slot_gives s.slot (both_true (is_back bs s.slot) true h).0 e
  all_gives s (t ∷ ss) h e = all_gives t ss (both_true (is_back bs s.slot) (all_back bs (t ∷ ss)) h).1 e

  led_gives : (ss : List Step) (r : ℕ) → IsIn r (led_to bs ss) → given bs ss ≡ [] → ⊥
  led_gives [] r i e = absurd i
  led_gives (s ∷ []) r i e = here (all_back bs (s ∷ [])) refl i
    where
      here : (b : Bool) → all_back bs (s ∷ []) ≡ b → IsIn r (cond b s.refers []) → ⊥
      here true h i = all_gives s [] h e
      here false h i = absurd i
  led_gives (s ∷ t ∷ ss) r i e = here (λ j. led_gives (t ∷ ss) r j e) (all_back bs (s ∷ t ∷ ss)) refl i
    where
      here : (IsIn r (led_to bs (t ∷ ss)) → ⊥) → (b : Bool) → all_back bs (s ∷ t ∷ ss) ≡ b
          → IsIn r (cond b s.refers (led_to bs (t ∷ ss))) → ⊥
      here g true h i = all_gives s (t ∷ ss) h e
      here g false h i = g i

  way_gives : (ss : List Step) (r : ℕ) → (leads_back bs ss ≡ true) ⊎ IsIn r (led_to bs ss) → given bs ss ≡ [] → ⊥
  way_gives [] r (inl h) e = true≢false (sym h)
  way_gives (s ∷ ss) r (inl h) e = all_gives s ss h e
  way_gives ss r (inr h) e = led_gives ss r h e

  some_item : (xs : List ℕ) → (xs ≡ [] → ⊥) → (x : ℕ) × IsIn x xs
  some_item [] h = absurd (h refl)
  some_item (x ∷ xs) h = (x, inl refl)

  gives_here : (i : ℕ) (ws : List Way) (w : Way) → IsIn w ws → w.root ≡ i → (x : ℕ) → IsIn x (given bs w.steps)
      → IsIn x (flat_map (λ (v : Way). given bs v.steps) (to_root i ws))
  gives_here i [] w h e x j = absurd h
  gives_here i (v ∷ ws) w h e x j = here (λ z. gives_here i ws w z e x j) (nat_eq i v.root) refl h
    where
      here : (IsIn w ws → IsIn x (flat_map (λ (v : Way). given bs v.steps) (to_root i ws))) → (b : Bool)
          → nat_eq i v.root ≡ b → IsIn w (v ∷ ws)
          → IsIn x (flat_map (λ (v : Way). given bs v.steps) (cond b (v ∷ to_root i ws) (to_root i ws)))
      here g true d (inl z) = in_left x (given bs v.steps) (flat_map (λ (v : Way). given bs v.steps) (to_root i ws))
          (subst (λ (y : Way). IsIn x (given bs y.steps)) z j)
      here g true d (inr z) = in_right x (given bs v.steps) (flat_map (λ (v : Way). given bs v.steps) (to_root i ws))
          (g z)
      here g false d (inl z) = absurd (true≢false (sym (eq-eqb i v.root (sym e ∙ ap (λ (y : Way). y.root) z)) ∙ d))
      here g false d (inr z) = g z

  -- the law
  pub back_provides : (ts : List Tree) (i j r : ℕ) → LeadsBack bs ts i j r → (f : ℕ) × provides bs ts i j f
  back_provides ts i j r l =
      let w = l.2 in
      let some = some_item (given bs w.0.steps) (way_gives w.0.steps r (elim w.3 [ inl h ↦ inl h.1 | inr h ↦ inr h ]))
      in
      (some.0, (l.0, l.1, gives_here i (ways l.0) w.0 w.1 w.2 some.0 some.1))
