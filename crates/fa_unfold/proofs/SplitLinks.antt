-- Where the child of a Link is split, what stands at the end of the Link is one leaf alone, and its other slots stay.
use Rattle.std.proofs.Common.{◌≡◌, ℕ, zero, suc, ◌+◌, length, List, [], ◌∷◌, ap, ap₂, subst, ◌∙◌}
use Rattle.std.proofs.Common.{slice_get, slice_set, Option, Some, arith}
use Rattle.std.proofs.lemmas.Option.{none-some, same_Some, slice_get_within}
use Rattle.fore_base.specs.Lists.{Every}
use Rattle.ta_core.specs.Auto.{IsRanked}
use Rattle.ta_core.specs.declared.auto.Rule.{Rule}
use Rattle.ta_core.specs.declared.symbol.Slot.{Slot}
use Rattle.ta_core.specs.declared.symbol.Slot.TheVariants.{Field, Link, Hook}
use Rattle.ta_core.specs.declared.symbol.Symbol.{Symbol}
use Rattle.fa_core.specs.declared.boxes.BoxDef.{BoxDef}
use Rattle.fa_core.specs.declared.faces.Face.{Face}
use Rattle.fa_core.specs.declared.forest.Forest.{Forest}
use Rattle.fa_core.specs.declared.forest.Target.{Target}
use Rattle.fa_core.specs.Filled.{IsSound}
use Rattle.fa_core.specs.Folding.{symbol_slots}
use Rattle.fa_sound.specs.Components.{component_at}
use Rattle.fa_split.specs.Split.{CanSplit, IsFixedAt, IsSplitOf, top_rule}
use Rattle.fa_split.proofs.FixedChildren.{split_fixed}
use Rattle.fa_split.proofs.RunPlaces.{set_here}
use Rattle.fa_unfold.specs.Sites.{IsLinkAt, IsLinkAtSlot, child_place}
use Rattle.fa_unfold.specs.Slots.{Place, children_before, rule_places, state_places}

-- The state of a slot's child.

-- a slot without a child is not one with a child
no_child : (x y : Slot) (q : ℕ) (A : Type 0) → ◌≡◌ {A = Option Place} (Some (x, [])) (Some (y, q ∷ [])) → A
no_child x y q A e =
    let w : 0 ≡ 1 = ap (λ (z : Place). length z.1) (same_Some (x, []) (y, q ∷ []) e) in
    absurd (omega (arith, w))

abbrev first : List ℕ → ℕ
first [] = 0
first (q ∷ qs) = q

same_child : (x y : Slot) (p q : ℕ) → ◌≡◌ {A = Option Place} (Some (x, p ∷ [])) (Some (y, q ∷ [])) → p ≡ q
same_child x y p q e = ap (λ (z : Place). first z.1) (same_Some (x, p ∷ []) (y, q ∷ []) e)

same_slot : (x y : Slot) (p q : ℕ) → ◌≡◌ {A = Option Place} (Some (x, p ∷ [])) (Some (y, q ∷ [])) → x ≡ y
same_slot x y p q e = ap (λ (z : Place). z.0) (same_Some (x, p ∷ []) (y, q ∷ []) e)

one_more : (k : ℕ) → suc k ≡ k + 1
one_more k = omega arith

-- it is that of the child behind those of the slots before
pub place_child : (ss : List Slot) (qs : List ℕ) (p q : ℕ) (s : Slot)
    → slice_get (state_places ss qs) p ≡ Some (s, q ∷ []) → slice_get qs (children_before ss p) ≡ Some q
place_child [] qs p q s e = absurd (none-some (s, q ∷ []) e)
place_child (Hook b ∷ ss) qs zero q s e = no_child (Hook b) s q (slice_get qs 0 ≡ Some q) e
place_child (Hook b ∷ ss) qs (suc p) q s e = place_child ss qs p q s e
place_child (Field f ∷ ss) [] p q s e = absurd (none-some (s, q ∷ []) e)
place_child (Field f ∷ ss) (x ∷ qs) zero q s e = ap (λ (n : ℕ). Some n) (same_child (Field f) s x q e)
place_child (Field f ∷ ss) (x ∷ qs) (suc p) q s e =
    subst (λ (n : ℕ). slice_get (x ∷ qs) n ≡ Some q) (one_more (children_before ss p)) (place_child ss qs p q s e)
place_child (Link b ∷ ss) [] p q s e = absurd (none-some (s, q ∷ []) e)
place_child (Link b ∷ ss) (x ∷ qs) zero q s e = ap (λ (n : ℕ). Some n) (same_child (Link b) s x q e)
place_child (Link b ∷ ss) (x ∷ qs) (suc p) q s e =
    subst (λ (n : ℕ). slice_get (x ∷ qs) n ≡ Some q) (one_more (children_before ss p)) (place_child ss qs p q s e)

-- with another state there, each other slot keeps that of its child
pub places_set : (ss : List Slot) (qs : List ℕ) (p q z : ℕ) (s : Slot)
    → slice_get (state_places ss qs) p ≡ Some (s, q ∷ [])
    → state_places ss (slice_set qs (children_before ss p) z) ≡ slice_set (state_places ss qs) p (s, z ∷ [])
places_set [] qs p q z s e = absurd (none-some (s, q ∷ []) e)
places_set (Hook b ∷ ss) qs zero q z s e = no_child (Hook b) s q
    (state_places (Hook b ∷ ss) (slice_set qs 0 z) ≡ (s, z ∷ []) ∷ state_places ss qs) e
places_set (Hook b ∷ ss) qs (suc p) q z s e =
    ap (λ (xs : List Place). (Hook b, []) ∷ xs) (places_set ss qs p q z s e)
places_set (Field f ∷ ss) [] p q z s e = absurd (none-some (s, q ∷ []) e)
places_set (Field f ∷ ss) (x ∷ qs) zero q z s e =
    ap (λ (y : Slot). (y, z ∷ []) ∷ state_places ss qs) (same_slot (Field f) s x q e)
places_set (Field f ∷ ss) (x ∷ qs) (suc p) q z s e =
    subst (λ (n : ℕ). state_places (Field f ∷ ss) (slice_set (x ∷ qs) n z)
    ≡ (Field f, x ∷ []) ∷ slice_set (state_places ss qs) p (s, z ∷ [])) (one_more (children_before ss p))
    (ap (λ (xs : List Place). (Field f, x ∷ []) ∷ xs) (places_set ss qs p q z s e))
places_set (Link b ∷ ss) [] p q z s e = absurd (none-some (s, q ∷ []) e)
places_set (Link b ∷ ss) (x ∷ qs) zero q z s e =
    ap (λ (y : Slot). (y, z ∷ []) ∷ state_places ss qs) (same_slot (Link b) s x q e)
places_set (Link b ∷ ss) (x ∷ qs) (suc p) q z s e =
    subst (λ (n : ℕ). state_places (Link b ∷ ss) (slice_set (x ∷ qs) n z)
    ≡ (Link b, x ∷ []) ∷ slice_set (state_places ss qs) p (s, z ∷ [])) (one_more (children_before ss p))
    (ap (λ (xs : List Place). (Link b, x ∷ []) ∷ xs) (places_set ss qs p q z s e))

-- The Link.

module _ (F : Forest) (i p b : ℕ) (at : IsLinkAtSlot F i p b) where
  abbrev rule : Rule
  rule = top_rule (component_at F.autos i)

  abbrev c : ℕ
  c = child_place F i p

  -- its child may be split
  pub link_can_split : CanSplit F i c
  link_can_split = record {
    root = at.root;
    top = at.top;
    place = slice_get_within rule.children c at.state
        (place_child (symbol_slots rule.symbol) rule.children p at.state (Link b) at.slot);
  }

  -- where it is one leaf alone, the slots of the rule are the same but for this child
  pub fixed_places : (y : Target) (G : Forest) (h : IsFixedAt F i c y G)
      → rule_places (top_rule (component_at G.autos i)) ≡ slice_set (rule_places rule) p (Link b, h.state ∷ [])
  fixed_places y G h =
      ap₂ (λ (x : Symbol) (qs : List ℕ). state_places (symbol_slots x) qs) h.symbol h.children
      ∙ places_set (symbol_slots rule.symbol) rule.children p at.state h.state (Link b) at.slot

  pub fixed_link : (y : Target) (G : Forest) → IsFixedAt F i c y G → IsLinkAt G i p b y
  fixed_link y G h = record {
    root = h.root;
    top = h.top;
    state = h.state;
    slot = ap (λ (xs : List Place). slice_get xs p) (fixed_places y G h)
        ∙ set_here (rule_places rule) p (Link b, at.state ∷ []) (Link b, h.state ∷ []) at.slot;
    run = h.run;
    only = h.only;
    end = h.end;
  }

  -- so it is in each forest into which a sound forest is split there
  pub split_link : (T : List BoxDef) (face : Face) → Every IsRanked F.autos → IsSound face F → (G : Forest)
      → IsSplitOf T F i c G → (y : Target) × IsLinkAt G i p b y
  split_link T face ranked sound G of =
      let h = split_fixed face F i c ranked link_can_split sound T G of in
      (h.0, fixed_link h.0 G h.1)
