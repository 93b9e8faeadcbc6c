-- A lifted cell is a root with one rule, of which a slot gives the field to the root.
use Rattle.std.proofs.Common.{◌≡◌, inl, inr, ℕ, zero, suc, ◌+◌, ◌<◌, true, true≢false, length, List, [], ◌∷◌, refl}
use Rattle.std.proofs.Common.{sym, ap, subst, ◌∙◌, Some, slice_get, slice_set, length-set, arith}
use Rattle.std.proofs.lemmas.List.{get_or-set_same}
use Rattle.std.proofs.lemmas.Option.{none-some, same_Some}
use Rattle.fore_base.specs.Lists.{Every}
use Rattle.fore_base.proofs.ListLemmas.{every_in, in_append, in_right}
use Rattle.ta_core.specs.Auto.{Automaton, IsRanked, IsRankedRule}
use Rattle.ta_core.specs.Single.{HasOneTop}
use Rattle.ta_core.specs.declared.auto.Rule.{Rule}
use Rattle.ta_core.specs.declared.symbol.Slot.{Slot}
use Rattle.ta_core.specs.declared.symbol.Slot.TheVariants.{Field, Link, Hook}
use Rattle.fa_core.specs.declared.faces.BoxFace.{BoxFace}
use Rattle.fa_core.specs.declared.forest.Forest.{Forest}
use Rattle.fa_core.specs.declared.forest.Target.TheVariants.{At}
use Rattle.fa_core.specs.Folding.{symbol_slots}
use Rattle.fa_sound.specs.Components.{component_at}
use Rattle.fa_split.specs.Chosen.{chosen}
use Rattle.fa_split.specs.Split.{fresh_leaf, top_rule}
use Rattle.fa_split.proofs.ChosenTrees.{chosen_one, chosen_ranked, chosen_top}
use Rattle.fa_split.proofs.FixedTrees.{both, fixed_top, two_cases}
use Rattle.fa_split.proofs.OtherComponent.{component_last, component_set}
use Rattle.fa_split.proofs.RunPlaces.{at_index}
use Rattle.fa_lift.specs.Lift.{IsLiftBy, IsLiftOf, IsLiftedAt, Owns, child_gives, owner, slot_gives}
use Rattle.fa_unfold.specs.Slots.{Place, rule_places, state_places}
use Rattle.fa_unfold.proofs.OpenedRoots.{component_has}
use Rattle.fa_opening.specs.inner.Rounds.{HasGiver, IsOnlyRef}

-- the slot of the child at place p, with the child's state
record IsFound (bs : List BoxFace) (f q : ℕ) (places : List Place) : Type 0 where
  at : ℕ
  place : Place
  there : slice_get places at ≡ Some place
  gives : slot_gives bs f place.0 ≡ true
  state : place.1 ≡ q ∷ []

later : (bs : List BoxFace) (f q : ℕ) (x : Place) (places : List Place) → IsFound bs f q places
    → IsFound bs f q (x ∷ places)
later bs f q x places k =
    record { at = suc k.at; place = k.place; there = k.there; gives = k.gives; state = k.state }

found : (bs : List BoxFace) (f q : ℕ) (ss : List Slot) (qs : List ℕ) (p : ℕ) → child_gives bs f ss p ≡ true
    → slice_get qs p ≡ Some q → IsFound bs f q (state_places ss qs)
found bs f q [] qs p e h = absurd (true≢false (sym e))
found bs f q (Hook b ∷ ss) qs p e h = later bs f q (Hook b, []) (state_places ss qs) (found bs f q ss qs p e h)
found bs f q (Field g ∷ ss) [] p e h = absurd (none-some q h)
found bs f q (Field g ∷ ss) (x ∷ qs) zero e h = absurd (true≢false (sym e))
found bs f q (Field g ∷ ss) (x ∷ qs) (suc p) e h =
    later bs f q (Field g, x ∷ []) (state_places ss qs) (found bs f q ss qs p e h)
found bs f q (Link b ∷ ss) [] p e h = absurd (none-some q h)
found bs f q (Link b ∷ ss) (x ∷ qs) zero e h = record {
  at = 0;
  place = (Link b, x ∷ []);
  there = refl;
  gives = e;
  state = ap (λ (n : ℕ). n ∷ []) (same_Some x q h);
}
found bs f q (Link b ∷ ss) (x ∷ qs) (suc p) e h =
    later bs f q (Link b, x ∷ []) (state_places ss qs) (found bs f q ss qs p e h)

module _ (bs : List BoxFace) (r f : ℕ) (a : Automaton) (ranked : IsRanked a) (x : Rule) (p : ℕ)
    (own : Owns bs r f a x p) where
  abbrev one : Automaton
  one = chosen a x

  abbrev O : Automaton
  O = owner a x p r

  one_right : IsRanked one
  one_right = chosen_ranked a x ranked own.rule

  one_top : HasOneTop one
  one_top = chosen_one a x ranked own.rule

  place : p < length (top_rule one).children
  place = subst (λ (o : Rule). p < length o.children) (sym (chosen_top a x ranked own.rule)) own.place

  children_are : (top_rule O).children ≡ slice_set (top_rule one).children p (one.states + 1)
  children_are = ap (λ (o : Rule). o.children) (fixed_top one p (At r) one_right one_top place)

  child_is : slice_get (top_rule O).children p ≡ Some (one.states + 1)
  child_is =
      let qs = slice_set (top_rule one).children p (one.states + 1) in
      let m : length qs ≡ length (top_rule one).children = length-set (top_rule one).children p (one.states + 1) in
      ap (λ (z : List ℕ). slice_get z p) children_are
      ∙ at_index qs p (subst (λ (n : ℕ). p < n) (sym m) place)
      ∙ ap (λ (n : ℕ). Some n) (get_or-set_same (top_rule one).children p (one.states + 1) 0 place)

  -- the state of the child has the reference alone
  ref_alone : IsOnlyRef O.rules r (one.states + 1)
  ref_alone = record {
    there = (
      fresh_leaf one (At r),
      in_right (fresh_leaf one (At r)) one.rules (both one p (At r) one_right one_top place) (inr (inl refl)),
      refl,
      refl,
    );
    only = λ o i s. elim (in_append o one.rules (both one p (At r) one_right one_top place) i) [
      | inl j ↦
          let l = (every_in (IsRankedRule one.states) one.rules o one_right.1 j).0 in
          absurd (omega (arith, l, s))
      | inr j ↦ elim (two_cases one p (At r) one_right one_top place o j) [
        | inl e ↦ (let w : o.state ≡ one.states = ap (λ (z : Rule). z.state) e in absurd (omega (arith, w, s)))
        | inr e ↦ ap (λ (z : Rule). z.symbol) e
      ]
    ];
  }

  owner_found : child_gives bs f (symbol_slots (top_rule O).symbol) p ≡ true
      → IsFound bs f (one.states + 1) (rule_places (top_rule O))
  owner_found e =
      found bs f (one.states + 1) (symbol_slots (top_rule O).symbol) (top_rule O).children p e child_is

module _ (bs : List BoxFace) (r f : ℕ) (F : Forest) (t : ℕ) (ranked : Every IsRanked F.autos)
    (there : t < length F.autos) where
  abbrev a : Automaton
  a = component_at F.autos t

  a_right : IsRanked a
  a_right = component_has IsRanked F.autos t there ranked

  giver_at : (G : Forest) (u p : ℕ) (x : Rule) → Owns bs r f a x p → IsLiftedAt bs r f G u p
      → component_at G.autos u ≡ owner a x p r → HasGiver bs r f G
  giver_at G u p x own at e =
      let k = owner_found bs r f a a_right x p own
      (ap (λ (b : Automaton). child_gives bs f (symbol_slots (top_rule b).symbol) p) (sym e) ∙ at.gives) in (
        u,
        k.at,
        record {
          root = at.root;
          top = at.top;
          place = k.place;
          there = ap (λ (b : Automaton). slice_get (rule_places (top_rule b)) k.at) e ∙ k.there;
          gives = (
            k.gives,
            (
              (chosen a x).states + 1,
              k.state,
              subst (λ (b : Automaton). IsOnlyRef b.rules r ((chosen a x).states + 1)) (sym e)
                  (ref_alone bs r f a a_right x p own),
            ),
          );
        },
      )

  -- the component of the lifted root
  lifted_is : (G : Forest) (u p : ℕ) (x : Rule) → IsLiftBy bs F r t x p G u → component_at G.autos u ≡ owner a x p r
  lifted_is G u p x (inl (i, e, k)) =
      ap (λ (n : ℕ). component_at G.autos n) k ∙ ap (λ (H : Forest). component_at H.autos t) e
      ∙ component_set F.autos t (owner a x p r) there
  lifted_is G u p x (inr (c, piece, e, k)) =
      ap (λ (n : ℕ). component_at G.autos n) (k ∙ sym (length-set F.autos t c))
      ∙ ap (λ (H : Forest). component_at H.autos (length (slice_set F.autos t c))) e
      ∙ component_last (slice_set F.autos t c) (owner a x p r)

  pub lifted_giver : (G : Forest) → IsLiftOf bs F r f t G → HasGiver bs r f G
  lifted_giver G (x, p, u, own, by, at) = giver_at G u p x own at (lifted_is G u p x by)
