-- What is kept while pairs are found.
use Rattle.std.proofs.Common.{◌≡◌, inl, inr, ℕ, ◌≤◌, Bool, true, false, true≢false, nat_eq, List, [], ◌∷◌, ◌++◌, length}
use Rattle.std.proofs.Common.{slice_get, Option, Some, refl, sym, subst, ◌∙◌, arith}
use Rattle.std.proofs.lemmas.Bool.{eqb-true, or_cases}
use Rattle.std.proofs.lemmas.Option.{same_Some, slice_get_within}
use Rattle.fore_base.specs.Lists.{IsIn, Every}
use Rattle.ta_core.specs.Auto.{Automaton}
use Rattle.ta_core.specs.declared.auto.Rule.{Rule}
use Rattle.fore_base.proofs.ListLemmas.{every_in, every_push, every_weaker, in_from_place, paired_weaker}
use Rattle.ta_incl.specs.declared.exploring.Turn.{Turn}
use Rattle.ta_incl.specs.declared.found.Found.{Found}
use Rattle.ta_incl.specs.declared.order.Order.{Order}
use Rattle.ta_incl.specs.declared.order.Orders.{Orders}
use Rattle.ta_incl.specs.inner.Founds.{AreAt, HaveStates, AreDerived, IsDerived, IsFrom, is_among, is_due, CoversFrom}
use Rattle.ta_incl.specs.inner.Founds.{Widens}
use Rattle.ta_incl.proofs.Covering.{covered_still}
use Rattle.ta_incl.proofs.Places.{get_either, get_left, places_low}

module _ (rules : List Rule) (b : Automaton) (found : List Found) where
  pub derived_by : (place : ℕ) (r : Rule) (f : Found) → slice_get rules place ≡ Some r → IsFrom b found place r f
      → IsDerived rules b found f
  derived_by place r f at h = (
    r,
    subst (λ (i : ℕ). slice_get rules i ≡ Some r) (sym h.rule) at,
    record { rule = refl; state = h.state; items = h.items; from = h.from; children = h.children; marks = h.marks },
  )

  -- further pairs change no derivation
  pub derived_more : (more : List Found) (f : Found) → IsDerived rules b found f → IsDerived rules b (found ++ more) f
  derived_more more f h = (
    h.0,
    h.1,
    record {
      rule = h.2.rule;
      state = h.2.state;
      items = h.2.items;
      from = paired_weaker _ _ f.from h.2.items (λ i x e. get_left found more i x e) h.2.from;
      children = h.2.children;
      marks = h.2.marks;
    },
  )

  -- pairs that are derived from those before them
  pub derived_all : (order : Order) (P : Found → Type 0) (new : List Found) → AreDerived rules b found
      → Widens order (λ f. IsDerived rules b found f × P f) [] found new → AreDerived rules b new
  derived_all order P new d w = subst (AreDerived rules b) (sym w.is)
      (λ place f e. elim (get_either found w.more place f e) [
        | inl h ↦ (let k = d place f h in (derived_more w.more f k.0, k.1))
        | inr h ↦ (
            let k = (every_in (λ (g : Found). IsDerived rules b found g × P g) w.more f w.each
            (in_from_place w.more h.0 f h.2)).0 in
            let s = h.1 in (
              derived_more w.more f k,
              every_weaker _ _ f.from (λ i l. omega (arith, l, s)) (places_low found f.from k.2.items k.2.from),
            ))
      ])

-- what the first rules and one more give
pub covers_push : (b : Automaton) (orders : Orders) (turn : Turn) (P : Found → Type 0) (old before after : List Found)
    (rules : List Rule) (r : Rule)
    → Every (λ s. CoversFrom b orders old turn (old ++ before) s []) rules → Widens orders.left P old before after
    → CoversFrom b orders old turn (old ++ after) r []
    → Every (λ s. CoversFrom b orders old turn (old ++ after) s []) (rules ++ r ∷ [])
covers_push b orders turn P old before after rules r h w k =
    every_push _ rules r
    (every_weaker _ _ rules (λ s f rest items a m i o.
    covered_still b orders P old before after s items w (f rest items a m i o)) h) k

-- a rule of which no choice has the pair that is taken up
pub covers_skip : (b : Automaton) (orders : Orders) (turn : Turn) (old found : List Found) (rules : List Rule)
    (r : Rule)
    → Every (λ s. CoversFrom b orders old turn found s []) rules
    → ((places : List ℕ) (items : List Found) → AreAt old places items → HaveStates r.children items
    → is_due turn.at places ≡ false) → Every (λ s. CoversFrom b orders old turn found s []) (rules ++ r ∷ [])
covers_skip b orders turn old found rules r h f =
    every_push _ rules r h (λ rest items a m i o. absurd (true≢false (sym o ∙ f rest items a i)))

-- the pair that is taken up has the state of one of the children
pub due_state : (found : List Found) (qs : List ℕ) (i : ℕ) (places : List ℕ) (items : List Found)
    → AreAt found places items → HaveStates qs items → is_among i places ≡ true
    → (f : Found) × (slice_get found i ≡ Some f) × IsIn f.state qs
due_state found qs i [] items a h d = absurd (true≢false (sym d))
due_state found qs i (j ∷ places) [] a h d = absurd a
due_state found [] i (j ∷ places) (x ∷ items) a h d = absurd h
due_state found (q ∷ qs) i (j ∷ places) (x ∷ items) a h d = elim (or_cases (nat_eq j i) (is_among i places) d) [
  | inl e ↦ (x, subst (λ (k : ℕ). slice_get found k ≡ Some x) (eqb-true j i e) a.0, inl h.0)
  | inr e ↦ (let w = due_state found qs i places items a.1 h.1 e in (w.0, w.1, inr w.2))
]

module _ (found : List Found) (qs : List ℕ) (o : Option ℕ) (i : ℕ) (at : o ≡ Some i) where
  not_among : ((places : List ℕ) (items : List Found) → AreAt found places items → HaveStates qs items
      → is_among i places ≡ true → ⊥) → (places : List ℕ) (items : List Found) → AreAt found places items
      → HaveStates qs items → is_due o places ≡ false
  not_among f places items a h =
      subst (λ (p : Option ℕ). is_due p places ≡ false) (sym at) (here (is_among i places) refl)
    where
      here : (t : Bool) → is_among i places ≡ t → is_among i places ≡ false
      here true e = absurd (f places items a h e)
      here false e = e

  -- no child has the state of the pair that is taken up
  pub not_due : (x : Found) → slice_get found i ≡ Some x → (IsIn x.state qs → ⊥) → (places : List ℕ)
      (items : List Found) → AreAt found places items → HaveStates qs items → is_due o places ≡ false
  not_due x e n = not_among (λ places items a h d.
      let w = due_state found qs i places items a h d in
      n (subst (λ (y : Found). IsIn y.state qs) (same_Some w.0 x (sym w.1 ∙ e)) w.2))

  -- there is no such pair
  pub none_due : length found ≤ i → (places : List ℕ) (items : List Found) → AreAt found places items
      → HaveStates qs items → is_due o places ≡ false
  none_due l = not_among (λ places items a h d.
      let w = due_state found qs i places items a h d in
      let k = slice_get_within found i w.0 w.1 in
      let no : ⊥ = omega (arith, l, k) in no)
