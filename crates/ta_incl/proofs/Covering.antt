-- What is covered by pairs, and what stays so when further ones are found.
use Rattle.std.proofs.Common.{◌≡◌, inl, inr, ℕ, ◌<◌, Bool, List, [], ◌∷◌, ◌++◌, get_or, slice_get, Some, refl, sym, ap}
use Rattle.std.proofs.Common.{subst, ◌∙◌}
use Rattle.std.proofs.lemmas.List.{append_assoc, append-nil, map-append}
use Rattle.fore_base.specs.Lists.{Every}
use Rattle.ta_core.specs.Auto.{Automaton}
use Rattle.fore_base.specs.Marks.{MarksOf}
use Rattle.fore_base.proofs.MarkLemmas.{marked_below}
use Rattle.ta_core.specs.Tops.{Tops}
use Rattle.ta_core.specs.declared.auto.Rule.{Rule}
use Rattle.fore_base.proofs.ListLemmas.{every_append, every_push, every_weaker, in_append, in_left, in_right}
use Rattle.ta_incl.specs.declared.found.Found.{Found}
use Rattle.ta_incl.specs.declared.order.Order.{Order}
use Rattle.ta_incl.specs.declared.order.Orders.{Orders}
use Rattle.ta_incl.specs.inner.Founds.{AreAt, HaveStates, sets_of, IsCover, HasCover, AreFresh, IsFrom, IsCovered}
use Rattle.ta_incl.specs.inner.Founds.{HasUnder, IsProper, Widens}
use Rattle.ta_incl.specs.inner.Orders.{AreOrdered, AreUpward}
use Rattle.ta_incl.proofs.Places.{every_pop, paired_last, read_item}

-- a new pair that none covers
pub fresh_push : (order : Order) (found : List Found) (x : Found) → AreFresh order found → (HasCover order found x → ⊥)
    → AreFresh order (found ++ x ∷ [])
fresh_push order [] x h f = (tt, tt)
fresh_push order (g ∷ found) x h f = (
  every_push (λ y. IsCover order g y → ⊥) found x h.0 (λ k. f (g, inl refl, k)),
  fresh_push order found x h.1 (λ k. f (k.0, inr k.1, k.2)),
)

-- the sets at places, with that at one more
pub sets_push : (found : List Found) (places : List ℕ) (place : ℕ) (sets : List (List Bool)) (set : List Bool)
    (x : Found) → ((items : List Found) → AreAt found places items → sets ≡ sets_of items) → x ≡ get_or found place x
    → set ≡ x.marks → (items : List Found) → AreAt found (places ++ place ∷ []) items → sets ++ set ∷ [] ≡ sets_of items
sets_push found places place sets set x f i e items h =
    let p = paired_last (λ (k : ℕ) (y : Found). slice_get found k ≡ Some y) places place items h in
    let s : set ≡ p.1.marks = e ∙ ap (λ (y : Found). y.marks) (read_item found place x p.1 i p.4) in
    ap (λ (ss : List (List Bool)). ss ++ set ∷ []) (f p.0 p.3) ∙ ap (λ (m : List Bool). sets_of p.0 ++ m ∷ []) s
    ∙ sym (map-append (λ (y : Found). y.marks) p.0 (p.1 ∷ [])) ∙ ap sets_of (sym p.2)

module _ (order : Order) (found added : List Found) (x : Found) where
  pub cover_left : HasCover order found x → HasCover order (found ++ added) x
  cover_left h = (h.0, in_left h.0 found added h.1, h.2)

  pub cover_right : HasCover order added x → HasCover order (found ++ added) x
  cover_right h = (h.0, in_right h.0 found added h.1, h.2)

  -- what the first list does not cover, the second one decides
  pub cover_joined : (HasCover order found x → ⊥) → HasCover order (found ++ added) x → HasCover order added x
  cover_joined f h = elim (in_append h.0 found added h.1) [ inl i ↦ absurd (f (h.0, i, h.2)) | inr i ↦ (h.0, i, h.2) ]

-- a pair that covers itself
pub cover_new : (order : Order) (found before after : List Found) (x : Found) → IsCover order x x
    → after ≡ before ++ x ∷ [] → HasCover order (found ++ after) x
cover_new order found before after x k e =
    (x, rw e (in_right x found (before ++ x ∷ []) (in_right x before (x ∷ []) (inl refl))), k)

-- the last pair off
pub fresh_pop : (order : Order) (found : List Found) (x : Found) → AreFresh order (found ++ x ∷ [])
    → AreFresh order found × Every (λ f. IsCover order f x → ⊥) found
fresh_pop order [] x h = (tt, tt)
fresh_pop order (g ∷ found) x h = let r = fresh_pop order found x h.1 in
    let k = every_pop (λ y. IsCover order g y → ⊥) found x h.0 in ((k.0, r.0), (k.1, r.1))

module _ (order : Order) (P : Found → Type 0) (old : List Found) where
  -- one more pair
  pub widens_push : (before after : List Found) (x : Found) → after ≡ before ++ x ∷ [] → P x
      → (HasCover order (old ++ before) x → ⊥) → Widens order P old before after
  widens_push before after x e p f = record {
    more = x ∷ [];
    is = e;
    each = (p, tt);
    fresh = λ h.
        subst (AreFresh order) (append_assoc old before (x ∷ []) ∙ ap (λ (xs : List Found). old ++ xs) (sym e))
        (fresh_push order (old ++ before) x h f);
  }

  -- none was added
  pub widens_none : (before : List Found) → Widens order P old before before
  widens_none before = record { more = []; is = sym (append-nil before); each = tt; fresh = λ h. h }

  pub widens_more : (a b c : List Found) → Widens order P old a b → Widens order P old b c
      → Widens order P old a c
  widens_more a b c h k = record {
    more = h.more ++ k.more;
    is = k.is ∙ ap (λ (xs : List Found). xs ++ k.more) h.is ∙ append_assoc a h.more k.more;
    each = every_append P h.more k.more h.each k.each;
    fresh = λ f. k.fresh (h.fresh f);
  }

pub widens_weaker : (order : Order) (P Q : Found → Type 0) (old before after : List Found)
    → ((f : Found) → P f → Q f) → Widens order P old before after → Widens order Q old before after
widens_weaker order P Q old before after f h =
    record { more = h.more; is = h.is; each = every_weaker P Q h.more f h.each; fresh = h.fresh }

module _ (b : Automaton) (orders : Orders) where
  -- what is covered stays so among more pairs
  pub covered_more : (found more : List Found) (r : Rule) (items : List Found) → IsCovered b orders found r items
      → IsCovered b orders (found ++ more) r items
  covered_more found more r items h =
      record { pair = h.pair; in_found = in_left h.pair found more h.in_found; state = h.state; set = h.set }

  pub covered_still : (P : Found → Type 0) (old before after : List Found) (r : Rule) (items : List Found)
      → Widens orders.left P old before after → IsCovered b orders (old ++ before) r items
      → IsCovered b orders (old ++ after) r items
  covered_still P old before after r items w h =
      subst (λ (xs : List Found). IsCovered b orders xs r items)
      (append_assoc old before w.more ∙ ap (λ (xs : List Found). old ++ xs) (sym w.is))
      (covered_more (old ++ before) w.more r items h)

  -- what covers the pair that the rule gives covers what the rule gives
  pub covered_by : (found : List Found) (r : Rule) (items : List Found) (x : Found) (sets : List (List Bool))
      → x.state ≡ r.state → MarksOf b.states (Tops b.rules r.symbol sets) x.marks → HasUnder b orders.right x
      → sets ≡ sets_of items → HasCover orders.left found x → IsCovered b orders found r items
  covered_by found r items x sets s m u e h = record {
    pair = h.0;
    in_found = h.1;
    state = subst (λ (n : ℕ). AreOrdered orders.left n h.0.state) s h.2.0;
    set = λ q k.
        let v = (u.only q (h.2.1 q k)).1 in
        (v.0, subst (λ (ss : List (List Bool)). Tops b.rules r.symbol ss v.0) e (m.only v.0 v.1), v.2);
  }

  -- a pair covers itself
  pub cover_same : (a : Automaton) → AreUpward a b orders → (x : Found) → IsProper a b orders x
      → IsCover orders.left x x
  cover_same a up x h = (
    up.left.same x.state h.state,
    λ q m.
        let l : q < b.states = rw h.long at (marked_below x.marks q m) in
        h.under.each q (l, (q, m, up.right.same q l)),
  )

  -- the pair of the rule's marks is what the rule gives
  pub given_here : (found : List Found) (place : ℕ) (r : Rule) (from : List ℕ) (items : List Found)
      (marks under : List Bool) (sets : List (List Bool)) → AreAt found from items → HaveStates r.children items
      → MarksOf b.states (Tops b.rules r.symbol sets) marks → sets ≡ sets_of items
      → IsFrom b found place r (record { state = r.state; marks = marks; under = under; rule = place; from = from })
  given_here found place r from items marks under sets h k m e = record {
    rule = refl;
    state = refl;
    items = items;
    from = h;
    children = k;
    marks = subst (λ (ss : List (List Bool)). MarksOf b.states (Tops b.rules r.symbol ss) marks) e m;
  }
