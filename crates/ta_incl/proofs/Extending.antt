-- The choices of pairs for a rule's children.
use Rattle.std.proofs.Common.{◌≡◌, inl, inr, ℕ, ◌+◌, ◌<◌, ◌≤◌, Bool, true, false, true≢false, ◌||◌, nat_eq, List, []}
use Rattle.std.proofs.Common.{◌∷◌, ◌++◌, length, slice_get, Option, Some, refl, sym, ap, subst, ◌∙◌, arith}
use Rattle.std.proofs.lemmas.Bool.{ne_eqb}
use Rattle.std.proofs.lemmas.List.{append_assoc, append-nil, length-append, nil_from_length}
use Rattle.std.proofs.lemmas.Option.{same_Some, slice_get_within, get_or_from_slice_get}
use Rattle.fore_base.specs.Lists.{Every}
use Rattle.ta_core.specs.Auto.{Automaton}
use Rattle.fore_base.specs.Marks.{IsMarked}
use Rattle.ta_core.specs.declared.auto.Rule.{Rule}
use Rattle.fore_base.proofs.ListLemmas.{every_in, in_right, paired_long, paired_push, take_item}
use Rattle.ta_incl.specs.declared.exploring.Turn.{Turn}
use Rattle.ta_incl.specs.declared.found.Found.{Found}
use Rattle.ta_incl.specs.declared.order.Orders.{Orders}
use Rattle.ta_incl.specs.inner.Founds.{AreAt, HaveStates, IsBegun, is_among, is_due, IsCovered, CoversAt, CoversFrom}
use Rattle.ta_incl.specs.inner.Founds.{Widens}
use Rattle.ta_incl.proofs.Covering.{covered_still}
use Rattle.ta_incl.proofs.Places.{below_more, get_middle, paired_get, places_low}

-- what the rule gives over the pairs at the places, then one at a place below n and further ones, each of these with a
-- mark, found covers
abbrev pub CoversNext : Automaton → Orders → List Found → Turn → List Found → Rule → List ℕ → ℕ → Type 0
CoversNext b orders old turn found r places n = (k : ℕ) (rest : List ℕ) (items : List Found) → k < n
    → AreAt old (places ++ k ∷ rest) items → Every (IsMarked turn.ready) (k ∷ rest) → HaveStates r.children items
    → is_due turn.at (places ++ k ∷ rest) ≡ true → IsCovered b orders found r items

module _ (old : List Found) (r : Rule) (places : List ℕ) where
  -- one more place
  pub begun_more : (k q : ℕ) (x : Found) → IsBegun old r places → slice_get old k ≡ Some x
      → slice_get r.children (length places) ≡ Some q → x.state ≡ q → IsBegun old r (places ++ k ∷ [])
  begun_more k q x h e at s =
      let l : length (places ++ k ∷ []) ≡ length places + 1 = length-append places (k ∷ []) in
      let t = take_item r.children (length places) q (slice_get_within r.children (length places) q at)
      (sym (get_or_from_slice_get r.children (length places) q q at)) in
      (h.0 ++ x ∷ [], paired_push _ places h.0 k x h.1 e, rw (l, t) (paired_push _ _ h.0 q x h.2 s))

  -- the items at the places are as many
  items_long : (ps : List ℕ) (items : List Found) → AreAt old ps items → length ps ≡ length items
  items_long ps items a = paired_long (λ (i : ℕ) (f : Found). slice_get old i ≡ Some f) ps items a

  states_long : (items : List Found) → HaveStates r.children items → length r.children ≡ length items
  states_long items h = paired_long (λ (q : ℕ) (f : Found). f.state ≡ q) r.children items h

  -- the pair behind the places has the state of the child in its place
  next_state : (k q : ℕ) (rest : List ℕ) (items : List Found) (x : Found) → AreAt old (places ++ k ∷ rest) items
      → HaveStates r.children items → slice_get r.children (length places) ≡ Some q → slice_get old k ≡ Some x
      → x.state ≡ q
  next_state k q rest items x a h at e =
      let y = paired_get (λ (i : ℕ) (f : Found). slice_get old i ≡ Some f) (places ++ k ∷ rest) items (length places) k
      a (get_middle places k rest) in
      let z = paired_get (λ (p : ℕ) (f : Found). f.state ≡ p) r.children items (length places) q h at in
      let s : x ≡ y.0 = same_Some x y.0 (sym e ∙ y.2) in
      let t : y.0 ≡ z.0 = same_Some y.0 z.0 (sym y.1 ∙ z.1) in
      ap (λ (f : Found). f.state) (s ∙ t) ∙ z.2

  module _ (b : Automaton) (orders : Orders) (turn : Turn) where
    -- where each child has its pair, there is no further one
    none_more : (rest : List ℕ) (items : List Found) → length r.children ≤ length places
        → AreAt old (places ++ rest) items → HaveStates r.children items → rest ≡ []
    none_more rest items l a h =
        let m = items_long (places ++ rest) items a in
        let n = states_long items h in
        let k = length-append places rest in
        nil_from_length rest (omega (arith, l, m, n, k))

    pub covers_full : (found : List Found) → length r.children ≤ length places → CoversAt b orders old found r places
        → CoversFrom b orders old turn found r places
    covers_full found l f rest items a m h o =
        let none = none_more rest items l a h in
        f items (rw (none, append-nil places) at a)

    -- none of them is taken up
    pub covers_old : (found : List Found) → length r.children ≤ length places → is_due turn.at places ≡ false
        → CoversFrom b orders old turn found r places
    covers_old found l e rest items a m h o =
        let none = none_more rest items l a h in
        absurd (true≢false (sym (rw (none, append-nil places) at o) ∙ e))

    -- each old pair was taken for the next child
    pub covers_all : (found : List Found) → length places < length r.children
        → CoversNext b orders old turn found r places (length old) → CoversFrom b orders old turn found r places
    covers_all found l f [] items a m h o =
        let k = items_long (places ++ []) items a in
        let n = states_long items h in
        let j = length-append places [] in
        absurd (omega (arith, l, k, n, j))
    covers_all found l f (k ∷ rest) items a m h o =
        let low = every_in (λ (i : ℕ). i < length old) (places ++ k ∷ rest) k
        (places_low old (places ++ k ∷ rest) items a) (in_right k places (k ∷ rest) (inl refl)) in
        f k rest items low a m h o

    -- one more was taken
    pub next_push : (P : Found → Type 0) (before after : List Found) (n : ℕ)
        → CoversNext b orders old turn (old ++ before) r places n → Widens orders.left P old before after
        → CoversFrom b orders old turn (old ++ after) r (places ++ n ∷ [])
        → CoversNext b orders old turn (old ++ after) r places (n + 1)
    next_push P before after n f w g k rest items l a m h o = elim (below_more k n l) [
      | inl low ↦ covered_still b orders P old before after r items w (f k rest items low a m h o)
      | inr same ↦ (
          let s = append_assoc places (n ∷ []) rest in
          g rest items (rw s (rw same at a)) m.1 h
          (ap (is_due turn.at) (s ∙ ap (λ (i : ℕ). places ++ i ∷ rest) (sym same)) ∙ o))
    ]

    -- one that does not fit was left out
    pub next_skip : (found : List Found) (n q : ℕ) (x : Found) → CoversNext b orders old turn found r places n
        → slice_get r.children (length places) ≡ Some q → slice_get old n ≡ Some x
        → (x.state ≡ q → IsMarked turn.ready n → (rest : List ℕ)
        → length (places ++ n ∷ rest) ≡ length r.children → is_due turn.at (places ++ n ∷ rest) ≡ false)
        → CoversNext b orders old turn found r places (n + 1)
    next_skip found n q x f at e late k rest items l a m h o = elim (below_more k n l) [
      | inl low ↦ f k rest items low a m h o
      | inr same ↦ absurd (true≢false (sym (subst (λ (i : ℕ). is_due turn.at (places ++ i ∷ rest) ≡ true) same o)
          ∙ late (next_state k q rest items x a h at (rw same e)) (subst (IsMarked turn.ready) same m.0) rest
          (subst (λ (i : ℕ). length (places ++ i ∷ rest) ≡ length r.children) same
          (items_long (places ++ k ∷ rest) items a ∙ sym (states_long items h)))))
    ]

-- the places at which a pair is taken up
among_append : (i : ℕ) (xs ys : List ℕ) → is_among i xs ≡ false → is_among i (xs ++ ys) ≡ is_among i ys
among_append i [] ys e = refl
among_append i (x ∷ xs) ys e = let p = or_parts (nat_eq x i) (is_among i xs) e in
    rw (p.0, among_append i xs ys p.1) refl
  where
    or_parts : (s t : Bool) → (s || t) ≡ false → (s ≡ false) × (t ≡ false)
    or_parts true t e = absurd (true≢false e)
    or_parts false t e = (refl, e)

-- none is taken up at the last place
pub late : (o : Option ℕ) (i : ℕ) (places : List ℕ) (next children : ℕ) → o ≡ Some i → (next ≡ i → ⊥)
    → children ≤ length places + 1 → is_among i places ≡ false → (rest : List ℕ)
    → length (places ++ next ∷ rest) ≡ children → is_due o (places ++ next ∷ rest) ≡ false
late o i places next children s d l e rest long =
    let k = length-append places (next ∷ rest) in
    let none : rest ≡ [] = nil_from_length rest (omega (arith, l, long, k)) in
    let other : nat_eq next i ≡ false = ne_eqb next i d in
    subst (λ (p : Option ℕ). is_due p (places ++ next ∷ rest) ≡ false) (sym s)
    (among_append i places (next ∷ rest) e ∙ rw (none, other) refl)
