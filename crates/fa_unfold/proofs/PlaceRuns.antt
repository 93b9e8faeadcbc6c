-- Runs below a cell, slot by slot.
use Rattle.std.proofs.Common.{◌≡◌, ℕ, zero, suc, ◌<◌, ◌+◌, length, List, [], ◌∷◌, ◌++◌, map}
use Rattle.std.proofs.Common.{flat_map, refl, sym, ap, ap₂, subst}
use Rattle.std.proofs.Common.{◌∙◌, length-append, arith}
use Rattle.fore_base.specs.Lists.{Every, Paired}
use Rattle.fore_base.proofs.ListLemmas.{every_append}
use Rattle.ta_core.specs.Arity.{child_slots}
use Rattle.ta_core.specs.Joined.{shift}
use Rattle.ta_core.specs.Language.{RunOf, RunEach, run_none, run_more}
use Rattle.ta_core.specs.declared.auto.Rule.{Rule}
use Rattle.ta_core.specs.declared.symbol.Slot.{Slot}
use Rattle.ta_core.specs.declared.symbol.Slot.TheVariants.{Field, Link, Hook}
use Rattle.ta_core.specs.declared.tree.Tree.{Tree}
use Rattle.fa_core.specs.declared.faces.BoxFace.{BoxFace}
use Rattle.fa_core.specs.Dressed.{Parts, no_parts, field, link, hook}
use Rattle.fa_core.specs.Member.{bare_parts, bare_end, slots_of}
use Rattle.fa_unfold.specs.Parts.{Part, FieldPart, LinkPart, HookPart, listed}
use Rattle.fa_unfold.specs.Slots.{Place, without, state_places, slot_key, place_key, moved_place}
use Rattle.fa_unfold.specs.inner.Trees.{unlisted, part_slot, part_key}

-- the slot is that of the place, and what stands at its end is related to the state
abbrev pub PlaceOf : (ℕ → Tree → Type 0) → Place → Part → Type 0
PlaceOf R x (FieldPart f e) = (x.0 ≡ Field f) × (q : ℕ) × (x.1 ≡ q ∷ []) × R q (bare_end e)
PlaceOf R x (LinkPart b i e) = (x.0 ≡ Link b) × (q : ℕ) × (x.1 ≡ q ∷ []) × R q (bare_end e)
PlaceOf R x (HookPart b i) = (x.0 ≡ Hook b) × (x.1 ≡ [])

same_slot : (R : ℕ → Tree → Type 0) (x : Place) (y : Part) → PlaceOf R x y → x.0 ≡ part_slot y
same_slot R x (FieldPart f e) h = h.0
same_slot R x (LinkPart b i e) h = h.0
same_slot R x (HookPart b i) h = h.0

pub same_key : (bs : List BoxFace) (R : ℕ → Tree → Type 0) (x : Place) (y : Part) → PlaceOf R x y → place_key bs x
    ≡ part_key bs y
same_key bs R x y h = ap (slot_key bs) (same_slot R x y h)

-- as many children as the slot has
abbrev pub IsPlaceAt : Slot → List ℕ → Type 0
IsPlaceAt (Field f) qs = (q : ℕ) × (qs ≡ q ∷ [])
IsPlaceAt (Link b) qs = (q : ℕ) × (qs ≡ q ∷ [])
IsPlaceAt (Hook b) qs = qs ≡ []

-- and their states are below n
abbrev pub IsPlace : ℕ → Place → Type 0
IsPlace n x = IsPlaceAt x.0 x.1 × Every (λ q. q < n) x.1

pub places_right : (n : ℕ) (ss : List Slot) (qs : List ℕ) → Every (λ q. q < n) qs
    → Every (IsPlace n) (state_places ss qs)
places_right n [] qs h = tt
places_right n (Hook b ∷ ss) qs h = ((refl, tt), places_right n ss qs h)
places_right n (Field f ∷ ss) [] h = tt
places_right n (Field f ∷ ss) (q ∷ qs) h = (((q, refl), (h.0, tt)), places_right n ss qs h.1)
places_right n (Link b ∷ ss) [] h = tt
places_right n (Link b ∷ ss) (q ∷ qs) h = (((q, refl), (h.0, tt)), places_right n ss qs h.1)

pub without_every : {X : Type 0} (P : X → Type 0) (p : ℕ) (xs : List X) → Every P xs → Every P (without p xs)
without_every P p [] h = tt
without_every P zero (x ∷ xs) h = h.1
without_every P (suc p) (x ∷ xs) h = (h.0, without_every P p xs h.1)

place_moved : (n : ℕ) (s : Slot) (qs : List ℕ) → IsPlaceAt s qs → IsPlaceAt s (map (shift n) qs)
place_moved n (Field f) qs h = (h.0 + n, ap (map (shift n)) h.1)
place_moved n (Link b) qs h = (h.0 + n, ap (map (shift n)) h.1)
place_moved n (Hook b) qs h = ap (map (shift n)) h

states_moved : (m n : ℕ) (qs : List ℕ) → Every (λ q. q < m) qs → Every (λ q. q < n + m) (map (shift n) qs)
states_moved m n [] h = tt
states_moved m n (q ∷ qs) h = (let k = h.0 in omega (arith, k), states_moved m n qs h.1)

pub places_moved : (m n : ℕ) (xs : List Place) → Every (IsPlace m) xs → Every (IsPlace (n + m)) (map (moved_place n) xs)
places_moved m n [] h = tt
places_moved m n (x ∷ xs) h =
    ((place_moved n x.0 x.1 h.0.0, states_moved m n x.1 h.0.1), places_moved m n xs h.1)

states_wider : (m n : ℕ) (qs : List ℕ) → Every (λ q. q < m) qs → Every (λ q. q < m + n) qs
states_wider m n [] h = tt
states_wider m n (q ∷ qs) h = (let k = h.0 in omega (arith, k), states_wider m n qs h.1)

pub places_wider : (m n : ℕ) (xs : List Place) → Every (IsPlace m) xs → Every (IsPlace (m + n)) xs
places_wider m n [] h = tt
places_wider m n (x ∷ xs) h = ((h.0.0, states_wider m n x.1 h.0.1), places_wider m n xs h.1)

-- Slots and children, told apart and put together.

abbrev pub slots_in : List Place → List Slot
slots_in xs = map (λ p. p.0) xs

abbrev pub states_in : List Place → List ℕ
states_in xs = flat_map (λ p. p.1) xs

one_place : (s : Slot) (qs : List ℕ) (ss : List Slot) (ps : List ℕ) → IsPlaceAt s qs
    → state_places (s ∷ ss) (qs ++ ps) ≡ (s, qs) ∷ state_places ss ps
one_place (Field f) qs ss ps h = rw h.1 refl
one_place (Link b) qs ss ps h = rw h.1 refl
one_place (Hook b) qs ss ps h = rw h refl

pub places_again : (n : ℕ) (xs : List Place) → Every (IsPlace n) xs → state_places (slots_in xs) (states_in xs) ≡ xs
places_again n [] h = refl
places_again n (x ∷ xs) h =
    one_place x.0 x.1 (slots_in xs) (states_in xs) h.0.0 ∙ ap (λ (z : List Place). x ∷ z) (places_again n xs h.1)

abbrev ArePlaces : List Slot → List ℕ → Type 0
ArePlaces ss qs = (slots_in (state_places ss qs) ≡ ss) × (states_in (state_places ss qs) ≡ qs)

pub places_apart : (ss : List Slot) (qs : List ℕ) → length qs ≡ child_slots ss → ArePlaces ss qs
places_apart [] [] e = (refl, refl)
places_apart [] (q ∷ qs) e = absurd (let z : suc (length qs) ≡ 0 = e in omega (arith, z))
places_apart (Hook b ∷ ss) qs e =
    let k = places_apart ss qs e in (ap (λ (z : List Slot). Hook b ∷ z) k.0, k.1)
places_apart (Field f ∷ ss) [] e = absurd (let z : 0 ≡ child_slots ss + 1 = e in omega (arith, z))
places_apart (Field f ∷ ss) (q ∷ qs) e =
    let k = places_apart ss qs (let z : suc (length qs) ≡ child_slots ss + 1 = e in omega (arith, z)) in
    (ap (λ (z : List Slot). Field f ∷ z) k.0, ap (λ (z : List ℕ). q ∷ z) k.1)
places_apart (Link b ∷ ss) [] e = absurd (let z : 0 ≡ child_slots ss + 1 = e in omega (arith, z))
places_apart (Link b ∷ ss) (q ∷ qs) e =
    let k = places_apart ss qs (let z : suc (length qs) ≡ child_slots ss + 1 = e in omega (arith, z)) in
    (ap (λ (z : List Slot). Link b ∷ z) k.0, ap (λ (z : List ℕ). q ∷ z) k.1)

one_long : (s : Slot) (qs : List ℕ) (k : ℕ) (ss : List Slot) → IsPlaceAt s qs → k ≡ child_slots ss → length qs + k
    ≡ child_slots (s ∷ ss)
one_long (Field f) qs k ss h e = let w = h.1 in rw w (omega (arith, e))
one_long (Link b) qs k ss h e = let w = h.1 in rw w (omega (arith, e))
one_long (Hook b) qs k ss h e = rw h (omega (arith, e))

pub places_long : (n : ℕ) (xs : List Place) → Every (IsPlace n) xs → length (states_in xs) ≡ child_slots (slots_in xs)
places_long n [] h = refl
places_long n (x ∷ xs) h =
    length-append x.1 (states_in xs)
    ∙ one_long x.0 x.1 (length (states_in xs)) (slots_in xs) h.0.0 (places_long n xs h.1)

pub places_below : (n : ℕ) (xs : List Place) → Every (IsPlace n) xs → Every (λ q. q < n) (states_in xs)
places_below n [] h = tt
places_below n (x ∷ xs) h = every_append (λ q. q < n) x.1 (states_in xs) h.0.1 (places_below n xs h.1)

-- Runs.

no_first : (rules : List Rule) (t : Tree) (ts : List Tree) → RunEach rules [] (t ∷ ts) → ⊥
no_first rules t ts h = elim h [ ]

module _ (rules : List Rule) where
  pub runs_places : (qs : List ℕ) (ps : Parts) → RunEach rules qs (bare_parts ps)
      → Paired (PlaceOf (RunOf rules)) (state_places (slots_of ps) qs) (listed ps)
  runs_places qs no_parts h = tt
  runs_places [] (field f e ps) h = absurd (no_first rules (bare_end e) (bare_parts ps) h)
  runs_places (q ∷ qs) (field f e ps) (run_more a b) = ((refl, q, refl, a), runs_places qs ps b)
  runs_places [] (link c i e ps) h = absurd (no_first rules (bare_end e) (bare_parts ps) h)
  runs_places (q ∷ qs) (link c i e ps) (run_more a b) = ((refl, q, refl, a), runs_places qs ps b)
  runs_places qs (hook c i ps) h = ((refl, refl), runs_places qs ps h)

  abbrev AreRuns : List Place → List Part → Type 0
  AreRuns xs ys = (slots_of (unlisted ys) ≡ slots_in xs) × RunEach rules (states_in xs) (bare_parts (unlisted ys))

  pub places_runs : (xs : List Place) (ys : List Part) → Paired (PlaceOf (RunOf rules)) xs ys → AreRuns xs ys
  places_runs [] [] h = (refl, run_none)
  places_runs [] (y ∷ ys) h = absurd h
  places_runs (x ∷ xs) [] h = absurd h
  places_runs (x ∷ xs) (FieldPart f e ∷ ys) h =
      let k = places_runs xs ys h.1 in (
        ap₂ (λ (s : Slot) (z : List Slot). s ∷ z) (sym h.0.0) k.0,
        subst (λ (z : List ℕ). RunEach rules (z ++ states_in xs) (bare_end e ∷ bare_parts (unlisted ys)))
            (sym h.0.2) (run_more h.0.3 k.1),
      )
  places_runs (x ∷ xs) (LinkPart b i e ∷ ys) h =
      let k = places_runs xs ys h.1 in (
        ap₂ (λ (s : Slot) (z : List Slot). s ∷ z) (sym h.0.0) k.0,
        subst (λ (z : List ℕ). RunEach rules (z ++ states_in xs) (bare_end e ∷ bare_parts (unlisted ys)))
            (sym h.0.2) (run_more h.0.3 k.1),
      )
  places_runs (x ∷ xs) (HookPart b i ∷ ys) h =
      let k = places_runs xs ys h.1 in (
        ap₂ (λ (s : Slot) (z : List Slot). s ∷ z) (sym h.0.0) k.0,
        subst (λ (z : List ℕ). RunEach rules (z ++ states_in xs) (bare_parts (unlisted ys))) (sym h.0.1) k.1,
      )

-- Another relation of states and trees.

-- each state of the place meets P
abbrev pub AllStates : (ℕ → Type 0) → Place → Type 0
AllStates P x = Every P x.1

pub states_low : (n : ℕ) (xs : List Place) → Every (IsPlace n) xs → Every (AllStates (λ q. q < n)) xs
states_low n [] h = tt
states_low n (x ∷ xs) h = (h.0.1, states_low n xs h.1)

pub states_each : (P : ℕ → Type 0) (ss : List Slot) (qs : List ℕ) → Every P qs
    → Every (AllStates P) (state_places ss qs)
states_each P [] qs h = tt
states_each P (Hook b ∷ ss) qs h = (tt, states_each P ss qs h)
states_each P (Field f ∷ ss) [] h = tt
states_each P (Field f ∷ ss) (q ∷ qs) h = ((h.0, tt), states_each P ss qs h.1)
states_each P (Link b ∷ ss) [] h = tt
states_each P (Link b ∷ ss) (q ∷ qs) h = ((h.0, tt), states_each P ss qs h.1)

module _ (P : ℕ → Type 0) (R Q : ℕ → Tree → Type 0) (turn : (q : ℕ) (t : Tree) → P q → R q t → Q q t) where
  one_turned : (q : ℕ) (qs : List ℕ) (t : Tree) → qs ≡ q ∷ [] → Every P qs → R q t → Q q t
  one_turned q qs t e h r = turn q t (subst (Every P) e h).0 r

  place_turned : (x : Place) (y : Part) → Every P x.1 → PlaceOf R x y → PlaceOf Q x y
  place_turned x (FieldPart f e) h r = (r.0, r.1, r.2, one_turned r.1 x.1 (bare_end e) r.2 h r.3)
  place_turned x (LinkPart b i e) h r = (r.0, r.1, r.2, one_turned r.1 x.1 (bare_end e) r.2 h r.3)
  place_turned x (HookPart b i) h r = r

  pub places_turned : (xs : List Place) (ys : List Part) → Every (AllStates P) xs → Paired (PlaceOf R) xs ys
      → Paired (PlaceOf Q) xs ys
  places_turned [] [] h r = tt
  places_turned [] (y ∷ ys) h r = absurd r
  places_turned (x ∷ xs) [] h r = absurd r
  places_turned (x ∷ xs) (y ∷ ys) h r = (place_turned x y h.0 r.0, places_turned xs ys h.1 r.1)

-- States with n added.

module _ (n : ℕ) (R Q : ℕ → Tree → Type 0) where
  module _ (turn : (q : ℕ) (t : Tree) → R (q + n) t → Q q t) where
    lowered : (s : Slot) (qs : List ℕ) (q : ℕ) (t : Tree) → ((k : ℕ) × (qs ≡ k ∷ [])) → map (shift n) qs ≡ q ∷ []
        → R q t
        → (k : ℕ) × (qs ≡ k ∷ []) × Q k t
    lowered s qs q t one e r =
        let w : one.0 + n ≡ q = ap head (ap (map (shift n)) (sym one.1) ∙ e) in
        (one.0, one.1, turn one.0 t (subst (λ (z : ℕ). R z t) (sym w) r))
      where
        head : List ℕ → ℕ
        head [] = 0
        head (k ∷ ks) = k

    none_left : (qs : List ℕ) → map (shift n) qs ≡ [] → qs ≡ []
    none_left [] e = refl
    none_left (q ∷ qs) e = absurd (more e)
      where
        is_more : List ℕ → Type 0
        is_more [] = ⊥
        is_more (k ∷ ks) = Unit {0}

        more : map (shift n) (q ∷ qs) ≡ [] → ⊥
        more w = subst is_more w tt

    one_of : (s : Slot) (qs : List ℕ) (f : ℕ) → IsPlaceAt s qs → s ≡ Field f → (k : ℕ) × (qs ≡ k ∷ [])
    one_of s qs f h e = subst (λ (z : Slot). IsPlaceAt z qs) e h

    one_link : (s : Slot) (qs : List ℕ) (b : ℕ) → IsPlaceAt s qs → s ≡ Link b → (k : ℕ) × (qs ≡ k ∷ [])
    one_link s qs b h e = subst (λ (z : Slot). IsPlaceAt z qs) e h

    place_lowered : (x : Place) (y : Part) → IsPlaceAt x.0 x.1 → PlaceOf R (moved_place n x) y → PlaceOf Q x y
    place_lowered x (FieldPart f e) h r =
        let k = lowered x.0 x.1 r.1 (bare_end e) (one_of x.0 x.1 f h r.0) r.2 r.3 in (r.0, k.0, k.1, k.2)
    place_lowered x (LinkPart b i e) h r =
        let k = lowered x.0 x.1 r.1 (bare_end e) (one_link x.0 x.1 b h r.0) r.2 r.3 in (r.0, k.0, k.1, k.2)
    place_lowered x (HookPart b i) h r = (r.0, none_left x.1 r.1)

    pub places_lowered : (m : ℕ) (xs : List Place) (ys : List Part) → Every (IsPlace m) xs
        → Paired (PlaceOf R) (map (moved_place n) xs) ys → Paired (PlaceOf Q) xs ys
    places_lowered m [] [] h r = tt
    places_lowered m [] (y ∷ ys) h r = absurd r
    places_lowered m (x ∷ xs) [] h r = absurd r
    places_lowered m (x ∷ xs) (y ∷ ys) h r = (place_lowered x y h.0.0 r.0, places_lowered m xs ys h.1 r.1)

  module _ (turn : (q : ℕ) (t : Tree) → Q q t → R (q + n) t) where
    place_raised : (x : Place) (y : Part) → PlaceOf Q x y → PlaceOf R (moved_place n x) y
    place_raised x (FieldPart f e) r = (r.0, r.1 + n, ap (map (shift n)) r.2, turn r.1 (bare_end e) r.3)
    place_raised x (LinkPart b i e) r = (r.0, r.1 + n, ap (map (shift n)) r.2, turn r.1 (bare_end e) r.3)
    place_raised x (HookPart b i) r = (r.0, ap (map (shift n)) r.1)

    pub places_raised : (xs : List Place) (ys : List Part) → Paired (PlaceOf Q) xs ys
        → Paired (PlaceOf R) (map (moved_place n) xs) ys
    places_raised [] [] r = tt
    places_raised [] (y ∷ ys) r = absurd r
    places_raised (x ∷ xs) [] r = absurd r
    places_raised (x ∷ xs) (y ∷ ys) r = (place_raised x y r.0, places_raised xs ys r.1)
