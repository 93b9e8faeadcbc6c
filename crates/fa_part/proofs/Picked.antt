-- Slots with a child that are picked: their runs, and the parts of trees that they are.
use Rattle.std.proofs.Common.{◌≡◌, ℕ, Bool, true, false, not, cond, List, [], ◌∷◌, ◌++◌, map, flat_map, refl, ap}
use Rattle.std.proofs.Common.{ap₂, ◌∙◌, append-nil, length, arith}
use Rattle.fore_base.specs.Lists.{Every}
use Rattle.ta_core.specs.Arity.{child_slots}
use Rattle.ta_core.specs.Language.{RunOf, RunEach, run_none, run_more}
use Rattle.ta_core.specs.declared.auto.Rule.{Rule}
use Rattle.ta_core.specs.declared.symbol.Slot.{Slot}
use Rattle.ta_core.specs.declared.symbol.Slot.TheVariants.{Field, Link, Hook}
use Rattle.ta_core.specs.declared.tree.Tree.{Tree}
use Rattle.fa_core.specs.Folding.{places, is_one_of, taken, left, place_refs}
use Rattle.fa_core.specs.References.{tree_refs}
use Rattle.fa_core.specs.Ways.{has}
use Rattle.fa_part.specs.inner.Edges.{picked, is_left}

abbrev pub items_in : {X : Type 0} → List (Slot × X) → List X
items_in es = map (λ e. e.1) es

abbrev pub slots_in : {X : Type 0} → List (Slot × X) → List Slot
slots_in es = map (λ e. e.0) es

module _ (rules : List Rule) where
  run_step : (b : Bool) (s : Slot) (q : ℕ) (t : Tree) (es : List (Slot × ℕ)) (us : List (Slot × Tree))
      → RunOf rules q t → RunEach rules (items_in es) (items_in us)
      → RunEach rules (items_in (cond b ((s, q) ∷ es) es)) (items_in (cond b ((s, t) ∷ us) us))
  run_step true s q t es us r k = run_more r k
  run_step false s q t es us r k = k

  -- what runs to the states runs to those that are picked
  pub runs_picked : (p : Slot → Bool) (ss : List Slot) {qs : List ℕ} {ts : List Tree} → RunEach rules qs ts
      → RunEach rules (items_in (picked p ss qs)) (items_in (picked p ss ts))
  runs_picked p [] h = run_none
  runs_picked p (Hook b ∷ ss) h = runs_picked p ss h
  runs_picked p (Field f ∷ ss) run_none = run_none
  runs_picked p (Field f ∷ ss) (run_more {q} {qs} {t} {ts} r rs) =
      run_step (p (Field f)) (Field f) q t (picked p ss qs) (picked p ss ts) r (runs_picked p ss rs)
  runs_picked p (Link b ∷ ss) run_none = run_none
  runs_picked p (Link b ∷ ss) (run_more {q} {qs} {t} {ts} r rs) =
      run_step (p (Link b)) (Link b) q t (picked p ss qs) (picked p ss ts) r (runs_picked p ss rs)

  -- the picked trees of a run may be any that run to their states
  abbrev Refills : (Slot → Bool) → List Slot → List ℕ → List Tree → Type 0
  Refills p ss qs us = (ws : List Tree) × RunEach rules qs ws × (items_in (picked p ss ws) ≡ us)

  put_step : (p : Slot → Bool) (s : Slot) (ss : List Slot) (b : Bool) (q : ℕ) (t : Tree) (qs : List ℕ) (us : List Tree)
      → RunOf rules q t → RunEach rules (items_in (cond b ((s, q) ∷ picked p ss qs) (picked p ss qs))) us
      → ((vs : List Tree) → RunEach rules (items_in (picked p ss qs)) vs → Refills p ss qs vs)
      → (w : Tree) × RunOf rules q w × ((ws : List Tree) × RunEach rules qs ws
      × (items_in (cond b ((s, w) ∷ picked p ss ws) (picked p ss ws)) ≡ us))
  put_step p s ss false q t qs us r k go = let m = go us k in (t, r, m)
  put_step p s ss true q t qs us r k go = here us k
    where
      here : (us : List Tree) → RunEach rules (q ∷ items_in (picked p ss qs)) us → (w : Tree) × RunOf rules q w
          × ((ws : List Tree) × RunEach rules qs ws × ((w ∷ items_in (picked p ss ws)) ≡ us))
      here us (run_more {t = u} {ts = vs} r k) =
          let m = go vs k in (u, r, (m.0, m.1, ap (λ (l : List Tree). u ∷ l) m.2))

  pub refilled : (p : Slot → Bool) (ss : List Slot) {qs : List ℕ} {ts : List Tree} → RunEach rules qs ts
      → (us : List Tree) → RunEach rules (items_in (picked p ss qs)) us → Refills p ss qs us
  refilled p [] {qs} {ts} h us run_none = (ts, h, refl)
  refilled p (Hook b ∷ ss) h us k = refilled p ss h us k
  refilled p (Field f ∷ ss) run_none us run_none = ([], run_none, refl)
  refilled p (Field f ∷ ss) (run_more {q} {qs} {t} {ts} r rs) us k =
      let m = put_step p (Field f) ss (p (Field f)) q t qs us r k (refilled p ss rs) in
      (m.0 ∷ m.2.0, run_more m.1 m.2.1, m.2.2)
  refilled p (Link b ∷ ss) run_none us run_none = ([], run_none, refl)
  refilled p (Link b ∷ ss) (run_more {q} {qs} {t} {ts} r rs) us k =
      let m = put_step p (Link b) ss (p (Link b)) q t qs us r k (refilled p ss rs) in
      (m.0 ∷ m.2.0, run_more m.1 m.2.1, m.2.2)

  slot_step : (b : Bool) (s : Slot) (q : ℕ) (t : Tree) (es : List (Slot × ℕ)) (us : List (Slot × Tree))
      → slots_in es ≡ slots_in us → slots_in (cond b ((s, q) ∷ es) es) ≡ slots_in (cond b ((s, t) ∷ us) us)
  slot_step true s q t es us e = ap (λ (l : List Slot). s ∷ l) e
  slot_step false s q t es us e = e

  -- the slots that are picked are those of the states
  pub picked_slots : (p : Slot → Bool) (ss : List Slot) {qs : List ℕ} {ts : List Tree} → RunEach rules qs ts
      → slots_in (picked p ss qs) ≡ slots_in (picked p ss ts)
  picked_slots p [] h = refl
  picked_slots p (Hook b ∷ ss) h = picked_slots p ss h
  picked_slots p (Field f ∷ ss) run_none = refl
  picked_slots p (Field f ∷ ss) (run_more {q} {qs} {t} {ts} r rs) =
      slot_step (p (Field f)) (Field f) q t (picked p ss qs) (picked p ss ts) (picked_slots p ss rs)
  picked_slots p (Link b ∷ ss) run_none = refl
  picked_slots p (Link b ∷ ss) (run_more {q} {qs} {t} {ts} r rs) =
      slot_step (p (Link b)) (Link b) q t (picked p ss qs) (picked p ss ts) (picked_slots p ss rs)

long_field : (b : Bool) (f q : ℕ) (es : List (Slot × ℕ)) → length (items_in es) ≡ child_slots (slots_in es)
    → length (items_in (cond b ((Field f, q) ∷ es) es)) ≡ child_slots (slots_in (cond b ((Field f, q) ∷ es) es))
long_field true f q es e = omega (arith, e)
long_field false f q es e = e

long_link : (b : Bool) (n q : ℕ) (es : List (Slot × ℕ)) → length (items_in es) ≡ child_slots (slots_in es)
    → length (items_in (cond b ((Link n, q) ∷ es) es)) ≡ child_slots (slots_in (cond b ((Link n, q) ∷ es) es))
long_link true n q es e = omega (arith, e)
long_link false n q es e = e

-- each slot that is picked has a child
pub picked_long : (p : Slot → Bool) (ss : List Slot) (qs : List ℕ) → length (items_in (picked p ss qs))
    ≡ child_slots (slots_in (picked p ss qs))
picked_long p [] qs = refl
picked_long p (Hook b ∷ ss) qs = picked_long p ss qs
picked_long p (Field f ∷ ss) [] = refl
picked_long p (Field f ∷ ss) (q ∷ qs) = long_field (p (Field f)) f q (picked p ss qs) (picked_long p ss qs)
picked_long p (Link b ∷ ss) [] = refl
picked_long p (Link b ∷ ss) (q ∷ qs) = long_link (p (Link b)) b q (picked p ss qs) (picked_long p ss qs)

every_step : (P : ℕ → Type 0) (b : Bool) (s : Slot) (q : ℕ) (es : List (Slot × ℕ)) → P q → Every P (items_in es)
    → Every P (items_in (cond b ((s, q) ∷ es) es))
every_step P true s q es h k = (h, k)
every_step P false s q es h k = k

-- a fact on all states is one on those that are picked
pub every_picked : (P : ℕ → Type 0) (p : Slot → Bool) (ss : List Slot) (qs : List ℕ) → Every P qs
    → Every P (items_in (picked p ss qs))
every_picked P p [] qs h = tt
every_picked P p (Hook b ∷ ss) qs h = every_picked P p ss qs h
every_picked P p (Field f ∷ ss) [] h = tt
every_picked P p (Field f ∷ ss) (q ∷ qs) h =
    every_step P (p (Field f)) (Field f) q (picked p ss qs) h.0 (every_picked P p ss qs h.1)
every_picked P p (Link b ∷ ss) [] h = tt
every_picked P p (Link b ∷ ss) (q ∷ qs) h =
    every_step P (p (Link b)) (Link b) q (picked p ss qs) h.0 (every_picked P p ss qs h.1)

-- Places of a tree: those that are taken, and what the others refer to.

abbrev pub single : Slot × Tree → Slot × List Tree
single e = (e.0, e.1 ∷ [])

abbrev All : Type 0
All = List (Slot × List Tree)

take_step : (b : Bool) (s : Slot) (t : Tree) (ps : All) (es : List (Slot × Tree)) → ps ≡ map single es
    → cond b ((s, t ∷ []) ∷ ps) ps ≡ map single (cond b ((s, t) ∷ es) es)
take_step true s t ps es e = ap (λ (l : All). (s, t ∷ []) ∷ l) e
take_step false s t ps es e = e

pub taken_are : (fs : List ℕ) (ss : List Slot) (ts : List Tree) → taken fs (places ss ts)
    ≡ map single (picked (is_one_of fs) ss ts)
taken_are fs [] ts = refl
taken_are fs (Hook b ∷ ss) ts = taken_are fs ss ts
taken_are fs (Field f ∷ ss) [] = refl
taken_are fs (Field f ∷ ss) (t ∷ ts) = take_step (has f fs) (Field f) t (taken fs (places ss ts))
    (picked (is_one_of fs) ss ts) (taken_are fs ss ts)
taken_are fs (Link b ∷ ss) [] = refl
taken_are fs (Link b ∷ ss) (t ∷ ts) = taken_are fs ss ts

-- the references of the picked trees
abbrev pub refs_in : List (Slot × Tree) → List ℕ
refs_in es = flat_map (λ e. tree_refs e.1) es

single_refs : (es : List (Slot × Tree)) → place_refs (map single es) ≡ refs_in es
single_refs [] = refl
single_refs (e ∷ es) = ap₂ (λ (x y : List ℕ). x ++ y) (append-nil (tree_refs e.1)) (single_refs es)

pub taken_refs : (fs : List ℕ) (ss : List Slot) (ts : List Tree) → place_refs (taken fs (places ss ts))
    ≡ refs_in (picked (is_one_of fs) ss ts)
taken_refs fs ss ts = ap place_refs (taken_are fs ss ts) ∙ single_refs (picked (is_one_of fs) ss ts)

left_step : (b : Bool) (s : Slot) (t : Tree) (ps : All) (es : List (Slot × Tree)) → place_refs ps ≡ refs_in es
    → place_refs (cond b ((s, t ∷ []) ∷ ps) ps) ≡ refs_in (cond b ((s, t) ∷ es) es)
left_step true s t ps es e = ap₂ (λ (x y : List ℕ). x ++ y) (append-nil (tree_refs t)) e
left_step false s t ps es e = e

pub left_refs_are : (fs : List ℕ) (ss : List Slot) (ts : List Tree) → place_refs (left fs (places ss ts))
    ≡ refs_in (picked (is_left fs) ss ts)
left_refs_are fs [] ts = refl
left_refs_are fs (Hook b ∷ ss) ts = left_refs_are fs ss ts
left_refs_are fs (Field f ∷ ss) [] = refl
left_refs_are fs (Field f ∷ ss) (t ∷ ts) = left_step (not (has f fs)) (Field f) t (left fs (places ss ts))
    (picked (is_left fs) ss ts) (left_refs_are fs ss ts)
left_refs_are fs (Link b ∷ ss) [] = refl
left_refs_are fs (Link b ∷ ss) (t ∷ ts) =
    left_step true (Link b) t (left fs (places ss ts)) (picked (is_left fs) ss ts) (left_refs_are fs ss ts)
