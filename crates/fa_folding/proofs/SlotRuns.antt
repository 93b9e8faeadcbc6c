-- Runs below a cell, slot by slot: slots with the states of their children, and with their trees.
use Rattle.std.proofs.Common.{◌≡◌, ℕ, suc, ◌+◌, Bool, true, false, true≢false, cond, length, List, [], ◌∷◌, ◌++◌}
use Rattle.std.proofs.Common.{map, filter, flat_map, refl, sym, ap, ap₂, subst, ◌∙◌, arith}
use Rattle.fore_base.specs.Lists.{Every, Paired}
use Rattle.ta_core.specs.Arity.{child_slots}
use Rattle.ta_core.specs.Language.{RunOf, RunEach, run_none, run_more}
use Rattle.ta_core.specs.declared.auto.Rule.{Rule}
use Rattle.ta_core.specs.declared.symbol.Slot.{Slot}
use Rattle.ta_core.specs.declared.symbol.Slot.TheVariants.{Field, Link, Hook}
use Rattle.ta_core.specs.declared.tree.Tree.{Tree}
use Rattle.fa_core.specs.Folding.{places}
use Rattle.fa_unfold.specs.Slots.{state_places}

-- a slot with its child, if it has one
abbrev pub Grown : Type 0
Grown = Slot × List Tree

abbrev pub all_slots : {X : Type 0} → List (Slot × List X) → List Slot
all_slots xs = map (λ p. p.0) xs

abbrev pub all_items : {X : Type 0} → List (Slot × List X) → List X
all_items xs = flat_map (λ p. p.1) xs

-- one slot, and the trees have runs to the states
abbrev pub SlotRuns : List Rule → (Slot × List ℕ) → Grown → Type 0
SlotRuns rules x y = (x.0 ≡ y.0) × RunEach rules x.1 y.1

-- Lists of runs.

pub runs_none : (rules : List Rule) (ts : List Tree) → RunEach rules [] ts → ts ≡ []
runs_none rules [] h = refl
runs_none rules (t ∷ ts) h = elim h [ ]

abbrev pub OneRun : List Rule → ℕ → List Tree → Type 0
OneRun rules q ts = (t : Tree) × (ts ≡ t ∷ []) × RunOf rules q t

pub runs_one : (rules : List Rule) (q : ℕ) (ts : List Tree) → RunEach rules (q ∷ []) ts → OneRun rules q ts
runs_one rules q [] h = elim h [ ]
runs_one rules q (t ∷ ts) (run_more r rs) = (t, ap (λ (z : List Tree). t ∷ z) (runs_none rules ts rs), r)

module _ (rules : List Rule) where
  runs_both : (ps qs : List ℕ) (us vs : List Tree) → RunEach rules ps us → RunEach rules qs vs
      → RunEach rules (ps ++ qs) (us ++ vs)
  runs_both [] qs us vs h k = subst (λ (z : List Tree). RunEach rules qs (z ++ vs)) (sym (runs_none rules us h)) k
  runs_both (p ∷ ps) qs [] vs h k = elim h [ ]
  runs_both (p ∷ ps) qs (u ∷ us) vs (run_more r rs) k = run_more r (runs_both ps qs us vs rs k)

  abbrev Parted : List ℕ → List ℕ → List Tree → Type 0
  Parted ps qs ts = (us vs : List Tree) × (ts ≡ us ++ vs) × RunEach rules ps us × RunEach rules qs vs

  runs_parts : (ps qs : List ℕ) (ts : List Tree) → RunEach rules (ps ++ qs) ts → Parted ps qs ts
  runs_parts [] qs ts h = ([], ts, refl, run_none, h)
  runs_parts (p ∷ ps) qs [] h = elim h [ ]
  runs_parts (p ∷ ps) qs (t ∷ ts) (run_more r rs) =
      let w = runs_parts ps qs ts rs in
      (t ∷ w.0, w.1, ap (λ (z : List Tree). t ∷ z) w.2, run_more r w.3, w.4)

  -- the runs below a cell with these slots
  pub slots_run : (xs : List (Slot × List ℕ)) (ys : List Grown) → Paired (SlotRuns rules) xs ys
      → (all_slots xs ≡ all_slots ys) × RunEach rules (all_items xs) (all_items ys)
  slots_run [] [] h = (refl, run_none)
  slots_run [] (y ∷ ys) h = absurd h
  slots_run (x ∷ xs) [] h = absurd h
  slots_run (x ∷ xs) (y ∷ ys) h =
      let k = slots_run xs ys h.1 in (
        ap₂ (λ (s : Slot) (z : List Slot). s ∷ z) h.0.0 k.0,
        runs_both x.1 (all_items xs) y.1 (all_items ys) h.0.1 k.1,
      )

  abbrev Taken : List (Slot × List ℕ) → List Tree → Type 0
  Taken xs ts = (ys : List Grown) × Paired (SlotRuns rules) xs ys × (all_items ys ≡ ts)

  -- told apart by the slots
  pub run_slots : (xs : List (Slot × List ℕ)) (ts : List Tree) → RunEach rules (all_items xs) ts → Taken xs ts
  run_slots [] ts h = ([], tt, sym (runs_none rules ts h))
  run_slots (x ∷ xs) ts h =
      let w = runs_parts x.1 (all_items xs) ts h in
      let k = run_slots xs w.1 w.4 in
      ((x.0, w.0) ∷ k.0, ((refl, w.3), k.1), ap (λ (z : List Tree). w.0 ++ z) k.2 ∙ sym w.2)

  -- the slots of a rule and those of its tree
  pub places_run : (ss : List Slot) (qs : List ℕ) (ts : List Tree) → RunEach rules qs ts
      → Paired (SlotRuns rules) (state_places ss qs) (places ss ts)
  places_run [] qs ts h = tt
  places_run (Hook b ∷ ss) qs ts h = ((refl, run_none), places_run ss qs ts h)
  places_run (Field f ∷ ss) [] [] h = tt
  places_run (Field f ∷ ss) [] (t ∷ ts) h = elim h [ ]
  places_run (Field f ∷ ss) (q ∷ qs) [] h = elim h [ ]
  places_run (Field f ∷ ss) (q ∷ qs) (t ∷ ts) (run_more r rs) = ((refl, run_more r run_none), places_run ss qs ts rs)
  places_run (Link b ∷ ss) [] [] h = tt
  places_run (Link b ∷ ss) [] (t ∷ ts) h = elim h [ ]
  places_run (Link b ∷ ss) (q ∷ qs) [] h = elim h [ ]
  places_run (Link b ∷ ss) (q ∷ qs) (t ∷ ts) (run_more r rs) = ((refl, run_more r run_none), places_run ss qs ts rs)

  -- Those of some slots.

  module _ (p : Slot → Bool) where
    pub filter_run : (xs : List (Slot × List ℕ)) (ys : List Grown) → Paired (SlotRuns rules) xs ys
        → Paired (SlotRuns rules) (filter (λ x. p x.0) xs) (filter (λ y. p y.0) ys)
    filter_run [] [] h = tt
    filter_run [] (y ∷ ys) h = absurd h
    filter_run (x ∷ xs) [] h = absurd h
    filter_run (x ∷ xs) (y ∷ ys) h = here (p x.0) (p y.0) (ap p h.0.0) (filter_run xs ys h.1)
      where
        here : (a b : Bool) → a ≡ b → Paired (SlotRuns rules) (filter (λ x. p x.0) xs) (filter (λ y. p y.0) ys)
            → Paired (SlotRuns rules) (cond a (x ∷ filter (λ x. p x.0) xs) (filter (λ x. p x.0) xs))
            (cond b (y ∷ filter (λ y. p y.0) ys) (filter (λ y. p y.0) ys))
        here true true e k = (h.0, k)
        here true false e k = absurd (true≢false e)
        here false true e k = absurd (true≢false (sym e))
        here false false e k = k

    abbrev Filled : List (Slot × List ℕ) → List Grown → Type 0
    Filled xs zs = (ws : List Grown) × Paired (SlotRuns rules) xs ws × (filter (λ y. p y.0) ws ≡ zs)

    -- other trees at these slots
    pub refill : (xs : List (Slot × List ℕ)) (ys zs : List Grown) → Paired (SlotRuns rules) xs ys
        → Paired (SlotRuns rules) (filter (λ x. p x.0) xs) zs → Filled xs zs
    refill [] [] [] h k = ([], tt, refl)
    refill [] [] (z ∷ zs) h k = absurd k
    refill [] (y ∷ ys) zs h k = absurd h
    refill (x ∷ xs) [] zs h k = absurd h
    refill (x ∷ xs) (y ∷ ys) zs h k = here (p x.0) refl zs k (λ us w. refill xs ys us h.1 w)
      where
        here : (a : Bool) → p x.0 ≡ a → (zs : List Grown)
            → Paired (SlotRuns rules) (cond a (x ∷ filter (λ x. p x.0) xs) (filter (λ x. p x.0) xs)) zs
            → ((us : List Grown) → Paired (SlotRuns rules) (filter (λ x. p x.0) xs) us → Filled xs us)
            → Filled (x ∷ xs) zs
        here true e [] k rec = absurd k
        here true e (z ∷ zs) k rec =
            let r = rec zs k.1 in
            let q : p z.0 ≡ true = ap p (sym k.0.0) ∙ e in
            (z ∷ r.0, (k.0, r.1), rw q (ap (λ (w : List Grown). z ∷ w) r.2))
        here false e zs k rec =
            let r = rec zs k in
            let q : p y.0 ≡ false = ap p (sym h.0.0) ∙ e in
            (y ∷ r.0, (h.0, r.1), rw q r.2)

  -- The slots of a rule again.

  grown_is : (w : Grown) (s : Slot) (ts : List Tree) → s ≡ w.0 → w.1 ≡ ts → w ≡ (s, ts)
  grown_is w s ts e k = ap₂ (λ (x : Slot) (y : List Tree). (x, y)) (sym e) k

  abbrev Again : List Slot → List ℕ → List Grown → Type 0
  Again ss qs ws = (places ss (all_items ws) ≡ ws) × RunEach rules qs (all_items ws)

  pub places_again : (ss : List Slot) (qs : List ℕ) (ws : List Grown) → length qs ≡ child_slots ss
      → Paired (SlotRuns rules) (state_places ss qs) ws → Again ss qs ws
  places_again [] [] [] l h = (refl, run_none)
  places_again [] [] (w ∷ ws) l h = absurd h
  places_again [] (q ∷ qs) ws l h = absurd (let z : suc (length qs) ≡ 0 = l in omega (arith, z))
  places_again (Hook b ∷ ss) qs [] l h = absurd h
  places_again (Hook b ∷ ss) qs (w ∷ ws) l h =
      let k = places_again ss qs ws l h.1 in
      let e = grown_is w (Hook b) [] h.0.0 (runs_none rules w.1 h.0.1) in
      subst (λ (v : Grown). Again (Hook b ∷ ss) qs (v ∷ ws)) (sym e)
      (ap (λ (z : List Grown). (Hook b, []) ∷ z) k.0, k.1)
  places_again (Field f ∷ ss) [] ws l h = absurd (let z : 0 ≡ child_slots ss + 1 = l in omega (arith, z))
  places_again (Field f ∷ ss) (q ∷ qs) [] l h = absurd h
  places_again (Field f ∷ ss) (q ∷ qs) (w ∷ ws) l h =
      let k = places_again ss qs ws (let z : suc (length qs) ≡ child_slots ss + 1 = l in omega (arith, z)) h.1 in
      let o = runs_one rules q w.1 h.0.1 in
      let e = grown_is w (Field f) (o.0 ∷ []) h.0.0 o.1 in
      subst (λ (v : Grown). Again (Field f ∷ ss) (q ∷ qs) (v ∷ ws)) (sym e)
      (ap (λ (z : List Grown). (Field f, o.0 ∷ []) ∷ z) k.0, run_more o.2 k.1)
  places_again (Link b ∷ ss) [] ws l h = absurd (let z : 0 ≡ child_slots ss + 1 = l in omega (arith, z))
  places_again (Link b ∷ ss) (q ∷ qs) [] l h = absurd h
  places_again (Link b ∷ ss) (q ∷ qs) (w ∷ ws) l h =
      let k = places_again ss qs ws (let z : suc (length qs) ≡ child_slots ss + 1 = l in omega (arith, z)) h.1 in
      let o = runs_one rules q w.1 h.0.1 in
      let e = grown_is w (Link b) (o.0 ∷ []) h.0.0 o.1 in
      subst (λ (v : Grown). Again (Link b ∷ ss) (q ∷ qs) (v ∷ ws)) (sym e)
      (ap (λ (z : List Grown). (Link b, o.0 ∷ []) ∷ z) k.0, run_more o.2 k.1)

-- Runs of other rules.

module _ (P : ℕ → Type 0) (rules others : List Rule)
    (turn : (qs : List ℕ) (ts : List Tree) → Every P qs → RunEach rules qs ts → RunEach others qs ts) where
  pub slots_turned : (xs : List (Slot × List ℕ)) (ys : List Grown) → Every (λ x. Every P x.1) xs
      → Paired (SlotRuns rules) xs ys → Paired (SlotRuns others) xs ys
  slots_turned [] [] l h = tt
  slots_turned [] (y ∷ ys) l h = absurd h
  slots_turned (x ∷ xs) [] l h = absurd h
  slots_turned (x ∷ xs) (y ∷ ys) l h = ((h.0.0, turn x.1 y.1 l.0 h.0.1), slots_turned xs ys l.1 h.1)
