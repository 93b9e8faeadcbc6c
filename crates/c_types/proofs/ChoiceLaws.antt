-- Choices: more than are needed change nothing, and a run is starved at the step that needs the missing one.
use Rattle.std.proofs.Common.{◌≡◌, ◌≤◌, ◌<◌, ◌⊎◌, inl, inr, ℕ, zero, suc, ◌+◌, ◌-◌, Bool, true, false, List, [], ◌∷◌}
use Rattle.std.proofs.Common.{◌++◌, length, refl, sym, ap, ◌∙◌, subst, arith}
use Rattle.fore_base.specs.declared.shape.Shape.{Shape}
use Rattle.fore_base.specs.declared.store.Store.{Store}
use Rattle.c_types.specs.declared.mode.MallocMode.{MallocMode}
use Rattle.c_types.specs.declared.outcome.Outcome.{Outcome}
use Rattle.c_types.specs.declared.outcome.Outcome.TheVariants.{Ended, Starved, BadChoice, StillRunning}
use Rattle.c_types.specs.Program.{Program}
use Rattle.c_types.specs.Control.{Items, Done, opened}
use Rattle.c_types.specs.Control.{start_of}
use Rattle.c_types.specs.Steps.{Turn, Goes, Stops, Faults, turn_of, takes, mark_of}
use Rattle.c_types.specs.Runs.{supply, after_turn, unless_done, at_end, go, run, own_line, empty_store}
use Rattle.c_types.specs.Over.{IsStarved}

-- a run is over where no item is left, and goes on elsewhere
pub record IsAtEnd (is : Items) : Type 0 where
  pub ends : (step : ℕ) (o : Outcome) → unless_done is step o ≡ Ended step

pub record IsOpen (is : Items) : Type 0 where
  pub goes : (step : ℕ) (o : Outcome) → unless_done is step o ≡ o

pub end_or_open : (is : Items) → IsAtEnd is ⊎ IsOpen is
end_or_open Done = inl (record { ends = λ step o. refl })
end_or_open _ = inr (record { goes = λ step o. refl })

-- the rest of a run, given a choice, the choices that are left, and how many were used
abbrev Given : Type 0
Given = ℕ → List ℕ → ℕ → Outcome

module _ (shapes : List Shape) (mode : MallocMode) (line : ℕ → ℕ) where
  abbrev after : Items → ℕ → ℕ → Store → Given
  after is n step s x cs used =
      after_turn (turn_of shapes mode is s x) (line (mark_of is)) (step + 1)
      (λ js t. go shapes mode line at_end n (step + 1) js t cs used)

  abbrev step_of : Items → ℕ → ℕ → Store → List ℕ → ℕ → Outcome
  step_of is n step s cs used = supply (takes mode is) cs (step + 1) used (after is n step s)

  -- More choices

  more_after : (t : Turn) (at step : ℕ) (f g : Items → Store → Outcome)
      → ((js : Items) (u : Store) → (IsStarved (f js u) → ⊥) → g js u ≡ f js u)
      → (IsStarved (after_turn t at step f) → ⊥) → after_turn t at step g ≡ after_turn t at step f
  more_after (Goes js u) at step f g same some = same js u some
  more_after Stops at step f g same some = refl
  more_after (Faults k) at step f g same some = refl

  more_supplied : (b : Bool) (cs ds : List ℕ) (step used : ℕ) (f : Given)
      → ((x : ℕ) (es : List ℕ) (u : ℕ) → (IsStarved (f x es u) → ⊥) → f x (es ++ ds) u ≡ f x es u)
      → (IsStarved (supply b cs step used f) → ⊥) → supply b (cs ++ ds) step used f ≡ supply b cs step used f
  more_supplied false cs ds step used f same some = same 0 cs used some
  more_supplied true [] ds step used f same some = absurd (some tt)
  more_supplied true (zero ∷ cs) ds step used f same some = same 0 cs (used + 1) some
  more_supplied true (suc zero ∷ cs) ds step used f same some = same 1 cs (used + 1) some
  more_supplied true (suc (suc n) ∷ cs) ds step used f same some = refl

  pub more_choices : (n step : ℕ) (is : Items) (s : Store) (cs ds : List ℕ) (used : ℕ)
      → (IsStarved (go shapes mode line at_end n step is s cs used) → ⊥)
      → go shapes mode line at_end n step is s (cs ++ ds) used
      ≡ go shapes mode line at_end n step is s cs used
  more_choices zero step is s cs ds used some = refl
  more_choices (suc n) step is s cs ds used some =
      here (end_or_open (opened is)) (λ js t es u. more_choices n (step + 1) js t es ds u)
    where
      here : IsAtEnd (opened is) ⊎ IsOpen (opened is)
          → ((js : Items) (t : Store) (es : List ℕ) (u : ℕ)
          → (IsStarved (go shapes mode line at_end n (step + 1) js t es u) → ⊥)
          → go shapes mode line at_end n (step + 1) js t (es ++ ds) u
          ≡ go shapes mode line at_end n (step + 1) js t es u)
          → go shapes mode line at_end (suc n) step is s (cs ++ ds) used
          ≡ go shapes mode line at_end (suc n) step is s cs used
      here (inl e) later = e.ends step (step_of (opened is) n step s (cs ++ ds) used)
          ∙ sym (e.ends step (step_of (opened is) n step s cs used))
      here (inr o) later =
          o.goes step (step_of (opened is) n step s (cs ++ ds) used)
          ∙ more_supplied (takes mode (opened is)) cs ds (step + 1) used (after (opened is) n step s)
          (λ x es u. more_after (turn_of shapes mode (opened is) s x) (line (mark_of (opened is))) (step + 1) _ _
          (λ js t. later js t es u))
          (λ starved. some (subst IsStarved (sym (o.goes step (step_of (opened is) n step s cs used))) starved))
          ∙ sym (o.goes step (step_of (opened is) n step s cs used))

  -- A missing choice

  -- the run is starved at the step after `before` steps, whatever follows the choices: it gets there, and reads the
  -- next choice there
  pub record StarvedAt (n step : ℕ) (is : Items) (s : Store) (cs : List ℕ) (used met : ℕ) : Type 0 where
    pub before : ℕ
    pub is_step : met ≡ suc (step + before)
    pub within : before < n
    pub gets_there : (more : List ℕ) → go shapes mode line at_end before step is s (cs ++ more) used ≡ StillRunning
    pub reads : (k m : ℕ) (more : List ℕ) → before < m
        → go shapes mode line at_end m step is s (cs ++ suc (suc k) ∷ more) used ≡ BadChoice (used + length cs)

  -- the same, of one step: `f` is the rest of a run, `after` some steps
  abbrev Later : ℕ → ℕ → List ℕ → ℕ → ℕ → (ℕ → List ℕ → Outcome) → Type 0
  Later n step cs used met f = (before : ℕ) × (met ≡ suc (step + before)) × (before < n)
      × ((more : List ℕ) → f before (cs ++ more) ≡ StillRunning)
      × ((k m : ℕ) (more : List ℕ) → before < m → f m (cs ++ suc (suc k) ∷ more) ≡ BadChoice (used + length cs))

  later_after : (t : Turn) (at n step : ℕ) (cs : List ℕ) (used met : ℕ) (f : ℕ → Items → Store → List ℕ → Outcome)
      → ((js : Items) (u : Store) → f n js u cs ≡ Starved met → Later n (step + 1) cs used met (λ k es. f k js u es))
      → after_turn t at (step + 1) (λ js u. f n js u cs) ≡ Starved met
      → Later n (step + 1) cs used met (λ k es. after_turn t at (step + 1) (λ js u. f k js u es))
  later_after (Goes js u) at n step cs used met f rest e = rest js u e
  later_after Stops at n step cs used met f rest e = cc
  later_after (Faults k) at n step cs used met f rest e = cc

  abbrev Found : ℕ → ℕ → Items → Store → List ℕ → ℕ → ℕ → Type 0
  Found n step is s cs used met = Later n step cs used met (λ k es. go shapes mode line at_end k step is s es used)

  found : (n step : ℕ) (is : Items) (s : Store) (cs : List ℕ) (used met : ℕ) → Found n step is s cs used met
      → StarvedAt n step is s cs used met
  found n step is s cs used met f = record { before = f.0; is_step = f.1; within = f.2; gets_there = f.3; reads = f.4 }

  lost : (n step : ℕ) (is : Items) (s : Store) (cs : List ℕ) (used met : ℕ) → StarvedAt n step is s cs used met
      → Found n step is s cs used met
  lost n step is s cs used met r = (r.before, r.is_step, r.within, r.gets_there, r.reads)

  end_starves : (is : Items) (step met : ℕ) → at_end is step ≡ Starved met → ⊥
  end_starves is step met e = here (end_or_open is)
    where
      here : IsAtEnd is ⊎ IsOpen is → ⊥
      here (inl d) = let wrong : Ended step ≡ Starved met = sym (d.ends step StillRunning) ∙ e in cc
      here (inr o) = let wrong : StillRunning ≡ Starved met = sym (o.goes step StillRunning) ∙ e in cc

  module _ (n step : ℕ) (is : Items) (s : Store) (met : ℕ) (o : IsOpen (opened is))
      (rest : (js : Items) (t : Store) (es : List ℕ) (u : ℕ) → go shapes mode line at_end n (step + 1) js t es u
      ≡ Starved met → StarvedAt n (step + 1) js t es u met) where
    goes : (k : ℕ) (es : List ℕ) (used : ℕ) → go shapes mode line at_end (suc k) step is s es used
        ≡ step_of (opened is) k step s es used
    goes k es used = o.goes step (step_of (opened is) k step s es used)

    turned : (x : ℕ) (cs : List ℕ) (used : ℕ) → after (opened is) n step s x cs used ≡ Starved met
        → Later n (step + 1) cs used met (λ k es. after (opened is) k step s x es used)
    turned x cs used e = later_after (turn_of shapes mode (opened is) s x)
        (line (mark_of (opened is))) n step cs used met
        (λ k js t es. go shapes mode line at_end k (step + 1) js t es used)
        (λ js t f. lost n (step + 1) js t cs used met (rest js t cs used f)) e

    -- one step before what comes later
    earlier : (x : ℕ) (cs front : List ℕ) (used more_used : ℕ)
        → ((k : ℕ) (es : List ℕ) → step_of (opened is) k step s (front ++ es) used
        ≡ after (opened is) k step s x es more_used) → ((es : List ℕ) → front ++ (cs ++ es) ≡ (front ++ cs) ++ es)
        → more_used + length cs ≡ used + length (front ++ cs)
        → Later n (step + 1) cs more_used met (λ k es. after (opened is) k step s x es more_used)
        → StarvedAt (suc n) step is s (front ++ cs) used met
    earlier x cs front used more_used same joins counted l = record {
      before = suc l.0;
      is_step = omega (arith, l.1);
      within = omega (arith, l.2);
      gets_there = λ more. goes l.0 ((front ++ cs) ++ more) used
          ∙ ap (λ es. step_of (opened is) l.0 step s es used) (sym (joins more)) ∙ same l.0 (cs ++ more) ∙ l.3 more;
      reads = λ k m more less. reads_later k m more less;
    }
      where
        reads_later : (k m : ℕ) (more : List ℕ) → suc l.0 < m
            → go shapes mode line at_end m step is s ((front ++ cs) ++ suc (suc k) ∷ more) used
            ≡ BadChoice (used + length (front ++ cs))
        reads_later k zero more less = absurd (omega (arith, less))
        reads_later k (suc m) more less =
            goes m ((front ++ cs) ++ suc (suc k) ∷ more) used
            ∙ ap (λ es. step_of (opened is) m step s es used) (sym (joins (suc (suc k) ∷ more)))
            ∙ same m (cs ++ suc (suc k) ∷ more)
            ∙ l.4 k m more (omega (arith, less))
            ∙ ap BadChoice counted

    by_supply : (b : Bool) → takes mode (opened is) ≡ b → (cs : List ℕ) (used : ℕ)
        → supply b cs (step + 1) used (after (opened is) n step s) ≡ Starved met
        → StarvedAt (suc n) step is s cs used met
    by_supply false none cs used e =
        earlier 0 cs [] used used (λ k es. ap (λ b. supply b es (step + 1) used (after (opened is) k step s)) none)
        (λ es. refl) refl (turned 0 cs used e)
    by_supply true some [] used e = record {
      before = 0;
      is_step = let at : Starved (step + 1) ≡ Starved met = e in let same : step + 1 ≡ met = cc in omega (arith, same);
      within = omega arith;
      gets_there = λ more. o.goes step StillRunning;
      reads = λ k m more less. reads_now k m more less;
    }
      where
        reads_now : (k m : ℕ) (more : List ℕ) → 0 < m → go shapes mode line at_end m step is s (suc (suc k) ∷ more) used
            ≡ BadChoice (used + 0)
        reads_now k zero more less = absurd (omega (arith, less))
        reads_now k (suc m) more less =
            goes m (suc (suc k) ∷ more) used
            ∙ ap (λ b. supply b (suc (suc k) ∷ more) (step + 1) used (after (opened is) m step s)) some
            ∙ ap BadChoice (omega arith)
    by_supply true some (zero ∷ cs) used e =
        earlier 0 cs (0 ∷ []) used (used + 1)
        (λ k es. ap (λ b. supply b (0 ∷ es) (step + 1) used (after (opened is) k step s)) some) (λ es. refl)
        (omega arith) (turned 0 cs (used + 1) e)
    by_supply true some (suc zero ∷ cs) used e =
        earlier 1 cs (1 ∷ []) used (used + 1)
        (λ k es. ap (λ b. supply b (1 ∷ es) (step + 1) used (after (opened is) k step s)) some) (λ es. refl)
        (omega arith) (turned 1 cs (used + 1) e)
    by_supply true some (suc (suc k) ∷ cs) used e = cc

  pub starved_at : (n step : ℕ) (is : Items) (s : Store) (cs : List ℕ) (used met : ℕ)
      → go shapes mode line at_end n step is s cs used ≡ Starved met → StarvedAt n step is s cs used met
  starved_at zero step is s cs used met e = absurd (end_starves (opened is) step met e)
  starved_at (suc n) step is s cs used met e =
      here (end_or_open (opened is)) (λ js t es u. starved_at n (step + 1) js t es u met)
    where
      here : IsAtEnd (opened is) ⊎ IsOpen (opened is)
          → ((js : Items) (t : Store) (es : List ℕ) (u : ℕ) → go shapes mode line at_end n (step + 1) js t es u
          ≡ Starved met
          → StarvedAt n (step + 1) js t es u met) → StarvedAt (suc n) step is s cs used met
      here (inl d) later =
          let wrong : Ended step ≡ Starved met = sym (d.ends step (step_of (opened is) n step s cs used)) ∙ e in cc
      here (inr o) later = by_supply n step is s met o later (takes mode (opened is)) refl cs used
          (sym (o.goes step (step_of (opened is) n step s cs used)) ∙ e)

-- Runs

pub run_more : (p : Program) (mode : MallocMode) (cs ds : List ℕ) (n : ℕ) → (IsStarved (run p mode cs n) → ⊥)
    → run p mode (cs ++ ds) n ≡ run p mode cs n
unfolding run
run_more p mode cs ds n some =
    more_choices p.shapes.structs mode own_line n 0 (start_of p)
    (empty_store (length p.vars) (length p.data_vars)) cs ds 0
    some

two_more : (bad : ℕ) → 2 ≤ bad → (P : ℕ → Type 0) → ((k : ℕ) → P (suc (suc k))) → P bad
two_more zero less P all = absurd (omega (arith, less))
two_more (suc zero) less P all = absurd (omega (arith, less))
two_more (suc (suc k)) less P all = all k

pub run_starved : (p : Program) (mode : MallocMode) (cs : List ℕ) (n step : ℕ) → run p mode cs n ≡ Starved step →
    (1 ≤ step) × (step ≤ n) × ((more : List ℕ) → run p mode (cs ++ more) (step - 1) ≡ StillRunning)
    × ((more : List ℕ) (bad m : ℕ) → 2 ≤ bad → step ≤ m → run p mode (cs ++ bad ∷ more) m ≡ BadChoice (length cs))
unfolding run
run_starved p mode cs n step e =
    let s : Store = empty_store (length p.vars) (length p.data_vars) in
    let at : StarvedAt p.shapes.structs mode own_line n 0 (start_of p) s cs 0 step =
    starved_at p.shapes.structs mode own_line n 0 (start_of p) s cs 0 step e in
    let before_is : at.before ≡ step - 1 = omega (arith, at.is_step) in (
      omega (arith, at.is_step),
      omega (arith, at.is_step, at.within),
      λ more. subst (λ k. go p.shapes.structs mode own_line at_end k 0 (start_of p) s (cs ++ more) 0 ≡ StillRunning)
          before_is (at.gets_there more),
      λ more bad m some less. two_more bad some
          (λ b. go p.shapes.structs mode own_line at_end m 0 (start_of p) s (cs ++ b ∷ more) 0 ≡ BadChoice (length cs))
          (λ k. at.reads k m more (omega (arith, at.is_step, less)) ∙ ap BadChoice (omega arith)),
    )
