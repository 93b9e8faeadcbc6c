-- A step of a run either decides it, whatever follows, or goes on alike, whatever follows.
use Rattle.std.proofs.Common.{◌≡◌, ◌≤◌, ◌⊎◌, inl, inr, ℕ, zero, suc, ◌+◌, Bool, true, false, List, [], ◌∷◌, refl, sym}
use Rattle.std.proofs.Common.{◌∙◌, subst, arith}
use Rattle.fore_base.specs.declared.fault.Fault.{Fault as Kind}
use Rattle.fore_base.specs.declared.shape.Shape.{Shape}
use Rattle.fore_base.specs.declared.store.Store.{Store}
use Rattle.c_types.specs.declared.mode.MallocMode.{MallocMode}
use Rattle.c_types.specs.declared.outcome.Outcome.{Outcome}
use Rattle.c_types.specs.declared.outcome.Outcome.TheVariants.{Ended, Fault, Starved, BadChoice, StillRunning}
use Rattle.c_types.specs.Control.{Items, Done, Do, Close, If, Loop, Again, DoLoop, DoAgain, Enter, Leave, Exit, opened}
use Rattle.c_types.specs.Steps.{Turn, Goes, Stops, Faults, turn_of, takes, mark_of}
use Rattle.c_types.specs.Runs.{supply, after_turn, at_end, advance, go}
use Rattle.c_types.specs.Over.{IsOver}

-- what a run does after a step
abbrev pub Rest : Type 0
Rest = ℕ → Items → Store → List ℕ → ℕ → Outcome

-- the outcome is over, and a fault has this step's number
abbrev pub DecidedAt : ℕ → Outcome → Type 0
DecidedAt step (Ended n) = Unit {0}
DecidedAt step (Fault kind line n) = n ≡ step
DecidedAt step (Starved n) = Unit {0}
DecidedAt step (BadChoice index) = Unit {0}
DecidedAt step StillRunning = ⊥

pub decided_over : (step : ℕ) (o : Outcome) → DecidedAt step o → IsOver o
decided_over step StillRunning h = h
decided_over step _ h = tt

-- a function of the rest of a run that ignores it
pub record Decides (step : ℕ) (f : Rest → Outcome) : Type 0 where
  pub outcome : Outcome
  pub decided : DecidedAt step outcome
  pub is : (next : Rest) → f next ≡ outcome

-- or that goes on with it, at this step
pub record GoesOn (step : ℕ) (f : Rest → Outcome) : Type 0 where
  pub items : Items
  pub store : Store
  pub choices : List ℕ
  pub used : ℕ
  pub is : (next : Rest) → f next ≡ next step items store choices used

abbrev pub Advances : ℕ → (Rest → Outcome) → Type 0
Advances step f = Decides step f ⊎ GoesOn step f

turn_advances : (t : Turn) (line step : ℕ) (ds : List ℕ) (u : ℕ)
    → Advances step (λ next. after_turn t line step (λ js s. next step js s ds u))
turn_advances (Goes is s) line step ds u =
    inr (record { items = is; store = s; choices = ds; used = u; is = λ next. refl })
turn_advances Stops line step ds u = inl (record { outcome = Ended step; decided = tt; is = λ next. refl })
turn_advances (Faults k) line step ds u =
    inl (record { outcome = Fault k line step; decided = refl; is = λ next. refl })

supply_advances : (t : ℕ → Turn) (line step : ℕ) (b : Bool) (cs : List ℕ) (used : ℕ)
    → Advances step (λ next. supply b cs step used (λ x ds u. after_turn (t x) line step (λ js s. next step js s ds u)))
supply_advances t line step false cs used = turn_advances (t 0) line step cs used
supply_advances t line step true [] used = inl (record { outcome = Starved step; decided = tt; is = λ next. refl })
supply_advances t line step true (zero ∷ cs) used = turn_advances (t 0) line step cs (used + 1)
supply_advances t line step true (suc zero ∷ cs) used = turn_advances (t 1) line step cs (used + 1)
supply_advances t line step true (suc (suc n) ∷ cs) used =
    inl (record { outcome = BadChoice used; decided = tt; is = λ next. refl })

module _ (shapes : List Shape) (mode : MallocMode) (line : ℕ → ℕ) where
  -- a step of an opened list
  pub advances : (is : Items) (step : ℕ) (s : Store) (cs : List ℕ) (used : ℕ)
      → Advances (step + 1) (λ next. advance shapes mode line at_end is next step s cs used)
  advances Done step s cs used = inl (record { outcome = Ended step; decided = tt; is = λ next. refl })
  advances (Do a m is) step s cs used =
      supply_advances (turn_of shapes mode (Do a m is) s) (line m) (step + 1) (takes mode (Do a m is)) cs used
  advances (Close ps ds m is) step s cs used =
      supply_advances (turn_of shapes mode (Close ps ds m is) s) (line m) (step + 1) false cs used
  advances (If c x y is) step s cs used =
      supply_advances (turn_of shapes mode (If c x y is) s) (line (mark_of (If c x y is))) (step + 1)
      (takes mode (If c x y is))
      cs used
  advances (Loop c n b is) step s cs used =
      supply_advances (turn_of shapes mode (Loop c n b is) s) (line 0) (step + 1) false cs used
  advances (Again c n b is) step s cs used =
      supply_advances (turn_of shapes mode (Again c n b is) s) (line 0) (step + 1) false cs used
  advances (DoLoop c b is) step s cs used =
      supply_advances (turn_of shapes mode (DoLoop c b is) s) (line 0) (step + 1) false cs used
  advances (DoAgain c b is) step s cs used =
      supply_advances (turn_of shapes mode (DoAgain c b is) s) (line 0) (step + 1) false cs used
  advances (Enter vs ws m is) step s cs used =
      supply_advances (turn_of shapes mode (Enter vs ws m is) s) (line m) (step + 1) false cs used
  advances (Leave v vs a m is) step s cs used =
      supply_advances (turn_of shapes mode (Leave v vs a m is) s) (line m) (step + 1) false cs used
  advances (Exit v vs d m is) step s cs used =
      supply_advances (turn_of shapes mode (Exit v vs d m is) s) (line m) (step + 1) false cs used

  -- A run that is over stays so with more steps.

  over_at_once : (is : Items) (m step : ℕ) (s : Store) (cs : List ℕ) (used : ℕ) (next : Rest) → IsOver (at_end is step)
      → advance shapes mode line at_end is next step s cs used ≡ at_end is step
  over_at_once Done m step s cs used next over = refl
  over_at_once _ m step s cs used next over = absurd over

  pub stays_over : (n m step : ℕ) (is : Items) (s : Store) (cs : List ℕ) (used : ℕ) → n ≤ m
      → IsOver (go shapes mode line at_end n step is s cs used) → go shapes mode line at_end m step is s cs used
      ≡ go shapes mode line at_end n step is s cs used
  stays_over zero zero step is s cs used less over = refl
  stays_over zero (suc m) step is s cs used less over =
      over_at_once (opened is) m step s cs used (λ st js t ds u. go shapes mode line at_end m st js t ds u) over
  stays_over (suc n) zero step is s cs used less over = absurd (omega (arith, less))
  stays_over (suc n) (suc m) step is s cs used less over =
      here (advances (opened is) step s cs used) (λ st js t ds u. stays_over n m st js t ds u (omega (arith, less)))
      over
    where
      rest : ℕ → Rest
      rest k st js t ds u = go shapes mode line at_end k st js t ds u

      here : Advances (step + 1) (λ next. advance shapes mode line at_end (opened is) next step s cs used)
          → ((st : ℕ) (js : Items) (t : Store) (ds : List ℕ) (u : ℕ) → IsOver (rest n st js t ds u)
          → rest m st js t ds u ≡ rest n st js t ds u)
          → IsOver (advance shapes mode line at_end (opened is) (rest n) step s cs used)
          → advance shapes mode line at_end (opened is) (rest m) step s cs used
          ≡ advance shapes mode line at_end (opened is) (rest n) step s cs used
      here (inl d) later over = d.is (rest m) ∙ sym (d.is (rest n))
      here (inr g) later over = g.is (rest m)
          ∙ later (step + 1) g.items g.store g.choices g.used (subst IsOver (g.is (rest n)) over) ∙ sym (g.is (rest n))

  -- The run that stops at the step of a fault meets it too.

  pub record MetAt (n step : ℕ) (is : Items) (s : Store) (cs : List ℕ) (used : ℕ) (kind : Kind) (at met : ℕ) :
      Type 0 where
    pub steps : ℕ
    pub is_step : met ≡ step + steps
    pub within : steps ≤ n
    pub meets : go shapes mode line at_end steps step is s cs used ≡ Fault kind at met

  still_runs : (is : Items) (step : ℕ) (kind : Kind) (at met : ℕ) → at_end is step ≡ Fault kind at met → ⊥
  still_runs Done step kind at met e = cc
  still_runs _ step kind at met e = cc

  decided_step : (step : ℕ) (o : Outcome) (kind : Kind) (at met : ℕ) → DecidedAt step o → o ≡ Fault kind at met
      → met ≡ step
  decided_step step o kind at met d e = subst (DecidedAt step) e d

  pub met_at : (n step : ℕ) (is : Items) (s : Store) (cs : List ℕ) (used : ℕ) (kind : Kind) (at met : ℕ)
      → go shapes mode line at_end n step is s cs used ≡ Fault kind at met → MetAt n step is s cs used kind at met
  met_at zero step is s cs used kind at met e = absurd (still_runs (opened is) step kind at met e)
  met_at (suc n) step is s cs used kind at met e =
      here (advances (opened is) step s cs used) (λ st js t ds u. met_at n st js t ds u kind at met)
    where
      rest : ℕ → Rest
      rest k st js t ds u = go shapes mode line at_end k st js t ds u

      here : Advances (step + 1) (λ next. advance shapes mode line at_end (opened is) next step s cs used)
          → ((st : ℕ) (js : Items) (t : Store) (ds : List ℕ) (u : ℕ) → rest n st js t ds u ≡ Fault kind at met
          → MetAt n st js t ds u kind at met) → MetAt (suc n) step is s cs used kind at met
      here (inl d) later = record {
        steps = suc zero;
        is_step = decided_step (step + 1) d.outcome kind at met d.decided (sym (d.is (rest n)) ∙ e);
        within = omega arith;
        meets = d.is (rest zero) ∙ (sym (d.is (rest n)) ∙ e);
      }
      here (inr g) later =
          let found : MetAt n (step + 1) g.items g.store g.choices g.used kind at met =
          later (step + 1) g.items g.store g.choices g.used (sym (g.is (rest n)) ∙ e) in
          record {
            steps = suc found.steps;
            is_step = omega (arith, found.is_step);
            within = omega (arith, found.within);
            meets = g.is (rest found.steps) ∙ found.meets;
          }
