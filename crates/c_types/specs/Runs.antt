-- Runs of a program on a list of choices.
use Rattle.std.specs.Prelude.{ℕ, zero, suc, ◌+◌, List, [], ◌∷◌, length, replicate, Bool, true, false}
use Rattle.fore_base.specs.declared.shape.Shape.{Shape}
use Rattle.fore_base.specs.declared.store.Value.TheVariants.{Uninit}
use Rattle.fore_base.specs.declared.store.Datum.TheVariants.{Undefined}
use Rattle.fore_base.specs.declared.store.Store.{Store}
use Rattle.c_types.specs.declared.mode.MallocMode.{MallocMode}
use Rattle.c_types.specs.declared.outcome.Outcome.{Outcome}
use Rattle.c_types.specs.declared.outcome.Outcome.TheVariants.{Ended, Fault, Starved, BadChoice, StillRunning}
use Rattle.c_types.specs.Program.{Program}
use Rattle.c_types.specs.Control.{Items, Done, Do, Close, If, Loop, Again, DoLoop, DoAgain, Enter, Leave, Exit, opened}
use Rattle.c_types.specs.Control.{start_of}
use Rattle.c_types.specs.Steps.{Turn, Goes, Stops, Faults, turn_of, takes, mark_of}

-- The choice of a step, where it takes one: `next` is given the choice, the choices that are left, and how many were
-- used.
abbrev pub supply : Bool → List ℕ → ℕ → ℕ → (ℕ → List ℕ → ℕ → Outcome) → Outcome
supply false cs step used next = next 0 cs used
supply true [] step used next = Starved step
supply true (zero ∷ cs) step used next = next 0 cs (used + 1)
supply true (suc zero ∷ cs) step used next = next 1 cs (used + 1)
supply true (suc (suc n) ∷ cs) step used next = BadChoice used

abbrev pub after_turn : Turn → ℕ → ℕ → (Items → Store → Outcome) → Outcome
after_turn (Goes is s) line step next = next is s
after_turn Stops line step next = Ended step
after_turn (Faults k) line step next = Fault k line step

-- a run is over where no item is left; otherwise it goes on
abbrev pub unless_done : Items → ℕ → Outcome → Outcome
unless_done Done step o = Ended step
unless_done (Do a m is) step o = o
unless_done (Close ps ds m is) step o = o
unless_done (If c x y is) step o = o
unless_done (Loop c n b is) step o = o
unless_done (Again c n b is) step o = o
unless_done (DoLoop c b is) step o = o
unless_done (DoAgain c b is) step o = o
unless_done (Enter vs ws m is) step o = o
unless_done (Leave v vs a m is) step o = o
unless_done (Exit v vs d m is) step o = o

-- what a run answers when all its steps were taken
abbrev pub at_end : Items → ℕ → Outcome
at_end is step = unless_done is step StillRunning

module _ (shapes : List Shape) (mode : MallocMode) (line : ℕ → ℕ) (final : Items → ℕ → Outcome) where
  -- one step of an opened list in a run, after `step` steps; `next` is the rest of the run
  abbrev pub advance : Items → (ℕ → Items → Store → List ℕ → ℕ → Outcome) → ℕ → Store → List ℕ → ℕ → Outcome
  advance is next step s cs used =
      unless_done is step
      (supply (takes mode is) cs (step + 1) used
      (λ x ds u. after_turn (turn_of shapes mode is s x) (line (mark_of is)) (step + 1)
      (λ js t. next (step + 1) js t ds u)))

  -- at most n further steps, after `step` steps and `used` choices; `line` tells the line of a mark
  abbrev pub go : ℕ → ℕ → Items → Store → List ℕ → ℕ → Outcome
  go zero step is s cs used = final (opened is) step
  go (suc n) step is s cs used = advance (opened is) (λ step' js t ds u. go n step' js t ds u) step s cs used

-- there are no cells, and no variable is set
abbrev pub empty_store : ℕ → ℕ → Store
empty_store ptrs datums =
    record { vars = replicate ptrs Uninit; data_vars = replicate datums Undefined; cells = []; next = 1 }

abbrev pub own_line : ℕ → ℕ
own_line mark = mark

-- up to n steps on these choices, from the items of main's body and the empty store
unfoldable pub run : Program → MallocMode → List ℕ → ℕ → Outcome
run p mode choices n = go p.shapes.structs mode own_line at_end n 0 (start_of p)
    (empty_store (length p.vars) (length p.data_vars)) choices 0
