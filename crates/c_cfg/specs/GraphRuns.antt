-- Runs of a control graph on a list of choices. They come out as runs of a program do, with edges in place of steps.
use Rattle.std.specs.Prelude.{ℕ, zero, suc, ◌+◌, List, [], ◌∷◌, nat_eq, Bool, true, if◌then◌else◌, Option, Some, None}
use Rattle.fore_base.specs.declared.shape.Shape.{Shape}
use Rattle.fore_base.specs.declared.store.Store.{Store}
use Rattle.c_types.specs.declared.outcome.Outcome.{Outcome}
use Rattle.c_types.specs.declared.outcome.Outcome.TheVariants.{Ended, Fault, StillRunning}
use Rattle.c_types.specs.Runs.{supply, empty_store}
use Rattle.c_cfg.specs.declared.graph.Edge.{Edge}
use Rattle.c_cfg.specs.Graphs.{ControlGraph, has_choice}
use Rattle.c_cfg.specs.Edges.{Pass, Passed, Faulted, Halted, NotPassed, gstep}

-- the edges that begin at a location, in order
abbrev pub out_of : List Edge → ℕ → List Edge
out_of [] k = []
out_of (e ∷ es) k = if nat_eq e.from k then e ∷ out_of es k else out_of es k

-- an edge with a choice is taken on that choice alone
abbrev pub is_taken_on : ℕ → Option ℕ → Bool
is_taken_on x None = true
is_taken_on x (Some y) = nat_eq y x

-- after an edge: the rest of the run, its outcome, or the other edges
abbrev pub after_pass : Pass → ℕ → ℕ → (Store → Outcome) → Outcome → Outcome
after_pass (Passed s) line step next others = next s
after_pass (Faulted k) line step next others = Fault k line step
after_pass Halted line step next others = Ended step
after_pass NotPassed line step next others = others

-- a run is over at a location at which no edge begins; otherwise it goes on
abbrev pub unless_left : List Edge → ℕ → Outcome → Outcome
unless_left [] step o = Ended step
unless_left (e ∷ es) step o = o

-- what a run answers at a location when all its edges were taken
abbrev pub at_location : List Edge → ℕ → ℕ → Outcome
at_location edges k step = unless_left (out_of edges k) step StillRunning

module _ (shapes : List Shape) where
  -- the first of these edges that is taken on the choice x and goes somewhere; where none does, the run is stuck, and
  -- never over
  abbrev pub first_pass : List Edge → ℕ → (ℕ → Store → Outcome) → ℕ → Store → Outcome
  first_pass [] x next step s = StillRunning
  first_pass (e ∷ es) x next step s =
      if is_taken_on x e.choice then after_pass (gstep shapes e s) e.line step (next e.to) (first_pass es x next step s)
      else first_pass es x next step s

  -- leaves a location by one of the edges that begin there, after `step` edges; they need a choice if the first of them
  -- has one
  abbrev pub leave : List Edge → (ℕ → ℕ → Store → List ℕ → ℕ → Outcome) → ℕ → Store → List ℕ → ℕ → Outcome
  leave [] next step s cs used = Ended step
  leave (e ∷ es) next step s cs used =
      supply (has_choice e.choice) cs (step + 1) used
      (λ x ds u. first_pass (e ∷ es) x (λ k t. next (step + 1) k t ds u) (step + 1) s)

  module _ (edges : List Edge) (final : ℕ → ℕ → Outcome) where
    -- at most n further edges from the location k, after `step` edges and `used` choices
    abbrev pub ggo : ℕ → ℕ → ℕ → Store → List ℕ → ℕ → Outcome
    ggo zero step k s cs used = final k step
    ggo (suc n) step k s cs used = leave (out_of edges k) (λ step' j t ds u. ggo n step' j t ds u) step s cs used

-- up to n edges on these choices, from location 0 and the empty store
unfoldable pub grun : ControlGraph → List ℕ → ℕ → Outcome
grun g choices n = ggo g.shapes.structs g.edges (at_location g.edges) n 0 0 (empty_store g.ptrs g.datums) choices 0
