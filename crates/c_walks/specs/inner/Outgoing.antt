-- The edges that leave a location, and the rest of a run from there.
use Rattle.std.specs.Prelude.{ℕ, List, [], ◌∷◌, drop, Bool, Option, Some, None}
use Rattle.fore_base.specs.declared.store.Store.{Store}
use Rattle.c_types.specs.declared.outcome.Outcome.{Outcome}
use Rattle.c_types.specs.declared.outcome.Outcome.TheVariants.{Ended, Fault, StillRunning}
use Rattle.c_cfg.specs.declared.graph.Edge.{Edge}
use Rattle.c_cfg.specs.Graphs.{ControlGraph, has_choice}
use Rattle.c_cfg.specs.GraphRuns.{at_location, ggo}
use Rattle.c_walks.specs.declared.outgoing.Gone.{Gone}
use Rattle.c_walks.specs.declared.outgoing.Gone.TheVariants.{To, Faulty, Over, Stuck}

-- whether the first of these edges needs a choice; none where there is no edge
abbrev pub asked : List Edge → Option Bool
asked [] = None
asked (e ∷ es) = Some (has_choice e.choice)

-- what the edges of a location lead to, with the store that they left
abbrev pub gone_to : Gone → ℕ → (ℕ → Store → Outcome) → Store → Outcome
gone_to (To k) step next s = next k s
gone_to (Faulty kind line) step next s = Fault kind line step
gone_to Over step next s = Ended step
gone_to Stuck step next s = StillRunning

-- the outcome, or the rest of the run
abbrev pub or_rest : Option Outcome → Outcome → Outcome
or_rest None rest = rest
or_rest (Some o) rest = o

-- at most n further edges of a graph's run from a location, after `step` edges and `used` choices
abbrev pub rest_of : ControlGraph → ℕ → ℕ → ℕ → Store → List ℕ → ℕ → Outcome
rest_of g n step k s cs used = ggo g.shapes.structs g.edges (at_location g.edges) n step k s (drop used cs) used
