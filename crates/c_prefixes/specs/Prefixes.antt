-- The lists of edges that begin at the entry of a control graph, and how many they are.
use Rattle.std.specs.Prelude.{◌≡◌, ◌≤◌, ℕ, zero, suc, ◌+◌, List, [], ◌∷◌, map, length, Option, Some, None}
use Rattle.fore_base.specs.Lists.{IsIn, IsDistinct, Every}
use Rattle.c_cfg.specs.declared.graph.Edge.{Edge}
use Rattle.c_cfg.specs.Graphs.{ControlGraph}
use Rattle.c_cfg.specs.GraphRuns.{out_of}

-- each edge starts where the one before ended, and the first at location k
abbrev pub IsPathFrom : List Edge → ℕ → List Edge → Type 0
IsPathFrom edges k [] = Unit {0}
IsPathFrom edges k (e ∷ es) = IsIn e (out_of edges k) × IsPathFrom edges e.to es

-- a path from the entry, location 0; the empty list is one
abbrev pub IsPrefix : ControlGraph → List Edge → Type 0
IsPrefix g es = IsPathFrom g.edges 0 es

-- different prefixes of the graph are at most b
abbrev pub AtMost : ℕ → ControlGraph → Type 0
AtMost b g = (ps : List (List Edge)) → IsDistinct ps → Every (IsPrefix g) ps → length ps ≤ b

-- the graph has b different prefixes
abbrev pub AtLeast : ℕ → ControlGraph → Type 0
AtLeast b g = (ps : List (List Edge)) × IsDistinct ps × Every (IsPrefix g) ps × (length ps ≡ b)

-- The number, computed.

abbrev pub plus : ℕ → Option ℕ → Option ℕ
plus a None = None
plus a (Some b) = Some (a + b)

-- the sum, if each number is there
abbrev pub sum_there : List (Option ℕ) → Option ℕ
sum_there [] = Some 0
sum_there (None ∷ os) = None
sum_there (Some a ∷ os) = plus a (sum_there os)

-- where no edge begins there is the empty path alone
abbrev pub empty_path : List Edge → Option ℕ
empty_path [] = Some 1
empty_path (e ∷ es) = None

-- how many paths begin at location k: the empty one, and those of each edge that begins there. None where one has more
-- than n edges
abbrev pub paths_from : List Edge → ℕ → ℕ → Option ℕ
paths_from edges zero k = empty_path (out_of edges k)
paths_from edges (suc n) k = plus 1 (sum_there (map (λ e. paths_from edges n e.to) (out_of edges k)))
