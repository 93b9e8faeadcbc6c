-- The numbers of the edges of each location.
use Rattle.std.specs.Prelude.{◌≡◌, ◌<◌, ℕ, List, [], ◌∷◌, length, slice_get, Some}
use Rattle.fore_base.specs.Lists.{IsIn, Every}
use Rattle.c_cfg.specs.Graphs.{ControlGraph}
use Rattle.c_cfg.specs.declared.graph.Edge.{Edge}
use Rattle.fix_core.specs.Listed.{numbers_at}

-- the numbers rise
abbrev pub Rises : List ℕ → Type 0
Rises [] = Unit {0}
Rises (c ∷ cs) = Every (λ d. c < d) cs × Rises cs

-- edge c begins at the location, and is one of the first edges
abbrev pub IsFrom : List Edge → ℕ → ℕ → ℕ → Type 0
IsFrom edges limit location c = (c < limit) × ((e : Edge) × (slice_get edges c ≡ Some e) × (e.from ≡ location))

-- the numbers, in order, of those of the first edges that begin at the location
pub record AreNumbers (edges : List Edge) (limit location : ℕ) (cs : List ℕ) : Type 0 where
  pub rises : Rises cs
  pub each : (c : ℕ) → IsIn c cs → IsFrom edges limit location c
  pub all : (c : ℕ) (e : Edge) → c < limit → slice_get edges c ≡ Some e → e.from ≡ location → IsIn c cs

-- the lists of these numbers, one for each location
pub record AreExits (g : ControlGraph) (limit : ℕ) (exits : List (List ℕ)) : Type 0 where
  pub count : length exits ≡ g.locations
  pub each : (location : ℕ) → AreNumbers g.edges limit location (numbers_at exits location)
