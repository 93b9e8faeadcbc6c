-- The states whose leaves are told from their cells.
use Rattle.std.specs.Prelude.{ℕ, Bool, true, false, ◌||◌, List, [], ◌∷◌, map, filter, flat_map, Option, Some, None}
use Rattle.std.specs.Prelude.{slice_get}
use Rattle.ta_core.specs.declared.auto.Rule.{Rule}
use Rattle.ta_core.specs.declared.symbol.Slot.{Slot}
use Rattle.ta_core.specs.declared.symbol.Slot.TheVariants.{Field, Link, Hook}
use Rattle.ta_core.specs.declared.symbol.Symbol.{Symbol}
use Rattle.ta_core.specs.declared.symbol.Symbol.TheVariants.{Null, Uninit, Dangling, Ref, Cell}
use Rattle.fa_core.specs.declared.faces.BoxFace.{BoxFace}
use Rattle.fa_core.specs.Cells.{edges}

-- there is a number
abbrev pub has_some : List ℕ → Bool
has_some [] = false
has_some (n ∷ ns) = true

-- the box leads back, or gives its output something
abbrev pub tells_by : Option BoxFace → Bool
tells_by None = false
tells_by (Some x) = x.back || has_some x.gives_out

-- at the end of the slot a leaf and a cell of one signature make different marks
abbrev pub tells : List BoxFace → Slot → Bool
tells bs (Field f) = false
tells bs (Link b) = tells_by (slice_get bs b)
tells bs (Hook b) = false

-- the states at the ends of such edges
abbrev pub told_ends : List BoxFace → List (Slot × ℕ) → List ℕ
told_ends bs es = map (λ e. e.1) (filter (λ e. tells bs e.0) es)

-- those of these states that stand below such a slot of the symbol
abbrev pub told_below : List BoxFace → Symbol → List ℕ → List ℕ
told_below bs Null qs = []
told_below bs Uninit qs = []
told_below bs Dangling qs = []
told_below bs (Ref r) qs = []
told_below bs (Cell s ds ss) qs = told_ends bs (edges ss qs)

-- the states that stand below such a slot in some rule
abbrev pub told_states : List BoxFace → List Rule → List ℕ
told_states bs rs = flat_map (λ r. told_below bs r.symbol r.children) rs
