-- Sets of components, from which those are taken out that cannot keep out of the others.
use Rattle.std.specs.Prelude.{◌≡◌, ℕ, suc, ◌<◌, Bool, true, false, ◌||◌, List, [], ◌∷◌, Option, Some, None, length}
use Rattle.std.specs.Prelude.{slice_get, slice_index_or, slice_set}
use Rattle.fore_base.specs.Lists.{IsIn}
use Rattle.fore_base.specs.Marks.{IsMarked, all_marked}
use Rattle.fa_back.specs.declared.hops.Hop.{Hop}
use Rattle.fa_reach.specs.declared.part.Part.{Part}
use Rattle.fa_reach.specs.inner.Going.{Forced}

-- the set without root a, where it does not stay
abbrev pub kept_at : List Bool → ℕ → Bool → List Bool
kept_at set a true = set
kept_at set a false = slice_set set a false

-- the roots of some signature are all in the set
abbrev pub has_down : List Bool → List (List ℕ) → Bool
has_down set [] = false
has_down set (d ∷ ds) = all_marked set d || has_down set ds

-- the set after it was looked at the ways back
abbrev pub sweep_hops : List Hop → List Bool → List Bool
sweep_hops [] set = set
sweep_hops (h ∷ hs) set = sweep_hops hs (kept_at set h.from (slice_index_or set h.to false))

-- the set after it was looked at a part of component j, and of those from j on
abbrev pub sweep_part : ℕ → Part → List Bool → List Bool
sweep_part j p set = sweep_hops p.hops (kept_at set j (has_down set p.downs))

abbrev pub sweep_parts : ℕ → List Part → List Bool → List Bool
sweep_parts j [] set = set
sweep_parts j (p ∷ ps) set = sweep_parts (suc j) ps (sweep_part j p set)

-- from what is not in the set, root `to` is reached for each choice
abbrev pub IsLost : List Part → ℕ → List Bool → Type 0
IsLost ps to set = (x : ℕ) → x < length set → slice_index_or set x false ≡ false → Forced ps x to

-- some choice does not lead out of the set
pub record IsClosed (ps : List Part) (set : List Bool) : Type 0 where
  pub downs : (k : ℕ) (p : Part) → slice_get ps k ≡ Some p → IsMarked set k → has_down set p.downs ≡ true
  pub hops : (p : Part) (h : Hop) → IsIn p ps → IsIn h p.hops → IsMarked set h.from → IsMarked set h.to

-- the root has no mark
abbrev pub IsUnknown : List Bool → ℕ → Type 0
IsUnknown known r = slice_index_or known r true ≡ false

-- a root without a mark, where there is one
abbrev pub IsNext : List Bool → Option ℕ → Type 0
IsNext known None = (r : ℕ) → r < length known → IsMarked known r
IsNext known (Some r) = IsUnknown known r

-- there are as many marks as parts, root i has one, and what has one is reached from it for each choice
abbrev pub Knows : List Part → ℕ → List Bool → Type 0
Knows ps i known = (length known ≡ length ps) × IsMarked known i × ((u : ℕ) → IsMarked known u → Forced ps i u)

-- the marks stay, and what is marked more is reached wherever what was marked is
pub record Gains (ps : List Part) (old new : List Bool) : Type 0 where
  pub long : length new ≡ length old
  pub kept : (u : ℕ) → IsMarked old u → IsMarked new u
  pub knows : (i : ℕ) → Knows ps i old → Knows ps i new
