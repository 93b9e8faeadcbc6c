-- What files and sinks tell: counts of faults, and contents where they are known.
use Rattle.std.specs.Prelude.{◌≡◌, ◌⊎◌, ◌<◌, ◌-◌, ◌^◌, ℕ, List, ◌++◌, length, take, Option, Some, None}

-- a count rose, or it stands at the greatest u64, where it can rise no more
abbrev pub Rose : ℕ → ℕ → Type 0
Rose old new = (old < new) ⊎ (new ≡ 2 ^ 64 - 1)

-- contents that are told grew at their end by exactly these bytes; what was not told stays so
abbrev pub Grew : Option (List ℕ) → Option (List ℕ) → List ℕ → Type 0
Grew (Some held) new bytes = new ≡ Some (held ++ bytes)
Grew None new bytes = new ≡ None

-- contents that are told grew at their end by the first so many of these bytes, and not by all of them
pub record GrewByPrefix (old new : Option (List ℕ)) (bytes : List ℕ) : Type 0 where
  pub count : ℕ
  pub within : count < length bytes
  pub grew : Grew old new (take count bytes)

-- contents that are not told
abbrev pub untold : Option (List ℕ)
untold = None
