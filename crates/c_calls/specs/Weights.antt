-- What functions weigh: the statements of a body, and, for each call in it, what the called function weighs. A function
-- that is called twice counts twice.
use Rattle.std.specs.Prelude.{◌≡◌, ℕ, zero, suc, ◌+◌, ◌<◌, List, [], ◌∷◌, map, length, min, slice_index}
use Rattle.fore_base.specs.Lists.{sum_of}
use Rattle.c_calls.specs.Calls.{called_by}

module _ (statements : List ℕ) (calls : List (List ℕ)) where
  mutual
    -- f weighs w
    pub data Weighs : ℕ → ℕ → Type 0 where
      weighs : {f w v : ℕ} → Weigh (called_by calls f) v → w ≡ slice_index statements f + v → Weighs f w

    -- calls of these functions weigh w together
    pub data Weigh : List ℕ → ℕ → Type 0 where
      none : {w : ℕ} → w ≡ 0 → Weigh [] w
      more : {g w u v : ℕ} {gs : List ℕ} → Weighs g u → Weigh gs v → w ≡ u + v → Weigh (g ∷ gs) w

  -- what f weighs where calls are followed n deep
  abbrev pub weight_within : ℕ → ℕ → ℕ
  weight_within zero f = slice_index statements f
  weight_within (suc n) f = slice_index statements f + sum_of (map (weight_within n) (called_by calls f))

  -- what f weighs, where no function leads to itself: no chain of calls is longer than there are functions
  abbrev pub weight_of : ℕ → ℕ
  weight_of = weight_within (length calls)

  -- for each function what it weighs, or `cap` where that is less
  pub record AreWeights (cap : ℕ) (weights : List ℕ) : Type 0 where
    pub long : length weights ≡ length calls
    pub each : (f : ℕ) → f < length calls → slice_index weights f ≡ min (weight_of f) cap
