-- Weights up to a cap, where calls are followed so deep.
use Rattle.std.specs.Prelude.{◌≡◌, ℕ, ◌+◌, ◌<◌, List, map, length, min, slice_index}
use Rattle.fore_base.specs.Lists.{sum_of}
use Rattle.c_calls.specs.Calls.{called_by}
use Rattle.c_calls.specs.Weights.{weight_within}

module _ (statements : List ℕ) (calls : List (List ℕ)) (cap : ℕ) where
  -- the weights where calls are followed n deep
  pub record AreWeightsWithin (n : ℕ) (weights : List ℕ) : Type 0 where
    pub long : length weights ≡ length calls
    pub each : (f : ℕ) → f < length calls
        → slice_index weights f ≡ min (weight_within statements calls n f) cap

  -- the weights where calls are followed one deeper
  pub record AreNextWeights (old new : List ℕ) : Type 0 where
    pub long : length new ≡ length calls
    pub each : (f : ℕ) → f < length calls
        → slice_index new f ≡ min (slice_index statements f + sum_of (map (slice_index old) (called_by calls f))) cap
