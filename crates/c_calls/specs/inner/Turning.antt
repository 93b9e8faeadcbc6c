-- Calls turned round, caller by caller.
use Rattle.std.specs.Prelude.{◌≡◌, ◌⊎◌, ℕ, ◌<◌, List, length}
use Rattle.fore_base.specs.Lists.{IsIn}
use Rattle.c_calls.specs.Calls.{called_by}

-- f was added to the callers of each of these functions
pub record Adds (f : ℕ) (called : List ℕ) (old new : List (List ℕ)) : Type 0 where
  pub long : length new ≡ length old
  pub stay : (g x : ℕ) → IsIn x (called_by old g) → IsIn x (called_by new g)
  pub only : (g x : ℕ) → IsIn x (called_by new g) → IsIn x (called_by old g) ⊎ ((x ≡ f) × IsIn g called)
  pub each : (g : ℕ) → IsIn g called → IsIn f (called_by new g)

-- for each function those of the first k that call it
pub record AreCallersUpTo (calls : List (List ℕ)) (k : ℕ) (callers : List (List ℕ)) : Type 0 where
  pub long : length callers ≡ length calls
  pub only : (f g : ℕ) → IsIn f (called_by callers g) → (f < k) × IsIn g (called_by calls f)
  pub each : (f g : ℕ) → f < k → IsIn g (called_by calls f) → IsIn f (called_by callers g)
