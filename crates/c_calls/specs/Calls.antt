-- Which functions of a file lead to which by calls. The calls of a file are a list: for each function, by its number,
-- the functions that its body calls, in order, each as often as it is called.
use Rattle.std.specs.Prelude.{◌≡◌, ℕ, zero, suc, ◌<◌, Bool, true, false, not, ◌&&◌, ◌||◌, nat_eq, List, [], length}
use Rattle.std.specs.Prelude.{slice_index_or}
use Rattle.std.specs.List.{list_any}
use Rattle.fore_base.specs.Lists.{IsIn, Every}

-- the functions that the body of f calls; none where there is no such function
abbrev pub called_by : List (List ℕ) → ℕ → List ℕ
called_by calls f = slice_index_or calls f []

-- each function that is called is one of the file's
abbrev pub AreCalls : List (List ℕ) → Type 0
AreCalls calls = Every (Every (λ g. g < length calls)) calls

-- the calls turned round: for each function those that call it
pub record AreCallers (calls callers : List (List ℕ)) : Type 0 where
  pub long : length callers ≡ length calls
  pub only : (f g : ℕ) → IsIn f (called_by callers g) → IsIn g (called_by calls f)
  pub each : (f g : ℕ) → IsIn g (called_by calls f) → IsIn f (called_by callers g)

-- f leads to g by one call or more
pub data Leads (calls : List (List ℕ)) : ℕ → ℕ → Type 0 where
  at_once : {f g : ℕ} → IsIn g (called_by calls f) → Leads calls f g
  through : {f g : ℕ} (h : ℕ) → IsIn h (called_by calls f) → Leads calls h g → Leads calls f g

-- no function leads to itself
abbrev pub NoneRecurs : List (List ℕ) → Type 0
NoneRecurs calls = (f : ℕ) → Leads calls f f → ⊥

-- f leads to g by at least one call and at most n
abbrev pub leads_within : List (List ℕ) → ℕ → ℕ → ℕ → Bool
leads_within calls zero f g = false
leads_within calls (suc n) f g = list_any (λ h. nat_eq h g || leads_within calls n h g) (called_by calls f)

-- none of the first k functions leads to itself, by at most as many calls as there are functions
abbrev pub none_recurs_below : List (List ℕ) → ℕ → Bool
none_recurs_below calls zero = true
none_recurs_below calls (suc k) = not (leads_within calls (length calls) k k) && none_recurs_below calls k

-- no function leads to itself, as a test
abbrev pub none_recurs : List (List ℕ) → Bool
none_recurs calls = none_recurs_below calls (length calls)
