-- Counts that stand at the greatest u64, and calls that are to fail.
use Rattle.std.specs.Prelude.{◌+◌, ◌-◌, ◌^◌, ℕ, Bool, List, min, nat_eq}
use Rattle.std.specs.List.{list_any}

-- one more; the greatest u64 stays as it is
abbrev pub one_more : ℕ → ℕ
one_more count = min (count + 1) (2 ^ 64 - 1)

-- this call is one of these
unfoldable pub is_listed : List ℕ → ℕ → Bool
is_listed calls call = list_any (λ other. nat_eq other call) calls
