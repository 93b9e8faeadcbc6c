-- Numbers, counted up.
use Rattle.std.proofs.Common.{◌≡◌, ℕ, suc, ◌+◌, ◌∷◌, [], ◌++◌, ap, arith}
use Rattle.c_types.specs.Steps.{below}

pub below-next : (n : ℕ) → below (n + 1) ≡ below n ++ n ∷ []
below-next n = let e : n + 1 ≡ suc n = omega arith in ap below e

pub ruleset counting = (below-next)
