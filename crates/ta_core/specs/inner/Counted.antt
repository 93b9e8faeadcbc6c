-- Rules counted.
use Rattle.std.specs.Prelude.{ℕ, ◌+◌, nat_eq, if◌then◌else◌, List, [], ◌∷◌}
use Rattle.ta_core.specs.declared.auto.Rule.{Rule}

-- how many of the rules are at the state
abbrev pub rules_at : ℕ → List Rule → ℕ
rules_at q [] = 0
rules_at q (x ∷ xs) = if nat_eq x.state q then rules_at q xs + 1 else rules_at q xs
