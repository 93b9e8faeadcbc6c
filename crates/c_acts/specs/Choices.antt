-- The choice of a step.
use Rattle.std.specs.Prelude.{ℕ, Bool, true, false, Option, Some, None}

-- the choice on which a step is taken: a step that needs none ignores it; none where one is needed and not given
abbrev pub chosen : Bool → Option ℕ → Option ℕ
chosen false choice = Some 0
chosen true choice = choice

-- the choice, or 0 where there is none
abbrev pub or_none : Option ℕ → ℕ
or_none None = 0
or_none (Some x) = x
