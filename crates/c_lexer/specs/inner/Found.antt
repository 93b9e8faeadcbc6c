-- What a step means by the rules: the contract of the reader's step.
use Rattle.std.specs.Prelude.{ℕ, ◌<◌, ◌≤◌, Bool, List, length}
use Rattle.c_lexer.specs.Skips.{Skips, IsUnclosed}
use Rattle.c_lexer.specs.Tokens.{IsNext, IsStuck}
use Rattle.c_lexer.specs.declared.step.Step.{Step}
use Rattle.c_lexer.specs.declared.step.Step.TheVariants.{Skip, Take, Unclosed, Nothing}

-- what is found is what the rules give, and moves on by at least one byte, and to no place past the end
abbrev pub IsFound : Bool → List ℕ → Step → Type 0
IsFound fresh rest (Skip n) = Skips fresh rest n × (0 < n) × (n ≤ length rest)
IsFound fresh rest (Take kind n) = IsNext fresh rest kind n × (0 < n) × (n ≤ length rest)
IsFound fresh rest Unclosed = IsUnclosed rest
IsFound fresh rest Nothing = IsStuck fresh rest
