-- What a line says.
use Rattle.std.specs.Prelude.{◌≡◌, ℕ, List, [], ◌∷◌}
use Rattle.fa_lines.specs.Pieces.{pieces}
use Rattle.fa_lines.specs.Spelling.{line_pieces, IsLine}
use Rattle.fa_lines.specs.declared.line.Line.{Line}
use Rattle.fa_lines.specs.declared.line.Line.TheVariants.{Skipped, Opens, Root, Rule, Ends}

-- the line is empty, or begins with a number sign
abbrev pub IsPassedOver : List ℕ → Type 0
IsPassedOver [] = Unit {0}
IsPassedOver (b ∷ bs) = b ≡ 35

-- the pieces of the bytes are those of the line
abbrev pub Spells : List ℕ → Line → Type 0
Spells bytes line = IsLine line × (pieces bytes ≡ line_pieces line)

-- the bytes of a line, without its newline, say this: at most one line is said
abbrev pub Says : List ℕ → Line → Type 0
Says bytes Skipped = IsPassedOver bytes
Says bytes (Opens name input output) = Spells bytes (Opens name input output)
Says bytes (Root r qs) = Spells bytes (Root r qs)
Says bytes (Rule q term) = Spells bytes (Rule q term)
Says bytes Ends = Spells bytes Ends
