-- The usage text.
use Rattle.std.specs.Prelude.{ℕ, List, [], ◌∷◌, ◌++◌, codes}

-- a text and a newline
abbrev pub ended_line : List ℕ → List ℕ
ended_line text = text ++ 10 ∷ []

-- a line for each command
abbrev pub usage_text : List ℕ
usage_text =
    ended_line (codes "forester verify FILE [--boxes FILE] [--height N] [--steps N] [--jobs N] [--malloc-null]")
    ++ (ended_line (codes "forester run FILE [--choices LIST] [--steps N] [--malloc-null]")
    ++ ended_line (codes "forester gen KIND N"))
