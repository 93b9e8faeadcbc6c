-- The calls so far, and what is called after them.
use Rattle.std.specs.Prelude.{ℕ, List, [], ◌∷◌, ◌++◌}
use Rattle.c_typing.specs.Globals.{maybe_number}
use Rattle.c_typing.specs.Texts.{Text, number_of}

-- after a function of this name, which counts if it is among the names
abbrev pub called_one : List Text → List ℕ → Text → List ℕ
called_one names found x = found ++ maybe_number (number_of x names)

-- after functions of these names
unfoldable pub called : List Text → List ℕ → List Text → List ℕ
called names found [] = found
called names found (x ∷ xs) = called names (called_one names found x) xs
