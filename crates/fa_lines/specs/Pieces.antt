-- The lines of a text, and the pieces of a line.
use Rattle.std.specs.Prelude.{ℕ, ◌==◌, Bool, false, ◌&&◌, ◌||◌, cond, List, [], ◌∷◌}
use Rattle.std.specs.List.{list_all}
use Rattle.c_lexer.specs.Bytes.{is_letter, is_digit, is_word_byte, is_gap, newline, space}

-- the first text, longer by a byte in front
abbrev pub longer : ℕ → List (List ℕ) → List (List ℕ)
longer b [] = (b ∷ []) ∷ []
longer b (text ∷ texts) = (b ∷ text) ∷ texts

-- the lines: what stands before each newline, and what stands behind the last one, if anything does
abbrev pub lines_of : List ℕ → List (List ℕ)
lines_of [] = []
lines_of (b ∷ bs) = cond (b == newline) ([] ∷ lines_of bs) (longer b (lines_of bs))

-- a byte goes on the piece that begins with this one: digits go on a number, letters, digits and underscores a word
abbrev pub joins : ℕ → ℕ → Bool
joins first b = (is_digit first && is_digit b) || (is_letter first && is_word_byte b)

-- the first byte of the piece that this byte is in, which stands behind a piece that begins with first
abbrev pub first_with : ℕ → ℕ → ℕ
first_with first b = cond (joins first b) first b

-- the byte in front goes on the piece that begins with this one
abbrev pub goes_on : ℕ → List ℕ → Bool
goes_on first [] = false
goes_on first (b ∷ bs) = joins first b

-- the pieces of what stands behind a piece that begins with this byte; the first of them may go on that piece
abbrev pub pieces_behind : ℕ → List ℕ → List (List ℕ)
pieces_behind first [] = []
pieces_behind first (b ∷ bs) = cond (is_gap b) (pieces_behind (first_with first b) bs)
    (cond (goes_on (first_with first b) bs) (longer b (pieces_behind (first_with first b) bs))
    ((b ∷ []) ∷ pieces_behind (first_with first b) bs))

-- the pieces of a line, from left to right: numbers and words, which are as long as they can be, and each other byte by
-- itself, but for spaces and tabs
abbrev pub pieces : List ℕ → List (List ℕ)
pieces bs = pieces_behind space bs

-- a word: a letter or an underscore, then letters, digits and underscores
abbrev pub is_word : List ℕ → Bool
is_word [] = false
is_word (b ∷ bs) = is_letter b && list_all is_word_byte bs
