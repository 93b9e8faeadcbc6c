-- What is passed over between tokens: white space, comments (ISO/IEC 9899:2011, 6.4.9) and four include lines.
use Rattle.std.specs.Prelude.{◌≡◌, ◌<◌, ◌+◌, ℕ, Bool, List, [], ◌∷◌, length, drop, filter, IsTrue, codes}
use Rattle.std.specs.List.{take_while}
use Rattle.fore_base.specs.Lists.{IsIn}
use Rattle.c_lexer.specs.Bytes.{is_space, is_no_newline, is_solid}

-- these bytes stand at the front of a text
abbrev pub Stands : List ℕ → List ℕ → Type 0
Stands [] bs = Unit {0}
Stands (x ∷ xs) [] = ⊥
Stands (x ∷ xs) (b ∷ bs) = (x ≡ b) × Stands xs bs

-- white space stands at the front
abbrev pub StandsSpace : List ℕ → Type 0
StandsSpace [] = ⊥
StandsSpace (b ∷ bs) = IsTrue (is_space b)

-- the bytes up to the first newline, or all
abbrev pub first_line : List ℕ → List ℕ
first_line rest = take_while is_no_newline rest

-- the lines that include a header of which a program needs nothing that is not known already (6.10.2)
abbrev pub skipped_includes : List (List ℕ)
skipped_includes = codes "#include<stdlib.h>" ∷ codes "#include<assert.h>" ∷ codes "#include<stddef.h>"
    ∷ codes "#include<stdbool.h>" ∷ []

-- the line begins with a number sign, and without spaces, tabs and carriage returns it is one of the four
abbrev pub IsInclude : List ℕ → Type 0
IsInclude line = Stands (codes "#") line × IsIn (filter is_solid line) skipped_includes

-- a star and a slash stand at this place
abbrev pub ClosesAt : List ℕ → ℕ → Type 0
ClosesAt inner k = Stands (codes "*/") (drop k inner)

-- .. and at no place before it
abbrev pub IsFirstClose : List ℕ → ℕ → Type 0
IsFirstClose inner k = ClosesAt inner k × ((j : ℕ) → j < k → ¬ ClosesAt inner j)

-- the first n bytes of the rest are passed over; fresh says that only spaces and tabs stand before them on their line
pub data Skips (fresh : Bool) (rest : List ℕ) : ℕ → Type 0 where
  white_space : {n : ℕ} → StandsSpace rest → n ≡ 1 → Skips fresh rest n
  line_comment : {n : ℕ} → Stands (codes "//") rest → n ≡ length (first_line rest) → Skips fresh rest n
  block_comment : {n : ℕ} → Stands (codes "/*") rest → (k : ℕ) → IsFirstClose (drop 2 rest) k → n ≡ k + 4
      → Skips fresh rest n
  include_line : {n : ℕ} → IsTrue fresh → IsInclude (first_line rest) → n ≡ length (first_line rest)
      → Skips fresh rest n

-- a comment begins that is not closed
abbrev pub IsUnclosed : List ℕ → Type 0
IsUnclosed rest = Stands (codes "/*") rest × ((k : ℕ) → ¬ ClosesAt (drop 2 rest) k)
