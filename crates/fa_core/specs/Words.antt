-- Words, as names of C are written: a letter or the underscore, then letters, digits and underscores (ISO/IEC
-- 9899:2011, 6.4.2.1).
use Rattle.std.specs.Prelude.{◌≡◌, ◌≤◌, ◌⊎◌, ℕ, List, [], ◌∷◌}
use Rattle.fore_base.specs.Lists.{Every}

-- a letter, the small ones from 97 on and the large ones from 65 on, or the underscore
abbrev pub IsLetter : ℕ → Type 0
IsLetter b = ((97 ≤ b) × (b ≤ 122)) ⊎ (((65 ≤ b) × (b ≤ 90)) ⊎ (b ≡ 95))

-- a decimal digit, from 48 on
abbrev pub IsDigit : ℕ → Type 0
IsDigit b = (48 ≤ b) × (b ≤ 57)

-- what may follow the first byte of a word
abbrev pub IsWordByte : ℕ → Type 0
IsWordByte b = IsLetter b ⊎ IsDigit b

-- the bytes are a word
abbrev pub IsWord : List ℕ → Type 0
IsWord [] = ⊥
IsWord (b ∷ bs) = IsLetter b × Every IsWordByte bs
