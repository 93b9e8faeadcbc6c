-- The classes of bytes that the rules for tokens speak of, by their codes (ISO/IEC 9899:2011, 5.2.1, in ASCII).
use Rattle.std.specs.Prelude.{ℕ, Bool, ◌==◌, ◌&&◌, ◌||◌, nat_le, not}

-- Some bytes by name

abbrev pub tab : ℕ
tab = 9

abbrev pub newline : ℕ
newline = 10

abbrev pub carriage_return : ℕ
carriage_return = 13

abbrev pub space : ℕ
space = 32

abbrev pub quotation_mark : ℕ
quotation_mark = 34

abbrev pub apostrophe : ℕ
apostrophe = 39

abbrev pub dot : ℕ
dot = 46

abbrev pub backslash : ℕ
backslash = 92

abbrev pub underscore : ℕ
underscore = 95

-- a letter, the small ones from 97 on and the large ones from 65 on, or the underscore
unfoldable pub is_letter : ℕ → Bool
is_letter b = (nat_le 97 b && nat_le b 122) || (nat_le 65 b && nat_le b 90) || b == underscore

-- a decimal digit, from 48 on
unfoldable pub is_digit : ℕ → Bool
is_digit b = nat_le 48 b && nat_le b 57

-- what may follow the first byte of a word
unfoldable pub is_word_byte : ℕ → Bool
is_word_byte b = is_letter b || is_digit b

-- what may follow the first digit of a number: a dot too
unfoldable pub is_number_byte : ℕ → Bool
is_number_byte b = is_word_byte b || b == dot

-- a space or a tab
unfoldable pub is_gap : ℕ → Bool
is_gap b = b == space || b == tab

-- white space: a space, a tab, a newline, a vertical tab, a form feed or a carriage return
unfoldable pub is_space : ℕ → Bool
is_space b = b == space || (nat_le tab b && nat_le b carriage_return)

-- a quotation mark or an apostrophe
unfoldable pub is_quote : ℕ → Bool
is_quote b = b == quotation_mark || b == apostrophe

-- what ends a line
unfoldable pub is_newline : ℕ → Bool
is_newline b = b == newline

-- any other byte
unfoldable pub is_no_newline : ℕ → Bool
is_no_newline b = not (b == newline)

-- no space, no tab and no carriage return
unfoldable pub is_solid : ℕ → Bool
is_solid b = not (b == space) && not (b == tab) && not (b == carriage_return)
