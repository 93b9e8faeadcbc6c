-- Worked values of the definitions.
use Rattle.std.proofs.Common.{◌≡◌, true, false, [], ◌∷◌, ◌++◌, refl, codes, Some, None, arith}
use Rattle.c_lexer.specs.Bytes.{is_gap, is_word_byte, is_letter, is_digit}
use Rattle.fore_base.specs.declared.store.Datum.TheVariants.{Undefined, Known}
use Rattle.fa_lines.specs.Pieces.{lines_of, pieces, is_word}
use Rattle.fa_lines.specs.Says.{Says}
use Rattle.fa_lines.specs.Spelling.{line_pieces, state_text, IsLine}
use Rattle.fa_lines.specs.declared.line.SlotText.TheVariants.{Field, Link, Hook}
use Rattle.fa_lines.specs.declared.line.Term.TheVariants.{Null, Uninit, Dangling, Ref, Cell}
use Rattle.fa_lines.specs.declared.line.Line.TheVariants.{Skipped, Opens, Root, Rule, Ends}

-- Lines of a text: a newline ends a line, and the last line needs none.

no_lines : lines_of [] ≡ []
no_lines = refl

one_line : lines_of (codes "end") ≡ codes "end" ∷ []
one_line = refl

ended_line : lines_of (codes "end" ++ 10 ∷ []) ≡ codes "end" ∷ []
ended_line = refl

empty_line : lines_of (10 ∷ 10 ∷ codes "#") ≡ [] ∷ [] ∷ codes "#" ∷ []
empty_line = refl

-- Pieces: words and numbers are as long as they can be, and spaces and tabs part them.

rule_in_pieces : pieces (codes "s0 =node(next=s1)")
    ≡ codes "s0" ∷ codes "=" ∷ codes "node" ∷ codes "(" ∷ codes "next" ∷ codes "=" ∷ codes "s1" ∷ codes ")" ∷ []
unfolding is_gap is_word_byte is_letter is_digit
rule_in_pieces = refl

parted_run : pieces (codes "root 0" ++ 9 ∷ codes "s_1") ≡ codes "root" ∷ codes "0" ∷ codes "s_1" ∷ []
unfolding is_gap is_word_byte is_letter is_digit
parted_run = refl

joined_run : pieces (codes "root0 @b.") ≡ codes "root0" ∷ codes "@" ∷ codes "b" ∷ codes "." ∷ []
unfolding is_gap is_word_byte is_letter is_digit
joined_run = refl

-- a letter or an underscore ends a number, and a digit goes on a word
number_before_word : pieces (codes "root 0s0") ≡ codes "root" ∷ codes "0" ∷ codes "s0" ∷ []
unfolding is_gap is_word_byte is_letter is_digit
number_before_word = refl

number_before_underscore : pieces (codes "12_3a 0x1 a007b")
    ≡ codes "12" ∷ codes "_3a" ∷ codes "0" ∷ codes "x1" ∷ codes "a007b" ∷ []
unfolding is_gap is_word_byte is_letter is_digit
number_before_underscore = refl

digits_together : pieces (codes "007=s0a") ≡ codes "007" ∷ codes "=" ∷ codes "s0a" ∷ []
unfolding is_gap is_word_byte is_letter is_digit
digits_together = refl

marks_apart : pieces (codes "==") ≡ codes "=" ∷ codes "=" ∷ []
unfolding is_gap is_word_byte is_letter is_digit
marks_apart = refl

return_is_a_piece : pieces (codes "end" ++ 13 ∷ []) ≡ codes "end" ∷ (13 ∷ []) ∷ []
unfolding is_gap is_word_byte is_letter is_digit
return_is_a_piece = refl

-- Words.

words : (is_word (codes "_a1") ≡ true) × (is_word (codes "end") ≡ true) × (is_word (codes "1a") ≡ false)
    × (is_word [] ≡ false) × (is_word (codes "a.b") ≡ false)
unfolding is_word_byte is_letter is_digit
words = (refl, refl, refl, refl, refl)

-- How lines are written.

box_is_written : line_pieces (Opens (codes "dll") (codes "node") (Some (codes "item")))
    ≡ codes "box" ∷ codes "dll" ∷ codes "in" ∷ codes "node" ∷ codes "out" ∷ codes "item" ∷ []
box_is_written = refl

hook_is_written : line_pieces (Opens (codes "ring") (codes "node") None)
    ≡ codes "box" ∷ codes "ring" ∷ codes "in" ∷ codes "node" ∷ []
hook_is_written = refl

end_is_written : line_pieces Ends ≡ codes "end" ∷ []
end_is_written = refl

null_is_written : line_pieces (Rule 3 Null) ≡ state_text 3 ∷ codes "=" ∷ codes "null" ∷ []
null_is_written = refl

uninit_is_written : line_pieces (Rule 3 Uninit) ≡ state_text 3 ∷ codes "=" ∷ codes "uninit" ∷ []
uninit_is_written = refl

dangling_is_written : line_pieces (Rule 3 Dangling) ≡ state_text 3 ∷ codes "=" ∷ codes "dangling" ∷ []
dangling_is_written = refl

-- a cell without slots and data has its brackets alone
bare_cell_is_written : line_pieces (Rule 0 (Cell (codes "sn") [] []))
    ≡ state_text 0 ∷ codes "=" ∷ codes "sn" ∷ codes "(" ∷ codes ")" ∷ []
bare_cell_is_written = refl

-- data stand in brackets in front of the slots, and commas between two
cell_is_written : line_pieces (Rule 0 (Cell (codes "sn") (record { name = codes "k"; datum = Undefined }
    ∷ record { name = codes "m"; datum = Undefined } ∷ [])
    (Field (codes "n") 1 ∷ Link (codes "seg") 2 ∷ Hook (codes "ring") ∷ [])))
    ≡ state_text 0 ∷ codes "=" ∷ codes "sn" ∷ codes "[" ∷ codes "k" ∷ codes "=" ∷ codes "undef" ∷ codes ","
    ∷ codes "m" ∷ codes "=" ∷ codes "undef" ∷ codes "]" ∷ codes "(" ∷ codes "n" ∷ codes "=" ∷ state_text 1
    ∷ codes "," ∷ codes "@" ∷ codes "seg" ∷ codes "=" ∷ state_text 2 ∷ codes "," ∷ codes "@" ∷ codes "ring"
    ∷ codes ")" ∷ []
cell_is_written = refl

-- What lines may hold: 255 is the greatest state, 15 the greatest datum, and a component has a root state.

greatest_state : IsLine (Rule 255 Null)
greatest_state = (omega arith, tt)

no_state : IsLine (Rule 256 Null) → ⊥
no_state is = omega (arith, is.0)

no_root_state : IsLine (Root 0 []) → ⊥
no_root_state is = is.1 refl

no_datum : IsLine (Rule 0 (Cell (codes "sn") (record { name = codes "k"; datum = Known 16 } ∷ []) [])) → ⊥
no_datum is = omega (arith, is.1.1.0.1)

no_number : IsLine (Rule 0 (Ref 4294967296)) → ⊥
no_number is = omega (arith, is.1)

-- Lines that are passed over, and lines that begin with a space.

passed_over : Says [] Skipped × Says (codes "# a box") Skipped
passed_over = (tt, refl)

blank_in_front : Says (codes " end") Ends
unfolding is_gap is_word_byte is_letter is_digit
blank_in_front = (tt, refl)

blank_alone : Says (codes " ") Skipped → ⊥
blank_alone is = omega (arith, is)

blank_before_sign : Says (codes " # a box") Skipped → ⊥
blank_before_sign is = omega (arith, is)
