-- What the reader finds at a place, as functions: the contracts of its parts.
use Rattle.std.specs.Prelude.{ℕ, ◌+◌, ◌==◌, ◌&&◌, ◌||◌, Bool, true, false, cond, Option, Some, None, List, [], ◌∷◌}
use Rattle.std.specs.Prelude.{drop, filter, slice_index, codes}
use Rattle.std.specs.List.{prefix_len, list_any}
use Rattle.c_lexer.specs.Bytes.{is_letter, is_digit, is_word_byte, is_number_byte, is_gap, is_space, is_quote}
use Rattle.c_lexer.specs.Bytes.{is_newline, is_no_newline, is_solid}
use Rattle.c_lexer.specs.Lexemes.{short_marks, refused_marks}
use Rattle.c_lexer.specs.Places.{place_after, is_fresh}
use Rattle.c_lexer.specs.Skips.{first_line}
use Rattle.c_lexer.specs.declared.class.Class.{Class}
use Rattle.c_lexer.specs.declared.class.Class.TheVariants.{Space, Letter, Digit, Quote, Sharp, Sign}
use Rattle.c_lexer.specs.declared.place.Cursor.{Cursor}
use Rattle.c_lexer.specs.declared.step.Step.{Step}
use Rattle.c_lexer.specs.declared.step.Step.TheVariants.{Skip, Take, Unclosed, Nothing}
use Rattle.c_lexer.specs.declared.token.TokKind.TheVariants.{Word, Number, Mark, Quoted, Hash, Refused}

abbrev pub class_of : ℕ → Class
class_of b = cond (is_space b) Space
    (cond (is_letter b) Letter (cond (is_digit b) Digit (cond (is_quote b) Quote (cond (b == 35) Sharp Sign))))

abbrev pub cursor_after : List ℕ → Cursor
cursor_after front = record { place = place_after front; fresh = is_fresh front }

-- the cursor behind one more byte
abbrev pub moved : Cursor → ℕ → Cursor
moved cursor b = cond (is_newline b)
    (record {
      place = record { offset = cursor.place.offset + 1; line = cursor.place.line + 1; column = 1 };
      fresh = true;
    })
    (record {
      place = record {
        offset = cursor.place.offset + 1;
        line = cursor.place.line;
        column = cursor.place.column + 1;
      };
      fresh = cursor.fresh && is_gap b;
    })

-- where a quotation ends, counted from i on; escaped says that a backslash stands before
abbrev pub quote_end : ℕ → Bool → ℕ → List ℕ → Option ℕ
quote_end quote escaped i [] = None
quote_end quote escaped i (b ∷ bs) =
    cond (is_newline b) None
    (cond escaped (quote_end quote false (i + 1) bs)
    (cond (b == quote) (Some (i + 1)) (quote_end quote (b == 92) (i + 1) bs)))

-- where a comment ends, counted from i on: behind the first star that a slash follows
abbrev pub comment_end : ℕ → List ℕ → Option ℕ
comment_end i [] = None
comment_end i (b ∷ bs) = cond (b == 42 && (slice_index bs 0 == 47)) (Some (i + 2)) (comment_end (i + 1) bs)

abbrev pub are_same : List ℕ → List ℕ → Bool
are_same [] [] = true
are_same [] (y ∷ ys) = false
are_same (x ∷ xs) [] = false
are_same (x ∷ xs) (y ∷ ys) = (x == y) && are_same xs ys

-- whether the line is this text, but for spaces, tabs and carriage returns
abbrev pub spells : List ℕ → List ℕ → Bool
spells line name = are_same (filter is_solid line) name

abbrev pub is_include : List ℕ → Bool
is_include line = (spells line (codes "#include<stdlib.h>") || spells line (codes "#include<assert.h>"))
    || (spells line (codes "#include<stddef.h>") || spells line (codes "#include<stdbool.h>"))

-- whether the two bytes are a mark
abbrev pub is_long_mark : ℕ → ℕ → Bool
is_long_mark a b = cond (a == 45) (b == 62)
    (cond (a == 61 || a == 33) (b == 61) (cond (a == 38) (b == 38) (cond (a == 124) (b == 124) false)))

abbrev pub quote_step : Option ℕ → Step
quote_step None = Nothing
quote_step (Some n) = Take Quoted n

abbrev pub comment_step : Option ℕ → Step
comment_step None = Unclosed
comment_step (Some n) = Skip n

-- what stands at a sign
abbrev pub mark_step : ℕ → ℕ → Step
mark_step a b =
    cond (is_long_mark a b) (Take Mark 2)
    (cond (list_any (λ x. x == a) short_marks) (Take Mark 1)
    (cond (list_any (λ x. x == a) refused_marks) (Take Refused 1) Nothing))

abbrev pub sign_step : List ℕ → Step
sign_step rest =
    cond (slice_index rest 0 == 47 && (slice_index rest 1 == 47)) (Skip (prefix_len is_no_newline rest))
    (cond (slice_index rest 0 == 47 && (slice_index rest 1 == 42)) (comment_step (comment_end 2 (drop 2 rest)))
    (mark_step (slice_index rest 0) (slice_index rest 1)))

-- what stands at a number sign
abbrev pub sharp_step : Bool → List ℕ → Step
sharp_step fresh rest = cond (fresh && is_include (first_line rest)) (Skip (prefix_len is_no_newline rest))
    (Take Hash 1)

abbrev pub class_step : Class → Bool → List ℕ → Step
class_step Space fresh rest = Skip 1
class_step Letter fresh rest = Take Word (prefix_len is_word_byte rest)
class_step Digit fresh rest = Take Number (prefix_len is_number_byte rest)
class_step Quote fresh rest = quote_step (quote_end (slice_index rest 0) false 1 (drop 1 rest))
class_step Sharp fresh rest = sharp_step fresh rest
class_step Sign fresh rest = sign_step rest

-- what stands at the front of a text that is not empty
abbrev pub step_of : Bool → List ℕ → Step
step_of fresh rest = class_step (class_of (slice_index rest 0)) fresh rest
