-- Printed lines are read as they are printed.
use Rattle.std.proofs.Common.{◌≡◌, ◌<◌, ◌⊎◌, ◌^◌, ◌==◌, inl, inr, ℕ, List, [], ◌∷◌, ◌++◌, true, false}
use Rattle.std.proofs.Common.{map, flat_map, codes, decimal, Option, Some, None, refl, sym, ap, ◌∙◌, arith, subst}
use Rattle.std.proofs.Common.{append_assoc, append-nil, rules, Bool, ◌&&◌, ◌||◌}
use Rattle.std.specs.Fmt.{digits}
use Rattle.std.specs.List.{concat, list_all}
use Rattle.std.specs.Str.{all_ascii_digits}
use Rattle.std.specs.Char.{is_ascii_digit}
use Rattle.std.proofs.lemmas.Bool.{and_parts}
use Rattle.std.proofs.lemmas.Bool.Decides.{nat_tests}
use Rattle.std.proofs.lemmas.Fmt.{digits_decimal, digits_value-decimal}
use Rattle.std.proofs.lemmas.List.Folds.{concat-append}
use Rattle.std.proofs.lemmas.Str.Parse.{IsNumeralModel, numerals_by_fold, tells_all_ascii_digits}
use Rattle.fore_base.specs.Lists.{Every, Paired}
use Rattle.fore_base.proofs.ListLemmas.{every_append}
use Rattle.fore_base.specs.declared.store.Datum.{Datum}
use Rattle.fore_base.specs.declared.store.Datum.TheVariants.{Undefined, Known}
use Rattle.c_lexer.specs.Bytes.{is_letter, is_digit, is_word_byte, is_gap, newline}
use Rattle.fa_lines.specs.Pieces.{pieces, joins, lines_of, longer, goes_on as piece_goes_on}
use Rattle.fa_lines.specs.Says.{Says}
use Rattle.fa_lines.specs.Spelling.{line_pieces, state_text, term_pieces, slot_pieces, datum_pieces, datum_text}
use Rattle.fa_lines.specs.Spelling.{data_pieces}
use Rattle.fa_lines.specs.Spelling.{output_pieces, series, IsOutput, IsState, IsName, IsValue}
use Rattle.fa_lines.specs.Spelling.{IsDatum, IsSlot, IsTerm, IsLine}
use Rattle.fa_lines.specs.inner.Reading.{value_from}
use Rattle.fa_lines.specs.declared.line.DatumText.{DatumText}
use Rattle.fa_lines.specs.declared.line.SlotText.{SlotText}
use Rattle.fa_lines.specs.declared.line.SlotText.TheVariants.{Field, Link, Hook}
use Rattle.fa_lines.specs.declared.line.Term.{Term}
use Rattle.fa_lines.specs.declared.line.Term.TheVariants.{Null, Uninit, Dangling, Ref, Cell}
use Rattle.fa_lines.specs.declared.line.Line.{Line}
use Rattle.fa_lines.specs.declared.line.Line.TheVariants.{Skipped, Opens, Root, Rule, Ends}
use Rattle.fa_lines.proofs.PieceLemmas.{
  word_no_gap,
  gap_front,
  piece_behind,
  space_first,
  joins_word,
  joins_none,
  other_ends,
}
use Rattle.fa_print.specs.Lines.{line_text, lines_text, term_text}
use Rattle.fa_print.specs.Names.{Texts}
use Rattle.fa_print.specs.Returned.{AreReadAsPrinted}

-- Bytes and their pieces, with no newline among them

abbrev NoBreak : ℕ → Type 0
NoBreak b = (b == newline) ≡ false

abbrev Cut : List ℕ → Texts → Type 0
Cut bytes ps = (pieces bytes ≡ ps) × Every NoBreak bytes

-- a word or a number
abbrev IsRun : List ℕ → Type 0
IsRun [] = ⊥
IsRun (b ∷ bs) = (is_word_byte b ≡ true) × (list_all (joins b) bs ≡ true)

-- a letter, a digit or an underscore stands at the front
abbrev goes_on : List ℕ → Bool
goes_on [] = false
goes_on (b ∷ bs) = is_word_byte b

-- another byte, and no blank
abbrev IsMark : List ℕ → Type 0
IsMark [] = ⊥
IsMark (b ∷ []) = (is_gap b ≡ false) × ((is_word_byte b ≡ false) × NoBreak b)
IsMark (b ∷ c ∷ bs) = ⊥

word_no_break : (b : ℕ) → is_word_byte b ≡ true → NoBreak b
unfolding is_word_byte is_letter is_digit
word_no_break b e = grind (arith, nat_tests)

run_ends : (b : ℕ) (rest : List ℕ) → goes_on rest ≡ false → piece_goes_on b rest ≡ false
run_ends b [] ends = refl
run_ends b (c ∷ cs) ends = joins_none b c ends

run_front : (w rest : List ℕ) → IsRun w → goes_on rest ≡ false → pieces (w ++ rest) ≡ w ∷ pieces rest
run_front [] rest h ends = absurd h
run_front (b ∷ bs) rest h ends =
    piece_behind bs rest 32 b b (word_no_gap b h.0) (space_first b) h.1 (run_ends b rest ends)

joined_clean : (b : ℕ) (bs : List ℕ) → list_all (joins b) bs ≡ true → Every NoBreak bs
joined_clean b [] h = tt
joined_clean b (c ∷ cs) h =
    let a = and_parts (joins b c) (list_all (joins b) cs) h in
    (word_no_break c (joins_word b c a.0), joined_clean b cs a.1)

cut_run : (w rest : List ℕ) (qs : Texts) → IsRun w → goes_on rest ≡ false → Cut rest qs → Cut (w ++ rest) (w ∷ qs)
cut_run [] rest qs h ends c = absurd h
cut_run (b ∷ bs) rest qs h ends c = (
  run_front (b ∷ bs) rest h ends ∙ ap (λ (t : Texts). (b ∷ bs) ∷ t) c.0,
  every_append NoBreak (b ∷ bs) rest (word_no_break b h.0, joined_clean b bs h.1) c.1,
)

cut_mark : (m rest : List ℕ) (qs : Texts) → IsMark m → Cut rest qs → Cut (m ++ rest) (m ∷ qs)
cut_mark [] rest qs h c = absurd h
cut_mark (b ∷ []) rest qs h c = (
  piece_behind [] rest 32 b b h.0 (space_first b) refl (other_ends b rest h.1.0) ∙ ap (λ (t : Texts). (b ∷ []) ∷ t) c.0,
  (h.1.1, c.1),
)
cut_mark (b ∷ d ∷ bs) rest qs h c = absurd h

is_blank : is_gap 32 ≡ true
unfolding is_gap
is_blank = refl

cut_space : (bs : List ℕ) (ps : Texts) → Cut bs ps → Cut (32 ∷ bs) ps
cut_space bs ps c = (gap_front 32 bs is_blank ∙ c.0, (refl, c.1))

-- Words and numbers

letter_joins : (b c : ℕ) → is_letter b ≡ true → is_word_byte c ≡ true → joins b c ≡ true
letter_joins b c l w = by (is_digit b && is_digit c) (is_letter b && is_word_byte c) (ap (λ t. t && is_word_byte c) l
    ∙ w)
  where
    by : (x y : Bool) → y ≡ true → (x || y) ≡ true
    by true y e = refl
    by false y e = e

word_joins : (b : ℕ) (bs : List ℕ) → is_letter b ≡ true → list_all is_word_byte bs ≡ true → list_all (joins b) bs ≡ true
word_joins b [] l h = refl
word_joins b (c ∷ cs) l h =
    let a = and_parts (is_word_byte c) (list_all is_word_byte cs) h in
    ap (λ t. t && list_all (joins b) cs) (letter_joins b c l a.0) ∙ word_joins b cs l a.1

letter_word : (b : ℕ) → is_letter b ≡ true → is_word_byte b ≡ true
unfolding is_word_byte
letter_word b l = ap (λ t. t || is_digit b) l

name_run : (name : List ℕ) → IsName name → IsRun name
name_run [] h = absurd cc
name_run (b ∷ bs) h =
    let a = and_parts (is_letter b) (list_all is_word_byte bs) h in (letter_word b a.0, word_joins b bs a.0 a.1)

own : IsNumeralModel (λ ds. all_ascii_digits ds ≡ true) (value_from 0)
own = numerals_by_fold (λ ds. all_ascii_digits ds ≡ true) tells_all_ascii_digits value_from (search rules)

digit_told : (d : ℕ) → is_ascii_digit d ≡ true → is_digit d ≡ true
unfolding is_digit
digit_told d e = grind (arith, nat_tests, e)

digit_word : (d : ℕ) → is_digit d ≡ true → is_word_byte d ≡ true
unfolding is_word_byte
digit_word d e = by (is_letter d) (is_digit d) e
  where
    by : (x y : Bool) → y ≡ true → (x || y) ≡ true
    by true y e = refl
    by false y e = e

digit_joins : (b c : ℕ) → is_digit b ≡ true → is_digit c ≡ true → joins b c ≡ true
digit_joins b c d e = ap (λ t. t || (is_letter b && is_word_byte c)) (ap (λ t. t && is_digit c) d ∙ e)

digits_run : (ds : List ℕ) → all_ascii_digits ds ≡ true → list_all is_word_byte ds ≡ true
digits_run [] h = refl
digits_run (d ∷ ds) h =
    let a = and_parts (is_ascii_digit d) (all_ascii_digits ds) h in
    ap (λ t. t && list_all is_word_byte ds) (digit_word d (digit_told d a.0)) ∙ digits_run ds a.1

digits_join : (b : ℕ) (ds : List ℕ) → is_digit b ≡ true → all_ascii_digits ds ≡ true → list_all (joins b) ds ≡ true
digits_join b [] d h = refl
digits_join b (c ∷ ds) d h =
    let a = and_parts (is_ascii_digit c) (all_ascii_digits ds) h in
    ap (λ t. t && list_all (joins b) ds) (digit_joins b c d (digit_told c a.0)) ∙ digits_join b ds d a.1

some_digit : decimal 0 ≡ [] → ⊥
unfolding digits
some_digit e = cc e

run_from : (n : ℕ) (ds : List ℕ) → ds ≡ decimal n → n ≡ value_from 0 ds → all_ascii_digits ds ≡ true → IsRun ds
run_from n [] e v h = some_digit (ap decimal (sym v) ∙ sym e)
run_from n (d ∷ ds) e v h =
    let a = and_parts (is_ascii_digit d) (all_ascii_digits ds) h in
    let digit = digit_told d a.0 in
    (digit_word d digit, digits_join d ds digit a.1)

number_run : (n : ℕ) → n < 2 ^ 64 → IsRun (decimal n)
number_run n less =
    run_from n (decimal n) refl (sym (digits_value-decimal own n less)) (digits_decimal own n less)

state_run : (q : ℕ) → IsState q → IsRun (state_text q)
unfolding is_word_byte is_letter is_digit
state_run q low =
    (refl, word_joins 115 (decimal q) refl (digits_run (decimal q) (digits_decimal own q (omega (arith, low)))))

datum_run : (d : Datum) → IsValue d → IsRun (datum_text d)
unfolding is_word_byte is_letter is_digit
datum_run Undefined h = (refl, refl)
datum_run (Known n) h = number_run n (omega (arith, h))

-- Pieces of which no two are one when they stand side by side, in front of a tail

abbrev IsApart : Texts → List ℕ → Type 0
IsApart [] tail = Unit {0}
IsApart (p ∷ ps) tail = (IsMark p ⊎ (IsRun p × (goes_on (concat ps ++ tail) ≡ false))) × IsApart ps tail

cut_piece : (p rest : List ℕ) (qs : Texts) → IsMark p ⊎ (IsRun p × (goes_on rest ≡ false)) → Cut rest qs
    → Cut (p ++ rest) (p ∷ qs)
cut_piece p rest qs (inl m) c = cut_mark p rest qs m c
cut_piece p rest qs (inr r) c = cut_run p rest qs r.0 r.1 c

cut_pieces : (ps : Texts) (tail : List ℕ) (qs : Texts) → IsApart ps tail → Cut tail qs
    → Cut (concat ps ++ tail) (ps ++ qs)
cut_pieces [] tail qs a c = c
cut_pieces (p ∷ ps) tail qs a c =
    subst (λ bytes. Cut bytes (p ∷ (ps ++ qs))) (sym (append_assoc p (concat ps) tail))
    (cut_piece p (concat ps ++ tail) (ps ++ qs) a.0 (cut_pieces ps tail qs a.1 c))

apart_append : (xs ys : Texts) (tail : List ℕ) → IsApart xs (concat ys ++ tail) → IsApart ys tail
    → IsApart (xs ++ ys) tail
apart_append [] ys tail a b = b
apart_append (p ∷ xs) ys tail a b = (here a.0, apart_append xs ys tail a.1 b)
  where
    moved : concat (xs ++ ys) ++ tail ≡ concat xs ++ (concat ys ++ tail)
    moved = ap (λ t. t ++ tail) (concat-append xs ys) ∙ append_assoc (concat xs) (concat ys) tail

    here : IsMark p ⊎ (IsRun p × (goes_on (concat xs ++ (concat ys ++ tail)) ≡ false))
        → IsMark p ⊎ (IsRun p × (goes_on (concat (xs ++ ys) ++ tail) ≡ false))
    here (inl m) = inl m
    here (inr r) = inr (r.0, ap goes_on moved ∙ r.1)

-- Marks

comma : IsMark (codes ",") × (is_word_byte 44 ≡ false)
unfolding is_word_byte is_letter is_digit is_gap
comma = ((refl, (refl, refl)), refl)

equals : IsMark (codes "=") × (is_word_byte 61 ≡ false)
unfolding is_word_byte is_letter is_digit is_gap
equals = ((refl, (refl, refl)), refl)

at_sign : IsMark (codes "@")
unfolding is_word_byte is_letter is_digit is_gap
at_sign = (refl, (refl, refl))

opening : IsMark (codes "(") × (is_word_byte 40 ≡ false)
unfolding is_word_byte is_letter is_digit is_gap
opening = ((refl, (refl, refl)), refl)

closing : IsMark (codes ")") × (is_word_byte 41 ≡ false)
unfolding is_word_byte is_letter is_digit is_gap
closing = ((refl, (refl, refl)), refl)

data_opening : IsMark (codes "[") × (is_word_byte 91 ≡ false)
unfolding is_word_byte is_letter is_digit is_gap
data_opening = ((refl, (refl, refl)), refl)

data_closing : IsMark (codes "]") × (is_word_byte 93 ≡ false)
unfolding is_word_byte is_letter is_digit is_gap
data_closing = ((refl, (refl, refl)), refl)

no_word : is_word_byte 32 ≡ false
unfolding is_word_byte is_letter is_digit
no_word = refl

-- Cells

slot_apart : (s : SlotText) (tail : List ℕ) → IsSlot s → goes_on tail ≡ false → IsApart (slot_pieces s) tail
slot_apart (Field name q) tail h ends =
    (inr (name_run name h.0, equals.1), (inl equals.0, (inr (state_run q h.1, ends), tt)))
slot_apart (Link name q) tail h ends =
    (inl at_sign, (inr (name_run name h.0, equals.1), (inl equals.0, (inr (state_run q h.1, ends), tt))))
slot_apart (Hook name) tail h ends = (inl at_sign, (inr (name_run name h, ends), tt))

datum_apart : (d : DatumText) (tail : List ℕ) → IsDatum d → goes_on tail ≡ false → IsApart (datum_pieces d) tail
datum_apart d tail h ends =
    (inr (name_run d.name h.0, equals.1), (inl equals.0, (inr (datum_run d.datum h.1, ends), tt)))

series_apart : {X : Type 0} (f : X → Texts) (P : X → Type 0)
    (each : (x : X) (tail : List ℕ) → P x → goes_on tail ≡ false → IsApart (f x) tail) (xs : List X) (tail : List ℕ)
    → Every P xs → goes_on tail ≡ false → IsApart (series (map f xs)) tail
series_apart f P each [] tail h ends = tt
series_apart f P each (x ∷ []) tail h ends = each x tail h.0 ends
series_apart f P each (x ∷ y ∷ ys) tail h ends =
    apart_append (f x) (codes "," ∷ series (map f (y ∷ ys))) tail
    (each x (concat (codes "," ∷ series (map f (y ∷ ys))) ++ tail) h.0 comma.1)
    (inl comma.0, series_apart f P each (y ∷ ys) tail h.1 ends)

data_apart : (ds : List DatumText) (tail : List ℕ) → Every IsDatum ds → IsApart (data_pieces ds) tail
data_apart [] tail h = tt
data_apart (d ∷ ds) tail h = (
  inl data_opening.0,
  apart_append (series (map datum_pieces (d ∷ ds))) (codes "]" ∷ []) tail
      (series_apart datum_pieces IsDatum datum_apart (d ∷ ds) (concat (codes "]" ∷ []) ++ tail) h data_closing.1)
      (inl data_closing.0, tt),
)

-- behind the struct stands a bracket
data_front : (ds : List DatumText) (rest : Texts) (tail : List ℕ)
    → goes_on (concat (data_pieces ds ++ (codes "(" ∷ rest)) ++ tail) ≡ false
data_front [] rest tail = opening.1
data_front (d ∷ ds) rest tail = data_opening.1

cell_apart : (shape : List ℕ) (ds : List DatumText) (slots : List SlotText) → IsTerm (Cell shape ds slots)
    → IsApart (term_pieces (Cell shape ds slots)) []
cell_apart shape ds slots h =
    let closed : Texts = series (map slot_pieces slots) ++ codes ")" ∷ [] in (
      inr (name_run shape h.0, data_front ds closed []),
      apart_append (data_pieces ds) (codes "(" ∷ closed) [] (data_apart ds (concat (codes "(" ∷ closed) ++ []) h.1) (
        inl opening.0,
        apart_append (series (map slot_pieces slots)) (codes ")" ∷ []) []
            (series_apart slot_pieces IsSlot slot_apart slots (concat (codes ")" ∷ []) ++ []) h.2 closing.1)
            (inl closing.0, tt),
      ),
    )

-- Terms

nothing : Cut [] []
nothing = (refl, tt)

only : (w : List ℕ) → IsRun w → Cut w (w ∷ [])
only w h = subst (λ bytes. Cut bytes (w ∷ [])) (append-nil w) (cut_run w [] [] h refl nothing)

cut_term : (t : Term) → IsTerm t → Cut (term_text t) (term_pieces t)
unfolding is_word_byte is_letter is_digit
cut_term Null h = only (codes "null") (refl, refl)
cut_term Uninit h = only (codes "uninit") (refl, refl)
cut_term Dangling h = only (codes "dangling") (refl, refl)
cut_term (Ref r) h =
    cut_run (codes "ref") (32 ∷ decimal r) (decimal r ∷ []) (refl, refl) no_word
    (cut_space (decimal r) (decimal r ∷ []) (only (decimal r) (number_run r (omega (arith, h)))))
cut_term (Cell shape ds slots) h =
    let ps = term_pieces (Cell shape ds slots) in
    subst (λ bytes. Cut bytes ps) (append-nil (concat ps))
    (subst (Cut (concat ps ++ [])) (append-nil ps) (cut_pieces ps [] [] (cell_apart shape ds slots h) nothing))

-- Lines

abbrev behind : Texts → List ℕ
behind ws = flat_map (λ v. codes " " ++ v) ws

stops : (ws : Texts) → goes_on (behind ws) ≡ false
stops [] = refl
stops (w ∷ ws) = no_word

next_word : (w : List ℕ) (ws qs : Texts) → IsRun w → Cut (behind ws) qs → Cut (behind (w ∷ ws)) (w ∷ qs)
next_word w ws qs h c = cut_space (w ++ behind ws) (w ∷ qs) (cut_run w (behind ws) qs h (stops ws) c)

first_word : (w : List ℕ) (ws qs : Texts) → IsRun w → Cut (behind ws) qs → Cut (w ++ behind ws) (w ∷ qs)
first_word w ws qs h c = cut_run w (behind ws) qs h (stops ws) c

next_states : (qs : List ℕ) → Every IsState qs → Cut (behind (map state_text qs)) (map state_text qs)
next_states [] h = nothing
next_states (q ∷ qs) h =
    next_word (state_text q) (map state_text qs) (map state_text qs) (state_run q h.0) (next_states qs h.1)

-- words with a space between two
abbrev body : Texts → List ℕ
body [] = []
body (w ∷ ws) = w ++ behind ws

-- the words of a line
abbrev words_of : Line → Texts
words_of Skipped = []
words_of (Opens name input output) = line_pieces (Opens name input output)
words_of (Root r qs) = line_pieces (Root r qs)
words_of (Rule q term) = state_text q ∷ codes "=" ∷ term_text term ∷ []
words_of Ends = line_pieces Ends

line_is : (l : Line) → line_text l ≡ body (words_of l) ++ 10 ∷ []
line_is Skipped = refl
line_is (Opens name input output) = refl
line_is (Root r qs) = refl
line_is (Rule q term) = refl
line_is Ends = refl

cut_output : (output : Option (List ℕ)) → IsOutput output → Cut (behind (output_pieces output)) (output_pieces output)
unfolding is_word_byte is_letter is_digit
cut_output None h = nothing
cut_output (Some name) h =
    next_word (codes "out") (name ∷ []) (name ∷ []) (refl, refl) (next_word name [] [] (name_run name h) nothing)

cut_opens : (name input : List ℕ) (output : Option (List ℕ)) → IsLine (Opens name input output)
    → Cut (body (words_of (Opens name input output))) (line_pieces (Opens name input output))
unfolding is_word_byte is_letter is_digit
cut_opens name input output h =
    let out = output_pieces output in
    first_word (codes "box") (name ∷ codes "in" ∷ input ∷ out) (name ∷ codes "in" ∷ input ∷ out) (refl, refl)
    (next_word name (codes "in" ∷ input ∷ out) (codes "in" ∷ input ∷ out) (name_run name h.0)
    (next_word (codes "in") (input ∷ out) (input ∷ out) (refl, refl)
    (next_word input out out (name_run input h.1) (cut_output output h.2))))

cut_root : (r : ℕ) (qs : List ℕ) → IsLine (Root r qs) → Cut (body (words_of (Root r qs))) (line_pieces (Root r qs))
unfolding is_word_byte is_letter is_digit
cut_root r qs h =
    first_word (codes "root") (decimal r ∷ map state_text qs) (decimal r ∷ map state_text qs) (refl, refl)
    (next_word (decimal r) (map state_text qs) (map state_text qs) (number_run r (omega (arith, h.0)))
    (next_states qs h.2))

cut_rule : (q : ℕ) (t : Term) → IsLine (Rule q t) → Cut (body (words_of (Rule q t))) (line_pieces (Rule q t))
cut_rule q t h =
    let term : Cut (term_text t ++ []) (term_pieces t) =
    subst (λ bytes. Cut bytes (term_pieces t)) (sym (append-nil (term_text t))) (cut_term t h.1) in
    first_word (state_text q) (codes "=" ∷ term_text t ∷ []) (codes "=" ∷ term_pieces t) (state_run q h.0)
    (cut_space (61 ∷ 32 ∷ (term_text t ++ [])) (codes "=" ∷ term_pieces t)
    (cut_mark (codes "=") (32 ∷ (term_text t ++ [])) (term_pieces t) equals.0
    (cut_space (term_text t ++ []) (term_pieces t) term)))

said : (l : Line) → IsLine l → Says (body (words_of l)) l × Every NoBreak (body (words_of l))
unfolding is_word_byte is_letter is_digit
said Skipped h = (tt, tt)
said (Opens name input output) h =
    let c = cut_opens name input output h in ((h, c.0), c.1)
said (Root r qs) h = let c = cut_root r qs h in ((h, c.0), c.1)
said (Rule q t) h = let c = cut_rule q t h in ((h, c.0), c.1)
said Ends h = let c = only (codes "end") (refl, refl) in ((h, c.0), c.1)

-- Texts of lines

line_front : (bytes rest : List ℕ) → Every NoBreak bytes → lines_of (bytes ++ 10 ∷ rest) ≡ bytes ∷ lines_of rest
line_front [] rest h = refl
line_front (b ∷ bytes) rest h = rw h.0 (ap (longer b) (line_front bytes rest h.1))

pub read_as_printed : (lines : List Line) → AreReadAsPrinted lines
read_as_printed [] h = tt
read_as_printed (l ∷ ls) h =
    let s = said l h.0 in
    let bytes = body (words_of l) in
    let text : lines_text (l ∷ ls) ≡ bytes ++ 10 ∷ lines_text ls =
    ap (λ t. t ++ lines_text ls) (line_is l) ∙ append_assoc bytes (10 ∷ []) (lines_text ls) in
    subst (λ (ts : Texts). Paired Says ts (l ∷ ls)) (sym (ap lines_of text ∙ line_front bytes (lines_text ls) s.1))
    (s.0, read_as_printed ls h.1)
