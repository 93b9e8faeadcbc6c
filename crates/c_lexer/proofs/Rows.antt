-- Worked texts with their tokens and refusals, each worked out by hand from the rules.
use Rattle.std.proofs.Common.{◌≡◌, ◌<◌, ◌+◌, ℕ, zero, suc, true, false, true≢false, List, [], ◌∷◌, length, take, drop}
use Rattle.std.proofs.Common.{refl, sym, subst, arith, inl, inr, codes}
use Rattle.fore_base.specs.declared.place.Place.{Place}
use Rattle.c_lexer.specs.Bytes.{is_letter, is_digit, is_word_byte, is_number_byte, is_gap, is_space, is_quote}
use Rattle.c_lexer.specs.Bytes.{is_newline, is_no_newline, is_solid}
use Rattle.c_lexer.specs.Lexemes.{IsLexeme}
use Rattle.c_lexer.specs.Lexemes.IsQuoteRest.{close, plain, escape}
use Rattle.c_lexer.specs.Places.{place_after, is_fresh}
use Rattle.c_lexer.specs.Skips.{Stands, Skips, IsInclude, IsUnclosed}
use Rattle.c_lexer.specs.Skips.Skips.{white_space, line_comment, block_comment, include_line}
use Rattle.c_lexer.specs.Tokens.{IsNext, Reads, Ending, Tokens, LacksToken, LacksClose}
use Rattle.c_lexer.specs.Tokens.Ending.{no_token, unclosed}
use Rattle.c_lexer.specs.Tokens.Reads.{ended, skip, next, stuck, open_comment}
use Rattle.c_lexer.specs.inner.Found.{IsFound}
use Rattle.c_lexer.specs.inner.Steps.{step_of}
use Rattle.c_lexer.specs.declared.step.Step.{Step}
use Rattle.c_lexer.specs.declared.step.Step.TheVariants.{Skip, Take, Unclosed, Nothing}
use Rattle.c_lexer.specs.declared.token.TokKind.{TokKind}
use Rattle.c_lexer.specs.declared.token.TokKind.TheVariants.{Word, Number, Mark, Quoted, Hash, Refused}
use Rattle.c_lexer.specs.declared.token.Token.{Token}
use Rattle.c_lexer.proofs.Sound.{sound}

abbrev place : ℕ → ℕ → ℕ → Place
place offset line column = record { offset = offset; line = line; column = column }

abbrev token : TokKind → List ℕ → Place → Token
token kind text at = record { kind = kind; text = text; at = at }

-- Places

the_start : place_after [] ≡ place 0 1 1
the_start = refl

behind_two_lines : place_after (codes "ab\n\nc") ≡ place 5 3 2
unfolding is_newline is_no_newline
behind_two_lines = refl

-- a tab and a carriage return are one column each
behind_a_tab : place_after (9 ∷ 13 ∷ []) ≡ place 2 1 3
unfolding is_newline is_no_newline
behind_a_tab = refl

fresh_at_first : is_fresh [] ≡ true
fresh_at_first = refl

fresh_behind_gaps : is_fresh (97 ∷ 10 ∷ 32 ∷ 9 ∷ []) ≡ true
unfolding is_gap is_no_newline
fresh_behind_gaps = refl

not_fresh_behind_a_byte : is_fresh (10 ∷ 97 ∷ 32 ∷ []) ≡ false
unfolding is_gap is_no_newline
not_fresh_behind_a_byte = refl

not_fresh_behind_a_form_feed : is_fresh (12 ∷ []) ≡ false
unfolding is_gap is_no_newline
not_fresh_behind_a_form_feed = refl

-- Texts that are tokens of a kind, and texts that are not

a_word : IsLexeme Word (codes "_a1")
unfolding is_letter is_word_byte is_digit
a_word = (refl, (refl, (refl, tt)))

no_word : IsLexeme Word (codes "1a") → ⊥
unfolding is_letter
no_word h = true≢false (sym h.0)

no_empty_word : IsLexeme Word [] → ⊥
no_empty_word h = h

a_number : IsLexeme Number (codes "1.e")
unfolding is_digit is_number_byte is_word_byte is_letter
a_number = (refl, (refl, (refl, tt)))

no_number : IsLexeme Number (codes ".5") → ⊥
unfolding is_digit
no_number h = true≢false (sym h.0)

an_arrow : IsLexeme Mark (codes "->")
an_arrow = inl (inl refl)

two_bars : IsLexeme Mark (codes "||")
two_bars = inl (inr (inr (inr (inr (inl refl)))))

a_star : IsLexeme Mark (codes "*")
a_star = inr (inr (inr (inr (inr (inr (inr (inl refl)))))))

a_bar_is_refused : IsLexeme Refused (codes "|")
a_bar_is_refused = inr (inr (inr (inr (inr (inr (inr (inr (inr (inr (inr (inr (inl refl))))))))))))

an_and_is_refused : IsLexeme Refused (codes "&")
an_and_is_refused = inl refl

-- an apostrophe that is escaped closes nothing
a_quoted_apostrophe : IsLexeme Quoted (39 ∷ 92 ∷ 39 ∷ 39 ∷ [])
unfolding is_quote
a_quoted_apostrophe = (refl, escape refl (λ e. absurd (omega (arith, e))) (close refl))

a_quoted_letter : IsLexeme Quoted (34 ∷ 97 ∷ 34 ∷ [])
unfolding is_quote
a_quoted_letter = (
  refl,
  plain (λ e. absurd (omega (arith, e))) (λ e. absurd (omega (arith, e))) (λ e. absurd (omega (arith, e)))
      (close refl),
)

a_number_sign : IsLexeme Hash (codes "#")
a_number_sign = refl

-- What is passed over, and what is not

a_tab : Skips false (9 ∷ 97 ∷ []) 1
unfolding is_space
a_tab = white_space refl refl

not_two_tabs : Skips false (9 ∷ 9 ∷ []) 2 → ⊥
unfolding is_no_newline
not_two_tabs (white_space h e) = omega (arith, e)
not_two_tabs (line_comment h e) = let k = h.0 in omega (arith, k)
not_two_tabs (block_comment h k f e) = let l = h.0 in omega (arith, l)
not_two_tabs (include_line f h e) = let k = h.0.0 in omega (arith, k)

a_comment : Skips false (codes "/**/x") 4
a_comment = block_comment (refl, (refl, tt)) 0 ((refl, (refl, tt)), λ j l. absurd (omega (arith, l))) refl

it_is_closed : IsUnclosed (codes "/**/") → ⊥
it_is_closed h = h.1 0 (refl, (refl, tt))

it_is_not_closed : IsUnclosed (codes "/*/")
it_is_not_closed = ((refl, (refl, tt)), none)
  where
    none : (k : ℕ) → Stands (codes "*/") (drop k (codes "/")) → ⊥
    none zero h = let e = h.0 in omega (arith, e)
    none (suc zero) h = h
    none (suc (suc k)) h = h

-- spaces, tabs and carriage returns are taken out of it
an_include : IsInclude (codes "# include\t<stdlib.h> ")
unfolding is_solid
an_include = ((refl, tt), inl refl)

-- the longest text that is a token is the next one
not_the_shorter_mark : IsNext true (codes "->") Mark 1 → ⊥
not_the_shorter_mark h = h.3 2 Mark (omega arith) (omega arith) (inl (inl refl))

-- Readings. Each part is found by the rules where the reader's step says so.

module _ (text : List ℕ) (at : ℕ) (within : 0 < length (drop at text)) where
  found : (s : Step) → step_of (is_fresh (take at text)) (drop at text) ≡ s
      → IsFound (is_fresh (take at text)) (drop at text) s
  found s is = subst (IsFound (is_fresh (take at text)) (drop at text)) is
      (sound (is_fresh (take at text)) (drop at text) within)

  read : (kind : TokKind) (n : ℕ) {ts : List Token} {e : Ending} → step_of (is_fresh (take at text)) (drop at text)
      ≡ Take kind n → Reads text (at + n) ts e →
      Reads text at (token kind (take n (drop at text)) (place_after (take at text)) ∷ ts) e
  read kind n is more = next (found (Take kind n) is).0 refl refl more

  pass : (n : ℕ) {ts : List Token} {e : Ending} → step_of (is_fresh (take at text)) (drop at text) ≡ Skip n
      → Reads text (at + n) ts e → Reads text at ts e
  pass n is more = skip (found (Skip n) is).0 more

  refuse : step_of (is_fresh (take at text)) (drop at text) ≡ Nothing
      → Reads text at [] (no_token (place_after (take at text)))
  refuse is = stuck (found Nothing is) refl

  unclose : step_of (is_fresh (take at text)) (drop at text) ≡ Unclosed
      → Reads text at [] (unclosed (place_after (take at text)))
  unclose is = open_comment (found Unclosed is) refl

no_tokens : Tokens [] []
no_tokens = ended refl

an_access : Tokens (codes "p->x")
    (token Word (codes "p") (place 0 1 1) ∷ token Mark (codes "->") (place 1 1 2) ∷ token Word (codes "x") (place 3 1 4)
    ∷ [])
unfolding is_letter is_digit is_word_byte is_number_byte is_gap is_space is_quote is_newline is_no_newline is_solid
an_access =
    let t : List ℕ = codes "p->x" in
    read t 0 (omega arith) Word 1 refl
    (read t 1 (omega arith) Mark 2 refl (read t 3 (omega arith) Word 1 refl (ended refl)))

-- the longest mark is next
three_signs : Tokens (codes "===") (token Mark (codes "==") (place 0 1 1) ∷ token Mark (codes "=") (place 2 1 3) ∷ [])
unfolding is_letter is_digit is_word_byte is_number_byte is_gap is_space is_quote is_newline is_no_newline is_solid
three_signs =
    let t : List ℕ = codes "===" in
    read t 0 (omega arith) Mark 2 refl (read t 2 (omega arith) Mark 1 refl (ended refl))

-- a dot goes on with a number and ends a word; a number sign is read
a_mixture : Tokens (codes "1.a.#")
    (token Number (codes "1.a.") (place 0 1 1) ∷ token Hash (codes "#") (place 4 1 5) ∷ [])
unfolding is_letter is_digit is_word_byte is_number_byte is_gap is_space is_quote is_newline is_no_newline is_solid
a_mixture =
    let t : List ℕ = codes "1.a.#" in
    read t 0 (omega arith) Number 4 refl (read t 4 (omega arith) Hash 1 refl (ended refl))

-- an apostrophe in quotation marks is a byte like any other; then a letter
a_quotation : Tokens (34 ∷ 39 ∷ 34 ∷ 97 ∷ [])
    (token Quoted (34 ∷ 39 ∷ 34 ∷ []) (place 0 1 1) ∷ token Word (97 ∷ []) (place 3 1 4) ∷ [])
unfolding is_letter is_digit is_word_byte is_number_byte is_gap is_space is_quote is_newline is_no_newline is_solid
a_quotation =
    let t : List ℕ = 34 ∷ 39 ∷ 34 ∷ 97 ∷ [] in
    read t 0 (omega arith) Quoted 3 refl (read t 3 (omega arith) Word 1 refl (ended refl))

-- comments are passed over, and so is white space
two_comments : Tokens (codes "/***/a //b\n;")
    (token Word (codes "a") (place 5 1 6) ∷ token Mark (codes ";") (place 11 2 1) ∷ [])
unfolding is_letter is_digit is_word_byte is_number_byte is_gap is_space is_quote is_newline is_no_newline is_solid
two_comments =
    let t : List ℕ = codes "/***/a //b\n;" in
    pass t 0 (omega arith) 5 refl
    (read t 5 (omega arith) Word 1 refl
    (pass t 6 (omega arith) 1 refl
    (pass t 7 (omega arith) 3 refl
    (pass t 10 (omega arith) 1 refl (read t 11 (omega arith) Mark 1 refl (ended refl))))))

-- an include line is passed over up to its newline, and another line that begins so is read
an_include_line : Tokens (codes "#include <assert.h>\n#x")
    (token Hash (codes "#") (place 20 2 1) ∷ token Word (codes "x") (place 21 2 2) ∷ [])
unfolding is_letter is_digit is_word_byte is_number_byte is_gap is_space is_quote is_newline is_no_newline is_solid
an_include_line =
    let t : List ℕ = codes "#include <assert.h>\n#x" in
    pass t 0 (omega arith) 19 refl
    (pass t 19 (omega arith) 1 refl
    (read t 20 (omega arith) Hash 1 refl (read t 21 (omega arith) Word 1 refl (ended refl))))

-- Refusals

-- behind a token and on the second line
an_at_sign : LacksToken (codes "a\n @") (place 3 2 2)
unfolding is_letter is_digit is_word_byte is_number_byte is_gap is_space is_quote is_newline is_no_newline is_solid
an_at_sign =
    let t : List ℕ = codes "a\n @" in (
      token Word (codes "a") (place 0 1 1) ∷ [],
      read t 0 (omega arith) Word 1 refl
          (pass t 1 (omega arith) 1 refl (pass t 2 (omega arith) 1 refl (refuse t 3 (omega arith) refl))),
    )

-- a quotation that a newline cuts
a_cut_quotation : LacksToken (34 ∷ 97 ∷ 10 ∷ 34 ∷ []) (place 0 1 1)
unfolding is_letter is_digit is_word_byte is_number_byte is_gap is_space is_quote is_newline is_no_newline is_solid
a_cut_quotation = ([], refuse (34 ∷ 97 ∷ 10 ∷ 34 ∷ []) 0 (omega arith) refl)

-- the star that opens a comment closes nothing
an_open_comment : LacksClose (codes "/**//*/") (place 4 1 5)
unfolding is_letter is_digit is_word_byte is_number_byte is_gap is_space is_quote is_newline is_no_newline is_solid
an_open_comment =
    let t : List ℕ = codes "/**//*/" in
    ([], pass t 0 (omega arith) 4 refl (unclose t 4 (omega arith) refl))
