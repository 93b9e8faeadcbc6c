-- Each text has one reading.
use Rattle.std.proofs.Common.{◌≡◌, ◌≢◌, ◌⊎◌, ℕ, zero, suc, ◌+◌, ◌<◌, ◌≤◌, Bool, true, false, cond, eqb, List, [], ◌∷◌}
use Rattle.std.proofs.Common.{length, take, drop, Option, Some, None, refl, sym, ap, ◌∙◌, subst, arith, inl, inr, codes}
use Rattle.std.specs.List.{prefix_len, list_any}
use Rattle.std.proofs.lemmas.Bool.{cases_order, cases_lt, and_from}
use Rattle.std.proofs.lemmas.List.{drop_all, length-drop}
use Rattle.fore_base.specs.declared.place.Place.{Place}
use Rattle.c_lexer.specs.Lexemes.{IsLexeme, short_marks, refused_marks}
use Rattle.c_lexer.specs.Bytes.{is_no_newline}
use Rattle.c_lexer.specs.Places.{is_fresh, place_after}
use Rattle.c_lexer.specs.Skips.{Stands, first_line, IsFirstClose, Skips, IsUnclosed}
use Rattle.c_lexer.specs.Skips.Skips.{white_space, line_comment, block_comment, include_line}
use Rattle.c_lexer.specs.inner.Steps.{class_of, class_step, step_of, comment_step, comment_end, sign_step, is_include}
use Rattle.c_lexer.specs.Tokens.{IsNext, Reads, Ending, Tokens, LacksToken, LacksClose}
use Rattle.c_lexer.specs.Tokens.Ending.{whole, no_token, unclosed}
use Rattle.c_lexer.specs.Tokens.Reads.{ended, skip, next, stuck, open_comment}
use Rattle.c_lexer.specs.inner.Found.{IsFound}
use Rattle.c_lexer.specs.declared.class.Class.{Class}
use Rattle.c_lexer.specs.declared.class.Class.TheVariants.{Space, Letter, Digit, Quote, Sharp, Sign}
use Rattle.c_lexer.specs.declared.step.Step.{Step}
use Rattle.c_lexer.specs.declared.step.Step.TheVariants.{Skip, Take, Unclosed, Nothing}
use Rattle.c_lexer.specs.declared.token.TokKind.{TokKind}
use Rattle.c_lexer.specs.declared.token.TokKind.TheVariants.{Word, Number, Mark, Quoted, Hash, Refused}
use Rattle.c_lexer.specs.declared.token.Token.{Token}
use Rattle.fore_base.proofs.ListLemmas.{every_in, in_number}
use Rattle.c_lexer.proofs.Classes.{lexeme_class, lexeme_not_empty, space_class, slash_class, sharp_class}
use Rattle.c_lexer.proofs.Closings.{ClosingIs, closing, first_close_once}
use Rattle.c_lexer.proofs.Includes.{line_length, include_sharp, include_to}
use Rattle.c_lexer.proofs.Signs.{one_not_long}
use Rattle.c_lexer.proofs.Sound.{sound, test_from_stands}

-- the kind of a text that is a token
abbrev is_marked : List ℕ → Bool
is_marked [] = false
is_marked (b ∷ []) = list_any (λ x. eqb x b) short_marks
is_marked (b ∷ (c ∷ bs)) = true

abbrev kind_by : Class → Bool → TokKind
kind_by Space marked = Word
kind_by Letter marked = Word
kind_by Digit marked = Number
kind_by Quote marked = Quoted
kind_by Sharp marked = Hash
kind_by Sign true = Mark
kind_by Sign false = Refused

abbrev kind_of : List ℕ → TokKind
kind_of [] = Word
kind_of (b ∷ bs) = kind_by (class_of b) (is_marked (b ∷ bs))

refused_not_marked : (b : ℕ) → IsLexeme Refused (b ∷ []) → list_any (λ x. eqb x b) short_marks ≡ false
refused_not_marked b i =
    every_in (λ q. list_any (λ x. eqb x q) short_marks ≡ false) refused_marks b (
      refl,
      (
        refl,
        (refl, (refl, (refl, (refl, (refl, (refl, (refl, (refl, (refl, (refl, (refl, (refl, (refl, tt))))))))))))),
      ),
    ) i

kind_is : (k : TokKind) (p : List ℕ) → IsLexeme k p → kind_of p ≡ k
kind_is k [] h = absurd (lexeme_not_empty k h)
kind_is Word (b ∷ bs) h = ap (λ c. kind_by c (is_marked (b ∷ bs))) (lexeme_class Word b bs h)
kind_is Number (b ∷ bs) h = ap (λ c. kind_by c (is_marked (b ∷ bs))) (lexeme_class Number b bs h)
kind_is Mark (b ∷ []) (inl h) = absurd (one_not_long b h)
kind_is Mark (b ∷ []) (inr h) = ap (λ c. kind_by c (is_marked (b ∷ []))) (lexeme_class Mark b [] (inr h))
    ∙ ap (kind_by Sign) (in_number b short_marks h)
kind_is Mark (b ∷ (c ∷ bs)) h = ap (λ k. kind_by k true) (lexeme_class Mark b (c ∷ bs) h)
kind_is Quoted (b ∷ bs) h = ap (λ c. kind_by c (is_marked (b ∷ bs))) (lexeme_class Quoted b bs h)
kind_is Hash (b ∷ bs) h = ap (λ c. kind_by c (is_marked (b ∷ bs))) (lexeme_class Hash b bs h)
kind_is Refused (b ∷ []) h = ap (λ c. kind_by c (is_marked (b ∷ []))) (lexeme_class Refused b [] h)
    ∙ ap (kind_by Sign) (refused_not_marked b h)
kind_is Refused (b ∷ (c ∷ bs)) h = absurd h

one_kind : (k l : TokKind) (p : List ℕ) → IsLexeme k p → IsLexeme l p → k ≡ l
one_kind k l p h g = sym (kind_is k p h) ∙ kind_is l p g

-- one token is next
next_once : (fresh : Bool) (rest : List ℕ) (k l : TokKind) (n m : ℕ) → IsNext fresh rest k n → IsNext fresh rest l m
    → (k ≡ l) × (n ≡ m)
next_once fresh rest k l n m h g =
    elim (cases_order n m) [
      | inl e ↦ (one_kind k l (take n rest) h.2 (subst (λ x. IsLexeme l (take x rest)) (sym e) g.2), e)
      | inr o ↦ absurd (elim o [ inl less ↦ h.3 m l less g.1 g.2 | inr more ↦ g.3 n k more h.1 h.2 ])
    ]

block_step : (b c : ℕ) (cs : List ℕ) → 47 ≡ b → 42 ≡ c → sign_step (b ∷ (c ∷ cs)) ≡ comment_step (comment_end 2 cs)
block_step b c cs e f = rw (← e, ← f) refl

closed_step : (cs : List ℕ) (k n : ℕ) → IsFirstClose cs k → n ≡ k + 4 → comment_step (comment_end 2 cs) ≡ Skip n
closed_step cs k n first e = by_end (comment_end 2 cs) (closing cs 2)
  where
    by_end : (o : Option ℕ) → ClosingIs cs 2 o → comment_step o ≡ Skip n
    by_end None found = absurd (found k first.0)
    by_end (Some m) found =
        let same = first_close_once cs found.0 k found.1 first in
        ap Skip (omega (arith, found.2))

line_step : (b : ℕ) (bs : List ℕ) → Stands (codes "//") (b ∷ bs) → sign_step (b ∷ bs)
    ≡ Skip (prefix_len is_no_newline (b ∷ bs))
line_step b bs h = rw (test_from_stands b 47 bs h) refl

-- what is passed over is what the step finds
skip_step : (fresh : Bool) (rest : List ℕ) (n : ℕ) → Skips fresh rest n → step_of fresh rest ≡ Skip n
skip_step fresh [] n (white_space h e) = absurd h
skip_step fresh [] n (line_comment h e) = absurd h
skip_step fresh [] n (block_comment h k f e) = absurd h
skip_step fresh [] n (include_line f h e) = absurd h.0
skip_step fresh (b ∷ bs) n (white_space h e) = ap (λ c. class_step c fresh (b ∷ bs)) (space_class b h) ∙ ap Skip (sym e)
skip_step fresh (b ∷ bs) n (line_comment h e) =
    ap (λ c. class_step c fresh (b ∷ bs)) (slash_class b h.0) ∙ line_step b bs h
    ∙ ap Skip (line_length (b ∷ bs) ∙ sym e)
skip_step fresh (b ∷ []) n (block_comment h k f e) = absurd h.1
skip_step fresh (b ∷ (c ∷ cs)) n (block_comment h k f e) =
    ap (λ x. class_step x fresh (b ∷ (c ∷ cs))) (slash_class b h.0) ∙ block_step b c cs h.0 h.1.0
    ∙ closed_step cs k n f e
skip_step fresh (b ∷ bs) n (include_line f h e) =
    ap (λ c. class_step c fresh (b ∷ bs)) (sharp_class b (include_sharp b bs h))
    ∙ ap (λ v. cond v (Skip (prefix_len is_no_newline (b ∷ bs))) (Take Hash 1))
    (and_from fresh (is_include (first_line (b ∷ bs))) f (include_to (first_line (b ∷ bs)) h.1))
    ∙ ap Skip (line_length (b ∷ bs) ∙ sym e)

skip_once : (fresh : Bool) (rest : List ℕ) (n m : ℕ) → Skips fresh rest n → Skips fresh rest m → n ≡ m
skip_once fresh rest n m h g = let e = sym (skip_step fresh rest n h) ∙ skip_step fresh rest m g in cc

-- the step is Unclosed where a comment is not closed
unclosed_no_skip : (fresh : Bool) (rest : List ℕ) (n : ℕ) → IsUnclosed rest → Skips fresh rest n → ⊥
unclosed_no_skip fresh [] n u s = u.0
unclosed_no_skip fresh (b ∷ []) n u s = u.0.1
unclosed_no_skip fresh (b ∷ (c ∷ cs)) n u s =
    let step : step_of fresh (b ∷ (c ∷ cs)) ≡ Skip n = skip_step fresh (b ∷ (c ∷ cs)) n s in
    let same : step_of fresh (b ∷ (c ∷ cs)) ≡ comment_step (comment_end 2 cs) =
    ap (λ x. class_step x fresh (b ∷ (c ∷ cs))) (slash_class b u.0.0) ∙ block_step b c cs u.0.0 u.0.1.0 in
    by_end (comment_end 2 cs) (closing cs 2) (sym same ∙ step)
  where
    by_end : (o : Option ℕ) → ClosingIs cs 2 o → comment_step o ≡ Skip n → ⊥
    by_end None found e = cc
    by_end (Some m) found e = u.1 found.0 found.1.0

skip_not_empty : (fresh : Bool) (rest : List ℕ) (n : ℕ) → Skips fresh rest n → rest ≢ []
skip_not_empty fresh [] n (white_space h e) f = h
skip_not_empty fresh [] n (line_comment h e) f = h
skip_not_empty fresh [] n (block_comment h k g e) f = h
skip_not_empty fresh [] n (include_line g h e) f = h.0
skip_not_empty fresh (b ∷ bs) n s f = cc

unclosed_not_empty : (rest : List ℕ) → IsUnclosed rest → rest ≢ []
unclosed_not_empty [] u f = u.0
unclosed_not_empty (b ∷ bs) u f = cc

next_not_empty : (fresh : Bool) (rest : List ℕ) (k : TokKind) (n : ℕ) → IsNext fresh rest k n → rest ≢ []
next_not_empty fresh [] k zero h f = lexeme_not_empty k h.2
next_not_empty fresh [] k (suc n) h f = lexeme_not_empty k h.2
next_not_empty fresh (b ∷ bs) k n h f = cc

token_same : (t u : Token) → t.kind ≡ u.kind → t.text ≡ u.text → t.at ≡ u.at → t ≡ u
token_same t u p q r =
    let made : TokKind → List ℕ → Place → Token = λ kind text at. record { kind = kind; text = text; at = at } in
    ap (λ kind. made kind t.text t.at) p ∙ ap (λ text. made u.kind text t.at) q ∙ ap (λ at. made u.kind u.text at) r

at_end : (text : List ℕ) (at : ℕ) → at ≡ length text → drop at text ≡ []
at_end text at e = drop_all at text (omega arith)

abbrev SameReading : List Token → Ending → List Token → Ending → Type 0
SameReading ts e us f = (ts ≡ us) × (e ≡ f)

more_tokens : (t u : Token) (ts us : List Token) (e f : Ending) → t ≡ u → SameReading ts e us f
    → SameReading (t ∷ ts) e (u ∷ us) f
more_tokens t u ts us e f p q = let r = q.0 in (cc, q.1)

-- from a place on a text reads in one way
pub one_reading : (text : List ℕ) {at : ℕ} {ts us : List Token} {e f : Ending} → Reads text at ts e → Reads text at us f
    → SameReading ts e us f
one_reading text (ended p) (ended q) = (refl, refl)
one_reading text {at = at} (ended p) (skip s r) = absurd (skip_not_empty _ _ _ s (at_end text at p))
one_reading text {at = at} (ended p) (next n t w r) = absurd (next_not_empty _ _ _ _ n (at_end text at p))
one_reading text {at = at} (ended p) (stuck s q) = absurd (s.1 (at_end text at p))
one_reading text {at = at} (ended p) (open_comment u q) = absurd (unclosed_not_empty _ u (at_end text at p))
one_reading text {at = at} (skip s r) (ended p) = absurd (skip_not_empty _ _ _ s (at_end text at p))
one_reading text {at = at} (skip {n = n} s r) (skip {n = m} {ts = us} {e = f} s' r') =
    let same : n ≡ m = skip_once _ _ n m s s' in
    one_reading text r (subst (λ x. Reads text (at + x) us f) (sym same) r')
one_reading text (skip {n = n} s r) (next o t w r') = absurd (o.0.0 n s)
one_reading text (skip {n = n} s r) (stuck o q) = absurd (o.0.0 n s)
one_reading text (skip s r) (open_comment u q) = absurd (unclosed_no_skip _ _ _ u s)
one_reading text {at = at} (next o t w r) (ended p) = absurd (next_not_empty _ _ _ _ o (at_end text at p))
one_reading text (next o t w r) (skip {n = n} s r') = absurd (o.0.0 n s)
one_reading text {at = at} (next {n = n} {t = t} {ts = ts} {e = e} o p w r)
    (next {n = m} {t = u} {ts = us} {e = f} o' p' w' r') =
    let both = next_once _ _ t.kind u.kind n m o o' in
    let text_same : t.text ≡ u.text = p ∙ ap (λ x. take x (drop at text)) both.1 ∙ sym p' in
    more_tokens t u ts us e f (token_same t u both.0 text_same (w ∙ sym w'))
    (one_reading text r (subst (λ x. Reads text (at + x) us f) (sym both.1) r'))
one_reading text (next {n = n} {t = t} o p w r) (stuck s q) = absurd (s.2 n t.kind o.2)
one_reading text (next o p w r) (open_comment u q) = absurd (o.0.1 u)
one_reading text {at = at} (stuck s q) (ended p) = absurd (s.1 (at_end text at p))
one_reading text (stuck o q) (skip {n = n} s r) = absurd (o.0.0 n s)
one_reading text (stuck s q) (next {n = n} {t = t} o p w r) = absurd (s.2 n t.kind o.2)
one_reading text (stuck s q) (stuck s' q') = (refl, ap no_token (q ∙ sym q'))
one_reading text (stuck s q) (open_comment u q') = absurd (s.0.1 u)
one_reading text {at = at} (open_comment u q) (ended p) = absurd (unclosed_not_empty _ u (at_end text at p))
one_reading text (open_comment u q) (skip s r) = absurd (unclosed_no_skip _ _ _ u s)
one_reading text (open_comment u q) (next o p w r) = absurd (o.0.1 u)
one_reading text (open_comment u q) (stuck s q') = absurd (s.0.1 u)
one_reading text (open_comment u q) (open_comment u' q') = (refl, ap unclosed (q ∙ sym q'))

-- a text has a reading from each place on
abbrev pub HasReading : List ℕ → ℕ → Type 0
HasReading text at = (ts : List Token) × ((e : Ending) × Reads text at ts e)

abbrev fresh_at : List ℕ → ℕ → Bool
fresh_at text at = is_fresh (take at text)

module _ (text : List ℕ) where
  has_step : (at : ℕ) (s : Step) → at ≤ length text → IsFound (fresh_at text at) (drop at text) s
      → ((n : ℕ) → 0 < n → at + n ≤ length text → HasReading text (at + n)) → HasReading text at
  has_step at (Skip n) within found later =
      let r = later n found.1 (omega (arith, length-drop at text, found.2)) in
      (r.0, (r.1.0, skip found.0 r.1.1))
  has_step at (Take kind n) within found later =
      let r = later n found.1 (omega (arith, length-drop at text, found.2)) in (
        record { kind = kind; text = take n (drop at text); at = place_after (take at text) } ∷ r.0,
        (r.1.0, next found.0 refl refl r.1.1),
      )
  has_step at Unclosed within found later = ([], (unclosed (place_after (take at text)), open_comment found refl))
  has_step at Nothing within found later = ([], (no_token (place_after (take at text)), stuck found refl))

  has_reading : (fuel at : ℕ) → at ≤ length text → length text ≤ at + fuel → HasReading text at
  has_reading zero at within enough = ([], (whole, ended (omega arith)))
  has_reading (suc fuel) at within enough =
      elim (cases_lt at (length text)) [
        | inl less ↦ has_step at (step_of (fresh_at text at) (drop at text)) within
            (sound (fresh_at text at) (drop at text) (omega (arith, length-drop at text)))
            (λ n positive short. has_reading fuel (at + n) short (omega arith))
        | inr over ↦ ([], (whole, ended (omega arith)))
      ]

  by_ending : (ts : List Token) (e : Ending) → Reads text 0 ts e →
      ((ts : List Token) × Tokens text ts)
      ⊎ (((place : Place) × LacksToken text place) ⊎ ((place : Place) × LacksClose text place))
  by_ending ts whole r = inl (ts, r)
  by_ending ts (no_token place) r = inr (inl (place, (ts, r)))
  by_ending ts (unclosed place) r = inr (inr (place, (ts, r)))

  -- a text has tokens or a refusal
  pub read_somehow : ((ts : List Token) × Tokens text ts)
      ⊎ (((place : Place) × LacksToken text place) ⊎ ((place : Place) × LacksClose text place))
  read_somehow = let r = has_reading (length text) 0 (omega arith) (omega arith) in by_ending r.0 r.1.0 r.1.1

-- endings of two forms differ
pub whole_no_token : {place : Place} → whole ≡ no_token place → ⊥
whole_no_token e = cc

pub whole_unclosed : {place : Place} → whole ≡ unclosed place → ⊥
whole_unclosed e = cc

pub no_token_unclosed : {here there : Place} → no_token here ≡ unclosed there → ⊥
no_token_unclosed e = cc

pub same_no_token : {here there : Place} → no_token here ≡ no_token there → here ≡ there
same_no_token e = cc

pub same_unclosed : {here there : Place} → unclosed here ≡ unclosed there → here ≡ there
same_unclosed e = cc
