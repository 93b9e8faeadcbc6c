-- What the reader's step finds is what the rules give.
use Rattle.std.proofs.Common.{◌≡◌, ◌≢◌, ℕ, zero, suc, ◌<◌, ◌≤◌, Bool, true, false, cond, eqb, ◌&&◌, ◌||◌, List, [], ◌∷◌}
use Rattle.std.proofs.Common.{length, take, drop, get_or, Option, Some, None, refl, sym, ap, ◌∙◌, subst, arith, inl}
use Rattle.std.proofs.Common.{inr, codes, one-add}
use Rattle.std.specs.List.{prefix_len, list_any}
use Rattle.std.proofs.lemmas.Bool.{eqb-true, eq-eqb, false≢true, and_parts, and_from, or_left, or_right}
use Rattle.std.proofs.lemmas.List.Sums.{prefix_len-le-length}
use Rattle.fore_base.specs.Lists.{Every}
use Rattle.c_lexer.specs.Bytes.{is_letter, is_digit, is_word_byte, is_number_byte, is_no_newline}
use Rattle.c_lexer.specs.Lexemes.{IsLexeme, IsQuoteRest, short_marks, refused_marks}
use Rattle.c_lexer.specs.Skips.{Stands, first_line, IsInclude, Skips}
use Rattle.c_lexer.specs.Skips.Skips.{white_space, line_comment, block_comment, include_line}
use Rattle.c_lexer.specs.Tokens.{IsOther}
use Rattle.c_lexer.specs.inner.Found.{IsFound}
use Rattle.c_lexer.specs.inner.Steps.{class_of, class_step, step_of, quote_step, quote_end, comment_step, comment_end}
use Rattle.c_lexer.specs.inner.Steps.{sharp_step, sign_step, mark_step, is_include, is_long_mark}
use Rattle.c_lexer.specs.declared.class.Class.{Class}
use Rattle.c_lexer.specs.declared.class.Class.TheVariants.{Space, Letter, Digit, Quote, Sharp, Sign}
use Rattle.c_lexer.specs.declared.step.Step.TheVariants.{Skip, Take, Nothing}
use Rattle.c_lexer.specs.declared.token.TokKind.{TokKind}
use Rattle.c_lexer.specs.declared.token.TokKind.TheVariants.{Word, Number, Mark, Quoted, Hash, Refused}
use Rattle.fore_base.proofs.ListLemmas.{number_in}
use Rattle.c_lexer.proofs.Classes.{class_tells, Tells, space_class, slash_class, sharp_class, lexeme_class}
use Rattle.c_lexer.proofs.Classes.{lexeme_not_empty, quote_plain}
use Rattle.c_lexer.proofs.Closings.{FrontIs, Inside, quotation, ClosingIs, closing}
use Rattle.c_lexer.proofs.Includes.{line_length, line_cons, line_positive, sharp_no_newline, slash_no_newline}
use Rattle.c_lexer.proofs.Includes.{include_sharp, include_from, include_to}
use Rattle.c_lexer.proofs.Runs.{front_passes, longer_fails}
use Rattle.c_lexer.proofs.Signs.{long_from_test, long_second, sign_short, sign_pair, sign_single}

told : (b : ℕ) (c : Class) → class_of b ≡ c → Tells b c
told b c e = subst (Tells b) e (class_tells b)

-- only white space, a slash and a number sign begin what is passed over
other_by_class : (fresh : Bool) (b : ℕ) (bs : List ℕ) → class_of b ≢ Space → class_of b ≢ Sign
    → (fresh ≡ true → IsInclude (first_line (b ∷ bs)) → ⊥) → IsOther fresh (b ∷ bs)
other_by_class fresh b bs no_space no_sign no_include = (no_skip, λ u. no_sign (slash_class b u.0.0))
  where
    no_skip : (n : ℕ) → Skips fresh (b ∷ bs) n → ⊥
    no_skip n (white_space h e) = no_space (space_class b h)
    no_skip n (line_comment h e) = no_sign (slash_class b h.0)
    no_skip n (block_comment h k f e) = no_sign (slash_class b h.0)
    no_skip n (include_line f h e) = no_include f h

not_sharp : (b : ℕ) (bs : List ℕ) → class_of b ≢ Sharp → IsInclude (first_line (b ∷ bs)) → ⊥
not_sharp b bs no_sharp h = no_sharp (sharp_class b (include_sharp b bs h))

word_back : (kind : TokKind) (b : ℕ) (xs : List ℕ) → class_of b ≡ Letter → IsLexeme kind (b ∷ xs)
    → Every (λ c. is_word_byte c ≡ true) xs
word_back Word b xs e h = h.1
word_back Number b xs e h = let k = lexeme_class Number b xs h in cc
word_back Mark b xs e h = let k = lexeme_class Mark b xs h in cc
word_back Quoted b xs e h = let k = lexeme_class Quoted b xs h in cc
word_back Hash b xs e h = let k = lexeme_class Hash b xs h in cc
word_back Refused b xs e h = let k = lexeme_class Refused b xs h in cc

number_back : (kind : TokKind) (b : ℕ) (xs : List ℕ) → class_of b ≡ Digit → IsLexeme kind (b ∷ xs)
    → Every (λ c. is_number_byte c ≡ true) xs
number_back Word b xs e h = let k = lexeme_class Word b xs h in cc
number_back Number b xs e h = h.1
number_back Mark b xs e h = let k = lexeme_class Mark b xs h in cc
number_back Quoted b xs e h = let k = lexeme_class Quoted b xs h in cc
number_back Hash b xs e h = let k = lexeme_class Hash b xs h in cc
number_back Refused b xs e h = let k = lexeme_class Refused b xs h in cc

quoted_back : (kind : TokKind) (b : ℕ) (xs : List ℕ) → class_of b ≡ Quote → IsLexeme kind (b ∷ xs) → IsQuoteRest b xs
quoted_back Word b xs e h = let k = lexeme_class Word b xs h in cc
quoted_back Number b xs e h = let k = lexeme_class Number b xs h in cc
quoted_back Mark b xs e h = let k = lexeme_class Mark b xs h in cc
quoted_back Quoted b xs e h = h.1
quoted_back Hash b xs e h = let k = lexeme_class Hash b xs h in cc
quoted_back Refused b xs e h = let k = lexeme_class Refused b xs h in cc

hash_back : (kind : TokKind) (b : ℕ) (xs : List ℕ) → class_of b ≡ Sharp → IsLexeme kind (b ∷ xs) → xs ≡ []
hash_back Word b xs e h = let k = lexeme_class Word b xs h in cc
hash_back Number b xs e h = let k = lexeme_class Number b xs h in cc
hash_back Mark b xs e h = let k = lexeme_class Mark b xs h in cc
hash_back Quoted b xs e h = let k = lexeme_class Quoted b xs h in cc
hash_back Hash b xs e h = cc
hash_back Refused b xs e h = let k = lexeme_class Refused b xs h in cc

-- a token of a class that runs on as long as the bytes pass
run_found : (fresh : Bool) (kind : TokKind) (later : ℕ → Bool) (b : ℕ) (bs : List ℕ) → later b ≡ true
    → IsOther fresh (b ∷ bs) →
    ((xs : List ℕ) → Every (λ c. later c ≡ true) xs → IsLexeme kind (b ∷ xs)) →
    ((other : TokKind) (xs : List ℕ) → IsLexeme other (b ∷ xs) → Every (λ c. later c ≡ true) xs) →
    IsFound fresh (b ∷ bs) (Take kind (prefix_len later (b ∷ bs)))
run_found fresh kind later b bs e other forth back =
    let size : suc (prefix_len later bs) ≡ prefix_len later (b ∷ bs) = rw (e, one-add) refl in
    subst (λ n. IsFound fresh (b ∷ bs) (Take kind n)) size found
  where
    longer : (m : ℕ) (k : TokKind) → suc (prefix_len later bs) < m → m ≤ length (b ∷ bs) → IsLexeme k (take m (b ∷ bs))
        → ⊥
    longer zero k less within h = absurd (omega arith)
    longer (suc m) k less within h = longer_fails later bs m (omega arith) (omega arith) (back k (take m bs) h)

    short : suc (prefix_len later bs) ≤ length (b ∷ bs)
    short = omega (arith, prefix_len-le-length later bs)

    found : IsFound fresh (b ∷ bs) (Take kind (suc (prefix_len later bs)))
    found = ((other, short, forth (take (prefix_len later bs) bs) (front_passes later bs), longer), omega arith, short)

letter_in_word : (c : ℕ) → is_letter c ≡ true → is_word_byte c ≡ true
unfolding is_word_byte
letter_in_word c h = rw h refl

digit_in_number : (c : ℕ) → is_digit c ≡ true → is_number_byte c ≡ true
unfolding is_number_byte is_word_byte
digit_in_number c h = or_left (is_letter c || is_digit c) (eqb c 46) (or_right (is_letter c) (is_digit c) h)

letter_found : (fresh : Bool) (b : ℕ) (bs : List ℕ) → class_of b ≡ Letter
    → IsFound fresh (b ∷ bs) (Take Word (prefix_len is_word_byte (b ∷ bs)))
letter_found fresh b bs e =
    run_found fresh Word is_word_byte b bs (letter_in_word b (told b Letter e))
    (other_by_class fresh b bs (λ f. cc) (λ f. cc) (λ f. not_sharp b bs (λ g. cc)))
    (λ xs h. (told b Letter e, h)) (λ k xs h. word_back k b xs e h)

digit_found : (fresh : Bool) (b : ℕ) (bs : List ℕ) → class_of b ≡ Digit
    → IsFound fresh (b ∷ bs) (Take Number (prefix_len is_number_byte (b ∷ bs)))
digit_found fresh b bs e =
    run_found fresh Number is_number_byte b bs (digit_in_number b (told b Digit e))
    (other_by_class fresh b bs (λ f. cc) (λ f. cc) (λ f. not_sharp b bs (λ g. cc)))
    (λ xs h. (told b Digit e, h)) (λ k xs h. number_back k b xs e h)

quote_found : (fresh : Bool) (b : ℕ) (bs : List ℕ) → class_of b ≡ Quote
    → IsFound fresh (b ∷ bs) (quote_step (quote_end b false 1 bs))
quote_found fresh b bs e =
    let plain = quote_plain b (told b Quote e) in
    by_end (quote_end b false 1 bs) (quotation b plain.0 plain.1 bs false 1)
  where
    other : IsOther fresh (b ∷ bs)
    other = other_by_class fresh b bs (λ f. cc) (λ f. cc) (λ f. not_sharp b bs (λ g. cc))

    by_end : (o : Option ℕ) → FrontIs (Inside b false) bs 1 o → IsFound fresh (b ∷ bs) (quote_step o)
    by_end None found = (other, λ f. cc, stuck)
      where
        stuck : (m : ℕ) (kind : TokKind) → IsLexeme kind (take m (b ∷ bs)) → ⊥
        stuck zero kind h = lexeme_not_empty kind h
        stuck (suc m) kind h = found m (quoted_back kind b (take m bs) e h)
    by_end (Some n) found = subst (λ m. IsFound fresh (b ∷ bs) (Take Quoted m)) size next
      where
        size : suc found.0 ≡ n
        size = omega (arith, found.1)

        short : suc found.0 ≤ length (b ∷ bs)
        short = omega (arith, found.2)

        longer : (m : ℕ) (k : TokKind) → suc found.0 < m → m ≤ length (b ∷ bs) → IsLexeme k (take m (b ∷ bs)) → ⊥
        longer zero k less within h = absurd (omega arith)
        longer (suc m) k less within h = found.4 m (omega arith) (omega arith) (quoted_back k b (take m bs) e h)

        next : IsFound fresh (b ∷ bs) (Take Quoted (suc found.0))
        next = ((other, short, (told b Quote e, found.3), longer), omega arith, short)

hash_found : (fresh : Bool) (b : ℕ) (bs : List ℕ) → class_of b ≡ Sharp
    → (fresh ≡ true → IsInclude (first_line (b ∷ bs)) → ⊥) → IsFound fresh (b ∷ bs) (Take Hash 1)
hash_found fresh b bs e no_include = (
  (other_by_class fresh b bs (λ f. cc) (λ f. cc) no_include, omega arith, is_hash, longer bs),
  omega arith,
  omega arith,
)
  where
    is_hash : IsLexeme Hash (b ∷ [])
    is_hash = ap (λ x. x ∷ []) (told b Sharp e)

    longer : (bs : List ℕ) (m : ℕ) (k : TokKind) → 1 < m → m ≤ length (b ∷ bs) → IsLexeme k (take m (b ∷ bs)) → ⊥
    longer bs zero k less within h = absurd (omega arith)
    longer bs (suc zero) k less within h = absurd (omega arith)
    longer [] (suc (suc m)) k less within h = absurd (omega arith)
    longer (c ∷ cs) (suc (suc m)) k less within h = let none = hash_back k b (c ∷ take m cs) e h in cc

sharp_found : (fresh : Bool) (b : ℕ) (bs : List ℕ) → class_of b ≡ Sharp
    → IsFound fresh (b ∷ bs) (sharp_step fresh (b ∷ bs))
sharp_found fresh b bs e = by_test (fresh && is_include (first_line (b ∷ bs))) refl
  where
    by_test : (v : Bool) → (fresh && is_include (first_line (b ∷ bs))) ≡ v
        → IsFound fresh (b ∷ bs) (cond v (Skip (prefix_len is_no_newline (b ∷ bs))) (Take Hash 1))
    by_test true t =
        let p = and_parts fresh (is_include (first_line (b ∷ bs))) t in
        let sharp = told b Sharp e in
        let front : Stands (codes "#") (first_line (b ∷ bs)) =
        rw (line_cons b bs (sharp_no_newline b sharp)) (sym sharp, tt) in (
          include_line p.0 (front, include_from (first_line (b ∷ bs)) p.1) (line_length (b ∷ bs)),
          line_positive b bs (sharp_no_newline b sharp),
          prefix_len-le-length is_no_newline (b ∷ bs),
        )
    by_test false t = hash_found fresh b bs e
        (λ f h.
        false≢true (sym t ∙ and_from fresh (is_include (first_line (b ∷ bs))) f (include_to (first_line (b ∷ bs)) h.1)))

-- the two slashes or the slash and the star that the code tests for
stands_from_test : (b x : ℕ) (bs : List ℕ) → (0 ≡ x → ⊥) → (eqb b 47 && eqb (get_or bs 0 0) x) ≡ true
    → Stands (47 ∷ (x ∷ [])) (b ∷ bs)
stands_from_test b x bs positive t = by_rest bs (and_parts (eqb b 47) (eqb (get_or bs 0 0) x) t)
  where
    by_rest : (bs : List ℕ) → (eqb b 47 ≡ true) × (eqb (get_or bs 0 0) x ≡ true) → Stands (47 ∷ (x ∷ [])) (b ∷ bs)
    by_rest [] p = absurd (positive (eqb-true 0 x p.1))
    by_rest (c ∷ cs) p = (sym (eqb-true b 47 p.0), (sym (eqb-true c x p.1), tt))

pub test_from_stands : (b x : ℕ) (bs : List ℕ) → Stands (47 ∷ (x ∷ [])) (b ∷ bs) → (eqb b 47 && eqb (get_or bs 0 0) x)
    ≡ true
test_from_stands b x [] h = absurd h.1
test_from_stands b x (c ∷ cs) h = and_from (eqb b 47) (eqb c x) (eq-eqb b 47 (sym h.0)) (eq-eqb c x (sym h.1.0))

comment_found : (fresh : Bool) (rest : List ℕ) (o : Option ℕ) → Stands (codes "/*") rest → ClosingIs (drop 2 rest) 2 o
    → IsFound fresh rest (comment_step o)
comment_found fresh rest None front closed = (front, closed)
comment_found fresh [] (Some n) front closed = absurd front
comment_found fresh (b ∷ []) (Some n) front closed = absurd front.1
comment_found fresh (b ∷ (c ∷ cs)) (Some n) front closed = (
  block_comment front closed.0 closed.1 (omega (arith, closed.2)),
  omega (arith, closed.2),
  omega (arith, closed.2, closed.3),
)

module _ (fresh : Bool) (b : ℕ) (sign : class_of b ≡ Sign) where
  sign_other : (bs : List ℕ) → (eqb b 47 && eqb (get_or bs 0 0) 47) ≡ false → (eqb b 47 && eqb (get_or bs 0 0) 42)
      ≡ false → IsOther fresh (b ∷ bs)
  sign_other bs line block = (no_skip, λ u. false≢true (sym block ∙ test_from_stands b 42 bs u.0))
    where
      no_skip : (n : ℕ) → Skips fresh (b ∷ bs) n → ⊥
      no_skip n (white_space h e) = let k = space_class b h in cc
      no_skip n (line_comment h e) = false≢true (sym line ∙ test_from_stands b 47 bs h)
      no_skip n (block_comment h k f e) = false≢true (sym block ∙ test_from_stands b 42 bs h)
      no_skip n (include_line f h e) = let k = sharp_class b (include_sharp b bs h) in cc

  longer_than_one : (bs : List ℕ) → is_long_mark b (get_or bs 0 0) ≡ false → (m : ℕ) (k : TokKind) → 1 < m
      → m ≤ length (b ∷ bs) → IsLexeme k (take m (b ∷ bs)) → ⊥
  longer_than_one bs f zero k less within h = absurd (omega arith)
  longer_than_one bs f (suc zero) k less within h = absurd (omega arith)
  longer_than_one [] f (suc (suc m)) k less within h = absurd (omega arith)
  longer_than_one (c ∷ cs) f (suc (suc zero)) k less within h = sign_pair k b c sign f h
  longer_than_one (c ∷ []) f (suc (suc (suc m))) k less within h = absurd (omega arith)
  longer_than_one (c ∷ (d ∷ ds)) f (suc (suc (suc m))) k less within h = sign_short k b c d (take m ds) sign h

  longer_than_two : (c : ℕ) (cs : List ℕ) → (m : ℕ) (k : TokKind) → 2 < m → m ≤ length (b ∷ (c ∷ cs))
      → IsLexeme k (take m (b ∷ (c ∷ cs))) → ⊥
  longer_than_two c cs zero k less within h = absurd (omega arith)
  longer_than_two c cs (suc zero) k less within h = absurd (omega arith)
  longer_than_two c cs (suc (suc zero)) k less within h = absurd (omega arith)
  longer_than_two c [] (suc (suc (suc m))) k less within h = absurd (omega arith)
  longer_than_two c (d ∷ ds) (suc (suc (suc m))) k less within h = sign_short k b c d (take m ds) sign h

  no_mark : (bs : List ℕ) → is_long_mark b (get_or bs 0 0) ≡ false → list_any (λ x. eqb x b) short_marks ≡ false
      → list_any (λ x. eqb x b) refused_marks ≡ false →
      (m : ℕ) (k : TokKind) → IsLexeme k (take m (b ∷ bs)) → ⊥
  no_mark bs f g h zero k l = lexeme_not_empty k l
  no_mark bs f g h (suc zero) k l = sign_single k b sign g h l
  no_mark [] f g h (suc (suc m)) k l = sign_single k b sign g h l
  no_mark (c ∷ cs) f g h (suc (suc zero)) k l = sign_pair k b c sign f l
  no_mark (c ∷ []) f g h (suc (suc (suc m))) k l = sign_pair k b c sign f l
  no_mark (c ∷ (d ∷ ds)) f g h (suc (suc (suc m))) k l = sign_short k b c d (take m ds) sign l

  long_found : (bs : List ℕ) → IsOther fresh (b ∷ bs) → is_long_mark b (get_or bs 0 0) ≡ true
      → IsFound fresh (b ∷ bs) (Take Mark 2)
  long_found [] other t = absurd (long_second b t)
  long_found (c ∷ cs) other t =
      ((other, omega arith, inl (long_from_test b c t), longer_than_two c cs), omega arith, omega arith)

  mark_found : (bs : List ℕ) → IsOther fresh (b ∷ bs) → IsFound fresh (b ∷ bs) (mark_step b (get_or bs 0 0))
  mark_found bs other = by_tests (is_long_mark b (get_or bs 0 0)) (list_any (λ x. eqb x b) short_marks)
      (list_any (λ x. eqb x b) refused_marks) refl refl refl
    where
      by_tests : (l s r : Bool) → is_long_mark b (get_or bs 0 0) ≡ l → list_any (λ x. eqb x b) short_marks ≡ s
          → list_any (λ x. eqb x b) refused_marks ≡ r →
          IsFound fresh (b ∷ bs) (cond l (Take Mark 2) (cond s (Take Mark 1) (cond r (Take Refused 1) Nothing)))
      by_tests true s r el es er = long_found bs other el
      by_tests false true r el es er =
          ((other, omega arith, inr (number_in b short_marks es), longer_than_one bs el), omega arith, omega arith)
      by_tests false false true el es er =
          ((other, omega arith, number_in b refused_marks er, longer_than_one bs el), omega arith, omega arith)
      by_tests false false false el es er = (other, λ f. cc, no_mark bs el es er)

  sign_found : (bs : List ℕ) → IsFound fresh (b ∷ bs) (sign_step (b ∷ bs))
  sign_found bs = by_tests (eqb b 47 && eqb (get_or bs 0 0) 47) (eqb b 47 && eqb (get_or bs 0 0) 42) refl refl
    where
      by_tests : (l s : Bool) → (eqb b 47 && eqb (get_or bs 0 0) 47) ≡ l → (eqb b 47 && eqb (get_or bs 0 0) 42) ≡ s →
          IsFound fresh (b ∷ bs)
          (cond l (Skip (prefix_len is_no_newline (b ∷ bs)))
          (cond s (comment_step (comment_end 2 (drop 2 (b ∷ bs)))) (mark_step b (get_or bs 0 0))))
      by_tests true s el es =
          let front = stands_from_test b 47 bs (λ z. cc) el in (
            line_comment front (line_length (b ∷ bs)),
            line_positive b bs (slash_no_newline b front.0),
            prefix_len-le-length is_no_newline (b ∷ bs),
          )
      by_tests false true el es =
          comment_found fresh (b ∷ bs) _ (stands_from_test b 42 bs (λ z. cc) es) (closing (drop 2 (b ∷ bs)) 2)
      by_tests false false el es = mark_found bs (sign_other bs el es)

-- what stands at the front of a text that is not empty
pub sound : (fresh : Bool) (rest : List ℕ) → 0 < length rest → IsFound fresh rest (step_of fresh rest)
sound fresh [] h = absurd (omega arith)
sound fresh (b ∷ bs) h = by_class (class_of b) refl
  where
    by_class : (c : Class) → class_of b ≡ c → IsFound fresh (b ∷ bs) (class_step c fresh (b ∷ bs))
    by_class Space e = (white_space (told b Space e) refl, omega arith, omega arith)
    by_class Letter e = letter_found fresh b bs e
    by_class Digit e = digit_found fresh b bs e
    by_class Quote e = quote_found fresh b bs e
    by_class Sharp e = sharp_found fresh b bs e
    by_class Sign e = sign_found fresh b e bs
