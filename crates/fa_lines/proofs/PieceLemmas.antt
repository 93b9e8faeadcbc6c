-- Pieces from the front.
use Rattle.std.proofs.Common.{arith, ℕ, suc, Bool, true, false, List, [], ◌∷◌, ◌++◌, ◌≡◌, ◌<◌, refl, sym, ap, ◌∙◌}
use Rattle.std.proofs.Common.{take, drop, length, append_assoc, ◌≢◌, ◌+◌, cond, ◌&&◌, ◌||◌, subst}
use Rattle.std.proofs.lemmas.Bool.{and_parts}
use Rattle.std.proofs.lemmas.Bool.Decides.{nat_tests}
use Rattle.std.proofs.lemmas.List.{take-append-drop}
use Rattle.std.specs.List.{list_all, prefix_len}
use Rattle.c_lexer.specs.Bytes.{is_word_byte, is_letter, is_digit, is_gap}
use Rattle.fa_lines.specs.Pieces.{pieces, pieces_behind, joins, first_with, goes_on, longer}
use Rattle.fa_lines.specs.inner.Reading.{front_size, kept}

true_false : true ≡ false → ⊥
true_false e = grind arith

pub word_no_gap : (b : ℕ) → is_word_byte b ≡ true → is_gap b ≡ false
unfolding is_word_byte is_letter is_digit is_gap
word_no_gap b e = grind (arith, nat_tests)

-- What goes on a piece

digit_word : (b : ℕ) → is_digit b ≡ true → is_word_byte b ≡ true
unfolding is_word_byte
digit_word b e = by (is_letter b) (is_digit b) e
  where
    by : (l d : Bool) → d ≡ true → (l || d) ≡ true
    by true d e = refl
    by false d e = e

joined_by : (f d l w : Bool) → (d ≡ true → w ≡ true) → ((f && d) || (l && w)) ≡ true → w ≡ true
joined_by f d l true h e = refl
joined_by true true l false h e = h refl
joined_by true false true false h e = absurd (true_false (sym e))
joined_by true false false false h e = absurd (true_false (sym e))
joined_by false d true false h e = absurd (true_false (sym e))
joined_by false d false false h e = absurd (true_false (sym e))

-- what goes on a piece is a letter, a digit or an underscore
pub joins_word : (first b : ℕ) → joins first b ≡ true → is_word_byte b ≡ true
joins_word first b e = joined_by (is_digit first) (is_digit b) (is_letter first) (is_word_byte b) (digit_word b) e

-- another byte goes on none
pub joins_none : (first b : ℕ) → is_word_byte b ≡ false → joins first b ≡ false
joins_none first b other = by (joins first b) refl
  where
    by : (j : Bool) → joins first b ≡ j → j ≡ false
    by false is = refl
    by true is = absurd (true_false (sym (joins_word first b is) ∙ other))

no_first : (l d x y : Bool) → (l || d) ≡ false → ((d && x) || (l && y)) ≡ false
no_first true d x y e = absurd (true_false e)
no_first false true x y e = absurd (true_false e)
no_first false false x y e = refl

-- nothing goes on another byte
none_joins : (g b : ℕ) → is_word_byte g ≡ false → joins g b ≡ false
unfolding is_word_byte
none_joins g b other = no_first (is_letter g) (is_digit g) (is_digit b) (is_letter b || is_digit b) other

pub other_ends : (g : ℕ) (bs : List ℕ) → is_word_byte g ≡ false → goes_on g bs ≡ false
other_ends g [] other = refl
other_ends g (b ∷ bs) other = none_joins g b other

gap_no_word : (g : ℕ) → is_gap g ≡ true → is_word_byte g ≡ false
gap_no_word g gap = by (is_word_byte g) refl
  where
    by : (w : Bool) → is_word_byte g ≡ w → w ≡ false
    by false is = refl
    by true is = absurd (true_false (sym gap ∙ word_no_gap g is))

-- Pieces begin behind a space

space_ends : (bs : List ℕ) → goes_on 32 bs ≡ false
unfolding is_letter is_digit
space_ends [] = refl
space_ends (b ∷ bs) = refl

pub space_first : (b : ℕ) → first_with 32 b ≡ b
space_first b = ap (λ t. cond t 32 b) (space_ends (b ∷ []))

fresh : (f g : ℕ) (bs : List ℕ) → goes_on f bs ≡ false → goes_on g bs ≡ false → pieces_behind f bs ≡ pieces_behind g bs
fresh f g [] p q = refl
fresh f g (b ∷ bs) p q = ap (λ h. after h) (ap (λ t. cond t f b) p ∙ sym (ap (λ t. cond t g b) q))
  where
    after : ℕ → List (List ℕ)
    after h = cond (is_gap b) (pieces_behind h bs)
        (cond (goes_on h bs) (longer b (pieces_behind h bs)) ((b ∷ []) ∷ pieces_behind h bs))

anew : (f : ℕ) (bs : List ℕ) → goes_on f bs ≡ false → pieces_behind f bs ≡ pieces bs
anew f bs p = fresh f 32 bs p (space_ends bs)

-- a byte that is no space and no tab
byte_step : (g b first : ℕ) (bs : List ℕ) → is_gap b ≡ false → first_with g b ≡ first
    → pieces_behind g (b ∷ bs)
    ≡ cond (goes_on first bs) (longer b (pieces_behind first bs)) ((b ∷ []) ∷ pieces_behind first bs)
byte_step g b first bs gap is =
    ap (λ t. cond t (pieces_behind (first_with g b) bs) (placed (first_with g b))) gap ∙ ap placed is
  where
    placed : ℕ → List (List ℕ)
    placed h = cond (goes_on h bs) (longer b (pieces_behind h bs)) ((b ∷ []) ∷ pieces_behind h bs)

-- a piece: a byte with those that go on it
pub piece_behind : (bs rest : List ℕ) (g b first : ℕ) → is_gap b ≡ false → first_with g b ≡ first
    → list_all (joins first) bs ≡ true → goes_on first rest ≡ false
    → pieces_behind g (b ∷ (bs ++ rest)) ≡ (b ∷ bs) ∷ pieces rest
piece_behind [] rest g b first gap is all ends =
    byte_step g b first rest gap is
    ∙ ap (λ t. cond t (longer b (pieces_behind first rest)) ((b ∷ []) ∷ pieces_behind first rest)) ends
    ∙ ap (λ (ps : List (List ℕ)). (b ∷ []) ∷ ps) (anew first rest ends)
piece_behind (c ∷ cs) rest g b first gap is all ends =
    let a = and_parts (joins first c) (list_all (joins first) cs) all in
    let others = pieces_behind first (c ∷ (cs ++ rest)) in
    byte_step g b first (c ∷ (cs ++ rest)) gap is
    ∙ ap (λ t. cond t (longer b others) ((b ∷ []) ∷ others)) a.0
    ∙ ap (longer b)
    (piece_behind cs rest first c first (word_no_gap c (joins_word first c a.0)) (ap (λ t. cond t first c) a.0) a.1
    ends)

-- a space or a tab is no piece
pub gap_front : (b : ℕ) (bs : List ℕ) → is_gap b ≡ true → pieces (b ∷ bs) ≡ pieces bs
gap_front b bs gap =
    ap (λ t. cond t (pieces_behind (first_with 32 b) bs) other) gap
    ∙ ap (λ h. pieces_behind h bs) (space_first b) ∙ anew b bs (other_ends b bs (gap_no_word b gap))
  where
    other : List (List ℕ)
    other = cond (goes_on (first_with 32 b) bs) (longer b (pieces_behind (first_with 32 b) bs))
        ((b ∷ []) ∷ pieces_behind (first_with 32 b) bs)

-- The bytes that go on a piece

abbrev IsCutAt : ℕ → List ℕ → ℕ → Type 0
IsCutAt first bs k = (list_all (joins first) (take k bs) ≡ true) × (goes_on first (drop k bs) ≡ false)

cut_at : (first : ℕ) (bs : List ℕ) → IsCutAt first bs (prefix_len (joins first) bs)
cut_at first [] = (refl, refl)
cut_at first (b ∷ bs) = by (joins first b) refl (cut_at first bs)
  where
    by : (j : Bool) → joins first b ≡ j → IsCutAt first bs (prefix_len (joins first) bs)
        → IsCutAt first (b ∷ bs) (prefix_len (joins first) (b ∷ bs))
    by true is h =
        let more : 1 + prefix_len (joins first) bs ≡ suc (prefix_len (joins first) bs) = omega arith in
        subst (IsCutAt first (b ∷ bs)) (sym (ap (λ t. cond t (1 + prefix_len (joins first) bs) 0) is ∙ more))
        (ap (λ t. t && list_all (joins first) (take (prefix_len (joins first) bs) bs)) is ∙ h.0, h.1)
    by false is h =
        subst (IsCutAt first (b ∷ bs)) (sym (ap (λ t. cond t (1 + prefix_len (joins first) bs) 0) is)) (refl, is)

-- what stands in front of a line: a piece, or a space or a tab
piece_front : (b : ℕ) (bs : List ℕ) → is_gap b ≡ false
    → pieces (b ∷ bs) ≡ (b ∷ take (prefix_len (joins b) bs) bs) ∷ pieces (drop (prefix_len (joins b) bs) bs)
piece_front b bs gap =
    let h = cut_at b bs in
    let k = prefix_len (joins b) bs in
    ap (λ cs. pieces (b ∷ cs)) (sym (take-append-drop k bs))
    ∙ piece_behind (take k bs) (drop k bs) 32 b b gap (space_first b) h.0 h.1

none_on : (b : ℕ) (bs : List ℕ) → goes_on b bs ≡ false → prefix_len (joins b) bs ≡ 0
none_on b [] ends = refl
none_on b (c ∷ cs) ends = ap (λ t. cond t (1 + prefix_len (joins b) cs) 0) ends

abbrev IsSplit : ℕ → List ℕ → ℕ → Type 0
IsSplit b bs n = pieces (b ∷ bs) ≡ kept (take n (b ∷ bs)) ++ pieces (drop n (b ∷ bs))

split_by : (b : ℕ) (bs : List ℕ) (gap : Bool) → is_gap b ≡ gap → IsSplit b bs (front_size (b ∷ bs))
split_by b bs true is =
    let none = none_on b bs (other_ends b bs (gap_no_word b is)) in
    gap_front b bs is
    ∙ sym (ap (λ k. kept (b ∷ take k bs) ++ pieces (drop k bs)) none
    ∙ ap (λ t. cond t [] ((b ∷ []) ∷ []) ++ pieces bs) is)
split_by b bs false is =
    let k = prefix_len (joins b) bs in
    piece_front b bs is ∙ ap (λ t. cond t [] ((b ∷ take k bs) ∷ []) ++ pieces (drop k bs)) (sym is)

-- the piece in front is put to those that are there
pub pieces_next : (found more : List (List ℕ)) (rest : List ℕ) (all : List (List ℕ)) → 0 < length rest
    → more ≡ found ++ kept (take (front_size rest) rest) → found ++ pieces rest ≡ all
    → more ++ pieces (drop (front_size rest) rest) ≡ all
pieces_next found more [] all some put is = absurd (omega (arith, some))
pieces_next found more (b ∷ bs) all some put is =
    let piece = kept (take (front_size (b ∷ bs)) (b ∷ bs)) in
    let others = pieces (drop (front_size (b ∷ bs)) (b ∷ bs)) in
    ap (λ ps. ps ++ others) put ∙ append_assoc found piece others
    ∙ ap (λ ps. found ++ ps) (sym (split_by b bs (is_gap b) refl)) ∙ is

pub pieces_moved : (found more : List (List ℕ)) (rest front back : List ℕ) (all : List (List ℕ)) (n : ℕ)
    → (rest ≢ []) → n ≡ front_size rest → front ≡ take n rest → back ≡ drop n rest
    → more ≡ found ++ kept front → found ++ pieces rest ≡ all → more ++ pieces back ≡ all
pieces_moved found more [] front back all n some size here there put is = absurd (some refl)
pieces_moved found more (b ∷ bs) front back all n some size here there put is =
    ap (λ ps. more ++ pieces ps) (there ∙ ap (λ k. drop k (b ∷ bs)) size)
    ∙ pieces_next found more (b ∷ bs) all (omega arith)
    (put ∙ ap (λ ps. found ++ kept ps) (here ∙ ap (λ k. take k (b ∷ bs)) size)) is
