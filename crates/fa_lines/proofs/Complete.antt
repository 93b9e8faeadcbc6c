-- What is written so is read.
use Rattle.std.proofs.Common.{arith, ℕ, suc, zero, Bool, true, false, List, [], ◌∷◌, ◌++◌, ◌≡◌, ◌≤◌, ◌<◌, map}
use Rattle.std.proofs.Common.{refl, sym, ap, ◌∙◌, Option, Some, None, codes, decimal, nat_le, nat_lt, length}
use Rattle.std.proofs.Common.{append_assoc, append-nil, ◌&&◌, length-append}
use Rattle.std.proofs.lemmas.Bool.Decides.{nat_tests}
use Rattle.c_lexer.specs.Bytes.{is_letter, is_word_byte}
use Rattle.std.specs.List.{list_all}
use Rattle.fore_base.specs.Lists.{Every}
use Rattle.fore_base.specs.declared.store.Datum.{Datum}
use Rattle.fore_base.specs.declared.store.Datum.TheVariants.{Undefined, Known}
use Rattle.fa_lines.specs.declared.line.SlotText.TheVariants.{Field, Link, Hook}
use Rattle.fa_lines.specs.Spelling.{Texts, state_text, series, datum_text, datum_pieces, slot_pieces}
use Rattle.fa_lines.specs.Spelling.{IsState, IsName, IsValue, IsDatum, IsSlot}
use Rattle.fa_lines.specs.inner.Reading.{◌>>=◌, guard, is, number_of, number_up_to, state_of, datum_or, datum_of}
use Rattle.fa_lines.specs.inner.Reading.{field_front, link_front, hook_front, box_front, slot_front, datum_front}
use Rattle.fa_lines.specs.inner.Reading.{mark_front, item_rest, items}
use Rattle.fa_lines.proofs.Options.{is_itself, text_is, both}
use Rattle.fa_lines.proofs.NumberLemmas.{value_written}

tell_less : (n m : ℕ) → n < m → nat_lt n m ≡ true
tell_less n m e = grind (arith, nat_tests)

tell_most : (n m : ℕ) → n ≤ m → nat_le n m ≡ true
tell_most n m e = grind (arith, nat_tests)

-- Numbers

pub number_complete : (n : ℕ) → n < 4294967296 → number_of (decimal n) ≡ Some n
unfolding number_of
number_complete n less =
    let v = value_written n less in
    ap (λ v. guard (nat_lt v 4294967296 && is (decimal n) (decimal v)) (Some v)) v
    ∙ rw (tell_less n 4294967296 less, is_itself (decimal n)) refl

pub up_to_complete : (most n : ℕ) → most < 4294967296 → n ≤ most → number_up_to most (decimal n) ≡ Some n
unfolding number_up_to
up_to_complete most n small within =
    ap (λ o. o >>= λ n. guard (nat_le n most) (Some n)) (number_complete n (omega (arith, small, within)))
    ∙ rw (tell_most n most within) refl

pub state_complete : (q : ℕ) → IsState q → state_of (state_text q) ≡ Some q
unfolding state_of
state_complete q within = up_to_complete 255 q (omega arith) within

too_large : (c : Bool) → (guard c (Some 757784) >>= λ n. guard (nat_le n 15) (Some n)) ≡ None
too_large true = refl
too_large false = refl

no_number : number_up_to 15 (codes "undef") ≡ None
unfolding number_up_to number_of
no_number = too_large (nat_lt 757784 4294967296 && is (codes "undef") (decimal 757784))

pub datum_complete : (d : Datum) → IsValue d → datum_of (datum_text d) ≡ Some d
unfolding datum_of
datum_complete Undefined fit = ap (datum_or (codes "undef")) no_number
datum_complete (Known n) fit = ap (datum_or (decimal n)) (up_to_complete 15 n (omega arith) fit)

-- Words are no marks

false_true : false ≡ true → ⊥
false_true e = grind arith

letter_first : (c : ℕ) (cs : List ℕ) → IsName (c ∷ cs) → is_letter c ≡ true
letter_first c cs fit = (both (is_letter c) (list_all is_word_byte cs) fit).0

no_mark_by : (c : ℕ) (cs : List ℕ) (b : ℕ) → IsName (c ∷ cs) → is_letter b ≡ false → (t : Bool)
    → is (c ∷ cs) (b ∷ []) ≡ t
    → is (c ∷ cs) (b ∷ []) ≡ false
no_mark_by c cs b fit other false told = told
no_mark_by c cs b fit other true told =
    let e : c ∷ cs ≡ b ∷ [] = text_is (c ∷ cs) (b ∷ []) told in
    let same : c ≡ b = cc e in
    absurd (false_true (sym other ∙ ap is_letter (sym same) ∙ letter_first c cs fit))

-- what begins with a byte that is no letter is no word
pub no_mark : (name : List ℕ) (b : ℕ) → IsName name → is_letter b ≡ false → is name (b ∷ []) ≡ false
no_mark [] b fit other = absurd (false_true fit)
no_mark (c ∷ cs) b fit other = no_mark_by c cs b fit other (is (c ∷ cs) (b ∷ [])) refl

-- Slots and data

-- what may stand behind an item
abbrev Stops : Texts → Type 0
Stops tail = (mark : List ℕ) × (rest : Texts) × (tail ≡ mark ∷ rest) × (is mark (codes "=") ≡ false)

pub no_letter : (is_letter 64 ≡ false) × (is_letter 40 ≡ false) × (is_letter 41 ≡ false) × (is_letter 91 ≡ false)
unfolding is_letter
no_letter = (refl, refl, refl, refl)

field_complete : (name : List ℕ) (q : ℕ) (tail : Texts) → IsName name → IsState q
    → slot_front (name ∷ codes "=" ∷ state_text q ∷ tail) ≡ Some (Field name q, tail)
unfolding slot_front field_front
field_complete name q tail word state =
    rw (no_mark name 64 word no_letter.0, word, state_complete q state) refl

link_complete : (name : List ℕ) (q : ℕ) (tail : Texts) → IsName name → IsState q
    → slot_front (codes "@" ∷ name ∷ codes "=" ∷ state_text q ∷ tail) ≡ Some (Link name q, tail)
unfolding slot_front box_front link_front
link_complete name q tail word state = rw (word, state_complete q state) refl

box_stops : (name : List ℕ) (mark : List ℕ) (rest : Texts) → IsName name → is mark (codes "=") ≡ false
    → box_front name (mark ∷ rest) ≡ Some (Hook name, mark ∷ rest)
unfolding box_front hook_front
box_stops name mark [] word other = rw word refl
box_stops name mark (b ∷ rest) word other = rw (other, word) refl

hook_complete : (name mark : List ℕ) (rest : Texts) → IsName name → is mark (codes "=") ≡ false
    → slot_front (codes "@" ∷ name ∷ mark ∷ rest) ≡ Some (Hook name, mark ∷ rest)
unfolding slot_front
hook_complete name mark rest word other = box_stops name mark rest word other

-- each item is read before a piece that is no equals sign
abbrev pub ReadsAll : {X : Type 0} → (X → Type 0) → (X → Texts) → (Texts → Option (X × Texts)) → Type 0
ReadsAll {X} P spelled front = (x : X) (mark : List ℕ) (rest : Texts) → P x → is mark (codes "=") ≡ false
    → front (spelled x ++ mark ∷ rest) ≡ Some (x, mark ∷ rest)

pub slots_complete : ReadsAll IsSlot slot_pieces slot_front
slots_complete (Field name q) mark rest fit other = field_complete name q (mark ∷ rest) fit.0 fit.1
slots_complete (Link name q) mark rest fit other = link_complete name q (mark ∷ rest) fit.0 fit.1
slots_complete (Hook name) mark rest fit other = hook_complete name mark rest fit other

pub datums_complete : ReadsAll IsDatum datum_pieces datum_front
unfolding datum_front
datums_complete d mark rest fit other = rw (fit.0, datum_complete d.datum fit.1) refl

-- Items in a row

-- what stands behind the first item
abbrev pub behind : List Texts → Texts
behind [] = []
behind (y ∷ ys) = codes "," ∷ series (y ∷ ys)

pub series_is : (x : Texts) (xs : List Texts) → series (x ∷ xs) ≡ x ++ behind xs
series_is x [] = sym (append-nil x)
series_is x (y ∷ ys) = refl

module _ {X : Type 0} (P : X → Type 0) (spelled : X → Texts) (front : Texts → Option (X × Texts))
    (reads : ReadsAll P spelled front) (close : List ℕ) (no_equals : is close (codes "=") ≡ false)
    (no_comma : is (codes ",") close ≡ false) where
  one_read : (n : ℕ) (x : X) (rest : Texts) → P x
      → items front close (suc n) (spelled x ++ close ∷ rest) ≡ Some (x ∷ [], rest)
  one_read n x rest fit =
      ap (λ o. o >>= λ p. mark_front close p.1 >>= λ m.
      item_rest (items front close n) p.0 m) (reads x close rest fit no_equals)
      ∙ rw (is_itself close) refl

  more_read : (n : ℕ) (x : X) (after : Texts) (p : List X × Texts) → P x → items front close n after ≡ Some p
      → items front close (suc n) (spelled x ++ codes "," ∷ after) ≡ Some (x ∷ p.0, p.1)
  more_read n x after p fit others =
      ap (λ o. o >>= λ p. mark_front close p.1 >>= λ m.
      item_rest (items front close n) p.0 m) (reads x (codes ",") after fit refl)
      ∙ rw (no_comma, others) refl

  pub items_complete : (n : ℕ) (x : X) (xs : List X) (rest : Texts) → Every P (x ∷ xs) → length (x ∷ xs) ≤ n
      → items front close n (series (map spelled (x ∷ xs)) ++ close ∷ rest) ≡ Some (x ∷ xs, rest)
  items_complete zero x xs rest fit within = absurd (omega (arith, within))
  items_complete (suc n) x [] rest fit within = one_read n x rest fit.0
  items_complete (suc n) x (y ∷ ys) rest fit within =
      let inner = items_complete n y ys rest fit.1 (omega (arith, within)) in
      ap (items front close (suc n))
      (append_assoc (spelled x) (codes "," ∷ series (map spelled (y ∷ ys))) (close ∷ rest))
      ∙ more_read n x (series (map spelled (y ∷ ys)) ++ close ∷ rest) (y ∷ ys, rest) fit.0 inner

  -- there are at least as many pieces as items
  pub enough : (some : (x : X) → 0 < length (spelled x)) → (xs : List X) (tail : Texts)
      → length xs ≤ length (series (map spelled xs) ++ tail)
  enough some [] tail = omega arith
  enough some (x ∷ []) tail =
      let one = some x in omega (arith, one, length-append (spelled x) tail)
  enough some (x ∷ y ∷ ys) tail =
      let others = enough some (y ∷ ys) tail in
      let inner = series (map spelled (y ∷ ys)) in
      let one = some x in
      omega (
        arith,
        one,
        others,
        length-append inner tail,
        length-append (spelled x) (codes "," ∷ inner),
        length-append (spelled x ++ codes "," ∷ inner) tail,
      )
