-- What holds of the boxes that a text writes: names are words, terms may be written, and there are no more components
-- than bytes.
use Rattle.std.proofs.Common.{arith, ◌≡◌, ◌≤◌, ℕ, suc, Bool, true, false, cond, ◌==◌, ◌&&◌, ◌||◌}
use Rattle.std.proofs.Common.{List, [], ◌∷◌, map, length, sym, ap, subst, nat_le}
use Rattle.std.proofs.Common.{◌⊎◌, inl, inr, length-append, true≢false}
use Rattle.std.specs.List.{list_all}
use Rattle.std.proofs.lemmas.Bool.{and_parts, or_cases, leb-true, eqb-true}
use Rattle.fore_base.specs.Lists.{Every, Paired}
use Rattle.fore_base.proofs.ListLemmas.{every_parts, paired_long}
use Rattle.c_lexer.specs.Bytes.{is_letter, is_digit, is_word_byte, newline, underscore}
use Rattle.fa_core.specs.Words.{IsLetter, IsWordByte, IsWord}
use Rattle.fa_lines.specs.Pieces.{lines_of, longer}
use Rattle.fa_lines.specs.Says.{Says}
use Rattle.fa_lines.specs.Spelling.{IsLine, IsName}
use Rattle.fa_lines.specs.declared.line.Line.{Line}
use Rattle.fa_lines.specs.declared.line.Line.TheVariants.{Skipped, Opens, Root, Rule, Ends}
use Rattle.fa_written.specs.Drafts.{IsText, RefersWithin}
use Rattle.fa_written.specs.Forms.{Numbered, put_before, numbered, rule_line, part_lines, parts_lines}
use Rattle.fa_written.specs.Forms.{box_lines}
use Rattle.fa_written.specs.Forms.{file_lines, HasPorts}
use Rattle.fa_written.specs.declared.draft.RuleDraft.{RuleDraft}
use Rattle.fa_written.specs.declared.draft.PartDraft.{PartDraft}
use Rattle.fa_written.specs.declared.draft.BoxDraft.{BoxDraft}
use Rattle.fa_text.proofs.WellNamed.{AreTerms}

-- Words

small_or_large : (b : ℕ) → ((nat_le 97 b && nat_le b 122) || (nat_le 65 b && nat_le b 90)) ≡ true
    → ((97 ≤ b) × (b ≤ 122)) ⊎ ((65 ≤ b) × (b ≤ 90))
small_or_large b e =
    elim (or_cases (nat_le 97 b && nat_le b 122) (nat_le 65 b && nat_le b 90) e) [
      | inl h ↦ (let p = and_parts (nat_le 97 b) (nat_le b 122) h in inl (leb-true 97 b p.0, leb-true b 122 p.1))
      | inr h ↦ (let p = and_parts (nat_le 65 b) (nat_le b 90) h in inr (leb-true 65 b p.0, leb-true b 90 p.1))
    ]

letter : (b : ℕ) → is_letter b ≡ true → IsLetter b
unfolding is_letter
letter b e =
    elim (or_cases ((nat_le 97 b && nat_le b 122) || (nat_le 65 b && nat_le b 90)) (b == underscore) e) [
      | inl h ↦ elim (small_or_large b h) [ inl small ↦ inl small | inr large ↦ inr (inl large) ]
      | inr same ↦ inr (inr (eqb-true b 95 same))
    ]

word_byte : (b : ℕ) → is_word_byte b ≡ true → IsWordByte b
unfolding is_word_byte is_digit
word_byte b e =
    elim (or_cases (is_letter b) (is_digit b) e) [
      | inl h ↦ inl (letter b h)
      | inr h ↦ (let p = and_parts (nat_le 48 b) (nat_le b 57) h in inr (leb-true 48 b p.0, leb-true b 57 p.1))
    ]

word_bytes : (bs : List ℕ) → list_all is_word_byte bs ≡ true → Every IsWordByte bs
word_bytes [] e = tt
word_bytes (b ∷ bs) e =
    let p = and_parts (is_word_byte b) (list_all is_word_byte bs) e in (word_byte b p.0, word_bytes bs p.1)

pub is_a_word : (bs : List ℕ) → IsName bs → IsWord bs
is_a_word [] e = absurd (true≢false (sym e))
is_a_word (b ∷ bs) e =
    let p = and_parts (is_letter b) (list_all is_word_byte bs) e in (letter b p.0, word_bytes bs p.1)

-- Lines

abbrev MayBe : Numbered → Type 0
MayBe p = IsLine p.1

says_line : (bytes : List ℕ) (l : Line) → Says bytes l → IsLine l
says_line bytes Skipped h = tt
says_line bytes (Opens name input output) h = h.0
says_line bytes (Root r qs) h = h.0
says_line bytes (Rule q t) h = h.0
says_line bytes Ends h = h.0

put_may : (n : ℕ) (l : Line) (xs : List Numbered) → IsLine l → Every MayBe xs → Every MayBe (put_before n l xs)
put_may n Skipped xs h all = all
put_may n (Opens name input output) xs h all = (h, all)
put_may n (Root r qs) xs h all = (h, all)
put_may n (Rule q t) xs h all = (h, all)
put_may n Ends xs h all = (h, all)

lines_may : (n : ℕ) (bs : List (List ℕ)) (ls : List Line) → Paired Says bs ls → Every MayBe (numbered n ls)
lines_may n [] [] p = tt
lines_may n [] (l ∷ ls) p = absurd p
lines_may n (b ∷ bs) [] p = absurd p
lines_may n (b ∷ bs) (l ∷ ls) p = put_may n l (numbered (suc n) ls) (says_line b l p.0) (lines_may (suc n) bs ls p.1)

-- The boxes of lines

-- the name is a word, and the terms may be written
pub record IsWritten (b : BoxDraft) : Type 0 where
  pub name : IsName b.head.name
  pub terms : Every (λ (p : PartDraft). AreTerms p.rules) b.parts

rules_may : (rs : List RuleDraft) → Every MayBe (map rule_line rs) → AreTerms rs
rules_may [] h = tt
rules_may (r ∷ rs) h = (h.0.1, rules_may rs h.1)

parts_may : (k : ℕ) (ps : List PartDraft) → Every MayBe (parts_lines k ps)
    → Every (λ (p : PartDraft). AreTerms p.rules) ps
parts_may k [] h = tt
parts_may k (p ∷ ps) h =
    let both = every_parts MayBe (part_lines k p) (parts_lines (suc k) ps) h in
    (rules_may p.rules both.0.1, parts_may (suc k) ps both.1)

boxes_may : (bs : List BoxDraft) → Every MayBe (file_lines bs) → Every IsWritten bs
boxes_may [] h = tt
boxes_may (b ∷ bs) h =
    let both = every_parts MayBe (box_lines b) (file_lines bs) h in
    let inner = every_parts MayBe (parts_lines 0 b.parts) ((b.end, Ends) ∷ []) both.0.1 in
    (record { name = both.0.0.0; terms = parts_may 0 b.parts inner.0 }, boxes_may bs both.1)

-- Numbers of lines

put_long : (n : ℕ) (l : Line) (xs : List Numbered) → length (put_before n l xs) ≤ suc (length xs)
put_long n Skipped xs = omega arith
put_long n (Opens name input output) xs = omega arith
put_long n (Root r qs) xs = omega arith
put_long n (Rule q t) xs = omega arith
put_long n Ends xs = omega arith

numbered_long : (n : ℕ) (ls : List Line) → length (numbered n ls) ≤ length ls
numbered_long n [] = omega arith
numbered_long n (l ∷ ls) =
    let a = put_long n l (numbered (suc n) ls) in
    let b = numbered_long (suc n) ls in
    omega (arith, a, b)

longer_long : (b : ℕ) (ls : List (List ℕ)) (n : ℕ) → length ls ≤ n → length (longer b ls) ≤ suc n
longer_long b [] n h = omega arith
longer_long b (l ∷ ls) n h = omega (arith, h)

lines_long : (bs : List ℕ) → length (lines_of bs) ≤ length bs
lines_long [] = omega arith
lines_long (b ∷ bs) = by (b == newline) (lines_long bs)
  where
    by : (c : Bool) → length (lines_of bs) ≤ length bs
        → length (cond c ([] ∷ lines_of bs) (longer b (lines_of bs))) ≤ suc (length bs)
    by true h = omega (arith, h)
    by false h = longer_long b (lines_of bs) (length bs) h

parts_long : (k : ℕ) (ps : List PartDraft) → length ps ≤ length (parts_lines k ps)
parts_long k [] = omega arith
parts_long k (p ∷ ps) =
    let h = parts_long (suc k) ps in
    let e = length-append (part_lines k p) (parts_lines (suc k) ps) in
    omega (arith, h, e)

boxes_long : (bs : List BoxDraft) (n : ℕ) → length (file_lines bs) ≤ n
    → Every (λ (b : BoxDraft). length b.parts ≤ n) bs
boxes_long [] n h = tt
boxes_long (b ∷ bs) n h =
    let parts = parts_long 0 b.parts in
    let e = length-append (parts_lines 0 b.parts) ((b.end, Ends) ∷ []) in
    let f = length-append (box_lines b) (file_lines bs) in
    (omega (arith, h, parts, e, f), boxes_long bs n (omega (arith, h, f)))

-- Boxes of a text

-- all that is known of the boxes of a text, apart from what names mean
pub record IsDrawn (n : ℕ) (b : BoxDraft) : Type 0 where
  pub written : IsWritten b
  pub ports : HasPorts b
  pub refs : RefersWithin b
  pub few : length b.parts ≤ n

drawn_each : (n : ℕ) (bs : List BoxDraft) → Every IsWritten bs → Every HasPorts bs → Every RefersWithin bs
    → Every (λ (b : BoxDraft). length b.parts ≤ n) bs → Every (IsDrawn n) bs
drawn_each n [] w p r f = tt
drawn_each n (b ∷ bs) w p r f =
    (record { written = w.0; ports = p.0; refs = r.0; few = f.0 }, drawn_each n bs w.1 p.1 r.1 f.1)

pub drawn : (text : List ℕ) (bs : List BoxDraft) → IsText text bs → Every (IsDrawn (length text)) bs
drawn text bs t =
    let lines = subst (Every MayBe) t.form.0 (lines_may 1 (lines_of text) t.lines t.said) in
    let a = lines_long text in
    let b = paired_long Says (lines_of text) t.lines t.said in
    let c = numbered_long 1 t.lines in
    let d = ap length t.form.0 in
    drawn_each (length text) bs (boxes_may bs lines) t.form.1 t.refs
    (boxes_long bs (length text) (omega (arith, a, b, c, d)))
