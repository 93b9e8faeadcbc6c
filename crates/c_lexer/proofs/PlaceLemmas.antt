-- How places move on by one byte.
use Rattle.std.proofs.Common.{◌≡◌, ℕ, ◌+◌, ◌<◌, ◌≤◌, Bool, true, false, cond, eqb, ◌&&◌, List, [], ◌∷◌, ◌++◌, length}
use Rattle.std.proofs.Common.{take, get_or, refl, ap, arith, count_by, length-append}
use Rattle.std.specs.List.{prefix_len, suffix_len}
use Rattle.std.proofs.lemmas.Bool.Decides.{nat_tests}
use Rattle.std.proofs.lemmas.List.{reverse-append, take_more}
use Rattle.std.proofs.lemmas.List.Sums.{sum_by_push, suffix_len-le-length, count_by-le-length}
use Rattle.c_lexer.specs.declared.place.Cursor.{Cursor}
use Rattle.c_lexer.specs.Bytes.{is_gap, is_newline, is_no_newline}
use Rattle.c_lexer.specs.Places.{place_after}
use Rattle.c_lexer.specs.inner.Steps.{cursor_after, moved}

suffix_push : (p : ℕ → Bool) (xs : List ℕ) (b : ℕ) → suffix_len p (xs ++ b ∷ []) ≡ cond (p b) (1 + suffix_len p xs) 0
suffix_push p xs b = ap (prefix_len p) (reverse-append xs (b ∷ []))

count_push : (p : ℕ → Bool) (xs : List ℕ) (b : ℕ) → count_by p (xs ++ b ∷ []) ≡ count_by p xs + cond (p b) 1 0
count_push p xs b = sum_by_push (λ x. cond (p x) 1 0) xs b

newline_no_gap : (b : ℕ) → is_newline b ≡ true → (is_no_newline b ≡ false) × (is_gap b ≡ false)
unfolding is_newline is_no_newline is_gap
newline_no_gap b h = (grind (arith, nat_tests), grind (arith, nat_tests))

no_newline : (b : ℕ) → is_newline b ≡ false → is_no_newline b ≡ true
unfolding is_newline is_no_newline
no_newline b h = grind (arith, nat_tests)

cursor_is : (o o' l l' c c' : ℕ) (f f' : Bool) → o ≡ o' → l ≡ l' → c ≡ c' → f ≡ f' →
    ◌≡◌ {A = Cursor} (record { place = record { offset = o; line = l; column = c }; fresh = f })
    (record { place = record { offset = o'; line = l'; column = c' }; fresh = f' })
cursor_is o o' l l' c c' f f' p q r s = cc

fresh_push : (x y : ℕ) (g : Bool) → eqb (cond g (1 + x) 0) (1 + y) ≡ (eqb x y && g)
fresh_push x y true = grind (arith, nat_tests)
fresh_push x y false = grind (arith, nat_tests)

cursor_push : (front : List ℕ) (b : ℕ) (newline : Bool) → is_newline b ≡ newline → cursor_after (front ++ b ∷ [])
    ≡ moved (cursor_after front) b
cursor_push front b true h =
    let n = newline_no_gap b h in
    rw (suffix_push is_no_newline front b, suffix_push is_gap front b, count_push is_newline front b, h, n.0, n.1)
    (cursor_is _ _ _ _ _ _ _ _ (length-append front (b ∷ [])) (omega arith) (omega arith) refl)
cursor_push front b false h =
    rw (suffix_push is_no_newline front b, suffix_push is_gap front b, count_push is_newline front b, h, no_newline b h)
    (cursor_is _ _ _ _ _ _ _ _ (length-append front (b ∷ [])) (omega arith) (omega arith) (fresh_push _ _ _))

-- the cursor behind one more byte of a text
pub cursor_more : (xs : List ℕ) (i : ℕ) → i < length xs → cursor_after (take (i + 1) xs)
    ≡ moved (cursor_after (take i xs)) (get_or xs i 0)
cursor_more xs i h = rw (take_more xs i 0 h) (cursor_push (take i xs) (get_or xs i 0) _ refl)

-- lines and columns are no more than one above the offset
pub line_bound : (front : List ℕ) → (place_after front).line ≤ 1 + length front
line_bound front = omega (arith, count_by-le-length is_newline front)

pub column_bound : (front : List ℕ) → (place_after front).column ≤ 1 + length front
column_bound front = omega (arith, suffix_len-le-length is_no_newline front)

-- near the beginning of a text every part of a place can be counted on
pub cursor_bounds : (cursor : Cursor) (front : List ℕ) → cursor ≡ cursor_after front → length front < 2000000 →
    (cursor.place.offset < 4294967295) × (cursor.place.line < 4294967295) × (cursor.place.column < 4294967295)
cursor_bounds cursor front e h =
    let o : cursor.place.offset ≡ length front = ap (λ (c : Cursor). c.place.offset) e in
    let l : cursor.place.line ≡ (place_after front).line = ap (λ (c : Cursor). c.place.line) e in
    let k : cursor.place.column ≡ (place_after front).column = ap (λ (c : Cursor). c.place.column) e in
    let bl = line_bound front in
    let bc = column_bound front in
    (omega arith, omega arith, omega arith)
