-- The first line of a text.
use Rattle.std.proofs.Common.{arith, ℕ, suc, Bool, true, false, List, [], ◌∷◌, ◌≡◌, ◌<◌, ◌==◌, refl, sym, ap, ◌∙◌}
use Rattle.std.proofs.Common.{take, drop, length}
use Rattle.std.specs.List.{prefix_len}
use Rattle.c_lexer.specs.Bytes.{is_no_newline, newline}
use Rattle.fa_lines.specs.Pieces.{lines_of, longer}
use Rattle.fa_written.specs.inner.Reached.{behind_newline}

abbrev IsFront : List ℕ → ℕ → Type 0
IsFront bs k = lines_of bs ≡ take k bs ∷ lines_of (behind_newline (drop k bs))

size_here : (b : ℕ) (bs : List ℕ) → (b == newline) ≡ true → prefix_len is_no_newline (b ∷ bs) ≡ 0
unfolding is_no_newline
size_here b bs is = rw is refl

size_behind : (b : ℕ) (bs : List ℕ) → (b == newline) ≡ false
    → prefix_len is_no_newline (b ∷ bs) ≡ suc (prefix_len is_no_newline bs)
unfolding is_no_newline
size_behind b bs is = rw is (omega arith)

ends_line : (b : ℕ) (bs : List ℕ) → (b == newline) ≡ true → lines_of (b ∷ bs) ≡ [] ∷ lines_of bs
ends_line b bs is = rw is refl

in_line : (b : ℕ) (bs : List ℕ) → (b == newline) ≡ false → lines_of (b ∷ bs) ≡ longer b (lines_of bs)
in_line b bs is = rw is refl

front_by : (b : ℕ) (bs : List ℕ) (ends : Bool) → (b == newline) ≡ ends
    → (0 < length bs → IsFront bs (prefix_len is_no_newline bs))
    → IsFront (b ∷ bs) (prefix_len is_no_newline (b ∷ bs))
front_by b bs true is have =
    ends_line b bs is
    ∙ ap (λ k. take k (b ∷ bs) ∷ lines_of (behind_newline (drop k (b ∷ bs)))) (sym (size_here b bs is))
front_by b [] false is have =
    in_line b [] is
    ∙ ap (λ k. take k (b ∷ []) ∷ lines_of (behind_newline (drop k (b ∷ [])))) (sym (size_behind b [] is))
front_by b (c ∷ cs) false is have =
    in_line b (c ∷ cs) is ∙ ap (longer b) (have (omega arith))
    ∙ ap (λ k. take k (b ∷ c ∷ cs) ∷ lines_of (behind_newline (drop k (b ∷ c ∷ cs)))) (sym (size_behind b (c ∷ cs) is))

pub text_front : (bs : List ℕ) → 0 < length bs → IsFront bs (prefix_len is_no_newline bs)
text_front [] some = absurd (omega (arith, some))
text_front (b ∷ bs) some = front_by b bs (b == newline) refl (λ more. text_front bs more)

-- the first line, and the text behind its newline, or at its end
pub line_front : (bs line rest others : List ℕ) (n : ℕ) → 0 < length bs → n ≡ prefix_len is_no_newline bs
    → line ≡ take n bs → rest ≡ drop n bs → others ≡ behind_newline rest → lines_of bs ≡ line ∷ lines_of others
line_front bs line rest others n some size here there is =
    text_front bs some ∙ ap (λ k. take k bs ∷ lines_of (behind_newline (drop k bs))) (sym size)
    ∙ ap (λ l. l ∷ lines_of (behind_newline (drop n bs))) (sym here)
    ∙ ap (λ r. line ∷ lines_of (behind_newline r)) (sym there)
    ∙ ap (λ r. line ∷ lines_of r) (sym is)
