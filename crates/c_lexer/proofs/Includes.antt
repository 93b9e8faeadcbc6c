-- Lines, and the include lines that are passed over.
use Rattle.std.proofs.Common.{◌≡◌, ℕ, ◌<◌, Bool, true, false, eqb, ◌||◌, List, [], ◌∷◌, length, filter, refl, arith}
use Rattle.std.proofs.Common.{inl, inr, codes, length-take}
use Rattle.std.specs.List.{prefix_len}
use Rattle.std.proofs.lemmas.Bool.{eqb-true, false≢true, and_parts, or_cases}
use Rattle.std.proofs.lemmas.List.Sums.{prefix_len-le-length, take_while-cons}
use Rattle.fore_base.specs.Lists.{IsIn}
use Rattle.c_lexer.specs.Bytes.{is_no_newline, is_solid}
use Rattle.c_lexer.specs.Skips.{Stands, first_line, skipped_includes, IsInclude}
use Rattle.c_lexer.specs.inner.Steps.{are_same, is_include}
use Rattle.fore_base.proofs.ListLemmas.{every_in}

pub line_length : (rest : List ℕ) → prefix_len is_no_newline rest ≡ length (first_line rest)
line_length rest = omega
    (arith, length-take (prefix_len is_no_newline rest) rest, prefix_len-le-length is_no_newline rest)

pub line_cons : (b : ℕ) (bs : List ℕ) → is_no_newline b ≡ true → first_line (b ∷ bs) ≡ b ∷ first_line bs
line_cons b bs h = rw (take_while-cons is_no_newline b bs, h) refl

pub line_positive : (b : ℕ) (bs : List ℕ) → is_no_newline b ≡ true → 0 < prefix_len is_no_newline (b ∷ bs)
line_positive b bs h = rw h (omega arith)

pub sharp_no_newline : (b : ℕ) → b ≡ 35 → is_no_newline b ≡ true
unfolding is_no_newline
sharp_no_newline b e = rw e refl

pub slash_no_newline : (b : ℕ) → 47 ≡ b → is_no_newline b ≡ true
unfolding is_no_newline
slash_no_newline b e = rw (← e) refl

-- an include line begins with its number sign
pub include_sharp : (b : ℕ) (bs : List ℕ) → IsInclude (first_line (b ∷ bs)) → 35 ≡ b
include_sharp b bs h = by_test (is_no_newline b) refl
  where
    by_test : (v : Bool) → is_no_newline b ≡ v → 35 ≡ b
    by_test true e = let s : Stands (codes "#") (b ∷ first_line bs) = rw (line_cons b bs e) at h.0 in s.0
    by_test false e = let s : Stands (codes "#") [] = rw (take_while-cons is_no_newline b bs, e) at h.0 in absurd s

pub same_from : (xs ys : List ℕ) → are_same xs ys ≡ true → xs ≡ ys
same_from [] [] h = refl
same_from [] (y ∷ ys) h = absurd (false≢true h)
same_from (x ∷ xs) [] h = absurd (false≢true h)
same_from (x ∷ xs) (y ∷ ys) h =
    let p = and_parts (eqb x y) (are_same xs ys) h in
    let e = eqb-true x y p.0 in
    let r = same_from xs ys p.1 in
    cc

pub include_from : (line : List ℕ) → is_include line ≡ true → IsIn (filter is_solid line) skipped_includes
include_from line h =
    elim (or_cases _ _ h) [
      | inl p ↦ elim (or_cases _ _ p) [
        | inl e ↦ inl (same_from (filter is_solid line) (codes "#include<stdlib.h>") e)
        | inr e ↦ inr
            (inl (same_from (filter is_solid line) (codes "#include<assert.h>") e))
      ]
      | inr p ↦ elim (or_cases _ _ p) [
        | inl e ↦ inr (inr (inl (same_from (filter is_solid line) (codes "#include<stddef.h>") e)))
        | inr e ↦ inr
            (inr (inr (inl (same_from (filter is_solid line) (codes "#include<stdbool.h>") e))))
      ]
    ]

abbrev is_one : List ℕ → Bool
is_one solid = (are_same solid (codes "#include<stdlib.h>") || are_same solid (codes "#include<assert.h>"))
    || (are_same solid (codes "#include<stddef.h>") || are_same solid (codes "#include<stdbool.h>"))

pub include_to : (line : List ℕ) → IsIn (filter is_solid line) skipped_includes → is_include line ≡ true
include_to line i = every_in (λ solid. is_one solid ≡ true) skipped_includes (filter is_solid line)
    (refl, (refl, (refl, (refl, tt)))) i
