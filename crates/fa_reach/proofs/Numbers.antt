-- Numbers of choices: each choice has one, and what is known of every part is known of those of a choice.
use Rattle.std.proofs.Common.{◌≡◌, ℕ, zero, suc, ◌<◌, ◌≤◌, ◌+◌, ◌*◌, ◌/◌, ◌%◌, List, [], ◌∷◌, ◌++◌, length}
use Rattle.std.proofs.Common.{refl, sym, ap, subst, ◌∙◌, arith, Option, Some, None, slice_get, get_or, drop}
use Rattle.std.proofs.Math.Nat.{mod-lt, mul-le-mul_right, mul_assoc, mul_comm}
use Rattle.std.proofs.lemmas.Nat.{mod-mul-add, div-mul-add}
use Rattle.std.proofs.lemmas.Option.{none-some, slice_get_within}
use Rattle.fore_base.specs.Lists.{IsIn, Every}
use Rattle.fore_base.proofs.ListLemmas.{drop_item, every_in, every_weaker, place_of, in_from_place, paired_long}
use Rattle.fa_reach.specs.declared.part.Part.{Part}
use Rattle.fa_reach.specs.inner.Parts.{HasPart, choice_count, one_part, picked}
use Rattle.fa_reach.specs.inner.Going.{IsFit, AreFit, AllFit}
use Rattle.fa_reach.proofs.Signed.{ArePicked}

pub is_there : (ps : List Part) (i : ℕ) → i < length ps → slice_get ps i ≡ None → ⊥
is_there [] i l e = absurd (omega (arith, l))
is_there (p ∷ ps) zero l e = none-some p (sym e)
is_there (p ∷ ps) (suc i) l e = is_there ps i (omega (arith, l)) e

-- each number is that of a choice
pub picked_there : (all : List (List Part)) (k : ℕ) → Every HasPart all → ArePicked (picked all k) all
picked_there [] k h = tt
picked_there (ps ∷ all) k h = go (picked_there all (k / length ps) h.1) (slice_get ps (k % length ps)) refl
  where
    go : ArePicked (picked all (k / length ps)) all → (o : Option Part) → slice_get ps (k % length ps) ≡ o
        → ArePicked (one_part o ++ picked all (k / length ps)) (ps ∷ all)
    go rest (Some p) e = (in_from_place ps (k % length ps) p e, rest)
    go rest None e = absurd (is_there ps (k % length ps) (mod-lt k h.0) e)

-- one step of it
pub picked_step : (ps : List Part) (all : List (List Part)) (k : ℕ) (p : Part)
    → slice_get ps (k % length ps) ≡ Some p → picked (ps ∷ all) k ≡ p ∷ picked all (k / length ps)
picked_step ps all k p e = ap (λ (o : Option Part). one_part o ++ picked all (k / length ps)) e

-- one step of counting them
pub count_step : (all : List (List Part)) (i : ℕ) (ps : List Part) (count total : ℕ) → i < length all
    → ps ≡ get_or all i ps → count * choice_count (drop i all) ≡ total
    → (count * length ps) * choice_count (drop (i + 1) all) ≡ total
count_step all i ps count total l e h =
    mul_assoc count (length ps) (choice_count (drop (i + 1) all))
    ∙ ap (λ (z : List (List Part)). count * choice_count z) (sym (drop_item all i ps l e)) ∙ h

-- each choice has a number
pub number_of : (all : List (List Part)) (ps : List Part) → ArePicked ps all
    → (k : ℕ) × (k < choice_count all) × (picked all k ≡ ps)
number_of [] [] h = (0, omega arith, refl)
number_of [] (p ∷ ps) h = absurd h
number_of (qs ∷ all) [] h = absurd h
number_of (qs ∷ all) (p ∷ ps) h =
    let w = number_of all ps h.1 in
    let at = place_of qs p h.0 in
    let low = slice_get_within qs at.0 p at.1 in
    let m : (w.0 * length qs + at.0) % length qs ≡ at.0 = mod-mul-add w.0 (length qs) at.0 low in
    let d : (w.0 * length qs + at.0) / length qs ≡ w.0 = div-mul-add w.0 (length qs) at.0 low in
    let first : slice_get qs ((w.0 * length qs + at.0) % length qs) ≡ Some p =
    ap (λ (i : ℕ). slice_get qs i) m ∙ at.1 in (
      w.0 * length qs + at.0,
      below w.0 (choice_count all) (length qs) at.0 w.1 low,
      picked_step qs all (w.0 * length qs + at.0) p first ∙ ap (λ (n : ℕ). p ∷ picked all n) d
          ∙ ap (λ (z : List Part). p ∷ z) w.2,
    )
  where
    below : (k c l i : ℕ) → k < c → i < l → k * l + i < l * c
    below k c l i a b =
        let more : suc k * l ≤ c * l = mul-le-mul_right l (omega (arith, a)) in
        let turned : c * l ≡ l * c = mul_comm c l in
        let next : suc k * l ≡ k * l + l = omega arith in
        omega (arith, more, turned, next, b)

pub has_parts : (n : ℕ) (all : List (List Part)) → AllFit n all → Every HasPart all
has_parts n all f = every_weaker (λ (ps : List Part). HasPart ps × Every (IsFit n) ps) HasPart all (λ ps h. h.0) f

fit_each : (n : ℕ) (all : List (List Part)) (ps : List Part) → AllFit n all → ArePicked ps all → Every (IsFit n) ps
fit_each n [] [] f h = tt
fit_each n [] (p ∷ ps) f h = absurd h
fit_each n (qs ∷ all) [] f h = absurd h
fit_each n (qs ∷ all) (p ∷ ps) f h = (every_in (IsFit n) qs p f.0.1 h.0, fit_each n all ps f.1 h.1)

pub picked_long : (n : ℕ) (all : List (List Part)) (k : ℕ) → AllFit n all → length (picked all k) ≡ length all
picked_long n all k f = paired_long (λ (p : Part) (qs : List Part). IsIn p qs) (picked all k) all
    (picked_there all k (has_parts n all f))

pub picked_fit : (all : List (List Part)) (k : ℕ) → AllFit (length all) all → AreFit (picked all k)
picked_fit all k f = subst (λ (n : ℕ). Every (IsFit n) (picked all k)) (sym (picked_long (length all) all k f))
    (fit_each (length all) all (picked all k) f (picked_there all k (has_parts (length all) all f)))
