-- Numbered places have all numbers below the exit, each once.
use Rattle.std.proofs.Common.{◌≡◌, inl, inr, ℕ, zero, suc, ◌+◌, ◌<◌, List, [], ◌∷◌, ◌++◌, map, refl, sym, ap, ◌∙◌}
use Rattle.std.proofs.Common.{arith}
use Rattle.std.specs.Prelude.{pred}
use Rattle.std.proofs.lemmas.List.{append_assoc}
use Rattle.fore_base.specs.Lists.{IsIn, IsDistinct}
use Rattle.c_types.specs.declared.program.Atom.TheVariants.{Choice as ChoiceAtom}
use Rattle.c_types.specs.Control.{Items, Done, Do, Close, If, Loop, Again, DoLoop, DoAgain, Enter, Leave, Exit, Ask}
use Rattle.c_types.specs.Control.{Not, Both, Either}
use Rattle.c_types.specs.Steps.{below, mark_of}
use Rattle.c_cfg.specs.Lowering.{numbers}
use Rattle.c_lower.specs.inner.Numbering.{span, loc, place_width, mids_of}
use Rattle.c_lower.proofs.PlaceRows.{span_more}
use Rattle.c_lower.proofs.Stacking.{IsOpen, Stacked}

module _ (nv nd : ℕ) where
  -- the numbers are all
  abbrev pub total : List Items → ℕ
  total [] = 0
  total (c ∷ cs) = place_width nv nd c + total cs

  pub total_is : (ps : List Items) (i e : ℕ) → Stacked nv nd i ps e → i + total ps ≡ e
  total_is [] i e h = omega (arith, h)
  total_is (c ∷ ps) i e h = omega (arith, total_is ps (i + place_width nv nd c) e h.2)

  pub wide : (c : Items) → IsOpen nv nd c → place_width nv nd c ≡ suc (pred (place_width nv nd c))
  wide Done o = absurd o
  wide (If (Not c) x y is) o = absurd o
  wide (If (Both c d) x y is) o = absurd o
  wide (If (Either c d) x y is) o = absurd o
  wide (Loop c n b is) o = absurd o
  wide (Again c n b is) o = absurd o
  wide (DoLoop c b is) o = absurd o
  wide (DoAgain c b is) o = absurd o
  wide (If (Ask ChoiceAtom m) x y is) o = refl
  wide _ o = refl

  loc_mark : (exit : ℕ) (c : Items) → IsOpen nv nd c → loc nv nd exit c ≡ mark_of c
  loc_mark exit (Do a m is) o = refl
  loc_mark exit (Close ps ds m is) o = refl
  loc_mark exit (If (Ask a m) x y is) o = refl
  loc_mark exit (Enter vs ws m is) o = refl
  loc_mark exit (Leave v vs a m is) o = refl
  loc_mark exit (Exit v vs d m is) o = refl
  loc_mark exit _ o = absurd o

  pub numbers_are : (exit : ℕ) (ps : List Items) (i e : ℕ) → Stacked nv nd i ps e
      → numbers (loc nv nd exit) (mids_of nv nd) ps ≡ span i (total ps) ++ (exit ∷ [])
  numbers_are exit [] i e h = refl
  numbers_are exit (c ∷ ps) i e h =
      let w = place_width nv nd c in
      ap (λ ns. loc nv nd exit c ∷ mids_of nv nd c ++ ns) (numbers_are exit ps (i + w) e h.2)
      ∙ ap (λ k. k ∷ mids_of nv nd c ++ (span (i + w) (total ps) ++ (exit ∷ []))) (loc_mark exit c h.0 ∙ h.1)
      ∙ ap (λ k. i ∷ span (k + 1) (pred w) ++ (span (i + w) (total ps) ++ (exit ∷ []))) h.1
      ∙ ap (λ n. span i n ++ (span (i + w) (total ps) ++ (exit ∷ []))) (sym (wide c h.0))
      ∙ sym (append_assoc (span i w) (span (i + w) (total ps)) (exit ∷ []))
      ∙ ap (λ ns. ns ++ (exit ∷ [])) (sym (span_more i w (total ps)))

  pub span_below : (n : ℕ) → span 0 n ≡ below n
  span_below zero = refl
  span_below (suc n) = let e : suc n ≡ n + 1 = omega arith in ap (span 0) e ∙ span_more 0 n 1
      ∙ ap (λ ns. ns ++ span (0 + n) 1) (span_below n)
      ∙ (let z : 0 + n ≡ n = omega arith in ap (λ k. below n ++ (k ∷ [])) z)

  -- the marks differ

  apart : (ps : List Items) (i j e : ℕ) → i < j → Stacked nv nd j ps e → IsIn i (map mark_of ps) → ⊥
  apart [] i j e h k f = f
  apart (c ∷ ps) i j e h k (inl f) = absurd (omega (arith, h, k.1, f))
  apart (c ∷ ps) i j e h k (inr f) = apart ps i (j + place_width nv nd c) e (omega (arith, h)) k.2 f

  pub marks_differ : (ps : List Items) (i e : ℕ) → Stacked nv nd i ps e → IsDistinct (map mark_of ps)
  marks_differ [] i e h = tt
  marks_differ (c ∷ ps) i e h = (
    apart ps (mark_of c) (i + place_width nv nd c) e (omega (arith, h.1, wide c h.0)) h.2,
    marks_differ ps (i + place_width nv nd c) e h.2,
  )
