-- The places of numbered items take consecutive locations, and the items begin at their first one.
use Rattle.std.proofs.Common.{◌≡◌, ℕ, zero, suc, ◌+◌, ◌<◌, List, [], ◌∷◌, ◌++◌, refl, sym, ap, ◌∙◌, subst, arith}
use Rattle.c_types.specs.declared.program.Atom.TheVariants.{Choice as ChoiceAtom}
use Rattle.c_types.specs.Control.{Items, Done, Do, Close, If, Loop, Again, DoLoop, DoAgain, Enter, Leave, Exit, Test}
use Rattle.c_types.specs.Control.{Ask, Not, Both, Either, ask, open_before}
use Rattle.c_types.specs.Steps.{mark_of}
use Rattle.c_cfg.specs.Places.{test_places, places}
use Rattle.c_lower.specs.inner.Numbering.{act_width, enter_width, leave_width, exit_width, test_width, width}
use Rattle.c_lower.specs.inner.Numbering.{number_test, number, loc, place_width}
use Rattle.c_lower.specs.inner.Emitting.{first_of}

pub first_wide : (w i k : ℕ) → 0 < w → first_of w i k ≡ i
first_wide zero i k h = absurd (omega arith)
first_wide (suc w) i k h = refl

module _ (nv nd : ℕ) where
  -- an opened list that begins with a step
  abbrev pub IsOpen : Items → Type 0
  IsOpen Done = ⊥
  IsOpen (Do a m is) = Unit {0}
  IsOpen (Close ps ds m is) = Unit {0}
  IsOpen (If (Ask a m) x y is) = Unit {0}
  IsOpen (If (Not c) x y is) = ⊥
  IsOpen (If (Both c d) x y is) = ⊥
  IsOpen (If (Either c d) x y is) = ⊥
  IsOpen (Loop c n b is) = ⊥
  IsOpen (Again c n b is) = ⊥
  IsOpen (DoLoop c b is) = ⊥
  IsOpen (DoAgain c b is) = ⊥
  IsOpen (Enter vs ws m is) = Unit {0}
  IsOpen (Leave v vs a m is) = Unit {0}
  IsOpen (Exit v vs d m is) = Unit {0}

  -- the places take the locations from i to e, each from its mark on
  abbrev pub Stacked : ℕ → List Items → ℕ → Type 0
  Stacked i [] e = i ≡ e
  Stacked i (c ∷ cs) e = IsOpen c × (mark_of c ≡ i) × Stacked (i + place_width nv nd c) cs e

  stacked_more : (xs ys : List Items) (i j e : ℕ) → Stacked i xs j → Stacked j ys e → Stacked i (xs ++ ys) e
  stacked_more [] ys i j e h k = subst (λ q. Stacked q ys e) (sym h) k
  stacked_more (c ∷ xs) ys i j e h k = (h.0, h.1, stacked_more xs ys (i + place_width nv nd c) j e h.2 k)

  stacked_to : (xs : List Items) (i j e : ℕ) → j ≡ e → Stacked i xs j → Stacked i xs e
  stacked_to xs i j e q h = subst (λ e. Stacked i xs e) q h

  stacked_test : (c : Test) (i : ℕ) (x y r : Items)
      → Stacked i (test_places (number_test nv nd c i) x y r) (i + test_width nv nd c)
  stacked_test (Ask a m) i x y r = (tt, refl, refl)
  stacked_test (Not c) i x y r = stacked_test c i y x r
  stacked_test (Both c d) i x y r =
      stacked_to _ i (i + test_width nv nd c + test_width nv nd d) _ (omega arith)
      (stacked_more (test_places (number_test nv nd c i) _ y r) _ i (i + test_width nv nd c) _ (stacked_test c i _ y r)
      (stacked_test d (i + test_width nv nd c) x y r))
  stacked_test (Either c d) i x y r =
      stacked_to _ i (i + test_width nv nd c + test_width nv nd d) _ (omega arith)
      (stacked_more (test_places (number_test nv nd c i) x _ r) _ i (i + test_width nv nd c) _ (stacked_test c i x _ r)
      (stacked_test d (i + test_width nv nd c) x y r))

  four : (i a b c d : ℕ) (xs ys zs ws : List Items) → Stacked i xs (i + a) → Stacked (i + a) ys (i + a + b)
      → Stacked (i + a + b) zs (i + a + b + c) → Stacked (i + a + b + c) ws (i + a + b + c + d)
      → Stacked i (xs ++ (ys ++ (zs ++ ws))) (i + (a + (b + (c + d))))
  four i a b c d xs ys zs ws h1 h2 h3 h4 =
      stacked_to _ i (i + a + b + c + d) _ (omega arith)
      (stacked_more xs _ i (i + a) _ h1
      (stacked_more ys _ (i + a) (i + a + b) _ h2 (stacked_more zs ws (i + a + b) (i + a + b + c) _ h3 h4)))

  three : (i a b c : ℕ) (xs ys zs : List Items) → Stacked i xs (i + a) → Stacked (i + a) ys (i + a + b)
      → Stacked (i + a + b) zs (i + a + b + c) → Stacked i (xs ++ (ys ++ zs)) (i + (a + (b + c)))
  three i a b c xs ys zs h1 h2 h3 =
      stacked_to _ i (i + a + b + c) _ (omega arith)
      (stacked_more xs _ i (i + a) _ h1 (stacked_more ys zs (i + a) (i + a + b) _ h2 h3))

  pub stacked : (is : Items) (i : ℕ) (r : Items) → Stacked i (places (number nv nd is i) r) (i + width nv nd is)
  stacked Done i r = omega arith
  stacked (Do a m is) i r = (
    tt,
    refl,
    stacked_to _ (i + act_width nv nd a) (i + act_width nv nd a + width nv nd is) _ (omega arith)
        (stacked is (i + act_width nv nd a) r),
  )
  stacked (Close ps ds m is) i r =
      (tt, refl, stacked_to _ (i + 1) (i + 1 + width nv nd is) _ (omega arith) (stacked is (i + 1) r))
  stacked (If c x y is) i r =
      four i _ _ _ _ _ _ _ _ (stacked_test c i _ _ _) (stacked x (i + test_width nv nd c) _)
      (stacked y (i + test_width nv nd c + width nv nd x) _)
      (stacked is (i + test_width nv nd c + width nv nd x + width nv nd y) r)
  stacked (Loop c n b is) i r =
      four i _ _ _ _ _ _ _ _ (stacked_test c i _ _ _) (stacked b (i + test_width nv nd c) _)
      (stacked n (i + test_width nv nd c + width nv nd b) _)
      (stacked is (i + test_width nv nd c + width nv nd b + width nv nd n) r)
  stacked (Again c n b is) i r =
      four i _ _ _ _ _ _ _ _ (stacked n i _) (stacked_test c (i + width nv nd n) _ _ _)
      (stacked b (i + width nv nd n + test_width nv nd c) _)
      (stacked is (i + width nv nd n + test_width nv nd c + width nv nd b) r)
  stacked (DoLoop c b is) i r =
      three i _ _ _ _ _ _ (stacked b i _) (stacked_test c (i + width nv nd b) _ _ _)
      (stacked is (i + width nv nd b + test_width nv nd c) r)
  stacked (DoAgain c b is) i r =
      three i _ _ _ _ _ _ (stacked_test c i _ _ _) (stacked b (i + test_width nv nd c) _)
      (stacked is (i + test_width nv nd c + width nv nd b) r)
  stacked (Enter vs ws m is) i r =
      let w = enter_width nv nd vs ws in
      (tt, refl, stacked_to _ (i + w) (i + w + width nv nd is) _ (omega arith) (stacked is (i + w) r))
  stacked (Leave v vs a m is) i r =
      let w = leave_width nv nd v vs a in
      (tt, refl, stacked_to _ (i + w) (i + w + width nv nd is) _ (omega arith) (stacked is (i + w) r))
  stacked (Exit v vs d m is) i r =
      let w = exit_width nv nd v vs d in
      (tt, refl, stacked_to _ (i + w) (i + w + width nv nd is) _ (omega arith) (stacked is (i + w) r))

  test_wide : (c : Test) → 0 < test_width nv nd c
  test_wide (Not c) = test_wide c
  test_wide (Both c d) = omega (arith, test_wide c)
  test_wide (Either c d) = omega (arith, test_wide c)
  test_wide (Ask ChoiceAtom m) = omega arith
  test_wide _ = omega arith

  pub loc_ask : (exit i : ℕ) (c : Test) (x y r : Items) → loc nv nd exit (ask (number_test nv nd c i) x y r) ≡ i
  loc_ask exit i (Ask a m) x y r = refl
  loc_ask exit i (Not c) x y r = loc_ask exit i c y x r
  loc_ask exit i (Both c d) x y r = loc_ask exit i c _ y r
  loc_ask exit i (Either c d) x y r = loc_ask exit i c x _ r

  -- items that open before a place with its own number
  first : (w i k e : ℕ) → k ≡ i + w → e ≡ first_of w i k → e ≡ i
  first zero i k e q h = omega (arith, q, h)
  first (suc w) i k e q h = h

  pub loc_open : (exit : ℕ) (is : Items) (i : ℕ) (r o : Items) → loc nv nd exit (open_before (number nv nd is i) r o)
      ≡ first_of (width nv nd is) i (loc nv nd exit o)
  loc_open exit Done i r o = refl
  loc_open exit (Do a m is) i r o = sym (first_wide (width nv nd (Do a m is)) i (loc nv nd exit o) (omega arith))
  loc_open exit (Close ps ds m is) i r o =
      sym (first_wide (width nv nd (Close ps ds m is)) i (loc nv nd exit o) (omega arith))
  loc_open exit (If c x y is) i r o = loc_ask exit i c _ _ _
      ∙ sym (first_wide (width nv nd (If c x y is)) i (loc nv nd exit o) (omega (arith, test_wide c)))
  loc_open exit (Loop c n b is) i r o = loc_ask exit i c _ _ _
      ∙ sym (first_wide (width nv nd (Loop c n b is)) i (loc nv nd exit o) (omega (arith, test_wide c)))
  loc_open exit (Again c n b is) i r o =
      first (width nv nd n) i (i + width nv nd n) _ refl
      (loc_open exit n i _ _ ∙ ap (first_of (width nv nd n) i) (loc_ask exit (i + width nv nd n) c _ _ _))
      ∙ sym (first_wide (width nv nd (Again c n b is)) i (loc nv nd exit o) (omega (arith, test_wide c)))
  loc_open exit (DoLoop c b is) i r o =
      first (width nv nd b) i (i + width nv nd b) _ refl
      (loc_open exit b i _ _ ∙ ap (first_of (width nv nd b) i) (loc_ask exit (i + width nv nd b) c _ _ _))
      ∙ sym (first_wide (width nv nd (DoLoop c b is)) i (loc nv nd exit o) (omega (arith, test_wide c)))
  loc_open exit (DoAgain c b is) i r o = loc_ask exit i c _ _ _
      ∙ sym (first_wide (width nv nd (DoAgain c b is)) i (loc nv nd exit o) (omega (arith, test_wide c)))
  loc_open exit (Enter vs ws m is) i r o =
      sym (first_wide (width nv nd (Enter vs ws m is)) i (loc nv nd exit o) (omega arith))
  loc_open exit (Leave v vs a m is) i r o =
      sym (first_wide (width nv nd (Leave v vs a m is)) i (loc nv nd exit o) (omega arith))
  loc_open exit (Exit v vs d m is) i r o =
      sym (first_wide (width nv nd (Exit v vs d m is)) i (loc nv nd exit o) (omega arith))
