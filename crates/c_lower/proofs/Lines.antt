-- Each location has the line of its step, and numbered items with their lines are the items.
use Rattle.std.proofs.Common.{◌≡◌, ℕ, zero, suc, ◌+◌, ◌<◌, List, [], ◌∷◌, ◌++◌, length, replicate, refl, ap, ◌∙◌, subst}
use Rattle.std.proofs.Common.{arith}
use Rattle.std.specs.Prelude.{slice_index_or}
use Rattle.std.proofs.lemmas.List.{length-append, length-replicate}
use Rattle.c_types.specs.declared.program.Atom.{Atom}
use Rattle.c_types.specs.declared.program.Atom.TheVariants.{Choice as ChoiceAtom}
use Rattle.c_types.specs.Control.{Items, Done, Do, Close, If, Loop, Again, DoLoop, DoAgain, Enter, Leave, Exit, Test}
use Rattle.c_types.specs.Control.{Ask, Not, Both, Either}
use Rattle.c_cfg.specs.Places.{remark_test, remark}
use Rattle.c_lower.specs.inner.Numbering.{act_width, atom_width, test_width, width, number_test, number, test_lines}
use Rattle.c_lower.specs.inner.Numbering.{enter_width, leave_width, exit_width, lines}

module _ (nv nd : ℕ) where
  both_long : (xs ys : List ℕ) (a b : ℕ) → length xs ≡ a → length ys ≡ b → length (xs ++ ys) ≡ a + b
  both_long xs ys a b e f = omega (arith, length-append xs ys, e, f)

  step_long : (n m : ℕ) (ys : List ℕ) (b : ℕ) → length ys ≡ b → length (replicate n m ++ ys) ≡ n + b
  step_long n m ys b e = both_long (replicate n m) ys n b (length-replicate n m) e

  pub test_lines_length : (c : Test) → length (test_lines nv nd c) ≡ test_width nv nd c
  test_lines_length (Ask a m) = length-replicate (atom_width nv nd a) m
  test_lines_length (Not c) = test_lines_length c
  test_lines_length (Both c d) = both_long _ _ _ _ (test_lines_length c) (test_lines_length d)
  test_lines_length (Either c d) = both_long _ _ _ _ (test_lines_length c) (test_lines_length d)

  pub lines_length : (is : Items) → length (lines nv nd is) ≡ width nv nd is
  lines_length Done = refl
  lines_length (Do a m is) = step_long (act_width nv nd a) m _ _ (lines_length is)
  lines_length (Close ps ds m is) = omega (arith, lines_length is)
  lines_length (If c x y is) =
      both_long _ _ _ _ (test_lines_length c)
      (both_long _ _ _ _ (lines_length x) (both_long _ _ _ _ (lines_length y) (lines_length is)))
  lines_length (Loop c n b is) =
      both_long _ _ _ _ (test_lines_length c)
      (both_long _ _ _ _ (lines_length b) (both_long _ _ _ _ (lines_length n) (lines_length is)))
  lines_length (Again c n b is) =
      both_long _ _ _ _ (lines_length n)
      (both_long _ _ _ _ (test_lines_length c) (both_long _ _ _ _ (lines_length b) (lines_length is)))
  lines_length (DoLoop c b is) =
      both_long _ _ _ _ (lines_length b) (both_long _ _ _ _ (test_lines_length c) (lines_length is))
  lines_length (DoAgain c b is) =
      both_long _ _ _ _ (test_lines_length c) (both_long _ _ _ _ (lines_length b) (lines_length is))
  lines_length (Enter vs ws m is) = step_long (enter_width nv nd vs ws) m _ _ (lines_length is)
  lines_length (Leave v vs a m is) = step_long (leave_width nv nd v vs a) m _ _ (lines_length is)
  lines_length (Exit v vs d m is) = step_long (exit_width nv nd v vs d) m _ _ (lines_length is)

  -- from i on, the list L goes on with these lines
  abbrev pub Lined : (ℕ → ℕ) → ℕ → List ℕ → Type 0
  Lined f i [] = Unit {0}
  Lined f i (x ∷ xs) = (f i ≡ x) × Lined f (i + 1) xs

  pub lined_front : (f : ℕ → ℕ) (i : ℕ) (xs ys : List ℕ) → Lined f i (xs ++ ys) → Lined f i xs
  lined_front f i [] ys h = tt
  lined_front f i (x ∷ xs) ys h = (h.0, lined_front f (i + 1) xs ys h.1)

  pub lined_back : (f : ℕ → ℕ) (i n : ℕ) (xs ys : List ℕ) → length xs ≡ n → Lined f i (xs ++ ys) → Lined f (i + n) ys
  lined_back f i n [] ys e h = let q : i ≡ i + n = omega (arith, e) in subst (λ k. Lined f k ys) q h
  lined_back f i zero (x ∷ xs) ys e h = absurd (omega (arith, e))
  lined_back f i (suc n) (x ∷ xs) ys e h = let q : i + 1 + n ≡ i + suc n = omega arith in
      subst (λ k. Lined f k ys) q (lined_back f (i + 1) n xs ys (omega (arith, e)) h.1)

  -- those of three parts, and those of four
  pub lined_three : (f : ℕ → ℕ) (i a b : ℕ) (xs ys zs : List ℕ) → length xs ≡ a → length ys ≡ b
      → Lined f i (xs ++ (ys ++ zs)) → Lined f i xs × Lined f (i + a) ys × Lined f (i + a + b) zs
  lined_three f i a b xs ys zs d e h = let rest = lined_back f i a xs (ys ++ zs) d h in
      (lined_front f i xs (ys ++ zs) h, lined_front f (i + a) ys zs rest, lined_back f (i + a) b ys zs e rest)

  pub lined_four : (f : ℕ → ℕ) (i a b c : ℕ) (xs ys zs ws : List ℕ) → length xs ≡ a → length ys ≡ b → length zs ≡ c
      → Lined f i (xs ++ (ys ++ (zs ++ ws)))
      → Lined f i xs × Lined f (i + a) ys × Lined f (i + a + b) zs × Lined f (i + a + b + c) ws
  lined_four f i a b c xs ys zs ws d e g h =
      let rest = lined_back f i a xs (ys ++ (zs ++ ws)) d h in
      let parts = lined_three f (i + a) b c ys zs ws e g rest in
      (lined_front f i xs (ys ++ (zs ++ ws)) h, parts.0, parts.1, parts.2)

  pub lined_all : (zs xs : List ℕ) (i : ℕ) → ((q : ℕ) → slice_index_or zs (i + q) 0 ≡ slice_index_or xs q 0)
      → Lined (λ k. slice_index_or zs k 0) i xs
  lined_all zs [] i h = tt
  lined_all zs (x ∷ xs) i h = (
    let e : i ≡ i + 0 = omega arith in ap (λ k. slice_index_or zs k 0) e ∙ h 0,
    lined_all zs xs (i + 1) (λ q. let e : i + 1 + q ≡ i + suc q = omega arith in ap (λ k. slice_index_or zs k 0) e
        ∙ h (suc q)),
  )

  pub replicate_first : (f : ℕ → ℕ) (i n m : ℕ) → 0 < n → Lined f i (replicate n m) → f i ≡ m
  replicate_first f i zero m h l = absurd (omega arith)
  replicate_first f i (suc n) m h l = l.0

  -- those of a step, and of what is behind it
  pub lined_step : (f : ℕ → ℕ) (i n m : ℕ) (ys : List ℕ) → 0 < n → Lined f i (replicate n m ++ ys)
      → (f i ≡ m) × Lined f (i + n) ys
  lined_step f i n m ys o h = (
    replicate_first f i n m o (lined_front f i (replicate n m) ys h),
    lined_back f i n (replicate n m) ys (length-replicate n m) h,
  )

  pub atom_wide : (a : Atom) → 0 < atom_width nv nd a
  atom_wide ChoiceAtom = omega arith
  atom_wide _ = omega arith

  test_back : (f : ℕ → ℕ) (c : Test) (i : ℕ) → Lined f i (test_lines nv nd c) → remark_test f (number_test nv nd c i)
      ≡ c
  test_back f (Ask a m) i h = ap (Ask a) (replicate_first f i (atom_width nv nd a) m (atom_wide a) h)
  test_back f (Not c) i h = ap Not (test_back f c i h)
  test_back f (Both c d) i h =
      ap (λ z. Both z (remark_test f (number_test nv nd d (i + test_width nv nd c))))
      (test_back f c i (lined_front f i _ _ h))
      ∙ ap (Both c) (test_back f d (i + test_width nv nd c) (lined_back f i _ _ _ (test_lines_length c) h))
  test_back f (Either c d) i h =
      ap (λ z. Either z (remark_test f (number_test nv nd d (i + test_width nv nd c))))
      (test_back f c i (lined_front f i _ _ h))
      ∙ ap (Either c) (test_back f d (i + test_width nv nd c) (lined_back f i _ _ _ (test_lines_length c) h))

  loop_same : (F : Test → Items → Items → Items → Items) (c c2 : Test) (n n2 b b2 is js : Items) → c ≡ c2 → n ≡ n2
      → b ≡ b2 → is ≡ js → F c n b is ≡ F c2 n2 b2 js
  loop_same F c c2 n n2 b b2 is js ec en eb ei = ap (λ z. F z n b is) ec ∙ ap (λ z. F c2 z b is) en
      ∙ ap (λ z. F c2 n2 z is) eb ∙ ap (λ z. F c2 n2 b2 z) ei

  pub back : (f : ℕ → ℕ) (is : Items) (i : ℕ) → Lined f i (lines nv nd is) → remark f (number nv nd is i) ≡ is
  back f Done i h = refl
  back f (Do a m is) i h =
      let l = lined_step f i (act_width nv nd a) m (lines nv nd is) (omega arith) h in
      ap (λ k. Do a k (remark f (number nv nd is (i + act_width nv nd a)))) l.0 ∙ ap (Do a m) (back f is _ l.1)
  back f (Close ps ds m is) i h = ap (λ k. Close ps ds k (remark f (number nv nd is (i + 1)))) h.0
      ∙ ap (Close ps ds m) (back f is (i + 1) h.1)
  back f (If c x y is) i h =
      let l = lined_four f i _ _ _ (test_lines nv nd c) (lines nv nd x) (lines nv nd y) (lines nv nd is)
      (test_lines_length c) (lines_length x) (lines_length y) h in
      loop_same If _ c _ x _ y _ is (test_back f c i l.0) (back f x _ l.1) (back f y _ l.2) (back f is _ l.3)
  back f (Loop c n b is) i h =
      let l = lined_four f i _ _ _ (test_lines nv nd c) (lines nv nd b) (lines nv nd n) (lines nv nd is)
      (test_lines_length c) (lines_length b) (lines_length n) h in
      loop_same Loop _ c _ n _ b _ is (test_back f c i l.0) (back f n _ l.2) (back f b _ l.1) (back f is _ l.3)
  back f (Again c n b is) i h =
      let l = lined_four f i _ _ _ (lines nv nd n) (test_lines nv nd c) (lines nv nd b) (lines nv nd is)
      (lines_length n) (test_lines_length c) (lines_length b) h in
      loop_same Again _ c _ n _ b _ is (test_back f c _ l.1) (back f n _ l.0) (back f b _ l.2) (back f is _ l.3)
  back f (DoLoop c b is) i h =
      let l = lined_three f i _ _ (lines nv nd b) (test_lines nv nd c) (lines nv nd is) (lines_length b)
      (test_lines_length c) h in
      loop_same (λ c n b is. DoLoop c b is) _ c Done Done _ b _ is (test_back f c _ l.1) refl (back f b _ l.0)
      (back f is _ l.2)
  back f (DoAgain c b is) i h =
      let l = lined_three f i _ _ (test_lines nv nd c) (lines nv nd b) (lines nv nd is) (test_lines_length c)
      (lines_length b) h in
      loop_same (λ c n b is. DoAgain c b is) _ c Done Done _ b _ is (test_back f c _ l.0) refl (back f b _ l.1)
      (back f is _ l.2)
  back f (Enter vs ws m is) i h =
      let w = enter_width nv nd vs ws in let l = lined_step f i w m (lines nv nd is) (omega arith) h in
      ap (λ k. Enter vs ws k (remark f (number nv nd is (i + w)))) l.0 ∙ ap (Enter vs ws m) (back f is _ l.1)
  back f (Leave v vs a m is) i h =
      let w = leave_width nv nd v vs a in let l = lined_step f i w m (lines nv nd is) (omega arith) h in
      ap (λ k. Leave v vs a k (remark f (number nv nd is (i + w)))) l.0 ∙ ap (Leave v vs a m) (back f is _ l.1)
  back f (Exit v vs d m is) i h =
      let w = exit_width nv nd v vs d in let l = lined_step f i w m (lines nv nd is) (omega arith) h in
      ap (λ k. Exit v vs d k (remark f (number nv nd is (i + w)))) l.0 ∙ ap (Exit v vs d m) (back f is _ l.1)
