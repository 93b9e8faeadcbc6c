-- The loop heads of numbered items, and of items that stand before items.
use Rattle.std.proofs.Common.{◌≡◌, ℕ, suc, ◌+◌, List, [], ◌∷◌, ◌++◌, map, refl, sym, ap, ◌∙◌, arith}
use Rattle.std.proofs.lemmas.List.{append_assoc}
use Rattle.c_types.specs.Control.{Items, Done, Do, Close, If, Loop, Again, DoLoop, DoAgain, Enter, Leave, Exit, ◌then◌}
use Rattle.c_types.specs.Control.{ask, round}
use Rattle.c_types.specs.Control.{do_round}
use Rattle.c_cfg.specs.Places.{heads}
use Rattle.c_lower.specs.inner.Numbering.{act_width, test_width, width, number_test, number, loc}
use Rattle.c_lower.specs.inner.Numbering.{enter_width, leave_width, exit_width}
use Rattle.c_lower.specs.inner.Emitting.{head_numbers}
use Rattle.c_lower.proofs.Joined.{assoc3}
use Rattle.c_lower.proofs.Standing.{IsWhole}
use Rattle.c_lower.proofs.Stacking.{loc_ask}

both_mapped : {A B : Type 0} (f : A → B) (xs ys : List A) (us bs : List B) → map f xs ≡ us → map f ys ≡ bs
    → map f (xs ++ ys) ≡ us ++ bs
both_mapped f [] ys us bs ex ey = ey ∙ ap (λ zs. zs ++ bs) ex
both_mapped f (x ∷ xs) ys us bs ex ey = ap (λ zs. f x ∷ zs) (both_mapped f xs ys (map f xs) bs refl ey)
    ∙ ap (λ zs. zs ++ bs) ex

module _ (nv nd exit : ℕ) where
  pub heads_numbered : (n : ℕ) (is : Items) → IsWhole n is → (i : ℕ) (r : Items)
      → map (loc nv nd exit) (heads (number nv nd is i) r) ≡ head_numbers nv nd is i
  heads_numbered n Done p i r = refl
  heads_numbered n (Do a m is) p i r = heads_numbered n is p (i + act_width nv nd a) r
  heads_numbered n (Close ps ds m is) p i r = heads_numbered n is p (i + 1) r
  heads_numbered n (If c x y is) p i r =
      let i1 = i + test_width nv nd c in let i2 = i1 + width nv nd x in let i3 = i2 + width nv nd y in
      both_mapped (loc nv nd exit) (heads (number nv nd x i1) (number nv nd is i3 then r)) _ _ _
      (heads_numbered 0 x p.0 i1 (number nv nd is i3 then r))
      (both_mapped (loc nv nd exit) (heads (number nv nd y i2) (number nv nd is i3 then r)) _ _ _
      (heads_numbered 0 y p.1 i2 (number nv nd is i3 then r)) (heads_numbered n is p.2 i3 r))
  heads_numbered l (Loop c n b is) p i r =
      let i1 = i + test_width nv nd c in let i2 = i1 + width nv nd b in let i3 = i2 + width nv nd n in
      let C = number_test nv nd c i in let N = number nv nd n i2 in let B = number nv nd b i1 in let q =
      number nv nd is i3 then r in
      both_mapped (loc nv nd exit) (ask C (round C N B) Done q ∷ []) _ (i ∷ []) _
      (ap (λ k. k ∷ []) (loc_ask nv nd exit i c (round C N B) Done q))
      (both_mapped (loc nv nd exit) (heads B (Again C N B q)) _ _ _ (heads_numbered 0 b p.1 i1 (Again C N B q))
      (both_mapped (loc nv nd exit) (heads N (Loop C N B q)) _ _ _ (heads_numbered 0 n p.0 i2 (Loop C N B q))
      (heads_numbered l is p.2 i3 r)))
  heads_numbered n (DoLoop c b is) p i r =
      let i1 = i + width nv nd b in let i2 = i1 + test_width nv nd c in
      let C = number_test nv nd c i1 in let B = number nv nd b i in let q = number nv nd is i2 then r in
      both_mapped (loc nv nd exit) (ask C (do_round C B) Done q ∷ []) _ (i1 ∷ []) _
      (ap (λ k. k ∷ []) (loc_ask nv nd exit i1 c (do_round C B) Done q))
      (both_mapped (loc nv nd exit) (heads B (DoAgain C B q)) _ _ _ (heads_numbered 0 b p.0 i (DoAgain C B q))
      (heads_numbered n is p.1 i2 r))
  heads_numbered n (Enter vs ws m is) p i r = heads_numbered (suc n) is p (i + enter_width nv nd vs ws) r
  heads_numbered n (Leave v vs a m is) p i r = heads_numbered n is p (i + leave_width nv nd v vs a) r
  heads_numbered (suc n) (Exit v vs d m is) p i r = heads_numbered n is p (i + exit_width nv nd v vs d) r
  heads_numbered _ _ p i r = absurd p

module _ (nv nd : ℕ) where
  pub heads_then : (n : ℕ) (c : Items) → IsWhole n c → (d : Items) (i j : ℕ) → j ≡ i + width nv nd c
      → head_numbers nv nd (c then d) i ≡ head_numbers nv nd c i ++ head_numbers nv nd d j
  heads_then n Done p d i j e = let q : i ≡ j = omega (arith, e) in ap (head_numbers nv nd d) q
  heads_then n (Do a m is) p d i j e = heads_then n is p d (i + act_width nv nd a) j (omega (arith, e))
  heads_then n (Close ps ds m is) p d i j e = heads_then n is p d (i + 1) j (omega (arith, e))
  heads_then n (If c x y is) p d i j e =
      let i1 = i + test_width nv nd c in let i2 = i1 + width nv nd x in let i3 = i2 + width nv nd y in
      ap (λ ks. head_numbers nv nd x i1 ++ (head_numbers nv nd y i2 ++ ks))
      (heads_then n is p.2 d i3 j (omega (arith, e)))
      ∙ assoc3 (head_numbers nv nd x i1) (head_numbers nv nd y i2) (head_numbers nv nd is i3) (head_numbers nv nd d j)
  heads_then l (Loop c n b is) p d i j e =
      let i1 = i + test_width nv nd c in let i2 = i1 + width nv nd b in let i3 = i2 + width nv nd n in
      ap (λ ks. i ∷ head_numbers nv nd b i1 ++ (head_numbers nv nd n i2 ++ ks))
      (heads_then l is p.2 d i3 j (omega (arith, e)))
      ∙ assoc3 (i ∷ head_numbers nv nd b i1) (head_numbers nv nd n i2) (head_numbers nv nd is i3)
      (head_numbers nv nd d j)
  heads_then n (DoLoop c b is) p d i j e =
      let i1 = i + width nv nd b in let i2 = i1 + test_width nv nd c in
      ap (λ ks. i1 ∷ head_numbers nv nd b i ++ ks) (heads_then n is p.1 d i2 j (omega (arith, e)))
      ∙ sym (append_assoc (i1 ∷ head_numbers nv nd b i) (head_numbers nv nd is i2) (head_numbers nv nd d j))
  heads_then n (Enter vs ws m is) p d i j e = heads_then (suc n) is p d _ j (omega (arith, e))
  heads_then n (Leave v vs a m is) p d i j e = heads_then n is p d _ j (omega (arith, e))
  heads_then (suc n) (Exit v vs b m is) p d i j e = heads_then n is p d _ j (omega (arith, e))
  heads_then _ _ p d i j e = absurd p
