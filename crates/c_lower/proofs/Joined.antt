-- The edges, the room and the loop heads of items that stand before items.
use Rattle.std.proofs.Common.{◌≡◌, ℕ, zero, suc, ◌+◌, ◌≤◌, List, ◌∷◌, ◌++◌, refl, sym, ap, ◌∙◌, arith, None}
use Rattle.std.proofs.lemmas.List.{append_assoc}
use Rattle.c_types.specs.declared.program.Act.{Act}
use Rattle.c_types.specs.declared.program.Act.TheVariants.{SetPtr}
use Rattle.c_types.specs.Control.{Items, Done, Do, Close, If, Loop, Again, DoLoop, DoAgain, Enter, Leave, Exit, ◌then◌}
use Rattle.c_types.specs.Control.{merged}
use Rattle.c_cfg.specs.declared.graph.Instr.TheVariants.{Kill}
use Rattle.c_cfg.specs.declared.graph.Edge.{Edge}
use Rattle.c_lower.specs.declared.around.Around.{Around}
use Rattle.c_cfg.specs.declared.link.Link.{Link}
use Rattle.c_cfg.specs.Links.{enter_row, leave_row, exit_row}
use Rattle.c_cfg.specs.Lowering.{edge}
use Rattle.c_links.specs.Chains.{chain}
use Rattle.c_lower.specs.inner.Numbering.{act_width, test_width, width, enter_width, leave_width, exit_width}
use Rattle.c_lower.specs.inner.Emitting.{first_of, dying, ptrs_of, datums_of, inside, back_at, in_loop, back_of}
use Rattle.c_lower.specs.inner.Emitting.{before, act_to, act_links, emit_test, emit}
use Rattle.c_lower.proofs.Standing.{IsWhole}

-- of items whose calls end in them, but for n that end in them and have begun before
dying_both : (own : List ℕ → List ℕ → List ℕ) (n : ℕ) (c : Items) → IsWhole n c → (m : ℕ) → m ≤ n → (d : Items)
    (ps : List ℕ) → dying own m (c then d) ps ≡ dying own m c (dying own 0 d ps)
dying_both own n Done p m l d ps = let z : m ≡ 0 = omega (arith, p, l) in ap (λ k. dying own k d ps) z
dying_both own n (Do a k is) p m l d ps = dying_both own n is p m l d ps
dying_both own n (Close qs es k is) p zero l d ps = ap (merged (own qs es)) (dying_both own n is p zero l d ps)
dying_both own n (Close qs es k is) p (suc m) l d ps = dying_both own n is p (suc m) l d ps
dying_both own n (If c x y is) p m l d ps = dying_both own n is p.2 m l d ps
dying_both own n (Loop c x y is) p m l d ps = dying_both own n is p.2 m l d ps
dying_both own n (Again c x y is) p m l d ps = absurd p
dying_both own n (DoLoop c y is) p m l d ps = dying_both own n is p.1 m l d ps
dying_both own n (DoAgain c y is) p m l d ps = absurd p
dying_both own n (Enter vs ws k is) p m l d ps = dying_both own (suc n) is p (suc m) (omega (arith, l)) d ps
dying_both own n (Leave v vs a k is) p m l d ps = dying_both own n is p m l d ps
dying_both own zero (Exit v vs t k is) p m l d ps = absurd p
dying_both own (suc n) (Exit v vs t k is) p zero l d ps = refl
dying_both own (suc n) (Exit v vs t k is) p (suc m) l d ps = dying_both own n is p m (omega (arith, l)) d ps

pub inside_both : (n : ℕ) (c : Items) → IsWhole n c → (w : Around) (d : Items)
    → inside w (c then d) ≡ inside (inside w d) c
inside_both n c p w d =
    ap (λ (ps : List ℕ). in_place ps (datums_of (c then d) w.datums))
    (dying_both (λ ps ds. ps) n c p 0 (omega arith) d w.ptrs)
    ∙ ap (λ (ds : List ℕ). in_place (ptrs_of c (ptrs_of d w.ptrs)) ds)
    (dying_both (λ ps ds. ds) n c p 0 (omega arith) d w.datums)
  where
    in_place : List ℕ → List ℕ → Around
    in_place ps ds = record { leave = w.leave; again = w.again; ptrs = ps; datums = ds; back = w.back }

pub first_both : (v u i j k : ℕ) → j ≡ i + v → first_of (v + u) i k ≡ first_of v i (first_of u j k)
first_both zero zero i j k e = refl
first_both zero (suc u) i j k e = let q : 0 + suc u ≡ suc u = omega arith in ap (λ n. first_of n i k) q
    ∙ omega (arith, e)
first_both (suc v) u i j k e = let q : suc v + u ≡ suc (v + u) = omega arith in ap (λ n. first_of n i k) q

module _ {A : Type 0} where
  pub assoc3 : (a b c d : List A) → a ++ (b ++ (c ++ d)) ≡ (a ++ (b ++ c)) ++ d
  assoc3 a b c d = ap (λ es. a ++ es) (sym (append_assoc b c d)) ∙ sym (append_assoc a (b ++ c) d)

  assoc4 : (a b c d e : List A) → a ++ (b ++ (c ++ (d ++ e))) ≡ (a ++ (b ++ (c ++ d))) ++ e
  assoc4 a b c d e = ap (λ es. a ++ es) (assoc3 b c d e) ∙ sym (append_assoc a (b ++ (c ++ d)) e)

module _ (nv nd : ℕ) where
  pub width_then : (c d : Items) → width nv nd (c then d) ≡ width nv nd c + width nv nd d
  width_then Done d = omega arith
  width_then (Do a m is) d = omega (arith, width_then is d)
  width_then (Close ps ds m is) d = omega (arith, width_then is d)
  width_then (If c x y is) d = omega (arith, width_then is d)
  width_then (Loop c n b is) d = omega (arith, width_then is d)
  width_then (Again c n b is) d = omega (arith, width_then is d)
  width_then (DoLoop c b is) d = omega (arith, width_then is d)
  width_then (DoAgain c b is) d = omega (arith, width_then is d)
  width_then (Enter vs ws m is) e = omega (arith, width_then is e)
  width_then (Leave v vs a m is) e = omega (arith, width_then is e)
  width_then (Exit v vs d m is) e = omega (arith, width_then is e)

  -- where a `return` leads that stands before items which stand before others
  pub back_both : (n : ℕ) (c : Items) → IsWhole n c → (m : ℕ) → m ≤ n → (d : Items) (i j b : ℕ)
      → j ≡ i + width nv nd c → back_of nv nd (c then d) m i b ≡ back_of nv nd c m i (back_of nv nd d 0 j b)
  back_both n Done p m l d i j b e = let z : m ≡ 0 = omega (arith, p, l) in let q : i ≡ j = omega (arith, e) in
      ap (λ k. back_of nv nd d k i b) z ∙ ap (λ k. back_of nv nd d 0 k b) q
  back_both n (Do a k is) p m l d i j b e = back_both n is p m l d _ j b (omega (arith, e))
  back_both n (Close ps ds k is) p m l d i j b e = back_both n is p m l d _ j b (omega (arith, e))
  back_both n (If c x y is) p m l d i j b e = back_both n is p.2 m l d _ j b (omega (arith, e))
  back_both n (Loop c x y is) p m l d i j b e = back_both n is p.2 m l d _ j b (omega (arith, e))
  back_both n (Again c x y is) p m l d i j b e = absurd p
  back_both n (DoLoop c y is) p m l d i j b e = back_both n is p.1 m l d _ j b (omega (arith, e))
  back_both n (DoAgain c y is) p m l d i j b e = absurd p
  back_both n (Enter vs ws k is) p m l d i j b e = back_both (suc n) is p (suc m) (omega (arith, l)) d _ j b
      (omega (arith, e))
  back_both n (Leave v vs a k is) p m l d i j b e = back_both n is p m l d _ j b (omega (arith, e))
  back_both zero (Exit v vs t k is) p m l d i j b e = absurd p
  back_both (suc n) (Exit v vs t k is) p zero l d i j b e = refl
  back_both (suc n) (Exit v vs t k is) p (suc m) l d i j b e = back_both n is p m (omega (arith, l)) d _ j b
      (omega (arith, e))

  -- items in which each call ends that begins in them have no end of another one
  pub back_behind : (n : ℕ) (c : Items) → IsWhole n c → (m : ℕ) → n ≤ m → (i b : ℕ) → back_of nv nd c m i b ≡ b
  back_behind n Done p m l i b = refl
  back_behind n (Do a k is) p m l i b = back_behind n is p m l _ b
  back_behind n (Close ps ds k is) p m l i b = back_behind n is p m l _ b
  back_behind n (If c x y is) p m l i b = back_behind n is p.2 m l _ b
  back_behind n (Loop c x y is) p m l i b = back_behind n is p.2 m l _ b
  back_behind n (Again c x y is) p m l i b = absurd p
  back_behind n (DoLoop c y is) p m l i b = back_behind n is p.1 m l _ b
  back_behind n (DoAgain c y is) p m l i b = absurd p
  back_behind n (Enter vs ws k is) p m l i b = back_behind (suc n) is p (suc m) (omega (arith, l)) _ b
  back_behind n (Leave v vs a k is) p m l i b = back_behind n is p m l _ b
  back_behind zero (Exit v vs t k is) p m l i b = absurd p
  back_behind (suc n) (Exit v vs t k is) p zero l i b = absurd (omega (arith, l))
  back_behind (suc n) (Exit v vs t k is) p (suc m) l i b = back_behind n is p m (omega (arith, l)) _ b

  pub before_both : (n : ℕ) (c : Items) → IsWhole n c → (w : Around) (d : Items) (i j : ℕ) → j ≡ i + width nv nd c
      → before nv nd w (c then d) i ≡ before nv nd (before nv nd w d j) c i
  before_both n c p w d i j e = ap (λ (v : Around). back_at v (back_of nv nd (c then d) 0 i w.back)) (inside_both n c p w d)
      ∙ ap (back_at (inside (inside w d) c)) (back_both n c p 0 (omega arith) d i j w.back e)

  -- what is around items in which each call ends that begins in them is told without their location
  pub before_whole : (c : Items) → IsWhole 0 c → (w : Around) (i : ℕ) → before nv nd w c i ≡ inside w c
  before_whole c p w i = ap (back_at (inside w c)) (back_behind 0 c p 0 (omega arith) i w.back)

module _ (nv nd exit : ℕ) where
  act_same : (w : Around) (d : Items) (a : Act) (j k : ℕ) → act_to exit w a k
      ≡ act_to exit (before nv nd w d j) a k
  act_same w d (SetPtr to from) j k = refl
  act_same w d _ j k = refl

  -- where the rest of some items leads
  after_both : (is d : Items) (i j k : ℕ) → j ≡ i + width nv nd is → first_of (width nv nd (is then d)) i k
      ≡ first_of (width nv nd is) i (first_of (width nv nd d) j k)
  after_both is d i j k e = ap (λ v. first_of v i k) (width_then nv nd is d)
      ∙ first_both (width nv nd is) (width nv nd d) i j k e

  -- the edges of a step before those of two parts
  chain_then : (row : List Link) (i m a b : ℕ) (xs ys zs : List Edge) → a ≡ b → xs ≡ ys ++ zs
      → chain m row i a ++ xs ≡ (chain m row i b ++ ys) ++ zs
  chain_then row i m a b xs ys zs ea ex = ap (λ q. chain m row i q ++ xs) ea ∙ ap (λ es. chain m row i b ++ es) ex
      ∙ sym (append_assoc (chain m row i b) ys zs)

  pub emit_then : (n : ℕ) (c : Items) → IsWhole n c → (d : Items) (w : Around) (i j k : ℕ) → j ≡ i + width nv nd c
      → emit nv nd exit (c then d) w i k ≡ emit nv nd exit c (before nv nd w d j) i (first_of (width nv nd d) j k)
      ++ emit nv nd exit d w j k
  emit_then n Done p d w i j k e = let q : i ≡ j = omega (arith, e) in ap (λ z. emit nv nd exit d w z k) q
  emit_then n (Do a m is) p d w i j k e =
      let i1 = i + act_width nv nd a in
      let e1 : j ≡ i1 + width nv nd is = omega (arith, e) in
      let to = first_of (width nv nd is) i1 (first_of (width nv nd d) j k) in
      ap (λ q. chain m (act_links nv nd q a) i (act_to exit w a (first_of (width nv nd (is then d)) i1 k))
      ++ emit nv nd exit (is then d) w i1 k) (inside_both n is p w d)
      ∙ chain_then (act_links nv nd (inside (inside w d) is) a) i m _ _ _ _ _
      (ap (act_to exit w a) (after_both is d i1 j k e1) ∙ act_same w d a j to) (emit_then n is p d w i1 j k e1)
  emit_then n (Close ps ds m is) p d w i j k e =
      let e1 : j ≡ i + 1 + width nv nd is = omega (arith, e) in
      ap (λ q. edge m i q (Kill ps ds) None ∷ emit nv nd exit (is then d) w (i + 1) k) (after_both is d (i + 1) j k e1)
      ∙ ap (λ es. edge m i (first_of (width nv nd is) (i + 1) (first_of (width nv nd d) j k)) (Kill ps ds) None ∷ es)
      (emit_then n is p d w (i + 1) j k e1)
  emit_then n (If c x y is) p d w i j k e =
      let i1 = i + test_width nv nd c in let i2 = i1 + width nv nd x in let i3 = i2 + width nv nd y in
      let e1 : j ≡ i3 + width nv nd is = omega (arith, e) in
      let to = first_of (width nv nd is) i3 (first_of (width nv nd d) j k) in
      let v = before nv nd (before nv nd w d j) is i3 in
      ap (λ q. emit_test nv nd c i (first_of (width nv nd x) i1 q) (first_of (width nv nd y) i2 q)
      ++ (emit nv nd exit x (before nv nd w (is then d) i3) i1 q
      ++ (emit nv nd exit y (before nv nd w (is then d) i3) i2 q ++ emit nv nd exit (is then d) w i3 k)))
      (after_both is d i3 j k e1)
      ∙ ap (λ q. emit_test nv nd c i (first_of (width nv nd x) i1 to) (first_of (width nv nd y) i2 to)
      ++ (emit nv nd exit x q i1 to ++ (emit nv nd exit y q i2 to ++ emit nv nd exit (is then d) w i3 k)))
      (before_both nv nd n is p.2 w d i3 j e1)
      ∙ ap (λ es. emit_test nv nd c i (first_of (width nv nd x) i1 to) (first_of (width nv nd y) i2 to)
      ++ (emit nv nd exit x v i1 to ++ (emit nv nd exit y v i2 to ++ es))) (emit_then n is p.2 d w i3 j k e1)
      ∙ assoc4 (emit_test nv nd c i (first_of (width nv nd x) i1 to) (first_of (width nv nd y) i2 to))
      (emit nv nd exit x v i1 to) (emit nv nd exit y v i2 to) _ _
  emit_then l (Loop c n b is) p d w i j k e =
      let i1 = i + test_width nv nd c in let i2 = i1 + width nv nd b in let i3 = i2 + width nv nd n in
      let e1 : j ≡ i3 + width nv nd is = omega (arith, e) in
      let again = first_of (width nv nd n) i2 i in
      let to = first_of (width nv nd is) i3 (first_of (width nv nd d) j k) in
      let back = back_of nv nd is 0 i3 (back_of nv nd d 0 j w.back) in
      let v = before nv nd (before nv nd w d j) is i3 in
      ap (λ q. emit_test nv nd c i (first_of (width nv nd b) i1 again) q
      ++ (emit nv nd exit b (in_loop q again (back_of nv nd (is then d) 0 i3 w.back)) i1 again
      ++ (emit nv nd exit n (before nv nd w (is then d) i3) i2 i ++ emit nv nd exit (is then d) w i3 k)))
      (after_both is d i3 j k e1)
      ∙ ap (λ q. emit_test nv nd c i (first_of (width nv nd b) i1 again) to
      ++ (emit nv nd exit b (in_loop to again q) i1 again
      ++ (emit nv nd exit n (before nv nd w (is then d) i3) i2 i ++ emit nv nd exit (is then d) w i3 k)))
      (back_both nv nd l is p.2 0 (omega arith) d i3 j w.back e1)
      ∙ ap (λ q. emit_test nv nd c i (first_of (width nv nd b) i1 again) to
      ++ (emit nv nd exit b (in_loop to again back) i1 again
      ++ (emit nv nd exit n q i2 i ++ emit nv nd exit (is then d) w i3 k))) (before_both nv nd l is p.2 w d i3 j e1)
      ∙ ap (λ es. emit_test nv nd c i (first_of (width nv nd b) i1 again) to
      ++ (emit nv nd exit b (in_loop to again back) i1 again ++ (emit nv nd exit n v i2 i ++ es)))
      (emit_then l is p.2 d w i3 j k e1)
      ∙ assoc4 (emit_test nv nd c i (first_of (width nv nd b) i1 again) to)
      (emit nv nd exit b (in_loop to again back) i1 again) (emit nv nd exit n v i2 i) _ _
  emit_then n (DoLoop c b is) p d w i j k e =
      let i1 = i + width nv nd b in let i2 = i1 + test_width nv nd c in
      let e1 : j ≡ i2 + width nv nd is = omega (arith, e) in
      let to = first_of (width nv nd is) i2 (first_of (width nv nd d) j k) in
      let back = back_of nv nd is 0 i2 (back_of nv nd d 0 j w.back) in
      ap (λ q. emit nv nd exit b (in_loop q i1 (back_of nv nd (is then d) 0 i2 w.back)) i i1
      ++ (emit_test nv nd c i1 (first_of (width nv nd b) i i1) q ++ emit nv nd exit (is then d) w i2 k))
      (after_both is d i2 j k e1)
      ∙ ap (λ q. emit nv nd exit b (in_loop to i1 q) i i1
      ++ (emit_test nv nd c i1 (first_of (width nv nd b) i i1) to ++ emit nv nd exit (is then d) w i2 k))
      (back_both nv nd n is p.1 0 (omega arith) d i2 j w.back e1)
      ∙ ap (λ es. emit nv nd exit b (in_loop to i1 back) i i1
      ++ (emit_test nv nd c i1 (first_of (width nv nd b) i i1) to ++ es)) (emit_then n is p.1 d w i2 j k e1)
      ∙ assoc3 (emit nv nd exit b (in_loop to i1 back) i i1) (emit_test nv nd c i1 (first_of (width nv nd b) i i1) to)
      _ _
  emit_then n (Enter vs ws m is) p d w i j k e =
      let i1 = i + enter_width nv nd vs ws in
      let e1 : j ≡ i1 + width nv nd is = omega (arith, e) in
      chain_then (enter_row nv nd vs ws) i m _ _ _ _ _ (after_both is d i1 j k e1)
      (emit_then (suc n) is p d w i1 j k e1)
  emit_then n (Leave v vs a m is) p d w i j k e =
      let i1 = i + leave_width nv nd v vs a in
      let e1 : j ≡ i1 + width nv nd is = omega (arith, e) in
      chain_then (leave_row nv nd v vs a) i m _ _ _ _ _ (back_both nv nd n is p 0 (omega arith) d i1 j w.back e1)
      (emit_then n is p d w i1 j k e1)
  emit_then (suc n) (Exit v vs t m is) p d w i j k e =
      let i1 = i + exit_width nv nd v vs t in
      let e1 : j ≡ i1 + width nv nd is = omega (arith, e) in
      chain_then (exit_row nv nd v vs t) i m _ _ _ _ _ (after_both is d i1 j k e1) (emit_then n is p d w i1 j k e1)
  emit_then _ _ p d w i j k e = absurd p
