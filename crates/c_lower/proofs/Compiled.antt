-- The edges that the recursion with numbers gives are those of the places.
use Rattle.std.proofs.Common.{◌≡◌, ℕ, zero, suc, ◌+◌, ◌≤◌, List, [], ◌∷◌, ◌++◌, refl, sym, ap, ◌∙◌, arith}
use Rattle.std.proofs.Common.{None}
use Rattle.std.proofs.lemmas.List.{append_assoc, append-nil}
use Rattle.c_types.specs.declared.program.Act.{Act}
use Rattle.c_types.specs.declared.program.Act.TheVariants.{SetPtr, SetData, Free as FreeAct, Error, Halt, Return, Break}
use Rattle.c_types.specs.declared.program.Act.TheVariants.{Continue, Leave as LeaveAct}
use Rattle.c_types.specs.Control.{Items, Done, Do, Close, If, Loop, Again, DoLoop, DoAgain, Test, Ask, Not, Both}
use Rattle.c_types.specs.Control.{Either, Enter, Leave, Exit, ◌then◌, ask, round, do_round, open_before, opened}
use Rattle.c_types.specs.Control.{after_again, from_again, exit_after, from_exit}
use Rattle.c_types.specs.Control.{closed_after, closed_ptrs, closed_datums, merged}
use Rattle.c_types.proofs.Turns.{then_done}
use Rattle.c_cfg.specs.declared.graph.Instr.TheVariants.{Kill}
use Rattle.c_cfg.specs.declared.graph.Edge.{Edge}
use Rattle.c_lower.specs.declared.around.Around.{Around}
use Rattle.c_cfg.specs.declared.link.Link.{Link}
use Rattle.c_cfg.specs.Links.{act_row, enter_row, leave_row, exit_row}
use Rattle.c_cfg.specs.Places.{test_places, places}
use Rattle.c_cfg.specs.Lowering.{edge, followed_by}
use Rattle.c_links.specs.Chains.{chain}
use Rattle.c_lower.specs.inner.Numbering.{act_width, atom_width, test_width, width, number_test, number, loc}
use Rattle.c_lower.specs.inner.Numbering.{enter_width, leave_width, exit_width}
use Rattle.c_lower.specs.inner.Numbering.{atom_edges, place_edges, all_edges, test_lines, lines}
use Rattle.c_lower.specs.inner.Emitting.{first_of, dying, inside, in_loop, back_of, before, act_to}
use Rattle.c_lower.specs.inner.Emitting.{act_links, emit_test, emit}
use Rattle.c_lower.proofs.Lines.{Lined, lined_front, lined_back, lined_three, lined_four, lined_step, replicate_first}
use Rattle.c_lower.proofs.Lines.{atom_wide, test_lines_length, lines_length}
use Rattle.c_types.proofs.Standing.{then_then, open_then}
use Rattle.c_lower.proofs.Standing.{IsWhole}
use Rattle.c_lower.proofs.Stacking.{loc_open, loc_ask}

module _ (nv nd exit : ℕ) (line : ℕ → ℕ) where
  edges_more : (xs ys : List Items) → all_edges nv nd exit line (xs ++ ys) ≡ all_edges nv nd exit line xs
      ++ all_edges nv nd exit line ys
  edges_more [] ys = refl
  edges_more (c ∷ xs) ys = ap (λ es. place_edges nv nd exit line c ++ es) (edges_more xs ys)
      ∙ sym (append_assoc (place_edges nv nd exit line c) _ _)

  -- where numbered items lead that stand before others
  leads : (is : Items) (i : ℕ) (r : Items) (k : ℕ) → loc nv nd exit (opened r) ≡ k
      → loc nv nd exit (opened (number nv nd is i then r)) ≡ first_of (width nv nd is) i k
  leads is i r k e =
      ap (loc nv nd exit) (open_then (number nv nd is i) r Done Done
      ∙ ap (λ z. open_before (number nv nd is i) z (opened r)) (then_done r))
      ∙ loc_open nv nd exit is i r (opened r) ∙ same (width nv nd is)
    where
      same : (w : ℕ) → first_of w i (loc nv nd exit (opened r)) ≡ first_of w i k
      same zero = e
      same (suc w) = refl

  test_emits : (c : Test) (i : ℕ) (x y r : Items) (a b : ℕ) → loc nv nd exit (opened (x then r)) ≡ a
      → loc nv nd exit (opened (y then r)) ≡ b → Lined nv nd line i (test_lines nv nd c)
      → all_edges nv nd exit line (test_places (number_test nv nd c i) x y r) ≡ emit_test nv nd c i a b
  test_emits (Ask t m) i x y r a b ea eb h =
      append-nil
      (atom_edges nv nd t (line i) i (loc nv nd exit (opened (x then r))) (loc nv nd exit (opened (y then r))))
      ∙ ap (λ k. atom_edges nv nd t k i (loc nv nd exit (opened (x then r))) (loc nv nd exit (opened (y then r))))
      (replicate_first nv nd line i (atom_width nv nd t) m (atom_wide nv nd t) h)
      ∙ ap (λ k. atom_edges nv nd t m i k (loc nv nd exit (opened (y then r)))) ea
      ∙ ap (λ k. atom_edges nv nd t m i a k) eb
  test_emits (Not c) i x y r a b ea eb h = test_emits c i y x r b a eb ea h
  test_emits (Both c d) i x y r a b ea eb h =
      let j = i + test_width nv nd c in
      edges_more (test_places (number_test nv nd c i) (If (number_test nv nd d j) x y Done) y r)
      (test_places (number_test nv nd d j) x y r)
      ∙ ap (λ es. es ++ all_edges nv nd exit line (test_places (number_test nv nd d j) x y r))
      (test_emits c i (If (number_test nv nd d j) x y Done) y r j b (loc_ask nv nd exit j d x y _) eb
      (lined_front nv nd line i (test_lines nv nd c) (test_lines nv nd d) h))
      ∙ ap (λ es. emit_test nv nd c i j b ++ es)
      (test_emits d j x y r a b ea eb
      (lined_back nv nd line i (test_width nv nd c) (test_lines nv nd c) (test_lines nv nd d)
      (test_lines_length nv nd c) h))
  test_emits (Either c d) i x y r a b ea eb h =
      let j = i + test_width nv nd c in
      edges_more (test_places (number_test nv nd c i) x (If (number_test nv nd d j) x y Done) r)
      (test_places (number_test nv nd d j) x y r)
      ∙ ap (λ es. es ++ all_edges nv nd exit line (test_places (number_test nv nd d j) x y r))
      (test_emits c i x (If (number_test nv nd d j) x y Done) r a j ea (loc_ask nv nd exit j d x y _)
      (lined_front nv nd line i (test_lines nv nd c) (test_lines nv nd d) h))
      ∙ ap (λ es. emit_test nv nd c i a j ++ es)
      (test_emits d j x y r a b ea eb
      (lined_back nv nd line i (test_width nv nd c) (test_lines nv nd c) (test_lines nv nd d)
      (test_lines_length nv nd c) h))

  -- the numbers that the recursion is given are right for the items after
  pub record Fits (r : Items) (w : Around) : Type 0 where
    pub leaves : loc nv nd exit (opened (after_again r)) ≡ w.leave
    pub agains : loc nv nd exit (opened (from_again r)) ≡ w.again
    pub ptrs : closed_ptrs r ≡ w.ptrs
    pub datums : closed_datums r ≡ w.datums
    pub backs : loc nv nd exit (opened (from_exit r)) ≡ w.back

  -- the end of a round: whole items have no Again
  round_then : (n : ℕ) (is : Items) (i : ℕ) (r : Items) → IsWhole n is
      → (after_again (number nv nd is i then r) ≡ after_again r)
      × (from_again (number nv nd is i then r) ≡ from_again r)
  round_then n Done i r p = (refl, refl)
  round_then n (Do a m is) i r p = round_then n is (i + act_width nv nd a) r p
  round_then n (Close qs es m is) i r p = round_then n is (i + 1) r p
  round_then n (If c x y is) i r p = round_then n is _ r p.2
  round_then n (Loop c d b is) i r p = round_then n is _ r p.2
  round_then n (DoLoop c b is) i r p = round_then n is _ r p.1
  round_then n (Enter vs ws m is) i r p = round_then (suc n) is _ r p
  round_then n (Leave v vs a m is) i r p = round_then n is _ r p
  round_then (suc n) (Exit v vs t m is) i r p = round_then n is _ r p
  round_then _ _ i r p = absurd p

  -- which variables die with it
  closed_then : (own : List ℕ → List ℕ → List ℕ) (n : ℕ) (is : Items) → IsWhole n is → (m : ℕ) → m ≤ n → (i : ℕ)
      (r : Items) (base : List ℕ) → closed_after own 0 r ≡ base
      → closed_after own m (number nv nd is i then r) ≡ dying own m is base
  closed_then own n Done p m l i r base e = let z : m ≡ 0 = omega (arith, p, l) in
      ap (λ k. closed_after own k r) z ∙ e
  closed_then own n (Do a k is) p m l i r base e = closed_then own n is p m l _ r base e
  closed_then own n (Close ps ds k is) p zero l i r base e =
      ap (merged (own ps ds)) (closed_then own n is p zero l _ r base e)
  closed_then own n (Close ps ds k is) p (suc m) l i r base e = closed_then own n is p (suc m) l _ r base e
  closed_then own n (If c x y is) p m l i r base e = closed_then own n is p.2 m l _ r base e
  closed_then own n (Loop c x y is) p m l i r base e = closed_then own n is p.2 m l _ r base e
  closed_then own n (Again c x y is) p m l i r base e = absurd p
  closed_then own n (DoLoop c y is) p m l i r base e = closed_then own n is p.1 m l _ r base e
  closed_then own n (DoAgain c y is) p m l i r base e = absurd p
  closed_then own n (Enter vs ws k is) p m l i r base e =
      closed_then own (suc n) is p (suc m) (omega (arith, l)) _ r base e
  closed_then own n (Leave v vs a k is) p m l i r base e = closed_then own n is p m l _ r base e
  closed_then own zero (Exit v vs d k is) p m l i r base e = absurd p
  closed_then own (suc n) (Exit v vs d k is) p zero l i r base e = refl
  closed_then own (suc n) (Exit v vs d k is) p (suc m) l i r base e =
      closed_then own n is p m (omega (arith, l)) _ r base e

  back_then : (n : ℕ) (is : Items) → IsWhole n is → (m : ℕ) → m ≤ n → (i : ℕ) (r : Items) (b : ℕ)
      → loc nv nd exit (opened (from_exit r)) ≡ b
      → loc nv nd exit (opened (exit_after m (number nv nd is i then r))) ≡ back_of nv nd is m i b
  back_then n Done p m l i r b e = let z : m ≡ 0 = omega (arith, p, l) in
      ap (λ k. loc nv nd exit (opened (exit_after k r))) z ∙ e
  back_then n (Do a k is) p m l i r b e = back_then n is p m l _ r b e
  back_then n (Close ps ds k is) p m l i r b e = back_then n is p m l _ r b e
  back_then n (If c x y is) p m l i r b e = back_then n is p.2 m l _ r b e
  back_then n (Loop c x y is) p m l i r b e = back_then n is p.2 m l _ r b e
  back_then n (Again c x y is) p m l i r b e = absurd p
  back_then n (DoLoop c y is) p m l i r b e = back_then n is p.1 m l _ r b e
  back_then n (DoAgain c y is) p m l i r b e = absurd p
  back_then n (Enter vs ws k is) p m l i r b e = back_then (suc n) is p (suc m) (omega (arith, l)) _ r b e
  back_then n (Leave v vs a k is) p m l i r b e = back_then n is p m l _ r b e
  back_then zero (Exit v vs d k is) p m l i r b e = absurd p
  back_then (suc n) (Exit v vs d k is) p zero l i r b e = refl
  back_then (suc n) (Exit v vs d k is) p (suc m) l i r b e = back_then n is p m (omega (arith, l)) _ r b e

  fits_before : (n : ℕ) (is : Items) (i : ℕ) (r : Items) (w : Around) → IsWhole n is → Fits r w
      → Fits (number nv nd is i then r) (before nv nd w is i)
  fits_before n is i r w p f =
      let end = round_then n is i r p in
      record {
        leaves = ap (λ z. loc nv nd exit (opened z)) end.0 ∙ f.leaves;
        agains = ap (λ z. loc nv nd exit (opened z)) end.1 ∙ f.agains;
        ptrs = closed_then (λ ps ds. ps) n is p 0 (omega arith) i r w.ptrs f.ptrs;
        datums = closed_then (λ ps ds. ds) n is p 0 (omega arith) i r w.datums f.datums;
        backs = back_then n is p 0 (omega arith) i r w.back f.backs;
      }

  act_emits : (a : Act) (m i : ℕ) (is : Items) (w : Around) (k : ℕ) → loc nv nd exit (opened is) ≡ k → Fits is w
      → chain (line i) (act_row nv nd a is) i (loc nv nd exit (opened (followed_by a is)))
      ≡ chain (line i) (act_links nv nd w a) i (act_to exit w a k)
  act_emits (SetPtr to from) m i is w k e f = ap (chain (line i) (act_row nv nd (SetPtr to from) is) i) e
  act_emits (SetData to from) m i is w k e f = ap (chain (line i) (act_row nv nd (SetData to from) is) i) e
  act_emits (FreeAct p) m i is w k e f = ap (chain (line i) (act_row nv nd (FreeAct p) is) i) e
  act_emits Break m i is w k e f = rw (f.leaves, f.ptrs, f.datums) refl
  act_emits Continue m i is w k e f = rw (f.agains, f.ptrs, f.datums) refl
  act_emits _ m i is w k e f = refl

  three_more : (xs ys zs : List Items) (a b c : List Edge) → all_edges nv nd exit line xs ≡ a
      → all_edges nv nd exit line ys ≡ b → all_edges nv nd exit line zs ≡ c
      → all_edges nv nd exit line (xs ++ (ys ++ zs)) ≡ a ++ (b ++ c)
  three_more xs ys zs a b c ea eb ec =
      edges_more xs (ys ++ zs) ∙ ap (λ es. all_edges nv nd exit line xs ++ es) (edges_more ys zs)
      ∙ ap (λ es. es ++ (all_edges nv nd exit line ys ++ all_edges nv nd exit line zs)) ea
      ∙ ap (λ es. a ++ (es ++ all_edges nv nd exit line zs)) eb ∙ ap (λ es. a ++ (b ++ es)) ec

  four_more : (xs ys zs ws : List Items) (a b c d : List Edge) → all_edges nv nd exit line xs ≡ a
      → all_edges nv nd exit line ys ≡ b → all_edges nv nd exit line zs ≡ c → all_edges nv nd exit line ws ≡ d
      → all_edges nv nd exit line (xs ++ (ys ++ (zs ++ ws))) ≡ a ++ (b ++ (c ++ d))
  four_more xs ys zs ws a b c d ea eb ec ed = edges_more xs (ys ++ (zs ++ ws))
      ∙ ap (λ es. es ++ all_edges nv nd exit line (ys ++ (zs ++ ws))) ea
      ∙ ap (λ es. a ++ es) (three_more ys zs ws b c d eb ec ed)

  -- the links of a step, with its line and where they lead, before other edges
  chain_more : (row : List Link) (i l m a b : ℕ) (xs ys : List Edge) → l ≡ m → a ≡ b → xs ≡ ys
      → chain l row i a ++ xs ≡ chain m row i b ++ ys
  chain_more row i l m a b xs ys el ea ex =
      ap (λ q. chain q row i a ++ xs) el ∙ ap (λ q. chain m row i q ++ xs) ea ∙ ap (λ es. chain m row i b ++ es) ex

  -- The contract of the code: for whatever items come after.
  pub emits : (n : ℕ) (is : Items) → IsWhole n is → (i : ℕ) (r : Items) (w : Around) (k : ℕ) → loc nv nd exit (opened r)
      ≡ k
      → Fits r w → Lined nv nd line i (lines nv nd is)
      → all_edges nv nd exit line (places (number nv nd is i) r) ≡ emit nv nd exit is w i k
  emits n Done p i r w k e f h = refl
  emits n (Do a m is) p i r w k e f h =
      let j = i + act_width nv nd a in
      let after = number nv nd is j then r in
      let l = lined_step nv nd line i (act_width nv nd a) m (lines nv nd is) (omega arith) h in
      ap (λ es. es ++ all_edges nv nd exit line (places (number nv nd is j) r))
      (act_emits a m i after (before nv nd w is j) (first_of (width nv nd is) j k) (leads is j r k e)
      (fits_before n is j r w p f)
      ∙ ap
      (λ q. chain q (act_links nv nd (inside w is) a) i
      (act_to exit (before nv nd w is j) a (first_of (width nv nd is) j k)))
      l.0
      ∙ ap (λ t. chain m (act_links nv nd (inside w is) a) i t) (same_to a))
      ∙ ap (λ es. chain m (act_links nv nd (inside w is) a) i (act_to exit w a (first_of (width nv nd is) j k)) ++ es)
      (emits n is p j r w k e f l.1)
    where
      same_to : (a : Act)
          → act_to exit (before nv nd w is (i + act_width nv nd a)) a
          (first_of (width nv nd is) (i + act_width nv nd a) k)
          ≡ act_to exit w a (first_of (width nv nd is) (i + act_width nv nd a) k)
      same_to (SetPtr to from) = refl
      same_to (SetData to from) = refl
      same_to (FreeAct p) = refl
      same_to Error = refl
      same_to Halt = refl
      same_to (Return operand) = refl
      same_to (LeaveAct g value) = refl
      same_to Break = refl
      same_to Continue = refl
  emits n (Close ps ds m is) p i r w k e f h =
      ap (λ q. edge q i (loc nv nd exit (opened (number nv nd is (i + 1) then r))) (Kill ps ds) None
      ∷ all_edges nv nd exit line (places (number nv nd is (i + 1)) r)) h.0
      ∙ ap (λ q. edge m i q (Kill ps ds) None ∷ all_edges nv nd exit line (places (number nv nd is (i + 1)) r))
      (leads is (i + 1) r k e)
      ∙ ap (λ es. edge m i (first_of (width nv nd is) (i + 1) k) (Kill ps ds) None ∷ es)
      (emits n is p (i + 1) r w k e f h.1)
  emits n (If c x y is) p i r w k e f h =
      let i1 = i + test_width nv nd c in let i2 = i1 + width nv nd x in let i3 = i2 + width nv nd y in
      let after = first_of (width nv nd is) i3 k in
      let q = number nv nd is i3 then r in
      let eq : loc nv nd exit (opened q) ≡ after = leads is i3 r k e in
      let fq : Fits q (before nv nd w is i3) = fits_before n is i3 r w p.2 f in
      let l = lined_four nv nd line i _ _ _ (test_lines nv nd c) (lines nv nd x) (lines nv nd y) (lines nv nd is)
      (test_lines_length nv nd c) (lines_length nv nd x) (lines_length nv nd y) h in
      four_more (test_places (number_test nv nd c i) (number nv nd x i1) (number nv nd y i2) q)
      (places (number nv nd x i1) q) (places (number nv nd y i2) q) (places (number nv nd is i3) r) _ _ _ _
      (test_emits c i (number nv nd x i1) (number nv nd y i2) q _ _ (leads x i1 q after eq) (leads y i2 q after eq) l.0)
      (emits 0 x p.0 i1 q (before nv nd w is i3) after eq fq l.1)
      (emits 0 y p.1 i2 q (before nv nd w is i3) after eq fq l.2) (emits n is p.2 i3 r w k e f l.3)
  emits l (Loop c n b is) p i r w k e f h =
      let i1 = i + test_width nv nd c in let i2 = i1 + width nv nd b in let i3 = i2 + width nv nd n in
      let after = first_of (width nv nd is) i3 k in
      let again = first_of (width nv nd n) i2 i in
      let q = number nv nd is i3 then r in
      let C = number_test nv nd c i in let N = number nv nd n i2 in let B = number nv nd b i1 in
      let eq : loc nv nd exit (opened q) ≡ after = leads is i3 r k e in
      let el : loc nv nd exit (opened (Loop C N B q)) ≡ i = loc_ask nv nd exit i c (round C N B) Done (q then Done) in
      let ea : loc nv nd exit (opened (Again C N B q)) ≡ again =
      loc_open nv nd exit n i2 (Loop C N B (q then Done)) (ask C (round C N B) Done (q then Done))
      ∙ first_same (width nv nd n) i2 _ i (loc_ask nv nd exit i c (round C N B) Done (q then Done)) in
      let h1 = lined_four nv nd line i _ _ _ (test_lines nv nd c) (lines nv nd b) (lines nv nd n) (lines nv nd is)
      (test_lines_length nv nd c) (lines_length nv nd b) (lines_length nv nd n) h in
      let g = fits_before l is i3 r w p.2 f in
      let fb : Fits (Again C N B q) (in_loop after again (back_of nv nd is 0 i3 w.back)) =
      record { leaves = eq; agains = ea; ptrs = refl; datums = refl; backs = g.backs } in
      let fn : Fits (Loop C N B q) (before nv nd w is i3) =
      record { leaves = g.leaves; agains = g.agains; ptrs = g.ptrs; datums = g.datums; backs = g.backs } in
      four_more (test_places C (round C N B) Done q) (places B (Again C N B q)) (places N (Loop C N B q))
      (places (number nv nd is i3) r) _ _ _ _
      (test_emits c i (round C N B) Done q _ _
      (ap (λ z. loc nv nd exit (opened z)) (then_then B (Again C N B Done) q) ∙ leads b i1 (Again C N B q) again ea)
      eq h1.0)
      (emits 0 b p.1 i1 (Again C N B q) _ again ea fb h1.1)
      (emits 0 n p.0 i2 (Loop C N B q) (before nv nd w is i3) i el fn h1.2) (emits l is p.2 i3 r w k e f h1.3)
    where
      first_same : (v j a b : ℕ) → a ≡ b → first_of v j a ≡ first_of v j b
      first_same zero j a b e = e
      first_same (suc v) j a b e = refl
  emits n (DoLoop c b is) p i r w k e f h =
      let i1 = i + width nv nd b in let i2 = i1 + test_width nv nd c in
      let after = first_of (width nv nd is) i2 k in
      let q = number nv nd is i2 then r in
      let C = number_test nv nd c i1 in let B = number nv nd b i in
      let eq : loc nv nd exit (opened q) ≡ after = leads is i2 r k e in
      let ea : loc nv nd exit (opened (DoAgain C B q)) ≡ i1 =
      loc_ask nv nd exit i1 c (do_round C B) Done (q then Done) in
      let l = lined_three nv nd line i _ _ (lines nv nd b) (test_lines nv nd c) (lines nv nd is) (lines_length nv nd b)
      (test_lines_length nv nd c) h in
      let fb : Fits (DoAgain C B q) (in_loop after i1 (back_of nv nd is 0 i2 w.back)) =
      record {
        leaves = eq;
        agains = ea;
        ptrs = refl;
        datums = refl;
        backs = back_then n is p.1 0 (omega arith) i2 r w.back f.backs;
      } in
      three_more (places B (DoAgain C B q)) (test_places C (do_round C B) Done q) (places (number nv nd is i2) r) _ _ _
      (emits 0 b p.0 i (DoAgain C B q) _ i1 ea fb l.0)
      (test_emits c i1 (do_round C B) Done q _ _
      (ap (λ z. loc nv nd exit (opened z)) (then_then B (DoAgain C B Done) q) ∙ leads b i (DoAgain C B q) i1 ea) eq
      l.1) (emits n is p.1 i2 r w k e f l.2)
  emits n (Enter vs ws m is) p i r w k e f h =
      let j = i + enter_width nv nd vs ws in
      let l = lined_step nv nd line i (enter_width nv nd vs ws) m (lines nv nd is) (omega arith) h in
      chain_more (enter_row nv nd vs ws) i _ _ _ _ _ _ l.0 (leads is j r k e) (emits (suc n) is p j r w k e f l.1)
  emits n (Leave v vs a m is) p i r w k e f h =
      let j = i + leave_width nv nd v vs a in
      let l = lined_step nv nd line i (leave_width nv nd v vs a) m (lines nv nd is) (omega arith) h in
      chain_more (leave_row nv nd v vs a) i _ _ _ _ _ _ l.0 (back_then n is p 0 (omega arith) j r w.back f.backs)
      (emits n is p j r w k e f l.1)
  emits (suc n) (Exit v vs d m is) p i r w k e f h =
      let j = i + exit_width nv nd v vs d in
      let l = lined_step nv nd line i (exit_width nv nd v vs d) m (lines nv nd is) (omega arith) h in
      chain_more (exit_row nv nd v vs d) i _ _ _ _ _ _ l.0 (leads is j r k e) (emits n is p j r w k e f l.1)
  emits _ _ p i r w k e f h = absurd p
