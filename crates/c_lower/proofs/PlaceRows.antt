-- The rows of a graph whose edges at some locations are those of a place.
use Rattle.std.proofs.Common.{◌≡◌, inl, inr, ℕ, zero, suc, ◌+◌, ◌<◌, ◌≤◌, List, [], ◌∷◌, ◌++◌, length, refl, sym, ap}
use Rattle.std.proofs.Common.{◌∙◌, Bool, true, false, arith, None}
use Rattle.std.specs.Prelude.{pred}
use Rattle.std.proofs.lemmas.List.{append-nil}
use Rattle.c_types.specs.declared.mode.MallocMode.TheVariants.{Always}
use Rattle.c_types.specs.declared.program.PtrOp.{PtrOp}
use Rattle.c_types.specs.declared.program.DataOp.{DataOp}
use Rattle.c_types.specs.declared.program.Atom.{Atom}
use Rattle.c_types.specs.declared.program.Atom.TheVariants.{Choice as ChoiceAtom, Known as KnownAtom, Ptr as PtrAtom}
use Rattle.c_types.specs.declared.program.Atom.TheVariants.{Data as DataAtom}
use Rattle.c_types.specs.Control.{Items, Done, Do, Close, If, Enter, Leave, Exit, Ask}
use Rattle.c_types.specs.Control.{opened, from_exit}
use Rattle.c_types.specs.Steps.{mark_of}
use Rattle.c_cfg.specs.declared.graph.Instr.{Instr}
use Rattle.c_cfg.specs.declared.graph.Instr.TheVariants.{Kill}
use Rattle.c_cfg.specs.declared.graph.Edge.{Edge}
use Rattle.c_cfg.specs.GraphRuns.{out_of}
use Rattle.c_cfg.specs.declared.link.Link.{Link}
use Rattle.c_cfg.specs.declared.link.Link.TheVariants.{One}
use Rattle.c_cfg.specs.Links.{ends, act_row, op_used, op_base_used, op_data_used, ptr_loads, ptr_test}
use Rattle.c_cfg.specs.Links.{ptr_ends, cmp_loads, data_test, data_ends, enter_row, leave_row, exit_row}
use Rattle.c_cfg.specs.Lowering.{edge, link_edges, IsWay, IsWayOver, IsTestRow, IsAtomRow, IsRow, but_last}
use Rattle.c_cfg.specs.Lowering.{followed_by}
use Rattle.c_lower.specs.inner.Numbering.{span, test_room, atom_width, loc, place_width, mids_of}
use Rattle.c_links.specs.Chains.{chain}
use Rattle.c_edges.specs.Comparing.{test_edges}
use Rattle.c_lower.specs.inner.Numbering.{atom_edges, place_edges}
use Rattle.c_cfg.proofs.Filling.{filled_length, act_filled, enter_filled, leave_filled, exit_filled, row_length}
use Rattle.c_cfg.proofs.Filling.{pred_least}
use Rattle.c_cfg.proofs.Spans.{eq_yes, Within, within_more, within_wide, out_more, out_off, link_out, link_within}
use Rattle.c_lower.proofs.ChainWays.{chain_within, chain_way, stops, AgreesOn, but_stops, all_stops}
use Rattle.c_lower.proofs.Stacking.{IsOpen}

pub span_more : (k m n : ℕ) → span k (m + n) ≡ span k m ++ span (k + m) n
span_more k zero n = let a : 0 + n ≡ n = omega arith in let b : k + 0 ≡ k = omega arith in rw (a, b) refl
span_more k (suc m) n =
    let a : suc m + n ≡ suc (m + n) = omega arith in let b : k + suc m ≡ k + 1 + m = omega arith in
    rw (a, b) (ap (λ zs. k ∷ zs) (span_more (k + 1) m n))

pub pair_within : (line k b c : ℕ) (i j : Instr) → Within k (k + 1) (edge line k b i None ∷ (edge line k c j None ∷ []))
pair_within line k b c i j = ((omega arith, omega arith), ((omega arith, omega arith), tt))

pub pair_out : (line k b c : ℕ) (i j : Instr) → out_of (edge line k b i None ∷ (edge line k c j None ∷ [])) k
    ≡ edge line k b i None ∷ (edge line k c j None ∷ [])
pair_out line k b c i j = rw (eq_yes k) refl

-- the edges of a part that stands between two others
pub part_of : (E xs ys zs : List Edge) (lo a b hi : ℕ) → lo ≤ a → a ≤ b → b ≤ hi → AgreesOn E (xs ++ (ys ++ zs)) lo hi
    → Within lo a xs → Within b hi zs → AgreesOn E ys a b
part_of E xs ys zs lo a b hi la ab bh h wx wz q ql qh =
    h q (omega (arith, la, ql)) (omega (arith, bh, qh))
    ∙ out_more xs (ys ++ zs) q ∙ ap (λ es. es ++ out_of (ys ++ zs) q) (out_off lo a xs q wx (inr ql))
    ∙ out_more ys zs q ∙ ap (λ es. out_of ys q ++ es) (out_off b hi zs q wz (inl qh)) ∙ append-nil _

module _ (nv nd : ℕ) (E : List Edge) where
  pub way_up : (line : ℕ) (pre : List Link) (k : ℕ) → AgreesOn E (chain line pre k (k + length pre)) k (k + length pre)
      → IsWay E line pre k (stops pre k (k + length pre)) (k + length pre)
  way_up line [] k h = omega arith
  way_up line (l ∷ ls) k h = chain_way E line (l ∷ ls) k (k + length (l ∷ ls)) (omega arith) h

  test_row0 : (line : ℕ) (pre : List Link) (test : Bool → Instr) (k same other : ℕ)
      → AgreesOn E (test_edges line pre test [] k same other) k (k + suc (length pre + (0 + 0)))
      → IsTestRow E line pre test [] k (span (k + 1) (length pre + (0 + 0))) same other
  test_row0 line pre test k same other h =
      let a = k + length pre in
      let P = edge line a same (test true) None ∷ (edge line a other (test false) None ∷ []) in
      let e : length pre + (0 + 0) ≡ length pre = omega arith in record {
        tested = a;
        if_same = same;
        if_other = other;
        front = stops pre k a;
        after_same = [];
        after_other = [];
        reads = way_up line pre k
            (part_of E [] (chain line pre k a) P k k a (k + suc (length pre + (0 + 0))) (omega arith) (omega arith)
            (omega arith) h tt
            (within_wide a (a + 1) a (k + suc (length pre + (0 + 0))) (omega arith) (omega arith) P
            (pair_within line a same other (test true) (test false))));
        compares = part_of E (chain line pre k a) P [] k a (a + 1) (k + suc (length pre + (0 + 0))) (omega arith)
            (omega arith) (omega arith)
            (λ q x y. h q x y ∙ ap (λ es. out_of (chain line pre k a ++ es) q) (sym (append-nil P)))
            (chain_within line pre k a) tt a (omega arith) (omega arith)
            ∙ pair_out line a same other (test true) (test false);
        same_ends = refl;
        other_ends = refl;
        middle = rw e (sym (all_stops pre k)) ∙ sym (append-nil _);
      }

  test_row1 : (line : ℕ) (pre : List Link) (test : Bool → Instr) (l : Link) (k same other : ℕ)
      → AgreesOn E (test_edges line pre test (l ∷ []) k same other) k (k + suc (length pre + (1 + 1)))
      → IsTestRow E line pre test (l ∷ []) k (span (k + 1) (length pre + (1 + 1))) same other
  test_row1 line pre test l k same other h =
      let a = k + length pre in
      let hi = k + suc (length pre + (1 + 1)) in
      let P = edge line a (a + 1) (test true) None ∷ (edge line a (a + 2) (test false) None ∷ []) in
      let X = link_edges line (a + 1) same l in let Y = link_edges line (a + 2) other l in
      let wX : Within (a + 1) (a + 2) X =
      within_wide (a + 1) (a + 1 + 1) (a + 1) (a + 2) (omega arith) (omega arith) _
      (link_within line (a + 1) same l) in
      let wY : Within (a + 2) hi Y =
      within_wide (a + 2) (a + 2 + 1) (a + 2) hi (omega arith) (omega arith) _
      (link_within line (a + 2) other l) in
      let wXY : Within (a + 1) hi (X ++ Y) =
      within_more (a + 1) hi X Y (within_wide (a + 1) (a + 2) (a + 1) hi (omega arith) (omega arith) X wX)
      (within_wide (a + 2) hi (a + 1) hi (omega arith) (omega arith) Y wY) in
      let wP : Within a (a + 1) P = pair_within line a (a + 1) (a + 2) (test true) (test false) in
      let wRest : Within a hi (P ++ (X ++ Y)) =
      within_more a hi P (X ++ Y) (within_wide a (a + 1) a hi (omega arith) (omega arith) P wP)
      (within_wide (a + 1) hi a hi (omega arith) (omega arith) (X ++ Y) wXY) in
      let rest : AgreesOn E (P ++ (X ++ Y)) a hi =
      part_of E (chain line pre k a) (P ++ (X ++ Y)) [] k a hi hi (omega arith) (omega arith) (omega arith)
      (λ q x y. h q x y ∙ ap (λ es. out_of (chain line pre k a ++ es) q) (sym (append-nil (P ++ (X ++ Y)))))
      (chain_within line pre k a) tt in record {
        tested = a;
        if_same = a + 1;
        if_other = a + 2;
        front = stops pre k a;
        after_same = same ∷ [];
        after_other = other ∷ [];
        reads = way_up line pre k
            (part_of E [] (chain line pre k a) (P ++ (X ++ Y)) k k a hi (omega arith) (omega arith) (omega arith) h tt
            wRest);
        compares = part_of E [] P (X ++ Y) a a (a + 1) hi (omega arith) (omega arith) (omega arith) rest tt wXY a
            (omega arith) (omega arith) ∙ pair_out line a (a + 1) (a + 2) (test true) (test false);
        same_ends = (
          part_of E P X Y a (a + 1) (a + 2) hi (omega arith) (omega arith) (omega arith) rest wP wY (a + 1)
              (omega arith) (omega arith) ∙ link_out line (a + 1) same l,
          refl,
        );
        other_ends = (
          part_of E (P ++ X) Y [] a (a + 2) hi hi (omega arith) (omega arith) (omega arith)
              (λ q x y. rest q x y ∙ ap (λ es. out_of es q) (three P X Y))
              (within_more a (a + 2) P X (within_wide a (a + 1) a (a + 2) (omega arith) (omega arith) P wP)
              (within_wide (a + 1) (a + 2) a (a + 2) (omega arith) (omega arith) X wX)) tt (a + 2) (omega arith)
              (omega arith) ∙ link_out line (a + 2) other l,
          refl,
        );
        middle = span_more (k + 1) (length pre) (1 + 1)
            ∙ ap (λ zs. zs ++ span (k + 1 + length pre) (1 + 1)) (sym (all_stops pre k))
            ∙ ap (λ zs. stops pre k a ++ zs) (two (k + 1 + length pre) (a + 1) (a + 2) (omega arith) (omega arith));
      }
    where
      three : (xs ys zs : List Edge) → xs ++ (ys ++ zs) ≡ (xs ++ ys) ++ (zs ++ [])
      three [] ys zs = ap (λ ws. ys ++ ws) (sym (append-nil zs))
      three (x ∷ xs) ys zs = ap (λ ws. x ∷ ws) (three xs ys zs)

      two : (x y z : ℕ) → x ≡ y → x + 1 ≡ z → span x (1 + 1) ≡ y ∷ (z ∷ [])
      two x y z e f = ap (λ w. w ∷ ((x + 1) ∷ [])) e ∙ ap (λ w. y ∷ (w ∷ [])) f

  any_row : (line : ℕ) (pre : List Link) (test : Bool → Instr) (ps ds : List ℕ) (k same other : ℕ)
      → AgreesOn E (test_edges line pre test (ends ps ds) k same other) k (k + test_room pre (ends ps ds))
      → IsTestRow E line pre test (ends ps ds) k (span (k + 1) (pred (test_room pre (ends ps ds)))) same other
  any_row line pre test [] [] k same other h = test_row0 line pre test k same other h
  any_row line pre test [] (d ∷ ds) k same other h = test_row1 line pre test (One (Kill [] (d ∷ ds))) k same other h
  any_row line pre test (p ∷ ps) ds k same other h = test_row1 line pre test (One (Kill (p ∷ ps) ds)) k same other h

  single : (line k to : ℕ) (i : Instr) → AgreesOn E (edge line k to i None ∷ []) k (k + 1)
      → out_of E k ≡ edge line k to i None ∷ []
  single line k to i h = h k (omega arith) (omega arith) ∙ rw (eq_yes k) refl

  ptr_any : (l r : PtrOp) (line k same other : ℕ)
      → AgreesOn E (test_edges line (ptr_loads nv nd l r) (ptr_test nv nd l r) (ptr_ends nv nd l r) k same other) k
      (k + test_room (ptr_loads nv nd l r) (ptr_ends nv nd l r))
      → IsTestRow E line (ptr_loads nv nd l r) (ptr_test nv nd l r) (ptr_ends nv nd l r) k
      (span (k + 1) (pred (test_room (ptr_loads nv nd l r) (ptr_ends nv nd l r)))) same other
  ptr_any l r line k same other h =
      any_row line (ptr_loads nv nd l r) (ptr_test nv nd l r) (op_used nv l ++ op_used (nv + 1) r) [] k same other h

  data_any : (l r : DataOp) (line k same other : ℕ)
      → AgreesOn E (test_edges line (cmp_loads nv nd l r) (data_test nv nd l r) (data_ends nv nd l r) k same other) k
      (k + test_room (cmp_loads nv nd l r) (data_ends nv nd l r))
      → IsTestRow E line (cmp_loads nv nd l r) (data_test nv nd l r) (data_ends nv nd l r) k
      (span (k + 1) (pred (test_room (cmp_loads nv nd l r) (data_ends nv nd l r)))) same other
  data_any l r line k same other h =
      any_row line (cmp_loads nv nd l r) (data_test nv nd l r) (op_base_used nv l ++ op_base_used (nv + 1) r)
      (op_data_used nd l ++ op_data_used (nd + 1) r) k same other h

  atom_row : (a : Atom) (line k x y : ℕ) → AgreesOn E (atom_edges nv nd a line k x y) k (k + atom_width nv nd a)
      → IsAtomRow nv nd E a line k (span (k + 1) (pred (atom_width nv nd a))) x y
  atom_row ChoiceAtom line k x y h = (h k (omega arith) (omega arith) ∙ rw (eq_yes k) refl, refl)
  atom_row (KnownAtom true) line k x y h = (single line k x (Kill [] []) h, refl)
  atom_row (KnownAtom false) line k x y h = (single line k y (Kill [] []) h, refl)
  atom_row (PtrAtom l r true) line k x y h = ptr_any l r line k x y h
  atom_row (PtrAtom l r false) line k x y h = ptr_any l r line k y x h
  atom_row (DataAtom l r true) line k x y h = data_any l r line k x y h
  atom_row (DataAtom l r false) line k x y h = data_any l r line k y x h

  but_last_row : (ls : List Link) (k to : ℕ) → 0 < length ls → but_last (stops ls k to)
      ≡ span (k + 1) (pred (length ls))
  but_last_row [] k to h = absurd (omega arith)
  but_last_row (l ∷ ls) k to h = but_stops l ls k to

  -- a row whose links lead to one location
  one_way : (line : ℕ) (row : List Link) (m to : ℕ) → 0 < length row
      → AgreesOn E (chain line row m to) m (m + suc (pred (length row)))
      → IsWayOver E line row m (span (m + 1) (pred (length row))) to
  one_way line row m to f h = record {
    way = stops row m to;
    leads = chain_way E line row m to f (λ q x y. h q x (omega (arith, y, pred_least (length row))));
    middle = sym (but_last_row row m to f);
  }

  pub place_row : (exit : ℕ) (line : ℕ → ℕ) (c : Items) → IsOpen nv nd c
      → AgreesOn E (place_edges nv nd exit line c) (mark_of c) (mark_of c + place_width nv nd c)
      → IsRow nv nd E Always line (loc nv nd exit) (mids_of nv nd) c
  place_row exit line (Do a m is) o h =
      let to = loc nv nd exit (opened (followed_by a is)) in
      let row = act_row nv nd a is in
      let f : 0 < length row = filled_length row (act_filled nv nd a is) in record {
        way = stops row m to;
        leads = chain_way E (line m) row m to f
            (λ q x y. h q x (omega (arith, y, row_length nv nd a is, pred_least (length (act_row nv nd a Done)))));
        middle = ap (λ n. span (m + 1) (pred n)) (sym (row_length nv nd a is)) ∙ sym (but_last_row row m to f);
      }
  place_row exit line (Close ps ds m is) o h =
      record {
        way = loc nv nd exit (opened is) ∷ [];
        leads = (single (line m) m _ (Kill ps ds) h, refl);
        middle = refl;
      }
  place_row exit line (If (Ask a m) x y is) o h = atom_row a (line m) m _ _ h
  place_row exit line (Enter vs ws m is) o h =
      let row = enter_row nv nd vs ws in
      one_way (line m) row m (loc nv nd exit (opened is)) (filled_length row (enter_filled nv nd vs ws)) h
  place_row exit line (Leave v vs a m is) o h =
      let row = leave_row nv nd v vs a in
      one_way (line m) row m (loc nv nd exit (opened (from_exit is))) (filled_length row (leave_filled nv nd v vs a)) h
  place_row exit line (Exit v vs d m is) o h =
      let row = exit_row nv nd v vs d in
      one_way (line m) row m (loc nv nd exit (opened is)) (filled_length row (exit_filled nv nd v vs d)) h
  place_row exit line _ o h = absurd o
