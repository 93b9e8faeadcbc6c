-- The edges of numbered places are listed in the order of the locations, and each place has its row among them.
use Rattle.std.proofs.Common.{inr, ℕ, suc, ◌+◌, ◌≤◌, List, [], ◌∷◌, ◌++◌, length, sym, ap, ◌∙◌, subst, Bool, true}
use Rattle.std.proofs.Common.{false, arith, None}
use Rattle.fore_base.specs.Lists.{Every}
use Rattle.c_types.specs.declared.mode.MallocMode.TheVariants.{Always}
use Rattle.c_types.specs.declared.program.PtrOp.{PtrOp}
use Rattle.c_types.specs.declared.program.DataOp.{DataOp}
use Rattle.c_types.specs.declared.program.Atom.{Atom}
use Rattle.c_types.specs.declared.program.Atom.TheVariants.{Choice as ChoiceAtom, Known as KnownAtom, Ptr as PtrAtom}
use Rattle.c_types.specs.declared.program.Atom.TheVariants.{Data as DataAtom}
use Rattle.c_types.specs.Control.{Items, Done, Do, Close, If, Enter, Leave, Exit, Ask}
use Rattle.c_types.specs.Control.{opened, from_exit}
use Rattle.c_types.specs.Steps.{mark_of}
use Rattle.c_cfg.specs.declared.graph.Instr.{Instr}
use Rattle.c_cfg.specs.declared.graph.Instr.TheVariants.{Kill}
use Rattle.c_cfg.specs.declared.graph.Edge.{Edge}
use Rattle.c_cfg.specs.GraphRuns.{out_of}
use Rattle.c_cfg.specs.declared.link.Link.{Link}
use Rattle.c_cfg.specs.declared.link.Link.TheVariants.{One, Two}
use Rattle.c_cfg.specs.Links.{ends, act_row, op_used, op_base_used, op_data_used, ptr_loads, ptr_test}
use Rattle.c_cfg.specs.Links.{ptr_ends, cmp_loads, data_test, data_ends, enter_row, leave_row, exit_row}
use Rattle.c_cfg.specs.Lowering.{edge, link_edges, IsRow, InOrder, followed_by}
use Rattle.c_links.specs.Chains.{chain}
use Rattle.c_edges.specs.Comparing.{test_edges}
use Rattle.c_lower.specs.inner.Numbering.{test_room, act_width, atom_width, loc, place_width, mids_of}
use Rattle.c_lower.specs.inner.Numbering.{enter_width, leave_width, exit_width, atom_edges, place_edges, all_edges}
use Rattle.c_cfg.proofs.Filling.{row_length, pred_least}
use Rattle.c_cfg.proofs.Spans.{Within, within_more, within_wide, out_more, out_off, link_within}
use Rattle.c_lower.proofs.ChainWays.{chain_within, AgreesOn}
use Rattle.c_lower.proofs.PlaceRows.{pair_within, part_of, place_row}
use Rattle.c_lower.proofs.Stacking.{IsOpen, Stacked}

module _ (nv nd : ℕ) where
  -- the edges of a place begin at its own locations, in order
  order_more : (lo mid hi : ℕ) (xs ys : List Edge) → Within lo mid xs → Within mid hi ys → InOrder xs → InOrder ys
      → InOrder (xs ++ ys)
  order_more lo mid hi [] ys wx wy h k = k
  order_more lo mid hi (x ∷ xs) ys wx wy h k = (both xs ys h.0 (later ys wy), order_more lo mid hi xs ys wx.1 wy h.1 k)
    where
      both : (xs ys : List Edge) → Every (λ f. x.from ≤ f.from) xs → Every (λ f. x.from ≤ f.from) ys
          → Every (λ f. x.from ≤ f.from) (xs ++ ys)
      both [] ys a b = b
      both (z ∷ zs) ys a b = (a.0, both zs ys a.1 b)

      later : (ys : List Edge) → Within mid hi ys → Every (λ f. x.from ≤ f.from) ys
      later [] w = tt
      later (y ∷ ys) w = (omega (arith, w.0.0, wx.0.1), later ys w.1)

  link_order : (line k to : ℕ) (l : Link) → InOrder (link_edges line k to l)
  link_order line k to (One i) = (tt, tt)
  link_order line k to (Two i j) = ((omega arith, tt), (tt, tt))

  chain_order : (line : ℕ) (ls : List Link) (k to : ℕ) → InOrder (chain line ls k to)
  chain_order line [] k to = tt
  chain_order line (l ∷ []) k to = link_order line k to l
  chain_order line (l ∷ (x ∷ ls)) k to =
      order_more k (k + 1) (k + 1 + length (x ∷ ls)) _ _ (link_within line k (k + 1) l)
      (chain_within line (x ∷ ls) (k + 1) to) (link_order line k (k + 1) l) (chain_order line (x ∷ ls) (k + 1) to)

  pair_order : (line k b c : ℕ) (i j : Instr) → InOrder (edge line k b i None ∷ (edge line k c j None ∷ []))
  pair_order line k b c i j = ((omega arith, tt), (tt, tt))

  -- both at once
  abbrev pub Good : ℕ → ℕ → List Edge → Type 0
  Good lo hi es = Within lo hi es × InOrder es

  good_more : (lo mid hi : ℕ) (xs ys : List Edge) → lo ≤ mid → mid ≤ hi → Good lo mid xs → Good mid hi ys
      → Good lo hi (xs ++ ys)
  good_more lo mid hi xs ys a b h k = (
    within_more lo hi xs ys (within_wide lo mid lo hi (omega arith) b xs h.0)
        (within_wide mid hi lo hi a (omega arith) ys k.0),
    order_more lo mid hi xs ys h.0 k.0 h.1 k.1,
  )

  good_wide : (lo hi lo2 hi2 : ℕ) (xs : List Edge) → lo2 ≤ lo → hi ≤ hi2 → Good lo hi xs → Good lo2 hi2 xs
  good_wide lo hi lo2 hi2 xs a b h = (within_wide lo hi lo2 hi2 a b xs h.0, h.1)

  good_test0 : (line : ℕ) (pre : List Link) (test : Bool → Instr) (k same other : ℕ)
      → Good k (k + test_room pre []) (test_edges line pre test [] k same other)
  good_test0 line pre test k same other =
      let a = k + length pre in
      let P = edge line a same (test true) None ∷ (edge line a other (test false) None ∷ []) in
      good_more k a (k + suc (length pre + (0 + 0))) (chain line pre k a) P (omega arith) (omega arith)
      (chain_within line pre k a, chain_order line pre k a)
      (good_wide a (a + 1) a (k + suc (length pre + (0 + 0))) P (omega arith) (omega arith) (
        pair_within line a same other (test true) (test false),
        pair_order line a same other (test true) (test false),
      ))

  good_test1 : (line : ℕ) (pre : List Link) (test : Bool → Instr) (l : Link) (k same other : ℕ)
      → Good k (k + test_room pre (l ∷ [])) (test_edges line pre test (l ∷ []) k same other)
  good_test1 line pre test l k same other =
      let a = k + length pre in
      let P = edge line a (a + 1) (test true) None ∷ (edge line a (a + 2) (test false) None ∷ []) in
      let X = link_edges line (a + 1) same l in let Y = link_edges line (a + 2) other l in
      let hi = k + suc (length pre + (1 + 1)) in
      good_more k a hi (chain line pre k a) (P ++ (X ++ Y)) (omega arith) (omega arith)
      (chain_within line pre k a, chain_order line pre k a)
      (good_more a (a + 1) hi P (X ++ Y) (omega arith) (omega arith) (
        pair_within line a (a + 1) (a + 2) (test true) (test false),
        pair_order line a (a + 1) (a + 2) (test true) (test false),
      )
      (good_more (a + 1) (a + 2) hi X Y (omega arith) (omega arith)
      (good_wide (a + 1) (a + 1 + 1) (a + 1) (a + 2) X (omega arith) (omega arith)
      (link_within line (a + 1) same l, link_order line (a + 1) same l))
      (good_wide (a + 2) (a + 2 + 1) (a + 2) hi Y (omega arith) (omega arith)
      (link_within line (a + 2) other l, link_order line (a + 2) other l))))

  good_test : (line : ℕ) (pre : List Link) (test : Bool → Instr) (ps ds : List ℕ) (k same other : ℕ)
      → Good k (k + test_room pre (ends ps ds)) (test_edges line pre test (ends ps ds) k same other)
  good_test line pre test [] [] k same other = good_test0 line pre test k same other
  good_test line pre test [] (d ∷ ds) k same other = good_test1 line pre test (One (Kill [] (d ∷ ds))) k same other
  good_test line pre test (p ∷ ps) ds k same other = good_test1 line pre test (One (Kill (p ∷ ps) ds)) k same other

  good_ptrs : (l r : PtrOp) (line k same other : ℕ)
      → Good k (k + test_room (ptr_loads nv nd l r) (ptr_ends nv nd l r))
      (test_edges line (ptr_loads nv nd l r) (ptr_test nv nd l r) (ptr_ends nv nd l r) k same other)
  good_ptrs l r line k same other =
      good_test line (ptr_loads nv nd l r) (ptr_test nv nd l r) (op_used nv l ++ op_used (nv + 1) r) [] k same other

  good_data : (l r : DataOp) (line k same other : ℕ)
      → Good k (k + test_room (cmp_loads nv nd l r) (data_ends nv nd l r))
      (test_edges line (cmp_loads nv nd l r) (data_test nv nd l r) (data_ends nv nd l r) k same other)
  good_data l r line k same other =
      good_test line (cmp_loads nv nd l r) (data_test nv nd l r) (op_base_used nv l ++ op_base_used (nv + 1) r)
      (op_data_used nd l ++ op_data_used (nd + 1) r) k same other

  good_atom : (a : Atom) (line k x y : ℕ) → Good k (k + atom_width nv nd a) (atom_edges nv nd a line k x y)
  good_atom ChoiceAtom line k x y =
      (((omega arith, omega arith), ((omega arith, omega arith), tt)), ((omega arith, tt), (tt, tt)))
  good_atom (KnownAtom true) line k x y = (((omega arith, omega arith), tt), (tt, tt))
  good_atom (KnownAtom false) line k x y = (((omega arith, omega arith), tt), (tt, tt))
  good_atom (PtrAtom l r true) line k x y = good_ptrs l r line k x y
  good_atom (PtrAtom l r false) line k x y = good_ptrs l r line k y x
  good_atom (DataAtom l r true) line k x y = good_data l r line k x y
  good_atom (DataAtom l r false) line k x y = good_data l r line k y x

  good_place : (exit : ℕ) (line : ℕ → ℕ) (c : Items) → IsOpen nv nd c
      → Good (mark_of c) (mark_of c + place_width nv nd c) (place_edges nv nd exit line c)
  good_place exit line (Do a m is) o =
      let row = act_row nv nd a is in
      good_wide m (m + length row) m (m + act_width nv nd a)
      (chain (line m) row m (loc nv nd exit (opened (followed_by a is)))) (omega arith)
      (omega (arith, row_length nv nd a is, pred_least (length (act_row nv nd a Done)))) (
        chain_within (line m) row m (loc nv nd exit (opened (followed_by a is))),
        chain_order (line m) row m (loc nv nd exit (opened (followed_by a is))),
      )
  good_place exit line (Close ps ds m is) o = (((omega arith, omega arith), tt), (tt, tt))
  good_place exit line (If (Ask a m) x y is) o = good_atom a (line m) m _ _
  good_place exit line (Enter vs ws m is) o =
      let row = enter_row nv nd vs ws in let to = loc nv nd exit (opened is) in
      good_wide m (m + length row) m (m + enter_width nv nd vs ws) (chain (line m) row m to) (omega arith)
      (omega (arith, pred_least (length row))) (chain_within (line m) row m to, chain_order (line m) row m to)
  good_place exit line (Leave v vs a m is) o =
      let row = leave_row nv nd v vs a in let to = loc nv nd exit (opened (from_exit is)) in
      good_wide m (m + length row) m (m + leave_width nv nd v vs a) (chain (line m) row m to) (omega arith)
      (omega (arith, pred_least (length row))) (chain_within (line m) row m to, chain_order (line m) row m to)
  good_place exit line (Exit v vs d m is) o =
      let row = exit_row nv nd v vs d in let to = loc nv nd exit (opened is) in
      good_wide m (m + length row) m (m + exit_width nv nd v vs d) (chain (line m) row m to) (omega arith)
      (omega (arith, pred_least (length row))) (chain_within (line m) row m to, chain_order (line m) row m to)
  good_place exit line _ o = absurd o

  stacked_le : (ps : List Items) (i e : ℕ) → Stacked nv nd i ps e → i ≤ e
  stacked_le [] i e h = omega (arith, h)
  stacked_le (c ∷ ps) i e h = omega (arith, stacked_le ps (i + place_width nv nd c) e h.2)

  pub good_all : (exit : ℕ) (line : ℕ → ℕ) (ps : List Items) (i e : ℕ) → Stacked nv nd i ps e
      → Good i e (all_edges nv nd exit line ps)
  good_all exit line [] i e h = (tt, tt)
  good_all exit line (c ∷ ps) i e h =
      good_more i (i + place_width nv nd c) e (place_edges nv nd exit line c) (all_edges nv nd exit line ps)
      (omega arith) (stacked_le ps _ e h.2)
      (subst (λ k. Good k (k + place_width nv nd c) (place_edges nv nd exit line c)) h.1 (good_place exit line c h.0))
      (good_all exit line ps (i + place_width nv nd c) e h.2)

  -- every place has its row
  pub rows_all : (E : List Edge) (exit : ℕ) (line : ℕ → ℕ) (ps : List Items) (i e : ℕ) → Stacked nv nd i ps e
      → AgreesOn E (all_edges nv nd exit line ps) i e
      → Every (IsRow nv nd E Always line (loc nv nd exit) (mids_of nv nd)) ps
  rows_all E exit line [] i e h a = tt
  rows_all E exit line (c ∷ ps) i e h a =
      let w = place_width nv nd c in
      let le = stacked_le ps (i + w) e h.2 in
      let here : AgreesOn E (place_edges nv nd exit line c) i (i + w) =
      part_of E [] (place_edges nv nd exit line c) (all_edges nv nd exit line ps) i i (i + w) e (omega arith)
      (omega arith) le a tt (good_all exit line ps (i + w) e h.2).0 in
      let hw : Within i (i + w) (place_edges nv nd exit line c) =
      (subst (λ k. Good k (k + w) (place_edges nv nd exit line c)) h.1 (good_place exit line c h.0)).0 in (
        place_row nv nd E exit line c h.0
            (subst (λ k. AgreesOn E (place_edges nv nd exit line c) k (k + w)) (sym h.1) here),
        rows_all E exit line ps (i + w) e h.2
            (λ q x y. a q (omega (arith, x)) y
            ∙ out_more (place_edges nv nd exit line c) (all_edges nv nd exit line ps) q
            ∙ ap (λ es. es ++ out_of (all_edges nv nd exit line ps) q)
            (out_off i (i + w) (place_edges nv nd exit line c) q hw (inr x))),
      )
