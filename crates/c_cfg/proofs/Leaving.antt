-- What is so of the edges of each row is so of the edges that leave each location.
use Rattle.std.proofs.Common.{◌≡◌, ◌<◌, inl, inr, ℕ, zero, suc, List, [], ◌∷◌, ◌++◌, length, Bool, true, false, refl}
use Rattle.std.proofs.Common.{sym, ap, ◌∙◌, subst, Some, None, arith}
use Rattle.std.proofs.lemmas.Bool.{cases_lt, eq-eqb}
use Rattle.std.specs.Prelude.{nat_eq, if◌then◌else◌}
use Rattle.std.proofs.lemmas.List.Sorted.{list_any-IsPermutation}
use Rattle.fore_base.specs.Lists.{IsIn, Every}
use Rattle.fore_base.proofs.ListLemmas.{in_left, in_right, in_last, every_in, in_every, every_parts, every_append}
use Rattle.fore_base.proofs.ListLemmas.{number_in, in_number}
use Rattle.c_types.specs.declared.program.Atom.{Atom}
use Rattle.c_types.specs.declared.program.Atom.TheVariants.{Choice as ChoiceAtom, Known as KnownAtom, Ptr as PtrAtom}
use Rattle.c_types.specs.declared.program.Atom.TheVariants.{Data as DataAtom}
use Rattle.c_types.specs.declared.mode.MallocMode.{MallocMode}
use Rattle.c_types.specs.Program.{Program}
use Rattle.c_types.specs.Control.{Items, Done, Do, Close, If, Loop, Again, DoLoop, DoAgain, Test, Ask, Not, Both}
use Rattle.c_types.specs.Control.{Either, Enter, Leave, Exit, ◌then◌, opened, round, do_round, from_exit}
use Rattle.c_types.specs.Steps.{below}
use Rattle.c_cfg.specs.declared.graph.Instr.{Instr}
use Rattle.c_cfg.specs.declared.graph.Instr.TheVariants.{Kill, Choose}
use Rattle.c_cfg.specs.declared.graph.Edge.{Edge}
use Rattle.c_cfg.specs.Graphs.{ControlGraph}
use Rattle.c_cfg.specs.GraphRuns.{out_of}
use Rattle.c_cfg.specs.Links.{Link, One, links_in, act_row, ptr_loads, ptr_test, ptr_ends, cmp_loads, data_test}
use Rattle.c_cfg.specs.Links.{data_ends, enter_row, leave_row, exit_row}
use Rattle.c_cfg.specs.Places.{test_places, places}
use Rattle.c_cfg.specs.Lowering.{edge, link_edges, IsWay, but_last, IsWayOver, IsTestRow, IsRow, IsAtomRow, followed_by}
use Rattle.c_cfg.specs.Lowering.{numbers, LowerOf}
use Rattle.c_cfg.proofs.Filling.{Filled, filled_in, act_filled, enter_filled, leave_filled, exit_filled}
use Rattle.c_cfg.proofs.Spans.{Within, out_off}

-- the numbers below n
pub in_below : (n k : ℕ) → k < n → IsIn k (below n)
in_below zero k h = absurd (omega (arith, h))
in_below (suc n) k h = elim (cases_lt k n) [
  | inl less ↦ in_left k (below n) (n ∷ []) (in_below n k less)
  | inr same ↦ let e : k ≡ n = omega (arith, h, same) in
      subst (λ m. IsIn m (below n ++ n ∷ [])) (sym e) (in_last n (below n))
]

pub below_in : (n k : ℕ) → IsIn k (below n) → k < n
below_in zero k h = absurd h
below_in (suc n) k h = later (below n) (below_in n k) h
  where
    later : (ms : List ℕ) → (IsIn k ms → k < n) → IsIn k (ms ++ n ∷ []) → k < suc n
    later [] less (inl e) = omega (arith, e)
    later [] less (inr i) = absurd i
    later (m ∷ ms) less (inl e) = let l = less (inl e) in omega (arith, l)
    later (m ∷ ms) less (inr i) = later ms (λ j. less (inr j)) i

-- an edge is among those that begin where it does
pub in_out : (es : List Edge) (e : Edge) → IsIn e es → IsIn e (out_of es e.from)
in_out [] e i = absurd i
in_out (d ∷ ds) e (inl same) =
    let here : nat_eq d.from e.from ≡ true = eq-eqb d.from e.from (ap (λ z. z.from) (sym same)) in rw here (inl same)
in_out (d ∷ ds) e (inr i) = later (nat_eq d.from e.from) (in_out ds e i)
  where
    later : (b : Bool) → IsIn e (out_of ds e.from) → IsIn e (if b then d ∷ out_of ds e.from else out_of ds e.from)
    later true h = inr h
    later false h = h

-- a place has a step
abbrev IsStep : Items → Type 0
IsStep Done = ⊥
IsStep _ = Unit {0}

tests_step : (c : Test) (x y r : Items) → Every IsStep (test_places c x y r)
tests_step (Ask a m) x y r = (tt, tt)
tests_step (Not c) x y r = tests_step c y x r
tests_step (Both c d) x y r =
    every_append IsStep (test_places c (If d x y Done) y r) _ (tests_step c (If d x y Done) y r) (tests_step d x y r)
tests_step (Either c d) x y r =
    every_append IsStep (test_places c x (If d x y Done) r) _ (tests_step c x (If d x y Done) r) (tests_step d x y r)

places_step : (is r : Items) → Every IsStep (places is r)
places_step Done r = tt
places_step (Do a m is) r = (tt, places_step is r)
places_step (Close ps ds m is) r = (tt, places_step is r)
places_step (If c x y is) r =
    every_append IsStep (test_places c x y (is then r)) _ (tests_step c x y (is then r))
    (every_append IsStep (places x (is then r)) _ (places_step x (is then r))
    (every_append IsStep (places y (is then r)) _ (places_step y (is then r)) (places_step is r)))
places_step (Loop c n b is) r =
    every_append IsStep (test_places c (round c n b) Done (is then r)) _ (tests_step c (round c n b) Done (is then r))
    (every_append IsStep (places b (Again c n b (is then r))) _ (places_step b (Again c n b (is then r)))
    (every_append IsStep (places n (Loop c n b (is then r))) _ (places_step n (Loop c n b (is then r)))
    (places_step is r)))
places_step (Again c n b is) r =
    every_append IsStep (places n (Loop c n b (is then r))) _ (places_step n (Loop c n b (is then r)))
    (every_append IsStep (test_places c (round c n b) Done (is then r)) _ (tests_step c (round c n b) Done (is then r))
    (every_append IsStep (places b (Again c n b (is then r))) _ (places_step b (Again c n b (is then r)))
    (places_step is r)))
places_step (DoLoop c b is) r =
    every_append IsStep (places b (DoAgain c b (is then r))) _ (places_step b (DoAgain c b (is then r)))
    (every_append IsStep (test_places c (do_round c b) Done (is then r)) _
    (tests_step c (do_round c b) Done (is then r)) (places_step is r))
places_step (DoAgain c b is) r =
    every_append IsStep (test_places c (do_round c b) Done (is then r)) _ (tests_step c (do_round c b) Done (is then r))
    (every_append IsStep (places b (DoAgain c b (is then r))) _ (places_step b (DoAgain c b (is then r)))
    (places_step is r))
places_step (Enter vs ws m is) r = (tt, places_step is r)
places_step (Leave v vs a m is) r = (tt, places_step is r)
places_step (Exit v vs d m is) r = (tt, places_step is r)

module _ (nv nd : ℕ) (L : Link → Type 0) (C : (Bool → Instr) → Type 0) where
  -- L of the links of a place, and C of its test
  abbrev pub AtomGood : Atom → Type 0
  AtomGood ChoiceAtom = Unit {0}
  AtomGood (KnownAtom b) = L (One (Kill [] []))
  AtomGood (PtrAtom l r e) = Every L (ptr_loads nv nd l r) × C (ptr_test nv nd l r) × Every L (ptr_ends nv nd l r)
  AtomGood (DataAtom l r e) = Every L (cmp_loads nv nd l r) × C (data_test nv nd l r) × Every L (data_ends nv nd l r)

  abbrev pub PlaceGood : MallocMode → Items → Type 0
  PlaceGood mode Done = Unit {0}
  PlaceGood mode (Do a m is) = Every L (links_in mode (act_row nv nd a is))
  PlaceGood mode (Close ps ds m is) = L (One (Kill ps ds))
  PlaceGood mode (If (Ask a m) x y is) = AtomGood a
  PlaceGood mode (If (Not c) x y is) = Unit {0}
  PlaceGood mode (If (Both c d) x y is) = Unit {0}
  PlaceGood mode (If (Either c d) x y is) = Unit {0}
  PlaceGood mode (Loop c n b is) = Unit {0}
  PlaceGood mode (Again c n b is) = Unit {0}
  PlaceGood mode (DoLoop c b is) = Unit {0}
  PlaceGood mode (DoAgain c b is) = Unit {0}
  PlaceGood mode (Enter vs ws m is) = Every L (enter_row nv nd vs ws)
  PlaceGood mode (Leave v vs a m is) = Every L (leave_row nv nd v vs a)
  PlaceGood mode (Exit v vs d m is) = Every L (exit_row nv nd v vs d)

module _ (T : ℕ → Type 0) (at : Items → ℕ) where
  -- T of the locations to which its step leads
  abbrev pub PlaceLeads : Items → Type 0
  PlaceLeads Done = Unit {0}
  PlaceLeads (Do a m is) = T (at (opened (followed_by a is)))
  PlaceLeads (Close ps ds m is) = T (at (opened is))
  PlaceLeads (If (Ask a m) x y is) = T (at (opened (x then is))) × T (at (opened (y then is)))
  PlaceLeads (If (Not c) x y is) = Unit {0}
  PlaceLeads (If (Both c d) x y is) = Unit {0}
  PlaceLeads (If (Either c d) x y is) = Unit {0}
  PlaceLeads (Loop c n b is) = Unit {0}
  PlaceLeads (Again c n b is) = Unit {0}
  PlaceLeads (DoLoop c b is) = Unit {0}
  PlaceLeads (DoAgain c b is) = Unit {0}
  PlaceLeads (Enter vs ws m is) = T (at (opened is))
  PlaceLeads (Leave v vs a m is) = T (at (opened (from_exit is)))
  PlaceLeads (Exit v vs d m is) = T (at (opened is))

-- P is to hold of the edges that leave a location, T of the locations to which they lead, L of links, C of tests.
module _ (edges : List Edge) (P : List Edge → Type 0) (T : ℕ → Type 0) (L : Link → Type 0) (C : (Bool → Instr) → Type 0)
    (links : (line k to : ℕ) (l : Link) → L l → T to → P (link_edges line k to l))
    (tests : (line k a b : ℕ) (test : Bool → Instr) → C test → T a → T b
    → P (edge line k a (test true) None ∷ edge line k b (test false) None ∷ []))
    (chosen : (line k a b : ℕ) → T a → T b
    → P (edge line k a (Choose None) (Some 0) ∷ edge line k b (Choose None) (Some 1) ∷ [])) where
  abbrev Here : ℕ → Type 0
  Here k = P (out_of edges k)

  -- where Q holds of the end and of the locations before it, it holds of the whole way
  way_whole : (Q : ℕ → Type 0) (line : ℕ) (ls : List Link) (k : ℕ) (ms : List ℕ) (to : ℕ) → IsWay edges line ls k ms to
      → Q to → Every Q (but_last ms) → Every Q ms
  way_whole Q line [] k [] to w t h = tt
  way_whole Q line [] k (m ∷ ms) to w t h = absurd w
  way_whole Q line (l ∷ ls) k [] to w t h = absurd w
  way_whole Q line (l ∷ []) k (m ∷ []) to w t h = (subst Q (sym w.1) t, tt)
  way_whole Q line (l ∷ x ∷ ls) k (m ∷ []) to w t h = absurd w.1
  way_whole Q line (l ∷ []) k (m ∷ n ∷ ms) to w t h = absurd w.1
  way_whole Q line (l ∷ x ∷ ls) k (m ∷ n ∷ ms) to w t h = (h.0, way_whole Q line (x ∷ ls) m (n ∷ ms) to w.1 t h.1)

  -- the edges of links leave each location of their way
  way_has : (line : ℕ) (ls : List Link) (k : ℕ) (ms : List ℕ) (to : ℕ) → IsWay edges line ls k ms to → Every L ls
      → Every T ms → (Filled ls → Here k) × Every Here (but_last ms)
  way_has line [] k [] to w g t = ((λ f. absurd f), tt)
  way_has line [] k (m ∷ ms) to w g t = absurd w
  way_has line (l ∷ ls) k [] to w g t = absurd w
  way_has line (l ∷ []) k (m ∷ []) to w g t = ((λ f. subst P (sym w.0) (links line k m l g.0 t.0)), tt)
  way_has line (l ∷ x ∷ ls) k (m ∷ []) to w g t = absurd w.1
  way_has line (l ∷ []) k (m ∷ n ∷ ms) to w g t = absurd w.1
  way_has line (l ∷ x ∷ ls) k (m ∷ n ∷ ms) to w g t =
      let rest = way_has line (x ∷ ls) m (n ∷ ms) to w.1 g.1 t.1 in
      ((λ f. subst P (sym w.0) (links line k m l g.0 t.0)), (rest.0 tt, rest.1))

  over_has : (line : ℕ) (ls : List Link) (k : ℕ) (mids : List ℕ) (to : ℕ) → IsWayOver edges line ls k mids to
      → Filled ls → Every L ls → T to → Every T mids → Here k × Every Here mids
  over_has line ls k mids to o f g t ts =
      let all = way_whole T line ls k o.way to o.leads t (subst (Every T) o.middle ts) in
      let has = way_has line ls k o.way to o.leads g all in
      (has.0 f, subst (Every Here) (sym o.middle) has.1)

  -- the ends of one side of a test
  end_begins : (line : ℕ) (ls : List Link) (k : ℕ) (ms : List ℕ) (to : ℕ) → IsWay edges line ls k ms to → T to
      → Every T (but_last (k ∷ ms)) → T k × Every T ms
  end_begins line [] k [] to w t h = (subst T (sym w) t, tt)
  end_begins line [] k (m ∷ ms) to w t h = absurd w
  end_begins line (l ∷ ls) k [] to w t h = absurd w
  end_begins line (l ∷ ls) k (m ∷ ms) to w t h = (h.0, way_whole T line (l ∷ ls) k (m ∷ ms) to w t h.1)

  end_has : (line : ℕ) (ls : List Link) (k : ℕ) (ms : List ℕ) (to : ℕ) → IsWay edges line ls k ms to → Every L ls
      → Every T ms → Every Here (but_last (k ∷ ms))
  end_has line [] k [] to w g t = tt
  end_has line [] k (m ∷ ms) to w g t = absurd w
  end_has line (l ∷ ls) k [] to w g t = absurd w
  end_has line (l ∷ ls) k (m ∷ ms) to w g t = let has = way_has line (l ∷ ls) k (m ∷ ms) to w g t in (has.0 tt, has.1)

  -- the loads of a test, and the test after them
  front_has : (line : ℕ) (ls : List Link) (k : ℕ) (ms : List ℕ) (tested : ℕ) → IsWay edges line ls k ms tested
      → Every L ls → Every T ms → Here tested → Here k × Every Here ms
  front_has line [] k [] tested w g t h = (subst Here (sym w) h, tt)
  front_has line [] k (m ∷ ms) tested w g t h = absurd w
  front_has line (l ∷ ls) k [] tested w g t h = absurd w
  front_has line (l ∷ ls) k (m ∷ ms) tested w g t h =
      let has = way_has line (l ∷ ls) k (m ∷ ms) tested w g t in
      (has.0 tt, way_whole Here line (l ∷ ls) k (m ∷ ms) tested w h has.1)

  test_has : (line : ℕ) (pre : List Link) (test : Bool → Instr) (post : List Link) (k : ℕ) (mids : List ℕ)
      (same other : ℕ) → IsTestRow edges line pre test post k mids same other
      → Every L pre → C test → Every L post → T same → T other → Every T mids → Here k × Every Here mids
  test_has line pre test post k mids same other r g c e ts to ms =
      let all = every_parts T r.front _ (subst (Every T) r.middle ms) in
      let sides = every_parts T (but_last (r.if_same ∷ r.after_same)) _ all.1 in
      let yes = end_begins line post r.if_same r.after_same same r.same_ends ts sides.0 in
      let no = end_begins line post r.if_other r.after_other other r.other_ends to sides.1 in
      let tested : Here r.tested = subst P (sym r.compares) (tests line r.tested r.if_same r.if_other test c yes.0 no.0)
      in
      let front = front_has line pre k r.front r.tested r.reads g all.0 tested in (
        front.0,
        subst (Every Here) (sym r.middle) (every_append Here r.front _ front.1
            (every_append Here (but_last (r.if_same ∷ r.after_same)) _
            (end_has line post r.if_same r.after_same same r.same_ends e yes.1)
            (end_has line post r.if_other r.after_other other r.other_ends e no.1))),
      )

  module _ (nv nd : ℕ) (mode : MallocMode) (line : ℕ → ℕ) (at : Items → ℕ) (mids : Items → List ℕ) where
    none_in : (ms : List ℕ) → ms ≡ [] → Every Here ms
    none_in ms e = subst (Every Here) (sym e) tt

    atom_has : (a : Atom) (n k : ℕ) (ms : List ℕ) (x y : ℕ) → IsAtomRow nv nd edges a n k ms x y → AtomGood nv nd L C a
        → T x → T y → Every T ms → Here k × Every Here ms
    atom_has ChoiceAtom n k ms x y r g tx ty t = (subst P (sym r.0) (chosen n k y x ty tx), none_in ms r.1)
    atom_has (KnownAtom true) n k ms x y r g tx ty t =
        (subst P (sym r.0) (links n k x (One (Kill [] [])) g tx), none_in ms r.1)
    atom_has (KnownAtom false) n k ms x y r g tx ty t =
        (subst P (sym r.0) (links n k y (One (Kill [] [])) g ty), none_in ms r.1)
    atom_has (PtrAtom l r true) n k ms x y row g tx ty t =
        test_has n (ptr_loads nv nd l r) (ptr_test nv nd l r) (ptr_ends nv nd l r) k ms x y row g.0 g.1 g.2 tx ty t
    atom_has (PtrAtom l r false) n k ms x y row g tx ty t =
        test_has n (ptr_loads nv nd l r) (ptr_test nv nd l r) (ptr_ends nv nd l r) k ms y x row g.0 g.1 g.2 ty tx t
    atom_has (DataAtom l r true) n k ms x y row g tx ty t =
        test_has n (cmp_loads nv nd l r) (data_test nv nd l r) (data_ends nv nd l r) k ms x y row g.0 g.1 g.2 tx ty t
    atom_has (DataAtom l r false) n k ms x y row g tx ty t =
        test_has n (cmp_loads nv nd l r) (data_test nv nd l r) (data_ends nv nd l r) k ms y x row g.0 g.1 g.2 ty tx t

    place_has : (c : Items) → IsStep c → IsRow nv nd edges mode line at mids c → PlaceGood nv nd L C mode c
        → PlaceLeads T at c → Every T (mids c) → Here (at c) × Every Here (mids c)
    place_has Done o r g d t = absurd o
    place_has (Do a m is) o r g d t =
        over_has (line m) (links_in mode (act_row nv nd a is)) (at (Do a m is)) (mids (Do a m is)) _ r
        (filled_in mode (act_row nv nd a is) (act_filled nv nd a is)) g d t
    place_has (Close ps ds m is) o r g d t =
        over_has (line m) (One (Kill ps ds) ∷ []) (at (Close ps ds m is)) (mids (Close ps ds m is)) _ r tt (g, tt) d t
    place_has (If (Ask a m) x y is) o r g d t =
        atom_has a (line m) (at (If (Ask a m) x y is)) (mids (If (Ask a m) x y is)) _ _ r g d.0 d.1 t
    place_has (Enter vs ws m is) o r g d t =
        over_has (line m) (enter_row nv nd vs ws) (at (Enter vs ws m is)) (mids (Enter vs ws m is)) _ r
        (enter_filled nv nd vs ws) g d t
    place_has (Leave v vs a m is) o r g d t =
        over_has (line m) (leave_row nv nd v vs a) (at (Leave v vs a m is)) (mids (Leave v vs a m is)) _ r
        (leave_filled nv nd v vs a) g d t
    place_has (Exit v vs e m is) o r g d t =
        over_has (line m) (exit_row nv nd v vs e) (at (Exit v vs e m is)) (mids (Exit v vs e m is)) _ r
        (exit_filled nv nd v vs e) g d t
    place_has _ o r g d t = absurd r

    every_has : (cs : List Items) → Every IsStep cs → Every (IsRow nv nd edges mode line at mids) cs
        → Every (PlaceGood nv nd L C mode) cs → Every (PlaceLeads T at) cs → Every T (numbers at mids cs)
        → Here (at Done) → Every Here (numbers at mids cs)
    every_has [] o r g d t h = (h, tt)
    every_has (c ∷ cs) o r g d t h =
        let ts = every_parts T (mids c) (numbers at mids cs) t.1 in
        let has = place_has c o.0 r.0 g.0 d.0 ts.0 in
        (has.0, every_append Here (mids c) (numbers at mids cs) has.1 (every_has cs o.1 r.1 g.1 d.1 ts.1 h))

-- each location is a number of the exit or of a place, and each of those is a location
module _ (p : Program) (mode : MallocMode) (g : ControlGraph) (low : LowerOf p mode g) where
  pub all_below : Every (λ k. k < g.locations) (numbers low.at low.mids (places low.items Done))
  all_below = in_every (λ k. k < g.locations) (numbers low.at low.mids (places low.items Done)) (λ k i.
      below_in g.locations k
      (number_in k (below g.locations)
      (sym (list_any-IsPermutation (λ m. nat_eq m k) _ _ low.all_numbers) ∙ in_number k _ i)))

  exit_in : (cs : List Items) → IsIn (low.at Done) (numbers low.at low.mids cs)
  exit_in [] = inl refl
  exit_in (c ∷ cs) = inr (in_right (low.at Done) (low.mids c) (numbers low.at low.mids cs) (exit_in cs))

  pub exit_below : low.at Done < g.locations
  exit_below = every_in (λ k. k < g.locations) (numbers low.at low.mids (places low.items Done)) (low.at Done) all_below
      (exit_in (places low.items Done))

  starts_below : (cs : List Items) → Every (λ k. k < g.locations) (numbers low.at low.mids cs)
      → Every (λ c. low.at c < g.locations) cs
  starts_below [] h = tt
  starts_below (c ∷ cs) h =
      (h.0, starts_below cs (every_parts (λ k. k < g.locations) (low.mids c) (numbers low.at low.mids cs) h.1).1)

  pub places_below : Every (λ c. low.at c < g.locations) (places low.items Done)
  places_below = starts_below (places low.items Done) all_below

  number_of : (k : ℕ) → k < g.locations → IsIn k (numbers low.at low.mids (places low.items Done))
  number_of k h = number_in k _
      (list_any-IsPermutation (λ m. nat_eq m k) _ _ low.all_numbers
      ∙ in_number k (below g.locations) (in_below g.locations k h))

  abbrev nv : ℕ
  nv = length p.vars

  abbrev nd : ℕ
  nd = length p.data_vars

  module _ (P : List Edge → Type 0) (T : ℕ → Type 0) (L : Link → Type 0) (C : (Bool → Instr) → Type 0)
      (links : (line k to : ℕ) (l : Link) → L l → T to → P (link_edges line k to l))
      (tests : (line k a b : ℕ) (test : Bool → Instr) → C test → T a → T b
      → P (edge line k a (test true) None ∷ edge line k b (test false) None ∷ []))
      (chosen : (line k a b : ℕ) → T a → T b
      → P (edge line k a (Choose None) (Some 0) ∷ edge line k b (Choose None) (Some 1) ∷ [])) where
    -- so P holds of the edges that leave any location
    pub each_location : P [] → Every (PlaceGood nv nd L C mode) (places low.items Done)
        → Every (PlaceLeads T low.at) (places low.items Done)
        → Every T (numbers low.at low.mids (places low.items Done)) → (k : ℕ) → P (out_of g.edges k)
    each_location none good leads ts k = elim (cases_lt k g.locations) [
      | inl less ↦ every_in (λ j. P (out_of g.edges j)) (numbers low.at low.mids (places low.items Done)) k
          (every_has g.edges P T L C links tests chosen nv nd mode low.line low.at low.mids (places low.items Done)
          (places_step low.items Done) low.rows good leads ts (subst P (sym low.exit) none)) (number_of k less)
      | inr past ↦ subst P (sym (out_off 0 g.locations g.edges k (within g.edges low.each_from) (inr past))) none
    ]
      where
        within : (es : List Edge) → Every (λ e. e.from < g.locations) es → Within 0 g.locations es
        within [] h = tt
        within (e ∷ es) h = ((omega arith, h.0), within es h.1)
