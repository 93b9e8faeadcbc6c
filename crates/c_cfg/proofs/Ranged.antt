-- Items whose numbers are in range, and the places among them.
use Rattle.std.proofs.Common.{◌≡◌, ◌<◌, ℕ, zero, suc, Bool, true, false, List, [], ◌∷◌, length, refl, ap, ◌∙◌}
use Rattle.std.specs.Prelude.{nat_lt, if◌then◌else◌}
use Rattle.std.proofs.lemmas.Bool.{and_parts, ltb-true}
use Rattle.fore_base.specs.Lists.{Every}
use Rattle.fore_base.proofs.ListLemmas.{every_append}
use Rattle.c_types.specs.Program.{Program, all_below, atom_typed}
use Rattle.c_types.specs.Control.{Test, Ask, Not, Both, Either, Items, Done, Do, Close, If, Loop, Again, DoLoop}
use Rattle.c_types.specs.Control.{DoAgain, Enter, Leave, Exit, ◌then◌, round, do_round, insert, merged, closed_ptrs}
use Rattle.c_types.specs.Control.{closed_after}
use Rattle.c_types.specs.Control.{closed_datums, ask, open_before, opened, after_again, from_again}
use Rattle.c_types.specs.Control.{from_exit}
use Rattle.c_types.specs.Fits.{ActFits, EnterFits, LeaveFits, ExitFits}
use Rattle.c_types.proofs.Rests.{rest_of, after_kept, from_kept, exit_kept}
use Rattle.c_types.proofs.Turns.{then_done}
use Rattle.c_cfg.specs.Places.{test_places, places, remark_test, remark}
use Rattle.c_cfg.proofs.Calls.OpenCalls.{open_vars, Closed, closed_then, open_ask, closed_unmarked}

pub numbers_below : (n : ℕ) (ms : List ℕ) → all_below n ms ≡ true → Every (λ m. m < n) ms
numbers_below n [] e = tt
numbers_below n (m ∷ ms) e = let both = and_parts (nat_lt m n) (all_below n ms) e in
    (ltb-true m n both.0, numbers_below n ms both.1)

module _ (p : Program) where
  abbrev pub TestTyped : Test → Type 0
  TestTyped (Ask a m) = atom_typed p.shapes.structs p.vars (length p.data_vars) a ≡ true
  TestTyped (Not c) = TestTyped c
  TestTyped (Both c d) = TestTyped c × TestTyped d
  TestTyped (Either c d) = TestTyped c × TestTyped d

  -- each act, atom, Close, Enter, Leave and Exit of the items is one of the program's, and branches and the bodies of
  -- loops end the calls that they begin
  abbrev pub Ranged : Items → Type 0
  Ranged Done = Unit {0}
  Ranged (Do a m is) = ActFits p a × Ranged is
  Ranged (Close ps ds m is) = (all_below (length p.vars) ps ≡ true) × (all_below (length p.data_vars) ds ≡ true)
      × Ranged is
  Ranged (If c x y is) = TestTyped c × Ranged x × Ranged y × Ranged is × Closed x × Closed y
  Ranged (Loop c n b is) = TestTyped c × Ranged n × Ranged b × Ranged is × Closed n × Closed b
  Ranged (Again c n b is) = TestTyped c × Ranged n × Ranged b × Ranged is × Closed n × Closed b
  Ranged (DoLoop c b is) = TestTyped c × Ranged b × Ranged is × Closed b
  Ranged (DoAgain c b is) = TestTyped c × Ranged b × Ranged is × Closed b
  Ranged (Enter vs ws m is) = EnterFits p vs ws × Ranged is
  Ranged (Leave v vs a m is) = LeaveFits p v vs a × Ranged is
  Ranged (Exit v vs d m is) = ExitFits p v vs d × Ranged is

  -- Places

  pub then_ranged : (is r : Items) → Ranged is → Ranged r → Ranged (is then r)
  then_ranged Done r h k = k
  then_ranged (Do a m is) r h k = (h.0, then_ranged is r h.1 k)
  then_ranged (Close ps ds m is) r h k = (h.0, h.1, then_ranged is r h.2 k)
  then_ranged (If c x y is) r h k = (h.0, h.1, h.2, then_ranged is r h.3 k, h.4, h.5)
  then_ranged (Loop c n b is) r h k = (h.0, h.1, h.2, then_ranged is r h.3 k, h.4, h.5)
  then_ranged (Again c n b is) r h k = (h.0, h.1, h.2, then_ranged is r h.3 k, h.4, h.5)
  then_ranged (DoLoop c b is) r h k = (h.0, h.1, then_ranged is r h.2 k, h.3)
  then_ranged (DoAgain c b is) r h k = (h.0, h.1, then_ranged is r h.2 k, h.3)
  then_ranged (Enter vs ws m is) r h k = (h.0, then_ranged is r h.1 k)
  then_ranged (Leave v vs a m is) r h k = (h.0, then_ranged is r h.1 k)
  then_ranged (Exit v vs d m is) r h k = (h.0, then_ranged is r h.1 k)

  done_closed : Closed Done
  done_closed m r = refl

  round_ranged : (c : Test) (n b : Items) → TestTyped c → Ranged n → Ranged b → Closed n → Closed b
      → Ranged (round c n b)
  round_ranged c n b t hn hb cn cb = then_ranged b (Again c n b Done) hb (t, hn, hb, tt, cn, cb)

  round_closed : (c : Test) (n b : Items) → Closed b → Closed (round c n b)
  round_closed c n b cb = closed_then b (Again c n b Done) cb (λ m r. refl)

  do_ranged : (c : Test) (b : Items) → TestTyped c → Ranged b → Closed b → Ranged (do_round c b)
  do_ranged c b t hb cb = then_ranged b (DoAgain c b Done) hb (t, hb, tt, cb)

  do_closed : (c : Test) (b : Items) → Closed b → Closed (do_round c b)
  do_closed c b cb = closed_then b (DoAgain c b Done) cb (λ m r. refl)

  tests_ranged : (c : Test) (x y r : Items) → TestTyped c → Ranged x → Ranged y → Ranged r → Closed x → Closed y
      → Every Ranged (test_places c x y r)
  tests_ranged (Ask a m) x y r t hx hy hr cx cy = ((t, hx, hy, hr, cx, cy), tt)
  tests_ranged (Not c) x y r t hx hy hr cx cy = tests_ranged c y x r t hy hx hr cy cx
  tests_ranged (Both c d) x y r t hx hy hr cx cy =
      every_append Ranged (test_places c (If d x y Done) y r) _
      (tests_ranged c (If d x y Done) y r t.0 (t.1, hx, hy, tt, cx, cy) hy hr (λ m q. refl) cy)
      (tests_ranged d x y r t.1 hx hy hr cx cy)
  tests_ranged (Either c d) x y r t hx hy hr cx cy =
      every_append Ranged (test_places c x (If d x y Done) r) _
      (tests_ranged c x (If d x y Done) r t.0 hx (t.1, hx, hy, tt, cx, cy) hr cx (λ m q. refl))
      (tests_ranged d x y r t.1 hx hy hr cx cy)

  pub places_ranged : (is r : Items) → Ranged is → Ranged r → Every Ranged (places is r)
  places_ranged Done r h k = tt
  places_ranged (Do a m is) r h k = ((h.0, then_ranged is r h.1 k), places_ranged is r h.1 k)
  places_ranged (Close ps ds m is) r h k = ((h.0, h.1, then_ranged is r h.2 k), places_ranged is r h.2 k)
  places_ranged (If c x y is) r h k =
      let q = is then r in let hq = then_ranged is r h.3 k in
      every_append Ranged (test_places c x y q) _ (tests_ranged c x y q h.0 h.1 h.2 hq h.4 h.5)
      (every_append Ranged (places x q) _ (places_ranged x q h.1 hq)
      (every_append Ranged (places y q) _ (places_ranged y q h.2 hq) (places_ranged is r h.3 k)))
  places_ranged (Loop c n b is) r h k =
      let q = is then r in let hq = then_ranged is r h.3 k in
      every_append Ranged (test_places c (round c n b) Done q) _
      (tests_ranged c (round c n b) Done q h.0 (round_ranged c n b h.0 h.1 h.2 h.4 h.5) tt hq
      (round_closed c n b h.5) done_closed)
      (every_append Ranged (places b (Again c n b q)) _
      (places_ranged b (Again c n b q) h.2 (h.0, h.1, h.2, hq, h.4, h.5))
      (every_append Ranged (places n (Loop c n b q)) _
      (places_ranged n (Loop c n b q) h.1 (h.0, h.1, h.2, hq, h.4, h.5)) (places_ranged is r h.3 k)))
  places_ranged (Again c n b is) r h k =
      let q = is then r in let hq = then_ranged is r h.3 k in
      every_append Ranged (places n (Loop c n b q)) _
      (places_ranged n (Loop c n b q) h.1 (h.0, h.1, h.2, hq, h.4, h.5))
      (every_append Ranged (test_places c (round c n b) Done q) _
      (tests_ranged c (round c n b) Done q h.0 (round_ranged c n b h.0 h.1 h.2 h.4 h.5) tt hq
      (round_closed c n b h.5) done_closed)
      (every_append Ranged (places b (Again c n b q)) _
      (places_ranged b (Again c n b q) h.2 (h.0, h.1, h.2, hq, h.4, h.5)) (places_ranged is r h.3 k)))
  places_ranged (DoLoop c b is) r h k =
      let q = is then r in let hq = then_ranged is r h.2 k in
      every_append Ranged (places b (DoAgain c b q)) _ (places_ranged b (DoAgain c b q) h.1 (h.0, h.1, hq, h.3))
      (every_append Ranged (test_places c (do_round c b) Done q) _
      (tests_ranged c (do_round c b) Done q h.0 (do_ranged c b h.0 h.1 h.3) tt hq (do_closed c b h.3) done_closed)
      (places_ranged is r h.2 k))
  places_ranged (DoAgain c b is) r h k =
      let q = is then r in let hq = then_ranged is r h.2 k in
      every_append Ranged (test_places c (do_round c b) Done q) _
      (tests_ranged c (do_round c b) Done q h.0 (do_ranged c b h.0 h.1 h.3) tt hq (do_closed c b h.3) done_closed)
      (every_append Ranged (places b (DoAgain c b q)) _ (places_ranged b (DoAgain c b q) h.1 (h.0, h.1, hq, h.3))
      (places_ranged is r h.2 k))
  places_ranged (Enter vs ws m is) r h k = ((h.0, then_ranged is r h.1 k), places_ranged is r h.1 k)
  places_ranged (Leave v vs a m is) r h k = ((h.0, then_ranged is r h.1 k), places_ranged is r h.1 k)
  places_ranged (Exit v vs d m is) r h k = ((h.0, then_ranged is r h.1 k), places_ranged is r h.1 k)

  -- marks have no bearing

  test_unmarked : (f : ℕ → ℕ) (c : Test) → TestTyped (remark_test f c) → TestTyped c
  test_unmarked f (Ask a m) h = h
  test_unmarked f (Not c) h = test_unmarked f c h
  test_unmarked f (Both c d) h = (test_unmarked f c h.0, test_unmarked f d h.1)
  test_unmarked f (Either c d) h = (test_unmarked f c h.0, test_unmarked f d h.1)

  pub unmarked : (f : ℕ → ℕ) (is : Items) → Ranged (remark f is) → Ranged is
  unmarked f Done h = tt
  unmarked f (Do a m is) h = (h.0, unmarked f is h.1)
  unmarked f (Close ps ds m is) h = (h.0, h.1, unmarked f is h.2)
  unmarked f (If c x y is) h = (
    test_unmarked f c h.0,
    unmarked f x h.1,
    unmarked f y h.2,
    unmarked f is h.3,
    closed_unmarked f x h.4,
    closed_unmarked f y h.5,
  )
  unmarked f (Loop c n b is) h = (
    test_unmarked f c h.0,
    unmarked f n h.1,
    unmarked f b h.2,
    unmarked f is h.3,
    closed_unmarked f n h.4,
    closed_unmarked f b h.5,
  )
  unmarked f (Again c n b is) h = (
    test_unmarked f c h.0,
    unmarked f n h.1,
    unmarked f b h.2,
    unmarked f is h.3,
    closed_unmarked f n h.4,
    closed_unmarked f b h.5,
  )
  unmarked f (DoLoop c b is) h =
      (test_unmarked f c h.0, unmarked f b h.1, unmarked f is h.2, closed_unmarked f b h.3)
  unmarked f (DoAgain c b is) h =
      (test_unmarked f c h.0, unmarked f b h.1, unmarked f is h.2, closed_unmarked f b h.3)
  unmarked f (Enter vs ws m is) h = (h.0, unmarked f is h.1)
  unmarked f (Leave v vs a m is) h = (h.0, unmarked f is h.1)
  unmarked f (Exit v vs d m is) h = (h.0, unmarked f is h.1)

  -- `break`, `continue` and `return`

  rest_ranged : (is : Items) → Ranged is → Ranged (rest_of is)
  rest_ranged Done h = tt
  rest_ranged (Do a m is) h = h.1
  rest_ranged (Close ps ds m is) h = h.2
  rest_ranged (If c x y is) h = h.3
  rest_ranged (Loop c n b is) h = h.3
  rest_ranged (Again c n b is) h = h.3
  rest_ranged (DoLoop c b is) h = h.2
  rest_ranged (DoAgain c b is) h = h.2
  rest_ranged (Enter vs ws m is) h = h.1
  rest_ranged (Leave v vs a m is) h = h.1
  rest_ranged (Exit v vs d m is) h = h.1

  pub after_ranged : (is : Items) → Ranged is → Ranged (after_again is)
  after_ranged = after_kept Ranged rest_ranged

  pub from_ranged : (is : Items) → Ranged is → Ranged (from_again is)
  from_ranged = from_kept Ranged rest_ranged

  pub exit_ranged : (is : Items) → Ranged is → Ranged (from_exit is)
  exit_ranged = exit_kept Ranged rest_ranged

  -- Opening begins and ends no call.

  open_before_same : (m : ℕ) (is r o : Items) → Ranged is → open_vars m o ≡ open_vars m r
      → open_vars m (open_before is r o) ≡ open_vars m (is then r)
  open_before_same m Done r o h e = e
  open_before_same m (If c x y is) r o h e = open_ask m c x y (is then r)
  open_before_same m (Loop c n b is) r o h e = open_ask m c (round c n b) Done (is then r)
  open_before_same m (Again c n b is) r o h e =
      let q = is then r in
      open_before_same m n (Loop c n b q) (ask c (round c n b) Done q) h.1 (open_ask m c (round c n b) Done q)
      ∙ h.4 m (Loop c n b q)
  open_before_same m (DoLoop c b is) r o h e =
      let q = is then r in
      open_before_same m b (DoAgain c b q) (ask c (do_round c b) Done q) h.1 (open_ask m c (do_round c b) Done q)
      ∙ h.3 m (DoAgain c b q)
  open_before_same m (DoAgain c b is) r o h e = open_ask m c (do_round c b) Done (is then r)
  open_before_same m _ r o h e = refl

  pub opened_open : (c : Items) → Ranged c → open_vars 0 (opened c) ≡ open_vars 0 c
  opened_open c h = open_before_same 0 c Done Done h refl ∙ ap (open_vars 0) (then_done c)

  -- Variables that die with `break` and `continue`

  pub insert_below : (n m : ℕ) (ms : List ℕ) → m < n → Every (λ k. k < n) ms → Every (λ k. k < n) (insert m ms)
  insert_below n m [] l h = (l, tt)
  insert_below n m (k ∷ ks) l h = here (nat_lt m k) (insert_below n m ks l h.1)
    where
      here : (b : Bool) → Every (λ j. j < n) (insert m ks)
          → Every (λ j. j < n) (if b then m ∷ k ∷ ks else k ∷ insert m ks)
      here true rest = (l, h)
      here false rest = (h.0, rest)

  merged_below : (n : ℕ) (ms ks : List ℕ) → Every (λ k. k < n) ms → Every (λ k. k < n) ks
      → Every (λ k. k < n) (merged ms ks)
  merged_below n [] ks h k = k
  merged_below n (m ∷ ms) ks h k = insert_below n m (merged ms ks) h.0 (merged_below n ms ks h.1 k)

  -- of the variables of blocks, all of which are below a bound
  own_below : (own : List ℕ → List ℕ → List ℕ) (bound : ℕ)
      → ((ps ds : List ℕ) → all_below (length p.vars) ps ≡ true → all_below (length p.data_vars) ds ≡ true
      → Every (λ x. x < bound) (own ps ds))
      → (n : ℕ) (is : Items) → Ranged is → Every (λ x. x < bound) (closed_after own n is)
  own_below own bound each n Done h = tt
  own_below own bound each n (Do a m is) h = own_below own bound each n is h.1
  own_below own bound each zero (Close ps ds m is) h =
      merged_below bound (own ps ds) (closed_after own zero is) (each ps ds h.0 h.1)
      (own_below own bound each zero is h.2)
  own_below own bound each (suc n) (Close ps ds m is) h = own_below own bound each (suc n) is h.2
  own_below own bound each n (If c x y is) h = own_below own bound each n is h.3
  own_below own bound each n (Loop c k b is) h = own_below own bound each n is h.3
  own_below own bound each n (Again c k b is) h = tt
  own_below own bound each n (DoLoop c b is) h = own_below own bound each n is h.2
  own_below own bound each n (DoAgain c b is) h = tt
  own_below own bound each n (Enter vs ws m is) h = own_below own bound each (suc n) is h.1
  own_below own bound each n (Leave v vs a m is) h = own_below own bound each n is h.1
  own_below own bound each zero (Exit v vs d m is) h = tt
  own_below own bound each (suc n) (Exit v vs d m is) h = own_below own bound each n is h.1

  pub closed_below : (is : Items) → Ranged is → Every (λ x. x < length p.vars) (closed_ptrs is)
      × Every (λ x. x < length p.data_vars) (closed_datums is)
  closed_below is h = (
    own_below (λ ps ds. ps) (length p.vars) (λ ps ds e f. numbers_below (length p.vars) ps e) 0 is h,
    own_below (λ ps ds. ds) (length p.data_vars) (λ ps ds e f. numbers_below (length p.data_vars) ds f) 0 is h,
  )
