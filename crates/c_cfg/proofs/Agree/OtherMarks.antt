-- Other marks change nothing but the lines of faults.
use Rattle.std.proofs.Common.{◌≡◌, ◌+◌, ℕ, zero, suc, Bool, true, false, Result, Ok, Err, List, [], ◌∷◌, refl, sym, ap}
use Rattle.std.proofs.Common.{◌∙◌}
use Rattle.fore_base.specs.declared.fault.Fault.{Fault as Kind}
use Rattle.fore_base.specs.declared.shape.Shape.{Shape}
use Rattle.fore_base.specs.declared.store.Store.{Store}
use Rattle.fore_base.specs.Stores.{kill}
use Rattle.fore_base.specs.Heap.{leaks}
use Rattle.c_types.specs.declared.mode.MallocMode.{MallocMode}
use Rattle.c_types.specs.declared.outcome.Outcome.{Outcome}
use Rattle.c_types.specs.declared.program.Act.{Act}
use Rattle.c_types.specs.declared.program.Act.TheVariants.{SetPtr, SetData, Free, Return, Break, Continue}
use Rattle.c_types.specs.Program.{Program}
use Rattle.c_types.specs.Control.{Items, Done, Do, Close, If, Loop, Again, DoLoop, DoAgain, Test, Ask, Not, Both}
use Rattle.c_types.specs.Control.{Either, Enter, Leave, Exit, ◌then◌, ask, round, do_round, open_before, opened}
use Rattle.c_types.specs.Control.{after_again, from_again, exit_after, from_exit}
use Rattle.c_types.specs.Control.{closed_after, closed_ptrs, closed_datums, merged}
use Rattle.c_types.specs.Steps.{assign, assign_data, free_path, look_at, all_dead, settle, settled, finished, act_turn}
use Rattle.c_types.specs.Steps.{act_takes, atom_of, atom_takes, test_turn, enter, leave, exit}
use Rattle.c_types.specs.Runs.{supply, after_turn, at_end, advance, go, own_line}
use Rattle.c_types.specs.Fits.{ItemsFit}
use Rattle.c_cfg.specs.Places.{remark, remark_test}

module _ (f : ℕ → ℕ) where
  pub remark_then : (c d : Items) → remark f (c then d) ≡ remark f c then remark f d
  remark_then Done d = refl
  remark_then (Do a m is) d = ap (Do a (f m)) (remark_then is d)
  remark_then (Close ps ds m is) d = ap (Close ps ds (f m)) (remark_then is d)
  remark_then (If c x y is) d = ap (If (remark_test f c) (remark f x) (remark f y)) (remark_then is d)
  remark_then (Loop c n b is) d = ap (Loop (remark_test f c) (remark f n) (remark f b)) (remark_then is d)
  remark_then (Again c n b is) d = ap (Again (remark_test f c) (remark f n) (remark f b)) (remark_then is d)
  remark_then (DoLoop c b is) d = ap (DoLoop (remark_test f c) (remark f b)) (remark_then is d)
  remark_then (DoAgain c b is) d = ap (DoAgain (remark_test f c) (remark f b)) (remark_then is d)
  remark_then (Enter vs ws m is) d = ap (Enter vs ws (f m)) (remark_then is d)
  remark_then (Leave v vs a m is) d = ap (Leave v vs a (f m)) (remark_then is d)
  remark_then (Exit v vs e m is) d = ap (Exit v vs e (f m)) (remark_then is d)

  remark_ask : (c : Test) (x y r : Items) → remark f (ask c x y r)
      ≡ ask (remark_test f c) (remark f x) (remark f y) (remark f r)
  remark_ask (Ask a m) x y r = refl
  remark_ask (Not c) x y r = remark_ask c y x r
  remark_ask (Both c d) x y r = remark_ask c (If d x y Done) y r
  remark_ask (Either c d) x y r = remark_ask c x (If d x y Done) r

  -- a loop's test
  asks : (c : Test) (x r : Items) (x2 r2 : Items) → remark f x ≡ x2 → remark f r ≡ r2 → remark f (ask c x Done r)
      ≡ ask (remark_test f c) x2 Done r2
  asks c x r x2 r2 ex er = remark_ask c x Done r ∙ ap (λ z. ask (remark_test f c) z Done (remark f r)) ex
      ∙ ap (λ z. ask (remark_test f c) x2 Done z) er

  remark_open : (is r o : Items) → remark f (open_before is r o) ≡ open_before (remark f is) (remark f r) (remark f o)
  remark_open Done r o = refl
  remark_open (Do a m is) r o = ap (Do a (f m)) (remark_then is r)
  remark_open (Close ps ds m is) r o = ap (Close ps ds (f m)) (remark_then is r)
  remark_open (If c x y is) r o = remark_ask c x y (is then r)
      ∙ ap (λ z. ask (remark_test f c) (remark f x) (remark f y) z) (remark_then is r)
  remark_open (Loop c n b is) r o =
      asks c (round c n b) (is then r) _ _ (remark_then b (Again c n b Done)) (remark_then is r)
  remark_open (Again c n b is) r o =
      remark_open n (Loop c n b (is then r)) (ask c (round c n b) Done (is then r))
      ∙ ap
      (λ z. open_before (remark f n) (Loop (remark_test f c) (remark f n) (remark f b) z)
      (remark f (ask c (round c n b) Done (is then r)))) (remark_then is r)
      ∙ ap
      (λ z. open_before (remark f n)
      (Loop (remark_test f c) (remark f n) (remark f b) (remark f is then remark f r)) z)
      (asks c (round c n b) (is then r) _ _ (remark_then b (Again c n b Done)) (remark_then is r))
  remark_open (DoLoop c b is) r o =
      remark_open b (DoAgain c b (is then r)) (ask c (do_round c b) Done (is then r))
      ∙ ap
      (λ z. open_before (remark f b) (DoAgain (remark_test f c) (remark f b) z)
      (remark f (ask c (do_round c b) Done (is then r)))) (remark_then is r)
      ∙ ap (λ z. open_before (remark f b) (DoAgain (remark_test f c) (remark f b) (remark f is then remark f r)) z)
      (asks c (do_round c b) (is then r) _ _ (remark_then b (DoAgain c b Done)) (remark_then is r))
  remark_open (DoAgain c b is) r o =
      asks c (do_round c b) (is then r) _ _ (remark_then b (DoAgain c b Done)) (remark_then is r)
  remark_open (Enter vs ws m is) r o = ap (Enter vs ws (f m)) (remark_then is r)
  remark_open (Leave v vs a m is) r o = ap (Leave v vs a (f m)) (remark_then is r)
  remark_open (Exit v vs d m is) r o = ap (Exit v vs d (f m)) (remark_then is r)

  -- the end of a round
  remark_round : (is : Items) → (after_again (remark f is) ≡ remark f (after_again is))
      × (from_again (remark f is) ≡ remark f (from_again is))
  remark_round Done = (refl, refl)
  remark_round (Do a m is) = remark_round is
  remark_round (Close ps ds m is) = remark_round is
  remark_round (If c x y is) = remark_round is
  remark_round (Loop c n b is) = remark_round is
  remark_round (Again c n b is) = (refl, refl)
  remark_round (DoLoop c b is) = remark_round is
  remark_round (DoAgain c b is) = (refl, refl)
  remark_round (Enter vs ws m is) = remark_round is
  remark_round (Leave v vs a m is) = remark_round is
  remark_round (Exit v vs d m is) = remark_round is

  -- which variables die with it
  remark_closed : (own : List ℕ → List ℕ → List ℕ) (n : ℕ) (is : Items) → closed_after own n (remark f is)
      ≡ closed_after own n is
  remark_closed own n Done = refl
  remark_closed own n (Do a m is) = remark_closed own n is
  remark_closed own zero (Close ps ds m is) = ap (merged (own ps ds)) (remark_closed own zero is)
  remark_closed own (suc n) (Close ps ds m is) = remark_closed own (suc n) is
  remark_closed own n (If c x y is) = remark_closed own n is
  remark_closed own n (Loop c k b is) = remark_closed own n is
  remark_closed own n (Again c k b is) = refl
  remark_closed own n (DoLoop c b is) = remark_closed own n is
  remark_closed own n (DoAgain c b is) = refl
  remark_closed own n (Enter vs ws m is) = remark_closed own (suc n) is
  remark_closed own n (Leave v vs a m is) = remark_closed own n is
  remark_closed own zero (Exit v vs d m is) = refl
  remark_closed own (suc n) (Exit v vs d m is) = remark_closed own n is

  pub remark_after : (is : Items) → after_again (remark f is) ≡ remark f (after_again is)
  remark_after is = (remark_round is).0

  pub remark_from : (is : Items) → from_again (remark f is) ≡ remark f (from_again is)
  remark_from is = (remark_round is).1

  remark_exit_after : (n : ℕ) (is : Items) → exit_after n (remark f is) ≡ remark f (exit_after n is)
  remark_exit_after n Done = refl
  remark_exit_after n (Do a m is) = remark_exit_after n is
  remark_exit_after n (Close ps ds m is) = remark_exit_after n is
  remark_exit_after n (If c x y is) = remark_exit_after n is
  remark_exit_after n (Loop c k b is) = remark_exit_after n is
  remark_exit_after n (Again c k b is) = remark_exit_after n is
  remark_exit_after n (DoLoop c b is) = remark_exit_after n is
  remark_exit_after n (DoAgain c b is) = remark_exit_after n is
  remark_exit_after n (Enter vs ws m is) = remark_exit_after (suc n) is
  remark_exit_after n (Leave v vs a m is) = remark_exit_after n is
  remark_exit_after zero (Exit v vs d m is) = refl
  remark_exit_after (suc n) (Exit v vs d m is) = remark_exit_after n is

  remark_exit : (is : Items) → from_exit (remark f is) ≡ remark f (from_exit is)
  remark_exit is = remark_exit_after 0 is

  -- Steps

  supply_same : (b : Bool) (cs : List ℕ) (step u : ℕ) (g h : ℕ → List ℕ → ℕ → Outcome)
      → ((x : ℕ) (ds : List ℕ) (v : ℕ) → g x ds v ≡ h x ds v) → supply b cs step u g ≡ supply b cs step u h
  supply_same false cs step u g h same = same 0 cs u
  supply_same true [] step u g h same = refl
  supply_same true (zero ∷ cs) step u g h same = same 0 cs (u + 1)
  supply_same true (suc zero ∷ cs) step u g h same = same 1 cs (u + 1)
  supply_same true (suc (suc n) ∷ cs) step u g h same = refl

  module _ (line step : ℕ) (next other : Items → Store → Outcome)
      (same : (js : Items) (t : Store) → next (remark f js) t ≡ other js t) where
    settle_same : (s : Store) (is js : Items) → js ≡ remark f is → after_turn (settle s js) line step next
        ≡ after_turn (settle s is) line step other
    settle_same s is js e = here (leaks s) refl
      where
        here : (b : Bool) → leaks s ≡ b → after_turn (settle s js) line step next
            ≡ after_turn (settle s is) line step other
        here true leak = rw leak refl
        here false fine = rw fine (ap (λ z. next z s) e ∙ same is s)

    settled_as : (r : Result Store Kind) (is js : Items) → js ≡ remark f is → after_turn (settled r js) line step next
        ≡ after_turn (settled r is) line step other
    settled_as (Ok s) is js e = settle_same s is js e
    settled_as (Err k) is js e = refl

    settled_same : (r : Result Store Kind) (is : Items) → after_turn (settled r (remark f is)) line step next
        ≡ after_turn (settled r is) line step other
    settled_same r is = settled_as r is (remark f is) refl

    finished_same : (r : Result Store Kind) → after_turn (finished r) line step next
        ≡ after_turn (finished r) line step other
    finished_same (Err k) = refl
    finished_same (Ok s) = here (leaks (all_dead s)) refl
      where
        here : (b : Bool) → leaks (all_dead s) ≡ b → after_turn (finished (Ok s)) line step next
            ≡ after_turn (finished (Ok s)) line step other
        here true leak = rw leak refl
        here false fine = rw fine refl

    test_same : (r : Result Bool Kind) (x y is : Items) (s : Store)
        → after_turn (test_turn r (remark f x) (remark f y) (remark f is) s) line step next
        ≡ after_turn (test_turn r x y is s) line step other
    test_same (Err k) x y is s = refl
    test_same (Ok true) x y is s = settle_same s (x then is) (remark f x then remark f is) (sym (remark_then x is))
    test_same (Ok false) x y is s = settle_same s (y then is) (remark f y then remark f is) (sym (remark_then y is))

    -- the end of a round that goes on with these items
    round_same : (is js ks : Items) (s : Store) → ks ≡ remark f js
        → after_turn (settle (kill (closed_ptrs (remark f is)) (closed_datums (remark f is)) s) ks) line step next
        ≡ after_turn (settle (kill (closed_ptrs is) (closed_datums is) s) js) line step other
    round_same is js ks s e =
        ap (λ ps. after_turn (settle (kill ps (closed_datums (remark f is)) s) ks) line step next)
        (remark_closed (λ ps ds. ps) 0 is)
        ∙ ap (λ ds. after_turn (settle (kill (closed_ptrs is) ds s) ks) line step next)
        (remark_closed (λ ps ds. ds) 0 is)
        ∙ settle_same (kill (closed_ptrs is) (closed_datums is) s) js ks e

    act_same : (shapes : List Shape) (mode : MallocMode) (a : Act) (is : Items) (s : Store) (x : ℕ)
        → after_turn (act_turn shapes mode a (remark f is) s x) line step next
        ≡ after_turn (act_turn shapes mode a is s x) line step other
    act_same shapes mode (SetPtr to from) is s x = settled_same (assign shapes mode s to from x) is
    act_same shapes mode (SetData to from) is s x = settled_same (assign_data s to from x) is
    act_same shapes mode (Free p) is s x = settled_same (free_path s p) is
    act_same shapes mode (Return operand) is s x = finished_same (look_at s operand)
    act_same shapes mode Break is s x = round_same is (after_again is) (after_again (remark f is)) s (remark_after is)
    act_same shapes mode Continue is s x = round_same is (from_again is) (from_again (remark f is)) s (remark_from is)
    act_same shapes mode _ is s x = refl

  module _ (shapes : List Shape) (mode : MallocMode) where
    advance_same : (next other : ℕ → Items → Store → List ℕ → ℕ → Outcome)
        → ((st : ℕ) (js : Items) (t : Store) (ds : List ℕ) (v : ℕ) → next st (remark f js) t ds v ≡ other st js t ds v)
        → (o : Items) (st : ℕ) (s : Store) (cs : List ℕ) (u : ℕ)
        → advance shapes mode own_line at_end (remark f o) next st s cs u
        ≡ advance shapes mode f at_end o other st s cs u
    advance_same next other same (Do a m is) st s cs u =
        supply_same (act_takes mode a) cs (st + 1) u _ _
        (λ x ds v. act_same (f m) (st + 1) (λ js t. next (st + 1) js t ds v) (λ js t. other (st + 1) js t ds v)
        (λ js t. same (st + 1) js t ds v) shapes mode a is s x)
    advance_same next other same (Close ps ds m is) st s cs u =
        settle_same (f m) (st + 1) (λ js t. next (st + 1) js t cs u) (λ js t. other (st + 1) js t cs u)
        (λ js t. same (st + 1) js t cs u) (kill ps ds s) is (remark f is) refl
    advance_same next other same (If (Ask a m) x y is) st s cs u =
        supply_same (atom_takes a) cs (st + 1) u _ _
        (λ c ds v. test_same (f m) (st + 1) (λ js t. next (st + 1) js t ds v) (λ js t. other (st + 1) js t ds v)
        (λ js t. same (st + 1) js t ds v) (atom_of a s c) x y is s)
    advance_same next other same (Enter vs ws m is) st s cs u =
        settled_same (f m) (st + 1) (λ js t. next (st + 1) js t cs u) (λ js t. other (st + 1) js t cs u)
        (λ js t. same (st + 1) js t cs u) (enter s vs ws) is
    advance_same next other same (Leave v vs a m is) st s cs u =
        settled_as (f m) (st + 1) (λ js t. next (st + 1) js t cs u) (λ js t. other (st + 1) js t cs u)
        (λ js t. same (st + 1) js t cs u) (leave s v vs a) (from_exit is) (from_exit (remark f is)) (remark_exit is)
    advance_same next other same (Exit v vs d m is) st s cs u =
        settled_same (f m) (st + 1) (λ js t. next (st + 1) js t cs u) (λ js t. other (st + 1) js t cs u)
        (λ js t. same (st + 1) js t cs u) (exit s v vs d) is
    advance_same next other same _ st s cs u = refl

    end_same : (o : Items) (st : ℕ) → at_end (remark f o) st ≡ at_end o st
    end_same Done st = refl
    end_same _ st = refl

    pub go_same : (n st : ℕ) (c : Items) (s : Store) (cs : List ℕ) (u : ℕ)
        → go shapes mode own_line at_end n st (remark f c) s cs u ≡ go shapes mode f at_end n st c s cs u
    go_same zero st c s cs u = ap (λ o. at_end o st) (sym (remark_open c Done Done)) ∙ end_same (opened c) st
    go_same (suc n) st c s cs u =
        ap (λ o. advance shapes mode own_line at_end o
        (λ st js t ds v. go shapes mode own_line at_end n st js t ds v) st s cs u)
        (sym (remark_open c Done Done))
        ∙ advance_same (λ st js t ds v. go shapes mode own_line at_end n st js t ds v)
        (λ st js t ds v. go shapes mode f at_end n st js t ds v) (λ st js t ds v. go_same n st js t ds v)
        (opened c) st s
        cs u

  -- What is typed

  module _ (p : Program) where
    pub items_marked : (is : Items) → ItemsFit p (remark f is) → ItemsFit p is
    items_marked Done h = tt
    items_marked (Do a m is) h = (h.0, items_marked is h.1)
    items_marked (Close ps ds m is) h = items_marked is h
    items_marked (If c x y is) h = (items_marked x h.0, items_marked y h.1, items_marked is h.2)
    items_marked (Loop c n b is) h = (items_marked n h.0, items_marked b h.1, items_marked is h.2)
    items_marked (Again c n b is) h = (items_marked n h.0, items_marked b h.1, items_marked is h.2)
    items_marked (DoLoop c b is) h = (items_marked b h.0, items_marked is h.1)
    items_marked (DoAgain c b is) h = (items_marked b h.0, items_marked is h.1)
    items_marked (Enter vs ws m is) h = (h.0, items_marked is h.1)
    items_marked (Leave v vs a m is) h = (h.0, items_marked is h.1)
    items_marked (Exit v vs d m is) h = (h.0, items_marked is h.1)
