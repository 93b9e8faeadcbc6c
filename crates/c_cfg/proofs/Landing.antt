-- Where a step leads is a place again, or the exit.
use Rattle.std.proofs.Common.{ℕ, List, [], ◌∷◌, subst}
use Rattle.fore_base.specs.Lists.{Every}
use Rattle.fore_base.proofs.ListLemmas.{every_append, every_parts}
use Rattle.c_types.specs.declared.program.Act.{Act}
use Rattle.c_types.specs.declared.program.Act.TheVariants.{SetPtr, SetData, Free, Break, Continue}
use Rattle.c_types.specs.Control.{Items, Done, Do, Close, If, Loop, Again, DoLoop, DoAgain, Test, Ask, Not, Both}
use Rattle.c_types.specs.Control.{Either, Enter, Leave, Exit, ◌then◌, ask, round, do_round, open_before, opened}
use Rattle.c_types.specs.Control.{after_again, from_again, from_exit}
use Rattle.c_cfg.specs.Places.{test_places, places}
use Rattle.c_cfg.specs.Lowering.{followed_by}
use Rattle.c_types.proofs.Rests.{rest_of, after_kept, from_kept, exit_kept}
use Rattle.c_types.proofs.Standing.{then_then}
use Rattle.c_types.proofs.Turns.{then_done}
use Rattle.c_cfg.proofs.Leaving.{PlaceLeads}

module _ (R : Items → Type 0) where
  -- R at each place of a test, and of items that stand before others
  abbrev pub EachTest : Test → Items → Items → Items → Type 0
  EachTest (Ask a m) x y r = R (If (Ask a m) x y r)
  EachTest (Not c) x y r = EachTest c y x r
  EachTest (Both c d) x y r = EachTest c (If d x y Done) y r × EachTest d x y r
  EachTest (Either c d) x y r = EachTest c x (If d x y Done) r × EachTest d x y r

  abbrev pub Each : Items → Items → Type 0
  Each Done r = Unit {0}
  Each (Do a m is) r = R (Do a m (is then r)) × Each is r
  Each (Close ps ds m is) r = R (Close ps ds m (is then r)) × Each is r
  Each (If c x y is) r = EachTest c x y (is then r) × Each x (is then r) × Each y (is then r) × Each is r
  Each (Loop c n b is) r = EachTest c (round c n b) Done (is then r) × Each b (Again c n b (is then r))
      × Each n (Loop c n b (is then r)) × Each is r
  Each (Again c n b is) r = EachTest c (round c n b) Done (is then r) × Each b (Again c n b (is then r))
      × Each n (Loop c n b (is then r)) × Each is r
  Each (DoLoop c b is) r = EachTest c (do_round c b) Done (is then r) × Each b (DoAgain c b (is then r)) × Each is r
  Each (DoAgain c b is) r = EachTest c (do_round c b) Done (is then r) × Each b (DoAgain c b (is then r)) × Each is r
  Each (Enter vs ws m is) r = R (Enter vs ws m (is then r)) × Each is r
  Each (Leave v vs a m is) r = R (Leave v vs a m (is then r)) × Each is r
  Each (Exit v vs d m is) r = R (Exit v vs d m (is then r)) × Each is r

  each_test : (c : Test) (x y r : Items) → Every R (test_places c x y r) → EachTest c x y r
  each_test (Ask a m) x y r h = h.0
  each_test (Not c) x y r h = each_test c y x r h
  each_test (Both c d) x y r h = let both = every_parts R (test_places c (If d x y Done) y r) _ h in
      (each_test c (If d x y Done) y r both.0, each_test d x y r both.1)
  each_test (Either c d) x y r h = let both = every_parts R (test_places c x (If d x y Done) r) _ h in
      (each_test c x (If d x y Done) r both.0, each_test d x y r both.1)

  pub each : (is r : Items) → Every R (places is r) → Each is r
  each Done r h = tt
  each (Do a m is) r h = (h.0, each is r h.1)
  each (Close ps ds m is) r h = (h.0, each is r h.1)
  each (If c x y is) r h =
      let h1 = every_parts R (test_places c x y (is then r)) _ h in let h2 =
      every_parts R (places x (is then r)) _ h1.1 in let h3 = every_parts R (places y (is then r)) _ h2.1 in
      (each_test c x y (is then r) h1.0, each x (is then r) h2.0, each y (is then r) h3.0, each is r h3.1)
  each (Loop c n b is) r h =
      let h1 = every_parts R (test_places c (round c n b) Done (is then r)) _ h in let h2 =
      every_parts R (places b (Again c n b (is then r))) _ h1.1 in
      let h3 = every_parts R (places n (Loop c n b (is then r))) _ h2.1 in (
        each_test c (round c n b) Done (is then r) h1.0,
        each b (Again c n b (is then r)) h2.0,
        each n (Loop c n b (is then r)) h3.0,
        each is r h3.1,
      )
  each (Again c n b is) r h =
      let h1 = every_parts R (places n (Loop c n b (is then r))) _ h in let h2 =
      every_parts R (test_places c (round c n b) Done (is then r)) _ h1.1 in
      let h3 = every_parts R (places b (Again c n b (is then r))) _ h2.1 in (
        each_test c (round c n b) Done (is then r) h2.0,
        each b (Again c n b (is then r)) h3.0,
        each n (Loop c n b (is then r)) h1.0,
        each is r h3.1,
      )
  each (DoLoop c b is) r h =
      let h1 = every_parts R (places b (DoAgain c b (is then r))) _ h in let h2 =
      every_parts R (test_places c (do_round c b) Done (is then r)) _ h1.1 in
      (each_test c (do_round c b) Done (is then r) h2.0, each b (DoAgain c b (is then r)) h1.0, each is r h2.1)
  each (DoAgain c b is) r h =
      let h1 = every_parts R (test_places c (do_round c b) Done (is then r)) _ h in let h2 =
      every_parts R (places b (DoAgain c b (is then r))) _ h1.1 in
      (each_test c (do_round c b) Done (is then r) h1.0, each b (DoAgain c b (is then r)) h2.0, each is r h2.1)
  each (Enter vs ws m is) r h = (h.0, each is r h.1)
  each (Leave v vs a m is) r h = (h.0, each is r h.1)
  each (Exit v vs d m is) r h = (h.0, each is r h.1)

  -- items before items before others
  each_then : (c d r : Items) → Each c (d then r) → Each d r → Each (c then d) r
  each_then Done d r h k = k
  each_then (Do a m is) d r h k = (rw (then_then is d r) h.0, each_then is d r h.1 k)
  each_then (Close ps ds m is) d r h k = (rw (then_then is d r) h.0, each_then is d r h.1 k)
  each_then (If c x y is) d r h k =
      (rw (then_then is d r) h.0, rw (then_then is d r) h.1, rw (then_then is d r) h.2, each_then is d r h.3 k)
  each_then (Loop c n b is) d r h k =
      (rw (then_then is d r) h.0, rw (then_then is d r) h.1, rw (then_then is d r) h.2, each_then is d r h.3 k)
  each_then (Again c n b is) d r h k =
      (rw (then_then is d r) h.0, rw (then_then is d r) h.1, rw (then_then is d r) h.2, each_then is d r h.3 k)
  each_then (DoLoop c b is) d r h k = (rw (then_then is d r) h.0, rw (then_then is d r) h.1, each_then is d r h.2 k)
  each_then (DoAgain c b is) d r h k = (rw (then_then is d r) h.0, rw (then_then is d r) h.1, each_then is d r h.2 k)
  each_then (Enter vs ws m is) d r h k = (rw (then_then is d r) h.0, each_then is d r h.1 k)
  each_then (Leave v vs a m is) d r h k = (rw (then_then is d r) h.0, each_then is d r h.1 k)
  each_then (Exit v vs e m is) d r h k = (rw (then_then is d r) h.0, each_then is d r h.1 k)

  -- an opened list, with all places after it
  abbrev pub Front : Items → Type 0
  Front o = R o × Each o Done

  each_ask : (c : Test) (x y r : Items) → EachTest c x y r → Each x r → Each y r → Each r Done → Front (ask c x y r)
  each_ask (Ask a m) x y r h hx hy hr = (h, (rw (then_done r) h, rw (then_done r) hx, rw (then_done r) hy, hr))
  each_ask (Not c) x y r h hx hy hr = each_ask c y x r h hy hx hr
  each_ask (Both c d) x y r h hx hy hr = each_ask c (If d x y Done) y r h.0 (h.1, hx, hy, tt) hy hr
  each_ask (Either c d) x y r h hx hy hr = each_ask c x (If d x y Done) r h.0 hx (h.1, hx, hy, tt) hr

  -- a round of a loop
  each_round : (c : Test) (n b r : Items) → EachTest c (round c n b) Done r → Each b (Again c n b r)
      → Each n (Loop c n b r) → Each (round c n b) r
  each_round c n b r h hb hn = each_then b (Again c n b Done) r hb (h, hb, hn, tt)

  each_do_round : (c : Test) (b r : Items) → EachTest c (do_round c b) Done r → Each b (DoAgain c b r)
      → Each (do_round c b) r
  each_do_round c b r h hb = each_then b (DoAgain c b Done) r hb (h, hb, tt)

  each_loop : (c : Test) (n b r : Items) → EachTest c (round c n b) Done r → Each b (Again c n b r)
      → Each n (Loop c n b r) → Each r Done → Front (ask c (round c n b) Done r)
  each_loop c n b r h hb hn hr = each_ask c (round c n b) Done r h (each_round c n b r h hb hn) tt hr

  each_do : (c : Test) (b r : Items) → EachTest c (do_round c b) Done r → Each b (DoAgain c b r) → Each r Done
      → Front (ask c (do_round c b) Done r)
  each_do c b r h hb hr = each_ask c (do_round c b) Done r h (each_do_round c b r h hb) tt hr

  pub whole : (is r : Items) → Each is r → Each r Done → Each (is then r) Done
  whole is r h hr = each_then is r Done (rw (then_done r) h) hr

  each_open : (is r o : Items) → Each is r → Each r Done → Front o → Front (open_before is r o)
  each_open Done r o h hr ho = ho
  each_open (Do a m is) r o h hr ho = (h.0, (rw (then_done (is then r)) h.0, whole is r h.1 hr))
  each_open (Close ps ds m is) r o h hr ho = (h.0, (rw (then_done (is then r)) h.0, whole is r h.1 hr))
  each_open (If c x y is) r o h hr ho = each_ask c x y (is then r) h.0 h.1 h.2 (whole is r h.3 hr)
  each_open (Loop c n b is) r o h hr ho = each_loop c n b (is then r) h.0 h.1 h.2 (whole is r h.3 hr)
  each_open (Again c n b is) r o h hr ho =
      let q = is then r in let hq = whole is r h.3 hr in
      each_open n (Loop c n b q) (ask c (round c n b) Done q) h.2 (rw (then_done q) (h.0, h.1, h.2, hq))
      (each_loop c n b q h.0 h.1 h.2 hq)
  each_open (DoLoop c b is) r o h hr ho =
      let q = is then r in let hq = whole is r h.2 hr in
      each_open b (DoAgain c b q) (ask c (do_round c b) Done q) h.1 (rw (then_done q) (h.0, h.1, hq))
      (each_do c b q h.0 h.1 hq)
  each_open (DoAgain c b is) r o h hr ho = each_do c b (is then r) h.0 h.1 (whole is r h.2 hr)
  each_open (Enter vs ws m is) r o h hr ho = (h.0, (rw (then_done (is then r)) h.0, whole is r h.1 hr))
  each_open (Leave v vs a m is) r o h hr ho = (h.0, (rw (then_done (is then r)) h.0, whole is r h.1 hr))
  each_open (Exit v vs d m is) r o h hr ho = (h.0, (rw (then_done (is then r)) h.0, whole is r h.1 hr))

  -- the front of pending items, all of whose places are known
  pub each_opened : (c : Items) → R Done → Each c Done → Front (opened c)
  each_opened c d h = each_open c Done Done h tt (d, tt)

  -- R at each place of pending items
  abbrev After : Items → Type 0
  After c = Each c Done

  rest_after : (is : Items) → After is → After (rest_of is)
  rest_after Done h = tt
  rest_after (Do a m is) h = h.1
  rest_after (Close ps ds m is) h = h.1
  rest_after (If c x y is) h = h.3
  rest_after (Loop c n b is) h = h.3
  rest_after (Again c n b is) h = h.3
  rest_after (DoLoop c b is) h = h.2
  rest_after (DoAgain c b is) h = h.2
  rest_after (Enter vs ws m is) h = h.1
  rest_after (Leave v vs a m is) h = h.1
  rest_after (Exit v vs d m is) h = h.1

  pub each_after : (is : Items) → Each is Done → Each (after_again is) Done
  each_after = after_kept After rest_after

  pub each_from : (is : Items) → Each is Done → Each (from_again is) Done
  each_from = from_kept After rest_after

  pub each_exit : (is : Items) → Each is Done → Each (from_exit is) Done
  each_exit = exit_kept After rest_after

  -- after an act
  pub each_followed : (a : Act) (is : Items) → Each is Done → Each (followed_by a is) Done
  each_followed (SetPtr to from) is h = h
  each_followed (SetData to from) is h = h
  each_followed (Free p) is h = h
  each_followed Break is h = each_after is h
  each_followed Continue is h = each_from is h
  each_followed _ is h = tt

  -- The places after each place

  tests_after : (c : Test) (x y r : Items) → EachTest c x y r → Each x r → Each y r → Each r Done
      → Every After (test_places c x y r)
  tests_after (Ask a m) x y r h hx hy hr = ((rw (then_done r) h, rw (then_done r) hx, rw (then_done r) hy, hr), tt)
  tests_after (Not c) x y r h hx hy hr = tests_after c y x r h hy hx hr
  tests_after (Both c d) x y r h hx hy hr =
      every_append After (test_places c (If d x y Done) y r) _
      (tests_after c (If d x y Done) y r h.0 (h.1, hx, hy, tt) hy hr) (tests_after d x y r h.1 hx hy hr)
  tests_after (Either c d) x y r h hx hy hr =
      every_append After (test_places c x (If d x y Done) r) _
      (tests_after c x (If d x y Done) r h.0 hx (h.1, hx, hy, tt) hr) (tests_after d x y r h.1 hx hy hr)

  pub places_after : (is r : Items) → Each is r → Each r Done → Every After (places is r)
  places_after Done r h hr = tt
  places_after (Do a m is) r h hr = ((rw (then_done (is then r)) h.0, whole is r h.1 hr), places_after is r h.1 hr)
  places_after (Close ps ds m is) r h hr =
      ((rw (then_done (is then r)) h.0, whole is r h.1 hr), places_after is r h.1 hr)
  places_after (If c x y is) r h hr =
      let q = is then r in let hq = whole is r h.3 hr in
      every_append After (test_places c x y q) _ (tests_after c x y q h.0 h.1 h.2 hq)
      (every_append After (places x q) _ (places_after x q h.1 hq)
      (every_append After (places y q) _ (places_after y q h.2 hq) (places_after is r h.3 hr)))
  places_after (Loop c n b is) r h hr =
      let q = is then r in let hq = whole is r h.3 hr in
      every_append After (test_places c (round c n b) Done q) _
      (tests_after c (round c n b) Done q h.0 (each_round c n b q h.0 h.1 h.2) tt hq)
      (every_append After (places b (Again c n b q)) _
      (places_after b (Again c n b q) h.1 (rw (then_done q) (h.0, h.1, h.2, hq)))
      (every_append After (places n (Loop c n b q)) _
      (places_after n (Loop c n b q) h.2 (rw (then_done q) (h.0, h.1, h.2, hq))) (places_after is r h.3 hr)))
  places_after (Again c n b is) r h hr =
      let q = is then r in let hq = whole is r h.3 hr in
      every_append After (places n (Loop c n b q)) _
      (places_after n (Loop c n b q) h.2 (rw (then_done q) (h.0, h.1, h.2, hq)))
      (every_append After (test_places c (round c n b) Done q) _
      (tests_after c (round c n b) Done q h.0 (each_round c n b q h.0 h.1 h.2) tt hq)
      (every_append After (places b (Again c n b q)) _
      (places_after b (Again c n b q) h.1 (rw (then_done q) (h.0, h.1, h.2, hq))) (places_after is r h.3 hr)))
  places_after (DoLoop c b is) r h hr =
      let q = is then r in let hq = whole is r h.2 hr in
      every_append After (places b (DoAgain c b q)) _
      (places_after b (DoAgain c b q) h.1 (rw (then_done q) (h.0, h.1, hq)))
      (every_append After (test_places c (do_round c b) Done q) _
      (tests_after c (do_round c b) Done q h.0 (each_do_round c b q h.0 h.1) tt hq) (places_after is r h.2 hr))
  places_after (DoAgain c b is) r h hr =
      let q = is then r in let hq = whole is r h.2 hr in
      every_append After (test_places c (do_round c b) Done q) _
      (tests_after c (do_round c b) Done q h.0 (each_do_round c b q h.0 h.1) tt hq)
      (every_append After (places b (DoAgain c b q)) _
      (places_after b (DoAgain c b q) h.1 (rw (then_done q) (h.0, h.1, hq))) (places_after is r h.2 hr))
  places_after (Enter vs ws m is) r h hr =
      ((rw (then_done (is then r)) h.0, whole is r h.1 hr), places_after is r h.1 hr)
  places_after (Leave v vs a m is) r h hr =
      ((rw (then_done (is then r)) h.0, whole is r h.1 hr), places_after is r h.1 hr)
  places_after (Exit v vs d m is) r h hr =
      ((rw (then_done (is then r)) h.0, whole is r h.1 hr), places_after is r h.1 hr)

-- Where T holds of the exit and of each place, it holds of each location to which a step leads.
module _ (T : ℕ → Type 0) (at : Items → ℕ) where
  abbrev There : Items → Type 0
  There c = T (at c)

  act_leads : (a : Act) (is : Items) → There Done → Each There is Done → There (opened (followed_by a is))
  act_leads (SetPtr to from) is d h = (each_opened There is d h).0
  act_leads (SetData to from) is d h = (each_opened There is d h).0
  act_leads (Free p) is d h = (each_opened There is d h).0
  act_leads Break is d h = (each_opened There (after_again is) d (each_after There is h)).0
  act_leads Continue is d h = (each_opened There (from_again is) d (each_from There is h)).0
  act_leads _ is d h = d

  place_leads : (c : Items) → There Done → Each There c Done → PlaceLeads T at c
  place_leads (Do a m is) d h = act_leads a is d h.1
  place_leads (Close ps ds m is) d h = (each_opened There is d h.1).0
  place_leads (If (Ask a m) x y is) d h =
      let hx : Each There x is = subst (Each There x) (then_done is) h.1 in
      let hy : Each There y is = subst (Each There y) (then_done is) h.2 in (
        (each_opened There (x then is) d (whole There x is hx h.3)).0,
        (each_opened There (y then is) d (whole There y is hy h.3)).0,
      )
  place_leads (Enter vs ws m is) d h = (each_opened There is d h.1).0
  place_leads (Leave v vs a m is) d h = (each_opened There (from_exit is) d (each_exit There is h.1)).0
  place_leads (Exit v vs e m is) d h = (each_opened There is d h.1).0
  place_leads _ d h = tt

  all_lead : (cs : List Items) → There Done → Every (λ c. Each There c Done) cs → Every (PlaceLeads T at) cs
  all_lead [] d h = tt
  all_lead (c ∷ cs) d h = (place_leads c d h.0, all_lead cs d h.1)

  pub places_lead : (is : Items) → There Done → Every There (places is Done) → Every (PlaceLeads T at) (places is Done)
  places_lead is d h = all_lead (places is Done) d (places_after There is Done (each There is Done h) tt)
