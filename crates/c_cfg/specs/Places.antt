-- The places of a program: its pending lists that begin with one of its acts, atoms, Closes, Enters, Leaves or Exits.
use Rattle.std.specs.Prelude.{ℕ, List, [], ◌∷◌, ◌++◌}
use Rattle.c_types.specs.Control.{Items, Done, Do, Close, If, Loop, Again, DoLoop, DoAgain, Test, Ask, Not, Both}
use Rattle.c_types.specs.Control.{Either, Enter, Leave, Exit, ◌then◌, ask, round, do_round}

-- of a test with these sides that stands before others: one place for each atom
abbrev pub test_places : Test → Items → Items → Items → List Items
test_places (Ask a m) x y r = If (Ask a m) x y r ∷ []
test_places (Not c) x y r = test_places c y x r
test_places (Both c d) x y r = test_places c (If d x y Done) y r ++ test_places d x y r
test_places (Either c d) x y r = test_places c x (If d x y Done) r ++ test_places d x y r

-- Of some items that stand before others, whether they can be reached or not. (No program has an Again among its own
-- items.)
abbrev pub places : Items → Items → List Items
places Done r = []
places (Do a m is) r = Do a m (is then r) ∷ places is r
places (Close ps ds m is) r = Close ps ds m (is then r) ∷ places is r
places (If c x y is) r = test_places c x y (is then r)
    ++ (places x (is then r) ++ (places y (is then r) ++ places is r))
places (Loop c n b is) r =
    test_places c (round c n b) Done (is then r)
    ++ (places b (Again c n b (is then r)) ++ (places n (Loop c n b (is then r)) ++ places is r))
places (Again c n b is) r =
    places n (Loop c n b (is then r))
    ++ (test_places c (round c n b) Done (is then r) ++ (places b (Again c n b (is then r)) ++ places is r))
places (DoLoop c b is) r = places b (DoAgain c b (is then r))
    ++ (test_places c (do_round c b) Done (is then r) ++ places is r)
places (DoAgain c b is) r = test_places c (do_round c b) Done (is then r)
    ++ (places b (DoAgain c b (is then r)) ++ places is r)
places (Enter vs ws m is) r = Enter vs ws m (is then r) ∷ places is r
places (Leave v vs a m is) r = Leave v vs a m (is then r) ∷ places is r
places (Exit v vs d m is) r = Exit v vs d m (is then r) ∷ places is r

-- the loop heads: the places at which the step of the first atom of a loop's condition begins
abbrev pub heads : Items → Items → List Items
heads Done r = []
heads (Do a m is) r = heads is r
heads (Close ps ds m is) r = heads is r
heads (If c x y is) r = heads x (is then r) ++ (heads y (is then r) ++ heads is r)
heads (Loop c n b is) r =
    ask c (round c n b) Done (is then r)
    ∷ (heads b (Again c n b (is then r)) ++ (heads n (Loop c n b (is then r)) ++ heads is r))
heads (Again c n b is) r =
    ask c (round c n b) Done (is then r)
    ∷ (heads n (Loop c n b (is then r)) ++ (heads b (Again c n b (is then r)) ++ heads is r))
heads (DoLoop c b is) r = ask c (do_round c b) Done (is then r) ∷ (heads b (DoAgain c b (is then r)) ++ heads is r)
heads (DoAgain c b is) r = ask c (do_round c b) Done (is then r) ∷ (heads b (DoAgain c b (is then r)) ++ heads is r)
heads (Enter vs ws m is) r = heads is r
heads (Leave v vs a m is) r = heads is r
heads (Exit v vs d m is) r = heads is r

-- The items with other marks. Where each act, atom, Close, Enter, Leave and Exit has a mark of its own, two equal
-- pending lists are the same occurrences in the text, and in the same calls.

abbrev pub remark_test : (ℕ → ℕ) → Test → Test
remark_test f (Ask a m) = Ask a (f m)
remark_test f (Not c) = Not (remark_test f c)
remark_test f (Both c d) = Both (remark_test f c) (remark_test f d)
remark_test f (Either c d) = Either (remark_test f c) (remark_test f d)

abbrev pub remark : (ℕ → ℕ) → Items → Items
remark f Done = Done
remark f (Do a m is) = Do a (f m) (remark f is)
remark f (Close ps ds m is) = Close ps ds (f m) (remark f is)
remark f (If c x y is) = If (remark_test f c) (remark f x) (remark f y) (remark f is)
remark f (Loop c n b is) = Loop (remark_test f c) (remark f n) (remark f b) (remark f is)
remark f (Again c n b is) = Again (remark_test f c) (remark f n) (remark f b) (remark f is)
remark f (DoLoop c b is) = DoLoop (remark_test f c) (remark f b) (remark f is)
remark f (DoAgain c b is) = DoAgain (remark_test f c) (remark f b) (remark f is)
remark f (Enter vs ws m is) = Enter vs ws (f m) (remark f is)
remark f (Leave v vs a m is) = Leave v vs a (f m) (remark f is)
remark f (Exit v vs d m is) = Exit v vs d (f m) (remark f is)
