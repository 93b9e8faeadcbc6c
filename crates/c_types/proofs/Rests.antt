-- What the items after the first keep is kept by what `break`, `continue` and the `return` of a function leave.
use Rattle.std.proofs.Common.{ℕ, zero, suc}
use Rattle.c_types.specs.Control.{Items, Done, Do, Close, If, Loop, Again, DoLoop, DoAgain, Enter, Leave, Exit}
use Rattle.c_types.specs.Control.{after_again, from_again, exit_after, from_exit}

-- the items after the first
abbrev pub rest_of : Items → Items
rest_of Done = Done
rest_of (Do a m is) = is
rest_of (Close ps ds m is) = is
rest_of (If c x y is) = is
rest_of (Loop c n b is) = is
rest_of (Again c n b is) = is
rest_of (DoLoop c b is) = is
rest_of (DoAgain c b is) = is
rest_of (Enter vs ws m is) = is
rest_of (Leave v vs a m is) = is
rest_of (Exit v vs d m is) = is

module _ (P : Items → Type 0) (rests : (is : Items) → P is → P (rest_of is)) where
  pub after_kept : (is : Items) → P is → P (after_again is)
  after_kept Done h = h
  after_kept (Do a m is) h = after_kept is (rests (Do a m is) h)
  after_kept (Close ps ds m is) h = after_kept is (rests (Close ps ds m is) h)
  after_kept (If c x y is) h = after_kept is (rests (If c x y is) h)
  after_kept (Loop c n b is) h = after_kept is (rests (Loop c n b is) h)
  after_kept (Again c n b is) h = rests (Again c n b is) h
  after_kept (DoLoop c b is) h = after_kept is (rests (DoLoop c b is) h)
  after_kept (DoAgain c b is) h = rests (DoAgain c b is) h
  after_kept (Enter vs ws m is) h = after_kept is (rests (Enter vs ws m is) h)
  after_kept (Leave v vs a m is) h = after_kept is (rests (Leave v vs a m is) h)
  after_kept (Exit v vs d m is) h = after_kept is (rests (Exit v vs d m is) h)

  pub from_kept : (is : Items) → P is → P (from_again is)
  from_kept Done h = h
  from_kept (Do a m is) h = from_kept is (rests (Do a m is) h)
  from_kept (Close ps ds m is) h = from_kept is (rests (Close ps ds m is) h)
  from_kept (If c x y is) h = from_kept is (rests (If c x y is) h)
  from_kept (Loop c n b is) h = from_kept is (rests (Loop c n b is) h)
  from_kept (Again c n b is) h = h
  from_kept (DoLoop c b is) h = from_kept is (rests (DoLoop c b is) h)
  from_kept (DoAgain c b is) h = h
  from_kept (Enter vs ws m is) h = from_kept is (rests (Enter vs ws m is) h)
  from_kept (Leave v vs a m is) h = from_kept is (rests (Leave v vs a m is) h)
  from_kept (Exit v vs d m is) h = from_kept is (rests (Exit v vs d m is) h)

  exit_after_kept : (n : ℕ) (is : Items) → P is → P (exit_after n is)
  exit_after_kept n Done h = h
  exit_after_kept n (Do a m is) h = exit_after_kept n is (rests (Do a m is) h)
  exit_after_kept n (Close ps ds m is) h = exit_after_kept n is (rests (Close ps ds m is) h)
  exit_after_kept n (If c x y is) h = exit_after_kept n is (rests (If c x y is) h)
  exit_after_kept n (Loop c k b is) h = exit_after_kept n is (rests (Loop c k b is) h)
  exit_after_kept n (Again c k b is) h = exit_after_kept n is (rests (Again c k b is) h)
  exit_after_kept n (DoLoop c b is) h = exit_after_kept n is (rests (DoLoop c b is) h)
  exit_after_kept n (DoAgain c b is) h = exit_after_kept n is (rests (DoAgain c b is) h)
  exit_after_kept n (Enter vs ws m is) h = exit_after_kept (suc n) is (rests (Enter vs ws m is) h)
  exit_after_kept n (Leave v vs a m is) h = exit_after_kept n is (rests (Leave v vs a m is) h)
  exit_after_kept zero (Exit v vs d m is) h = h
  exit_after_kept (suc n) (Exit v vs d m is) h = exit_after_kept n is (rests (Exit v vs d m is) h)

  pub exit_kept : (is : Items) → P is → P (from_exit is)
  exit_kept is h = exit_after_kept 0 is h
