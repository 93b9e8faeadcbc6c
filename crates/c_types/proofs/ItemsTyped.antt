-- Opening, `break` and `continue` keep the acts of the items typed, and a well typed program begins with typed acts.
use Rattle.std.proofs.Common.{◌≡◌, true}
use Rattle.c_types.specs.Program.{Program}
use Rattle.c_types.specs.Program.{is_typed}
use Rattle.c_types.specs.Control.{Test, Ask, Not, Both, Either, Items, Done, Do, Close, If, Loop, Again, DoLoop}
use Rattle.c_types.specs.Control.{DoAgain, Enter, Leave, Exit, ◌then◌, ask, round, do_round, open_before, opened}
use Rattle.c_types.specs.Control.{after_again, from_again, from_exit}
use Rattle.c_types.specs.Control.{start_of}
use Rattle.c_types.specs.Fits.{ItemsFit}
use Rattle.c_types.proofs.Rests.{rest_of, after_kept, from_kept, exit_kept}
use Rattle.c_types.proofs.TypedComposing.{ComposesTyped, start_composed}

module _ (p : Program) where
  -- Opening

  pub then_fit : (is r : Items) → ItemsFit p is → ItemsFit p r → ItemsFit p (is then r)
  then_fit Done r fit rest = rest
  then_fit (Do a m is) r fit rest = (fit.0, then_fit is r fit.1 rest)
  then_fit (Close ps ds m is) r fit rest = then_fit is r fit rest
  then_fit (If c x y is) r fit rest = (fit.0, fit.1, then_fit is r fit.2 rest)
  then_fit (Loop c n b is) r fit rest = (fit.0, fit.1, then_fit is r fit.2 rest)
  then_fit (Again c n b is) r fit rest = (fit.0, fit.1, then_fit is r fit.2 rest)
  then_fit (DoLoop c b is) r fit rest = (fit.0, then_fit is r fit.1 rest)
  then_fit (DoAgain c b is) r fit rest = (fit.0, then_fit is r fit.1 rest)
  then_fit (Enter vs ws m is) r fit rest = (fit.0, then_fit is r fit.1 rest)
  then_fit (Leave v vs a m is) r fit rest = (fit.0, then_fit is r fit.1 rest)
  then_fit (Exit v vs d m is) r fit rest = (fit.0, then_fit is r fit.1 rest)

  ask_fit : (c : Test) (x y r : Items) → ItemsFit p x → ItemsFit p y → ItemsFit p r → ItemsFit p (ask c x y r)
  ask_fit (Ask a m) x y r yes_fit no_fit rest = (yes_fit, no_fit, rest)
  ask_fit (Not c) x y r yes_fit no_fit rest = ask_fit c y x r no_fit yes_fit rest
  ask_fit (Both c d) x y r yes_fit no_fit rest = ask_fit c (If d x y Done) y r (yes_fit, no_fit, tt) no_fit rest
  ask_fit (Either c d) x y r yes_fit no_fit rest = ask_fit c x (If d x y Done) r yes_fit (yes_fit, no_fit, tt) rest

  loop_fit : (c : Test) (n b r : Items) → ItemsFit p n → ItemsFit p b → ItemsFit p r
      → ItemsFit p (ask c (round c n b) Done r)
  loop_fit c n b r next body rest =
      ask_fit c (round c n b) Done r (then_fit b (Again c n b Done) body (next, body, tt)) tt rest

  do_loop_fit : (c : Test) (b r : Items) → ItemsFit p b → ItemsFit p r → ItemsFit p (ask c (do_round c b) Done r)
  do_loop_fit c b r body rest = ask_fit c (do_round c b) Done r (then_fit b (DoAgain c b Done) body (body, tt)) tt rest

  open_before_fit : (is r o : Items) → ItemsFit p is → ItemsFit p r → ItemsFit p o → ItemsFit p (open_before is r o)
  open_before_fit Done r o fit rest open_fit = open_fit
  open_before_fit (Do a m is) r o fit rest open_fit = (fit.0, then_fit is r fit.1 rest)
  open_before_fit (Close ps ds m is) r o fit rest open_fit = then_fit is r fit rest
  open_before_fit (If c x y is) r o fit rest open_fit = ask_fit c x y (is then r) fit.0 fit.1 (then_fit is r fit.2 rest)
  open_before_fit (Loop c n b is) r o fit rest open_fit =
      loop_fit c n b (is then r) fit.0 fit.1 (then_fit is r fit.2 rest)
  open_before_fit (Again c n b is) r o fit rest open_fit =
      let after : ItemsFit p (is then r) = then_fit is r fit.2 rest in
      open_before_fit n (Loop c n b (is then r)) (ask c (round c n b) Done (is then r)) fit.0 (fit.0, fit.1, after)
      (loop_fit c n b (is then r) fit.0 fit.1 after)
  open_before_fit (DoLoop c b is) r o fit rest open_fit =
      let after : ItemsFit p (is then r) = then_fit is r fit.1 rest in
      open_before_fit b (DoAgain c b (is then r)) (ask c (do_round c b) Done (is then r)) fit.0 (fit.0, after)
      (do_loop_fit c b (is then r) fit.0 after)
  open_before_fit (DoAgain c b is) r o fit rest open_fit = do_loop_fit c b (is then r) fit.0 (then_fit is r fit.1 rest)
  open_before_fit (Enter vs ws m is) r o fit rest open_fit = (fit.0, then_fit is r fit.1 rest)
  open_before_fit (Leave v vs a m is) r o fit rest open_fit = (fit.0, then_fit is r fit.1 rest)
  open_before_fit (Exit v vs d m is) r o fit rest open_fit = (fit.0, then_fit is r fit.1 rest)

  pub opened_fit : (is : Items) → ItemsFit p is → ItemsFit p (opened is)
  opened_fit is fit = open_before_fit is Done Done fit tt tt

  -- `break`, `continue`, and `return` of a function

  rest_fits : (is : Items) → ItemsFit p is → ItemsFit p (rest_of is)
  rest_fits Done h = tt
  rest_fits (Do a m is) h = h.1
  rest_fits (Close ps ds m is) h = h
  rest_fits (If c x y is) h = h.2
  rest_fits (Loop c n b is) h = h.2
  rest_fits (Again c n b is) h = h.2
  rest_fits (DoLoop c b is) h = h.1
  rest_fits (DoAgain c b is) h = h.1
  rest_fits (Enter vs ws m is) h = h.1
  rest_fits (Leave v vs a m is) h = h.1
  rest_fits (Exit v vs d m is) h = h.1

  pub after_fit : (is : Items) → ItemsFit p is → ItemsFit p (after_again is)
  after_fit = after_kept (ItemsFit p) rest_fits

  pub from_fit : (is : Items) → ItemsFit p is → ItemsFit p (from_again is)
  from_fit = from_kept (ItemsFit p) rest_fits

  pub exit_fit : (is : Items) → ItemsFit p is → ItemsFit p (from_exit is)
  exit_fit = exit_kept (ItemsFit p) rest_fits

  -- The items of statements

  -- items before which others fit fit with them
  abbrev FitsBefore : (Items → Items) → Type 0
  FitsBefore f = (r : Items) → ItemsFit p r → ItemsFit p (f r)

  fitting : ComposesTyped p FitsBefore
  fitting = record {
    none = λ r h. h;
    both = λ f g h k r rest. h (g r) (k r rest);
    act = λ a m fits r rest. (fits, rest);
    close = λ ps ds m hp hd r rest. rest;
    branch = λ c f g e h k r rest. (h Done tt, k Done tt, rest);
    loop = λ c f g e h k r rest. (h Done tt, k Done tt, rest);
    do_loop = λ c f e h r rest. (h Done tt, rest);
    leave = λ g value m fits r rest. (fits, rest);
    call = λ g args to' m f enters exits h r rest. (enters, h (Exit g.result g.params to' m r) (exits, rest));
  }

  pub start_fits : is_typed p ≡ true → ItemsFit p (start_of p)
  start_fits e = start_composed p FitsBefore fitting e Done tt
