-- Items that stand before others: how they open, and that a statement's items stand before whatever comes.
use Rattle.std.proofs.Common.{◌≡◌, ℕ, List, map, refl, ap, ◌∙◌}
use Rattle.c_types.specs.declared.program.Func.{Func}
use Rattle.c_types.specs.declared.program.Stmt.{Stmt}
use Rattle.c_types.specs.Control.{Items, Done, Do, Close, If, Loop, Again, DoLoop, DoAgain, Enter, Leave, Exit}
use Rattle.c_types.specs.Control.{◌then◌, ask, round, do_round, open_before, all_before, items_by, body_within}
use Rattle.c_types.proofs.Composing.{Composes, stmt_within, all_within}

pub then_then : (c d r : Items) → (c then d) then r ≡ c then (d then r)
then_then Done d r = refl
then_then (Do a m is) d r = ap (Do a m) (then_then is d r)
then_then (Close ps ds m is) d r = ap (Close ps ds m) (then_then is d r)
then_then (If c x y is) d r = ap (If c x y) (then_then is d r)
then_then (Loop c n b is) d r = ap (Loop c n b) (then_then is d r)
then_then (Again c n b is) d r = ap (Again c n b) (then_then is d r)
then_then (DoLoop c b is) d r = ap (DoLoop c b) (then_then is d r)
then_then (DoAgain c b is) d r = ap (DoAgain c b) (then_then is d r)
then_then (Enter vs ws m is) d r = ap (Enter vs ws m) (then_then is d r)
then_then (Leave v vs a m is) d r = ap (Leave v vs a m) (then_then is d r)
then_then (Exit v vs e m is) d r = ap (Exit v vs e m) (then_then is d r)

-- some items that stand before others open before what those open to
pub open_then : (c d r o : Items) → open_before (c then d) r o ≡ open_before c (d then r) (open_before d r o)
open_then Done d r o = refl
open_then (Do a m is) d r o = ap (Do a m) (then_then is d r)
open_then (Close ps ds m is) d r o = ap (Close ps ds m) (then_then is d r)
open_then (If c x y is) d r o = ap (λ z. ask c x y z) (then_then is d r)
open_then (Loop c n b is) d r o = ap (λ z. ask c (round c n b) Done z) (then_then is d r)
open_then (Again c n b is) d r o =
    ap (λ z. open_before n (Loop c n b z) (ask c (round c n b) Done z)) (then_then is d r)
open_then (DoLoop c b is) d r o =
    ap (λ z. open_before b (DoAgain c b z) (ask c (do_round c b) Done z)) (then_then is d r)
open_then (DoAgain c b is) d r o = ap (λ z. ask c (do_round c b) Done z) (then_then is d r)
open_then (Enter vs ws m is) d r o = ap (Enter vs ws m) (then_then is d r)
open_then (Leave v vs a m is) d r o = ap (Leave v vs a m) (then_then is d r)
open_then (Exit v vs e m is) d r o = ap (Exit v vs e m) (then_then is d r)

-- Statements

-- a statement's items stand before whatever comes
abbrev pub StandsBefore : (Items → Items) → Type 0
StandsBefore f = (c r : Items) → f (c then r) ≡ f c then r

pub standing : Composes StandsBefore
standing = record {
  none = λ c r. refl;
  both = λ f g h k c r. ap f (k c r) ∙ h (g c) r;
  act = λ a m c r. refl;
  close = λ ps ds m c r. refl;
  branch = λ t f g h k c r. refl;
  loop = λ t f g h k c r. refl;
  do_loop = λ t f h c r. refl;
  leave = λ g value m c r. refl;
  call = λ g args to' m f h c r. ap (Enter g.params args m) (h (Exit g.result g.params to' m c) r);
}

pub stmt_stands : (funcs : List Func) (n : ℕ) (s : Stmt) → StandsBefore (items_by funcs (body_within funcs n) s)
stmt_stands = stmt_within StandsBefore standing

pub all_stand : (funcs : List Func) (n : ℕ) (ss : List Stmt)
    → StandsBefore (all_before (map (items_by funcs (body_within funcs n)) ss))
all_stand = all_within StandsBefore standing
