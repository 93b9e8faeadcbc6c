-- The items of a statement stand before whatever comes, begin and end their calls, and have no Again of their own.
use Rattle.std.proofs.Common.{◌≡◌, ℕ, suc, List, map, refl, sym, ap, ◌∙◌}
use Rattle.c_types.specs.declared.program.Func.{Func}
use Rattle.c_types.specs.declared.program.Stmt.{Stmt}
use Rattle.c_types.specs.Control.{Items, Done, Exit, after_again, all_before, closes}
use Rattle.c_types.specs.Control.{items_by, body_within}
use Rattle.c_types.proofs.Composing.{Composes, closes_composed, all_composed, body_composed}
use Rattle.c_types.proofs.Standing.{StandsBefore, standing as stands_before}
use Rattle.c_cfg.proofs.Calls.OpenCalls.{open_vars, Closed}

-- what stands before other items
pub record IsStanding (f : Items → Items) : Type 0 where
  pub stands : StandsBefore f
  pub opens : (n : ℕ) (r : Items) → open_vars n (f r) ≡ open_vars n r
  pub again : (r : Items) → after_again (f r) ≡ after_again r

-- what it is before nothing is closed
pub standing_closed : (f : Items → Items) → IsStanding f → Closed (f Done)
standing_closed f h n r = ap (open_vars n) (sym (h.stands Done r)) ∙ h.opens n r

pub standing : Composes IsStanding
standing = record {
  none = record { stands = λ c r. refl; opens = λ n r. refl; again = λ r. refl };
  both = λ f g h k. record {
    stands = stands_before.both f g h.stands k.stands;
    opens = λ n r. h.opens n (g r) ∙ k.opens n r;
    again = λ r. h.again (g r) ∙ k.again r;
  };
  act = λ a m. record { stands = λ c r. refl; opens = λ n r. refl; again = λ r. refl };
  close = λ ps ds m. record { stands = λ c r. refl; opens = λ n r. refl; again = λ r. refl };
  branch = λ t f g h k. record { stands = λ c r. refl; opens = λ n r. refl; again = λ r. refl };
  loop = λ t f g h k. record { stands = λ c r. refl; opens = λ n r. refl; again = λ r. refl };
  do_loop = λ t f h. record { stands = λ c r. refl; opens = λ n r. refl; again = λ r. refl };
  leave = λ g value m. record { stands = λ c r. refl; opens = λ n r. refl; again = λ r. refl };
  call = λ g args to' m f h. record {
    stands = stands_before.call g args to' m f h.stands;
    opens = λ n r. h.opens (suc n) (Exit g.result g.params to' m r);
    again = λ r. h.again (Exit g.result g.params to' m r);
  };
}

pub closes_stand : (ps ds : List ℕ) (m : ℕ) → IsStanding (closes ps ds m)
closes_stand = closes_composed IsStanding standing

pub all_stand : (funcs : List Func) (inside : List Stmt → Items → Items) → ((ss : List Stmt) → IsStanding (inside ss))
    → (ss : List Stmt) → IsStanding (all_before (map (items_by funcs inside) ss))
all_stand = all_composed IsStanding standing

pub within_stands : (funcs : List Func) (n : ℕ) (ss : List Stmt) → IsStanding (body_within funcs n ss)
within_stands = body_composed IsStanding standing
