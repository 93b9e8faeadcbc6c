-- Items of statements hold an Exit for each Enter, and no Again, so what looks for the Exit of a call or for the end of
-- a round passes them. What they close is hidden where they stand within a call that is still to come.
use Rattle.std.proofs.Common.{◌≡◌, ℕ, suc, List, Option, Some, None, map, length, refl, ◌∙◌}
use Rattle.c_types.specs.declared.program.Arg.{Arg}
use Rattle.c_types.specs.declared.program.Dest.{Dest}
use Rattle.c_types.specs.declared.program.Func.{Func}
use Rattle.c_types.specs.declared.program.Stmt.{Stmt}
use Rattle.c_types.specs.Control.{Items, Exit, after_again, from_again, exit_after, from_exit, closed_after, all_before}
use Rattle.c_types.specs.Control.{closes, call_items, items_by, body_within, items_of}
use Rattle.c_types.proofs.Composing.{Composes, closes_composed, body_composed, all_within}

-- the items hold an Exit for each Enter
abbrev pub OwnsExits : (Items → Items) → Type 0
OwnsExits f = (n : ℕ) (r : Items) → exit_after n (f r) ≡ exit_after n r

exits : Composes OwnsExits
exits = record {
  none = λ n r. refl;
  both = λ f g h k n r. h n (g r) ∙ k n r;
  act = λ a m n r. refl;
  close = λ ps ds m n r. refl;
  branch = λ c f g h k n r. refl;
  loop = λ c f g h k n r. refl;
  do_loop = λ c f h n r. refl;
  leave = λ g value m n r. refl;
  call = λ g args to' m f h n r. h (suc n) (Exit g.result g.params to' m r);
}

pub closes_own : (ps ds : List ℕ) (m : ℕ) → OwnsExits (closes ps ds m)
closes_own = closes_composed OwnsExits exits

-- the Exit that a function leaves by stands after the rest of its body
pub leaves_past : (funcs : List Func) (ss : List Stmt) (r : Items)
    → from_exit (all_before (map (items_of funcs) ss) r) ≡ from_exit r
leaves_past funcs ss r = all_within OwnsExits exits funcs (length funcs) ss 0 r

-- the items hold no Again
pub record HasNoAgain (f : Items → Items) : Type 0 where
  pub after : (r : Items) → after_again (f r) ≡ after_again r
  pub from : (r : Items) → from_again (f r) ≡ from_again r

pub again : Composes HasNoAgain
again = record {
  none = record { after = λ r. refl; from = λ r. refl };
  both = λ f g h k. record { after = λ r. h.after (g r) ∙ k.after r; from = λ r. h.from (g r) ∙ k.from r };
  act = λ a m. record { after = λ r. refl; from = λ r. refl };
  close = λ ps ds m. record { after = λ r. refl; from = λ r. refl };
  branch = λ c f g h k. record { after = λ r. refl; from = λ r. refl };
  loop = λ c f g h k. record { after = λ r. refl; from = λ r. refl };
  do_loop = λ c f h. record { after = λ r. refl; from = λ r. refl };
  leave = λ g value m. record { after = λ r. refl; from = λ r. refl };
  call = λ g args to' m f h. record {
    after = λ r. h.after (Exit g.result g.params to' m r);
    from = λ r. h.from (Exit g.result g.params to' m r);
  };
}

pub closes_no_again : (ps ds : List ℕ) (m : ℕ) → HasNoAgain (closes ps ds m)
closes_no_again = closes_composed HasNoAgain again

pub all_no_again : (funcs : List Func) (n : ℕ) (ss : List Stmt)
    → HasNoAgain (all_before (map (items_by funcs (body_within funcs n)) ss))
all_no_again = all_within HasNoAgain again

-- within a call that is still to come the items close nothing that counts
abbrev pub IsHidden : (Items → Items) → Type 0
IsHidden f = (own : List ℕ → List ℕ → List ℕ) (n : ℕ) (r : Items)
    → closed_after own (suc n) (f r) ≡ closed_after own (suc n) r

hidden : Composes IsHidden
hidden = record {
  none = λ own n r. refl;
  both = λ f g h k own n r. h own n (g r) ∙ k own n r;
  act = λ a m own n r. refl;
  close = λ ps ds m own n r. refl;
  branch = λ c f g h k own n r. refl;
  loop = λ c f g h k own n r. refl;
  do_loop = λ c f h own n r. refl;
  leave = λ g value m own n r. refl;
  call = λ g args to' m f h own n r. h own (suc n) (Exit g.result g.params to' m r);
}

-- so a call that is still to come closes nothing
pub call_hides : (funcs : List Func) (deep : ℕ) (o : Option Func) (args : List Arg) (to' : Option Dest) (m : ℕ)
    (own : List ℕ → List ℕ → List ℕ) (r : Items)
    → closed_after own 0 (call_items (body_within funcs deep) o args to' m r) ≡ closed_after own 0 r
call_hides funcs deep None args to' m own r = refl
call_hides funcs deep (Some g) args to' m own r =
    body_composed IsHidden hidden funcs deep g.body own 0 (Exit g.result g.params to' m r)
