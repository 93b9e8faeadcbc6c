-- The parameters of the calls that are open where items are pending: those of the pending Exits that end no call which
-- is still to come.
use Rattle.std.proofs.Common.{◌≡◌, ℕ, zero, suc, List, [], ◌++◌, refl, sym, ap, ◌∙◌}
use Rattle.c_types.specs.declared.program.VarRef.{VarRef}
use Rattle.c_types.specs.Control.{Items, Done, Do, Close, If, Loop, Again, DoLoop, DoAgain, Test, Ask, Not, Both}
use Rattle.c_types.specs.Control.{Either, Enter, Leave, Exit, ◌then◌, ask, after_again, from_again, exit_after}
use Rattle.c_cfg.specs.Places.{remark}
use Rattle.c_types.proofs.Standing.{then_then}
use Rattle.c_types.proofs.Turns.{then_done}

-- n calls are still to come
abbrev pub open_vars : ℕ → Items → List VarRef
open_vars n Done = []
open_vars n (Do a m is) = open_vars n is
open_vars n (Close ps ds m is) = open_vars n is
open_vars n (If c x y is) = open_vars n is
open_vars n (Loop c k b is) = open_vars n is
open_vars n (Again c k b is) = open_vars n is
open_vars n (DoLoop c b is) = open_vars n is
open_vars n (DoAgain c b is) = open_vars n is
open_vars n (Enter vs ws m is) = open_vars (suc n) is
open_vars n (Leave v vs a m is) = open_vars n is
open_vars zero (Exit v vs d m is) = vs ++ open_vars zero is
open_vars (suc n) (Exit v vs d m is) = open_vars n is

-- items that begin as many calls as they end, and end none that they do not begin
abbrev pub Closed : Items → Type 0
Closed b = (n : ℕ) (r : Items) → open_vars n (b then r) ≡ open_vars n r

pub closed_then : (b c : Items) → Closed b → Closed c → Closed (b then c)
closed_then b c h k n r = ap (open_vars n) (then_then b c r) ∙ h n (c then r) ∙ k n r

pub open_ask : (n : ℕ) (c : Test) (x y r : Items) → open_vars n (ask c x y r) ≡ open_vars n r
open_ask n (Ask a m) x y r = refl
open_ask n (Not c) x y r = open_ask n c y x r
open_ask n (Both c d) x y r = open_ask n c (If d x y Done) y r
open_ask n (Either c d) x y r = open_ask n c x (If d x y Done) r

pub from_open : (n : ℕ) (is : Items) → open_vars n (from_again is) ≡ open_vars n (after_again is)
from_open n Done = refl
from_open n (Do a m is) = from_open n is
from_open n (Close ps ds m is) = from_open n is
from_open n (If c x y is) = from_open n is
from_open n (Loop c k b is) = from_open n is
from_open n (Again c k b is) = refl
from_open n (DoLoop c b is) = from_open n is
from_open n (DoAgain c b is) = refl
from_open n (Enter vs ws m is) = from_open n is
from_open n (Leave v vs a m is) = from_open n is
from_open n (Exit v vs d m is) = from_open n is

pub exit_open : (n : ℕ) (is : Items) → open_vars zero (exit_after n is) ≡ open_vars n is
exit_open n Done = refl
exit_open n (Do a m is) = exit_open n is
exit_open n (Close ps ds m is) = exit_open n is
exit_open n (If c x y is) = exit_open n is
exit_open n (Loop c k b is) = exit_open n is
exit_open n (Again c k b is) = exit_open n is
exit_open n (DoLoop c b is) = exit_open n is
exit_open n (DoAgain c b is) = exit_open n is
exit_open n (Enter vs ws m is) = exit_open (suc n) is
exit_open n (Leave v vs a m is) = exit_open n is
exit_open zero (Exit v vs d m is) = refl
exit_open (suc n) (Exit v vs d m is) = exit_open n is

-- marks have no bearing

open_before : (f : ℕ → ℕ) (is r : Items) (n : ℕ) → open_vars n (remark f is then r) ≡ open_vars n (is then r)
open_before f Done r n = refl
open_before f (Do a m is) r n = open_before f is r n
open_before f (Close ps ds m is) r n = open_before f is r n
open_before f (If c x y is) r n = open_before f is r n
open_before f (Loop c k b is) r n = open_before f is r n
open_before f (Again c k b is) r n = open_before f is r n
open_before f (DoLoop c b is) r n = open_before f is r n
open_before f (DoAgain c b is) r n = open_before f is r n
open_before f (Enter vs ws m is) r n = open_before f is r (suc n)
open_before f (Leave v vs a m is) r n = open_before f is r n
open_before f (Exit v vs d m is) r zero = ap (λ us. vs ++ us) (open_before f is r zero)
open_before f (Exit v vs d m is) r (suc n) = open_before f is r n

pub open_remark : (f : ℕ → ℕ) (n : ℕ) (is : Items) → open_vars n (remark f is) ≡ open_vars n is
open_remark f n is = ap (open_vars n) (sym (then_done (remark f is))) ∙ open_before f is Done n
    ∙ ap (open_vars n) (then_done is)

pub closed_unmarked : (f : ℕ → ℕ) (b : Items) → Closed (remark f b) → Closed b
closed_unmarked f b h n r = sym (open_before f b r n) ∙ h n r
