-- Items before nothing, and turns that end a run.
use Rattle.std.proofs.Common.{◌≡◌, Bool, true, false, Result, Ok, Err, refl, ap}
use Rattle.fore_base.specs.declared.fault.Fault.{Fault as Kind}
use Rattle.fore_base.specs.declared.fault.Fault.TheVariants.{Leak}
use Rattle.fore_base.specs.declared.store.Store.{Store}
use Rattle.fore_base.specs.Heap.{leaks}
use Rattle.c_types.specs.Control.{Items, Done, Do, Close, If, Loop, Again, DoLoop, DoAgain, Enter, Leave, Exit, ◌then◌}
use Rattle.c_types.specs.Steps.{Goes, Stops, Faults, finished, all_dead}

pub then_done : (is : Items) → is then Done ≡ is
then_done Done = refl
then_done (Do a m is) = ap (Do a m) (then_done is)
then_done (Close ps ds m is) = ap (Close ps ds m) (then_done is)
then_done (If c x y is) = ap (If c x y) (then_done is)
then_done (Loop c n b is) = ap (Loop c n b) (then_done is)
then_done (Again c n b is) = ap (Again c n b) (then_done is)
then_done (DoLoop c b is) = ap (DoLoop c b) (then_done is)
then_done (DoAgain c b is) = ap (DoAgain c b) (then_done is)
then_done (Enter vs ws m is) = ap (Enter vs ws m) (then_done is)
then_done (Leave v vs a m is) = ap (Leave v vs a m) (then_done is)
then_done (Exit v vs d m is) = ap (Exit v vs d m) (then_done is)

pub finished_stops : (r : Result Store Kind) (js : Items) (t : Store) → finished r ≡ Goes js t → ⊥
finished_stops (Err k) js t e = cc
finished_stops (Ok s) js t e = here (leaks (all_dead s)) refl
  where
    here : (b : Bool) → leaks (all_dead s) ≡ b → ⊥
    here true leak = let wrong : Faults Leak ≡ Goes js t = rw leak at e in cc
    here false fine = let wrong : Stops ≡ Goes js t = rw fine at e in cc
