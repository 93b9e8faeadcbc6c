-- Each act's edges do what the act does.
use Rattle.std.proofs.Common.{◌≡◌, ℕ, Bool, true, false, Result, Ok, Err, List, [], ◌∷◌, length}
use Rattle.std.proofs.Common.{refl, sym, ap, ◌∙◌}
use Rattle.fore_base.specs.declared.fault.Fault.{Fault}
use Rattle.fore_base.specs.declared.shape.Shape.{Shape}
use Rattle.fore_base.specs.declared.store.Store.{Store}
use Rattle.fore_base.specs.Stores.{kill}
use Rattle.fore_base.specs.Heap.{leaks}
use Rattle.c_types.specs.declared.mode.MallocMode.{MallocMode}
use Rattle.c_types.specs.declared.program.Act.{Act}
use Rattle.c_types.specs.declared.program.Act.TheVariants.{SetPtr, SetData, Free, Error, Halt, Return, Break, Continue}
use Rattle.c_types.specs.declared.program.Act.TheVariants.{Leave as LeaveAct}
use Rattle.c_types.specs.Program.{Program, is_typed}
use Rattle.c_types.specs.Control.{Items, after_again, from_again, closed_ptrs, closed_datums}
use Rattle.c_types.specs.Steps.{Turn, Goes, Stops, Faults, look_at, assign, assign_data, free_path, all_dead}
use Rattle.c_types.specs.Steps.{settle, settled, finished, data_rhs_takes, act_turn}
use Rattle.c_types.specs.Fits.{ActFits}
use Rattle.c_types.proofs.Fitting.{Sound}
use Rattle.c_types.proofs.LeakTests.{look_keeps}
use Rattle.c_cfg.specs.declared.graph.Instr.TheVariants.{Kill, Stop}
use Rattle.c_cfg.specs.Edges.{Pass, Passed, Faulted, Halted, onto}
use Rattle.c_cfg.specs.Links.{Link, One, links_in, data_row, free_row, return_row, act_row}
use Rattle.c_cfg.specs.Lowering.{followed_by}
use Rattle.c_cfg.proofs.PlainLinks.{PlainAs, stays, set_data_plain, freed_plain, returned_plain}
use Rattle.c_cfg.proofs.Agree.Temporaries.{ext0, kill_ext0}
use Rattle.c_cfg.proofs.Agree.TempLeaks.{leaks_ext0}
use Rattle.c_cfg.proofs.Agree.Passing.{links_pass, settled_pass, done_pass, one_link}
use Rattle.c_cfg.proofs.Agree.PointerRows.{set_ptr_passes, free_passes}
use Rattle.c_cfg.proofs.Agree.DataRows.{set_data_passes, return_passes}

-- a turn as a pass; `stop` is the pass of a step that ends the run
abbrev pub turn_pass : Pass → Turn → Pass
turn_pass stop (Goes js t) = Passed (ext0 t)
turn_pass stop Stops = stop
turn_pass stop (Faults k) = Faulted k

pub settle_pass : (stop : Pass) (t : Store) (is : Items) → settled_pass t ≡ turn_pass stop (settle t is)
settle_pass stop t is = here (leaks t) refl
  where
    here : (b : Bool) → leaks t ≡ b → settled_pass t ≡ turn_pass stop (settle t is)
    here true leak = rw (leaks_ext0 t, leak) refl
    here false fine = rw (leaks_ext0 t, fine) refl

pub done_turn : (stop : Pass) (r : Result Store Fault) (is : Items) → done_pass r ≡ turn_pass stop (settled r is)
done_turn stop (Ok t) is = settle_pass stop t is
done_turn stop (Err k) is = refl

-- a `return` leads to the exit, with all variables dead
abbrev pub stop_of : Act → Store → Pass
stop_of (SetPtr to from) s = Halted
stop_of (SetData to from) s = Halted
stop_of (Free p) s = Halted
stop_of Error s = Halted
stop_of Halt s = Halted
stop_of (LeaveAct f value) s = Halted
stop_of (Return operand) s = Passed (ext0 (all_dead s))
stop_of Break s = Halted
stop_of Continue s = Halted

return_turn : (s : Store) (r : Result Store Fault) → ((t : Store) → r ≡ Ok t → s ≡ t)
    → onto r (λ t. settled_pass (all_dead t)) ≡ turn_pass (Passed (ext0 (all_dead s))) (finished r)
return_turn s (Err k) same = refl
return_turn s (Ok t) same = here (leaks (all_dead t)) refl
  where
    here : (b : Bool) → leaks (all_dead t) ≡ b → settled_pass (all_dead t)
        ≡ turn_pass (Passed (ext0 (all_dead s))) (finished (Ok t))
    here true leak = rw (leaks_ext0 (all_dead t), leak) refl
    here false fine = rw (leaks_ext0 (all_dead t), fine) (ap (λ u. Passed (ext0 (all_dead u))) (sym (same t refl)))

module _ (p : Program) (typed : is_typed p ≡ true) (choice : ℕ) (s : Store) (sound : Sound p s)
    (whole : leaks s ≡ false) where
  abbrev pass : List Link → Store → Pass
  pass ls g = links_pass p.shapes.structs choice ls g

  pub kill_passes : (ps ds : List ℕ) (stop : Pass) (is : Items) → pass (One (Kill ps ds) ∷ []) (ext0 s)
      ≡ turn_pass stop (settle (kill ps ds s) is)
  kill_passes ps ds stop is =
      one_link p.shapes.structs choice (Kill ps ds) (ext0 s) (kill ps ds s) (ap (λ g. Passed g) (kill_ext0 ps ds s))
      ∙ settle_pass stop (kill ps ds s) is

  module _ (mode : MallocMode) where
    -- links that stay
    plainly : (takes : Bool) (ls : List Link) → PlainAs takes ls → pass (links_in mode ls) (ext0 s) ≡ pass ls (ext0 s)
    plainly takes ls h = ap (λ ms. pass ms (ext0 s)) (stays mode takes ls h)

    pub act_passes : (a : Act) (is : Items) → ActFits p a
        → pass (links_in mode (act_row (length p.vars) (length p.data_vars) a is)) (ext0 s)
        ≡ turn_pass (stop_of a s) (act_turn p.shapes.structs mode a is s choice)
    act_passes (SetPtr to from) is fits = set_ptr_passes p typed choice s sound whole mode to from fits
        ∙ done_turn Halted (assign p.shapes.structs mode s to from choice) is
    act_passes (SetData to from) is fits =
        plainly (data_rhs_takes from) (data_row (length p.vars) (length p.data_vars) to from)
        (set_data_plain (length p.vars) (length p.data_vars) to from)
        ∙ set_data_passes p choice s sound whole to from fits
        ∙ done_turn Halted (assign_data s to from choice) is
    act_passes (Free q) is fits =
        plainly false (free_row (length p.vars) (length p.data_vars) q)
        (freed_plain (length p.vars) (length p.data_vars) q)
        ∙ free_passes p choice s sound whole q fits ∙ done_turn Halted (free_path s q) is
    act_passes Error is fits = plainly false (One (Stop true) ∷ []) ((refl, refl), tt)
    act_passes Halt is fits = plainly false (One (Stop false) ∷ []) ((refl, refl), tt)
    act_passes (LeaveAct f value) is fits = plainly false (One (Stop false) ∷ []) ((refl, refl), tt)
    act_passes (Return operand) is fits =
        plainly false (return_row (length p.vars) (length p.data_vars) operand)
        (returned_plain (length p.vars) (length p.data_vars) operand)
        ∙ return_passes p choice s sound whole operand fits
        ∙ return_turn s (look_at s operand) (look_keeps s operand)
    act_passes Break is fits = plainly false (One (Kill (closed_ptrs is) (closed_datums is)) ∷ []) ((refl, refl), tt)
        ∙ kill_passes (closed_ptrs is) (closed_datums is) Halted (after_again is)
    act_passes Continue is fits = plainly false (One (Kill (closed_ptrs is) (closed_datums is)) ∷ []) ((refl, refl), tt)
        ∙ kill_passes (closed_ptrs is) (closed_datums is) Halted (from_again is)

-- where a turn goes on, it goes on with these items, and with a store that does not leak
abbrev pub GoesTo : Items → Turn → Type 0
GoesTo is (Goes js t) = (js ≡ is) × (leaks t ≡ false)
GoesTo is Stops = Unit {0}
GoesTo is (Faults k) = Unit {0}

pub settle_to : (t : Store) (is : Items) → GoesTo is (settle t is)
settle_to t is = here (leaks t) refl
  where
    here : (b : Bool) → leaks t ≡ b → GoesTo is (settle t is)
    here true leak = rw leak tt
    here false fine = rw fine (refl, fine)

pub settled_to : (r : Result Store Fault) (is : Items) → GoesTo is (settled r is)
settled_to (Ok t) is = settle_to t is
settled_to (Err k) is = tt

finished_to : (r : Result Store Fault) (is : Items) → GoesTo is (finished r)
finished_to (Err k) is = tt
finished_to (Ok t) is = here (leaks (all_dead t)) refl
  where
    here : (b : Bool) → leaks (all_dead t) ≡ b → GoesTo is (finished (Ok t))
    here true leak = rw leak tt
    here false fine = rw fine tt

pub act_to : (shapes : List Shape) (mode : MallocMode) (a : Act) (is : Items) (s : Store) (x : ℕ)
    → GoesTo (followed_by a is) (act_turn shapes mode a is s x)
act_to shapes mode (SetPtr to from) is s x = settled_to (assign shapes mode s to from x) is
act_to shapes mode (SetData to from) is s x = settled_to (assign_data s to from x) is
act_to shapes mode (Free p) is s x = settled_to (free_path s p) is
act_to shapes mode (Return operand) is s x = finished_to (look_at s operand) _
act_to shapes mode Break is s x = settle_to (kill (closed_ptrs is) (closed_datums is) s) (after_again is)
act_to shapes mode Continue is s x = settle_to (kill (closed_ptrs is) (closed_datums is) s) (from_again is)
act_to shapes mode _ is s x = tt
