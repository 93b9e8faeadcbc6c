-- Where no cell has leaked, a step that takes no reference to a cell away leads to no leak.
use Rattle.std.proofs.Common.{◌≡◌, ℕ, Bool, true, false, ◌||◌, if◌then◌else◌, MatchResult, OnOk, Result, Ok, Err}
use Rattle.std.proofs.Common.{Option, List, []}
use Rattle.std.proofs.Common.{refl, sym, ap, ◌∙◌}
use Rattle.fore_base.specs.declared.fault.Fault.{Fault as Kind}
use Rattle.fore_base.specs.declared.fault.Fault.TheVariants.{Leak}
use Rattle.fore_base.specs.declared.shape.Shape.{Shape}
use Rattle.fore_base.specs.declared.store.Store.{Store}
use Rattle.fore_base.specs.Heap.{leaks}
use Rattle.fore_base.specs.Stores.{kill}
use Rattle.c_types.specs.declared.mode.MallocMode.{MallocMode}
use Rattle.c_types.specs.declared.mode.MallocMode.TheVariants.{Always}
use Rattle.c_types.specs.declared.program.Act.{Act}
use Rattle.c_types.specs.declared.program.VarRef.{VarRef}
use Rattle.c_types.specs.declared.program.Arg.{Arg}
use Rattle.c_types.specs.declared.program.Dest.{Dest}
use Rattle.c_types.specs.Control.{Items, Done, Do, Close, Enter, Leave, Exit, with_result}
use Rattle.c_types.specs.Steps.{Goes, Faults, settle, settled, act_turn, enter, leave, exit}
use Rattle.c_types.specs.Losses.{hold_cell, act_loses, vars_hold, to_loses}
use Rattle.c_types.specs.Runs.{empty_store}
use Rattle.c_types.proofs.LeakTests.{turn_sound}

-- a turn that is no leak comes from a store in which no cell has leaked
pub settle_kept : (t : Store) (is : Items) → (settle t is ≡ Faults Leak → ⊥) → leaks t ≡ false
settle_kept t is none = here (leaks t) refl
  where
    here : (b : Bool) → leaks t ≡ b → leaks t ≡ false
    here true leaked = absurd (none (ap (λ b. if b then Faults Leak else Goes is t) leaked))
    here false kept = kept

-- where no cell has leaked, the run goes on
pub settle_goes : (t : Store) (is : Items) → leaks t ≡ false → Goes is t ≡ settle t is
settle_goes t is kept = ap (λ b. if b then Faults Leak else Goes is t) (sym kept)

settled_kept : (done : Result Unit Kind) (r : Result Store Kind) (t : Store) (is : Items)
    → MatchResult done (λ _. r ≡ Ok t) (λ k. r ≡ Err k) → (settled r is ≡ Faults Leak → ⊥) → OnOk done (leaks t ≡ false)
settled_kept (Ok u) r t is e none = settle_kept t is (λ leaked. none (ap (λ x. settled x is) e ∙ leaked))
settled_kept (Err k) r t is e none = tt

module _ (shapes : List Shape) (mode : MallocMode) (a : Act) (is : Items) (s : Store) (x : ℕ) where
  -- what an act does, where it gives a store
  pub act_kept : (done : Result Unit Kind) (r : Result Store Kind) (t : Store) → leaks s ≡ false
      → MatchResult done (λ _. r ≡ Ok t) (λ k. r ≡ Err k) → act_turn shapes mode a is s x ≡ settled r is
      → act_loses a is s
      ≡ false → OnOk done (leaks t ≡ false)
  act_kept done r t sound e at none =
      settled_kept done r t is e (λ leaked. turn_sound shapes mode (Do a 0 is) s x none sound (at ∙ leaked))

  -- where a round is left
  pub round_kept : (t : Store) (js : Items) → leaks s ≡ false → act_turn shapes mode a is s x ≡ settle t js
      → act_loses a is s ≡ false → leaks t ≡ false
  round_kept t js sound at none =
      settle_kept t js (λ leaked. turn_sound shapes mode (Do a 0 is) s x none sound (at ∙ leaked))

-- the steps of a call
module _ (s : Store) (sound : leaks s ≡ false) where
  pub enter_kept : (vs : List VarRef) (ws : List Arg) (done : Result Unit Kind) (t : Store)
      → MatchResult done (λ _. enter s vs ws ≡ Ok t) (λ k. enter s vs ws ≡ Err k) → vars_hold s vs ≡ false
      → OnOk done (leaks t ≡ false)
  enter_kept vs ws done t e none =
      settled_kept done (enter s vs ws) t Done e
      (λ leaked. turn_sound [] Always (Enter vs ws 0 Done) s 0 none sound leaked)

  pub leave_kept : (v : Option VarRef) (vs : List VarRef) (a : Option Arg) (done : Result Unit Kind) (t : Store)
      → MatchResult done (λ _. leave s v vs a ≡ Ok t) (λ k. leave s v vs a ≡ Err k)
      → vars_hold s (with_result v vs) ≡ false → OnOk done (leaks t ≡ false)
  leave_kept v vs a done t e none =
      settled_kept done (leave s v vs a) t Done e
      (λ leaked. turn_sound [] Always (Leave v vs a 0 Done) s 0 none sound leaked)

  pub exit_kept : (v : Option VarRef) (vs : List VarRef) (d : Option Dest) (done : Result Unit Kind) (t : Store)
      → MatchResult done (λ _. exit s v vs d ≡ Ok t) (λ k. exit s v vs d ≡ Err k)
      → to_loses s d || vars_hold s (with_result v vs) ≡ false → OnOk done (leaks t ≡ false)
  exit_kept v vs d done t e none =
      settled_kept done (exit s v vs d) t Done e
      (λ leaked. turn_sound [] Always (Exit v vs d 0 Done) s 0 none sound leaked)

-- the end of a block
pub close_kept : (ps ds : List ℕ) (s : Store) → leaks s ≡ false → hold_cell s.vars ps ≡ false → leaks (kill ps ds s)
    ≡ false
close_kept ps ds s sound none =
    settle_kept (kill ps ds s) Done (λ leaked. turn_sound [] Always (Close ps ds 0 Done) s 0 none sound leaked)

-- a store without cells
pub empty_kept : (ptrs datums : ℕ) → leaks (empty_store ptrs datums) ≡ false
unfolding leaks
empty_kept ptrs datums = refl
