-- The step from each kind of front.
use Rattle.std.proofs.Common.{◌≡◌, Bor, ℕ, Bool, true, false, List, Option, Ok, refl, sym, ap, ◌∙◌}
use Rattle.fore_base.specs.declared.shape.Shape.{Shape}
use Rattle.fore_base.specs.declared.store.Store.{Store}
use Rattle.fore_base.specs.Stores.{kill}
use Rattle.c_types.specs.declared.mode.MallocMode.{MallocMode}
use Rattle.c_types.specs.declared.program.Act.{Act}
use Rattle.c_types.specs.declared.program.Atom.{Atom}
use Rattle.c_types.specs.declared.program.VarRef.{VarRef}
use Rattle.c_types.specs.declared.program.Arg.{Arg}
use Rattle.c_types.specs.declared.program.Dest.{Dest}
use Rattle.c_types.specs.declared.program.Func.{Func}
use Rattle.c_types.specs.Control.{Items, Do, Close, Ask, Enter, Leave, Exit, ◌then◌, from_exit, opened}
use Rattle.c_types.specs.Steps.{Turn, settle, settled, act_turn, test_turn, turn_of, atom_of, enter, leave, exit}
use Rattle.c_types.proofs.Turns.{then_done}
use Rattle.c_machine.specs.declared.items.Front.{Front}
use Rattle.c_machine.specs.declared.items.Front.TheVariants.{Act as FrontAct, Test as FrontTest, Truth}
use Rattle.c_machine.specs.declared.items.Front.TheVariants.{Close as FrontClose, Enter as FrontEnter}
use Rattle.c_machine.specs.declared.items.Front.TheVariants.{Leave as FrontLeave, Exit as FrontExit}
use Rattle.c_machine.specs.declared.items.Part.{Part}
use Rattle.c_machine.specs.declared.items.Sides.{Sides}
use Rattle.c_machine.specs.declared.items.Control.{Control}
use Rattle.c_machine.specs.declared.acting.Pace.{Pace}
use Rattle.c_machine.specs.declared.acting.Pace.TheVariants.{Goes as PaceGoes, Stops as PaceStops, Faults as PaceFaults}
use Rattle.c_machine.specs.inner.Acts.{turn_seen, TurnIs}
use Rattle.c_machine.specs.Pending.{Ways, way, ways_of, through, test_before, facing, left_of}

pub opened-Do : (a : Act) (m : ℕ) (r : Items) → opened (Do a m r) ≡ Do a m r
opened-Do a m r = ap (Do a m) (then_done r)

pub opened-Close : (ps ds : List ℕ) (m : ℕ) (r : Items) → opened (Close ps ds m r) ≡ Close ps ds m r
opened-Close ps ds m r = ap (Close ps ds m) (then_done r)

pub opened-Enter : (vs : List VarRef) (ws : List Arg) (m : ℕ) (r : Items) → opened (Enter vs ws m r) ≡ Enter vs ws m r
opened-Enter vs ws m r = ap (Enter vs ws m) (then_done r)

pub opened-Leave : (v : Option VarRef) (vs : List VarRef) (a : Option Arg) (m : ℕ) (r : Items)
    → opened (Leave v vs a m r) ≡ Leave v vs a m r
opened-Leave v vs a m r = ap (Leave v vs a m) (then_done r)

pub opened-Exit : (v : Option VarRef) (vs : List VarRef) (d : Option Dest) (m : ℕ) (r : Items)
    → opened (Exit v vs d m r) ≡ Exit v vs d m r
opened-Exit v vs d m r = ap (Exit v vs d m) (then_done r)

pub opened-Ask : (a : Atom) (m : ℕ) (w : Ways) (r : Items) → opened (test_before (Ask a m) w r)
    ≡ test_before (Ask a m) w r
opened-Ask a m w r = ap (test_before (Ask a m) w) (then_done r)

pub test_way : (b : Bool) (w : Ways) (r : Items) (s : Store) → test_turn (Ok b) w.when w.otherwise r s
    ≡ settle s (way b w then r)
test_way true w r s = refl
test_way false w r s = refl

pub ruleset fronts = (opened-Do, opened-Close, opened-Enter, opened-Leave, opened-Exit, opened-Ask)

comes : (t : Turn) (pace : Pace) (is : Items) (s : Store) (c : Control) → t ≡ turn_seen pace is s
    → left_of c ≡ opened is → TurnIs t pace c s
comes t PaceGoes is s c e left = (is, e, left)
comes t PaceStops is s c e left = e
comes t (PaceFaults kind) is s c e left = e

module _ (shapes : List Shape) (mode : MallocMode) (front : Front) (parts : List Part) (r : Items) (s : Store)
    (x : ℕ) where
  -- the step of an act
  pub act_comes : (a : Bor Act) (m : ℕ) (pace : Pace) (is : Items) (after : Store) (c : Control) → front ≡ FrontAct a m
      → act_turn shapes mode a.now r s x ≡ turn_seen pace is after → left_of c ≡ opened is
      → TurnIs (turn_of shapes mode (opened (facing front parts r)) s x) pace c after
  act_comes a m pace is after c at e left =
      comes (turn_of shapes mode (opened (facing front parts r)) s x) pace is after c
      (ap (λ f. turn_of shapes mode (opened (facing f parts r)) s x) at
      ∙ ap (λ is. act_turn shapes mode a.now is s x) (then_done r) ∙ e) left

  -- the step of a test with this outcome
  pub test_comes : (a : Bor Atom) (m : ℕ) (sides : Sides) (b : Bool) (pace : Pace) (c : Control)
      → front ≡ FrontTest a m sides → Ok b ≡ atom_of a.now s x → ((is : Items) → turn_seen pace is s ≡ settle s is)
      → left_of c ≡ opened (way b (through (ways_of sides) parts) then r)
      → TurnIs (turn_of shapes mode (opened (facing front parts r)) s x) pace c s
  test_comes a m sides b pace c at outcome settled left =
      let w : Ways = through (ways_of sides) parts in
      comes (turn_of shapes mode (opened (facing front parts r)) s x) pace (way b w then r) s c
      (ap (λ f. turn_of shapes mode (opened (facing f parts r)) s x) at
      ∙ ap (λ is. test_turn (atom_of a.now s x) w.when w.otherwise is s) (then_done r)
      ∙ ap (λ o. test_turn o w.when w.otherwise r s) (sym outcome)
      ∙ test_way b w r s
      ∙ sym (settled (way b w then r))) left

  pub truth_comes : (sides : Sides) (pace : Pace) (c : Control) → front ≡ Truth sides
      → ((is : Items) → turn_seen pace is s ≡ settle s is)
      → left_of c ≡ opened (way true (through (ways_of sides) parts) then r)
      → TurnIs (turn_of shapes mode (opened (facing front parts r)) s x) pace c s
  truth_comes sides pace c at settled left =
      let w : Ways = through (ways_of sides) parts in
      comes (turn_of shapes mode (opened (facing front parts r)) s x) pace (w.when then r) s c
      (ap (λ f. turn_of shapes mode (opened (facing f parts r)) s x) at
      ∙ ap (λ is. test_turn (Ok true) w.when w.otherwise is s) (then_done r)
      ∙ sym (settled (w.when then r))) left

  -- the step of a Close
  pub close_comes : (ps ds : Bor (List ℕ)) (m : ℕ) (pace : Pace) (after : Store) (c : Control)
      → front ≡ FrontClose ps ds m → after ≡ kill ps.now ds.now s
      → ((is : Items) → turn_seen pace is after ≡ settle after is) → left_of c ≡ opened r
      → TurnIs (turn_of shapes mode (opened (facing front parts r)) s x) pace c after
  close_comes ps ds m pace after c at dead settled left =
      comes (turn_of shapes mode (opened (facing front parts r)) s x) pace r after c
      (ap (λ f. turn_of shapes mode (opened (facing f parts r)) s x) at
      ∙ ap (λ is. settle (kill ps.now ds.now s) is) (then_done r)
      ∙ ap (λ (t : Store). settle t r) (sym dead)
      ∙ sym (settled r)) left

  -- the steps of a call
  pub enter_comes : (g : Bor Func) (ws : Bor (List Arg)) (m : ℕ) (pace : Pace) (after : Store) (c : Control)
      → front ≡ FrontEnter g ws m
      → ((is : Items) → settled (enter s g.now.params ws.now) is ≡ turn_seen pace is after) → left_of c ≡ opened r
      → TurnIs (turn_of shapes mode (opened (facing front parts r)) s x) pace c after
  enter_comes g ws m pace after c at done left =
      comes (turn_of shapes mode (opened (facing front parts r)) s x) pace r after c
      (ap (λ f. turn_of shapes mode (opened (facing f parts r)) s x) at
      ∙ ap (λ is. settled (enter s g.now.params ws.now) is) (then_done r) ∙ done r) left

  pub leave_comes : (g : Bor Func) (a : Bor (Option Arg)) (m : ℕ) (pace : Pace) (is : Items) (after : Store)
      (c : Control) → front ≡ FrontLeave g a m
      → settled (leave s g.now.result g.now.locals a.now) (from_exit r) ≡ turn_seen pace is after
      → left_of c ≡ opened is → TurnIs (turn_of shapes mode (opened (facing front parts r)) s x) pace c after
  leave_comes g a m pace is after c at done left =
      comes (turn_of shapes mode (opened (facing front parts r)) s x) pace is after c
      (ap (λ f. turn_of shapes mode (opened (facing f parts r)) s x) at
      ∙ ap (λ z. settled (leave s g.now.result g.now.locals a.now) (from_exit z)) (then_done r) ∙ done) left

  pub exit_comes : (g : Bor Func) (d : Bor (Option Dest)) (m : ℕ) (pace : Pace) (after : Store) (c : Control)
      → front ≡ FrontExit g d m
      → ((is : Items) → settled (exit s g.now.result g.now.params d.now) is ≡ turn_seen pace is after)
      → left_of c ≡ opened r → TurnIs (turn_of shapes mode (opened (facing front parts r)) s x) pace c after
  exit_comes g d m pace after c at done left =
      comes (turn_of shapes mode (opened (facing front parts r)) s x) pace r after c
      (ap (λ f. turn_of shapes mode (opened (facing f parts r)) s x) at
      ∙ ap (λ is. settled (exit s g.now.result g.now.params d.now) is) (then_done r) ∙ done r) left

pub ruleset turns = (opened-Do, opened-Close, opened-Ask, test_way)
