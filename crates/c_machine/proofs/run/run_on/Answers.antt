use Rattle.std.proofs.Common.{◌≡◌, ◌+◌, ◌-◌, ℕ, suc, List, drop, refl, sym, ap, ◌∙◌, arith}
use Rattle.fore_base.specs.declared.store.Store.{Store}
use Rattle.fore_base.specs.declared.shape.Shape.{Shape}
use Rattle.c_types.specs.Program.{Program}
use Rattle.c_machine.specs.Machines.{program_of, mode_of, todo, store_of}
use Rattle.c_machine.specs.inner.Going.{going}
use Rattle.c_machine.proofs.Goings.{same_going}
use Rattle.c_machine.proofs.run.run_on.Goals as goal

pub loop-step-init : goal.loop-step-init
loop-step-init c =
    let m = c.args.machine.now in
    let shapes = (program_of m).shapes.structs in
    record {
      goes = same_going shapes shapes (mode_of m) (mode_of m) c.args.limit (c.args.limit - 0) 0 (todo m) (todo m)
          (store_of m) (store_of m) c.args.choices.now 0 refl refl (omega arith) refl refl;
      over = c.requires.over;
      program = refl;
      mode = refl;
      next = omega (arith, c.requires.next);
      used = omega arith;
    }

pub loop-step-preserved : goal.loop-step-preserved
loop-step-preserved c =
    let first = c.args.machine.now in
    let p = program_of first in
    let m = c.loop-step.machine in
    let ready = c.reserve.new.self in
    let after = c.take_one.new.machine in
    let step = c.loop-step.step in
    let left : ℕ = c.args.limit - (step + 1) in
    let number : c.args.limit - step ≡ suc left = omega arith in
    let shapes : (program_of ready).shapes.structs ≡ p.shapes.structs =
    ap (λ (q : Program). q.shapes.structs) (c.reserve.ensures.program ∙ c.loop-step.invariant.program) in
    let mode : mode_of ready ≡ mode_of first = c.reserve.ensures.mode ∙ c.loop-step.invariant.mode in
    let reserved : (store_of ready).next ≡ (store_of m).next = ap (λ (t : Store). t.next) c.reserve.ensures.store in
    record {
      goes = c.loop-step.invariant.goes
          ∙ same_going p.shapes.structs (program_of ready).shapes.structs (mode_of first) (mode_of ready)
          (c.args.limit - step) (suc left) step (todo m) (todo ready) (store_of m) (store_of ready)
          (drop c.loop-step.used c.args.choices.now) c.loop-step.used
          (sym shapes) (sym mode) number (sym c.reserve.ensures.items) (sym c.reserve.ensures.store)
          ∙ c.in-Ok.ensures.goes left
          ∙ ap (λ (ss : List Shape).
          going ss (mode_of ready) left (step + 1) (todo after) (store_of after)
          (drop c.take_one.new.used c.args.choices.now) c.take_one.new.used) shapes
          ∙ ap (λ m'.
          going p.shapes.structs m' left (step + 1) (todo after) (store_of after)
          (drop c.take_one.new.used c.args.choices.now) c.take_one.new.used) mode;
      over = c.in-Ok.ensures.over;
      program = c.take_one.ensures.program ∙ c.reserve.ensures.program ∙ c.loop-step.invariant.program;
      mode = c.take_one.ensures.mode ∙ mode;
      next = omega (arith, c.take_one.ensures.next, reserved, c.loop-step.invariant.next);
      used = c.take_one.ensures.used;
    }
