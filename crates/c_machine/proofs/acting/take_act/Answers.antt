use Rattle.std.proofs.Common.{◌≡◌, false, sym, ap, ◌∙◌}
use Rattle.c_types.specs.Control.{Items, after_again, from_again}
use Rattle.c_types.specs.Losses.{act_loses}
use Rattle.c_types.specs.Steps.{assign, assign_data, act_turn}
use Rattle.fore_base.specs.Heap.{leaks}
use Rattle.c_machine.specs.Pending.{pending, leaving}
use Rattle.c_machine.proofs.Kept.{act_kept, round_kept}
use Rattle.c_machine.proofs.acting.take_act.Goals as goal

pub settle-requires-clause-kept : goal.settle-requires-clause-kept
settle-requires-clause-kept c = λ h.
    let shapes = c.args.shapes.now in
    let s = c.args.heap.now in
    let act = c.args.act.now in
    let is : Items = pending c.args.stack.now.items in
    let none : act_loses act is s ≡ false = sym (ap (λ xs. act_loses act (pending xs) s) c.as_slice.ensures.value)
    ∙ sym c.act_loses-lost.ensures ∙ h in
    act_kept shapes c.args.mode act is s c.args.choice c.assign-done.result
    (assign shapes c.args.mode s c.in-SetPtr.to c.in-SetPtr.from c.args.choice)
    c.assign-done.new.heap c.requires.unleaked
    c.assign-done.ensures.done (ap (λ a. act_turn shapes c.args.mode a is s c.args.choice) c.in-SetPtr.is) none

pub settle-requires-in-SetData-clause-kept : goal.settle-requires-in-SetData-clause-kept
settle-requires-in-SetData-clause-kept c = λ h.
    let shapes = c.args.shapes.now in
    let s = c.args.heap.now in
    let act = c.args.act.now in
    let is : Items = pending c.args.stack.now.items in
    let none : act_loses act is s ≡ false = sym (ap (λ xs. act_loses act (pending xs) s) c.as_slice.ensures.value)
    ∙ sym c.act_loses-lost.ensures ∙ h in
    act_kept shapes c.args.mode act is s c.args.choice c.assign_data-done.result
    (assign_data s c.in-SetData.to c.in-SetData.from c.args.choice) c.assign_data-done.new.heap
    c.requires.unleaked c.assign_data-done.ensures.done
    (ap (λ a. act_turn shapes c.args.mode a is s c.args.choice) c.in-SetData.is)
    none

pub settle-requires-in-Break-clause-kept : goal.settle-requires-in-Break-clause-kept
settle-requires-in-Break-clause-kept c = λ h.
    let shapes = c.args.shapes.now in
    let s = c.args.heap.now in
    let act = c.args.act.now in
    let is : Items = pending c.args.stack.now.items in
    let none : act_loses act is s ≡ false = sym (ap (λ xs. act_loses act (pending xs) s) c.as_slice.ensures.value)
    ∙ sym c.act_loses-lost.ensures ∙ h in
    ap leaks c.leave_round.ensures.store
    ∙ round_kept shapes c.args.mode act is s c.args.choice (leaving is s) (after_again is) c.requires.unleaked
    (ap (λ a. act_turn shapes c.args.mode a is s c.args.choice) c.in-Break.is) none

pub settle-requires-in-Continue-clause-kept : goal.settle-requires-in-Continue-clause-kept
settle-requires-in-Continue-clause-kept c = λ h.
    let shapes = c.args.shapes.now in
    let s = c.args.heap.now in
    let act = c.args.act.now in
    let is : Items = pending c.args.stack.now.items in
    let none : act_loses act is s ≡ false = sym (ap (λ xs. act_loses act (pending xs) s) c.as_slice.ensures.value)
    ∙ sym c.act_loses-lost.ensures ∙ h in
    ap leaks c.leave_round-in-Continue.ensures.store
    ∙ round_kept shapes c.args.mode act is s c.args.choice (leaving is s) (from_again is) c.requires.unleaked
    (ap (λ a. act_turn shapes c.args.mode a is s c.args.choice) c.in-Continue.is) none
