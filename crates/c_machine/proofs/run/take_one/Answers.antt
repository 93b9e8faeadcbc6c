use Rattle.std.proofs.Common.{◌≡◌, ◌+◌, ℕ, false, List, Some, drop, sym, ap, ◌∙◌}
use Rattle.c_types.specs.Steps.{turn_of, takes, mark_of}
use Rattle.c_types.specs.Runs.{supply, go, at_end, own_line}
use Rattle.c_machine.specs.declared.state.Turn.TheVariants.{Next, Fault}
use Rattle.c_machine.specs.Machines.{program_of, mode_of, todo, store_of, is_done, Stepped}
use Rattle.c_acts.specs.Choices.{chosen}
use Rattle.c_acts.specs.Choices.{or_none}
use Rattle.c_machine.proofs.Goings.{next_of, steps_on, turn_next, turn_fault, answered}
use Rattle.c_machine.proofs.run.take_one.Goals as goal

pub returns-in-Next-clause-goes : goal.returns-in-Next-clause-goes
returns-in-Next-clause-goes c = λ left.
    let old = c.args.machine.now in
    let shapes = (program_of old).shapes.structs in
    let mode = mode_of old in
    let is = todo old in
    let s = store_of old in
    let x : ℕ = or_none c.in_ok-choice.choice in
    let ds : List ℕ = drop c.supply.new.used c.args.choices.now in
    let more : is_done is ≡ false = sym c.is_done.ensures ∙ c.if-is_done.false in
    let given : chosen (takes mode is) c.in_ok-choice.choice ≡ Some x =
    ap (λ b. chosen b c.in_ok-choice.choice) (sym c.needs_choice.ensures) ∙ c.in_ok-choice.ensures.choice.0 in
    let took : Stepped (turn_of shapes mode is s x) old c.step.new.self Next =
    answered old c.step.new.self Next (takes mode is) c.in_ok-choice.choice x given
    (c.in-Next.ensures.step c.requires.over) in
    steps_on shapes mode left c.args.step is s (drop c.args.used.now c.args.choices.now) c.args.used.now more
    ∙ ap
    (λ b. supply b (drop c.args.used.now c.args.choices.now) (c.args.step + 1) c.args.used.now
    (next_of shapes mode left c.args.step is s)) (sym c.needs_choice.ensures)
    ∙ c.in_ok-choice.ensures.given (next_of shapes mode left c.args.step is s)
    ∙ turn_next shapes mode (turn_of shapes mode is s x) old c.step.new.self (mark_of is)
    (c.args.step + 1) left c.supply.new.used
    ds took

pub returns-in-Fault-clause-goes : goal.returns-in-Fault-clause-goes
returns-in-Fault-clause-goes c = λ left.
    let old = c.args.machine.now in
    let shapes = (program_of old).shapes.structs in
    let mode = mode_of old in
    let is = todo old in
    let s = store_of old in
    let x : ℕ = or_none c.in_ok-choice.choice in
    let ds : List ℕ = drop c.supply.new.used c.args.choices.now in
    let more : is_done is ≡ false = sym c.is_done.ensures ∙ c.if-is_done.false in
    let given : chosen (takes mode is) c.in_ok-choice.choice ≡ Some x =
    ap (λ b. chosen b c.in_ok-choice.choice) (sym c.needs_choice.ensures) ∙ c.in_ok-choice.ensures.choice.0 in
    let answer = Fault c.in-Fault.kind c.in-Fault.line in
    let took : Stepped (turn_of shapes mode is s x) old c.step.new.self answer =
    answered old c.step.new.self answer (takes mode is) c.in_ok-choice.choice x given
    (c.in-Fault.ensures.step c.requires.over) in
    steps_on shapes mode left c.args.step is s (drop c.args.used.now c.args.choices.now) c.args.used.now more
    ∙ ap
    (λ b. supply b (drop c.args.used.now c.args.choices.now) (c.args.step + 1) c.args.used.now
    (next_of shapes mode left c.args.step is s)) (sym c.needs_choice.ensures)
    ∙ c.in_ok-choice.ensures.given (next_of shapes mode left c.args.step is s)
    ∙ turn_fault shapes mode (turn_of shapes mode is s x) old c.step.new.self c.in-Fault.kind c.in-Fault.line
    (c.args.step + 1)
    (λ js t. go shapes mode own_line at_end left (c.args.step + 1) js t ds c.supply.new.used) took
