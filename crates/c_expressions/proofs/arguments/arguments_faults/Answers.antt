use Rattle.std.proofs.Common.{sym, ap, ◌∙◌}
use Rattle.std.specs.Prelude.{option_copied}
use Rattle.c_expressions.proofs.OperandLemmas.{arguments_step, arguments_none, arguments_end}
use Rattle.c_expressions.proofs.arguments.arguments_faults.Goals as goal

pub loop-number-preserved : goal.loop-number-preserved
loop-number-preserved c =
    arguments_step c.args.tables.now c.args.scope.now c.loop-number.found c.args.kinds.now c.args.operands.now
    c.loop-number.number _ c.in-Some.operand.now c.argument_faults.new.found c.loop-number-test.true
    (sym c.get.ensures.value ∙ ap option_copied c.in-Some.is) c.in_ok-argument_faults-in-Some.ensures
    ∙ c.loop-number.invariant

pub returns-in-None : goal.returns-in-None
returns-in-None c =
    let g = c.args.tables.now in
    sym
    (arguments_none g c.args.scope.now c.loop-number.found c.args.kinds.now c.args.operands.now c.loop-number.number
    (sym c.get.ensures.value ∙ ap option_copied c.in-None.is))
    ∙ c.loop-number.invariant

pub returns : goal.returns
returns c =
    let g = c.args.tables.now in
    sym
    (arguments_end g c.args.scope.now c.loop-number.found c.args.kinds.now c.args.operands.now c.loop-number.number
    c.loop-number-test.false)
    ∙ c.loop-number.invariant
