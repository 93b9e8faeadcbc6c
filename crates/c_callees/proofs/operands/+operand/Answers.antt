use Rattle.std.proofs.Common.{◌+◌, drop, map, sym, ap, ◌∙◌}
use Rattle.c_typing.specs.Callees.{operand_callees}
use Rattle.c_typing.specs.Texts.{joined}
use Rattle.c_callees.specs.inner.Calling.{called, called_one}
use Rattle.c_ast.specs.declared.operands.Call.{out-Call}
use Rattle.c_callees.proofs.CallingLemmas.{called-call, each_called, none_called}
use Rattle.c_callees.proofs.operands.«+operand».Goals as goal

pub operands_calls-loop-operand-preserved : goal.operands_calls-loop-operand-preserved
operands_calls-loop-operand-preserved t c =
    let names = c.args.names.now in
    let i = c.loop-operand.operand-index in
    ap (λ ns. called names ns (joined (map operand_callees (drop (i + 1) c.args.operands.now))))
    c.in_ok-operand_calls.ensures
    ∙ sym
    (each_called names operand_callees c.args.operands.now i c.loop-operand.found c.operand-item.result
    c.loop-operand-test.true
    c.operand-item.is)
    ∙ c.loop-operand.invariant

pub operands_calls-returns : goal.operands_calls-returns
operands_calls-returns t c =
    sym
    (none_called c.args.names.now operand_callees c.args.operands.now c.loop-operand.operand-index c.loop-operand.found
    c.loop-operand-test.false)
    ∙ c.loop-operand.invariant

pub call_calls-returns : goal.call_calls-returns
call_calls-returns t c =
    let call = c.args.call.now in
    c.in_ok-operands_calls.ensures
    ∙ ap (λ os. called c.args.names.now c.name_called.new.found (joined (map operand_callees os))) c.as_slice-2.ensures
    ∙ ap (λ ns. called c.args.names.now ns (joined (map operand_callees (out-Call call).operands)))
    (c.in_ok-name_called.ensures ∙ ap (called_one c.args.names.now c.args.found.now) c.as_slice.ensures)
    ∙ sym (called-call c.args.names.now c.args.found.now call)
