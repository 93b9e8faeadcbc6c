use Rattle.std.proofs.Common.{◌+◌, drop, sym, ap, ◌∙◌}
use Rattle.c_typing.specs.Callees.{declarator_callees}
use Rattle.c_typing.specs.Texts.{each_of}
use Rattle.c_callees.specs.inner.Calling.{called}
use Rattle.c_callees.proofs.CallingLemmas.{item_called, no_item_called}
use Rattle.c_callees.proofs.statements.declarators_calls.Goals as goal

pub loop-var-preserved : goal.loop-var-preserved
loop-var-preserved c =
    let names = c.args.names.now in
    let i = c.loop-var.var-index in
    ap (λ ns. called names ns (each_of declarator_callees (drop (i + 1) c.args.vars.now)))
    c.in_ok-declarator_calls.ensures
    ∙ sym
    (item_called names declarator_callees c.args.vars.now i c.loop-var.found c.var-item.result c.loop-var-test.true
    c.var-item.is)
    ∙ c.loop-var.invariant

pub returns : goal.returns
returns c =
    sym
    (no_item_called c.args.names.now declarator_callees c.args.vars.now c.loop-var.var-index c.loop-var.found
    c.loop-var-test.false) ∙ c.loop-var.invariant
