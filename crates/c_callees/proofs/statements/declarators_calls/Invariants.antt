use Rattle.std.proofs.Common.{◌≡◌, drop}
use Rattle.c_typing.specs.Callees.{declarator_callees}
use Rattle.c_typing.specs.Texts.{each_of}
use Rattle.c_callees.specs.inner.Calling.{called}
use Rattle.c_callees.proofs.statements.declarators_calls.Given as goal

abbrev pub invariant-loop-var : goal.invariant-loop-var
invariant-loop-var l = called l.names l.found (each_of declarator_callees (drop l.var-index l.vars))
    ≡ called l.names l.initial.found (each_of declarator_callees l.vars)
