use Rattle.std.proofs.Common.{◌+◌, ◌++◌, List, drop, sym, ap, ◌∙◌}
use Rattle.std.specs.Prelude.{option_copied}
use Rattle.c_types.specs.declared.program.Arg.{Arg}
use Rattle.c_typing.specs.Programs.{args_of}
use Rattle.c_making.proofs.CallLemmas.{args_step, args_none, args_end}
use Rattle.c_making.proofs.calling.args_of.Goals as goal

pub loop-number-preserved : goal.loop-number-preserved
loop-number-preserved c =
    let g = c.args.tables.now in
    let scope = c.args.scope.now in
    let i = c.loop-number.number in
    let ks = c.args.kinds.now in
    let os = c.args.operands.now in
    ap (λ (xs : List Arg). xs ++ args_of g scope (drop (i + 1) ks) (drop (i + 1) os)) c.in_ok-push-in-Some.ensures.ok
    ∙ args_step g scope ks os i _ c.in-Some.operand.now c.loop-number.args c.in_ok-arg-in-Some.arg
    c.loop-number-test.true (sym c.get.ensures.value ∙ ap option_copied c.in-Some.is) c.in_ok-arg-in-Some.ensures
    ∙ c.loop-number.invariant

pub returns-in-None : goal.returns-in-None
returns-in-None c =
    sym
    (args_none c.args.tables.now c.args.scope.now c.args.kinds.now c.args.operands.now c.loop-number.number
    c.loop-number.args (sym c.get.ensures.value ∙ ap option_copied c.in-None.is))
    ∙ c.loop-number.invariant

pub returns : goal.returns
returns c =
    sym
    (args_end c.args.tables.now c.args.scope.now c.args.kinds.now c.args.operands.now c.loop-number.number
    c.loop-number.args c.loop-number-test.false)
    ∙ c.loop-number.invariant
