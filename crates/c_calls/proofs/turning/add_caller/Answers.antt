use Rattle.std.proofs.Common.{◌∷◌, [], take, get_or}
use Rattle.std.proofs.lemmas.List.{take_more}
use Rattle.c_calls.proofs.Callers.{adds_more}
use Rattle.c_calls.proofs.turning.add_caller.Goals as goal

pub loop-function-preserved : goal.loop-function-preserved
loop-function-preserved c =
    rw (take_more c.args.called.now c.loop-function.function-index 0 c.loop-function-test.true)
    (adds_more c.args.caller (take c.loop-function.function-index c.args.called.now)
    (get_or c.args.called.now c.loop-function.function-index 0 ∷ []) c.args.callers.now c.loop-function.callers
    c.add_one.new.callers c.loop-function.invariant c.in_ok-add_one.ensures)
