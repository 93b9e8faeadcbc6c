use Rattle.std.proofs.Common.{◌∙◌}
use Rattle.c_typing.specs.Callees.{block_callees}
use Rattle.c_callees.proofs.CallingLemmas.{called-all}
use Rattle.c_callees.proofs.statements.block_calls.Goals as goal

pub returns : goal.returns
returns c = c.in_ok-within_block.ensures
    ∙ called-all c.args.names.now c.args.found.now (block_callees c.args.block.now)
