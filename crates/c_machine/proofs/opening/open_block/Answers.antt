use Rattle.std.proofs.Common.{refl, ap}
use Rattle.c_types.specs.Control.{opened}
use Rattle.c_machine.specs.declared.items.Item.TheVariants.{Block}
use Rattle.c_machine.specs.Pending.{pending}
use Rattle.c_machine.proofs.Stacks.{block_none}
use Rattle.c_machine.proofs.opening.open_block.Goals as goal

pub returns-in-None-clause-left : goal.returns-in-None-clause-left
returns-in-None-clause-left c =
    ap opened
    (block_none (Block c.args.body) c.args.body (pending c.args.stack.now.items) refl c.in-None.ensures.cases)
