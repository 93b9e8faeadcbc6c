use Rattle.fix_core.proofs.HeldSteps.{alone, alone_few}
use Rattle.fix_core.proofs.Holding.{held_still}
use Rattle.fix_core.proofs.nodes.hold_one.Goals as goal

pub add-requires-clause-held : goal.add-requires-clause-held
add-requires-clause-held c =
    held_still c.args.node.now.state.face c.none-held.result c.keep.new.self c.keep.ensures.grows
    (c.none-held.ensures.held c.args.node.now.state.face)

pub add-requires-clause-few : goal.add-requires-clause-few
add-requires-clause-few c = alone_few c.none-held.result c.keep.new.self c.none-held.ensures.nodes c.keep.ensures.grows

pub returns : goal.returns
returns c =
    alone c.none-held.result c.keep.new.self c.add.new.self c.args.node.now c.none-held.ensures.nodes
    (c.none-held.ensures.held c.args.node.now.state.face) c.keep.ensures.grows c.in_ok-add.ensures.ok
