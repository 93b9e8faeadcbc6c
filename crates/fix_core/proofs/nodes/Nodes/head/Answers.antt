use Rattle.std.proofs.Common.{ap}
use Rattle.fix_core.specs.declared.nodes.Node.{Node}
use Rattle.fix_core.proofs.HeldSteps.{node_is, place_inside}
use Rattle.fix_core.proofs.nodes.Nodes.head.Goals as goal

pub at-requires : goal.at-requires
at-requires c =
    let held = c.self.inside.held in
    place_inside c.self.inside.face held.pool held.nodes c.args.self.now c.self.view_is c.args.node c.requires

pub returns : goal.returns
returns c = λ n is.
    let held = c.self.inside.held in
    ap (λ (m : Node). m.head)
    (node_is c.self.inside.face held.pool held.nodes c.args.self.now c.self.view_is c.args.node c.at.result.now n
    c.at.ensures is)
