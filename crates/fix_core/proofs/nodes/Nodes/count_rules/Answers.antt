use Rattle.fix_core.proofs.HeldSteps.{forest_kept, place_inside}
use Rattle.fix_core.proofs.nodes.Nodes.count_rules.Goals as goal

pub at-requires : goal.at-requires
at-requires c =
    let held = c.self.inside.held in
    place_inside c.self.inside.face held.pool held.nodes c.args.self.now c.self.view_is c.args.node c.requires

pub count_rules-requires : goal.count_rules-requires
count_rules-requires c =
    rw c.as_slice.ensures
    (forest_kept c.self.inside.face c.self.inside.held c.self.invariant.1 c.args.node c.at.result.now c.at.ensures)
