use Rattle.fix_core.specs.Held.{node_of}
use Rattle.fix_core.proofs.HeldSteps.{forest_is, forest_kept, forest_sound, node_is, place_inside}
use Rattle.fix_core.proofs.nodes.Nodes.forest.Goals as goal

pub at-requires : goal.at-requires
at-requires c =
    let held = c.self.inside.held in
    place_inside c.self.inside.face held.pool held.nodes c.args.self.now c.self.view_is c.args.node c.requires

pub sound_of-requires-clause-kept : goal.sound_of-requires-clause-kept
sound_of-requires-clause-kept c =
    forest_kept c.self.inside.face c.self.inside.held c.self.invariant.1 c.args.node c.at.result.now c.at.ensures

pub sound_of-requires-clause-sound : goal.sound_of-requires-clause-sound
sound_of-requires-clause-sound c =
    forest_sound c.self.inside.face c.self.inside.held c.self.invariant.1 c.args.node c.at.result.now
    c.at.ensures

pub returns : goal.returns
returns c =
    let held = c.self.inside.held in
    forest_is c.sound_of.result c.args.self.now c.args.node (node_of c.self.inside.face held.pool c.at.result.now)
    (λ n is. node_is c.self.inside.face held.pool held.nodes c.args.self.now c.self.view_is c.args.node
    c.at.result.now n c.at.ensures is) c.sound_of.ensures.forest c.sound_of.ensures.face
