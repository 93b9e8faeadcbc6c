use Rattle.fix_engine.proofs.Rounding.{due_fits, due_is, images_are}
use Rattle.fix_engine.proofs.rounds.images_at.Goals as goal

pub images_of-requires-clause-normal : goal.images_of-requires-clause-normal
images_of-requires-clause-normal g c =
    let t = c.args.task.now in
    let nodes = c.args.nodes.now in
    let d = c.in_ok-due.due in
    let is = due_is nodes c.args.node d c.requires.inside c.in_ok-due.ensures in
    λ κs within. (due_fits t.table t.graph t.height nodes c.args.node d c.requires.explored c.known.ensures.edges
    c.known.ensures.entry is).0

pub images_of-requires-clause-location : goal.images_of-requires-clause-location
images_of-requires-clause-location g c =
    let t = c.args.task.now in
    let nodes = c.args.nodes.now in
    let d = c.in_ok-due.due in
    let is = due_is nodes c.args.node d c.requires.inside c.in_ok-due.ensures in
    λ κs within. (due_fits t.table t.graph t.height nodes c.args.node d c.requires.explored c.known.ensures.edges
    c.known.ensures.entry is).1

pub returns : goal.returns
returns g c =
    let t = c.args.task.now in
    let nodes = c.args.nodes.now in
    let d = c.in_ok-due.due in
    images_are t.table t.graph t.height nodes c.args.node d c.in_ok-images.images
    (due_is nodes c.args.node d c.requires.inside c.in_ok-due.ensures) c.in_ok-images.ensures
