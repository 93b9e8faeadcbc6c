use Rattle.fix_core.specs.inner.Holding.{StaysHeld}
use Rattle.fix_core.proofs.HeldSteps.{added, any_err, not_added}
use Rattle.fix_core.proofs.Holding.{stays_held}
use Rattle.fix_core.proofs.held.Held.add.Goals as goal

pub returns-clause-ok : goal.returns-clause-ok
returns-clause-ok c =
    added c.args.state.now.face c.args.self.now c.hold.new.self c.push.new.self c.requires.held c.hold.ensures.grows
    c.push.result c.in_ok-node.node (record { head = c.args.head; state = c.args.state.now }) c.in_ok-node.ensures.node
    c.known.ensures c.requires.few c.push.ensures.ok

pub returns-clause-err : goal.returns-clause-err
returns-clause-err c =
    not_added c.args.state.now.face c.args.self.now c.hold.new.self c.push.new.self c.requires.held c.hold.ensures.grows
    c.push.result c.push.ensures.err

pub returns-in_err-node-clause-err : goal.returns-in_err-node-clause-err
returns-in_err-node-clause-err c =
    any_err c.from_residual.result (StaysHeld c.args.state.now.face c.args.self.now c.hold.new.self)
    (stays_held c.args.state.now.face c.args.self.now c.hold.new.self c.hold.ensures.grows c.requires.held)
