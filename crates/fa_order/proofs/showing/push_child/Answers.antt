use Rattle.fa_order.proofs.FieldStates.{field_there, field_out}
use Rattle.fa_order.proofs.showing.push_child.Goals as goal

pub returns-else-place-children-clause-states : goal.returns-else-place-children-clause-states
returns-else-place-children-clause-states c =
    field_out c.args.made.now c.args.children.now c.args.place c.requires c.if-place-children.false

pub returns-in_ok-push-clause-states : goal.returns-in_ok-push-clause-states
returns-in_ok-push-clause-states c =
    rw c.in_ok-push.ensures.ok
    (field_there c.args.made.now c.args.children.now c.args.place c.if-place-children.true)
